use Rattle.std.proofs.Common.{rules, ◌≡◌, ◌<◌, true, false, refl}
use borrow.Author.Tests.{tests}
use Rattle.std.proofs.lemmas.Iterator.{cases_from_any, YieldsList-from_range}
use Rattle.burst.proofs.Masks.{any_found}
use Rattle.burst.proofs.lanes.any_lane.Goals as goal

pub returns : goal.returns
returns g c = λ p h.
    any_found p c.any.result (cases_from_any _ _ _ (λ x. x < 8 → p x ≡ true) (λ x. x < 8 → p x ≡ false) c.any.ensures.ran (YieldsList-from_range 0 8 8 refl refl) (λ x q k l. search (rules, tests)) (λ x q k. (search (rules, tests), λ l. search (rules, tests))))
