-- What `extend` leaves when it is passed a chain.
use Rattle.std.proofs.Common.{◌≡◌, ℕ, List, Option, Result, Ok, Err, OnOk, OnErr, MatchResult, length, take, sym, subst, ◌∙◌}
use Rattle.std.specs.Iterator.{Drains, Yields}
use Rattle.std.proofs.lemmas.List.{map-id}
use Rattle.std.proofs.lemmas.Iterator.{YieldsList}
use Rattle.std.proofs.lemmas.Iterator.Adapters.{items_from_extend}
use Rattle.std.proofs.lemmas.Iterator.Consumers.{YieldsList-at, YieldsList-so_far}

-- all of the chain's items have been added, or the first few where there is no memory
pub added_by_extend : {S A E : Type 0} {steps : S → Option A → S → Type 0} {all : List A} {P : List A → Type 0} {s : S} (r : Result (Unit {0}) E)
    → ((it : S) × (xs : List A) × (it ≡ s) × P xs × MatchResult r (λ _. Drains steps it xs) (λ _. (t : S) × Yields steps it xs t))
    → YieldsList steps (λ x. x) s all → OnOk r (P all) × OnErr r ((k : ℕ) × P (take k all))
added_by_extend {E = E} (Ok u) ran road = (items_from_extend {E = E} (Ok u) ran road, tt)
added_by_extend {P = P} (Err e) ran road =
    (tt, (length ran.1, subst P (sym (map-id ran.1) ∙ YieldsList-so_far (YieldsList-at ran.2 road) ran.1 ran.4.0 ran.4.1) ran.3))
