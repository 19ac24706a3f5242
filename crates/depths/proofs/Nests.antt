-- Piles by their outermost adapters.
use Rattle.std.proofs.Common.{◌≡◌, ℕ, zero, suc, ◌+◌, ◌-◌, ◌≤◌, Option, Some, None, nat_le, refl, arith, ap, sym, ◌∙◌}
use Rattle.std.proofs.lemmas.Bool.Decides.{nat_tests}
use Rattle.std.specs.Prelude.{if◌then◌else◌}
use Rattle.slave.specs.Meaning.{Meaning}
use Rattle.depths.specs.Beats.{beats_back}
use Rattle.depths.specs.Nested.{nested, over}

pub nested_none : (f : Meaning → Meaning) (m : Meaning) → nested f 0 m ≡ m
unfolding nested
nested_none f m = refl

pub nested_one : (f : Meaning → Meaning) (m : Meaning) → nested f 1 m ≡ f m
unfolding nested
nested_one f m = refl

pub nested_two : (f : Meaning → Meaning) (m : Meaning) → nested f 2 m ≡ f (f m)
unfolding nested
nested_two f m = refl

pub nested_three : (f : Meaning → Meaning) (n : ℕ) (m : Meaning) → 3 ≤ n → nested f n m ≡ nested f (n - 3) (f (f (f m)))
unfolding nested
nested_three f zero m h = absurd (omega arith)
nested_three f (suc zero) m h = absurd (omega arith)
nested_three f (suc (suc zero)) m h = absurd (omega arith)
nested_three f (suc (suc (suc n))) m h =
    let e : suc (suc (suc n)) - 3 ≡ n = omega arith in ap (λ k. nested f k (f (f (f m)))) (sym e)

-- three adapters more
pub over_three :
    (f : Meaning → Meaning) (most n : ℕ) (m m' m'' m''' : Meaning) (r : Option ℕ)
    → 3 ≤ n → m' ≡ f m → m'' ≡ f m' → m''' ≡ f m'' → r ≡ over most f (n - 3) m''' → r ≡ over (most + 3) f n m
over_three f most n m m' m'' m''' r h p q t e =
    let top : m''' ≡ f (f (f m)) = t ∙ ap f (q ∙ ap f p) in
    let same : nested f (n - 3) m''' ≡ nested f n m = ap (nested f (n - 3)) top ∙ sym (nested_three f n m h) in
    let room : nat_le (n - 3) most ≡ nat_le n (most + 3) = grind (arith, nat_tests) in
    e ∙ (λ i. if room i then Some (beats_back (same i) 8) else None)
