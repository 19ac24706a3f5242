-- The worst of a part of a beat, joined with that of the next part.
use Rattle.std.specs.Prelude.{◌≡◌, ℕ, zero, suc, ◌+◌, ◌-◌, ◌<◌, ◌≤◌, true, cond, ◌==◌, nat_le, nat_lt, refl}
use Rattle.std.proofs.Common.{arith, sym, ◌∙◌, ap, subst, ⊎_elim}
use Rattle.std.proofs.lemmas.Bool.{cases_lt, cond_both, cond-true, and_parts, leb-true, ltb-true}
use Rattle.std.proofs.lemmas.Bool.Decides.{nat_tests}
use Rattle.slave.specs.declared.response.Response.{Response}
use Rattle.slave.specs.declared.response.Response.TheVariants.{Okay, SlvErr, DecErr}
use Rattle.slave.specs.Lanes.{rank, worse, worst_lane}
use Rattle.burst.specs.Beats.{covers}
use Rattle.converter.proofs.Spans.{spans, span_worst}

-- the response with a number
named : ℕ → Response
named n = cond (n == 0) Okay (cond (n == 2) SlvErr DecErr)

-- and its number again
back : (r : Response) → named (rank r) ≡ r
unfolding named
back Okay = refl
back SlvErr = refl
back DecErr = refl

-- responses that are no worse than each other are the same
rank_same : (a b : Response) → rank a ≤ rank b → rank b ≤ rank a → a ≡ b
rank_same a b p q = sym (back a) ∙ ap named (let e : rank a ≡ rank b = omega arith in e) ∙ back b

-- the worse of two is the least that bounds both
worse_le : (a b : Response) (r : ℕ) → rank a ≤ r → rank b ≤ r → rank (worse a b) ≤ r
worse_le a b r p q = cond_both (nat_lt (rank a) (rank b)) b a (λ x. rank x ≤ r) (λ _. q) (λ _. p)

-- the worse of two is no better than each
worse_l : (a b : Response) → rank a ≤ rank (worse a b)
worse_l a b = cond_both (nat_lt (rank a) (rank b)) b a (λ x. rank a ≤ rank x) (λ e. omega (arith, ltb-true (rank a) (rank b) e)) (λ _. omega arith)

worse_r : (a b : Response) → rank b ≤ rank (worse a b)
worse_r a b = cond_both (nat_lt (rank a) (rank b)) b a (λ x. rank b ≤ rank x) (λ _. omega arith) (λ e. grind (arith, nat_tests))

-- the worst of some lanes is the least that bounds them all
worst_le : (f : ℕ → Response) (n r : ℕ) → ((i : ℕ) → i < n → rank (f i) ≤ r) → rank (worst_lane f n) ≤ r
unfolding worst_lane
worst_le f zero r h = omega arith
worst_le f (suc n) r h = worse_le (worst_lane f n) (f n) r (worst_le f n r (λ i l. h i (omega arith))) (h n (omega arith))

-- no lane is worse than the worst
lane_le : (f : ℕ → Response) (n i : ℕ) → i < n → rank (f i) ≤ rank (worst_lane f n)
unfolding worst_lane
lane_le f zero i l = absurd (omega arith)
lane_le f (suc n) i l =
    ⊎_elim (λ lt. let p = lane_le f n i lt in omega (arith, p, worse_l (worst_lane f n) (f n)))
    (λ ge. let e : i ≡ n = omega arith in subst (λ x. rank (f x) ≤ rank (worse (worst_lane f n) (f n))) (sym e) (worse_r (worst_lane f n) (f n))) (cases_lt i n)

-- from f up to past l is from f to l
pub same_cover : (f l x : ℕ) → spans f (l + 1) x ≡ covers f l x
same_cover f l x = grind (arith, nat_tests)

-- the same of a part of a beat
pub span_le : (g : ℕ → Response) (base f a r : ℕ) → ((x : ℕ) → f ≤ x → x < a → rank (g x) ≤ r) → rank (span_worst g base f a) ≤ r
span_le g base f a r h =
    worst_le (λ i. cond (spans f a (base + i)) (g (base + i)) Okay) 8 r
    (λ i _. cond_both (spans f a (base + i)) (g (base + i)) Okay (λ x. rank x ≤ r)
    (λ t. let p = and_parts (nat_le f (base + i)) (nat_lt (base + i) a) t in h (base + i) (leb-true f (base + i) p.0) (ltb-true (base + i) a p.1))
    (λ _. omega arith))

-- no byte of a part is worse than the part's worst
pub span_in : (g : ℕ → Response) (base f a x : ℕ) → base ≤ f → a ≤ base + 8 → f ≤ x → x < a → rank (g x) ≤ rank (span_worst g base f a)
span_in g base f a x bf a8 fx xa =
    let i : ℕ = x - base in
    let e : base + (x - base) ≡ x = omega arith in
    let i8 : x - base < 8 = omega arith in
    let t : spans f a (base + (x - base)) ≡ true = grind (arith, nat_tests) in
    let p : rank (cond (spans f a (base + (x - base))) (g (base + (x - base))) Okay) ≤ rank (span_worst g base f a) =
    lane_le (λ i. cond (spans f a (base + i)) (g (base + i)) Okay) 8 (x - base) i8 in
    subst (λ y. rank (g y) ≤ rank (span_worst g base f a)) e
    (subst (λ r. rank r ≤ rank (span_worst g base f a)) (cond-true (spans f a (base + (x - base))) (g (base + (x - base))) Okay t) p)

-- two parts that follow each other
pub span_join : (g : ℕ → Response) (base low f a e : ℕ) → f ≤ a → a ≤ e → base ≤ f → e ≤ base + 8 → low ≤ a → e ≤ low + 8
    → worse (span_worst g base f a) (span_worst g low a e) ≡ span_worst g base f e
span_join g base low f a e fa ae bf e8 la l8 =
    rank_same (worse (span_worst g base f a) (span_worst g low a e)) (span_worst g base f e)
    (worse_le (span_worst g base f a) (span_worst g low a e) (rank (span_worst g base f e))
    (span_le g base f a (rank (span_worst g base f e)) (λ x p q. span_in g base f e x bf e8 p (omega arith)))
    (span_le g low a e (rank (span_worst g base f e)) (λ x p q. span_in g base f e x bf e8 (omega arith) q)))
    (span_le g base f e (rank (worse (span_worst g base f a) (span_worst g low a e)))
    (λ x p q. ⊎_elim
    (λ lt. omega (arith, span_in g base f a x bf (omega arith) p lt, worse_l (span_worst g base f a) (span_worst g low a e)))
    (λ ge. omega (arith, span_in g low a e x la l8 ge q, worse_r (span_worst g base f a) (span_worst g low a e)))
    (cases_lt x a)))

-- no byte, no response
pub span_none : (g : ℕ → Response) (base f : ℕ) → Okay ≡ span_worst g base f f
span_none g base f = rank_same Okay (span_worst g base f f) (omega arith) (span_le g base f f 0 (λ x p q. absurd (omega arith)))
