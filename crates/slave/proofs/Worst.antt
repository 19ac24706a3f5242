-- The worst of several responses.
use Rattle.std.proofs.Common.{◌≡◌, ℕ, zero, suc, ◌+◌, ◌<◌, refl, ap, ◌∙◌, add-one, arith}
use Rattle.slave.specs.declared.response.Response.{Response}
use Rattle.slave.specs.declared.response.Response.TheVariants.{Okay, SlvErr, DecErr}
use Rattle.slave.specs.Lanes.{worse, worst_lane}

-- one lane more
pub worst_more : (f : ℕ → Response) (i : ℕ) (a b r : Response) → a ≡ worst_lane f i → b ≡ f i → r ≡ worse a b → r ≡ worst_lane f (i + 1)
unfolding worst_lane
worst_more f i a b r e h k = rw add-one (k ∙ ap (λ x. worse x b) e ∙ ap (λ x. worse (worst_lane f i) x) h)

-- OKAY is the least response
pub worse_left : (r : Response) → worse r Okay ≡ r
worse_left Okay = refl
worse_left SlvErr = refl
worse_left DecErr = refl

pub worse_right : (r : Response) → worse Okay r ≡ r
worse_right Okay = refl
worse_right SlvErr = refl
worse_right DecErr = refl

-- the worst of three, however they are grouped
pub worse_assoc : (a b c : Response) → worse a (worse b c) ≡ worse (worse a b) c
worse_assoc Okay Okay c = elim c as (λ c. worse Okay (worse Okay c) ≡ worse (worse Okay Okay) c) [ Okay ↦ refl | SlvErr ↦ refl | DecErr ↦ refl ]
worse_assoc Okay SlvErr c = elim c as (λ c. worse Okay (worse SlvErr c) ≡ worse (worse Okay SlvErr) c) [ Okay ↦ refl | SlvErr ↦ refl | DecErr ↦ refl ]
worse_assoc Okay DecErr c = elim c as (λ c. worse Okay (worse DecErr c) ≡ worse (worse Okay DecErr) c) [ Okay ↦ refl | SlvErr ↦ refl | DecErr ↦ refl ]
worse_assoc SlvErr Okay c = elim c as (λ c. worse SlvErr (worse Okay c) ≡ worse (worse SlvErr Okay) c) [ Okay ↦ refl | SlvErr ↦ refl | DecErr ↦ refl ]
worse_assoc SlvErr SlvErr c = elim c as (λ c. worse SlvErr (worse SlvErr c) ≡ worse (worse SlvErr SlvErr) c) [ Okay ↦ refl | SlvErr ↦ refl | DecErr ↦ refl ]
worse_assoc SlvErr DecErr c = elim c as (λ c. worse SlvErr (worse DecErr c) ≡ worse (worse SlvErr DecErr) c) [ Okay ↦ refl | SlvErr ↦ refl | DecErr ↦ refl ]
worse_assoc DecErr Okay c = elim c as (λ c. worse DecErr (worse Okay c) ≡ worse (worse DecErr Okay) c) [ Okay ↦ refl | SlvErr ↦ refl | DecErr ↦ refl ]
worse_assoc DecErr SlvErr c = elim c as (λ c. worse DecErr (worse SlvErr c) ≡ worse (worse DecErr SlvErr) c) [ Okay ↦ refl | SlvErr ↦ refl | DecErr ↦ refl ]
worse_assoc DecErr DecErr c = elim c as (λ c. worse DecErr (worse DecErr c) ≡ worse (worse DecErr DecErr) c) [ Okay ↦ refl | SlvErr ↦ refl | DecErr ↦ refl ]

-- where every lane is OKAY, so is the worst
pub all_okay : (f : ℕ → Response) (n : ℕ) → ((i : ℕ) → i < n → f i ≡ Okay) → worst_lane f n ≡ Okay
unfolding worst_lane
all_okay f zero h = refl
all_okay f (suc n) h = ap (λ r. worse r (f n)) (all_okay f n (λ i l. h i (omega arith))) ∙ worse_right (f n) ∙ h n (omega arith)

-- equal lanes have an equal worst
pub worst_same : (f g : ℕ → Response) (n : ℕ) → ((i : ℕ) → i < n → f i ≡ g i) → worst_lane f n ≡ worst_lane g n
unfolding worst_lane
worst_same f g zero h = refl
worst_same f g (suc n) h = ap (λ r. worse r (f n)) (worst_same f g n (λ i l. h i (omega arith))) ∙ ap (worse (worst_lane g n)) (h n (omega arith))
