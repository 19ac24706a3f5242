-- The worst response of the puts since the last grant of a write.
use Rattle.std.proofs.Common.{◌≡◌, ℕ, ◌≤◌, true, false, ltb, ◌⊎◌, [], ◌∷◌, sym, refl, ap, subst, inl, inr, ⊎_elim, arith}
use Rattle.std.proofs.lemmas.Bool.{cases_Bool, ltb-true, ltb-false}
use Rattle.slave.specs.declared.response.Response.{Response}
use Rattle.slave.specs.declared.response.Response.TheVariants.{Okay}
use Rattle.slave.specs.declared.channels.Channel.TheVariants.{Write}
use Rattle.slave.specs.Lanes.{rank, worse}
use Rattle.history.specs.History.{Event, History, granting, moving, current}
use Rattle.slave.specs.Meaning.{Board}
use Rattle.history.specs.Bytes.{response_at, worst, EachPutSince, SomePutSince}
use Rattle.history.specs.Law.{WorstAgrees}

-- the worse of two is one of them, and neither is worse than it
worse_is : (a b : Response) → ((worse a b ≡ a) ⊎ (worse a b ≡ b)) × (rank a ≤ rank (worse a b)) × (rank b ≤ rank (worse a b))
worse_is a b =
    ⊎_elim (λ e. let w : worse a b ≡ b = rw e in let r = ap rank w in let l = ltb-true (rank a) (rank b) e in (inr w, omega arith, omega arith))
    (λ e. let w : worse a b ≡ a = rw e in let r = ap rank w in let l = ltb-false (rank a) (rank b) e in (inl w, omega arith, omega arith))
    (cases_Bool (ltb (rank a) (rank b)))

module _ (m : Board) where
  -- the response of a put
  abbrev went : Event → History → Response
  went x before = response_at m (current Write before) x.act

  -- an event that is no grant and no put leaves it
  pub worst_other : (x : Event) (h : History) → granting Write x ≡ false → moving Write x ≡ false → worst m (x ∷ h) ≡ worst m h
  unfolding worst
  worst_other x h g v = rw (g, v)

  -- a put counts
  pub worst_beat : (x : Event) (h : History) → granting Write x ≡ false → moving Write x ≡ true → worst m (x ∷ h) ≡ worse (worst m h) (went x h)
  unfolding worst
  worst_beat x h g v = rw (g, v)

  -- a grant of a write begins anew
  pub worst_grant : (x : Event) (h : History) → granting Write x ≡ true → worst m (x ∷ h) ≡ Okay
  unfolding worst
  worst_grant x h g = rw g

  -- one event more does not lower the worst before the next grant
  worst_grows : (x : Event) (h : History) → granting Write x ≡ false → rank (worst m h) ≤ rank (worst m (x ∷ h))
  worst_grows x h g = ⊎_elim
      (λ v. let e = ap rank (worst_beat x h g v) in let w = (worse_is (worst m h) (went x h)).1 in omega arith)
      (λ v. let e = ap rank (worst_other x h g v) in omega arith)
      (cases_Bool (moving Write x))

  -- no put since the last grant went worse than anything that is as bad as the worst
  bounded_by : (h : History) (n : ℕ) → rank (worst m h) ≤ n → EachPutSince (λ x before. rank (went x before) ≤ n) h
  bounded_by [] n l = tt
  bounded_by (x ∷ h) n l = λ g. (
    λ v. let e = ap rank (worst_beat x h g v) in let w = (worse_is (worst m h) (went x h)).2 in omega arith,
    bounded_by h n (let w = worst_grows x h g in omega arith),
  )

  -- the worst is OKAY or that of a put
  met_by : (h : History) → (worst m h ≡ Okay) ⊎ SomePutSince (λ x before. went x before ≡ worst m h) h
  unfolding worst
  met_by [] = inl refl
  met_by (x ∷ h) = go (cases_Bool (granting Write x)) (cases_Bool (moving Write x)) (met_by h)
    where
      Before : Response → Type 0
      Before r = (worst m h ≡ Okay) ⊎ SomePutSince (λ y before. went y before ≡ r) h

      Now : Response → Type 0
      Now r = (r ≡ Okay) ⊎ SomePutSince (λ y before. went y before ≡ r) (x ∷ h)

      kept : granting Write x ≡ false → Before (worst m h) → Now (worst m h)
      kept g (inl o) = inl o
      kept g (inr p) = inr (g, inr p)

      put : granting Write x ≡ false → moving Write x ≡ true → Before (worst m h) → (worse (worst m h) (went x h) ≡ worst m h) ⊎ (worse (worst m h) (went x h) ≡ went x h) → Now (worse (worst m h) (went x h))
      put g v b (inl e) = subst Now (sym e) (kept g b)
      put g v b (inr e) = inr (g, inl (v, sym e))

      go : (granting Write x ≡ true) ⊎ (granting Write x ≡ false) → (moving Write x ≡ true) ⊎ (moving Write x ≡ false) → Before (worst m h) → Now (worst m (x ∷ h))
      go (inl g) v b = inl (worst_grant x h g)
      go (inr g) (inl v) b = subst Now (sym (worst_beat x h g v)) (put g v b (worse_is (worst m h) (went x h)).0)
      go (inr g) (inr v) b = subst Now (sym (worst_other x h g v)) (kept g b)

-- both ways to say it agree
pub worst_agrees : (m : Board) (h : History) → WorstAgrees m h
worst_agrees m h = record { none_worse = bounded_by m h (rank (worst m h)) (omega arith); one_so = met_by m h }
