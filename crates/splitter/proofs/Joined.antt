-- The runs of a burst, joined, are its beats in order; no run is refused; and one split worked out.
use Rattle.std.specs.Prelude.{◌≡◌, ℕ, zero, suc, ◌+◌, ◌-◌, ◌<◌, ◌≤◌, ◌∷◌, ◌++◌, refl}
use native.Mathlib.Omega.{arith}
use Rattle.std.proofs.Common.{add-zero, zero-add, sym, ◌∙◌, subst}
use Rattle.std.proofs.Math.Path.{ap}
use Rattle.std.proofs.Math.Logic.{⊎_elim}
use Rattle.std.proofs.lemmas.Bool.{cases_lt, lt-ltb, le-ltb}
use Rattle.burst.specs.declared.cover.Cover.{Cover}
use Rattle.burst.specs.declared.raw.RawBurst.{RawBurst}
use Rattle.burst.specs.Beats.{IsLawful, address_of, cover_of}
use Rattle.slave.proofs.Calls.{short_incr, open_taken}
use Rattle.splitter.specs.Runs.{part_first, part_end, run_first, run_of, beat_in, runs_from, runs, beats_from, beats, joined}
use Rattle.splitter.specs.Laws.{RunStands, RunsStand, WorkedSplit}
use Rattle.splitter.proofs.Walks.{cover_same, run_base, run_has, run_short, run_walk, run_inside, run_size, run_cover, run_lawful, next_run, next_beat, next_left, next_new}

-- the worked split
pub worked : WorkedSplit
unfolding runs_from run_of run_first part_first part_end address_of
worked = refl

beats-++ : (b : RawBurst) (j c d : ℕ) → beats_from b j c ++ beats_from b (j + c) d ≡ beats_from b j (c + d)
unfolding beats_from
beats-++ b j zero d = ap (λ x. beats_from b x d) (add-zero j) ∙ ap (beats_from b j) (sym (zero-add d))
beats-++ b j (suc c) d =
    let next : j + suc c ≡ j + 1 + c = omega arith in
    let count : suc (c + d) ≡ suc c + d = omega arith in
    let rest = beats-++ b (j + 1) c d in
    cc

-- two bursts with the same size and addresses cover the same
beats_same : (b r : RawBurst) (k j c : ℕ) → r.size ≡ b.size → ((i : ℕ) → i < c → address_of r (k + i) ≡ address_of b (j + i)) → beats_from r k c ≡ beats_from b j c
unfolding beats_from
beats_same b r k j zero s h = refl
beats_same b r k j (suc c) s h =
    let a : address_of r k ≡ address_of b j = ap (address_of r) (sym (add-zero k)) ∙ h 0 (omega arith) ∙ ap (address_of b) (add-zero j) in
    ap (λ x. x ∷ beats_from r (k + 1) c) (cover_same r b k j s a)
    ∙ ap (λ l. cover_of b j ∷ l)
    (beats_same b r (k + 1) (j + 1) c s (λ i l. ap (address_of r) (let e : k + 1 + i ≡ k + (i + 1) = omega arith in e) ∙ h (i + 1) (omega arith) ∙ ap (address_of b) (let e : j + (i + 1) ≡ j + 1 + i = omega arith in e)))

module _ (M : ℕ) (b : RawBurst) (lawful : IsLawful 8 b) (some : 0 < M) where
  -- the beats of the run that begins at beat j
  pub record Within (j i : ℕ) : Type 0 where
    pub left : j + i < b.count
    pub run : run_of M b (j + i) ≡ run_of M b j
    pub beat : beat_in M b (j + i) ≡ i

  in_run : (j i : ℕ) → j < b.count → beat_in M b j ≡ 0 → i < (run_of M b j).count → Within j i
  in_run j zero h z l = record { left = omega arith; run = ap (run_of M b) (add-zero j); beat = ap (beat_in M b) (add-zero j) ∙ z }
  in_run j (suc i) h z l =
      let w = in_run j i h z (omega arith) in
      let e : j + suc i ≡ j + i + 1 = omega arith in
      let c : (run_of M b (j + i)).count ≡ (run_of M b j).count = ap (λ r. r.count) w.run in
      let lt : beat_in M b (j + i) + 1 < (run_of M b (j + i)).count = omega (arith, w.beat) in
      record {
        left = subst (λ x. x < b.count) (sym e) (next_left M b (j + i) lawful some w.left lt);
        run = ap (run_of M b) e ∙ next_run M b (j + i) lawful some w.left lt ∙ w.run;
        beat = ap (beat_in M b) e ∙ next_beat M b (j + i) lawful some w.left lt ∙ (let x : beat_in M b (j + i) + 1 ≡ suc i = omega (arith, w.beat) in x);
      }

  -- the run after it begins at its end
  next_start : (j : ℕ) → j < b.count → beat_in M b j ≡ 0 → j + (run_of M b j).count < b.count → beat_in M b (j + (run_of M b j).count) ≡ 0
  next_start j h z u =
      let has = run_has M b j lawful some h in
      let i : ℕ = (run_of M b j).count - 1 in
      let w = in_run j i h z (omega arith) in
      let e : j + (run_of M b j).count ≡ j + i + 1 = omega arith in
      let c : (run_of M b (j + i)).count ≡ (run_of M b j).count = ap (λ r. r.count) w.run in
      ap (beat_in M b) e ∙ next_new M b (j + i) lawful some w.left (omega (arith, w.beat)) (omega arith)

  run_beats : (j : ℕ) → j < b.count → beat_in M b j ≡ 0 → beats (run_of M b j) ≡ beats_from b j (run_of M b j).count
  run_beats j h z =
      let base : run_first M b j ≡ j = omega (arith, run_base M b j lawful some h) in
      beats_same b (run_of M b j) 0 j (run_of M b j).count (run_size M b j lawful some h)
      (λ i l. ap (address_of (run_of M b j)) (zero-add i) ∙ run_walk M b j lawful some h i l ∙ ap (λ x. address_of b (x + i)) base)

  from_start : (f j : ℕ) → b.count ≤ j + f → j ≤ b.count → (j < b.count → beat_in M b j ≡ 0) → joined (runs_from f M b j) ≡ beats_from b j (b.count - j)
  unfolding joined runs_from beats_from
  from_start zero j e l z = ap (beats_from b j) (let x : 0 ≡ b.count - j = omega arith in x)
  from_start (suc f) j e l z =
      ⊎_elim
      (λ lt. let c : ℕ = (run_of M b j).count in
      let has = run_has M b j lawful some lt in
      let inside : j + c ≤ b.count = omega (arith, run_inside M b j lawful some lt, run_base M b j lawful some lt, z lt) in
      let test = lt-ltb j b.count lt in
      let run = run_beats j lt (z lt) in
      let rest = from_start f (j + c) (omega arith) inside (λ u. next_start j lt (z lt) u) in
      let both = beats-++ b j c (b.count - (j + c)) in
      let count : c + (b.count - (j + c)) ≡ b.count - j = omega arith in
      cc)
      (λ ge. let test = le-ltb j b.count ge in let none : 0 ≡ b.count - j = omega arith in cc)
      (cases_lt j b.count)

  -- the runs of a burst, joined, are its beats in order
  pub runs_join : joined (runs M b) ≡ beats b
  runs_join =
      let all = from_start b.count 0 (omega arith) (omega arith) (λ h. omega (arith, run_base M b 0 lawful some h)) in
      let count : b.count - 0 ≡ b.count = omega arith in
      cc

-- every run is an INCR burst that the slave below takes, with the beat that it is for
incr_is : (M : ℕ) (b : RawBurst) (j : ℕ) → (run_of M b j).kind ≡ 1
unfolding run_of
incr_is M b j = refl

pub run_stands : (M : ℕ) (b : RawBurst) (j : ℕ) → IsLawful 8 b → 0 < M → j < b.count → RunStands M b j
run_stands M b j law some left = record {
  incr = incr_is M b j;
  some = omega (arith, run_has M b j law some left);
  few = run_short M b j law some left;
  lawful = run_lawful M b j law some left;
  has = run_has M b j law some left;
  first = ap (λ (c : Cover). c.first) (run_cover M b j law some left);
  last = ap (λ (c : Cover). c.last) (run_cover M b j law some left);
  taken = λ m ch live free fit most. (open_taken m ch (run_of M b j) live free (run_lawful M b j law some left m.width fit)
      (short_incr m.full m.most (run_of M b j) (incr_is M b j) (omega (arith, run_short M b j law some left)))).0;
}

pub runs_stand : (M : ℕ) (b : RawBurst) → IsLawful 8 b → 0 < M → RunsStand M b
runs_stand M b law some = record { join = runs_join M b law some; run = λ j left. run_stands M b j law some left }
