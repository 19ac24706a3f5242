-- The runs of a burst: where their beats lie.
use Rattle.std.specs.Prelude.{◌≡◌, ℕ, ◌+◌, ◌-◌, ◌*◌, ◌/◌, ◌%◌, ◌^◌, ◌<◌, ◌≤◌, cond, ◌⊎◌, ◌==◌, nat_lt, refl}
use native.Mathlib.Omega.{arith}
use Rattle.std.proofs.Math.Nat.{add-mul}
use Rattle.std.proofs.Common.{mul-div_cancel, zero-add, ◌∙◌}
use Rattle.std.proofs.Math.Path.{sym, ap, subst}
use Rattle.std.proofs.Math.Logic.{⊎_elim}
use Rattle.std.proofs.Math.Arith.{digits_div}
use Rattle.std.proofs.lemmas.Nat.{div-add-mod', mod_below, pow_pos}
use Rattle.std.proofs.lemmas.Bool.{cases_lt, cases_eq, lt-ltb, le-ltb}
use Rattle.burst.specs.declared.raw.RawBurst.{RawBurst}
use Rattle.burst.specs.Rules.{KeepsPage}
use Rattle.burst.specs.Beats.{IsLawful, address_of, last_of, last_from, cover_of, incr_address, wrap_address}
use Rattle.burst.proofs.Facts.{Facts, facts, round_power, size_fits, incr_lawful}
use Rattle.burst.proofs.Walks.{incr_incr, incr_page, aligned_incr, low_aligned, wrap_first, wrap_second, first_page, second_page}
use Rattle.splitter.specs.Runs.{turn, part_of, part_first, part_end, run_first, run_of, beat_in}

-- the part F to S of a burst that beat j lies in: it goes straight on, within a page
pub record Part (b : RawBurst) (j F S : ℕ) : Type 0 where
  pub low : F ≤ j
  pub high : j < S
  pub within : S ≤ b.count
  pub straight : (x : ℕ) → F + x < S → address_of b (F + x) ≡ incr_address (address_of b F) (2 ^ b.size) x
  pub page : KeepsPage (address_of b F) (2 ^ b.size) (S - F)
  pub same : (i : ℕ) → F ≤ i → i < S → (part_first b i ≡ F) × (part_end b i ≡ S)
  pub fresh : S < b.count → part_first b S ≡ S

-- the same beats keep to their page alike
keeps : (a c N m n : ℕ) → a ≡ c → m ≡ n → KeepsPage a N m → KeepsPage c N n
keeps a c N m n e f h = subst (λ x. KeepsPage x N n) e (subst (KeepsPage a N) f h)

-- beats of one size at one address cover the same
pub cover_same : (r b : RawBurst) (i j : ℕ) → r.size ≡ b.size → address_of r i ≡ address_of b j → cover_of r i ≡ cover_of b j
unfolding last_of
cover_same r b i j s a =
    ap (λ y. record { first = address_of r i; last = last_from (address_of r i) (2 ^ y) }) s ∙ ap (λ x. record { first = x; last = last_from x (2 ^ b.size) }) a

at_kind : {A : Type 0} (k : ℕ) (x y z : A) → (k ≡ 0 → cond (k == 0) x (cond (k == 1) y z) ≡ x) × (k ≡ 1 → cond (k == 0) x (cond (k == 1) y z) ≡ y) × (k ≡ 2 → cond (k == 0) x (cond (k == 1) y z) ≡ z)
at_kind k x y z = (λ e. cc, λ e. cc, λ e. cc)

module _ (b : RawBurst) (lawful : IsLawful 8 b) where
  abbrev N : ℕ
  N = 2 ^ b.size

  -- the part of a beat, by the kind
  at_part : (i : ℕ) → (b.kind ≡ 0 → part_of b.kind (turn b) b.count i ≡ (i, i + 1)) × (b.kind ≡ 1 → part_of b.kind (turn b) b.count i ≡ (0, b.count))
      × (b.kind ≡ 2 → part_of b.kind (turn b) b.count i ≡ cond (nat_lt i (turn b)) (0, turn b) (turn b, b.count))
  at_part i = at_kind b.kind (i, i + 1) (0, b.count) (cond (nat_lt i (turn b)) (0, turn b) (turn b, b.count))

  abbrev known : Facts b.kind b.start b.size b.count
  known = facts b.kind b.start b.size b.count lawful

  part_fixed : b.kind ≡ 0 → (j : ℕ) → j < b.count → Part b j j (j + 1)
  unfolding part_first part_end address_of
  part_fixed k j h =
      let at : (i : ℕ) → address_of b i ≡ b.start = λ i. (at_kind b.kind b.start (incr_address b.start N i) (wrap_address b.start N b.count i)).0 k in
      record {
        low = omega arith;
        high = omega arith;
        within = omega arith;
        straight = λ x l. let a = at (j + x) in let z : x ≡ 0 = omega arith in let a0 = at j in cc;
        page = keeps b.start (address_of b j) N 1 (j + 1 - j) (sym (at j)) (omega arith) (known.fixed k);
        same = λ i l u. let p = (at_part i).0 k in let e : i ≡ j = omega arith in (cc, cc);
        fresh = λ _. let p = (at_part (j + 1)).0 k in cc;
      }

  part_incr : b.kind ≡ 1 → (j : ℕ) → j < b.count → Part b j 0 b.count
  unfolding part_first part_end address_of
  part_incr k j h =
      let at : (i : ℕ) → address_of b i ≡ incr_address b.start N i = λ i. (at_kind b.kind b.start (incr_address b.start N i) (wrap_address b.start N b.count i)).1 k in
      let at0 : address_of b 0 ≡ b.start = at 0 in
      record {
        low = omega arith;
        high = h;
        within = omega arith;
        straight = λ x l. let a = at (0 + x) in let z = zero-add x in cc;
        page = keeps b.start (address_of b 0) N b.count (b.count - 0) (sym at0) (omega arith) (known.incr k);
        same = λ i l u. let p = (at_part i).1 k in (cc, cc);
        fresh = λ l. absurd (omega arith);
      }

  part_wrap_first : b.kind ≡ 2 → (j : ℕ) → j < b.count → j < turn b → Part b j 0 (turn b)
  unfolding part_first part_end address_of
  part_wrap_first k j h u =
      let pos : 0 < N = pow_pos b.size in
      let some : 0 < b.count = known.low in
      let al = known.aligned k in
      let at : (i : ℕ) → i < turn b → address_of b i ≡ b.start + i * N =
      λ i l. (at_kind b.kind b.start (incr_address b.start N i) (wrap_address b.start N b.count i)).2 k ∙ wrap_first b.start N b.count pos some al i l in
      let at0 : address_of b 0 ≡ b.start = at 0 (omega arith) ∙ (let z : b.start + 0 * N ≡ b.start = omega arith in z) in
      let p = round_power b.count b.size (known.wrap k) known.size in
      record {
        low = omega arith;
        high = u;
        within = omega arith;
        straight = λ x l. let a = at (0 + x) l in let z = zero-add x in let e = aligned_incr b.start N x al in cc;
        page = keeps b.start (address_of b 0) N (turn b) (turn b - 0) (sym at0) (omega arith) (first_page b.start N b.count pos some al p.0 p.1 p.2);
        same = λ i l v. let p = (at_part i).2 k in let t = lt-ltb i (turn b) v in (cc, cc);
        fresh = λ l. let p = (at_part (turn b)).2 k in let t = le-ltb (turn b) (turn b) (omega arith) in cc;
      }

  part_wrap_second : b.kind ≡ 2 → (j : ℕ) → j < b.count → turn b ≤ j → Part b j (turn b) b.count
  unfolding part_first part_end address_of
  part_wrap_second k j h u =
      let pos : 0 < N = pow_pos b.size in
      let some : 0 < b.count = known.low in
      let al = known.aligned k in
      let low : ℕ = b.start / (b.count * N) * (b.count * N) in
      let at : (i : ℕ) → turn b + i < b.count → address_of b (turn b + i) ≡ low + i * N =
      λ i l. (at_kind b.kind b.start (incr_address b.start N (turn b + i)) (wrap_address b.start N b.count (turn b + i))).2 k
      ∙ wrap_second b.start N b.count pos some al (turn b + i) (omega arith) l ∙ ap (λ y. low + y * N) (let z : turn b + i - turn b ≡ i = omega arith in z) in
      let at0 : address_of b (turn b) ≡ low = ap (address_of b) (let z : turn b ≡ turn b + 0 = omega arith in z) ∙ at 0 (omega arith) ∙ (let z : low + 0 * N ≡ low = omega arith in z) in
      let p = round_power b.count b.size (known.wrap k) known.size in
      record {
        low = u;
        high = h;
        within = omega arith;
        straight = λ x l. let a = at x l in let e = aligned_incr low N x (low_aligned b.start N b.count) in cc;
        page = subst (λ y. KeepsPage y N (b.count - turn b)) (sym at0) (second_page b.start N b.count pos some al p.0 p.1 p.2);
        same = λ i l v. let p = (at_part i).2 k in let t = le-ltb i (turn b) l in (cc, cc);
        fresh = λ l. absurd (omega arith);
      }

  pub part : (j : ℕ) → j < b.count → Part b j (part_first b j) (part_end b j)
  part j h =
      let turned : (F S : ℕ) → Part b j F S → Part b j (part_first b j) (part_end b j) =
      λ F S p. let e = p.same j p.low p.high in subst (λ x. Part b j x (part_end b j)) (sym e.0) (subst (λ x. Part b j F x) (sym e.1) p) in
      ⊎_elim (λ k. turned j (j + 1) (part_fixed k j h)) (λ n0.
      ⊎_elim (λ k. turned 0 b.count (part_incr k j h)) (λ n1.
      let k : b.kind ≡ 2 = omega (arith, known.kind) in
      ⊎_elim (λ l. turned 0 (turn b) (part_wrap_first k j h l)) (λ l. turned (turn b) b.count (part_wrap_second k j h l)) (cases_lt j (turn b)))
      (cases_eq b.kind 1)) (cases_eq b.kind 0)

-- the run of beat j
module _ (M : ℕ) (b : RawBurst) (j : ℕ) (lawful : IsLawful 8 b) (some : 0 < M) (left : j < b.count) where
  abbrev F : ℕ
  F = part_first b j

  abbrev S : ℕ
  S = part_end b j

  abbrev P : Part b j F S
  P = part b lawful j left

  base_low : run_first M b j + (j - F) % M ≡ j
  unfolding run_first
  base_low = omega (arith, div-add-mod' (j - F) M, P.low)

  pub base_le : run_first M b j ≤ j
  base_le = omega (arith, base_low)

  pub beat_is : beat_in M b j ≡ (j - F) % M
  unfolding beat_in
  beat_is = omega (arith, base_low)

  pub run_base : run_first M b j + beat_in M b j ≡ j
  run_base = ap (λ x. run_first M b j + x) beat_is ∙ base_low

  beat_short : beat_in M b j < M
  beat_short = subst (λ x. x < M) (sym beat_is) (mod_below (j - F) M some)

  -- how long the run is
  pub record Length (c : ℕ) : Type 0 where
    pub most : c ≤ M
    pub inside : run_first M b j + c ≤ S
    pub ends : (c ≡ M) ⊎ (run_first M b j + c ≡ S)
    pub has : beat_in M b j < c

  pub length : Length (run_of M b j).count
  unfolding run_of
  length =
      let hi = P.high in
      let bs = beat_short in
      let bb = run_base in
      record { most = omega arith; inside = omega arith; ends = grind arith; has = omega arith }

  pub run_has : beat_in M b j < (run_of M b j).count
  run_has = length.has

  pub run_short : (run_of M b j).count ≤ M
  run_short = length.most

  abbrev x : ℕ
  x = (j - F) / M * M

  -- beat i of the run is beat base + i of the burst
  pub run_walk : (i : ℕ) → i < (run_of M b j).count → address_of (run_of M b j) i ≡ address_of b (run_first M b j + i)
  unfolding address_of run_of run_first
  run_walk i h =
      let l = length.inside in
      let s = P.straight in
      let start = s x (omega arith) in
      let both = incr_incr (address_of b F) (2 ^ b.size) x i (pow_pos b.size) in
      let end = s (x + i) (omega arith) in
      let z : F + (x + i) ≡ F + x + i = omega arith in
      cc

  pub run_size : (run_of M b j).size ≡ b.size
  unfolding run_of
  run_size = refl

  pub run_cover : cover_of (run_of M b j) (beat_in M b j) ≡ cover_of b j
  run_cover = cover_same (run_of M b j) b (beat_in M b j) j run_size (run_walk (beat_in M b j) run_has ∙ ap (address_of b) run_base)

  run_page : KeepsPage (run_of M b j).start (2 ^ b.size) (run_of M b j).count
  unfolding run_of run_first
  run_page =
      let l = length.inside in
      subst (λ a. KeepsPage a (2 ^ b.size) (run_of M b j).count) (sym (P.straight x (omega (arith, base_low, P.high))))
      (incr_page (address_of b F) (2 ^ b.size) x (run_of M b j).count (S - F) (pow_pos b.size) P.page (omega arith) (omega (arith, run_has)))

  -- it is lawful wherever the burst is
  pub run_lawful : (w : ℕ) → IsLawful w b → IsLawful w (run_of M b j)
  unfolding run_of
  run_lawful w h =
      let fit : 2 ^ b.size ≤ w = size_fits w b.kind b.start b.size b.count h in
      let high = (facts b.kind b.start b.size b.count lawful).high in
      incr_lawful w (run_of M b j).start b.size (run_of M b j).count fit (omega (arith, run_has)) (omega (arith, length.inside, P.within)) run_page

  -- the next beat: in the same run
  base_next : beat_in M b j + 1 < (run_of M b j).count → run_first M b (j + 1) ≡ run_first M b j
  unfolding run_first
  base_next h =
      let l = length in
      let bb = run_base in
      let hi : j + 1 < S = omega (arith, l.inside) in
      let lo = P.low in
      let e : part_first b (j + 1) ≡ F = (P.same (j + 1) (omega arith) hi).0 in
      let short : beat_in M b j + 1 < M = omega (arith, l.most) in
      let d : j + 1 - F ≡ (j - F) / M * M + (beat_in M b j + 1) = omega (arith, div-add-mod' (j - F) M, beat_is) in
      let q = digits_div ((j - F) / M) short in
      cc

  pub next_left : beat_in M b j + 1 < (run_of M b j).count → j + 1 < b.count
  next_left h = omega (arith, length.inside, P.within, run_base)

  pub next_run : beat_in M b j + 1 < (run_of M b j).count → run_of M b (j + 1) ≡ run_of M b j
  unfolding run_of
  next_run h =
      let l = length.inside in
      let bb = run_base in
      let e : part_end b (j + 1) ≡ S = (P.same (j + 1) (omega (arith, P.low)) (omega arith)).1 in
      let base = base_next h in
      cc

  pub next_beat : beat_in M b j + 1 < (run_of M b j).count → beat_in M b (j + 1) ≡ beat_in M b j + 1
  unfolding beat_in
  next_beat h = omega (arith, base_next h, base_le)

  -- the next beat, where the run is over: the first of its run
  from_zero : (i : ℕ) → part_first b i ≡ i → beat_in M b i ≡ 0
  unfolding beat_in run_first
  from_zero i e =
      ap (λ f. i - (f + (i - f) / M * M)) e ∙ (let z : i - (i + (i - i) / M * M) ≡ 0 = omega arith in z)

  pub next_new : (run_of M b j).count ≤ beat_in M b j + 1 → j + 1 < b.count → beat_in M b (j + 1) ≡ 0
  unfolding beat_in run_first
  next_new h u =
      let l = length in
      let lo = P.low in
      let bb : F + (j - F) / M * M + (j - (F + (j - F) / M * M)) ≡ j = run_base in
      let over : (run_of M b j).count ≡ j - (F + (j - F) / M * M) + 1 = omega (arith, l.has) in
      ⊎_elim
      (λ hi. let e : part_first b (j + 1) ≡ F = (P.same (j + 1) (omega arith) hi).0 in
      let full : (run_of M b j).count ≡ M = ⊎_elim (λ z. z) (λ z. absurd (let y : F + (j - F) / M * M + (run_of M b j).count ≡ S = z in omega arith)) l.ends in
      let d : j + 1 - F ≡ ((j - F) / M + 1) * M = omega (arith, add-mul ((j - F) / M) 1 M) in
      ap (λ f. j + 1 - (f + (j + 1 - f) / M * M)) e ∙ ap (λ y. j + 1 - (F + y / M * M)) d ∙ ap (λ y. j + 1 - (F + y * M)) (mul-div_cancel ((j - F) / M + 1) some)
      ∙ (let z : j + 1 - (F + ((j - F) / M + 1) * M) ≡ 0 = omega arith in z))
      (λ hi. let e : S ≡ j + 1 = omega (arith, P.high) in
      from_zero (j + 1) (ap (part_first b) (sym e) ∙ P.fresh (omega arith) ∙ e))
      (cases_lt (j + 1) S)

  -- after the last beat the run is over
  pub next_none : b.count ≤ j + 1 → (run_of M b j).count ≤ beat_in M b j + 1
  next_none h = omega (arith, length.inside, P.within, run_base)

  pub run_inside : run_first M b j + (run_of M b j).count ≤ b.count
  run_inside = omega (arith, length.inside, P.within)
