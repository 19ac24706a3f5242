-- What the beats of a lawful burst cover: the laws of specs/Laws.
use Rattle.std.proofs.Common.{◌≡◌, ℕ, zero, suc, ◌+◌, ◌-◌, ◌*◌, ◌/◌, ◌%◌, ◌^◌, ◌<◌, ◌≤◌, true, false, cond, eqb, ltb, leb, sym, refl, ap, ◌∙◌, subst, ⊎_elim, mul_assoc, add-mul, mul-div_cancel, arith}
use Rattle.std.proofs.lemmas.Nat.{div-add-mod', mod_below, pow_pos, div-mul-add, div_below, le-div}
use Rattle.std.proofs.lemmas.Bool.{eq-eqb, ne_eqb, cond-true, cond-false, cases_lt, cases_eq, and_parts, leb-true}
use Rattle.std.proofs.lemmas.Bool.Decides.{nat_tests}
use Rattle.burst.specs.Rules.{KeepsPage}
use Rattle.burst.specs.declared.raw.RawBurst.{RawBurst}
use Rattle.burst.specs.declared.cover.Cover.{Cover}
use Rattle.burst.specs.Beats.{container_of, IsLawful, address_of, last_of, incr_address, wrap_address, container, turn_of, covers, span_of}
use Rattle.burst.specs.Laws.{covered, Once, BeatsLie}
use Rattle.burst.proofs.Facts.{more, Facts, facts, round_power}
use Rattle.burst.proofs.Walks.{incr_aligned, before_below, start_is, wrap_first, wrap_second, low_page}

-- a byte between two bounds
between : (f l a : ℕ) → covers f l a ≡ true → (f ≤ a) × (a ≤ l)
between f l a h = let p = and_parts (leb f a) (leb a l) h in (leb-true f a p.0, leb-true a l p.1)

inside : (f l a : ℕ) → f ≤ a → a ≤ l → covers f l a ≡ true
inside f l a lo hi = grind (arith, nat_tests)

-- the block of N bytes that a byte lies in
block_is : (N q a : ℕ) → q * N ≤ a → a < q * N + N → a / N ≡ q
block_is N q a lo hi = ap (λ x. x / N) (let z : a ≡ q * N + (a - q * N) = omega arith in z) ∙ div-mul-add q N (a - q * N) (omega arith)

-- bytes of a page that begins at or before them, with room for all
same_page : (s a m : ℕ) → s ≤ a → a < s + m → s % 4096 + m ≤ 4096 → a / 4096 ≡ s / 4096
same_page s a m lo hi room = omega arith

module _ (b : RawBurst) (lawful : IsLawful 8 b) where
  abbrev N : ℕ
  N = 2 ^ b.size

  abbrev n : ℕ
  n = b.count

  abbrev a0 : ℕ
  a0 = b.start

  abbrev known : Facts b.kind b.start b.size b.count
  known = facts b.kind b.start b.size b.count lawful

  pos : 0 < N
  pos = pow_pos b.size

  -- the address of a beat by the kind
  at_fixed : b.kind ≡ 0 → (j : ℕ) → address_of b j ≡ a0
  unfolding address_of
  at_fixed k j = cond-true (eqb b.kind 0) a0 _ (eq-eqb b.kind 0 k)

  pub at_incr : b.kind ≡ 1 → (j : ℕ) → address_of b j ≡ incr_address a0 N j
  unfolding address_of
  at_incr k j = ap (λ x. cond (eqb x 0) a0 (cond (eqb x 1) (incr_address a0 N j) (wrap_address a0 N n j))) k

  pub at_wrap : b.kind ≡ 2 → (j : ℕ) → address_of b j ≡ wrap_address a0 N n j
  unfolding address_of
  at_wrap k j = ap (λ x. cond (eqb x 0) a0 (cond (eqb x 1) (incr_address a0 N j) (wrap_address a0 N n j))) k

  -- the last byte of a beat is the last of its block
  ends : (j : ℕ) → last_of b j ≡ address_of b j / N * N + N - 1
  unfolding last_of
  ends j = refl

  pub beat_some : (j : ℕ) → address_of b j ≤ last_of b j
  beat_some j = omega (arith, ends j, div-add-mod' (address_of b j) N, mod_below (address_of b j) N pos)

  pub beat_few : (j : ℕ) → last_of b j < address_of b j + N
  beat_few j = omega (arith, ends j, div-add-mod' (address_of b j) N, pos)

  beat_block : (j a : ℕ) → covered b j a ≡ true → a / N ≡ address_of b j / N
  beat_block j a h =
      let p = between (address_of b j) (last_of b j) a h in
      block_is N (address_of b j / N) a (omega (arith, p.0, div-add-mod' (address_of b j) N)) (omega (arith, p.1, ends j, pos))

  -- INCR: beat j has the block that lies j behind that of the start
  module _ (k : b.kind ≡ 1) where
    incr_block : (j : ℕ) → address_of b j / N * N ≡ a0 / N * N + j * N
    incr_block j = ap (λ x. x / N * N) (at_incr k j) ∙ incr_aligned a0 N j pos

    incr_last : (j : ℕ) → last_of b j + 1 ≡ a0 / N * N + j * N + N
    incr_last j = omega (arith, ends j, incr_block j, pos)

    incr_next : (j : ℕ) → address_of b (j + 1) ≡ a0 / N * N + (j + 1) * N
    incr_next j = at_incr k (j + 1) ∙ cond-false (eqb (j + 1) 0) a0 (a0 / N * N + (j + 1) * N) (ne_eqb (j + 1) 0 (λ e. omega arith))

    incr_first : address_of b 0 ≡ a0
    incr_first = at_incr k 0

    incr_order : (j : ℕ) → j + 1 < n → address_of b (j + 1) ≡ last_of b j + 1
    incr_order j h = omega (arith, incr_next j, incr_last j, add-mul j 1 N)

    -- each beat lies behind the start and before the range's end
    incr_lowest : (j : ℕ) → a0 ≤ address_of b j
    incr_lowest zero = omega (arith, incr_first)
    incr_lowest (suc j) =
        let e : suc j ≡ j + 1 = omega arith in
        omega (arith, ap (address_of b) e, incr_next j, div-add-mod' a0 N, mod_below a0 N pos, more 0 (j + 1) N (omega arith))

    incr_high : (j : ℕ) → j < n → last_of b j < a0 + n * N
    incr_high j h = omega (arith, incr_last j, more j n N h, div-add-mod' a0 N)

    incr_end : (j : ℕ) → j < n → last_of b j ≤ last_of b (n - 1)
    incr_end j h =
        let s : n - 1 + 1 ≡ n = omega (arith, known.low) in
        omega (arith, incr_last j, incr_last (n - 1), more j n N h, add-mul (n - 1) 1 N, ap (λ x. x * N) s)

    -- the beat of a byte
    incr_once : (a : ℕ) → a0 ≤ a → a ≤ last_of b (n - 1) → Once b a
    incr_once a lo hi =
        let j : ℕ = a / N - a0 / N in
        let s : n - 1 + 1 ≡ n = omega (arith, known.low) in
        let le : a0 / N ≤ a / N = le-div (a0 / N) a N pos (omega (arith, div-add-mod' a0 N)) in
        let top : a < (a0 / N + n) * N = omega (arith, incr_last (n - 1), add-mul (n - 1) 1 N, ap (λ x. x * N) s, add-mul (a0 / N) n N) in
        let lt : a / N < a0 / N + n = div_below a N (a0 / N + n) pos top in
        let sum : a0 / N * N + j * N ≡ a / N * N = sym (add-mul (a0 / N) j N) ∙ ap (λ x. x * N) (let z : a0 / N + j ≡ a / N = omega arith in z) in
        let high : a ≤ last_of b j = omega (arith, incr_last j, div-add-mod' a N, mod_below a N pos) in
        let low : address_of b j ≤ a = ⊎_elim (λ z. subst (λ x. address_of b x ≤ a) (sym z) (omega (arith, incr_first)))
        (λ nz. let t : j - 1 + 1 ≡ j = omega arith in
        subst (λ x. address_of b x ≤ a) t (omega (arith, incr_next (j - 1), ap (λ x. x * N) t, div-add-mod' a N)))
        (cases_eq j 0) in
        record {
          beat = j;
          counted = omega arith;
          here = inside (address_of b j) (last_of b j) a low high;
          only = λ i il h.
              let q : a / N ≡ address_of b i / N = beat_block i a h in
              let back : address_of b i / N ≡ a0 / N + i =
              sym (mul-div_cancel (address_of b i / N) pos) ∙ ap (λ x. x / N) (incr_block i ∙ sym (add-mul (a0 / N) i N)) ∙ mul-div_cancel (a0 / N + i) pos in
              omega arith;
        }

  -- WRAP: beat j has slot (before + j) mod n of the container
  module _ (k : b.kind ≡ 2) where
    abbrev low : ℕ
    low = container a0 (n * N)

    abbrev before : ℕ
    before = a0 / N % n

    abbrev turn : ℕ
    turn = turn_of a0 N n

    some : 0 < n
    some = known.low

    aligned : a0 % N ≡ 0
    aligned = known.aligned k

    bb : before < n
    bb = before_below a0 N n pos some aligned

    abbrev slot : ℕ → ℕ
    slot j = cond (ltb j turn) (before + j) (j - turn)

    wrap_at : (j : ℕ) → j < n → address_of b j ≡ low + slot j * N
    wrap_at j h =
        at_wrap k j ∙ ⊎_elim
        (λ l. wrap_first a0 N n pos some aligned j l ∙ (let z : a0 + j * N ≡ low + (before + j) * N = omega (arith, start_is a0 N n pos some aligned, add-mul before j N) in z)
        ∙ ap (λ x. low + x * N) (sym (cond-true (ltb j turn) (before + j) (j - turn) (let z : ltb j turn ≡ true = grind (arith, nat_tests) in z))))
        (λ l. wrap_second a0 N n pos some aligned j l h
        ∙ ap (λ x. low + x * N) (sym (cond-false (ltb j turn) (before + j) (j - turn) (let z : ltb j turn ≡ false = grind (arith, nat_tests) in z))))
        (cases_lt j turn)

    slot_below : (j : ℕ) → j < n → slot j < n
    slot_below j h = let l = bb in grind (arith, nat_tests)

    slot_only : (i j : ℕ) → i < n → j < n → slot i ≡ slot j → i ≡ j
    slot_only i j h l e = let q = bb in grind (arith, nat_tests)

    -- the number of blocks before the container
    abbrev blocks : ℕ
    blocks = a0 / (n * N) * n

    low_is : low ≡ blocks * N
    low_is = sym (mul_assoc (a0 / (n * N)) n N)

    wrap_block : (j : ℕ) → j < n → address_of b j / N ≡ blocks + slot j
    wrap_block j h = ap (λ x. x / N) (wrap_at j h ∙ ap (λ x. x + slot j * N) low_is ∙ sym (add-mul blocks (slot j) N)) ∙ mul-div_cancel (blocks + slot j) pos

    wrap_last : (j : ℕ) → j < n → last_of b j + 1 ≡ low + slot j * N + N
    wrap_last j h = omega (arith, ends j, ap (λ x. x * N) (wrap_block j h), add-mul blocks (slot j) N, low_is, pos)

    wrap_within : (j a : ℕ) → j < n → covered b j a ≡ true → (low ≤ a) × (a + 1 ≤ low + n * N)
    wrap_within j a h c =
        let p = between (address_of b j) (last_of b j) a c in
        (omega (arith, p.0, wrap_at j h), omega (arith, p.1, wrap_last j h, more (slot j) n N (slot_below j h)))

    room : KeepsPage low N n
    room = let p = round_power n b.size (known.wrap k) known.size in low_page a0 N n pos some aligned p.0 p.1 p.2

    -- the beat with a slot
    slot_beat : (x : ℕ) → x < n → (j : ℕ) × (j < n) × (slot j ≡ x)
    slot_beat x h =
        let l = bb in
        ⊎_elim (λ lt. (x + turn, omega arith, (let z : slot (x + turn) ≡ x = grind (arith, nat_tests) in z)))
        (λ ge. (x - before, omega arith, (let z : slot (x - before) ≡ x = grind (arith, nat_tests) in z)))
        (cases_lt x before)

    wrap_once : (a : ℕ) → low ≤ a → a + 1 ≤ low + n * N → Once b a
    wrap_once a lo hi =
        let x : ℕ = a / N - blocks in
        let le : blocks ≤ a / N = le-div blocks a N pos (omega (arith, low_is)) in
        let lt : a / N < blocks + n = div_below a N (blocks + n) pos (omega (arith, low_is, add-mul blocks n N)) in
        let q = slot_beat x (omega arith) in
        let j : ℕ = q.0 in
        let jl : j < n = q.1 in
        let at : address_of b j / N ≡ a / N = wrap_block j jl ∙ ap (λ y. blocks + y) q.2 ∙ (let z : blocks + x ≡ a / N = omega arith in z) in
        let start : address_of b j ≡ a / N * N = wrap_at j jl ∙ ap (λ y. y + slot j * N) low_is ∙ sym (add-mul blocks (slot j) N) ∙ ap (λ y. y * N) (sym (wrap_block j jl) ∙ at) in
        record {
          beat = j;
          counted = jl;
          here = inside (address_of b j) (last_of b j) a (omega (arith, start, div-add-mod' a N))
              (omega (arith, ends j, ap (λ y. y * N) at, div-add-mod' a N, mod_below a N pos));
          only = λ i il h. slot_only i j il jl (omega (arith, beat_block i a h, wrap_block i il, q.2));
        }

  -- the page
  beat_page : (j a : ℕ) → j < n → covered b j a ≡ true → a / 4096 ≡ a0 / 4096
  beat_page j a h c =
      let p = between (address_of b j) (last_of b j) a c in
      ⊎_elim
      (λ k. same_page a0 a (1 * N) (omega (arith, p.0, at_fixed k j)) (omega (arith, p.1, beat_few j, at_fixed k j)) (known.fixed k))
      (λ n0. ⊎_elim
      (λ k. same_page a0 a (n * N) (omega (arith, p.0, incr_lowest k j)) (omega (arith, p.1, incr_high k j h)) (known.incr k))
      (λ n1. let k : b.kind ≡ 2 = omega (arith, known.kind) in
      let q = wrap_within k j a h c in
      let st = start_is a0 N n pos known.low (known.aligned k) in
      let mb = more (a0 / N % n) n N (before_below a0 N n pos known.low (known.aligned k)) in
      same_page (container a0 (n * N)) a (n * N) q.0 (omega (arith, q.1)) (room k)
      ∙ sym (same_page (container a0 (n * N)) a0 (n * N) (omega (arith, st)) (omega (arith, st, mb, pos)) (room k)))
      (cases_eq b.kind 1)) (cases_eq b.kind 0)

  -- the span by the kind
  span_wrap : b.kind ≡ 2 → span_of b ≡ container_of b
  span_wrap k = cond-true (eqb b.kind 2) _ _ (eq-eqb b.kind 2 k)

  span_else : (b.kind ≡ 2 → ⊥) → span_of b ≡ record { first = a0; last = last_of b (n - 1) }
  span_else k = cond-false (eqb b.kind 2) _ _ (ne_eqb b.kind 2 k)

  whole : b.kind ≡ 2 → 0 < n * N
  whole k = omega (arith, more 0 n N known.low, pos)

  span_within : (j a : ℕ) → j < n → covered b j a ≡ true → ((span_of b).first ≤ a) × (a ≤ (span_of b).last)
  span_within j a h c =
      let P : Cover → Type 0 = λ s. (s.first ≤ a) × (a ≤ s.last) in
      let p = between (address_of b j) (last_of b j) a c in
      ⊎_elim
      (λ k. subst P (sym (span_wrap k)) (let q = wrap_within k j a h c in (q.0, omega (arith, q.1, whole k))))
      (λ n2. subst P (sym (span_else n2)) (⊎_elim
      (λ k. (omega (arith, p.0, at_fixed k j), omega (arith, p.1, ends j, ends (n - 1), ap (λ x. x / N * N) (at_fixed k j ∙ sym (at_fixed k (n - 1))))))
      (λ n0. let k : b.kind ≡ 1 = omega (arith, known.kind) in (omega (arith, p.0, incr_lowest k j), omega (arith, p.1, incr_end k j h)))
      (cases_eq b.kind 0)))
      (cases_eq b.kind 2)

  span_once : (b.kind ≡ 0 → ⊥) → (a : ℕ) → (span_of b).first ≤ a → a ≤ (span_of b).last → Once b a
  span_once n0 a lo hi =
      ⊎_elim
      (λ k. let l : container a0 (n * N) ≤ a = subst (λ s. s.first ≤ a) (span_wrap k) lo in
      let u : a ≤ container a0 (n * N) + n * N - 1 = subst (λ s. a ≤ s.last) (span_wrap k) hi in
      wrap_once k a l (omega (arith, whole k)))
      (λ n2. let k : b.kind ≡ 1 = omega (arith, known.kind) in
      incr_once k a (subst (λ s. s.first ≤ a) (span_else n2) lo) (subst (λ s. a ≤ s.last) (span_else n2) hi))
      (cases_eq b.kind 2)

  pub beats_lie : BeatsLie b
  beats_lie = record { page = beat_page; some = beat_some; few = beat_few; block = beat_block; order = incr_order; within = span_within; once = span_once }
