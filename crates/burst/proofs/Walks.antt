-- Where the beats of INCR and WRAP bursts lie, and that they keep to the page.
use Rattle.std.proofs.Common.{◌≡◌, ℕ, ◌+◌, ◌-◌, ◌*◌, ◌/◌, ◌%◌, ◌^◌, ◌<◌, ◌≤◌, cond, eqb, sym, ap, ◌∙◌, ⊎_elim, mod-eq_of_lt, mul_assoc, mul_comm, add-mul, mul-div_cancel, arith}
use native.Mathlib.Nat.{add-mod_left, div-div-eq-div-mul, mul-mod_left}
use Rattle.std.proofs.lemmas.Nat.{div-add-mod', mod_below, mul-le}
use Rattle.std.proofs.lemmas.Bool.{eqb-true, eqb-false, eq-eqb, ne_eqb, cond-false, cond_both, cases_eq}
use Rattle.burst.specs.Rules.{KeepsPage}
use Rattle.burst.specs.Beats.{incr_address, wrap_address, turn_of}
use Rattle.burst.proofs.Facts.{more, block_in_block}

-- an INCR walk from a, taken up again at its beat x
pub incr_aligned : (a N x : ℕ) → 0 < N → incr_address a N x / N * N ≡ a / N * N + x * N
incr_aligned a N x h =
    cond_both (eqb x 0) a (a / N * N + x * N) (λ y. y / N * N ≡ a / N * N + x * N)
    (λ t. let e : x ≡ 0 = eqb-true x 0 t in let z : x * N ≡ 0 * N = ap (λ y. y * N) e in omega arith)
    (λ _. let e : a / N * N + x * N ≡ (a / N + x) * N = sym (add-mul (a / N) x N) in
    ap (λ y. y / N * N) e ∙ ap (λ y. y * N) (mul-div_cancel (a / N + x) h) ∙ sym e)

pub incr_incr : (a N x i : ℕ) → 0 < N → incr_address (incr_address a N x) N i ≡ incr_address a N (x + i)
incr_incr a N x i h =
    ⊎_elim
    (λ e. ap (λ t. cond t (incr_address a N x) (incr_address a N x / N * N + i * N)) (eq-eqb i 0 e)
    ∙ ap (incr_address a N) (let z : x ≡ x + i = omega arith in z))
    (λ ne. ap (λ t. cond t (incr_address a N x) (incr_address a N x / N * N + i * N)) (ne_eqb i 0 ne)
    ∙ ap (λ y. y + i * N) (incr_aligned a N x h)
    ∙ (let z : a / N * N + x * N + i * N ≡ a / N * N + (x + i) * N = omega (arith, add-mul x i N) in z)
    ∙ sym (cond-false (eqb (x + i) 0) a (a / N * N + (x + i) * N) (ne_eqb (x + i) 0 (λ z. ne (omega arith)))))
    (cases_eq i 0)

-- from an aligned start
pub aligned_incr : (a N x : ℕ) → a % N ≡ 0 → incr_address a N x ≡ a + x * N
aligned_incr a N x h =
    let e : a / N * N + a % N ≡ a = div-add-mod' a N in
    cond_both (eqb x 0) a (a / N * N + x * N) (λ y. y ≡ a + x * N)
    (λ t. let z : x ≡ 0 = eqb-true x 0 t in let y : x * N ≡ 0 * N = ap (λ y. y * N) z in omega arith)
    (λ _. omega arith)

pub low_aligned : (a N n : ℕ) → a / (n * N) * (n * N) % N ≡ 0
low_aligned a N n = ap (λ y. y % N) (sym (mul_assoc (a / (n * N)) n N)) ∙ mul-mod_left (a / (n * N) * n) N

-- and it keeps to the page
pub incr_page : (a N x c K : ℕ) → 0 < N → KeepsPage a N K → x + c ≤ K → 0 < c → KeepsPage (incr_address a N x) N c
incr_page a N x c K h p l s =
    let all : (x + c) * N ≤ K * N = mul-le (x + c) N K N l (omega arith) in
    let sum : (x + c) * N ≡ x * N + c * N = add-mul x c N in
    let one : 0 * N + N ≤ c * N = more 0 c N s in
    cond_both (eqb x 0) a (a / N * N + x * N) (λ y. KeepsPage y N c)
    (λ _. omega arith)
    (λ t. let pos : 0 < x = omega (arith, eqb-false x 0 t) in
    let two : 0 * N + N ≤ x * N = more 0 x N pos in
    let e : a / N * N + a % N ≡ a = div-add-mod' a N in
    let r : a % N < N = mod_below a N h in
    omega arith)

-- a WRAP walk: start a = q * N, n beats, o of them before the start in its container
module _ (a N n : ℕ) (pos : 0 < N) (some : 0 < n) (aligned : a % N ≡ 0) where
  abbrev pub low : ℕ
  low = a / (n * N) * (n * N)

  abbrev pub before : ℕ
  before = a / N % n

  pub before_below : before < n
  before_below = mod_below (a / N) n some

  pub start_is : a ≡ low + before * N
  start_is =
      let q : a / (n * N) ≡ a / N / n = ap (λ y. a / y) (mul_comm n N) ∙ sym (div-div-eq-div-mul a N n) in
      let l : low ≡ a / N / n * n * N = ap (λ y. y * (n * N)) q ∙ sym (mul_assoc (a / N / n) n N) in
      let e : a / N * N + a % N ≡ a = div-add-mod' a N in
      let d : a / N / n * n + a / N % n ≡ a / N = div-add-mod' (a / N) n in
      let s : a / N * N ≡ a / N / n * n * N + a / N % n * N = ap (λ y. y * N) (sym d) ∙ add-mul (a / N / n * n) (a / N % n) N in
      omega arith

  reach : (j : ℕ) → a - low + j * N ≡ (before + j) * N
  reach j = omega (arith, start_is, add-mul before j N)

  pub wrap_first : (j : ℕ) → j < turn_of a N n → wrap_address a N n j ≡ a + j * N
  wrap_first j h =
      let lt : (before + j) * N < n * N = omega (arith, more (before + j) n N (omega arith)) in
      ap (λ y. low + y % (n * N)) (reach j) ∙ ap (λ y. low + y) (mod-eq_of_lt lt) ∙ (let z : low + (before + j) * N ≡ a + j * N = omega (arith, start_is, add-mul before j N) in z)

  pub wrap_second : (j : ℕ) → turn_of a N n ≤ j → j < n → wrap_address a N n j ≡ low + (j - turn_of a N n) * N
  wrap_second j h l =
      let b = before_below in
      let r : ℕ = j - turn_of a N n in
      let e : before + j ≡ n + r = omega arith in
      let s : (before + j) * N ≡ n * N + r * N = ap (λ y. y * N) e ∙ add-mul n r N in
      let lt : r * N < n * N = omega (arith, more r n N (omega arith)) in
      ap (λ y. low + y % (n * N)) (reach j ∙ s) ∙ ap (λ y. low + y) (add-mod_left (n * N) (r * N) ∙ mod-eq_of_lt lt)

  -- both parts keep to the page, where the container is a power of two
  pub low_page : (k : ℕ) → k ≤ 7 → n * N ≡ 2 ^ k → KeepsPage low N n
  low_page k h e =
      let round : low / 2 ^ k * 2 ^ k ≡ low =
      ap (λ y. low / y * y) (sym e) ∙ ap (λ y. y * (n * N)) (mul-div_cancel (a / (n * N)) (let z : 0 < n * N = omega (arith, more 0 n N some) in z)) in
      omega (arith, block_in_block low k 12 (omega arith), round, e)

  pub first_page : (k : ℕ) → k ≤ 7 → n * N ≡ 2 ^ k → a % 4096 + turn_of a N n * N ≤ 4096
  first_page k h e =
      let p = low_page k h e in
      let b = before_below in
      let s : n ≡ before + turn_of a N n = omega arith in
      let d : n * N ≡ before * N + turn_of a N n * N = ap (λ y. y * N) s ∙ add-mul before (turn_of a N n) N in
      let one : 0 * N + N ≤ turn_of a N n * N = more 0 (turn_of a N n) N (omega arith) in
      let st : a ≡ low + before * N = start_is in
      omega arith

  pub second_page : (k : ℕ) → k ≤ 7 → n * N ≡ 2 ^ k → KeepsPage low N (n - turn_of a N n)
  second_page k h e = omega (arith, low_page k h e, mul-le (n - turn_of a N n) N n N (omega arith) (omega arith))
