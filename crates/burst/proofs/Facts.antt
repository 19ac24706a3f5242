-- What the rules say of a lawful burst, and blocks of bytes.
use Rattle.std.proofs.Common.{◌≡◌, ℕ, ◌+◌, ◌-◌, ◌*◌, ◌/◌, ◌%◌, ◌^◌, ◌<◌, ◌≤◌, Bool, true, false, cond, ◌⊎◌, sym, refl, ap, ◌∙◌, subst, inl, inr, ⊎_elim, Some, None, Option, mul_assoc, add-mul, arith, pow_mono, ltb, le-ltb}
use lib.Pow.{pow-lt}
use Rattle.std.proofs.lemmas.Nat.{mul-le, shr_below, pow-add, div-add-mod', mod_below, pow_pos, div_below}
use Rattle.std.proofs.lemmas.Bool.{cases_lt}
use Rattle.std.proofs.lemmas.Bool.Decides.{nat_tests}
use Rattle.burst.specs.declared.width.Width.{Width}
use Rattle.burst.specs.declared.width.Width.TheVariants.{One, Two, Four, Eight}
use Rattle.burst.specs.declared.raw.RawBurst.{RawBurst}
use Rattle.burst.specs.Beats.{IsLawful, address_of, last_of, last_from}
use Rattle.burst.specs.Rules.{width_bytes, refusal, wrap_count, KeepsPage}

-- one beat more of N bytes, still within n beats
pub more : (j n N : ℕ) → j < n → j * N + N ≤ n * N
more j n N h = omega (arith, mul-le (j + 1) N n N (omega arith) (omega arith), add-mul j 1 N)

-- a block of 2 ^ k bytes ends within the 32-bit address space
pub top : (a k : ℕ) → a < 2 ^ 32 → k ≤ 32 → a / 2 ^ k * 2 ^ k + 2 ^ k ≤ 2 ^ 32
top a k h l =
    let e : 32 - k + k ≡ 32 = omega arith in
    let p : 2 ^ (32 - k) * 2 ^ k ≡ 2 ^ 32 = sym (pow-add 2 (32 - k) k) ∙ ap (λ i. 2 ^ i) e in
    let b : a / 2 ^ k < 2 ^ (32 - k) = shr_below a (32 - k) k (subst (λ i. a < 2 ^ i) (sym e) h) in
    omega (arith, more (a / 2 ^ k) (2 ^ (32 - k)) (2 ^ k) b)

-- what the rules say of a lawful burst
pub record Facts (k a s n : ℕ) : Type 0 where
  pub kind : k ≤ 2
  pub size : s ≤ 3
  pub low : 0 < n
  pub high : n ≤ 256
  pub incr : k ≡ 1 → KeepsPage a (2 ^ s) n
  pub fixed : k ≡ 0 → KeepsPage a (2 ^ s) 1
  pub aligned : k ≡ 2 → a % 2 ^ s ≡ 0
  pub wrap : k ≡ 2 → wrap_count n ≡ true

pub facts : (k a s n : ℕ) → refusal 8 k a s n ≡ 0 → Facts k a s n
facts k a s n h =
    let small : (4 ≤ s → ⊥) = λ l. let m : 16 ≤ 2 ^ s = pow_mono l in grind (arith, nat_tests) in
    record {
      kind = grind (arith, nat_tests);
      size = omega (arith, small);
      low = grind (arith, nat_tests);
      high = grind (arith, nat_tests);
      incr = λ e. grind (arith, nat_tests);
      fixed = λ e. grind (arith, nat_tests);
      aligned = λ e. grind (arith, nat_tests);
      wrap = λ e. grind (arith, nat_tests);
    }

pub top_of : (a b m : ℕ) → a < 2 ^ 32 → m ≤ 32 → ((k : ℕ) × (k ≤ m) × (b ≡ 2 ^ k)) → a / b * b + b ≤ 2 ^ 32
top_of a b m h l (k, i, e) = subst (λ x. a / x * x + x ≤ 2 ^ 32) (sym e) (top a k h (omega arith))

pub power_le : (b m : ℕ) → ((k : ℕ) × (k ≤ m) × (b ≡ 2 ^ k)) → b ≤ 2 ^ m
power_le b m (k, i, e) = subst (λ x. x ≤ 2 ^ m) (sym e) (pow_mono i)

-- the bytes that a WRAP burst goes round in are a power of two
wrap_log : (n : ℕ) → wrap_count n ≡ true → (i : ℕ) × (i ≤ 4) × (n ≡ 2 ^ i)
wrap_log n h =
    let cases : (n ≡ 2) ⊎ ((n ≡ 4) ⊎ ((n ≡ 8) ⊎ (n ≡ 16))) = grind (arith, nat_tests) in
    elim cases [ inl e ↦ (1, omega arith, e) | inr r ↦ elim r [ inl e ↦ (2, omega arith, e) | inr r ↦ elim r [ inl e ↦ (3, omega arith, e) | inr e ↦ (4, omega arith, e) ] ] ]

pub round_power : (n s : ℕ) → wrap_count n ≡ true → s ≤ 3 → (k : ℕ) × (k ≤ 7) × (n * 2 ^ s ≡ 2 ^ k)
round_power n s h l =
    let w : (i : ℕ) × (i ≤ 4) × (n ≡ 2 ^ i) = wrap_log n h in
    (w.0 + s, omega (arith, w.1), ap (λ x. x * 2 ^ s) w.2 ∙ sym (pow-add 2 w.0 s))

-- a block of 2 ^ s bytes lies within the larger block of 2 ^ k bytes around it
pub block_in_block : (f s k : ℕ) → s ≤ k → f / 2 ^ s * 2 ^ s + 2 ^ s ≤ f / 2 ^ k * 2 ^ k + 2 ^ k
block_in_block f s k h =
    let q : ℕ = 2 ^ (k - s) in
    let e : 2 ^ k ≡ q * 2 ^ s = ap (λ i. 2 ^ i) (let x : k ≡ k - s + s = omega arith in x) ∙ pow-add 2 (k - s) s in
    let up : f < (f / 2 ^ k + 1) * 2 ^ k = omega (arith, div-add-mod' f (2 ^ k), mod_below f (2 ^ k) (pow_pos k), add-mul (f / 2 ^ k) 1 (2 ^ k)) in
    let g : (f / 2 ^ k + 1) * 2 ^ k ≡ (f / 2 ^ k + 1) * q * 2 ^ s = ap (λ x. (f / 2 ^ k + 1) * x) e ∙ sym (mul_assoc (f / 2 ^ k + 1) q (2 ^ s)) in
    let lt : f / 2 ^ s < (f / 2 ^ k + 1) * q = div_below f (2 ^ s) ((f / 2 ^ k + 1) * q) (pow_pos s) (subst (λ x. f < x) g up) in
    omega (arith, more (f / 2 ^ s) ((f / 2 ^ k + 1) * q) (2 ^ s) lt, g, add-mul (f / 2 ^ k) 1 (2 ^ k))

pub width_power : (w : Width) → (k : ℕ) × (k ≤ 3) × (width_bytes w ≡ 2 ^ k)
width_power One = (0, omega arith, refl)
width_power Two = (1, omega arith, refl)
width_power Four = (2, omega arith, refl)
width_power Eight = (3, omega arith, refl)

pub width_some : (w : Width) → 0 < width_bytes w
width_some One = omega arith
width_some Two = omega arith
width_some Four = omega arith
width_some Eight = omega arith

pub size_fits : (w k a s n : ℕ) → refusal w k a s n ≡ 0 → 2 ^ s ≤ w
size_fits w k a s n h = grind (arith, nat_tests)

-- the bytes f to l lie in one word of a bus of w bytes
pub record InWord (w f l : ℕ) : Type 0 where
  pub order : f ≤ l
  pub inside : l < f / w * w + w
  pub positive : 0 < w
  pub small : w ≤ 8

-- a beat of a lawful burst lies in one word
in_word : (k s f : ℕ) → k ≤ 3 → 2 ^ s ≤ 2 ^ k → InWord (2 ^ k) f (last_from f (2 ^ s))
in_word k s f h l =
    let sk : s ≤ k = ⊎_elim (λ lt. absurd (let p : 2 ^ k < 2 ^ s = pow-lt lt in omega arith)) (λ le. le) (cases_lt k s) in
    record {
      order = omega (arith, div-add-mod' f (2 ^ s), mod_below f (2 ^ s) (pow_pos s));
      inside = omega (arith, block_in_block f s k sk, pow_pos s);
      positive = pow_pos k;
      small = pow_mono {i = k} {j = 3} h;
    }

pub beat_in_word : (w : Width) (b : RawBurst) (j : ℕ) → IsLawful (width_bytes w) b → InWord (width_bytes w) (address_of b j) (last_of b j)
unfolding last_of
beat_in_word w b j h =
    let p = width_power w in
    let n : 2 ^ b.size ≤ width_bytes w = size_fits (width_bytes w) b.kind b.start b.size b.count h in
    subst (λ x. InWord x (address_of b j) (last_from (address_of b j) (2 ^ b.size))) (sym p.2)
    (in_word p.0 b.size (address_of b j) p.1 (subst (λ x. 2 ^ b.size ≤ x) p.2 n))

-- size codes are in the order of their bytes
pub code_le : (s k : ℕ) → 2 ^ s ≤ 2 ^ k → s ≤ k
code_le s k h = ⊎_elim (λ lt. absurd (let p : 2 ^ k < 2 ^ s = pow-lt lt in omega arith)) (λ le. le) (cases_lt k s)

-- a word begins at or before each of its bytes
pub base_le : (v f : ℕ) → f / v * v ≤ f
base_le v f = omega (arith, div-add-mod' f v)

-- an INCR burst whose beats fit the width and keep to the page is lawful
pub incr_lawful : (w a s c : ℕ) → 2 ^ s ≤ w → 0 < c → c ≤ 256 → KeepsPage a (2 ^ s) c → refusal w 1 a s c ≡ 0
incr_lawful w a s c h l u p = grind (arith, nat_tests)

second_test : (p q r : Bool) (x : ℕ) → cond p 1 (cond q 2 x) ≡ 0 → r ≡ false → cond p 1 (cond r 2 x) ≡ 0
second_test true q r x h e = absurd (omega arith)
second_test false true r x h e = absurd (omega arith)
second_test false false r x h e = ap (λ t. cond t 2 x) e ∙ h

-- a lawful burst is lawful for every width that its beats fit
pub narrower : (w k a s n : ℕ) → refusal 8 k a s n ≡ 0 → 2 ^ s ≤ w → refusal w k a s n ≡ 0
narrower w k a s n h l = second_test (ltb 2 k) (ltb 8 (2 ^ s)) (ltb w (2 ^ s)) _ h (le-ltb w (2 ^ s) l)

-- what an answer tells where there is one
pub some_is : {A : Type 0} (t : Bool) (v x : A) (o : Option A) → o ≡ cond t (Some v) None → o ≡ Some x → x ≡ v
some_is true v x o e f = let g : Some v ≡ Some x = sym e ∙ f in cc
some_is false v x o e f = let g : None ≡ Some x = sym e ∙ f in absurd (let z : ◌≡◌ {A = ℕ} 0 1 = cc in omega arith)
