-- Bits of masks: folds over lanes, and the lanes that a beat uses.
use Rattle.std.proofs.Common.{◌≡◌, ℕ, zero, suc, ◌+◌, ◌-◌, ◌*◌, ◌/◌, ◌%◌, ◌^◌, ◌<◌, ◌≤◌, Bool, true, false, cond, ◌&&◌, ◌||◌, eqb, leb, sym, refl, ap, ◌∙◌, subst, ⊎_elim, add-one, arith, pow_mono, ltb, add-mul}
use native.Mathlib.Nat.{div-eq_of_lt}
use Rattle.std.proofs.lemmas.Nat.{pow-add, mod_below, mod-mul-add, div-add-mod'}
use Rattle.std.proofs.lemmas.Bool.{or_from, or_parts, and_parts, cases_lt, cases_eq, cases_Bool, leb-true, eqb-true, true≢false}
use Rattle.std.proofs.lemmas.Bool.Decides.{nat_tests}
use Rattle.burst.specs.Beats.{bit, any_below, mask_below, lane_used, lane_mask, covers, lane_address}
use Rattle.burst.specs.Laws.{LaneBits}
use Rattle.burst.proofs.Facts.{InWord}
use Rattle.std.specs.Bool.{MatchBool}
use Rattle.std.specs.List.{range_with_len, HoldsAt, AllWithin}
use Rattle.std.proofs.Common.{length}
use Rattle.std.proofs.lemmas.List.FromFn.{length-range_with_len, get_or-range_with_len}

-- where no number below n has p, each lacks it
pub none_below : (p : ℕ → Bool) (n : ℕ) → any_below p n ≡ false → (i : ℕ) → i < n → p i ≡ false
unfolding any_below
none_below p zero h i l = absurd (omega arith)
none_below p (suc n) h i l =
    let both = or_parts (any_below p n) (p n) h in
    ⊎_elim (λ lt. none_below p n both.0 i lt) (λ ge. let e : i ≡ n = omega arith in subst (λ x. p x ≡ false) (sym e) both.1) (cases_lt i n)

-- where one below n has p, one can be named
pub some_below : (p : ℕ → Bool) (n : ℕ) → any_below p n ≡ true → (i : ℕ) × (i < n) × (p i ≡ true)
unfolding any_below
some_below p zero h = absurd (true≢false (sym h))
some_below p (suc n) h =
    ⊎_elim (λ t. let q = some_below p n t in (q.0, omega (arith, q.1), q.2))
    (λ f. (n, omega arith, sym (ap (λ b. b || p n) f) ∙ h))
    (cases_Bool (any_below p n))

-- one that has p is found
pub has_below : (p : ℕ → Bool) (n i : ℕ) → i < n → p i ≡ true → any_below p n ≡ true
has_below p n i l h = ⊎_elim (λ t. t) (λ f. absurd (true≢false (sym h ∙ none_below p n f i l))) (cases_Bool (any_below p n))

-- equal tests find equally
pub any_same : (p q : ℕ → Bool) (n : ℕ) → ((i : ℕ) → i < n → p i ≡ q i) → any_below p n ≡ any_below q n
unfolding any_below
any_same p q zero h = refl
any_same p q (suc n) h = ap (λ x. x || p n) (any_same p q n (λ i l. h i (omega arith))) ∙ ap (λ x. any_below q n || x) (h n (omega arith))

-- one lane more in a mask
pub mask_more : (p : ℕ → Bool) (i m b : ℕ) → m ≡ mask_below p i → b ≡ cond (p i) (2 ^ i) 0 → m + b ≡ mask_below p (i + 1)
unfolding mask_below
mask_more p i m b e f = rw add-one (ap (λ x. x + b) e ∙ ap (λ x. mask_below p i + x) f)

pub mask_fits : (i m b : ℕ) → m < 2 ^ i → b ≤ 2 ^ i → m + b < 2 ^ (i + 1)
mask_fits i m b h l = omega (arith, pow-add 2 i 1)

-- what holds of each of eight
pub below_8 : (P : ℕ → Type 0) → P 0 → P 1 → P 2 → P 3 → P 4 → P 5 → P 6 → P 7 → (i : ℕ) → i < 8 → P i
below_8 P p0 p1 p2 p3 p4 p5 p6 p7 i l =
    let at : (n : ℕ) → P n → i ≡ n → P i = λ n p e. subst P (sym e) p in
    ⊎_elim (at 0 p0) (λ n0. ⊎_elim (at 1 p1) (λ n1. ⊎_elim (at 2 p2) (λ n2. ⊎_elim (at 3 p3) (λ n3. ⊎_elim (at 4 p4) (λ n4. ⊎_elim (at 5 p5) (λ n5.
    ⊎_elim (at 6 p6) (λ n6. at 7 p7 (omega arith)) (cases_eq i 6)) (cases_eq i 5)) (cases_eq i 4)) (cases_eq i 3)) (cases_eq i 2)) (cases_eq i 1)) (cases_eq i 0)

dig : Bool → ℕ
dig b = cond b 1 0

dig_small : (b : Bool) → dig b ≤ 1
unfolding dig
dig_small true = omega arith
dig_small false = omega arith

dig_back : (b : Bool) → eqb (dig b) 1 ≡ b
unfolding dig
dig_back true = refl
dig_back false = refl

dig_at : (b : Bool) (n : ℕ) → cond b n 0 ≡ dig b * n
unfolding dig
dig_at true n = omega arith
dig_at false n = omega arith

mask_sum : (p : ℕ → Bool)
    → mask_below p 8 ≡ dig (p 0) + dig (p 1) * 2 + dig (p 2) * 4 + dig (p 3) * 8 + dig (p 4) * 16 + dig (p 5) * 32 + dig (p 6) * 64 + dig (p 7) * 128
unfolding mask_below
mask_sum p = omega (arith, dig_at (p 0) 1, dig_at (p 1) 2, dig_at (p 2) 4, dig_at (p 3) 8, dig_at (p 4) 16, dig_at (p 5) 32, dig_at (p 6) 64, dig_at (p 7) 128)

-- each bit of a mask of eight lanes
pub bit_mask : (p : ℕ → Bool) (i : ℕ) → i < 8 → bit (mask_below p 8) i ≡ p i
bit_mask p i l =
    let sum = mask_sum p in
    let b0 = dig_small (p 0) in let b1 = dig_small (p 1) in let b2 = dig_small (p 2) in let b3 = dig_small (p 3) in
    let b4 = dig_small (p 4) in let b5 = dig_small (p 5) in let b6 = dig_small (p 6) in let b7 = dig_small (p 7) in
    let P : ℕ → Type 0 = λ k. mask_below p 8 / 2 ^ k % 2 ≡ dig (p k) in
    ap (λ n. eqb n 1) (below_8 P (omega arith) (omega arith) (omega arith) (omega arith) (omega arith) (omega arith) (omega arith) (omega arith) i l) ∙ dig_back (p i)

-- a number of eight bits has none from bit 8 on
pub no_bit : (s i : ℕ) → s < 256 → 8 ≤ i → bit s i ≡ false
no_bit s i h l =
    let big : 2 ^ 8 ≤ 2 ^ i = pow_mono l in
    let zero_is : s / 2 ^ i ≡ 0 = div-eq_of_lt (let z : s < 2 ^ i = omega arith in z) in
    ap (λ n. eqb (n % 2) 1) zero_is

-- where the byte at an address of one word lies
pub lane_of : (w f l x : ℕ) → InWord w f l → f ≤ x → x ≤ l → (x % w ≡ x - f / w * w) × (x - f / w * w < 8) × (f / w * w + (x - f / w * w) ≡ x)
lane_of w f l x iw fx xl =
    let base : ℕ = f / w * w in
    let low : base ≤ f = omega (arith, div-add-mod' f w) in
    let d : x - base < w = omega (arith, iw.inside) in
    let split : x ≡ f / w * w + (x - base) = omega arith in
    (ap (λ y. y % w) split ∙ mod-mul-add (f / w) w (x - base) d, omega (arith, iw.small), sym split)

-- one byte from f to l that travels in lane i
abbrev travelling : ℕ → ℕ → ℕ → ℕ → ℕ → Bool
travelling w f l i = λ k. leb (f + k) l && eqb ((f + k) % w) i

-- a byte of a beat is found in its lane
used_by : (w f l a : ℕ) → l < f + 8 → f ≤ a → a ≤ l → lane_used w f l (a % w) ≡ true
used_by w f l a few lo hi =
    let k : ℕ = a - f in
    let at : f + k ≡ a = omega arith in
    has_below (travelling w f l (a % w)) 8 k (omega arith)
    (let e : (leb (f + k) l && eqb ((f + k) % w) (a % w)) ≡ (leb a l && eqb (a % w) (a % w)) = ap (λ x. leb x l && eqb (x % w) (a % w)) at in
    e ∙ (let z : (leb a l && eqb (a % w) (a % w)) ≡ true = grind (arith, nat_tests) in z))

-- a used lane has a byte of the beat
used_has : (w f l i : ℕ) → lane_used w f l i ≡ true → (a : ℕ) × (f ≤ a) × (a ≤ l) × (a % w ≡ i)
used_has w f l i h =
    let q = some_below (travelling w f l i) 8 h in
    let both = and_parts (leb (f + q.0) l) (eqb ((f + q.0) % w) i) q.2 in
    (f + q.0, omega arith, leb-true (f + q.0) l both.0, eqb-true ((f + q.0) % w) i both.1)

-- the mask of a beat has exactly the bits of its lanes
pub lane_bits : (w f l : ℕ) → 0 < w → w ≤ 8 → l < f + 8 → LaneBits w f l (lane_mask w f l)
unfolding lane_mask
lane_bits w f l pos small few = record {
  set = λ a lo hi. bit_mask (lane_used w f l) (a % w) (omega (arith, mod_below a w pos)) ∙ used_by w f l a few lo hi;
  only = λ i i8 h. used_has w f l i (sym (bit_mask (lane_used w f l) i i8) ∙ h);
}

-- within one word of the bus, the lanes are those at the word's covered addresses
pub mask_covers : (w f l i : ℕ) → InWord w f l → i < 8 → bit (lane_mask w f l) i ≡ covers f l (lane_address w f i)
unfolding lane_mask
mask_covers w f l i iw i8 =
    bit_mask (lane_used w f l) i i8 ∙ ⊎_elim
    (λ t. let q = used_has w f l i t in
    let p = lane_of w f l q.0 iw q.1 q.2 in
    let at : f / w * w + i ≡ q.0 = ap (λ x. f / w * w + x) (sym q.3 ∙ p.0) ∙ p.2 in
    let lo = q.1 in let hi = q.2 in
    t ∙ sym (ap (covers f l) at ∙ (let z : covers f l q.0 ≡ true = grind (arith, nat_tests) in z)))
    (λ n. n ∙ sym (⊎_elim
    (λ c. let both = and_parts (leb f (f / w * w + i)) (leb (f / w * w + i) l) c in
    let lo = leb-true f (f / w * w + i) both.0 in
    let hi = leb-true (f / w * w + i) l both.1 in
    let p = lane_of w f l (f / w * w + i) iw lo hi in
    let lane : (f / w * w + i) % w ≡ i = omega (arith, p.0) in
    absurd (true≢false (sym (used_by w f l (f / w * w + i) (omega (arith, iw.inside, iw.small, div-add-mod' f w)) lo hi) ∙ ap (lane_used w f l) lane ∙ n)))
    (λ c. c) (cases_Bool (covers f l (f / w * w + i)))))
    (cases_Bool (lane_used w f l i))

-- where every number below n lacks p, none is found
pub no_lane : (p : ℕ → Bool) (n : ℕ) → ((i : ℕ) → i < n → p i ≡ false) → any_below p n ≡ false
unfolding any_below
no_lane p zero h = refl
no_lane p (suc n) h = or_from (any_below p n) (p n) (no_lane p n (λ i l. h i (omega arith))) (h n (omega arith))

-- what holds of each of four
pub below_4 : (P : ℕ → Type 0) → P 0 → P 1 → P 2 → P 3 → (i : ℕ) → i ≤ 3 → P i
below_4 P p0 p1 p2 p3 i l =
    let at : (n : ℕ) → P n → i ≡ n → P i = λ n p e. subst P (sym e) p in
    ⊎_elim (at 0 p0) (λ n0. ⊎_elim (at 1 p1) (λ n1. ⊎_elim (at 2 p2) (λ n2. at 3 p3 (omega arith)) (cases_eq i 2)) (cases_eq i 1)) (cases_eq i 0)

-- what a search over the eight lanes finds
pub any_found : (p : ℕ → Bool) (r : Bool) → MatchBool r ((k : ℕ) × (k < length (range_with_len 0 8)) × HoldsAt (λ x. x < 8 → p x ≡ true) (range_with_len 0 8) k) (AllWithin (λ x. x < 8 → p x ≡ false) (range_with_len 0 8) 0 (length (range_with_len 0 8))) → r ≡ any_below p 8
any_found p true (k, l, at) =
    let kl : k < 8 = subst (λ n. k < n) (length-range_with_len 0 8) l in
    sym (has_below p 8 k kl (subst (λ x. x < 8 → p x ≡ true) (get_or-range_with_len 0 8 k 0 kl ∙ (let z : 0 + k ≡ k = omega arith in z)) (at 0) kl))
any_found p false none =
    sym (no_lane p 8 (λ i il. subst (λ x. x < 8 → p x ≡ false) (get_or-range_with_len 0 8 i 0 il ∙ (let z : 0 + i ≡ i = omega arith in z)) (none i 0 (omega arith) (subst (λ n. i < n) (sym (length-range_with_len 0 8)) il)) il))

-- the first address from f on whose byte travels in lane i of a bus of w bytes: how far it is, and that none before it does
module _ (w f i : ℕ) (pos : 0 < w) (lane : i < w) where
  abbrev q : ℕ
  q = f / w

  abbrev r : ℕ
  r = f % w

  split : q * w + r ≡ f
  split = div-add-mod' f w

  below_w : r < w
  below_w = mod_below f w pos

  abbrev ahead : ℕ
  ahead = (i + w - r) % w

  ahead_low : r ≤ i → ahead ≡ i - r
  ahead_low h = ap (λ x. x % w) (let z : i + w - r ≡ 1 * w + (i - r) = omega arith in z) ∙ mod-mul-add 1 w (i - r) (omega arith)

  ahead_high : i < r → ahead ≡ i + w - r
  ahead_high h = let b = below_w in ap (λ x. x % w) (let z : i + w - r ≡ 0 * w + (i + w - r) = omega arith in z) ∙ mod-mul-add 0 w (i + w - r) (omega arith)

  -- the lane of the byte at f + k, by where r + k lies
  lane_low : (k : ℕ) → r + k < w → (f + k) % w ≡ r + k
  lane_low k h = ap (λ x. x % w) (let z : f + k ≡ q * w + (r + k) = omega (arith, split) in z) ∙ mod-mul-add q w (r + k) h

  lane_high : (k : ℕ) → w ≤ r + k → r + k - w < w → (f + k) % w ≡ r + k - w
  lane_high k h l = ap (λ x. x % w) (let z : f + k ≡ (q + 1) * w + (r + k - w) = omega (arith, split, add-mul q 1 w) in z) ∙ mod-mul-add (q + 1) w (r + k - w) l

  pub ahead_short : ahead < w
  ahead_short = mod_below (i + w - r) w pos

  pub ahead_there : (f + ahead) % w ≡ i
  ahead_there =
      ⊎_elim
      (λ h. let d = ahead_high h in let b = below_w in lane_high ahead (omega arith) (omega arith) ∙ (let z : r + ahead - w ≡ i = omega arith in z))
      (λ h. let d = ahead_low h in lane_low ahead (omega arith) ∙ (let z : r + ahead ≡ i = omega arith in z))
      (cases_lt i r)

  pub none_nearer : (k : ℕ) → k < ahead → (f + k) % w ≡ i → ⊥
  none_nearer k h e =
      ⊎_elim
      (λ l. let d = ahead_high l in let b = below_w in
      ⊎_elim (λ u. let z = lane_low k u in omega arith) (λ u. let z = lane_high k u (omega arith) in omega arith) (cases_lt (r + k) w))
      (λ l. let d = ahead_low l in let z = lane_low k (omega arith) in omega arith)
      (cases_lt i r)

-- a lane of the bus is used exactly if that address is covered
pub first_use : (w f l i : ℕ) → 0 < w → w ≤ 8 → (ltb i w && leb (f + (i + w - f % w) % w) l) ≡ lane_used w f l i
first_use w f l i pos small =
    ⊎_elim
    (λ lt. let d : ℕ = (i + w - f % w) % w in
    let short = ahead_short w f i pos lt in
    let there = ahead_there w f i pos lt in
    ⊎_elim
    (λ past. (let z : (ltb i w && leb (f + d) l) ≡ false = grind (arith, nat_tests) in z)
    ∙ sym (no_lane (travelling w f l i) 8 (λ k k8.
    ⊎_elim (λ near. let other = none_nearer w f i pos lt k near in grind (arith, nat_tests)) (λ far. grind (arith, nat_tests)) (cases_lt k d))))
    (λ within. (let z : (ltb i w && leb (f + d) l) ≡ true = grind (arith, nat_tests) in z)
    ∙ sym (has_below (travelling w f l i) 8 d (omega arith) (grind (arith, nat_tests))))
    (cases_lt l (f + d)))
    (λ ge. (let z : (ltb i w && leb (f + (i + w - f % w) % w) l) ≡ false = grind (arith, nat_tests) in z)
    ∙ sym (no_lane (travelling w f l i) 8 (λ k k8. let b = mod_below (f + k) w pos in grind (arith, nat_tests))))
    (cases_lt i w)
