-- What a store of lanes leaves in memory.
use Rattle.std.specs.Prelude.{◌≡◌, ℕ, zero, suc, ◌+◌, ◌-◌, ◌*◌, ◌/◌, ◌%◌, ◌^◌, ◌<◌, ◌≤◌, Bool, true, false, cond, not, ◌&&◌, ltb, List, length, nat_le, nat_lt, slice_index, slice_set, refl}
use Rattle.std.proofs.Common.{arith, eqb, add-one, sym, ◌∙◌, ap, ⊎_elim, length-set, mod-eq_of_lt}
use Rattle.std.proofs.lemmas.Bool.{cond_both, cond-false, cases_lt, cases_Bool}
use Rattle.std.proofs.lemmas.Nat.{mod_below}
use Rattle.burst.specs.Beats.{covers}
use Rattle.burst.proofs.Facts.{InWord, base_le}
use Rattle.burst.proofs.Masks.{lane_of}
use Rattle.slave.proofs.Words.{kept_lane}
use Rattle.std.proofs.lemmas.Bool.Decides.{nat_tests}
use Rattle.std.proofs.lemmas.Grind.{common_steps}
use Rattle.slave.specs.Lanes.{lane_byte, stray, is_plain}
use Rattle.burst.specs.Beats.{bit}
use Rattle.slave.specs.Meaning.{plain, unmapped}
use Rattle.ram.specs.Memory.{put_lanes, kind_at}

-- one lane more
pub put_more : (xs : List ℕ) (base w s i : ℕ) (cur r : List ℕ) → cur ≡ put_lanes xs base w s i
    → r ≡ cond (bit s i) (slice_set cur (base + i) (lane_byte w i)) cur → r ≡ put_lanes xs base w s (i + 1)
unfolding put_lanes
put_more xs base w s i cur r e f = rw add-one (f ∙ ap (λ x. cond (bit s i) (slice_set x (base + i) (lane_byte w i)) x) e)

-- a byte's kind follows from the length alone
pub kind_same : (xs ys : List ℕ) (a : ℕ) → length xs ≡ length ys → kind_at xs a ≡ kind_at ys a
kind_same xs ys a e = ap (λ n. cond (nat_lt a n) plain unmapped) e

pub length_put : (xs : List ℕ) (base w s n : ℕ) → length (put_lanes xs base w s n) ≡ length xs
unfolding put_lanes
length_put xs base w s zero = refl
length_put xs base w s (suc i) =
    cond_both (bit s i) (slice_set (put_lanes xs base w s i) (base + i) (lane_byte w i)) (put_lanes xs base w s i) (λ ys. length ys ≡ length xs)
    (λ _. length-set (put_lanes xs base w s i) (base + i) (lane_byte w i) ∙ length_put xs base w s i) (λ _. length_put xs base w s i)

-- whether the lanes below n at `base` store the byte at a, in memory of so many bytes
abbrev hit : ℕ → ℕ → (ℕ → Bool) → ℕ → ℕ → Bool
hit base n strobed len a = ((nat_le base a && nat_lt a (base + n)) && strobed (a - base)) && nat_lt a len

-- one lane more: a byte that it stores, and one that it does not
one_more : (f : ℕ → ℕ) (strobed : ℕ → Bool) (base i len a old cur : ℕ) → cur ≡ cond (hit base i strobed len a) (f (a - base)) old → strobed i ≡ true
    → cond (eqb a (base + i) && ltb a len) (f i) cur ≡ cond (hit base (suc i) strobed len a) (f (a - base)) old
one_more f strobed base i len a old cur e t = grind (arith, nat_tests)

none_more : (f : ℕ → ℕ) (strobed : ℕ → Bool) (base i len a old cur : ℕ) → cur ≡ cond (hit base i strobed len a) (f (a - base)) old → strobed i ≡ false
    → cur ≡ cond (hit base (suc i) strobed len a) (f (a - base)) old
none_more f strobed base i len a old cur e t = grind (arith, nat_tests)

-- the byte at a after a store at j
set_get : (xs : List ℕ) (j v a : ℕ) → slice_index (slice_set xs j v) a ≡ cond (eqb a j && ltb a (length xs)) v (slice_index xs a)
set_get xs j v a = grind (arith, nat_tests, common_steps)

-- the byte at a after a store of lanes
pub put_get : (xs : List ℕ) (base w s n a : ℕ)
    → slice_index (put_lanes xs base w s n) a ≡ cond (hit base n (bit s) (length xs) a) (lane_byte w (a - base)) (slice_index xs a)
unfolding put_lanes
put_get xs base w s zero a = sym (cond-false (hit base 0 (bit s) (length xs) a) (lane_byte w (a - base)) (slice_index xs a) (grind (arith, nat_tests)))
put_get xs base w s (suc i) a =
    let ys : List ℕ = put_lanes xs base w s i in
    let ih = put_get xs base w s i a in
    let len : length ys ≡ length xs = length_put xs base w s i in
    cond_both (bit s i) (slice_set ys (base + i) (lane_byte w i)) ys (λ zs. slice_index zs a ≡ cond (hit base (suc i) (bit s) (length xs) a) (lane_byte w (a - base)) (slice_index xs a))
    (λ t. set_get ys (base + i) (lane_byte w i) a ∙ ap (λ n. cond (eqb a (base + i) && ltb a n) (lane_byte w i) (slice_index ys a)) len ∙ one_more (lane_byte w) (bit s) base i (length xs) a (slice_index xs a) (slice_index ys a) ih t)
    (λ t. none_more (lane_byte w) (bit s) base i (length xs) a (slice_index xs a) (slice_index ys a) ih t)

-- a byte takes writes where memory is
plain_is : (xs : List ℕ) (a : ℕ) → is_plain (kind_at xs a) ≡ ltb a (length xs)
plain_is xs a = elim (ltb a (length xs)) as (λ t. is_plain (cond t plain unmapped) ≡ t) [ true ↦ refl | false ↦ refl ]

-- a byte that no strobed lane stands for is not stored
unhit : (strobed : ℕ → Bool) (base len a : ℕ) → (base ≤ a → a < base + 8 → strobed (a - base) ≡ false) → hit base 8 strobed len a ≡ false
unhit strobed base len a h =
    ⊎_elim (λ lt. grind (arith, nat_tests))
    (λ ge. ⊎_elim (λ lt. let unset : strobed (a - base) ≡ false = h ge lt in grind (arith, nat_tests)) (λ far. grind (arith, nat_tests)) (cases_lt a (base + 8)))
    (cases_lt a base)

-- the lanes of a beat with a strobe that keeps to it store the strobed bytes that it covers
hit_is : (w f l s len a : ℕ) → InWord w f l → stray w f l s ≡ false → hit (f / w * w) 8 (bit s) len a ≡ ((covers f l a && bit s (a % w)) && ltb a len)
hit_is w f l s len a iw st =
    let base : ℕ = f / w * w in
    ⊎_elim
    (λ (c : covers f l a ≡ true). let lo : f ≤ a = grind (arith, nat_tests) in
    let hi : a ≤ l = grind (arith, nat_tests) in
    let low : base ≤ f = base_le w f in
    let lane = lane_of w f l a iw lo hi in
    let near : a - base < 8 = lane.1 in
    rw lane.0 (grind (arith, nat_tests)))
    (λ (n : covers f l a ≡ false). rw n (unhit (bit s) base len a (λ lo hi.
    let at : base + (a - base) ≡ a = omega arith in
    let kept : (bit s (a - base) && not (covers f l (base + (a - base)))) ≡ false = kept_lane w f l s iw st (a - base) (omega arith) in
    let kept' : (bit s (a - base) && true) ≡ false = rw (at, n) at kept in
    grind (arith, nat_tests))))
    (cases_Bool (covers f l a))

-- what a byte comes to where a test says so
chosen : (t : Bool) (x y z : ℕ) → (t ≡ true → x % 256 ≡ z) → cond t x y % 256 ≡ cond t z (y % 256)
chosen true x y z h = h refl
chosen false x y z h = refl

-- what a store of lanes leaves is what a write beat means
pub put_written : (xs : List ℕ) (w f l word s : ℕ) → InWord w f l → stray w f l s ≡ false → (a : ℕ)
    → slice_index (put_lanes xs (f / w * w) word s 8) a % 256
    ≡ cond ((covers f l a && bit s (a % w)) && is_plain (kind_at xs a)) (lane_byte word (a % w)) (slice_index xs a % 256)
put_written xs w f l word s iw st a =
    let base : ℕ = f / w * w in
    let t : Bool = (covers f l a && bit s (a % w)) && ltb a (length xs) in
    let lane : t ≡ true → lane_byte word (a - base) % 256 ≡ lane_byte word (a % w) = λ e.
    let lo : f ≤ a = grind (arith, nat_tests) in
    let hi : a ≤ l = grind (arith, nat_tests) in
    mod-eq_of_lt (mod_below (word / 2 ^ (8 * (a - base))) 256 (omega arith)) ∙ ap (lane_byte word) (sym (lane_of w f l a iw lo hi).0) in
    ap (λ x. x % 256) (put_get xs base word s 8 a ∙ ap (λ b. cond b (lane_byte word (a - base)) (slice_index xs a)) (hit_is w f l s (length xs) a iw st))
    ∙ chosen t (lane_byte word (a - base)) (slice_index xs a) (lane_byte word (a % w)) lane
    ∙ ap (λ p. cond ((covers f l a && bit s (a % w)) && p) (lane_byte word (a % w)) (slice_index xs a % 256)) (sym (plain_is xs a))
