-- Words and the bytes in their lanes.
use Rattle.std.proofs.Common.{◌≡◌, ℕ, ◌*◌, ◌%◌, ◌^◌, ◌<◌, ◌≤◌, false, not, ◌&&◌, sym, ap, ◌∙◌, arith, pow_mono}
use native.Mathlib.Nat.{div-eq_of_lt}
use Rattle.burst.specs.Beats.{covers, lane_address, lane_mask, bit, IsLawful, address_of, last_of}
use Rattle.burst.proofs.Facts.{InWord, beat_in_word}
use Rattle.burst.proofs.Masks.{below_8, none_below, mask_covers, lane_of}
use Rattle.slave.specs.Meaning.{Meaning, board, plain, read_only, absent, unmapped, Sound}
use Rattle.slave.specs.Lanes.{lane_byte, word_of, stray, shown, shown_of}
use Rattle.burst.specs.declared.raw.RawBurst.{RawBurst}
use Rattle.burst.specs.declared.width.Width.TheVariants.{Eight}

-- a word has eight lanes
pub no_lane_byte : (w i : ℕ) → w < 2 ^ 64 → 8 ≤ i → lane_byte w i ≡ 0
no_lane_byte w i h l =
    let big : 2 ^ 64 ≤ 2 ^ (8 * i) = pow_mono (let z : 64 ≤ 8 * i = omega arith in z) in
    ap (λ n. n % 256) (div-eq_of_lt (let z : w < 2 ^ (8 * i) = omega arith in z))

-- a word follows from its eight lanes
pub word_same : (f g : ℕ → ℕ) → ((k : ℕ) → k < 8 → f k ≡ g k) → word_of f ≡ word_of g
word_same f g h =
    let e0 = h 0 (omega arith) in let e1 = h 1 (omega arith) in let e2 = h 2 (omega arith) in let e3 = h 3 (omega arith) in
    let e4 = h 4 (omega arith) in let e5 = h 5 (omega arith) in let e6 = h 6 (omega arith) in let e7 = h 7 (omega arith) in
    omega arith

-- lane i of a word of bytes is the byte put there
pub lane_word : (f : ℕ → ℕ) → ((k : ℕ) → k < 8 → f k < 256) → (i : ℕ) → i < 8 → lane_byte (word_of f) i ≡ f i
lane_word f h i l =
    let b0 = h 0 (omega arith) in let b1 = h 1 (omega arith) in let b2 = h 2 (omega arith) in let b3 = h 3 (omega arith) in
    let b4 = h 4 (omega arith) in let b5 = h 5 (omega arith) in let b6 = h 6 (omega arith) in let b7 = h 7 (omega arith) in
    let P : ℕ → Type 0 = λ k. lane_byte (word_of f) k ≡ f k in
    below_8 P (omega arith) (omega arith) (omega arith) (omega arith) (omega arith) (omega arith) (omega arith) (omega arith) i l

-- what a read shows of a byte is a byte
pub shown_small : (m : Meaning) → Sound m → (a : ℕ) → shown (board m) a < 256
shown_small m s a = elim (m.kinds a) as (λ k. shown_of k (m.bytes a) < 256) [ plain ↦ s.small a | read_only ↦ s.small a | absent ↦ omega arith | unmapped ↦ omega arith ]

-- a strobe that keeps to its beat has bits only at covered addresses of the word
pub kept_lane : (w f l s : ℕ) → InWord w f l → stray w f l s ≡ false → (i : ℕ) → i < 8 → (bit s i && not (covers f l (lane_address w f i))) ≡ false
kept_lane w f l s iw h i i8 =
    ap (λ t. bit s i && not t) (sym (mask_covers w f l i iw i8)) ∙ none_below (λ k. bit s k && not (bit (lane_mask w f l) k)) 8 h i i8

-- a word of eight bytes has 64 bits
pub word_fits : (f : ℕ → ℕ) → ((k : ℕ) → k < 8 → f k < 256) → word_of f < 2 ^ 64
word_fits f h =
    let b0 = h 0 (omega arith) in let b1 = h 1 (omega arith) in let b2 = h 2 (omega arith) in let b3 = h 3 (omega arith) in
    let b4 = h 4 (omega arith) in let b5 = h 5 (omega arith) in let b6 = h 6 (omega arith) in let b7 = h 7 (omega arith) in
    omega arith

-- a covered address is the one that its lane stands for
pub covered_lane : (b : RawBurst) (j a : ℕ) → IsLawful 8 b → address_of b j ≤ a → a ≤ last_of b j → lane_address 8 (address_of b j) (a % 8) ≡ a
covered_lane b j a h lo hi =
    let p = lane_of 8 (address_of b j) (last_of b j) a (beat_in_word Eight b j h) lo hi in
    omega (arith, p.0, p.2)

-- the address that stands for a lane has its byte there
pub lane_back : (f i : ℕ) → i < 8 → lane_address 8 f i % 8 ≡ i
lane_back f i l = omega arith
