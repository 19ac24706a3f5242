-- What holds of the beats of every lawful burst.
use Rattle.std.specs.Prelude.{◌≡◌, ℕ, ◌+◌, ◌/◌, ◌%◌, ◌^◌, ◌<◌, ◌≤◌, Bool, true, ◌≢◌}
use Rattle.burst.specs.declared.raw.RawBurst.{RawBurst}
use Rattle.burst.specs.Beats.{address_of, last_of, covers, span_of, bit}

-- beat j covers the byte at a
abbrev pub covered : RawBurst → ℕ → ℕ → Bool
covered b j a = covers (address_of b j) (last_of b j) a

-- exactly one beat covers the byte at a
pub record Once (b : RawBurst) (a : ℕ) : Type 0 where
  pub beat : ℕ
  pub counted : beat < b.count
  pub here : covered b beat a ≡ true
  pub only : (i : ℕ) → i < b.count → covered b i a ≡ true → i ≡ beat

-- what the standard says of the beats of a lawful burst
pub record BeatsLie (b : RawBurst) : Type 0 where
  -- every covered byte lies in the page of the start
  pub page : (j a : ℕ) → j < b.count → covered b j a ≡ true → a / 4096 ≡ b.start / 4096
  -- a beat covers one byte at least, and N = 2 ^ size at most
  pub some : (j : ℕ) → address_of b j ≤ last_of b j
  pub few : (j : ℕ) → last_of b j < address_of b j + 2 ^ b.size
  -- no beat crosses a multiple of N
  pub block : (j a : ℕ) → covered b j a ≡ true → a / 2 ^ b.size ≡ address_of b j / 2 ^ b.size
  -- the beats of an INCR burst go on, each right behind the one before
  pub order : b.kind ≡ 1 → (j : ℕ) → j + 1 < b.count → address_of b (j + 1) ≡ last_of b j + 1
  -- no beat leaves the span
  pub within : (j a : ℕ) → j < b.count → covered b j a ≡ true → ((span_of b).first ≤ a) × (a ≤ (span_of b).last)
  -- the beats of an INCR burst cover its range exactly once, those of a WRAP burst its container
  pub once : (b.kind ≢ 0) → (a : ℕ) → (span_of b).first ≤ a → a ≤ (span_of b).last → Once b a

-- bit i of a mask is set exactly if a byte from f to l travels in lane i of a bus of w bytes
pub record LaneBits (w f l mask : ℕ) : Type 0 where
  pub set : (a : ℕ) → f ≤ a → a ≤ l → bit mask (a % w) ≡ true
  pub only : (i : ℕ) → i < 8 → bit mask i ≡ true → (a : ℕ) × (f ≤ a) × (a ≤ l) × (a % w ≡ i)
