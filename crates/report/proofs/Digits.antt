-- A word's digits are those of its bytes, the highest first.
use Rattle.std.proofs.Common.{◌≡◌, ℕ, zero, suc, ◌/◌, ◌%◌, ◌^◌, ◌++◌, refl, sym, ap, ◌∙◌, append_assoc}
use Rattle.std.proofs.Math.Nat.{div-div-eq-div-mul, pow-succ'}
use Rattle.std.specs.Int.{byte_at, bytes_high_first}
use Rattle.std.specs.List.{flat_map}
use Rattle.report.specs.Lines.{hex2, hex_bytes}

-- a byte above the lowest is a byte of what stands above that one
byte_up : (k w : ℕ) → byte_at (suc k) w ≡ byte_at k (w / 256)
byte_up zero w = refl
byte_up (suc k) w = ap (λ n. n % 256) (ap (λ m. w / m) (pow-succ' 256 (suc k)) ∙ sym (div-div-eq-div-mul w 256 (256 ^ suc k)))

-- the highest byte, then the others
highest_first : (k w : ℕ) → hex2 (byte_at k w) ++ hex_bytes k w ≡ hex_bytes (suc k) w
highest_first zero w = refl
highest_first (suc k) w = sym (append_assoc (hex2 (byte_at (suc k) w)) (hex_bytes k (w / 256)) (hex2 (w % 256))) ∙ ap (λ l. l ++ hex2 (w % 256)) (ap (λ b. hex2 b ++ hex_bytes k (w / 256)) (byte_up k w) ∙ highest_first k (w / 256))

pub byte_by_byte : (k w : ℕ) → flat_map hex2 (bytes_high_first k w) ≡ hex_bytes k w
byte_by_byte zero w = refl
byte_by_byte (suc k) w = ap (λ l. hex2 (byte_at k w) ++ l) (byte_by_byte k w) ∙ highest_first k w
