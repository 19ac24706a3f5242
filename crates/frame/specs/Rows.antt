-- The bursts that the frame goes in, and that they bring each of its bytes once.
use Rattle.std.specs.Prelude.{◌≡◌, ℕ, ◌+◌, ◌/◌, ◌<◌, List, [], ◌∷◌, length, slice_index, slice_index_or}
use Rattle.workload.specs.declared.step.Puts.{Puts}
use Rattle.workload.specs.Moves.{puts_of}
use Rattle.workload.specs.Law.{Strobes, StrobedOnce}
use Rattle.frame.specs.declared.rows.Row.{Row}
use Rattle.frame.specs.declared.rows.TheConstants.{FRAME_BYTES, START}

-- the puts of a burst, from the block of eight bytes on that it starts in
abbrev pub row_puts : Row → Puts
row_puts r = record { master = 0; start = START; block = r.start / 8; beats = r.beats }

-- a burst by its ID, its start and its beats
abbrev pub row : ℕ → ℕ → ℕ → Row
row id start beats = record { id = id; start = start; beats = beats }

-- the bursts of the frame: the first begins at its odd address, the last has its last byte
abbrev pub frame_rows : List Row
frame_rows = row 0 0x101 16 ∷ row 1 0x180 16 ∷ row 2 0x200 16 ∷ row 3 0x280 16 ∷ row 4 0x300 16 ∷ row 5 0x380 1 ∷ []

-- burst number i
abbrev pub row_at : ℕ → Row
row_at i = slice_index_or frame_rows i (row 0 0 0)

-- the puts of burst number i put byte k of the frame once, and those of no other burst do
pub record PutBy (frame : List ℕ) (k i : ℕ) : Type 0 where
  pub one : i < length frame_rows
  pub once : StrobedOnce (row_puts (row_at i)) (puts_of frame (row_puts (row_at i))) (START + k) (slice_index frame k)
  pub no_other : (j beat v : ℕ) → j < length frame_rows → Strobes (row_puts (row_at j)) (puts_of frame (row_puts (row_at j))) beat (START + k) v → j ≡ i

-- every byte of the frame is put exactly once
abbrev pub WrittenOnce : List ℕ → Type 0
WrittenOnce frame = (k : ℕ) → k < FRAME_BYTES → (i : ℕ) × PutBy frame k i
