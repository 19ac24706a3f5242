-- The law of a burst's puts of a frame: which addresses they strobe, and with which bytes.
use Rattle.std.specs.Prelude.{◌≡◌, ℕ, ◌+◌, ◌*◌, ◌/◌, ◌%◌, ◌<◌, ◌≤◌, Bool, true, List, length, Some, ◌==◌, slice_get, slice_index}
use Rattle.burst.specs.Beats.{bit}
use Rattle.slave.specs.Lanes.{lane_byte}
use Rattle.fabric.specs.declared.types.Act.{Act}
use Rattle.fabric.specs.declared.types.Act.TheVariants.{Put}
use Rattle.workload.specs.declared.step.Puts.{Puts}

-- act number j is a put of this master with this last mark
pub record PutAt (acts : List Act) (j master : ℕ) (last : Bool) : Type 0 where
  pub word : ℕ
  pub strobe : ℕ
  pub is : slice_get acts j ≡ Some (Put master word strobe last)

-- act number j is a put that strobes the address a with the byte v: a lies in the put's eight bytes, those of block number
-- block + j; the strobe has the bit of its lane, and the word has the byte in that lane
pub record Strobes (p : Puts) (acts : List Act) (j a v : ℕ) : Type 0 where
  pub last : Bool
  pub put : PutAt acts j p.master last
  pub block : a / 8 ≡ p.block + j
  pub strobed : bit put.strobe (a % 8) ≡ true
  pub byte : lane_byte put.word (a % 8) ≡ v

-- exactly one of the acts strobes the address a, and with the byte v
pub record StrobedOnce (p : Puts) (acts : List Act) (a v : ℕ) : Type 0 where
  pub beat : ℕ
  pub here : Strobes p acts beat a v
  pub only : (j w : ℕ) → Strobes p acts j a w → j ≡ beat

-- the acts carry what the puts' blocks hold of the frame
pub record CarriesFrame (frame : List ℕ) (p : Puts) (acts : List Act) : Type 0 where
  -- a put of the master for each beat; the last mark is 1 at the last one alone
  pub count : length acts ≡ p.beats
  pub marks : (j : ℕ) → j < p.beats → PutAt acts j p.master (j + 1 == p.beats)
  -- each of the frame's addresses in the blocks is strobed exactly once, with its byte
  pub each : (k : ℕ) → k < length frame → p.block * 8 ≤ p.start + k → p.start + k < (p.block + p.beats) * 8
      → StrobedOnce p acts (p.start + k) (slice_index frame k)
  -- and no other address is strobed
  pub no_other : (j a v : ℕ) → Strobes p acts j a v → (k : ℕ) × (k < length frame) × (a ≡ p.start + k)
  -- so blocks that hold the whole frame carry it whole
  pub whole : p.block * 8 ≤ p.start → p.start + length frame ≤ (p.block + p.beats) * 8
      → (k : ℕ) → k < length frame → StrobedOnce p acts (p.start + k) (slice_index frame k)
