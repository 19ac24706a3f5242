-- Bytes in memory.
use Rattle.std.specs.Prelude.{ℕ, zero, suc, ◌+◌, ◌%◌, if◌then◌else◌, List, length, nat_lt, slice_index, slice_set}
use Rattle.burst.specs.Beats.{bit}
use Rattle.slave.specs.Lanes.{lane_byte}
use Rattle.slave.specs.Meaning.{ByteKind, plain, unmapped, Board}

-- the bytes of memory are plain, all others unmapped
abbrev pub kind_at : List ℕ → ℕ → ByteKind
kind_at xs a = if nat_lt a (length xs) then plain else unmapped

-- the bytes and kinds of memory; a number in memory is a byte
abbrev pub memory_board : List ℕ → Board
memory_board xs = record { bytes = λ a. slice_index xs a % 256; kinds = kind_at xs }

-- the memory after the strobed lanes below n of the word at `base` are stored
unfoldable pub put_lanes : List ℕ → ℕ → ℕ → ℕ → ℕ → List ℕ
put_lanes xs base w s zero = xs
put_lanes xs base w s (suc i) = if bit s i then slice_set (put_lanes xs base w s i) (base + i) (lane_byte w i) else put_lanes xs base w s i
