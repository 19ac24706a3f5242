-- The bytes of a frame in the lanes of a bus of eight bytes.
use Rattle.std.specs.Prelude.{ℕ, ◌+◌, ◌-◌, Bool, if◌then◌else◌, ◌&&◌, List, length, nat_le, nat_lt, slice_index}
use Rattle.burst.specs.Beats.{mask_below}
use Rattle.slave.specs.Lanes.{word_of}

-- the address a holds a byte of the frame that begins at s
abbrev pub in_frame : List ℕ → ℕ → ℕ → Bool
in_frame frame s a = nat_le s a && nat_lt (a - s) (length frame)

-- the frame's byte at the address a, 0 outside the frame
abbrev pub frame_byte : List ℕ → ℕ → ℕ → ℕ
frame_byte frame s a = if in_frame frame s a then slice_index frame (a - s) else 0

-- the word that carries the frame's bytes of the eight addresses from a on
abbrev pub frame_word : List ℕ → ℕ → ℕ → ℕ
frame_word frame s a = word_of (λ i. frame_byte frame s (a + i))

-- its strobe: the lanes that hold a byte of the frame
abbrev pub frame_strobe : List ℕ → ℕ → ℕ → ℕ
frame_strobe frame s a = mask_below (λ i. in_frame frame s (a + i)) 8
