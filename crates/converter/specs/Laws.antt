-- What holds of the pieces of every beat.
use Rattle.std.specs.Prelude.{◌≡◌, ℕ, ◌^◌, min, true, if◌then◌else◌, List, [], ◌∷◌, Ok}
use Rattle.burst.specs.declared.width.Width.{Width}
use Rattle.burst.specs.declared.burst.Burst.{Burst}
use Rattle.burst.specs.Rules.{width_bytes}
use Rattle.burst.specs.Beats.{raw_of, address_of, last_of, last_from, covers, incr_burst}
use Rattle.slave.specs.declared.channels.Channel.{Channel}
use Rattle.slave.specs.declared.channels.Channel.TheVariants.{Write, Read}
use Rattle.slave.specs.declared.given.Given.TheVariants.{Done}
use Rattle.slave.specs.Making.{ready}
use Rattle.slave.specs.Meaning.{Meaning, board, Sound}
use Rattle.slave.specs.Lanes.{write_worst, read_word, read_worst}
use Rattle.slave.specs.Acts.{open_answer, open_after, give_answer, take_answer}
use Rattle.converter.specs.Pieces.{code_of, pieces, bytes_from, InOrder, hits, Each}
use Rattle.converter.specs.Sent.{cut_word, cut_strobe}

-- no call is refused that the piece a to e of a beat on a bus of w bytes makes at the slave m
pub record Taken (m : Meaning) (c w a e : ℕ) : Type 0 where
  pub opens : (ch : Channel) → open_answer m ch (incr_burst a c 1) ≡ Ok tt
  pub gives : (word s : ℕ)
      → give_answer (open_after m Write (incr_burst a c 1)) (cut_word w m.width word a e) (cut_strobe w m.width s a e)
      ≡ Ok (Done (write_worst (board m) m.width (bytes_from a e) (cut_strobe w m.width s a e)))
  pub takes : take_answer (open_after m Read (incr_burst a c 1))
      ≡ Ok (read_word (board m) m.width (bytes_from a e), read_worst (board m) m.width (bytes_from a e), 0)

-- the pieces of beat j of a burst over a bus of this width
abbrev pub pieces_of : Width → Burst → ℕ → List (ℕ × ℕ)
pieces_of V b j = pieces (width_bytes V) (address_of (raw_of b) j) (last_of (raw_of b) j)

-- the size code of the pieces of a burst's beats over a bus of this width
abbrev pub code_below : Width → Burst → ℕ
code_below V b = min b.size (code_of (width_bytes V))

pub record PiecesLie : Type 0 where
  -- a beat at 3 of 8 bytes over a bus of 4 bytes goes down as 3–3 and 4–7
  pub example : pieces 4 3 (last_from 3 (2 ^ 3)) ≡ ((3, 3) ∷ ((4, 7) ∷ []))
  -- the pieces run from the beat's first byte to its last, each right behind the one before and one beat of its own below
  pub order : (V : Width) (b : Burst) (j : ℕ) → InOrder (width_bytes V) (code_below V b) (last_of (raw_of b) j) (pieces_of V b j) (address_of (raw_of b) j)
  -- a byte of the beat lies in exactly one piece, any other byte in none
  pub once : (V : Width) (b : Burst) (j a : ℕ) → hits a (pieces_of V b j) ≡ (if covers (address_of (raw_of b) j) (last_of (raw_of b) j) a then 1 else 0)
  -- a live and idle slave of that width refuses no piece
  pub taken : (V : Width) (b : Burst) (j w : ℕ) (m : Meaning) → Sound m → ready m ≡ true → width_bytes V ≡ m.width → Each (Taken m (code_below V b) w) (pieces_of V b j)
