-- What a part of a beat reads and writes, from one address up to, and not at, another.
use Rattle.std.specs.Prelude.{ℕ, ◌+◌, ◌*◌, ◌/◌, ◌%◌, Bool, if◌then◌else◌, ◌&&◌, nat_le, nat_lt}
use Rattle.burst.specs.declared.cover.Cover.{Cover}
use Rattle.burst.specs.Beats.{bit}
use Rattle.slave.specs.declared.response.Response.{Response}
use Rattle.slave.specs.declared.response.Response.TheVariants.{Okay}
use Rattle.slave.specs.Meaning.{Meaning, ByteKind, Board, board, idle, with_write}
use Rattle.slave.specs.Lanes.{lane_byte, word_of, worst_lane, write_response, read_response, is_plain}

-- whether the address x lies from f up to, and not at, a
abbrev pub spans : ℕ → ℕ → ℕ → Bool
spans f a x = nat_le f x && nat_lt x a

-- the worst of g over the addresses from f up to a, in the lanes at `base`
abbrev pub span_worst : (ℕ → Response) → ℕ → ℕ → ℕ → Response
span_worst g base f a = worst_lane (λ i. if spans f a (base + i) then g (base + i) else Okay) 8

-- the bytes of h at those addresses in their lanes
abbrev pub span_word : (ℕ → ℕ) → ℕ → ℕ → ℕ → ℕ
span_word h base f a = word_of (λ i. if spans f a (base + i) then h (base + i) else 0)

-- the bytes after those from f up to a are written, each from its lane on a bus of w bytes
abbrev pub wrote : ℕ → Board → ℕ → ℕ → ℕ → ℕ → (ℕ → ℕ)
wrote w d f a word s = λ x. if (spans f a x && bit s (x % w)) && is_plain (d.kinds x) then lane_byte word (x % w) else d.bytes x

-- how the write of the byte at x goes, OKAY without its strobe bit
abbrev pub wrote_at : ℕ → (ℕ → ByteKind) → ℕ → ℕ → Response
wrote_at w kinds s x = if bit s (x % w) then write_response (kinds x) else Okay

-- how the read of the byte at x goes
abbrev pub read_at : Board → ℕ → Response
read_at d x = read_response (d.kinds x)

-- the worst of g over the bytes of a beat on a bus of w bytes
abbrev pub worst_over : (ℕ → Response) → ℕ → Cover → Response
worst_over g w c = span_worst g (c.first / w * w) c.first (c.last + 1)

-- the bytes of h in the lanes of that beat
abbrev pub word_over : (ℕ → ℕ) → ℕ → Cover → ℕ
word_over h w c = span_word h (c.first / w * w) c.first (c.last + 1)

-- the slave m after a write of that beat, with idle channels
abbrev pub wrote_over : ℕ → Meaning → Cover → ℕ → ℕ → Meaning
wrote_over w m c word s = with_write idle Okay (wrote w (board m) c.first (c.last + 1) word s) m
