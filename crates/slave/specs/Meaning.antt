-- What a slave shows, and what holds of every slave at all times.
use Rattle.std.specs.Prelude.{◌≡◌, ℕ, ◌^◌, ◌<◌, ◌≤◌, Bool, true, false, Option, Some, None, ◌&&◌, ◌==◌, nat_lt}
use Rattle.burst.specs.declared.raw.RawBurst.{RawBurst}
use Rattle.burst.specs.Beats.{raw_of, first_refusal}
use Rattle.slave.specs.declared.response.Response.{Response}
use Rattle.slave.specs.declared.response.Response.TheVariants.{Okay}
use Rattle.slave.specs.declared.channels.Channel.{Channel}
use Rattle.slave.specs.declared.channels.Channel.TheVariants.{Write, Read}
use Rattle.slave.specs.declared.open_burst.OpenBurst.{OpenBurst}

-- what a byte is: a plain one takes writes, a read-only one keeps its value, an absent or unmapped one is not there
pub data ByteKind : Type 0 where
  plain : ByteKind
  read_only : ByteKind
  absent : ByteKind
  unmapped : ByteKind

-- the byte and the kind of every address
pub record Board : Type 0 where
  pub bytes : ℕ → ℕ
  pub kinds : ℕ → ByteKind

-- where a channel stands: idle, or the open burst with the number of beats taken
pub data Stand : Type 0 where
  idle : Stand
  busy : RawBurst → ℕ → Stand

-- what a slave shows: a byte and a kind for every address, where both channels stand, and the worst response of the open write
pub record Meaning : Type 0 where
  pub live : Bool
  pub width : ℕ
  pub most : ℕ
  pub full : Bool
  pub bytes : ℕ → ℕ
  pub kinds : ℕ → ByteKind
  pub write : Stand
  pub worst : Response
  pub read : Stand

-- what a slave shows of its bytes
abbrev pub board : Meaning → Board
board m = record { bytes = m.bytes; kinds = m.kinds }

-- every dead slave shows this
abbrev pub dead : Meaning
dead = record { live = false; width = 8; most = 256; full = true; bytes = λ _. 0; kinds = λ _. unmapped; write = idle; worst = Okay; read = idle }

-- the slave with its read channel standing elsewhere
abbrev pub with_read : Stand → Meaning → Meaning
with_read p m = record m { read = p }

-- the slave with its write channel standing elsewhere, another worst response and other bytes
abbrev pub with_write : Stand → Response → (ℕ → ℕ) → Meaning → Meaning
with_write p r f m = record m { write = p; worst = r; bytes = f }

-- where a channel stands
abbrev pub stand_at : Meaning → Channel → Stand
stand_at m Write = m.write
stand_at m Read = m.read

-- a place as a slave tells it
abbrev pub told : Option OpenBurst → Stand
told None = idle
told (Some o) = busy (raw_of o.burst) o.taken

-- the channel has no open burst
abbrev pub is_idle : Stand → Bool
is_idle idle = true
is_idle (busy b k) = false

-- two bursts were asked for alike
abbrev pub same_burst : RawBurst → RawBurst → Bool
same_burst b c = (b.kind == c.kind && b.start == c.start) && (b.size == c.size && b.count == c.count)

-- the channel stands at beat k of this burst
abbrev pub is_at : RawBurst → ℕ → Stand → Bool
is_at b k idle = false
is_at b k (busy c i) = same_burst b c && k == i

-- two channels stand alike
abbrev pub same_stand : Stand → Stand → Bool
same_stand idle q = is_idle q
same_stand (busy b k) q = is_at b k q

-- an open burst is lawful for the width, and a beat of it is left
abbrev pub sound_stand : ℕ → Stand → Bool
sound_stand w idle = true
sound_stand w (busy b k) = nat_lt k b.count && first_refusal w b == 0

-- the byte is there to be read
abbrev pub is_there : ByteKind → Bool
is_there plain = true
is_there read_only = true
is_there absent = false
is_there unmapped = false

-- what holds of every slave at all times
pub record Sound (m : Meaning) : Type 0 where
  -- a byte is below 256, and 0 where it is absent or unmapped
  pub small : (a : ℕ) → m.bytes a < 256
  pub void : (a : ℕ) → is_there (m.kinds a) ≡ false → m.bytes a ≡ 0
  -- the width is 1, 2, 4 or 8
  pub wide : (k : ℕ) × (k ≤ 3) × (m.width ≡ 2 ^ k)
  -- a burst has 1 to 256 beats at most, and 256 at a full slave
  pub some : 1 ≤ m.most
  pub few : m.most ≤ 256
  pub whole : m.full ≡ true → m.most ≡ 256
  -- an open burst is lawful for the width and has a beat left
  pub write : sound_stand m.width m.write ≡ true
  pub read : sound_stand m.width m.read ≡ true
  -- an idle write channel has no worse response than OKAY
  pub quiet : is_idle m.write ≡ true → m.worst ≡ Okay
  -- a dead slave shows nothing
  pub gone : m.live ≡ false → m ≡ dead
