-- Where a write beat can be held, and what a slave shows behind it.
use Rattle.std.specs.Prelude.{ℕ, ◌+◌, Bool, false, not, ◌&&◌, Some, None, Option, nat_lt}
use Rattle.burst.specs.Beats.{address_of, last_of}
use Rattle.slave.specs.Meaning.{Meaning, Stand, idle, busy}
use Rattle.slave.specs.Lanes.{stray}
use Rattle.slave.specs.Acts.{give_after}
use Rattle.register.specs.declared.held.Held.{Held}

-- whether a beat with this strobe can be held: it is not the last of its burst, and the strobe keeps to its lanes
abbrev pub fits_at : ℕ → Stand → ℕ → Bool
fits_at w idle s = false
fits_at w (busy b k) s = nat_lt (k + 1) b.count && not (stray w (address_of b k) (last_of b k) s)

-- whether a beat, or none, may be held in front of a live slave that shows m
abbrev pub holds_at : Option Held → Meaning → Bool
holds_at None m = m.live
holds_at (Some h) m = m.live && fits_at m.width m.write h.strobe

-- a slave with a write beat held in front of it shows what it would after that beat
abbrev pub behind : Meaning → Option Held → Meaning
behind m None = m
behind m (Some h) = give_after m h.word h.strobe
