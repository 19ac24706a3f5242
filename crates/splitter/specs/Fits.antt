-- Where the slave below a splitter stands.
use Rattle.std.specs.Prelude.{ℕ, Bool, ◌&&◌, Some, None, Option, nat_le}
use Rattle.burst.specs.declared.raw.RawBurst.{RawBurst}
use Rattle.slave.specs.declared.channels.Channels.{Channels}
use Rattle.slave.specs.Meaning.{Meaning, Stand, idle, busy, same_stand, told}
use Rattle.splitter.specs.Runs.{run_answer}

-- the run that a place implies below, with the beat of it that is next
abbrev pub run_below : ℕ → Stand → Option (RawBurst × ℕ)
run_below M idle = None
run_below M (busy b j) = run_answer M b j

-- a channel that stands at this beat of this run, or idle
abbrev pub run_stand : Option (RawBurst × ℕ) → Stand
run_stand (Some x) = busy x.0 x.1
run_stand None = idle

-- where the channel below stands for the splitter's own place: idle with it, or at the run and the beat that the next beat has
abbrev pub stand_below : ℕ → Stand → Stand
stand_below M p = run_stand (run_below M p)

-- a number of beats that the slave below takes at once
abbrev pub numbered : ℕ → Meaning → Bool
numbered M m = nat_le 1 M && nat_le M m.most

-- the slave below is live, takes M beats at once, and stands where the record of both channels implies
abbrev pub stands : ℕ → Channels → Meaning → Bool
stands M c m =
    (m.live && numbered M m)
    && (same_stand (stand_below M (told c.write.place)) m.write && same_stand (stand_below M (told c.read.place)) m.read)
