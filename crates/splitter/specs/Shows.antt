-- What a splitter shows.
use Rattle.std.specs.Prelude.{ℕ, true}
use Rattle.slave.specs.declared.response.Response.{Response}
use Rattle.slave.specs.declared.channels.Channels.{Channels}
use Rattle.slave.specs.Channels.{worst_at}
use Rattle.slave.specs.Lanes.{worse}
use Rattle.slave.specs.Meaning.{Meaning, Stand, told}
use Rattle.splitter.specs.declared.splitter.Splitter.{Splitter}

-- the slave below, but full and with the splitter's own places: the write place w with the worst response of the runs that are
-- over and of the one that is open below, and the read place r
abbrev pub split_shows : Stand → Response → Stand → Meaning → Meaning
split_shows w kept r m =
    record m { live = true; most = 256; full = true; write = w; worst = worst_at w (worse kept m.worst); read = r }

-- by the splitter's record and by what the slave below shows
abbrev pub splits : Channels → Meaning → Meaning
splits c m = split_shows (told c.write.place) c.write.worst (told c.read.place) m

-- a splitter, by what its slave below shows
abbrev pub shows : {S : Type 0} {g : _} → (S → Meaning) → Splitter S g → Meaning
shows meaning x = splits x.channels (meaning x.below)

-- the number of a splitter
abbrev pub number_of : {S : Type 0} {g : _} → Splitter S g → ℕ
number_of x = x.number

-- the slave below a splitter
abbrev pub below_of : {S : Type 0} {g : _} → Splitter S g → S
below_of x = x.below
