-- Which slave a splitter may stand over, and what it shows then.
use Rattle.std.specs.Prelude.{ℕ, if◌then◌else◌, Ok, Err, Result}
use Rattle.slave.specs.declared.response.Response.TheVariants.{Okay}
use Rattle.slave.specs.declared.making.MakeFault.{MakeFault}
use Rattle.slave.specs.declared.making.MakeFault.TheVariants.{Measure, Below}
use Rattle.slave.specs.Making.{ready}
use Rattle.slave.specs.Meaning.{Meaning, idle, dead}
use Rattle.splitter.specs.Fits.{numbered}
use Rattle.splitter.specs.Shows.{split_shows}

-- whether a splitter in runs of M may be made over a slave
abbrev pub make_answer : ℕ → Meaning → Result (Unit {0}) MakeFault
make_answer M m = if ready m then (if numbered M m then Ok tt else Err Measure) else Err Below

-- what is shown where a making is accepted, and where it is refused
abbrev pub made_as : Result (Unit {0}) MakeFault → Meaning → Meaning
made_as (Ok x) m = split_shows idle Okay idle m
made_as (Err e) m = dead
