-- Which slave a register slice may stand over, and what it shows then.
use Rattle.std.specs.Prelude.{ℕ, if◌then◌else◌, ◌==◌}
use Rattle.slave.specs.Making.{ready}
use Rattle.slave.specs.Meaning.{Meaning, dead}

-- the number of the rule that the slave below breaks, or 0
abbrev pub make_refusal : Meaning → ℕ
make_refusal m = if ready m then 0 else 18

-- what is made over a slave: it shows the same, and is dead where the check refuses
abbrev pub slice_made : Meaning → Meaning
slice_made m = if make_refusal m == 0 then m else dead
