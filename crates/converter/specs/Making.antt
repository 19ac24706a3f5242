-- Which slave a converter may be made over, and what is made.
use Rattle.std.specs.Prelude.{ℕ, if◌then◌else◌, ◌==◌}
use Rattle.slave.specs.declared.response.Response.TheVariants.{Okay}
use Rattle.slave.specs.Making.{ready, is_width}
use Rattle.slave.specs.Meaning.{Meaning, idle, dead}
use Rattle.converter.specs.Shows.{shows}

-- the number of the first rule that the slave below and the width break, or 0
abbrev pub make_refusal : Meaning → ℕ → ℕ
make_refusal m w = if ready m then (if is_width w then 0 else 16) else 18

-- what is made over a slave: idle, and dead where the check refuses
abbrev pub converted_made : Meaning → ℕ → Meaning
converted_made m w = if make_refusal m w == 0 then shows w idle Okay idle m else dead
