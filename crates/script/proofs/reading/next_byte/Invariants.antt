use Rattle.std.specs.Io.KnownBytes.{Keeps}
use Rattle.script.proofs.reading.next_byte.Given as goal

-- what was interrupted took nothing
abbrev pub invariant-loop : goal.invariant-loop
invariant-loop g l = Keeps (g.R.Read.remaining l.fn.input) (g.R.Read.remaining l.input)
