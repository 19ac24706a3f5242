use Rattle.std.proofs.Common.{◌≡◌, length}
use Rattle.std.specs.Io.KnownBytes.{Consumes}
use Rattle.script.proofs.reading.read.Given as goal

-- as many bytes as the turns so far stood in front of what is left
abbrev pub invariant-loop : goal.invariant-loop
invariant-loop g l =
    Consumes (g.R.Read.remaining l.fn.input) (g.R.Read.remaining l.input) l.file.items × (length l.file.items ≡ l.counter)
