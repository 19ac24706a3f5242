-- What stands and the lines that are left are all lines.
use Rattle.std.proofs.Common.{◌≡◌, ◌+◌, ◌++◌, drop}
use Rattle.frame.specs.Lines.{lines_from}
use Rattle.frame.proofs.lines.lines.Given as goal

abbrev pub invariant-loop-outcome : goal.invariant-loop-outcome
invariant-loop-outcome l = record {
  counted : l.number ≡ l.outcome-index;
  lines : l.bytes.items ++ lines_from (l.outcome-index + 1) (drop l.outcome-index l.outcomes) ≡ lines_from 1 l.outcomes;
}
