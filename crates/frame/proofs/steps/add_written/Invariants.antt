-- The steps of the bursts so far.
use Rattle.std.proofs.Common.{◌≡◌, ◌++◌, take}
use Rattle.std.specs.List.{flat_map}
use Rattle.frame.specs.Steps.{write_steps}
use Rattle.frame.proofs.steps.add_written.Given as goal

abbrev pub invariant-loop-row : goal.invariant-loop-row
invariant-loop-row l = l.steps.items ≡ l.initial.steps.items ++ flat_map write_steps (take l.row-index l.rows)
