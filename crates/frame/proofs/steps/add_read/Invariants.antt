-- The requests so far, and the reads so far.
use Rattle.std.proofs.Common.{◌≡◌, ◌++◌, map, take}
use Rattle.std.specs.List.{flat_map}
use Rattle.frame.specs.Steps.{read_request, read_steps}
use Rattle.frame.proofs.steps.add_read.Given as goal

abbrev pub invariant-requests : goal.invariant-requests
invariant-requests l = l.steps.items ≡ l.initial.steps.items ++ map (read_request 2 1 1) (take l.row-index l.rows)

abbrev pub invariant-reads : goal.invariant-reads
invariant-reads l = l.steps.items ≡ l.initial.steps.items ++ flat_map read_steps (take l.row-index l.rows)
