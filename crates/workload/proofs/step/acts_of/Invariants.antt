-- The acts of the steps so far.
use Rattle.std.proofs.Common.{◌≡◌, take}
use Rattle.workload.specs.Steps.{all_acts}
use Rattle.workload.proofs.step.acts_of.Given as goal

abbrev pub invariant-loop-step : goal.invariant-loop-step
invariant-loop-step l = l.acts.items ≡ all_acts l.frame (take l.step-index l.steps)
