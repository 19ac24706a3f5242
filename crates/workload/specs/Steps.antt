-- The acts that the steps of a workload come to.
use Rattle.std.specs.Prelude.{ℕ, List, [], ◌∷◌}
use Rattle.std.specs.List.{flat_map}
use Rattle.fabric.specs.declared.types.Act.{Act}
use Rattle.workload.specs.declared.step.Step.{Step}
use Rattle.workload.specs.declared.step.Step.TheVariants.{Act as One, Puts, Takes}
use Rattle.workload.specs.Moves.{puts_of, takes_of}

-- the acts of one step
abbrev pub step_acts : List ℕ → Step → List Act
step_acts frame (One a) = a ∷ []
step_acts frame (Puts p) = puts_of frame p
step_acts frame (Takes n) = takes_of n

-- the acts of all steps, in order
abbrev pub all_acts : List ℕ → List Step → List Act
all_acts frame = flat_map (step_acts frame)
