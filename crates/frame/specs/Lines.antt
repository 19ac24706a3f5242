-- The lines of the program.
use Rattle.std.specs.Prelude.{ℕ, ◌+◌, List, [], ◌∷◌, ◌++◌, Result}
use Rattle.fabric.specs.declared.types.Answer.{Answer}
use Rattle.fabric.specs.declared.types.FabricFault.{FabricFault}
use Rattle.report.specs.Outcomes.{outcome_told}
use Rattle.report.specs.Lines.{line}

-- the lines of outcomes, one after the other, numbered from n on
abbrev pub lines_from : ℕ → List (Result Answer FabricFault) → List ℕ
lines_from n [] = []
lines_from n (x ∷ xs) = line n (outcome_told x) ++ lines_from (n + 1) xs
