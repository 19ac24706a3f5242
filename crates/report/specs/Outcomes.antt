-- What is told of an outcome, and the fault of a short buffer.
use Rattle.std.specs.Prelude.{ℕ, if◌then◌else◌, List, length, Ok, Err, Result, nat_le}
use Rattle.fabric.specs.declared.types.Answer.{Answer}
use Rattle.fabric.specs.declared.types.FabricFault.{FabricFault}
use Rattle.fabric.specs.declared.types.FabricFault.TheVariants.{Slave}
use Rattle.fabric.specs.Numbers.{fabric_number}
use Rattle.report.specs.declared.told.Layer.{Layer}
use Rattle.report.specs.declared.told.Layer.TheVariants.{Slave as SlaveLayer, Fabric as FabricLayer}
use Rattle.report.specs.declared.told.Refusal.{Refusal}
use Rattle.report.specs.declared.told.ReportFault.{ReportFault}
use Rattle.report.specs.declared.told.ReportFault.TheVariants.{Short}

-- how an act ended, as a line tells it
abbrev pub Told : Type 0
Told = Result Answer Refusal

-- the layer that refuses: a slave's own fault is the slave's, any other the fabric's
abbrev pub fault_layer : FabricFault → Layer
fault_layer (Slave e) = SlaveLayer
fault_layer _ = FabricLayer

-- a refusal of the fabric: its layer and number
abbrev pub refusal_of : FabricFault → Refusal
refusal_of e = record { layer = fault_layer e; number = fabric_number e }

-- an answer is told whole, a refusal by its layer and number
abbrev pub outcome_told : Result Answer FabricFault → Told
outcome_told (Ok a) = Ok a
outcome_told (Err e) = Err (refusal_of e)

-- the number of a refusal to write
abbrev pub report_number : ReportFault → ℕ
report_number Short = 22

-- what writing a line into a buffer answers: its length, or that the buffer is too short
abbrev pub write_answer : List ℕ → List ℕ → Result ℕ ReportFault
write_answer l out = if nat_le (length l) (length out) then Ok (length l) else Err Short
