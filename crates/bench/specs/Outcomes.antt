-- Why a call is refused, how a record of a script ends, and what is told of it.
use Rattle.std.specs.Prelude.{ℕ, List, ◌∷◌, Some, None, Ok, Err, Option, Result}
use Rattle.slave.specs.Meaning.{Meaning, Board}
use Rattle.fabric.specs.declared.types.Act.{Act}
use Rattle.fabric.specs.declared.types.Answer.{Answer}
use Rattle.fabric.specs.declared.types.FabricFault.{FabricFault}
use Rattle.fabric.specs.Numbers.{fabric_number}
use Rattle.fabric.specs.Channels.{Channels}
use Rattle.history.specs.History.{History}
use Rattle.history.specs.Owed.{owed}
use Rattle.history.specs.Tracks.{act_answer, act_after, act_slave}
use Rattle.report.specs.declared.told.Layer.TheVariants.{Bench}
use Rattle.report.specs.declared.told.Refusal.{Refusal}
use Rattle.report.specs.Lines.{line}
use Rattle.report.specs.Outcomes.{refusal_of}
use Rattle.script.specs.declared.fault.ScriptFault.{ScriptFault}
use Rattle.script.specs.declared.fault.ScriptFault.TheVariants.{Record as BadRecord}
use Rattle.script.specs.Files.{record_at}
use Rattle.script.specs.Acts.{read_act}
use Rattle.bench.specs.declared.fault.BenchFault.{BenchFault}
use Rattle.bench.specs.declared.fault.BenchFault.TheVariants.{Header, Record, Fabric}
use Rattle.bench.specs.declared.fault.CallFault.{CallFault}
use Rattle.bench.specs.declared.fault.CallFault.TheVariants.{Memory, Short}

-- the number of a refused call
abbrev pub call_number : CallFault → ℕ
call_number Memory = 17
call_number Short = 22

-- the number of a fault
abbrev pub bench_number : BenchFault → ℕ
bench_number Header = 20
bench_number (Record n) = 21
bench_number (Fabric n e) = fabric_number e

-- the act that has the fault; a bad header is told as act 0
abbrev pub fault_act : BenchFault → ℕ
fault_act Header = 0
fault_act (Record n) = n
fault_act (Fabric n e) = n

-- the layer and number of a fault: a fabric's is told as the fabric's, any other as the bench's
abbrev pub fault_told : BenchFault → Refusal
fault_told (Fabric n e) = refusal_of e
fault_told Header = record { layer = Bench; number = 20 }
fault_told (Record n) = record { layer = Bench; number = 21 }

-- a fabric's outcome with the act's number
abbrev pub lifted : ℕ → Result Answer FabricFault → Result Answer BenchFault
lifted n (Ok a) = Ok a
lifted n (Err e) = Err (Fabric n e)

-- the line of how act n ended: a fault has its act with it
abbrev pub outcome_line : ℕ → Result Answer BenchFault → List ℕ
outcome_line n (Ok a) = line n (Ok a)
outcome_line n (Err e) = line (fault_act e) (Err (fault_told e))

-- the act in a record, if there is one
abbrev pub act_in_record : Option (List ℕ) → Result Act ScriptFault
act_in_record (Some bytes) = read_act bytes
act_in_record None = Err BadRecord

-- the act of record i
abbrev pub act_at : List ℕ → ℕ → Result Act ScriptFault
act_at records i = act_in_record (record_at records i)

-- how record n ends after a history: a bad one is refused, and any other has the answer that is owed to its act
abbrev pub ends : Board → History → ℕ → Result Act ScriptFault → Result Answer BenchFault
ends m h n (Ok a) = lifted n (owed m h a)
ends m h n (Err e) = Err (Record n)

-- the history after it: a bad record leaves it
abbrev pub goes : Board → History → Result Act ScriptFault → History
goes m h (Ok a) = record { act = a; answer = owed m h a } ∷ h
goes m h (Err e) = h

-- what performing a record over a fabric and a slave answers, in a run or not
abbrev pub record_answer : Channels → Meaning → ℕ → Result Act ScriptFault → Result Answer BenchFault
record_answer c s n (Ok a) = lifted n (act_answer c s a)
record_answer c s n (Err e) = Err (Record n)

-- the fabric after it
abbrev pub record_after : Channels → Meaning → Result Act ScriptFault → Channels
record_after c s (Ok a) = act_after c s a
record_after c s (Err e) = c

-- the slave after it
abbrev pub record_slave : Channels → Meaning → Result Act ScriptFault → Meaning
record_slave c s (Ok a) = act_slave c s a
record_slave c s (Err e) = s
