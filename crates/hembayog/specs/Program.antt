-- What the program says and prints.
use Rattle.std.specs.Prelude.{◌≡◌, ℕ, List, codes}
use Rattle.script.specs.Reads.{Reads}
use Rattle.bench.specs.Runs.{report_of}
use Rattle.hembayog.specs.declared.program.Want.{Want}
use Rattle.hembayog.specs.declared.program.Want.TheVariants.{Pile, Report, Fabric, Input, Script}

-- what is said of a want
abbrev pub message_of : Want → List ℕ
message_of Pile = codes "no memory for the pile"
message_of Report = codes "no memory for the report"
message_of Fabric = codes "no memory for the fabric"
message_of Input = codes "no memory for the input"
message_of Script = codes "the script cannot be read"

-- memory is wanted before anything is read
abbrev pub IsNoMemory : Want → Type 0
IsNoMemory Pile = Unit {0}
IsNoMemory Report = Unit {0}
IsNoMemory Fabric = Unit {0}
IsNoMemory Input = ⊥
IsNoMemory Script = ⊥

-- of an input a file is read, and this is its report
pub record Reports (report input : List ℕ) : Type 0 where
  pub file : List ℕ
  pub read : Reads file input
  pub reported : report ≡ report_of file
