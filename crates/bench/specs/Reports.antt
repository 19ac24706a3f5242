-- The report of records, and the run that they make.
use Rattle.std.specs.Prelude.{◌≡◌, ℕ, zero, suc, ◌/◌, List, [], ◌++◌, length, Result}
use Rattle.slave.specs.Meaning.{Meaning, Board}
use Rattle.fabric.specs.declared.types.Act.{Act}
use Rattle.fabric.specs.declared.types.Answer.{Answer}
use Rattle.fabric.specs.Channels.{Channels}
use Rattle.history.specs.History.{History}
use Rattle.history.specs.Law.{Holds}
use Rattle.history.specs.Tracks.{Tracks}
use Rattle.script.specs.declared.fault.ScriptFault.{ScriptFault}
use Rattle.bench.specs.declared.fault.BenchFault.{BenchFault}
use Rattle.bench.specs.Outcomes.{act_at, ends, goes, outcome_line}

-- the history of the first n records, over the bytes and kinds m at the creation
unfoldable pub history_until : Board → List ℕ → ℕ → History
history_until m records zero = []
history_until m records (suc i) = goes m (history_until m records i) (act_at records i)

-- the line of record i, with the number i + 1
abbrev pub line_at : Board → List ℕ → ℕ → List ℕ
line_at m records i = outcome_line (suc i) (ends m (history_until m records i) (suc i) (act_at records i))

-- the lines of the first n records
unfoldable pub report_until : Board → List ℕ → ℕ → List ℕ
report_until m records zero = []
report_until m records (suc i) = report_until m records i ++ line_at m records i

-- a record with the outcome r takes every run over the fabric c and the slave s on to c' and s'
pub record EndsRight (c : Channels) (s : Meaning) (n : ℕ) (act : Result Act ScriptFault) (r : Result Answer BenchFault) (c' : Channels) (s' : Meaning) : Type 0 where
  pub outcome : (m : Board) (h : History) → Tracks m h c s → r ≡ ends m h n act
  pub run : (m : Board) (h : History) → Tracks m h c s → Tracks m (goes m h act) c' s'

-- the history of all records
abbrev pub script_history : Board → List ℕ → History
script_history m records = history_until m records (length records / 24)

-- the lines of all records
abbrev pub script_report : Board → List ℕ → List ℕ
script_report m records = report_until m records (length records / 24)

-- what performing all records leaves of a run that had begun
pub record Ran (m : Board) (records : List ℕ) (c : Channels) (s : Meaning) : Type 0 where
  -- the fabric and the slave are what the history of the records says
  pub run : Tracks m (script_history m records) c s
  -- and the law holds of it
  pub law : Holds m (script_history m records)
