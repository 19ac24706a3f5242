-- The whole report of a file, and what the bench answers and leaves.
use Rattle.std.specs.Prelude.{ℕ, Bool, if◌then◌else◌, ◌&&◌, List, ◌++◌, length, drop, Ok, Err, Result, ◌==◌, nat_le}
use Rattle.history.specs.History.{History}
use Rattle.slave.specs.Meaning.{Board}
use Rattle.script.specs.Files.{header_of, opens, records_of, image_of}
use Rattle.bench.specs.declared.fault.BenchFault.TheVariants.{Header}
use Rattle.bench.specs.declared.fault.CallFault.{CallFault}
use Rattle.bench.specs.declared.fault.CallFault.TheVariants.{Memory, Short}
use Rattle.bench.specs.Outcomes.{outcome_line}
use Rattle.bench.specs.Reports.{history_until, report_until}
use Rattle.bench.specs.Piles.{image_board}

-- what the pile shows at the creation: the file's image and then zeros, 8,192 bytes
abbrev pub file_board : List ℕ → Board
file_board file = image_board (image_of file)

-- the run of the file's acts, without the bad records
abbrev pub file_history : List ℕ → History
file_history file = history_until (file_board file) (records_of file) (header_of file).acts

-- the line of a bad header
abbrev pub header_line : List ℕ
header_line = outcome_line 0 (Err Header)

-- the whole report
abbrev pub report_of : List ℕ → List ℕ
report_of file = if opens file then report_until (file_board file) (records_of file) (header_of file).acts else header_line

-- the memory handed in has 8,192 bytes, and the buffer has room for the whole report
abbrev pub accepted : List ℕ → ℕ → ℕ → Bool
accepted file memory room = memory == 8192 && nat_le (length (report_of file)) room

-- what the bench answers: the count of bytes written; memory of another length is refused first, then a buffer that is shorter than the report
abbrev pub bench_answer : List ℕ → ℕ → ℕ → Result ℕ CallFault
bench_answer file memory room =
    if memory == 8192 then (if nat_le (length (report_of file)) room then Ok (length (report_of file)) else Err Short) else Err Memory

-- the buffer afterwards: the report, and behind it what stood there
abbrev pub bench_after : List ℕ → ℕ → List ℕ → List ℕ
bench_after file memory out = if accepted file memory (length out) then report_of file ++ drop (length (report_of file)) out else out

-- the bench runs the acts of a file: it accepts the call and the file is a script
abbrev pub runs : List ℕ → ℕ → ℕ → Bool
runs file memory room = opens file && accepted file memory room
