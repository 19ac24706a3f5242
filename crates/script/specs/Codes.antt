-- The code of a record: which act it holds.
use Rattle.std.specs.Prelude.{◌≡◌, ℕ, ◌<◌, Result, MatchResult}
use Rattle.slave.specs.declared.channels.Channel.TheVariants.{Write, Read}
use Rattle.fabric.specs.declared.types.Act.{Act}
use Rattle.fabric.specs.declared.types.Act.TheVariants.{Request, Grant, Put, Take}
use Rattle.script.specs.declared.fault.ScriptFault.{ScriptFault}
use Rattle.script.specs.declared.fault.ScriptFault.TheVariants.{Record as BadRecord}
use Rattle.script.specs.declared.code.Code.{Code}
use Rattle.script.specs.declared.code.Code.TheVariants.{RequestWrite, RequestRead, GrantWrite, GrantRead, Put as PutCode, Take as TakeCode}

-- the number of a code
abbrev pub code_number : Code → ℕ
code_number RequestWrite = 0
code_number RequestRead = 1
code_number GrantWrite = 2
code_number GrantRead = 3
code_number PutCode = 4
code_number TakeCode = 5

-- reading a number as a code: the code that has it, and above 5 a bad record
abbrev pub Decodes : ℕ → Result Code ScriptFault → Type 0
Decodes n r = MatchResult r (λ c. code_number c ≡ n) (λ e. (5 < n) × (e ≡ BadRecord))

-- the code of an act
abbrev pub code_of : Act → Code
code_of (Request Write q) = RequestWrite
code_of (Request Read q) = RequestRead
code_of (Grant Write) = GrantWrite
code_of (Grant Read) = GrantRead
code_of (Put master word strobe last) = PutCode
code_of Take = TakeCode
