-- The number of each refusal.
use Rattle.std.specs.Prelude.{ℕ}
use Rattle.script.specs.declared.fault.ScriptFault.{ScriptFault}
use Rattle.script.specs.declared.fault.ScriptFault.TheVariants.{Header, Record, Short}

-- the number of a refusal
abbrev pub script_number : ScriptFault → ℕ
script_number Header = 20
script_number Record = 21
script_number Short = 22
