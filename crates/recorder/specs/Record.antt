-- The record of the calls that a slave took, in order.
use Rattle.std.specs.Prelude.{ℕ, ◌+◌, List, [], ◌∷◌, ◌++◌, length, Option, Ok, Err, Result, nat_lt, slice_get, if◌then◌else◌}
use Rattle.slave.specs.declared.fault.SlaveFault.{SlaveFault}
use Rattle.recorder.specs.declared.record.Call.{Call}
use Rattle.recorder.specs.declared.record.Call.TheVariants.{Take}

-- the slots: so many calls are recorded at most
abbrev pub slots : ℕ
slots = 1024

-- the record after one more call is noted; none is where the slots are full
abbrev pub noted : List Call → Call → List Call
noted l x = if nat_lt (length l) slots then l ++ x ∷ [] else l

-- how many are filled after one more, of n before
abbrev pub counted : ℕ → ℕ
counted n = if nat_lt n slots then n + 1 else n

-- the record after a call that was answered so: a refused one is not noted
abbrev pub noted_on : {A : Type 0} → Result A SlaveFault → List Call → Call → List Call
noted_on (Ok x) l c = noted l c
noted_on (Err e) l c = l

-- how many are filled after it
abbrev pub counted_on : {A : Type 0} → Result A SlaveFault → ℕ → ℕ
counted_on (Ok x) n = counted n
counted_on (Err e) n = n

-- a slot that is not filled
abbrev pub empty : Call
empty = Take

-- the i-th call that is noted, from 0
abbrev pub recorded : List Call → ℕ → Option Call
recorded l i = slice_get l i
