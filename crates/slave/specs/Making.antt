-- What the makings of slaves share.
use Rattle.std.specs.Prelude.{ℕ, Bool, Ok, Err, Result, ◌&&◌, ◌||◌, ◌==◌}
use Rattle.slave.specs.declared.making.MakeFault.{MakeFault}
use Rattle.slave.specs.declared.making.MakeFault.TheVariants.{Measure, Length, Below}
use Rattle.slave.specs.Meaning.{Meaning, dead, is_idle}

-- the number of a refusal to make a slave
abbrev pub make_number : MakeFault → ℕ
make_number Measure = 16
make_number Length = 17
make_number Below = 18

-- the number that an answer of a check stands for, 0 where the making is accepted
abbrev pub answered : {A : Type 0} → Result A MakeFault → ℕ
answered (Ok x) = 0
answered (Err e) = make_number e

-- the widths of a bus in bytes
abbrev pub is_width : ℕ → Bool
is_width w = w == 1 || (w == 2 || (w == 4 || w == 8))

-- live with both channels idle: an adapter may stand over it
abbrev pub ready : Meaning → Bool
ready m = m.live && (is_idle m.write && is_idle m.read)

-- what a making answers, as a slave: what was made, and a dead slave where the making was refused
abbrev pub made : {T : Type 0} → (T → Meaning) → Result T MakeFault → Meaning
made meaning (Ok x) = meaning x
made meaning (Err e) = dead
