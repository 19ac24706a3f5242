-- What a register slice shows, which beat it holds, and what the slave below was given.
use Rattle.std.specs.Prelude.{ℕ, Some, None, Option, Ok, Err, Result}
use Rattle.slave.specs.declared.fault.SlaveFault.{SlaveFault}
use Rattle.slave.specs.declared.given.Given.{Given}
use Rattle.slave.specs.declared.given.Given.TheVariants.{More, Done}
use Rattle.slave.specs.Meaning.{Meaning}
use Rattle.slave.specs.Acts.{give_after, take_after}
use Rattle.register.specs.declared.held.Held.{Held}
use Rattle.register.specs.declared.register.RegisterSlice.{RegisterSlice}
use Rattle.register.specs.Fits.{behind}

-- the slave below a slice
abbrev pub below_of : {S : Type 0} {g : _} → RegisterSlice S g → S
below_of p = p.below

-- the beat that it holds
abbrev pub held_of : {S : Type 0} {g : _} → RegisterSlice S g → Option Held
held_of p = p.held

-- what a slice shows, by what the slave below shows
abbrev pub shows : {S : Type 0} {g : _} → (S → Meaning) → RegisterSlice S g → Meaning
shows meaning p = behind (meaning p.below) p.held

-- the beat held after a give: this one where beats are left, none after the last, and the one before where the give is refused
abbrev pub held_after : Option Held → ℕ → ℕ → Result Given SlaveFault → Option Held
held_after h w s (Ok (More n)) = Some (record { word = w; strobe = s })
held_after h w s (Ok (Done r)) = None
held_after h w s (Err e) = h

-- the slave below after a give: the beat before has gone down, and this one too where it is the last; nothing where it is refused
abbrev pub below_after : Meaning → Option Held → ℕ → ℕ → Result Given SlaveFault → Meaning
below_after m h w s (Ok (More n)) = behind m h
below_after m h w s (Ok (Done r)) = give_after (behind m h) w s
below_after m h w s (Err e) = m

-- the beat held after a take: none, and the one before where the take is refused
abbrev pub held_taken : {A : Type 0} → Option Held → Result A SlaveFault → Option Held
held_taken h (Ok x) = None
held_taken h (Err e) = h

-- the slave below after a take: the held beat has gone down, then the read beat was taken; nothing where it is refused
abbrev pub below_taken : {A : Type 0} → Meaning → Option Held → Result A SlaveFault → Meaning
below_taken m h (Ok x) = take_after (behind m h)
below_taken m h (Err e) = m
