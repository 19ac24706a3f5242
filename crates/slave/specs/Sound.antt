-- What a making answers is a sound slave where what it makes is one.
use Rattle.std.specs.Prelude.{Ok, Err, Result}
use Rattle.slave.specs.declared.making.MakeFault.{MakeFault}
use Rattle.slave.specs.Meaning.{Meaning, dead, Sound}
use Rattle.slave.specs.Making.{made}
use Rattle.std.proofs.Common.{arith, refl}

-- a dead slave is sound
dead_sound : Sound dead
dead_sound = record {
  small = λ a. omega arith;
  void = λ a h. refl;
  wide = (3, omega arith, refl);
  some = omega arith;
  few = omega arith;
  whole = λ _. refl;
  write = refl;
  read = refl;
  quiet = λ _. refl;
  gone = λ _. refl;
}

-- and so is what a making answers
pub made_sound : {T : Type 0} (meaning : T → Meaning) → ((x : T) → Sound (meaning x)) → (r : Result T MakeFault) → Sound (made meaning r)
made_sound meaning sound (Ok x) = sound x
made_sound meaning sound (Err e) = dead_sound
