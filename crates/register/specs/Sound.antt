-- A slice over a sound slave is sound.
use Rattle.std.specs.Prelude.{Some, None, Option}
use Rattle.slave.specs.Meaning.{Meaning, Sound}
use Rattle.slave.proofs.Soundness.{give_sound}
use Rattle.register.specs.declared.held.Held.{Held}
use Rattle.register.specs.Fits.{behind}

-- a slice over a sound slave is sound
pub slice_sound : (h : Option Held) (m : Meaning) → Sound m → Sound (behind m h)
slice_sound None m s = s
slice_sound (Some h) m s = give_sound m h.word h.strobe s
