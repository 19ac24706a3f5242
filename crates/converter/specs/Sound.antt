-- A converter over a sound slave is sound.
use Rattle.std.specs.Prelude.{refl}
use Rattle.std.proofs.Common.{arith}
use Rattle.std.proofs.lemmas.Bool.{true≢false}
use Rattle.burst.specs.declared.width.Width.{Width}
use Rattle.burst.proofs.Facts.{width_power}
use Rattle.slave.specs.declared.channels.Channel.TheVariants.{Write, Read}
use Rattle.slave.specs.declared.channels.Channels.{Channels}
use Rattle.slave.specs.Meaning.{Meaning, told, Sound}
use Rattle.slave.proofs.Soundness.{quiet_at}
use Rattle.converter.specs.Fits.{OpensFit}
use Rattle.converter.specs.Shows.{converted}

pub convert_sound : (w : Width) (c : Channels) (m : Meaning) → Sound m → OpensFit w c → Sound (converted w c m)
convert_sound w c m s opens = record {
  small = s.small;
  void = s.void;
  wide = width_power w;
  some = omega arith;
  few = omega arith;
  whole = λ _. refl;
  write = opens Write;
  read = opens Read;
  quiet = quiet_at (told c.write.place) c.write.worst;
  gone = λ e. absurd (true≢false e);
}
