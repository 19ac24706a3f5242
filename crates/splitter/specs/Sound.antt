-- A splitter over a sound slave is sound.
use Rattle.std.specs.Prelude.{◌≡◌, true}
use Rattle.std.proofs.Common.{arith, refl, subst}
use Rattle.std.proofs.lemmas.Bool.{true≢false}
use Rattle.burst.specs.Rules.{width_bytes}
use Rattle.slave.specs.declared.channels.Channel.{Channel}
use Rattle.slave.specs.declared.channels.Channel.TheVariants.{Write, Read}
use Rattle.slave.specs.Channels.{state_at}
use Rattle.slave.specs.Lanes.{worse}
use Rattle.slave.specs.Meaning.{Meaning, told, sound_stand, Sound}
use Rattle.slave.proofs.Soundness.{quiet_at}
use Rattle.splitter.specs.declared.splitter.Splitter.{Splitter}
use Rattle.splitter.specs.Shows.{shows}

pub shows_sound : {S : Type 0} {g : _} (meaning : S → Meaning) (x : Splitter S g) → width_bytes x.width ≡ (meaning x.below).width
    → ((ch : Channel) → sound_stand (width_bytes x.width) (told (state_at ch x.channels).place) ≡ true) → Sound (meaning x.below)
    → Sound (shows meaning x)
shows_sound meaning x wide lawful s =
    let w = x.channels.write in
    let r = x.channels.read in
    let m = meaning x.below in
    record {
      small = s.small;
      void = s.void;
      wide = s.wide;
      some = omega arith;
      few = omega arith;
      whole = λ _. refl;
      write = subst (λ n. sound_stand n (told w.place) ≡ true) wide (lawful Write);
      read = subst (λ n. sound_stand n (told r.place) ≡ true) wide (lawful Read);
      quiet = quiet_at (told w.place) (worse w.worst m.worst);
      gone = λ e. absurd (true≢false e);
    }
