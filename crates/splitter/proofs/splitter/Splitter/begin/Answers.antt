use Rattle.std.proofs.Common.{refl, sym, ap, ◌∙◌}
use Rattle.burst.specs.Beats.{raw_of}
use Rattle.slave.specs.Meaning.{Meaning, told, stand_at}
use Rattle.slave.proofs.Calls.{idle_is, open_taken}
use Rattle.splitter.specs.Follows.{follow_after}
use Rattle.splitter.specs.Shows.{splits}
use Rattle.splitter.proofs.Opens.{holds_of, begins}
use Rattle.splitter.proofs.splitter.Splitter.begin.Goals as goal

pub invariant_of-self : goal.invariant_of-self
invariant_of-self g c =
    let r = c.args.self.now in
    let m = g.S.Slave.meaning r.below in
    let step = c.step.ensures in
    let l = begins (holds_of r (g.met.S.Slave.sound r.below)) c.step.new.self (g.S.Slave.meaning c.follow.new.below) c.args.burst c.args.channel c.requires.free c.requires.lawful step.place step.worst step.stays
    (c.follow.ensures ∙ ap (λ p. follow_after r.number c.args.channel (told p) m) c.place-place.ensures) in
    record { placed = l.placed; wide = l.wide; opens = l.opens }

pub returns : goal.returns
returns g c =
    let r = c.args.self.now in
    let m = g.S.Slave.meaning r.below in
    let step = c.step.ensures in
    let l = begins (holds_of r (g.met.S.Slave.sound r.below)) c.step.new.self (g.S.Slave.meaning c.follow.new.below) c.args.burst c.args.channel c.requires.free c.requires.lawful step.place step.worst step.stays
    (c.follow.ensures ∙ ap (λ p. follow_after r.number c.args.channel (told p) m) c.place-place.ensures) in
    let x : Meaning = splits r.channels m in
    let b = raw_of c.args.burst in
    let own = idle_is (stand_at x c.args.channel) c.requires.free in
    record {
      after = l.shown;
      number = refl;
      below = l.below ∙ ap (λ y. follow_after r.number c.args.channel (stand_at y c.args.channel) m) (sym (open_taken x c.args.channel b refl own c.requires.lawful refl).1);
    }
