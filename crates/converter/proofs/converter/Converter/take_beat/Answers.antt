use Rattle.std.proofs.Common.{Ok, refl, ap, ◌∙◌}
use Rattle.burst.specs.Beats.{raw_of}
use Rattle.slave.specs.declared.channels.Channel.TheVariants.{Read}
use Rattle.slave.specs.Making.{ready}
use Rattle.slave.specs.Meaning.{told}
use Rattle.converter.proofs.Told.{open_lawful_for, open_left_for, beat_opens, took, took_below}
use Rattle.converter.proofs.converter.Converter.take_beat.Goals as goal

pub next_of-beat-requires : goal.next_of-beat-requires
next_of-beat-requires g c =
    let x = c.args.self.now in
    record { lawful = open_lawful_for x.width x.channels Read c.args.at x.opens c.requires; left = open_left_for x.width x.channels Read c.args.at x.opens c.requires }

pub invariant_of-self : goal.invariant_of-self
invariant_of-self g c =
    let x = c.args.self.now in
    record {
      idle = ap ready c.fetch-word.ensures.after ∙ x.idle;
      opens = beat_opens x.width x.channels Read c.args.at x.opens c.requires c.step.new.self c.fetch-word.result.1 c.step.ensures.place c.step.ensures.stays;
    }

pub returns : goal.returns
returns g c =
    let x = c.args.self.now in
    let m = g.S.Slave.meaning x.below in
    let n = g.S.Slave.meaning c.fetch-word.new.slave in
    let b = raw_of c.args.at.burst in
    let k = c.args.at.taken in
    let y = c.next_of-beat.result in
    let f = c.next_of-beat.ensures in
    let e = c.fetch-word.ensures in
    let z = c.fetch-word.result in
    let s = c.step.ensures in
    let d = c.step.new.self in
    let r = took x.channels d m n x.width y.bus b k y.size y.cover f.cover f.bus f.size z.0 z.1 (ap told c.requires) e.word e.worst e.after e.got s.place s.stays in
    record {
      answer = ap (λ l. Ok (z.0, z.1, l)) c.left.ensures ∙ r.0;
      after = r.1;
      below = e.after;
      fetched = took_below x.channels d m n x.width y.bus b k y.size y.cover f.cover f.bus f.size z.0 z.1 (ap told c.requires) e.word e.worst e.after e.got s.place s.stays;
      width = refl;
    }
