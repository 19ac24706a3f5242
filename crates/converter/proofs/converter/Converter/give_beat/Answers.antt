use Rattle.std.proofs.Common.{is_ok, refl, ap, ◌∙◌}
use Rattle.burst.specs.declared.cover.Cover.{Cover}
use Rattle.burst.specs.Rules.{width_bytes}
use Rattle.burst.specs.Beats.{raw_of}
use Rattle.slave.specs.declared.channels.Channel.TheVariants.{Write}
use Rattle.slave.specs.declared.channels.Step.TheVariants.{Beat}
use Rattle.slave.specs.Lanes.{stray}
use Rattle.slave.specs.Meaning.{told}
use Rattle.slave.specs.Acts.{step_answer}
use Rattle.converter.proofs.Told.{open_lawful_for, open_left_for, beat_opens, given, given_below}
use Rattle.converter.proofs.Walk.{still_ready}
use Rattle.converter.proofs.converter.Converter.give_beat.Goals as goal

pub next_of-beat-requires : goal.next_of-beat-requires
next_of-beat-requires g c =
    let x = c.args.self.now in
    record { lawful = open_lawful_for x.width x.channels Write c.args.at x.opens c.requires.stands; left = open_left_for x.width x.channels Write c.args.at x.opens c.requires.stands }

-- the strobe keeps to the lanes of the beat
pub send-response-requires-clause-kept : goal.send-response-requires-clause-kept
send-response-requires-clause-kept g c =
    let e = c.next_of-beat.ensures in
    ap (λ v. stray (width_bytes v) c.next_of-beat.result.cover.first c.next_of-beat.result.cover.last c.args.strobe) e.bus
    ∙ ap (λ (y : Cover). stray (width_bytes c.args.self.now.width) y.first y.last c.args.strobe) e.cover ∙ c.requires.kept

pub invariant_of-self : goal.invariant_of-self
invariant_of-self g c =
    let x = c.args.self.now in
    record {
      idle = still_ready (g.S.Slave.meaning x.below) (g.S.Slave.meaning c.send-response.new.slave) _ x.idle c.send-response.ensures.after;
      opens = beat_opens x.width x.channels Write c.args.at x.opens c.requires.stands c.step.new.self c.send-response.result c.step.ensures.place c.step.ensures.stays;
    }

pub returns : goal.returns
returns g c =
    let x = c.args.self.now in
    let m = g.S.Slave.meaning x.below in
    let n = g.S.Slave.meaning c.send-response.new.slave in
    let b = raw_of c.args.at.burst in
    let k = c.args.at.taken in
    let y = c.next_of-beat.result in
    let f = c.next_of-beat.ensures in
    let e = c.send-response.ensures in
    let s = c.step.ensures in
    let d = c.step.new.self in
    let w = c.args.word in
    let q = c.args.strobe in
    let r = given x.channels d m n x.width y.bus b k y.size y.cover f.cover f.bus f.size w q c.send-response.result c.step.result (ap told c.requires.stands) c.requires.kept
    e.worst e.after e.sent s.answer s.place s.worst s.stays in
    record {
      answer = r.0;
      after = r.1;
      below = given_below x.channels d m n x.width y.bus b k y.size y.cover f.cover f.bus f.size w q c.send-response.result c.step.result (ap told c.requires.stands) c.requires.kept
          e.worst e.after e.sent s.answer s.place s.worst s.stays;
      width = refl;
      taken = ap is_ok (s.answer ∙ ap (λ p. step_answer (told p) x.channels.write.worst (Beat c.send-response.result)) c.requires.stands);
    }
