use Rattle.std.proofs.Common.{◌≡◌, Err, is_ok, refl, sym, ap, ◌∙◌}
use Rattle.std.proofs.lemmas.Bool.{true≢false}
use Rattle.std.proofs.lemmas.Result.{err_from_is_err_and}
use Rattle.slave.specs.declared.channels.Channel.TheVariants.{Write}
use Rattle.slave.specs.declared.channels.Channels.{Channels}
use Rattle.slave.specs.Acts.{give_after}
use Rattle.slave.specs.Meaning.{Meaning, told}
use Rattle.slave.proofs.Calls.{give_refused}
use Rattle.splitter.specs.Follows.{follow_after}
use Rattle.splitter.specs.Shows.{splits}
use Rattle.splitter.proofs.Opens.{splitter_same, stays_at, holds_of}
use Rattle.splitter.proofs.Gives.{gave, gave_open, gave_refused}
use Rattle.splitter.proofs.splitter.Splitter.give_beat.Goals as goal

pub returns-in_err-given : goal.returns-in_err-given
returns-in_err-given g c =
    let r = c.args.self.now in
    let m = g.S.Slave.meaning r.below in
    let shown : Meaning = splits r.channels m in
    let x = c.in_err-given in
    let e = err_from_is_err_and c.from_residual.result c.from_residual.ensures.1 in
    let p = gave_refused (holds_of r (g.met.S.Slave.sound r.below)) c.args.word c.args.strobe x.field-0.0 x.ensures.answer in
    let same : c.give.new.self ≡ r.below = x.ensures.refused refl in
    let kept = give_refused shown c.args.word c.args.strobe x.field-0.0 (sym p) in
    record {
      answer = e.1 ∙ ap Err e.2 ∙ p;
      after = ap (λ b. splits r.channels (g.S.Slave.meaning b)) same ∙ sym kept;
      number = refl;
      below = ap g.S.Slave.meaning same ∙ stays_at (holds_of r (g.met.S.Slave.sound r.below)) Write (give_after m c.args.word c.args.strobe) (give_after shown c.args.word c.args.strobe) kept
          (give_refused m c.args.word c.args.strobe x.field-0.0 (sym x.ensures.answer));
      refused = λ _. splitter_same _ _ same refl refl refl;
    }

pub invariant_of-self-2 : goal.invariant_of-self-2
invariant_of-self-2 g c =
    let r = c.args.self.now in
    let write = c.step-answer.new.self in
    let d : Channels = record { write = write; read = r.channels.read } in
    let step = c.step-answer.ensures in
    let l = (gave (holds_of r (g.met.S.Slave.sound r.below)) c.args.word c.args.strobe
    c.in_ok-given.given c.in_ok-given.ensures.answer c.response.result c.response.ensures d step.place step.worst refl (g.S.Slave.meaning c.follow.new.below)
    (c.follow.ensures ∙ ap (follow_after r.number Write (told write.place)) c.in_ok-given.ensures.after)).1 in
    record { placed = l.placed; wide = l.wide; opens = l.opens }

pub returns : goal.returns
returns g c =
    let r = c.args.self.now in
    let m = g.S.Slave.meaning r.below in
    let write = c.step-answer.new.self in
    let d : Channels = record { write = write; read = r.channels.read } in
    let step = c.step-answer.ensures in
    let p = gave (holds_of r (g.met.S.Slave.sound r.below)) c.args.word c.args.strobe
    c.in_ok-given.given c.in_ok-given.ensures.answer c.response.result c.response.ensures d step.place step.worst refl (g.S.Slave.meaning c.follow.new.below)
    (c.follow.ensures ∙ ap (follow_after r.number Write (told write.place)) c.in_ok-given.ensures.after) in
    let taken = ap is_ok step.answer ∙ gave_open (holds_of r (g.met.S.Slave.sound r.below)) c.args.word c.args.strobe
    c.in_ok-given.given c.in_ok-given.ensures.answer c.response.result in
    record {
      answer = step.answer ∙ p.0;
      after = p.1.shown;
      number = refl;
      below = p.1.below;
      refused = λ e. absurd (true≢false (sym taken ∙ e));
    }
