use Rattle.std.proofs.Common.{◌≡◌, false, Err, Ok, refl, sym, ap, ◌∙◌}
use Rattle.std.proofs.lemmas.Bool.{true≢false}
use Rattle.std.proofs.lemmas.Result.{err_from_is_err_and}
use Rattle.slave.specs.declared.response.Response.TheVariants.{Okay}
use Rattle.slave.specs.declared.channels.Channel.TheVariants.{Read}
use Rattle.slave.specs.declared.channels.Channels.{Channels}
use Rattle.slave.specs.Acts.{take_after}
use Rattle.slave.specs.Meaning.{Meaning, told}
use Rattle.slave.proofs.Calls.{take_refused}
use Rattle.splitter.specs.Follows.{follow_after}
use Rattle.splitter.specs.Shows.{splits}
use Rattle.splitter.proofs.Opens.{splitter_same, stays_at, holds_of}
use Rattle.splitter.proofs.Takes.{took, took_open, took_refused}
use Rattle.splitter.proofs.splitter.Splitter.take_beat.Goals as goal

pub returns-in_err-word : goal.returns-in_err-word
returns-in_err-word g c =
    let r = c.args.self.now in
    let m = g.S.Slave.meaning r.below in
    let shown : Meaning = splits r.channels m in
    let x = c.in_err-word in
    let e = err_from_is_err_and c.from_residual.result c.from_residual.ensures.1 in
    let p = took_refused (holds_of r (g.met.S.Slave.sound r.below)) x.field-0.0 x.ensures.answer in
    let same : c.take.new.self ≡ r.below = x.ensures.refused (refl {a = false}) in
    let kept = take_refused shown x.field-0.0 (sym p) in
    record {
      answer = e.1 ∙ ap Err e.2 ∙ p;
      after = ap (λ b. splits r.channels (g.S.Slave.meaning b)) same ∙ sym kept;
      number = refl;
      below = ap g.S.Slave.meaning same ∙ stays_at (holds_of r (g.met.S.Slave.sound r.below)) Read (take_after m) (take_after shown) kept (take_refused m x.field-0.0 (sym x.ensures.answer));
      refused = λ _. splitter_same _ _ same refl refl refl;
    }

pub invariant_of-self-2 : goal.invariant_of-self-2
invariant_of-self-2 g c =
    let r = c.args.self.now in
    let x = c.in_ok-word in
    let read = c.step-answer.new.self in
    let d : Channels = record { write = r.channels.write; read = read } in
    let l = (took (holds_of r (g.met.S.Slave.sound r.below))
    x.word x.response x.field-0-2 r.channels.read.worst Okay x.ensures.answer d c.step-answer.ensures.place refl (g.S.Slave.meaning c.follow.new.below)
    (c.follow.ensures ∙ ap (follow_after r.number Read (told read.place)) x.ensures.after)).1 in
    record { placed = l.placed; wide = l.wide; opens = l.opens }

pub returns-in_err-answer : goal.returns-in_err-answer
returns-in_err-answer g c =
    let r = c.args.self.now in
    let x = c.in_ok-word in
    absurd (took_open (holds_of r (g.met.S.Slave.sound r.below))
    x.word x.response x.field-0-2 r.channels.read.worst Okay x.ensures.answer c.in_err-answer.field-0.0 c.in_err-answer.ensures.answer)

pub returns : goal.returns
returns g c =
    let r = c.args.self.now in
    let x = c.in_ok-word in
    let read = c.step-answer.new.self in
    let d : Channels = record { write = r.channels.write; read = read } in
    let p = took (holds_of r (g.met.S.Slave.sound r.below))
    x.word x.response x.field-0-2 r.channels.read.worst Okay x.ensures.answer d c.step-answer.ensures.place refl (g.S.Slave.meaning c.follow.new.below)
    (c.follow.ensures ∙ ap (follow_after r.number Read (told read.place)) x.ensures.after) in
    record {
      answer = ap (λ n. Ok (x.word, x.response, n)) c.left.ensures ∙ p.0 c.in_ok-answer.field-0 c.in_ok-answer.ensures.answer;
      after = p.1.shown;
      number = refl;
      below = p.1.below;
      refused = λ e. absurd (true≢false e);
    }
