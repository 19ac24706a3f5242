use Rattle.std.proofs.Common.{◌≡◌, false, is_ok, sym, ap, ◌∙◌, ltb}
use Rattle.std.proofs.lemmas.Bool.{true≢false}
use Rattle.slave.specs.declared.channels.Step.TheVariants.{Beat}
use Rattle.burst.specs.Rules.{width_bytes}
use Rattle.burst.specs.Beats.{raw_of, address_of, last_of}
use Rattle.slave.specs.Lanes.{stray}
use Rattle.slave.specs.Meaning.{told}
use Rattle.slave.specs.Acts.{past, step_answer}
use Rattle.slave.proofs.Calls.{open_lawful, open_left}
use Rattle.burst.proofs.Facts.{some_is}
use Rattle.ram.proofs.Beats.{stored_is}
use Rattle.slave.proofs.Soundness.{worst_past}
use Rattle.ram.proofs.port.Port.give.Goals as goal

pub returns : goal.returns
returns c =
    let p = c.args.self.now in
    let w = width_bytes p.width in
    let b = raw_of c.in_ok-open.open.burst in
    let k = c.in_ok-open.open.taken in
    let open_is = c.in_ok-open.ensures.ok_part in
    let lawful = open_lawful w (told p.channels.write.place) b k p.writes (ap told open_is) in
    let left = open_left w (told p.channels.write.place) b k p.writes (ap told open_is) in
    let kept : stray w (address_of b k) (last_of b k) c.args.strobe ≡ false = sym (c.if-strays.ensures.left left) in
    let cover = some_is (ltb k b.count) (record { first = address_of b k; last = last_of b k }) c.unwrap-cover.result c.cover.result c.cover.ensures c.unwrap-cover.ensures in
    let here = rw cover at c.store_word-here.ensures.value in
    record {
      answer = rw (c.step.ensures.answer, here, open_is, kept);
      after = rw (c.store_word-here.ensures.after, cover, c.step.ensures.place, c.step.ensures.worst, here, open_is, kept)
          (stored_is c.args.memory.now p.width p.most b k p.channels.write.worst (told p.channels.read.place) c.args.word c.args.strobe lawful kept (past b k) _ (worst_past b k _));
      refused = λ r. absurd (true≢false (sym (ap is_ok (c.step.ensures.answer ∙ ap (λ q. step_answer (told q) p.channels.write.worst (Beat c.store_word-here.result)) open_is)) ∙ r));
    }
