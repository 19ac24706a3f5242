use Rattle.std.proofs.Common.{◌≡◌, Ok, is_ok, sym, ap, ◌∙◌}
use Rattle.burst.specs.Beats.{raw_of}
use Rattle.slave.specs.declared.channels.Channel.TheVariants.{Read}
use Rattle.slave.specs.Meaning.{told, busy}
use Rattle.slave.specs.Acts.{take_answer, take_after, took_answer}
use Rattle.slave.specs.Snapshots.{answers_for, with_place}
use Rattle.slave.proofs.Calls.{take_taken}
use Rattle.slave.proofs.Snapshots.{known, take_moves}
use Rattle.register.specs.Fits.{behind, holds_at}
use Rattle.register.specs.Shows.{shows, held_taken}
use Rattle.register.proofs.Knows.{took_known}
use Rattle.register.proofs.register.RegisterSlice.take_beat.Goals as goal

pub invariant_of-self : goal.invariant_of-self
invariant_of-self g c =
    let x = c.args.self.now in
    let m = shows g.S.Slave.meaning x in
    let at = c.args.at in
    let p = c.next-self.result in
    let k = known x.snapshot m x.known in
    let reads : m.read ≡ busy (raw_of c.args.at.burst) c.args.at.taken = sym k.read ∙ ap told c.requires.open in
    let here : g.S.Slave.meaning x.below ≡ m = sym (ap (behind (g.S.Slave.meaning x.below)) c.requires.none) in
    let after : g.S.Slave.meaning c.take-taken.new.self ≡ take_after m = c.take-taken.ensures.after ∙ ap take_after here in
    record {
      placed = ap (λ h. holds_at h (g.S.Slave.meaning c.take-taken.new.self)) c.requires.none ∙ ap (λ n. n.live) after ∙ (take_moves m).live ∙ k.live;
      known = ap (λ h. answers_for (with_place Read p x.snapshot) (behind (g.S.Slave.meaning c.take-taken.new.self) h)) c.requires.none
          ∙ ap (answers_for (with_place Read p x.snapshot)) after
          ∙ took_known x.snapshot m (raw_of at.burst) at.taken p x.known reads c.next-self.ensures;
    }

pub returns : goal.returns
returns g c =
    let x = c.args.self.now in
    let m = shows g.S.Slave.meaning x in
    let b = raw_of c.args.at.burst in
    let j = c.args.at.taken in
    let k = known x.snapshot m x.known in
    let reads : m.read ≡ busy (raw_of c.args.at.burst) c.args.at.taken = sym k.read ∙ ap told c.requires.open in
    let here : g.S.Slave.meaning x.below ≡ m = sym (ap (behind (g.S.Slave.meaning x.below)) c.requires.none) in
    let answer : c.take-taken.result ≡ take_answer m = c.take-taken.ensures.answer ∙ ap take_answer here in
    let after : g.S.Slave.meaning c.take-taken.new.self ≡ take_after m = c.take-taken.ensures.after ∙ ap take_after here in
    let done : c.take-taken.result ≡ Ok (took_answer m b j) = answer ∙ (take_taken m b j k.live reads).0 in
    record {
      answer = answer;
      after = ap (behind (g.S.Slave.meaning c.take-taken.new.self)) c.requires.none ∙ after;
      held = c.requires.none ∙ sym (ap (held_taken x.held) done);
      below = c.take-taken.ensures.after;
      taken = ap is_ok done;
    }
