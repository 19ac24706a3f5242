-- A beat is left, so a stray strobe is refused and changes nothing, and the last beat is taken.
use Rattle.std.proofs.Common.{◌≡◌, ◌<◌, true, false, is_ok, Some, refl, sym, ap, ◌∙◌, arith}
use Rattle.std.proofs.lemmas.Bool.{true≢false}
use Rattle.burst.specs.Beats.{raw_of}
use Rattle.slave.specs.declared.channels.Channel.TheVariants.{Write}
use Rattle.slave.specs.Acts.{give_answer, give_after}
use Rattle.slave.specs.Acts.{left as beats_left}
use Rattle.slave.specs.Snapshots.{answers_for, with_place}
use Rattle.slave.proofs.Calls.{give_stray, give_live}
use Rattle.slave.proofs.Snapshots.{known}
use Rattle.register.specs.declared.held.Held.{Held}
use Rattle.register.specs.Fits.{behind, holds_at}
use Rattle.register.specs.Shows.{shows, held_after, below_after}
use Rattle.register.specs.Sound.{slice_sound}
use Rattle.register.proofs.Opens.{last_given}
use Rattle.register.proofs.Knows.{gave_known, fits_here, stray_at}
use Rattle.register.proofs.register.RegisterSlice.give_beat.Goals as goal

pub returns-then-strays : goal.returns-then-strays
returns-then-strays g c =
    let x = c.args.self.now in
    let m = shows g.S.Slave.meaning x in
    let t = stray_at x.snapshot m c.args.at c.args.strobe true (slice_sound x.held (g.S.Slave.meaning x.below) (g.met.S.Slave.sound x.below)) x.known c.requires c.if-strays.ensures.left in
    let e = give_stray m (raw_of c.args.at.burst) c.args.at.taken c.args.word c.args.strobe (known x.snapshot m x.known).live c.requires (sym t) in
    record { answer = sym e.0; after = sym e.1; held = refl; below = refl; refused = λ _. refl }

pub returns-then-left-eq0 : goal.returns-then-left-eq0
returns-then-left-eq0 g c =
    let x = c.args.self.now in
    let n = g.S.Slave.meaning x.below in
    let m = shows g.S.Slave.meaning x in
    let s = c.args.strobe in
    let t = stray_at x.snapshot m c.args.at s false (slice_sound x.held n (g.met.S.Slave.sound x.below)) x.known c.requires c.if-strays.ensures.left in
    let answer : c.give.result ≡ give_answer m c.args.word s = c.give.ensures.answer ∙ ap (λ z. give_answer z c.args.word s) c.flush.ensures.same in
    let after : g.S.Slave.meaning c.give.new.self ≡ give_after m c.args.word s = c.give.ensures.after ∙ ap (λ z. give_after z c.args.word s) c.flush.ensures.same in
    let done = answer ∙ last_given m (raw_of c.args.at.burst) c.args.at.taken c.args.word s (known x.snapshot m x.known).live c.requires (sym t) (sym c.left-left.ensures ∙ c.if-left-eq0.true) in
    record {
      answer = answer;
      after = ap (behind (g.S.Slave.meaning c.give.new.self)) c.flush.ensures.empty ∙ after;
      held = c.flush.ensures.empty ∙ ap (held_after x.held c.args.word s) (sym done);
      below = after ∙ ap (below_after n x.held c.args.word s) (sym done);
      refused = λ r. absurd (true≢false (ap is_ok (sym done) ∙ r));
    }

pub invariant_of-self : goal.invariant_of-self
invariant_of-self g c =
    let x = c.args.self.now in
    let m = shows g.S.Slave.meaning x in
    let s = c.args.strobe in
    let p = c.next-self.result in
    let t = stray_at x.snapshot m c.args.at s false (slice_sound x.held (g.S.Slave.meaning x.below) (g.met.S.Slave.sound x.below)) x.known c.requires c.if-strays.ensures.left in
    let after : g.S.Slave.meaning c.give.new.self ≡ give_after m c.args.word s = c.give.ensures.after ∙ ap (λ z. give_after z c.args.word s) c.flush.ensures.same in
    record {
      placed = ap (λ h. holds_at h (g.S.Slave.meaning c.give.new.self)) c.flush.ensures.empty ∙ ap (λ n. n.live) after ∙ give_live m c.args.word s ∙ (known x.snapshot m x.known).live;
      known = ap (λ h. answers_for (with_place Write p c.flush.new.self.snapshot) (behind (g.S.Slave.meaning c.give.new.self) h)) c.flush.ensures.empty
          ∙ ap (answers_for (with_place Write p c.flush.new.self.snapshot)) after
          ∙ ap (λ k. answers_for (with_place Write p k) (give_after m c.args.word s)) c.flush.ensures.snapshot
          ∙ gave_known x.snapshot m (raw_of c.args.at.burst) c.args.at.taken c.args.word s p x.known c.requires (sym t) c.next-self.ensures;
    }

pub invariant_of-self-2 : goal.invariant_of-self-2
invariant_of-self-2 g c =
    let x = c.args.self.now in
    let m = shows g.S.Slave.meaning x in
    let s = c.args.strobe in
    let p = c.next-self.result in
    let h : Held = record { word = c.args.word; strobe = s } in
    let t = stray_at x.snapshot m c.args.at s false (slice_sound x.held (g.S.Slave.meaning x.below) (g.met.S.Slave.sound x.below)) x.known c.requires c.if-strays.ensures.left in
    let some : 0 < beats_left (raw_of c.args.at.burst) c.args.at.taken = omega (arith, c.left-left.ensures, c.if-left-eq0.false) in
    record {
      placed = ap (holds_at (Some h)) c.flush.ensures.same ∙ fits_here m (raw_of c.args.at.burst) c.args.at.taken s (known x.snapshot m x.known).live c.requires some (sym t);
      known = ap (λ n. answers_for (with_place Write p c.flush.new.self.snapshot) (give_after n c.args.word s)) c.flush.ensures.same
          ∙ ap (λ k. answers_for (with_place Write p k) (give_after m c.args.word s)) c.flush.ensures.snapshot
          ∙ gave_known x.snapshot m (raw_of c.args.at.burst) c.args.at.taken c.args.word s p x.known c.requires (sym t) c.next-self.ensures;
    }
