use Rattle.std.proofs.Common.{is_some, is_ok, refl, sym, ap, ◌∙◌}
use Rattle.std.proofs.lemmas.Bool.{true≢false}
use Rattle.slave.specs.Snapshots.{answers_for}
use Rattle.register.specs.Fits.{behind}
use Rattle.register.proofs.Opens.{slice_same}
use Rattle.register.proofs.Knows.{open_busy, opened, opened_known, idle_here}
use Rattle.register.proofs.calls.RegisterSliceSlave.open.Goals as goal

pub returns-then-is_some : goal.returns-then-is_some
returns-then-is_some g c =
    let x = c.args.self.now in
    let e = open_busy x.snapshot x.held (g.S.Slave.meaning x.below) c.args.channel c.args.burst x.known x.placed (ap is_some (sym c.place.ensures) ∙ sym c.is_some.ensures ∙ c.if-is_some.true) in
    record { answer = sym e.answer; after = sym e.after; held = refl; below = sym e.below; refused = λ _. slice_same _ _ refl refl refl }

pub returns-in_err-open-clause-refused : goal.returns-in_err-open-clause-refused
returns-in_err-open-clause-refused g c = λ r. slice_same _ _ (c.open.ensures.refused (ap is_ok c.in_err-open.was)) refl refl

pub invariant_of-self-2 : goal.invariant_of-self-2
invariant_of-self-2 g c =
    let x = c.args.self.now in
    let m = g.S.Slave.meaning x.below in
    let n = g.S.Slave.meaning c.open.new.self in
    let idle = idle_here x.snapshot (behind m x.held) c.args.channel x.known (ap is_some (sym c.place.ensures) ∙ sym c.is_some.ensures ∙ c.if-is_some.false) in
    let o = opened x.held m n c.args.channel c.args.burst c.open.result x.placed idle c.open.ensures.answer c.open.ensures.after in
    record {
      placed = o.holds;
      known = ap (λ t. answers_for t (behind n x.held)) c.set_place.ensures
          ∙ opened_known x.snapshot x.held m n c.args.channel c.args.burst c.open.result c.place-2.result x.known o c.place-2.ensures;
    }

pub returns : goal.returns
returns g c =
    let x = c.args.self.now in
    let m = g.S.Slave.meaning x.below in
    let n = g.S.Slave.meaning c.open.new.self in
    let idle = idle_here x.snapshot (behind m x.held) c.args.channel x.known (ap is_some (sym c.place.ensures) ∙ sym c.is_some.ensures ∙ c.if-is_some.false) in
    let o = opened x.held m n c.args.channel c.args.burst c.open.result x.placed idle c.open.ensures.answer c.open.ensures.after in
    record { answer = sym c.in_ok-open.was ∙ o.answer; after = o.after; held = refl; below = c.open.ensures.after; refused = λ r. absurd (true≢false r) }
