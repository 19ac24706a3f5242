use Rattle.std.proofs.Common.{sym, ap, ◌∙◌}
use Rattle.slave.specs.Meaning.{told}
use Rattle.splitter.specs.Fits.{run_stand, stand_below}
use Rattle.splitter.proofs.Places.{fitting}
use Rattle.splitter.proofs.splitter.Splitter.run_below.Goals as goal

pub returns-in_err-open-clause-stands : goal.returns-in_err-open-clause-stands
returns-in_err-open-clause-stands g c =
    let x = c.args.self.now in
    (fitting x.number x.channels (g.S.Slave.meaning x.below) x.placed).stand c.args.channel
    ∙ ap (λ p. stand_below x.number (told p)) (sym c.place.ensures ∙ c.in_err-open.was) ∙ ap run_stand (sym c.from_residual.ensures)

pub returns-clause-stands : goal.returns-clause-stands
returns-clause-stands g c =
    let x = c.args.self.now in
    (fitting x.number x.channels (g.S.Slave.meaning x.below) x.placed).stand c.args.channel
    ∙ ap (λ p. stand_below x.number (told p)) (sym c.place.ensures ∙ c.in_ok-open.was) ∙ ap run_stand (sym c.run_at.ensures.answer)
