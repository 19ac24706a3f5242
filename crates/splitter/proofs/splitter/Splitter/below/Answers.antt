use Rattle.std.proofs.Common.{sym, ap, ◌∙◌}
use Rattle.splitter.specs.Fits.{stand_below}
use Rattle.splitter.proofs.Opens.{stand_is}
use Rattle.splitter.proofs.Places.{fitting}
use Rattle.splitter.proofs.splitter.Splitter.below.Goals as goal

pub returns-clause-stands : goal.returns-clause-stands
returns-clause-stands g c = λ ch.
    let x = c.args.self.now in
    let m = g.S.Slave.meaning x.below in
    (fitting x.number x.channels m x.placed).stand ch ∙ ap (stand_below x.number) (sym (stand_is x.channels m ch))
