-- A refused create leaves the fabric.
use Rattle.std.proofs.Common.{sym, ◌∙◌}
use Rattle.history.proofs.Running.{unfit}
use Rattle.history.proofs.runs.begin.Goals as goal

pub returns-clause-refused : goal.returns-clause-refused
returns-clause-refused g c = λ e. c.create.ensures.refused (unfit (g.S.Slave.meaning c.args.slave.now) c.create.result c.create.ensures.answer (sym c.map_err.ensures.variant ∙ e))
