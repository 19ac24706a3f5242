use Rattle.std.proofs.Common.{arith}
use Rattle.history.proofs.Running.{performed_more, performed}
use Rattle.history.proofs.runs.perform.Goals as goal

pub loop-i-preserved : goal.loop-i-preserved
loop-i-preserved g c = performed_more _ _ _ _ _ _ _ _ _ _ _ c.loop-i.invariant c.act.ensures.run (omega arith) (omega arith)

pub returns : goal.returns
returns g c = performed _ _ _ _ _ _ _ c.loop-i.invariant (omega arith) (omega arith)
