use Rattle.std.proofs.Common.{refl, ap, ◌∙◌}
use Rattle.slave.specs.Lanes.{worse, worst_lane}
use Rattle.slave.proofs.Worst.{worst_more}
use Rattle.slave.proofs.lanes.worst_of.Goals as goal

pub loop-i-init : goal.loop-i-init
unfolding worst_lane
loop-i-init g c = λ p h. refl

pub loop-i-preserved : goal.loop-i-preserved
loop-i-preserved g c = λ p h.
    worst_more p c.loop-i.i c.loop-i.worst (p c.loop-i.i) c.worse-worst.result (c.loop-i.invariant p h) refl
    (c.worse-worst.ensures ∙ ap (worse c.loop-i.worst) (h c.loop-i.i c.response.result c.loop-i-test.true c.response.ensures))
