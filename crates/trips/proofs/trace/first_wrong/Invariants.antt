use Rattle.std.proofs.Common.{◌≡◌, drop}
use Rattle.trips.specs.Traces.{after_trace}
use Rattle.trips.proofs.trace.first_wrong.Given as goal

abbrev pub invariant-loop-i : goal.invariant-loop-i
invariant-loop-i g l =
    after_trace (g.A.Slave.meaning l.adapter) (drop l.i l.trace) ≡ after_trace (g.A.Slave.meaning l.fn.adapter) l.trace
