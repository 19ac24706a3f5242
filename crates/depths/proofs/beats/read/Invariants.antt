use Rattle.std.proofs.Common.{◌≡◌, ◌≤◌}
use Rattle.depths.specs.Beats.{asked, taken, count_back}
use Rattle.depths.proofs.beats.read.Given as goal

abbrev pub invariant-loop-beat : goal.invariant-loop-beat
invariant-loop-beat g l =
    (g.S.Slave.meaning l.slave ≡ taken (asked (g.S.Slave.meaning l.fn.slave) l.start) l.beat)
    × (l.count ≡ count_back (asked (g.S.Slave.meaning l.fn.slave) l.start) l.start l.beat)
    × (l.count ≤ l.beat)
