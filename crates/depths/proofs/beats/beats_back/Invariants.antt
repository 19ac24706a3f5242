use Rattle.std.proofs.Common.{◌≡◌, ◌≤◌, ◌*◌}
use Rattle.depths.specs.Beats.{moved, beats_back}
use Rattle.depths.proofs.beats.beats_back.Given as goal

abbrev pub invariant-loop-burst : goal.invariant-loop-burst
invariant-loop-burst g l =
    (g.S.Slave.meaning l.slave ≡ moved (g.S.Slave.meaning l.fn.slave) l.burst)
    × (l.count ≡ beats_back (g.S.Slave.meaning l.fn.slave) l.burst)
    × (l.count ≤ 16 * l.burst)
