use Rattle.std.proofs.Common.{◌≡◌}
use Rattle.slave.specs.Acts.{open_after}
use Rattle.slave.specs.declared.channels.Channel.TheVariants.{Write}
use Rattle.depths.specs.Beats.{burst_of, given}
use Rattle.depths.proofs.beats.write.Given as goal

abbrev pub invariant-loop-beat : goal.invariant-loop-beat
invariant-loop-beat g l = g.S.Slave.meaning l.slave ≡ given (open_after (g.S.Slave.meaning l.fn.slave) Write (burst_of l.start)) l.start l.beat
