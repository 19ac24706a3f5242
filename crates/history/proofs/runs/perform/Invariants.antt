use Rattle.fabric.specs.Channels.{channels_of}
use Rattle.slave.specs.Meaning.{board}
use Rattle.history.proofs.Running.{PerformedTo}
use Rattle.history.proofs.runs.perform.Given as goal

abbrev pub invariant-loop-i : goal.invariant-loop-i
invariant-loop-i g l = PerformedTo (board (g.S.Slave.meaning l.initial.slave)) l.acts l.initial.answers l.i l.answers (channels_of l.fabric) (g.S.Slave.meaning l.slave)
