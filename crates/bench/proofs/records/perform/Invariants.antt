use Rattle.fabric.specs.Channels.{channels_of}
use Rattle.slave.specs.Meaning.{board}
use Rattle.bench.proofs.Sofar.{Sofar}
use Rattle.bench.proofs.records.perform.Given as goal

-- the records so far are a run, and the sink holds their lines
abbrev pub invariant-loop-i : goal.invariant-loop-i
invariant-loop-i g l =
    Sofar (board (g.S.Slave.meaning l.initial.slave)) l.fn.script.records.now l.i (channels_of l.fabric) (g.S.Slave.meaning l.slave) (g.K.Sink.room l.initial.sink) (λ t. g.K.Sink.took l.initial.sink t l.sink)
