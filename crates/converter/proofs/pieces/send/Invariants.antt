use Rattle.converter.proofs.Walk.{Sending}
use Rattle.converter.proofs.pieces.send.Given as goal

abbrev pub invariant-loop-piece : goal.invariant-loop-piece
invariant-loop-piece g l = Sending l.beat l.initial.piece-iterator (g.S.Slave.meaning l.initial.slave) l.word l.strobe l.piece-iterator l.worst (g.S.Slave.meaning l.slave)
