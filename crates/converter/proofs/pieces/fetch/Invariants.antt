use Rattle.converter.proofs.Walk.{Fetching}
use Rattle.converter.proofs.pieces.fetch.Given as goal

abbrev pub invariant-loop-piece : goal.invariant-loop-piece
invariant-loop-piece g l = Fetching l.fn.beat l.initial.piece-iterator (g.S.Slave.meaning l.initial.slave) l.piece-iterator l.word l.worst (g.S.Slave.meaning l.slave)
