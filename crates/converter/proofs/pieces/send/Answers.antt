use Rattle.converter.proofs.Walk.{all_of, sending_first, sending_next, sending_end}
use Rattle.converter.proofs.pieces.send.Goals as goal

pub loop-piece-init : goal.loop-piece-init
loop-piece-init g c =
    let x = c.args.slave.now in
    let b = c.args.beat in
    let m = g.S.Slave.meaning x in
    let q = c.into_iter-piece-iterator in
    let e = c.pieces-piece-items.ensures in
    sending_first b q.result m c.args.word c.args.strobe (all_of b m q.result c.pieces-piece-items.result c.width.result q.ensures.into_iter_gives e.left e.size e.bus c.width.ensures)
    (g.met.S.Slave.sound x) c.requires.ready

pub loop-piece-preserved : goal.loop-piece-preserved
loop-piece-preserved g c =
    let l = c.loop-piece in
    let s = c.in-Some.ensures.steps in
    let e = c.send_piece.ensures in
    sending_next c.args.beat c.into_iter-piece-iterator.result (g.S.Slave.meaning c.args.slave.now) c.args.word c.args.strobe l.piece-iterator c.next.new.self c.in-Some.piece
    (g.S.Slave.meaning l.slave) (g.S.Slave.meaning c.send_piece.new.below) l.worst c.send_piece.result l.invariant s.0 s.1.0 s.3 s.2 e.worst e.after e.sent c.worse-worst.result c.worse-worst.ensures

pub returns : goal.returns
returns g c =
    let l = c.loop-piece in
    let e = sending_end c.args.beat c.into_iter-piece-iterator.result (g.S.Slave.meaning c.args.slave.now) c.args.word c.args.strobe l.piece-iterator l.worst (g.S.Slave.meaning l.slave)
    c.in-None.ensures.steps.0.0 c.requires.kept l.invariant in
    record { worst = e.0; after = e.1; sent = e.2 }
