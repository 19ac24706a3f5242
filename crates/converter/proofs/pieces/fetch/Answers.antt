use Rattle.converter.proofs.Walk.{all_of, fetching_first, fetching_next, fetching_end}
use Rattle.converter.proofs.pieces.fetch.Goals as goal

pub loop-piece-init : goal.loop-piece-init
loop-piece-init g c =
    let b = c.args.beat in
    let m = g.S.Slave.meaning c.args.slave.now in
    let q = c.into_iter-piece-iterator in
    let e = c.pieces-piece-items.ensures in
    fetching_first b q.result m (all_of b m q.result c.pieces-piece-items.result c.width.result q.ensures.into_iter_gives e.left e.size e.bus c.width.ensures)

pub loop-piece-preserved : goal.loop-piece-preserved
loop-piece-preserved g c =
    let l = c.loop-piece in
    let s = c.in-Some.ensures.steps in
    let e = c.fetch_piece-joined.ensures in
    fetching_next c.args.beat c.into_iter-piece-iterator.result (g.S.Slave.meaning c.args.slave.now) l.piece-iterator c.next.new.self c.in-Some.piece
    (g.S.Slave.meaning l.slave) (g.S.Slave.meaning c.fetch_piece-joined.new.below) l.word l.worst c.fetch_piece-joined.result (g.met.S.Slave.sound c.args.slave.now) l.invariant s.0 s.1.0 s.3 s.2
    c.word_start-base.result c.word_start-base.ensures e.word e.worst e.after e.got c.worse-worst.result c.worse-worst.ensures

pub returns : goal.returns
returns g c =
    let l = c.loop-piece in
    let e = fetching_end c.args.beat c.into_iter-piece-iterator.result (g.S.Slave.meaning c.args.slave.now) l.piece-iterator l.word l.worst (g.S.Slave.meaning l.slave)
    c.in-None.ensures.steps.0.0 l.invariant in
    record { word = e.0; worst = e.1; after = e.2; got = e.3 }
