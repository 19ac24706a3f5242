use Rattle.std.proofs.Common.{arith}
use Rattle.burst.proofs.Facts.{top_of}
use Rattle.burst.proofs.burst.Burst.container.Goals as goal

pub overflow_add-result : goal.overflow_add-result
overflow_add-result c =
    let round = c.all_bytes-round in
    omega (arith, round.ensures.nonzero, top_of c.args.self.start round.result 7 (omega arith) (omega arith) (round.ensures.round c.requires))
