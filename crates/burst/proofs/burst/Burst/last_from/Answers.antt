use Rattle.std.proofs.Common.{arith}
use Rattle.burst.specs.Rules.{kind_code}
use Rattle.burst.proofs.Facts.{facts, top_of}
use Rattle.burst.proofs.burst.Burst.last_from.Goals as goal

pub overflow_add-result : goal.overflow_add-result
overflow_add-result c =
    let f = facts (kind_code c.args.self.kind) c.args.self.start c.args.self.size c.args.self.count c.args.self.lawful in
    let beat = c.beat_bytes-beat in
    omega (arith, beat.ensures.nonzero, top_of c.args.address beat.result 3 (omega arith) (omega arith) (c.args.self.size, f.size, beat.ensures.value))
