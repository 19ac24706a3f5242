use Rattle.std.proofs.Common.{arith}
use Rattle.burst.specs.Rules.{kind_code}
use Rattle.burst.proofs.Facts.{facts}
use Rattle.burst.proofs.burst.Burst.beat_bytes.Goals as goal

pub overflow_shl-result : goal.overflow_shl-result
overflow_shl-result c =
    let f = facts (kind_code c.args.self.kind) c.args.self.start c.args.self.size c.args.self.count c.args.self.lawful in
    omega (arith, f.size)
