use Rattle.std.proofs.Common.{sym, arith}
use Rattle.burst.proofs.Masks.{no_bit}
use Rattle.burst.proofs.lanes.strobed.Goals as goal

pub returns-then-i-ge-LANES : goal.returns-then-i-ge-LANES
returns-then-i-ge-LANES c = sym (no_bit c.args.mask c.args.i (omega arith) (omega arith))
