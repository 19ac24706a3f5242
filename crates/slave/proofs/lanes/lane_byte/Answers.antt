use Rattle.std.proofs.Common.{sym, arith}
use Rattle.slave.proofs.Words.{no_lane_byte}
use Rattle.slave.proofs.lanes.lane_byte.Goals as goal

pub returns-then-i-ge-LANES : goal.returns-then-i-ge-LANES
returns-then-i-ge-LANES c = sym (no_lane_byte c.args.word c.args.i (omega arith) (omega arith))
