use Rattle.std.proofs.Common.{rules}
use Rattle.burst.specs.Beats.{lane_mask}
use Rattle.burst.proofs.cover.Cover.lanes.Goals as goal

pub returns : goal.returns
unfolding lane_mask
returns c = search rules
