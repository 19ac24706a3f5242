use Rattle.std.proofs.Common.{rules}
use Rattle.burst.specs.Beats.{last_of}
use Rattle.burst.proofs.burst.Burst.cover.Goals as goal

pub returns : goal.returns
unfolding last_of
returns c = search rules
