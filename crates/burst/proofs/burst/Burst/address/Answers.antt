use Rattle.std.proofs.Common.{rules}
use Rattle.burst.specs.Beats.{address_of}
use Rattle.burst.proofs.burst.Burst.address.Goals as goal

pub returns-in-Fixed : goal.returns-in-Fixed
unfolding address_of
returns-in-Fixed c = search rules

pub returns-in-Incr : goal.returns-in-Incr
unfolding address_of
returns-in-Incr c = search rules

pub returns-in-Wrap : goal.returns-in-Wrap
unfolding address_of
returns-in-Wrap c = search rules
