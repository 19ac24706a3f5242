use Rattle.std.proofs.Common.{rules}
use Rattle.burst.specs.Beats.{raw_of}
use Rattle.burst.proofs.Tiles.{beats_lie}
use Rattle.burst.proofs.burst.Burst.span.Goals as goal

pub returns-in-Wrap-clause-law : goal.returns-in-Wrap-clause-law
returns-in-Wrap-clause-law c = beats_lie (raw_of c.args.self) c.args.self.lawful

pub returns-in-Fixed : goal.returns-in-Fixed
returns-in-Fixed c = record { value = search rules; law = beats_lie (raw_of c.args.self) c.args.self.lawful }
