use Rattle.converter.proofs.Order.{pieces_lie}
use Rattle.converter.proofs.laws.pieces_lie.Goals as goal

pub returns : goal.returns
returns c = pieces_lie
