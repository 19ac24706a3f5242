-- Three splitters, and the others over those.
use Rattle.depths.proofs.Nests.{over_three}
use Rattle.depths.specs.Nested.{splitter_over}
use Rattle.depths.proofs.nested.over_five_splitters.Goals as goal

pub returns-else-depth-lt3 : goal.returns-else-depth-lt3
returns-else-depth-lt3 g c =
    over_three splitter_over 2 c.args.depth _ _ _ _ _ c.if-depth-lt3.false c.splitter.ensures
    c.splitter-else-depth-lt3.ensures c.splitter-else-depth-lt3-2.ensures c.over_two_splitters-else-depth-lt3.ensures
