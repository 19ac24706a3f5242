-- Three slices, and the others over those.
use Rattle.depths.proofs.Nests.{over_three}
use Rattle.depths.specs.Nested.{slice_over}
use Rattle.depths.proofs.nested.over_five_slices.Goals as goal

pub returns-else-depth-lt3 : goal.returns-else-depth-lt3
returns-else-depth-lt3 g c =
    over_three slice_over 2 c.args.depth _ _ _ _ _ c.if-depth-lt3.false c.slice.ensures
    c.slice-else-depth-lt3.ensures c.slice-else-depth-lt3-2.ensures c.over_two_slices-else-depth-lt3.ensures
