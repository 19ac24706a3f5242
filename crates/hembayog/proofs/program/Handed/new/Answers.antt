-- A clone of a byte is the byte.
use Rattle.hembayog.proofs.program.Handed.new.Goals as goal

pub returns-clause-report : goal.returns-clause-report
returns-clause-report c = c.in-Ok-vec.ensures.items_if_clones_equal (λ y same. same)
