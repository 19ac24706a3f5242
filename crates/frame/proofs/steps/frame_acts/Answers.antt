use Rattle.std.proofs.Common.{arith}
use Rattle.frame.proofs.Once.{written_once}
use Rattle.frame.proofs.steps.frame_acts.Goals as goal

pub returns-in_err-steps-clause-law : goal.returns-in_err-steps-clause-law
returns-in_err-steps-clause-law c = written_once c.args.frame.now (λ k l. omega (arith, c.type_inv.frame k))

pub returns-clause-law : goal.returns-clause-law
returns-clause-law c = written_once c.args.frame.now (λ k l. omega (arith, c.type_inv.frame k))
