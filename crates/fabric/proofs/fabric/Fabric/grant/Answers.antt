use Rattle.std.proofs.Common.{ap, ◌∙◌}
use Rattle.fabric.specs.Lending.{with_channel}
use Rattle.fabric.proofs.fabric.Fabric.grant.Goals as goal

pub returns-clause-refused : goal.returns-clause-refused
returns-clause-refused g c = λ e. let r = c.grant.ensures.refused e in (ap (with_channel c.args.self.now c.args.channel) r.0 ∙ c.queue.ensures.same, r.1)
