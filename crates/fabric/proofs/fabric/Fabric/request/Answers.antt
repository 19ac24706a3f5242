use Rattle.std.proofs.Common.{ap, ◌∙◌}
use Rattle.fabric.specs.Lending.{with_channel}
use Rattle.fabric.proofs.fabric.Fabric.request.Goals as goal

pub returns-clause-refused : goal.returns-clause-refused
returns-clause-refused c = λ e. ap (with_channel c.args.self.now c.args.channel) (c.request.ensures.refused e) ∙ c.queue.ensures.same
