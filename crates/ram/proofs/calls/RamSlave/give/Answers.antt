use Rattle.std.proofs.Common.{ap, ◌∙◌}
use Rattle.ram.proofs.Beats.{with_same}
use Rattle.ram.proofs.calls.RamSlave.give.Goals as goal

pub returns-clause-refused : goal.returns-clause-refused
returns-clause-refused c = λ r. let e = c.give.ensures.refused r in let same = with_same c.args.self.now.memory c.give.new.memory (e.1 ∙ c.deref_mut.ensures.value) in ap (λ m. record { memory = m; port = c.give.new.self }) same ∙ ap (λ p. record { memory = c.args.self.now.memory; port = p }) e.0
