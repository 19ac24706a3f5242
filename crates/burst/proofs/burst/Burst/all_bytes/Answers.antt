use Rattle.std.proofs.Common.{◌*◌, ap, ◌∙◌}
use Rattle.burst.specs.Rules.{kind_code}
use Rattle.burst.proofs.Facts.{facts, round_power}
use Rattle.burst.proofs.burst.Burst.all_bytes.Goals as goal

pub returns-clause-round : goal.returns-clause-round
returns-clause-round c = λ k.
    let f = facts (kind_code c.args.self.kind) c.args.self.start c.args.self.size c.args.self.count c.args.self.lawful in
    let p = round_power c.args.self.count c.args.self.size (f.wrap (ap kind_code k)) f.size in
    (p.0, p.1, ap (λ x. x * c.beat_bytes.result) c.from.ensures ∙ ap (λ x. c.args.self.count * x) c.beat_bytes.ensures.value ∙ p.2)
