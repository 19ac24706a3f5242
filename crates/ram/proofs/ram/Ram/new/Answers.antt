use Rattle.std.proofs.Common.{ap, ◌∙◌}
use Rattle.ram.proofs.Beats.{made_is}
use Rattle.ram.specs.Making.{make_refusal}
use Rattle.ram.proofs.ram.Ram.new.Goals as goal

pub returns-clause-shown : goal.returns-clause-shown
returns-clause-shown c =
    let p = c.in_ok-port in
    made_is c.args.memory.items c.args.width c.args.most p.port (p.ensures.first ∙ ap (make_refusal c.args.width c.args.most) (c.len.ensures ∙ c.args.memory.ok.0)) p.ensures.shown
