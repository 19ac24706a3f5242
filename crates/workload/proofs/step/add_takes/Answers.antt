use Rattle.std.proofs.Common.{rules, ◌≡◌}
use Rattle.std.proofs.lemmas.Result.{on_err_weaker}
use Rattle.std.proofs.lemmas.Iterator.Adapters.{YieldsList-from_repeat_n}
use Rattle.fabric.specs.declared.types.Act.TheVariants.{Take}
use Rattle.workload.proofs.Extends.{added_by_extend}
use Rattle.workload.proofs.step.add_takes.Goals as goal

pub returns : goal.returns
returns c =
    let h = added_by_extend c.extend.result c.extend.ensures.ran
    (YieldsList-from_repeat_n (λ x y. y ≡ x) c.args.beats Take (search rules) c.repeat_n.ensures.item (λ y k. k)) in
    record { added = search rules; no_memory = on_err_weaker c.extend.result (λ q. (q.0, q.1.0)) h.1 }
