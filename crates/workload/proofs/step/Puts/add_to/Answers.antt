use Rattle.std.proofs.Common.{rules, arith}
use Rattle.std.proofs.lemmas.Result.{on_ok_weaker, on_err_weaker}
use Rattle.std.proofs.lemmas.Iterator.{YieldsList-from_range, YieldsList-from_map}
use Rattle.workload.specs.Moves.{put_of}
use Rattle.workload.proofs.Extends.{added_by_extend}
use Rattle.workload.proofs.Carries.{carries_added}
use Rattle.workload.proofs.step.Puts.add_to.Goals as goal

pub returns : goal.returns
returns c =
    let h = added_by_extend c.extend.result c.extend.ensures.ran
    (YieldsList-from_map _ (put_of c.args.frame.now c.args.self) (YieldsList-from_range 0 c.args.self.beats c.args.self.beats (search rules) (omega arith))
    c.map.ensures.closure (λ x r q k. search rules)) in
    record {
      added = search rules;
      no_memory = on_err_weaker c.extend.result (λ q. (q.0, q.1.0)) h.1;
      law = on_ok_weaker c.extend.result
          (λ q. carries_added c.args.frame.now (λ k l. omega (arith, c.type_inv.frame k)) c.args.self c.args.acts.now.items c.extend.new.self.items q.0)
          h.0;
    }
