use Rattle.std.proofs.Common.{◌≡◌, ◌+◌, ◌^◌, ◌<◌, ◌≤◌, ◌∙◌, ⊎_elim, arith, pow_mono}
use Rattle.std.proofs.lemmas.Bool.{cases_lt}
use Rattle.std.proofs.lemmas.Nat.{pow-add}
use Rattle.burst.proofs.Facts.{code_le}
use Rattle.converter.proofs.Cuts.{width_code, width_is_power}
use Rattle.converter.proofs.cut.size_code.Goals as goal

pub returns : goal.returns
returns c =
    let k = width_code c.args.width in
    let r = c.ilog2.result in
    let e : c.bytes.result ≡ 2 ^ k = c.bytes.ensures.value ∙ width_is_power c.args.width in
    let low : r ≤ k = code_le r k (omega arith) in
    let high : k ≤ r = ⊎_elim (λ (lt : r < k). let p : 2 ^ (r + 1) ≤ 2 ^ k = pow_mono (let z : r + 1 ≤ k = omega arith in z) in absurd (omega (arith, pow-add 2 r 1))) (λ ge. ge) (cases_lt r k) in
    omega arith
