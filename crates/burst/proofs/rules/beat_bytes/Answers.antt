use Rattle.std.proofs.Common.{◌≡◌, ◌*◌, ◌^◌, ◌%◌, ap, arith, pow_mono}
use Rattle.burst.proofs.rules.beat_bytes.Goals as goal

pub returns-clause-large : goal.returns-clause-large
returns-clause-large c = λ h. (ap (λ k. 1 * 2 ^ k % 4294967296) (let e : c.min.result ≡ 4 = omega (arith, c.min.ensures) in e), pow_mono {i = 4} h)
