use Rattle.std.proofs.Common.{◌≡◌, ◌+◌, ◌<◌, sym, subst, arith, rules, pow_mono}
use Rattle.burst.specs.Rules.{width_bytes, kind_code}
use Rattle.burst.specs.Beats.{raw_of, address_of, last_of, lane_mask}
use Rattle.burst.specs.Laws.{LaneBits}
use Rattle.burst.proofs.Facts.{facts, width_some, width_power, power_le}
use Rattle.burst.proofs.Masks.{lane_bits}
use Rattle.burst.proofs.Tiles.{beat_few}
use Rattle.burst.proofs.burst.Burst.lanes.Goals as goal

pub returns-clause-bits : goal.returns-clause-bits
returns-clause-bits c =
    let b = raw_of c.args.self in
    let j = c.args.j in
    let w = width_bytes c.args.width in
    let fs = facts (kind_code c.args.self.kind) c.args.self.start c.args.self.size c.args.self.count c.args.self.lawful in
    let few : last_of b j < address_of b j + 8 = omega (arith, beat_few b c.args.self.lawful j, pow_mono {i = c.args.self.size} {j = 3} fs.size) in
    let at : c.lanes.result ≡ lane_mask w (address_of b j) (last_of b j) = search rules in
    subst (LaneBits w (address_of b j) (last_of b j)) (sym at) (lane_bits w (address_of b j) (last_of b j) (width_some c.args.width) (power_le w 3 (width_power c.args.width)) few)
