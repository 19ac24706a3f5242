-- A lane of the bus is used exactly if the first byte that could travel in it is covered.
use Rattle.std.proofs.Common.{◌≡◌, ◌≤◌, ◌&&◌, Bool, true, false, leb, ltb, ap, subst, sym, ◌∙◌, ◌+◌, ◌-◌, ◌%◌, arith}
use Rattle.std.proofs.lemmas.Bool.{lt-ltb, le-ltb}
use Rattle.burst.specs.Rules.{width_bytes}
use Rattle.burst.proofs.Facts.{width_some}
use Rattle.burst.proofs.Masks.{first_use}
use Rattle.burst.proofs.cover.Cover.uses.Goals as goal

pub returns-then-lane-bus : goal.returns-then-lane-bus
returns-then-lane-bus c =
    let w = width_bytes c.args.width in
    let x = c.args.self in
    let small : w ≤ 8 = subst (λ n. n ≤ 8) c.bytes-bus.ensures.value c.bytes-bus.ensures.bound in
    let lane : ltb c.args.lane w ≡ true = lt-ltb c.args.lane w (omega (arith, c.if-lane-bus.true, c.from-lane.ensures, c.bytes-bus.ensures.value)) in
    rw (c.from.ensures, c.from-then-lane-bus.ensures, c.from-then-lane-bus-2.ensures, c.from-lane.ensures, c.bytes-bus.ensures.value)
    (ap (λ (t : Bool). t && leb (x.first + (c.args.lane + w - x.first % w) % w) x.last) (sym lane) ∙ first_use w x.first x.last c.args.lane (width_some c.args.width) small)

pub returns-else-lane-bus : goal.returns-else-lane-bus
returns-else-lane-bus c =
    let w = width_bytes c.args.width in
    let x = c.args.self in
    let small : w ≤ 8 = subst (λ n. n ≤ 8) c.bytes-bus.ensures.value c.bytes-bus.ensures.bound in
    let lane : ltb c.args.lane w ≡ false = le-ltb c.args.lane w (omega (arith, c.if-lane-bus.false, c.from-lane.ensures, c.bytes-bus.ensures.value)) in
    rw (c.from-lane.ensures, c.bytes-bus.ensures.value)
    (lane ∙ sym (ap (λ (t : Bool). t && leb (x.first + (c.args.lane + w - x.first % w) % w) x.last) lane) ∙ first_use w x.first x.last c.args.lane (width_some c.args.width) small)
