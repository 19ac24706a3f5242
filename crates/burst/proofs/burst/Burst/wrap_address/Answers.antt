use Rattle.std.proofs.Common.{◌+◌, ◌-◌, ◌*◌, ◌/◌, arith}
use Rattle.std.proofs.lemmas.Nat.{mod_below}
use Rattle.burst.proofs.Facts.{top_of}
use Rattle.burst.proofs.burst.Burst.wrap_address.Goals as goal

pub overflow_add-result-2 : goal.overflow_add-result-2
overflow_add-result-2 c =
    let round = c.all_bytes-round in
    let low = c.args.self.start / round.result * round.result in
    omega (
      arith,
      top_of c.args.self.start round.result 7 (omega arith) (omega arith) (round.ensures.round c.requires.kind),
      mod_below (c.args.self.start - low + c.args.j * c.beat_bytes.result) round.result round.ensures.nonzero,
    )
