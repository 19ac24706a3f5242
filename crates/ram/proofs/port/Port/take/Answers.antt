use Rattle.std.proofs.Common.{ltb}
use Rattle.burst.specs.Beats.{raw_of, address_of, last_of}
use Rattle.burst.proofs.Facts.{some_is}
use Rattle.ram.proofs.port.Port.take.Goals as goal

pub returns-clause-answer : goal.returns-clause-answer
returns-clause-answer c =
    let b = raw_of c.in_ok-open.open.burst in
    let k = c.in_ok-open.open.taken in
    let cover = some_is (ltb k b.count) (record { first = address_of b k; last = last_of b k }) c.unwrap-cover.result c.cover.result c.cover.ensures c.unwrap-cover.ensures in
    rw (c.load_word-word.ensures, c.load_worst-response.ensures, c.left.ensures, cover, c.in_ok-open.ensures.ok_part)
