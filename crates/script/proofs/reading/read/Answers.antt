-- The header byte by byte, and then all that is wanted behind it.
use Rattle.std.proofs.Common.{◌≡◌, length, arith, ap, ◌∙◌, subst, IfSome, ◌++◌, take}
use Rattle.script.specs.Files.{Split, header_of, wants}
use Rattle.script.proofs.Input.{read_behind, read_short, taken}
use Rattle.script.proofs.reading.read.Goals as goal

pub returns-in_default-clause-reads : goal.returns-in_default-clause-reads
returns-in_default-clause-reads g c = read_short _ _ _ c.loop.file.items _ c.loop.invariant.0 (omega arith) c.in_default.is c.in_ok-byte.ensures

pub returns-clause-reads : goal.returns-clause-reads
returns-clause-reads g c =
    let head = c.loop.file.items in
    let whole : length head ≡ 8 = omega arith in
    let parts = subst (Split c.deref.result.now) c.unwrap.ensures c.split_header.ensures.answer in
    let header : c.unwrap.result.0 ≡ header_of head = parts.1 ∙ ap header_of c.deref.ensures.value in
    let limit : c.take.result.limit ≡ wants (header_of head) = c.take.ensures.limit ∙ c.wanted.ensures ∙ ap wants header in
    let more = taken (g.R.Read.remaining c.take.result.inner) _ _ head c.read_to_end.new.buf.items limit c.in_ok-read_to_end.ensures.bytes in
    let known = subst (λ x. IfSome (g.R.Read.remaining x) (λ rest. c.read_to_end.new.buf.items ≡ head ++ take (wants (header_of head)) rest)) c.take.ensures.inner more in
    read_behind _ _ head c.read_to_end.new.buf.items c.loop.invariant.0 whole known
