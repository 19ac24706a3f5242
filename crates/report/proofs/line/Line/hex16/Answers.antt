use Rattle.std.proofs.Common.{◌+◌, ◌++◌, length, drop, sym, ap, ◌∙◌, arith}
use Rattle.std.proofs.lemmas.List.{at_drop_more, at_drop_all}
use Rattle.std.specs.List.{flat_map}
use Rattle.report.specs.Lines.{hex2}
use Rattle.report.specs.Texts.{cut, text}
use Rattle.report.proofs.Digits.{byte_by_byte}
use Rattle.report.proofs.Pushes.{cut_more, kept}
use Rattle.report.proofs.line.Line.hex16.Goals as goal

pub loop-byte-init : goal.loop-byte-init
loop-byte-init c = ap (λ bs. cut (text c.args.self.now ++ bs)) (ap (flat_map hex2) c.to_be_bytes-byte-items.ensures ∙ byte_by_byte 8 c.args.word)

pub loop-byte-preserved : goal.loop-byte-preserved
loop-byte-preserved c =
    let s = text c.loop-byte.self in
    let bytes = c.to_be_bytes-byte-items.result in
    let rest = flat_map hex2 (drop (c.loop-byte.byte-index + 1) bytes) in
    let next = at_drop_more (λ bs. cut (s ++ flat_map hex2 bs)) bytes c.loop-byte.byte-index 0 (omega (arith, ap length c.to_be_bytes-byte-items.ensures)) in
    ap (λ t. cut (t ++ rest)) c.hex2.ensures ∙ cut_more s _ rest ∙ sym next ∙ c.loop-byte.invariant

pub returns : goal.returns
returns c =
    let s = text c.loop-byte.self in
    let end = at_drop_all (λ bs. cut (s ++ flat_map hex2 bs)) c.to_be_bytes-byte-items.result c.loop-byte.byte-index (omega (arith, ap length c.to_be_bytes-byte-items.ensures)) in
    sym (kept s c.loop-byte.self.within) ∙ sym end ∙ c.loop-byte.invariant
