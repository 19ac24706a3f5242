use Rattle.std.proofs.Common.{◌≡◌, ◌++◌, drop}
use Rattle.std.specs.List.{flat_map}
use Rattle.report.specs.Lines.{hex2, hex_bytes}
use Rattle.report.specs.Texts.{cut, text}
use Rattle.report.proofs.line.Line.hex16.Given as goal

abbrev pub invariant-loop-byte : goal.invariant-loop-byte
invariant-loop-byte l = cut (text l.self ++ flat_map hex2 (drop l.byte-index l.byte-items)) ≡ cut (text l.initial.self ++ hex_bytes 8 l.word)
