-- The text of a line that is being written.
use Rattle.std.specs.Prelude.{ℕ, List, take}
use Rattle.report.specs.declared.line.TheConstants.{LINE_BYTES}
use Rattle.report.specs.declared.line.Line.{Line}

-- the bytes that stand so far
abbrev pub text : Line → List ℕ
text l = l.bytes.items

-- as much of a text as fits in a line
unfoldable pub cut : List ℕ → List ℕ
cut bytes = take LINE_BYTES bytes
