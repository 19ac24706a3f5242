-- No line is longer than the room for one.
use Rattle.std.proofs.Common.{◌≡◌, ℕ, ◌^◌, ◌<◌, ◌≤◌, Bool, true, false, cond, eqb, [], length, codes, Ok, Err, length-append, arith}
use Rattle.std.proofs.lemmas.List.{take_all}
use Rattle.std.proofs.lemmas.Fmt.{length-decimal-le}
use Rattle.slave.specs.declared.response.Response.{Response}
use Rattle.slave.specs.declared.response.Response.TheVariants.{Okay, SlvErr, DecErr}
use Rattle.fabric.specs.declared.types.Answer.{Answer}
use Rattle.fabric.specs.declared.types.Answer.TheVariants.{Accepted, Granted, More, Done, Beat}
use Rattle.report.specs.declared.line.TheConstants.{LINE_BYTES}
use Rattle.report.specs.Outcomes.{Told}
use Rattle.report.specs.Lines.{response_name, source, answer_words, words, line}
use Rattle.report.specs.Laws.{AnswerFits, ToldFits}
use Rattle.report.specs.Texts.{cut}

name_short : (r : Response) → length (response_name r) ≤ 6
name_short Okay = omega arith
name_short SlvErr = omega arith
name_short DecErr = omega arith

mark_short : (b : Bool) → length (cond b (codes " LAST") []) ≤ 5
mark_short true = omega arith
mark_short false = omega arith

source_short : (m i : ℕ) → m < 2 ^ 8 → length (source m i) ≤ 6
source_short m i h = omega (arith, length-append {A = ℕ}, length-decimal-le 3 m (omega arith) (omega arith) (omega arith))

answer_short : (a : Answer) → AnswerFits a → length (answer_words a) ≤ 37
answer_short Accepted f = omega arith
answer_short (Granted m i) f = omega (arith, source_short m i f.0)
answer_short (More n) f = omega (arith, length-decimal-le 5 n (omega arith) (omega arith) (omega arith))
answer_short (Done m i r) f = omega (arith, length-append {A = ℕ}, source_short m i f.0, name_short r)
answer_short (Beat m i w r l) f = omega (arith, length-append {A = ℕ}, source_short m i f.0, name_short r, mark_short (eqb l 0))

words_short : (t : Told) → ToldFits t → length (words t) ≤ 37
words_short (Ok a) f = answer_short a f
words_short (Err r) f = omega (arith, length-decimal-le 3 r.number (omega arith) (omega arith) (omega arith))

pub line_short : (n : ℕ) (t : Told) → n < 2 ^ 32 → ToldFits t → length (line n t) ≤ LINE_BYTES
line_short n t h f = omega (arith, length-append {A = ℕ}, words_short t f, length-decimal-le 10 n (omega arith) (omega arith) (omega arith))

-- so nothing of it is cut off
pub line_whole : (n : ℕ) (t : Told) → n < 2 ^ 32 → ToldFits t → cut (line n t) ≡ line n t
unfolding cut
line_whole n t h f = take_all LINE_BYTES (line n t) (line_short n t h f)
