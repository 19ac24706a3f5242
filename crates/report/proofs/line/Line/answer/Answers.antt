use Rattle.std.proofs.Common.{append_assoc}
use Rattle.report.proofs.Pushes.{cut_more}
use Rattle.report.proofs.line.Line.answer.Goals as goal

pub returns-in-Beat-clause-text : goal.returns-in-Beat-clause-text
returns-in-Beat-clause-text c = simp (c.push-in-Beat-5.ensures, c.push-in-Beat-4.ensures, c.push-in-Beat-3.ensures, c.hex16.ensures, c.push-in-Beat-2.ensures, c.source-in-Beat.ensures, c.push-in-Beat.ensures, c.in-Beat.is, c.response_name-in-Beat.ensures, c.last_word.ensures, cut_more, append_assoc)
