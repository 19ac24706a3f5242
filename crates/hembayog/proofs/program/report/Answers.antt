-- The buffer in front of the input is empty, so what is read is the input's.
use Rattle.std.proofs.Common.{ap, ◌∙◌}
use Rattle.bench.specs.Runs.{report_of}
use Rattle.hembayog.proofs.Inputs.{buffered, reports}
use Rattle.hembayog.proofs.program.report.Goals as goal

pub returns : goal.returns
returns g c =
    let new = c.in-Ok.ensures in
    let same = buffered g.R.Read.remaining c.in-Ok.input c.args.input new.inner new.empty new.capacity in
    reports _ _ c.in-Ok-read.file.items _ same c.in-Ok-read.ensures.reads (c.report.ensures ∙ ap report_of c.deref.ensures.value)
