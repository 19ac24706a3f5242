-- Where no read is open a take is refused.
use Rattle.std.proofs.Common.{sym, ap, ◌∙◌}
use Rattle.slave.specs.Meaning.{told}
use Rattle.slave.proofs.Snapshots.{known}
use Rattle.register.specs.Shows.{shows}
use Rattle.register.proofs.Knows.{none_taken}
use Rattle.register.proofs.calls.RegisterSliceSlave.take.Goals as goal

pub returns-in_default-clause-answer : goal.returns-in_default-clause-answer
returns-in_default-clause-answer g c =
    let x = c.args.self.now in
    let m = shows g.S.Slave.meaning x in
    sym (none_taken x.snapshot m x.known (sym (known x.snapshot m x.known).read ∙ ap told c.in_default.is)).0

pub returns-in_default-clause-after : goal.returns-in_default-clause-after
returns-in_default-clause-after g c =
    let x = c.args.self.now in
    let m = shows g.S.Slave.meaning x in
    sym (none_taken x.snapshot m x.known (sym (known x.snapshot m x.known).read ∙ ap told c.in_default.is)).1
