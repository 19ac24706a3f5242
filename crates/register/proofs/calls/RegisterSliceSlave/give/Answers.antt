use Rattle.std.proofs.Common.{sym, ap, ◌∙◌}
use Rattle.slave.specs.Meaning.{told}
use Rattle.slave.proofs.Snapshots.{known}
use Rattle.register.specs.Shows.{shows}
use Rattle.register.proofs.calls.RegisterSliceSlave.give.Goals as goal

pub give_beat-requires : goal.give_beat-requires
give_beat-requires g c = let x = c.args.self.now in sym (known x.snapshot (shows g.S.Slave.meaning x) x.known).write ∙ ap told c.in_ok-at.ensures.ok_part
