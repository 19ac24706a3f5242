use Rattle.slave.proofs.Snapshots.{answers_from}
use Rattle.slave.proofs.snapshot.Snapshot.of.Goals as goal

pub returns-clause-kept : goal.returns-clause-kept
returns-clause-kept g c = λ l. answers_from _ (g.S.Slave.meaning c.args.slave.now) (record { live = l; width = c.width.ensures; most = c.most.ensures; full = c.full.ensures; write = c.place.ensures; read = c.place-2.ensures })
