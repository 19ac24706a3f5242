use Rattle.std.proofs.Common.{◌≡◌, true, is_some, refl}
use Rattle.slave.specs.Acts.{open_after}
use Rattle.slave.specs.Meaning.{Meaning}
use Rattle.splitter.specs.Shows.{splits}
use Rattle.splitter.proofs.Opens.{stays_at, open_busy, holds_of}
use Rattle.splitter.proofs.calls.SplitterSlave.open.Goals as goal

pub returns-then-is_some-clause-below : goal.returns-then-is_some-clause-below
returns-then-is_some-clause-below g c =
    let r = c.args.self.now in
    let m = g.S.Slave.meaning r.below in
    let x : Meaning = splits r.channels m in
    let is : is_some c.place.result ≡ true = cc in
    stays_at (holds_of r (g.met.S.Slave.sound r.below)) c.args.channel m (open_after x c.args.channel c.args.burst)
    (open_busy x c.args.channel c.args.burst c.place.result refl c.place.ensures is) refl
