-- The worst response of the lanes so far.
use Rattle.std.proofs.Common.{◌≡◌, ℕ, ◌<◌}
use Rattle.slave.specs.Lanes.{worst_lane}
use Rattle.slave.specs.declared.response.Response.{Response}
use Rattle.slave.proofs.lanes.worst_of.Given as goal

abbrev pub invariant-loop-i : goal.invariant-loop-i
invariant-loop-i g l = (p : ℕ → Response) → ((i : ℕ) (r : Response) → i < 8 → goal.F-post g l.response i r → r ≡ p i) → l.worst ≡ worst_lane p l.i
