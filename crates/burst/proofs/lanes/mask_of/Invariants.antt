-- The mask of the lanes so far, which has no bit from there on.
use Rattle.std.proofs.Common.{◌≡◌, ℕ, ◌^◌, ◌<◌, Bool}
use Rattle.burst.specs.Beats.{mask_below}
use Rattle.burst.proofs.lanes.mask_of.Given as goal

abbrev pub invariant-loop-i : goal.invariant-loop-i
invariant-loop-i g l = ((p : ℕ → Bool) → ((i : ℕ) (b : Bool) → i < 8 → goal.F-post g l.test i b → b ≡ p i) → l.mask ≡ mask_below p l.i) × (l.mask < 2 ^ l.i)
