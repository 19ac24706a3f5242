-- Channels with the same parts are the same.
use Rattle.std.proofs.Common.{◌≡◌, true}
use Rattle.std.proofs.Math.Bool.{Bool-set}
use mathlib.Core.HLevel.{is_prop→PathP}
use Rattle.fabric.specs.Rows.{beat_left}
use Rattle.fabric.specs.declared.queue.ChannelQueue.{ChannelQueue}

pub queue_same : (p q : ChannelQueue) → p.waiting ≡ q.waiting → p.current ≡ q.current → p ≡ q
queue_same p q e h = λ i. record { waiting = e i; current = h i; left = is_prop→PathP (λ j. beat_left (h j) ≡ true) (λ j. Bool-set (beat_left (h j)) true) p.left q.left i }
