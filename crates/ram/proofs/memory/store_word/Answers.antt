use Rattle.std.proofs.Common.{refl}
use Rattle.slave.specs.Lanes.{worst_lane}
use Rattle.ram.specs.Memory.{put_lanes}
use Rattle.ram.proofs.memory.store_word.Goals as goal

pub loop-i-init : goal.loop-i-init
unfolding put_lanes worst_lane
loop-i-init c = record { stored = refl; worse = refl }
