use Rattle.std.proofs.Common.{◌≡◌, ◌+◌, cond}
use Rattle.slave.specs.declared.response.Response.TheVariants.{Okay}
use Rattle.slave.specs.Lanes.{worst_lane, write_response}
use Rattle.burst.specs.Beats.{bit}
use Rattle.ram.specs.Memory.{put_lanes, kind_at}
use Rattle.ram.proofs.memory.store_word.Given as goal

abbrev pub invariant-loop-i : goal.invariant-loop-i
invariant-loop-i l = record {
  stored : l.mem ≡ put_lanes l.initial.mem l.base l.word l.strobe l.i;
  worse : l.worst ≡ worst_lane (λ i. cond (bit l.strobe i) (write_response (kind_at l.initial.mem (l.base + i))) Okay) l.i;
}
