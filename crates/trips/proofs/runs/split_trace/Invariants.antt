use Rattle.std.proofs.Common.{◌≡◌, ◌++◌, ◌∷◌, []}
use Rattle.burst.specs.Beats.{raw_of}
use Rattle.recorder.specs.declared.record.Call.TheVariants.{Open}
use Rattle.trips.specs.declared.trace.Event.TheVariants.{Above}
use Rattle.trips.specs.Traces.{beats_until}
use Rattle.trips.proofs.runs.split_trace.Given as goal

abbrev pub invariant-loop-beat : goal.invariant-loop-beat
invariant-loop-beat l =
    l.trace.items ≡ (Above (Open l.channel (raw_of l.burst)) ∷ []) ++ beats_until l.number l.channel (raw_of l.burst) l.beat
