-- A beat more.
use Rattle.std.proofs.Common.{[], ◌∷◌}
use Rattle.burst.specs.Beats.{raw_of}
use Rattle.recorder.specs.declared.record.Call.TheVariants.{Open}
use Rattle.trips.specs.declared.trace.Event.TheVariants.{Above}
use Rattle.trips.proofs.Beats.{grown}
use Rattle.trips.proofs.runs.split_trace.Goals as goal

pub loop-beat-preserved : goal.loop-beat-preserved
loop-beat-preserved c =
    grown c.args.number c.args.channel (raw_of c.args.burst) c.loop-beat.beat
    (Above (Open c.args.channel (raw_of c.args.burst)) ∷ []) _ _ _ _ _ _
    c.loop-beat.invariant c.opened_run.ensures c.beat_call-call.ensures
    c.in_ok-push_some.ensures c.in_ok-push-2.ensures.items c.in_ok-push-3.ensures.items
