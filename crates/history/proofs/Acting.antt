-- One act on a fabric and a slave in a run.
use Rattle.std.proofs.Common.{◌≡◌, ◌∷◌, Result}
use Rattle.fabric.specs.declared.types.Act.{Act}
use Rattle.fabric.specs.declared.types.Act.TheVariants.{Request as Ask, Grant, Put, Take}
use Rattle.fabric.specs.declared.types.Answer.{Answer}
use Rattle.fabric.specs.declared.types.FabricFault.{FabricFault}
use Rattle.slave.specs.Meaning.{Meaning, Board}
use Rattle.fabric.specs.Channels.{Channels}
use Rattle.history.specs.Tracks.{act_answer, act_after, act_slave}
use Rattle.history.specs.History.{History}
use Rattle.history.specs.Owed.{owed, Run}
use Rattle.history.specs.Tracks.{Tracks, GoesOn}
use Rattle.history.proofs.Whole.{runs_hold}
use Rattle.history.proofs.Quiet.{event}
use Rattle.history.proofs.Steps.{ActStep, request_step}
use Rattle.history.proofs.Granting.{grant_step}
use Rattle.history.proofs.Putting.{put_step}
use Rattle.history.proofs.Taking.{take_step}

-- each act keeps to the run
act_step : (m : Board) (h : History) (a : Act) → Run m h → ActStep m h a
act_step m h (Ask ch q) r = request_step m h ch q
act_step m h (Grant ch) r = grant_step m h ch r
act_step m h (Put p w s l) r = put_step m h p w s l
act_step m h Take r = take_step m h

-- the longer history is a run, and the fabric and the slave are what it says
pub act_tracks : (m : Board) (h : History) (c : Channels) (s : Meaning) (a : Act) → Tracks m h c s
    → (r : Result Answer FabricFault) (c' : Channels) (s' : Meaning) → r ≡ act_answer c s a → c' ≡ act_after c s a → s' ≡ act_slave c s a → Tracks m (event a r ∷ h) c' s'
act_tracks m h c s a t r c' s' x y z =
    let p = act_step m h a t.run in
    let e : r ≡ owed m h a = rw (x, t.fabric, t.slave) p.answers in
    record { small = t.small; run = (e, t.run); fabric = rw (y, t.fabric, t.slave, e) p.after; slave = rw (z, t.fabric, t.slave, e) p.slave }

-- and the law holds of the longer run
pub goes_on : GoesOn
goes_on c s a r c' s' x y z = record {
  run = λ m h t. act_tracks m h c s a t r c' s' x y z;
  law = λ m h t. runs_hold m t.small (event a r ∷ h) (act_tracks m h c s a t r c' s' x y z).run;
}
