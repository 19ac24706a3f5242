-- What one act leaves of a run.
use Rattle.std.proofs.Common.{◌≡◌, ◌∷◌, Ok, Err, Result, refl}
use Rattle.slave.specs.declared.channels.Channel.{Channel}
use Rattle.slave.specs.declared.channels.Channel.TheVariants.{Write, Read}
use Rattle.fabric.specs.declared.types.Request.{Request}
use Rattle.fabric.specs.declared.types.Act.{Act}
use Rattle.fabric.specs.declared.types.Act.TheVariants.{Request as Ask}
use Rattle.fabric.specs.declared.types.Answer.{Answer}
use Rattle.fabric.specs.declared.types.FabricFault.{FabricFault}
use Rattle.slave.specs.Meaning.{Meaning, stand_at, Board}
use Rattle.fabric.specs.Channels.{Channels}
use Rattle.history.specs.Tracks.{stand_of, channels_after, slave_after, act_answer, act_after, act_slave}
use Rattle.history.specs.History.{History}
use Rattle.history.specs.Owed.{owed}
use Rattle.history.proofs.Quiet.{event, channels_refused, slave_refused}
use Rattle.history.proofs.Asking.{request_owed, request_leaves, request_slave}

-- an act in a run has the answer that is owed to it, and leaves the fabric and the slave that the longer history says
pub record Step (m : Board) (h : History) (a : Act) (r : Result Answer FabricFault) (c : Channels) (s : Meaning) : Type 0 where
  pub answers : r ≡ owed m h a
  pub after : c ≡ channels_after (event a (owed m h a) ∷ h)
  pub slave : s ≡ slave_after m (event a (owed m h a) ∷ h)

-- a refused act leaves all as it was
pub refused_step : (m : Board) (h : History) (a : Act) (e : FabricFault) (r : Result Answer FabricFault) (c : Channels) (s : Meaning)
    → owed m h a ≡ Err e → r ≡ Err e → c ≡ channels_after h → s ≡ slave_after m h → Step m h a r c s
refused_step m h a e r c s o x y z = record { answers = rw (x, o); after = rw (y, o) (channels_refused a e h); slave = rw (z, o) (slave_refused m a e h) }

-- an accepted act leaves what the longer history says
pub accepted_step : (m : Board) (h : History) (a : Act) (w : Answer) (r : Result Answer FabricFault) (c : Channels) (s : Meaning)
    → owed m h a ≡ Ok w → r ≡ Ok w → c ≡ channels_after (event a (Ok w) ∷ h) → s ≡ slave_after m (event a (Ok w) ∷ h) → Step m h a r c s
accepted_step m h a w r c s o x y z = record { answers = rw (x, o); after = rw (y, o); slave = rw (z, o) }

-- an act of the fabric keeps to the run
abbrev pub ActStep : Board → History → Act → Type 0
ActStep m h a = Step m h a (act_answer (channels_after h) (slave_after m h) a) (act_after (channels_after h) (slave_after m h) a) (act_slave (channels_after h) (slave_after m h) a)

-- the slave stands where the history says
pub stand_is : (m : Board) (ch : Channel) (h : History) → stand_at (slave_after m h) ch ≡ stand_of (Rattle.history.specs.History.opened ch h)
stand_is m Write h = refl
stand_is m Read h = refl

-- a request
pub request_step : (m : Board) (h : History) (ch : Channel) (q : Request) → ActStep m h (Ask ch q)
unfolding owed
request_step m h Write q = record { answers = request_owed Write h q; after = request_leaves m Write h q; slave = request_slave m Write h q }
request_step m h Read q = record { answers = request_owed Read h q; after = request_leaves m Read h q; slave = request_slave m Read h q }
