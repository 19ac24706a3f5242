-- A take of the fabric in a run.
use Rattle.std.proofs.Common.{◌≡◌, ℕ, false, ◌∷◌, Some, None, Ok, Err, Option, refl, ap}
use Rattle.burst.specs.declared.raw.RawBurst.{RawBurst}
use Rattle.slave.specs.declared.channels.Channel.{Channel}
use Rattle.slave.specs.declared.channels.Channel.TheVariants.{Write, Read}
use Rattle.fabric.specs.declared.types.Act.TheVariants.{Take}
use Rattle.fabric.specs.declared.types.FabricFault.{FabricFault}
use Rattle.slave.specs.Meaning.{Meaning, busy, is_at, Board}
use Rattle.fabric.specs.Channels.{Queue, with_queue}
use Rattle.history.specs.Tracks.{stand_of, queue_after, channels_after, slave_after}
use Rattle.slave.specs.Acts.{past, took_answer}
use Rattle.slave.proofs.Calls.{take_taken, is_at_self}
use Rattle.fabric.specs.declared.types.FabricFault.TheVariants.{NotOpen}
use Rattle.fabric.specs.Acts.{take_test, take_shown, take_answer, take_after, take_slave}
use Rattle.history.specs.History.{Event, History, same, Going, burst_of, opened}
use Rattle.history.specs.Bytes.{shown, word_read, response_read}
use Rattle.history.specs.Owed.{owed, take_of}
use Rattle.history.proofs.Quiet.{event, Quiet, opened_quiet, channels_with, stored_quiet, worst_quiet}
use Rattle.history.proofs.Steps.{Step, ActStep, refused_step, accepted_step}
use Rattle.history.proofs.Moving.{open_as, stand_moved, queue_moved}

module _ (m : Board) (h : History) where
  abbrev q : Queue
  q = queue_after Read h

  abbrev s : Meaning
  s = slave_after m h

  abbrev TakeStep : Type 0
  TakeStep = Step m h Take (take_answer q s) (with_queue Read (take_after q s) (channels_after h)) (take_slave q s)

  -- refused by a test of the fabric
  stopped : (e : FabricFault) → owed m h Take ≡ Err e → take_test q.current s ≡ Err e → TakeStep
  stopped e o t =
      refused_step m h Take e _ _ _ o (rw t) (rw t) (rw t)

  -- an open read
  module _ (g : Going) (open_is : opened Read h ≡ Some g) where
    abbrev b : RawBurst
    b = burst_of g

    abbrev k : ℕ
    k = g.beats

    abbrev x : Event
    x = event Take (Ok (take_of m h g))

    stands_there : s.read ≡ busy b k
    stands_there = ap stand_of open_is

    test_is : take_test q.current s ≡ Ok (open_as g)
    unfolding queue_after
    test_is = rw (open_is, is_at_self b k)

    write_quiet : Quiet Write x
    write_quiet = record { no_ask = refl; still = record { no_grant = refl; no_beat = refl } }

    others : (d : Channel) → same d Read ≡ false → Quiet d x
    others Write e = write_quiet
    others Read e = cc

    -- the beat that the slave shows
    shown_is : take_shown (open_as g) (took_answer s b k) ≡ take_of m h g
    unfolding word_read response_read shown
    shown_is = refl

    slave_is : Rattle.slave.specs.Meaning.with_read (past b k) s ≡ slave_after m (x ∷ h)
    slave_is =
        let w = write_quiet.still in
        rw (stored_quiet m x h refl, opened_quiet Write x h w, worst_quiet m x h w, stand_moved Read x h g refl refl open_is)

    moves : TakeStep
    unfolding owed
    moves =
        let e = take_taken s b k refl stands_there in
        accepted_step m h Take (take_of m h g) _ _ _ (rw open_is) (rw (test_is, e.0) (ap (λ v. Ok v) shown_is))
        (rw (test_is, e.0) (channels_with Read x h _ (queue_moved Read x h g refl refl refl open_is) others))
        (rw (test_is, e.1) slave_is)

  -- a take by what is open
  takes : (o : Option Going) → opened Read h ≡ o → TakeStep
  unfolding owed queue_after
  takes None e = stopped NotOpen (rw e) (rw e)
  takes (Some g) e = moves g e

-- a take
pub take_step : (m : Board) (h : History) → ActStep m h Take
take_step m h = takes m h (opened Read h) refl
