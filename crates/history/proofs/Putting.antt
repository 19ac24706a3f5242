-- A put of the fabric in a run.
use Rattle.std.proofs.Common.{◌≡◌, ℕ, ◌+◌, Bool, true, false, cond, not, eqb, ltb, ◌∷◌, Some, None, Ok, Err, Option, Result, refl, ap, ◌∙◌, ⊎_elim}
use mathlib.Core.Bool.{beq}
use Rattle.burst.specs.declared.raw.RawBurst.{RawBurst}
use Rattle.burst.specs.Beats.{address_of, last_of, cover_of}
use Rattle.slave.specs.declared.channels.Channel.{Channel}
use Rattle.slave.specs.declared.channels.Channel.TheVariants.{Write, Read}
use Rattle.fabric.specs.declared.types.Act.{Act}
use Rattle.fabric.specs.declared.types.Act.TheVariants.{Put}
use Rattle.fabric.specs.declared.types.FabricFault.{FabricFault}
use mathlib.Core.Path.{fun_ext}
use Rattle.slave.specs.declared.response.Response.TheVariants.{Okay}
use Rattle.slave.specs.Meaning.{Meaning, busy, Board, board}
use Rattle.fabric.specs.Channels.{Queue, with_queue, with_open}
use Rattle.history.specs.Tracks.{stand_of, worst_kept, queue_after, channels_after, slave_after}
use Rattle.slave.specs.declared.fault.SlaveFault.TheVariants.{Strobe}
use Rattle.slave.specs.declared.given.Given.{Given}
use Rattle.slave.specs.Lanes.{stray, worse, written}
use Rattle.slave.specs.Acts.{worst_after, gave_answer, gave_after, give_answer, give_after}
use Rattle.slave.proofs.Calls.{give_stray, give_taken, is_at_self}
use Rattle.fabric.specs.declared.types.FabricFault.TheVariants.{LastMark, NotOpen, OtherMaster, Slave}
use Rattle.fabric.specs.Rows.{moved}
use Rattle.fabric.specs.Acts.{passed, where_passed, carried, put_test, put_given, put_answer, put_after, put_slave}
use Rattle.history.specs.History.{Event, History, same, Going, burst_of, opened}
use Rattle.history.specs.Bytes.{strobes, stored, response_written, worst}
use Rattle.history.specs.Owed.{owed, owed_put_at, put_of, is_last}
use Rattle.history.proofs.Beats.{opened_current}
use Rattle.history.proofs.Whole.{worst_put}
use Rattle.history.proofs.Quiet.{event, Quiet, opened_quiet, channels_with}
use Rattle.history.proofs.Steps.{Step, ActStep, refused_step, accepted_step}
use Rattle.history.proofs.Moving.{open_as, next, last_or_more, opened_moved, stand_moved, queue_moved}

module _ (m : Board) (h : History) (master word strobe : ℕ) (mark : Bool) where
  abbrev q : Queue
  q = queue_after Write h

  abbrev s : Meaning
  s = slave_after m h

  abbrev a : Act
  a = Put master word strobe mark

  abbrev PutStep : Type 0
  PutStep = Step m h a (put_answer q s master word strobe mark) (with_queue Write (put_after q s master word strobe mark) (channels_after h)) (put_slave q s master word strobe mark)

  -- refused by a test of the fabric
  stopped : (e : FabricFault) → owed m h a ≡ Err e → put_test q.current s master mark ≡ Err e → PutStep
  stopped e o t =
      refused_step m h a e _ _ _ o (rw t) (rw t) (rw t)

  -- an open write
  module _ (g : Going) (open_is : opened Write h ≡ Some g) where
    abbrev b : RawBurst
    b = burst_of g

    abbrev k : ℕ
    k = g.beats

    abbrev at : ℕ
    at = address_of b k

    abbrev to : ℕ
    to = last_of b k

    stands_there : s.write ≡ busy b k
    stands_there = ap stand_of open_is

    test_is : put_test q.current s master mark ≡ cond (not (eqb g.from.request.master master)) (Err OtherMaster) (cond (beq mark (is_last g)) (Ok (open_as g)) (Err LastMark))
    unfolding queue_after
    test_is = rw (open_is, is_at_self b k)

    owed_is : owed m h a ≡ owed_put_at m h (Some g) master strobe mark
    unfolding owed
    owed_is = rw open_is

    -- the slave's answer is passed on
    carried_on : (z : Result Given Rattle.slave.specs.declared.fault.SlaveFault.SlaveFault) → put_test q.current s master mark ≡ Ok (open_as g) → give_answer s word strobe ≡ z
        → (put_answer q s master word strobe mark ≡ passed (carried z) (λ x. Ok (put_given (open_as g) x)))
        × (put_after q s master word strobe mark ≡ where_passed (carried z) q (λ _. with_open (moved (open_as g)) q))
        × (put_slave q s master word strobe mark ≡ give_after s word strobe)
    carried_on z t e = (rw (t, e), rw (t, e), rw t)

    -- a strobe outside the beat's lanes
    strays : put_test q.current s master mark ≡ Ok (open_as g) → owed m h a ≡ Err (Slave Strobe) → stray 8 at to strobe ≡ true → PutStep
    strays t o z =
        let e = give_stray s b k word strobe refl stands_there z in
        let c = carried_on (Err Strobe) t e.0 in
        refused_step m h a (Slave Strobe) _ _ _ o c.0 (rw c.1) (c.2 ∙ e.1)

    -- an accepted put
    abbrev x : Event
    x = event a (Ok (put_of m h g strobe))

    read_quiet : Quiet Read x
    read_quiet = record { no_ask = refl; still = record { no_grant = refl; no_beat = refl } }

    others : (d : Channel) → same d Write ≡ false → Quiet d x
    others Write e = cc
    others Read e = read_quiet

    -- the response of the beat, and the worst so far
    worst_is : worst_after s b k strobe ≡ worse (worst m h) (response_written m b k strobe)
    unfolding response_written
    worst_is = rw open_is

    given_is : put_given (open_as g) (gave_answer s b k strobe) ≡ put_of m h g strobe
    given_is = ⊎_elim (λ e. rw (e.0, e.1)) (λ e. rw (e.0, e.1, worst_is)) (last_or_more k b.count (opened_current Write h g open_is).1)

    bytes_are : written (board s) 8 (cover_of b k) word strobe ≡ stored m (x ∷ h)
    unfolding stored strobes
    bytes_are = fun_ext (λ n. rw (opened_current Write h g open_is).0)

    worst_kept_is : cond (ltb (k + 1) b.count) (worst_after s b k strobe) Okay ≡ worst_kept (opened Write (x ∷ h)) (worst m (x ∷ h))
    worst_kept_is =
        rw (opened_moved Write x h g refl refl open_is, worst_put m x h refl, (opened_current Write h g open_is).0, worst_is)
        (elim (ltb (k + 1) b.count) as (λ t. cond t (worse (worst m h) (response_written m b k strobe)) Okay ≡ worst_kept (cond t (Some (next g)) None) (worse (worst m h) (response_written m b k strobe))) [ true ↦ refl | false ↦ refl ])

    slave_is : gave_after s b k word strobe ≡ slave_after m (x ∷ h)
    slave_is = rw (bytes_are, stand_moved Write x h g refl refl open_is, ← worst_kept_is, opened_quiet Read x h read_quiet.still)

    moves : put_test q.current s master mark ≡ Ok (open_as g) → owed m h a ≡ Ok (put_of m h g strobe) → stray 8 at to strobe ≡ false → PutStep
    moves t o z =
        let e = give_taken s b k word strobe refl stands_there z in
        let c = carried_on (Ok (gave_answer s b k strobe)) t e.0 in
        accepted_step m h a (put_of m h g strobe) _ _ _ o (rw c.0 (ap (λ v. Ok v) given_is))
        (rw c.1 (channels_with Write x h _ (queue_moved Write x h g refl refl refl open_is) others))
        (rw (c.2, e.1) slave_is)

    open_put : (i j l : Bool) → eqb g.from.request.master master ≡ i → beq mark (is_last g) ≡ j → stray 8 at to strobe ≡ l → PutStep
    open_put false j l ei ej el = stopped OtherMaster (owed_is ∙ rw ei) (test_is ∙ rw ei)
    open_put true false l ei ej el = stopped LastMark (owed_is ∙ rw (ei, ej)) (test_is ∙ rw (ei, ej))
    open_put true true true ei ej el = strays (test_is ∙ rw (ei, ej)) (owed_is ∙ rw (ei, ej, el)) el
    open_put true true false ei ej el = moves (test_is ∙ rw (ei, ej)) (owed_is ∙ rw (ei, ej, el)) el

  -- a put by what is open
  puts : (o : Option Going) → opened Write h ≡ o → PutStep
  unfolding owed queue_after
  puts None e = stopped NotOpen (rw e) (rw e)
  puts (Some g) e = open_put g e (eqb g.from.request.master master) (beq mark (is_last g)) (stray 8 (address_of (burst_of g) g.beats) (last_of (burst_of g) g.beats) strobe) refl refl refl

-- a put
pub put_step : (m : Board) (h : History) (master word strobe : ℕ) (mark : Bool) → ActStep m h (Put master word strobe mark)
put_step m h master word strobe mark = puts m h master word strobe mark (opened Write h) refl
