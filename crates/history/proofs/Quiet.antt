-- Events that a channel does not notice.
use Rattle.std.proofs.Common.{◌≡◌, ℕ, false, ◌∷◌, map, Some, None, Err, Option, Result, refl, ⊎_elim}
use Rattle.std.proofs.lemmas.Bool.{and_cases, and_left, and_right}
use Rattle.slave.specs.declared.channels.Channel.{Channel}
use Rattle.slave.specs.declared.channels.Channel.TheVariants.{Write, Read}
use Rattle.fabric.specs.declared.types.Act.{Act}
use Rattle.fabric.specs.declared.types.Act.TheVariants.{Request as Ask, Grant, Put, Take}
use Rattle.fabric.specs.declared.types.Answer.{Answer}
use Rattle.fabric.specs.declared.types.FabricFault.{FabricFault}
use mathlib.Core.Path.{fun_ext}
use Rattle.fabric.specs.Channels.{Queue, with_queue}
use Rattle.history.specs.Tracks.{row_of, queue_after, channels_after, slave_after}
use Rattle.history.specs.History.{Event, History, accepted, same, asked, granting, moves, moving, waiting, Going, current, opened}
use Rattle.slave.specs.Meaning.{Board}
use Rattle.history.specs.Bytes.{strobes, strobes_at, stored, worst}
use Rattle.history.proofs.Responses.{worst_other}
use Rattle.history.proofs.Waits.{waiting_stays, since_other}

-- an act with its answer
abbrev pub event : Act → Result Answer FabricFault → Event
event a r = record { act = a; answer = r }

-- no grant and no beat of the channel
pub record Still (ch : Channel) (x : Event) : Type 0 where
  pub no_grant : granting ch x ≡ false
  pub no_beat : moving ch x ≡ false

-- no request of the channel either
pub record Quiet (ch : Channel) (x : Event) : Type 0 where
  pub no_ask : asked ch x ≡ None
  pub still : Still ch x

-- the open request stays
pub opened_quiet : (ch : Channel) (x : Event) (h : History) → Still ch x → opened ch (x ∷ h) ≡ opened ch h
unfolding opened current
opened_quiet ch x h s = rw (s.no_grant, s.no_beat)

-- a waiting request gets no older
pub row_quiet : (ch : Channel) (x : Event) (h : History) → granting ch x ≡ false → row_of ch (x ∷ h) ≡ row_of ch h
row_quiet ch x h g = fun_ext (λ q. rw (since_other ch x h q.at g))

-- the waiting requests stay
pub rows_quiet : (ch : Channel) (x : Event) (h : History) → granting ch x ≡ false → asked ch x ≡ None → map (row_of ch (x ∷ h)) (waiting ch (x ∷ h)) ≡ map (row_of ch h) (waiting ch h)
rows_quiet ch x h g a = rw (row_quiet ch x h g, waiting_stays ch x h g a)

-- the channel is as it was
pub queue_quiet : (ch : Channel) (x : Event) (h : History) → Quiet ch x → queue_after ch (x ∷ h) ≡ queue_after ch h
unfolding queue_after
queue_quiet ch x h q = rw (rows_quiet ch x h q.still.no_grant q.no_ask, opened_quiet ch x h q.still)

-- only one channel changes
pub channels_with : (ch : Channel) (x : Event) (h : History) (q : Queue) → queue_after ch (x ∷ h) ≡ q → ((d : Channel) → same d ch ≡ false → Quiet d x)
    → with_queue ch q (channels_after h) ≡ channels_after (x ∷ h)
channels_with Write x h q e f = rw (e, queue_quiet Read x h (f Read refl))
channels_with Read x h q e f = rw (e, queue_quiet Write x h (f Write refl))

-- a put is the only act that changes bytes
only_puts : (o : Option Going) (a : Act) (n : ℕ) → moves Write a ≡ false → strobes_at o a n ≡ false
only_puts None a n e = refl
only_puts (Some g) (Ask c q) n e = refl
only_puts (Some g) (Grant c) n e = refl
only_puts (Some g) (Put m w s l) n e = cc
only_puts (Some g) Take n e = refl

-- an event that is no put changes none
strobes_quiet : (x : Event) (h : History) (n : ℕ) → moving Write x ≡ false → strobes h x n ≡ false
unfolding strobes
strobes_quiet x h n e =
    ⊎_elim (λ r. and_left (accepted x.answer) _ r) (λ k. and_right (accepted x.answer) _ (only_puts (current Write h) x.act n k)) (and_cases (accepted x.answer) (moves Write x.act) e)

-- the bytes stay
pub stored_quiet : (m : Board) (x : Event) (h : History) → moving Write x ≡ false → stored m (x ∷ h) ≡ stored m h
unfolding stored
stored_quiet m x h e = fun_ext (λ n. rw (strobes_quiet x h n e))

-- the worst response stays
pub worst_quiet : (m : Board) (x : Event) (h : History) → Still Write x → worst m (x ∷ h) ≡ worst m h
worst_quiet m x h s = worst_other m x h s.no_grant s.no_beat

-- the slave is as it was
pub slave_quiet : (m : Board) (x : Event) (h : History) → Still Write x → Still Read x → slave_after m h ≡ slave_after m (x ∷ h)
slave_quiet m x h w r = rw (stored_quiet m x h w.no_beat, opened_quiet Write x h w, worst_quiet m x h w, opened_quiet Read x h r)

-- a refused act is noticed by nothing
pub refused_quiet : (ch : Channel) (a : Act) (e : FabricFault) → Quiet ch (event a (Err e))
refused_quiet ch a e = record { no_ask = refl; still = record { no_grant = refl; no_beat = refl } }

-- not by the fabric
pub channels_refused : (a : Act) (e : FabricFault) (h : History) → channels_after h ≡ channels_after (event a (Err e) ∷ h)
channels_refused a e h = rw (queue_quiet Write (event a (Err e)) h (refused_quiet Write a e), queue_quiet Read (event a (Err e)) h (refused_quiet Read a e))

-- and not by the slave
pub slave_refused : (m : Board) (a : Act) (e : FabricFault) (h : History) → slave_after m h ≡ slave_after m (event a (Err e) ∷ h)
slave_refused m a e h = slave_quiet m (event a (Err e)) h (refused_quiet Write a e).still (refused_quiet Read a e).still

-- a channel is what it was
pub same_queue : (ch : Channel) (h : History) → with_queue ch (queue_after ch h) (channels_after h) ≡ channels_after h
same_queue Write h = refl
same_queue Read h = refl
