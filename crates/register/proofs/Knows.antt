-- What a slice keeps of the slave below stays true.
use Rattle.std.proofs.Common.{◌≡◌, ℕ, ◌+◌, ◌<◌, Bool, true, false, cond, is_some, not, ◌&&◌, ltb, Some, None, Err, Option, Result, refl, sym, ap, ◌∙◌, subst, arith}
use Rattle.std.proofs.lemmas.Bool.{true≢false, and_from, lt-ltb}
use Rattle.burst.specs.declared.raw.RawBurst.{RawBurst}
use Rattle.burst.specs.Rules.{width_bytes}
use Rattle.burst.specs.Beats.{raw_of, address_of, last_of}
use Rattle.slave.specs.declared.channels.Channel.{Channel}
use Rattle.slave.specs.declared.channels.Channel.TheVariants.{Write, Read}
use Rattle.slave.specs.declared.open_burst.OpenBurst.{OpenBurst}
use Rattle.slave.specs.declared.snapshot.Snapshot.{Snapshot}
use Rattle.slave.specs.Meaning.{Meaning, idle, busy, with_read, stand_at, is_idle, told, Sound}
use Rattle.slave.specs.Lanes.{stray}
use Rattle.slave.specs.Acts.{past, left, give_after, take_after, open_answer, open_after, admission, on_ok, map_ok, beat_at, took_answer, take_answer}
use Rattle.slave.specs.Acts.{opened as slave_opened}
use Rattle.slave.specs.declared.fault.SlaveFault.{SlaveFault}
use Rattle.slave.specs.declared.fault.SlaveFault.TheVariants.{AlreadyOpen, Dead, NotOpen}
use Rattle.slave.specs.Snapshots.{answers_for, place_at, with_place}
use Rattle.slave.proofs.Calls.{give_taken, take_taken, give_read, open_left}
use Rattle.slave.proofs.Snapshots.{Moved, known, known_place, follows, give_moves, take_moves, open_moves}
use Rattle.register.specs.declared.held.Held.{Held}
use Rattle.register.specs.Fits.{behind, fits_at, holds_at}
use Rattle.register.proofs.Opens.{open_read, held_open, holding}

-- after a beat of the open write that is taken
pub gave_known : (s : Snapshot) (m : Meaning) (b : RawBurst) (k w x : ℕ) (p : Option OpenBurst) → answers_for s m ≡ true → m.write ≡ busy b k
    → stray m.width (address_of b k) (last_of b k) x ≡ false → told p ≡ past b k → answers_for (with_place Write p s) (give_after m w x) ≡ true
gave_known s m b k w x p h at kept e =
    follows s m (give_after m w x) Write p h (give_moves m w x)
    (e ∙ sym (ap (λ n. n.write) (give_taken m b k w x (known s m h).live at kept).1))

-- after a beat of the open read
pub took_known : (s : Snapshot) (m : Meaning) (b : RawBurst) (k : ℕ) (p : Option OpenBurst) → answers_for s m ≡ true → m.read ≡ busy b k
    → told p ≡ past b k → answers_for (with_place Read p s) (take_after m) ≡ true
took_known s m b k p h at e =
    follows s m (take_after m) Read p h (take_moves m)
    (e ∙ sym (ap (λ n. n.read) (take_taken m b k (known s m h).live at).1))

-- a read below is the same behind a beat
read_behind : (o : Option Held) (n : Meaning) → (behind n o).read ≡ n.read
read_behind None n = refl
read_behind (Some h) n = give_read n h.word h.strobe

-- what can be held still can be where nothing moved that it stands on
held_still : (o : Option Held) (m n : Meaning) → n.live ≡ m.live → n.width ≡ m.width → n.write ≡ m.write → holds_at o m ≡ true → holds_at o n ≡ true
held_still None m n l w p h = l ∙ h
held_still (Some x) m n l w p h = ap (λ t. t && fits_at n.width n.write x.strobe) l ∙ ap (λ t. m.live && fits_at t n.write x.strobe) w ∙ ap (λ t. m.live && fits_at m.width t x.strobe) p ∙ h

-- an open at an idle channel: answered the same below and behind the held beat, which can be held on
pub record Opened (o : Option Held) (m n : Meaning) (ch : Channel) (b : RawBurst) (r : Result (Unit {0}) SlaveFault) : Type 0 where
  pub answer : r ≡ open_answer (behind m o) ch b
  pub after : behind n o ≡ open_after (behind m o) ch b
  pub place : stand_at (behind n o) ch ≡ stand_at n ch
  pub holds : holds_at o n ≡ true

pub opened : (o : Option Held) (m n : Meaning) (ch : Channel) (b : RawBurst) (r : Result (Unit {0}) SlaveFault) → holds_at o m ≡ true → is_idle (stand_at (behind m o) ch) ≡ true
    → r ≡ open_answer m ch b → n ≡ open_after m ch b → Opened o m n ch b r
opened o m n Read b r h free ans aft =
    let e = open_read o m n r b ans aft in
    let k = open_moves m Read b in
    record {
      answer = e.0;
      after = e.1;
      place = read_behind o n;
      holds = held_still o m n (ap (λ x. x.live) aft ∙ k.live) (ap (λ x. x.width) aft ∙ k.width) (ap (λ x. x.write) aft ∙ k.stays) h;
    }
opened None m n Write b r h free ans aft =
    record { answer = ans; after = aft; place = refl; holds = ap (λ x. x.live) aft ∙ (open_moves m Write b).live ∙ h }
opened (Some x) m n Write b r h free ans aft = absurd (true≢false (sym free ∙ ap is_idle (held_open x m h)))

-- the answers follow an open
pub opened_known : (s : Snapshot) (o : Option Held) (m n : Meaning) (ch : Channel) (b : RawBurst) (r : Result (Unit {0}) SlaveFault) (p : Option OpenBurst) → answers_for s (behind m o) ≡ true
    → Opened o m n ch b r → told p ≡ stand_at n ch → answers_for (with_place ch p s) (behind n o) ≡ true
opened_known s o m n ch b r p h e q =
    follows s (behind m o) (behind n o) ch p h (subst (Moved ch (behind m o)) (sym e.after) (open_moves (behind m o) ch b)) (q ∙ sym e.place)

-- where a channel is open behind a held beat, it is open below
below_busy : (o : Option Held) (m : Meaning) (ch : Channel) → holds_at o m ≡ true → is_idle (stand_at (behind m o) ch) ≡ false → is_idle (stand_at m ch) ≡ false
below_busy None m ch h e = e
below_busy (Some x) m Read h e = sym (ap is_idle (give_read m x.word x.strobe)) ∙ e
below_busy (Some x) m Write h e = ap is_idle (holding x m h).at

held_live : (o : Option Held) (m : Meaning) → holds_at o m ≡ true → m.live ≡ true
held_live None m h = h
held_live (Some x) m h = (holding x m h).live

open_busy_at : (m : Meaning) (ch : Channel) (b : RawBurst) → m.live ≡ true → is_idle (stand_at m ch) ≡ false → open_answer m ch b ≡ Err AlreadyOpen
open_busy_at m ch b l e =
    ap (λ t. cond t (cond (is_idle (stand_at m ch)) (admission m.width m.most m.full b) (Err AlreadyOpen)) (Err Dead)) l
    ∙ ap (λ t. cond t (admission m.width m.most m.full b) (Err AlreadyOpen)) e

-- an open channel is opened no second time, and nothing goes down
pub record Busy (o : Option Held) (m : Meaning) (ch : Channel) (b : RawBurst) : Type 0 where
  pub answer : open_answer (behind m o) ch b ≡ Err AlreadyOpen
  pub after : open_after (behind m o) ch b ≡ behind m o
  pub below : open_after m ch b ≡ m

pub open_busy : (s : Snapshot) (o : Option Held) (m : Meaning) (ch : Channel) (b : RawBurst) → answers_for s (behind m o) ≡ true → holds_at o m ≡ true → is_some (place_at s ch) ≡ true → Busy o m ch b
open_busy s o m ch b h f e =
    let busy' = ap is_idle (sym (known_place s (behind m o) ch h)) ∙ by (place_at s ch) e in
    let here = open_busy_at (behind m o) ch b (known s (behind m o) h).live busy' in
    record {
      answer = here;
      after = ap (λ z. on_ok z (behind m o) (λ _. slave_opened ch b (behind m o))) here;
      below = ap (λ z. on_ok z m (λ _. slave_opened ch b m)) (open_busy_at m ch b (held_live o m f) (below_busy o m ch f busy'));
    }
  where
    by : (p : Option OpenBurst) → is_some p ≡ true → is_idle (told p) ≡ false
    by None e = absurd (true≢false (sym e))
    by (Some x) e = refl

-- a channel without a place is idle
pub idle_here : (s : Snapshot) (m : Meaning) (ch : Channel) → answers_for s m ≡ true → is_some (place_at s ch) ≡ false → is_idle (stand_at m ch) ≡ true
idle_here s m ch h e = ap is_idle (sym (known_place s m ch h)) ∙ by (place_at s ch) e
  where
    by : (p : Option OpenBurst) → is_some p ≡ false → is_idle (told p) ≡ true
    by None e = refl
    by (Some x) e = absurd (true≢false e)

-- a beat that is not the last of the open write can be held
pub fits_here : (m : Meaning) (b : RawBurst) (k x : ℕ) → m.live ≡ true → m.write ≡ busy b k → 0 < left b k
    → stray m.width (address_of b k) (last_of b k) x ≡ false → (m.live && fits_at m.width m.write x) ≡ true
fits_here m b k x live at some kept =
    and_from m.live (fits_at m.width m.write x) live
    (ap (λ q. fits_at m.width q x) at ∙ and_from (ltb (k + 1) b.count) (not (stray m.width (address_of b k) (last_of b k) x)) (lt-ltb (k + 1) b.count (omega arith)) (ap not kept))

-- what the test of a strobe tells of the open write
pub stray_at : (s : Snapshot) (m : Meaning) (at : OpenBurst) (x : ℕ) (t : Bool) → Sound m → answers_for s m ≡ true → m.write ≡ told (Some at)
    → (at.taken < at.burst.count → t ≡ stray (width_bytes s.width) (address_of (raw_of at.burst) at.taken) (last_of (raw_of at.burst) at.taken) x)
    → t ≡ stray m.width (address_of (raw_of at.burst) at.taken) (last_of (raw_of at.burst) at.taken) x
stray_at s m at x t sound h e test =
    test (open_left m.width m.write (raw_of at.burst) at.taken sound.write e) ∙ ap (λ w. stray w (address_of (raw_of at.burst) at.taken) (last_of (raw_of at.burst) at.taken) x) (known s m h).width

-- without an open read a take is refused
pub none_taken : (s : Snapshot) (m : Meaning) → answers_for s m ≡ true → m.read ≡ idle → (take_answer m ≡ Err NotOpen) × (take_after m ≡ m)
none_taken s m h e =
    let g : beat_at m.live m.read ≡ Err NotOpen = ap (λ l. beat_at l m.read) (known s m h).live ∙ ap (beat_at true) e in
    (ap (λ z. map_ok z (λ x. took_answer m x.0 x.1)) g, ap (λ z. on_ok z m (λ x. with_read (past x.0 x.1) m)) g)
