-- The converter's calls, over what the walks over the pieces have done.
use Rattle.std.proofs.Common.{◌<◌, ◌≡◌, ℕ, ◌+◌, true, false, cond, ltb, Some, Ok, Err, Result, sym, refl, ◌∙◌, ap, subst, arith}
use Rattle.std.proofs.lemmas.Bool.Decides.{nat_tests}
use Rattle.burst.specs.declared.burst.Burst.{Burst}
use Rattle.burst.specs.declared.cover.Cover.{Cover}
use Rattle.burst.specs.declared.raw.RawBurst.{RawBurst}
use Rattle.burst.specs.declared.width.Width.{Width}
use Rattle.burst.specs.Rules.{width_bytes}
use Rattle.burst.specs.Beats.{raw_of, IsLawful, address_of, last_of, cover_of}
use Rattle.slave.specs.declared.channels.Channel.{Channel}
use Rattle.slave.specs.declared.channels.Channel.TheVariants.{Write, Read}
use Rattle.slave.specs.declared.channels.Channels.{Channels}
use Rattle.slave.specs.declared.given.Given.{Given}
use Rattle.slave.specs.declared.given.Given.TheVariants.{More, Done}
use Rattle.slave.specs.declared.open_burst.OpenBurst.{OpenBurst}
use Rattle.slave.specs.declared.response.Response.{Response}
use Rattle.slave.specs.declared.response.Response.TheVariants.{Okay}
use Rattle.slave.specs.declared.fault.SlaveFault.{SlaveFault}
use Rattle.slave.specs.declared.fault.SlaveFault.TheVariants.{Strobe}
use Rattle.slave.specs.declared.channels.Step.TheVariants.{Open, Beat}
use Rattle.slave.specs.Channels.{state_at, other}
use Rattle.slave.specs.Meaning.{Meaning, board, Stand, idle, busy, told, sound_stand, with_write, with_read}
use Rattle.slave.specs.Lanes.{stray, worse, read_word, read_worst, write_worst, written}
use Rattle.slave.specs.Acts.{on_ok, give_answer, give_after, take_answer, take_after, past, left, worst_after, step_answer, step_place, step_worst}
use Rattle.slave.proofs.Calls.{open_left, open_lawful, give_taken, take_taken}
use Rattle.slave.proofs.Soundness.{step_sound}
use Rattle.slave.specs.Channels.{worst_at}
use Rattle.converter.specs.Shows.{shows, converted}
use Rattle.converter.specs.Fits.{OpensFit}
use Rattle.converter.specs.Sent.{sent_beat, sent_below, fetched_beat, fetched_below}
use Rattle.slave.proofs.Soundness.{worst_past}

-- what holds of a channel and of the other holds of both
pub both_channels : (P : Channel → Type 0) (ch : Channel) → P ch → P (other ch) → (x : Channel) → P x
both_channels P Write p q Write = p
both_channels P Write p q Read = q
both_channels P Read p q Write = q
both_channels P Read p q Read = p

-- each open burst is sound for the width after a step of a channel that leaves it at a sound place
pub step_opens : (W : Width) (c d : Channels) (ch : Channel) → OpensFit W c → sound_stand (width_bytes W) (told (state_at ch d).place) ≡ true → state_at (other ch) d ≡ state_at (other ch) c → OpensFit W d
step_opens W c d ch h here stays =
    both_channels (λ x. sound_stand (width_bytes W) (told (state_at x d).place) ≡ true) ch here
    (subst (λ s. sound_stand (width_bytes W) (told s.place) ≡ true) (sym stays) (h (other ch)))

-- a burst that is lawful for the width is opened soundly, and an open one stays
opened_soundly : (w : ℕ) (p : Stand) (b : Burst) → sound_stand w p ≡ true → IsLawful w (raw_of b) → sound_stand w (step_place p (Open b)) ≡ true
opened_soundly w idle b h e = grind (arith, nat_tests)
opened_soundly w (busy a k) b h e = h

pub open_opens : (W : Width) (c d : Channels) (ch : Channel) (b : Burst) → OpensFit W c → IsLawful (width_bytes W) (raw_of b)
    → told (state_at ch d).place ≡ step_place (told (state_at ch c).place) (Open b) → state_at (other ch) d ≡ state_at (other ch) c → OpensFit W d
open_opens W c d ch b opens lawful place stays =
    step_opens W c d ch opens
    (subst (λ q. sound_stand (width_bytes W) q ≡ true) (sym place) (opened_soundly (width_bytes W) (told (state_at ch c).place) b (opens ch) lawful)) stays

-- an open burst x of a channel of a converter with the width W
module _ (W : Width) (c : Channels) (ch : Channel) (x : OpenBurst) (opens : OpensFit W c) (at : (state_at ch c).place ≡ Some x) where
  stands_at : told (state_at ch c).place ≡ busy (raw_of x.burst) x.taken
  stands_at = ap told at

  -- it is lawful for the width
  pub open_lawful_for : IsLawful (width_bytes W) (raw_of x.burst)
  open_lawful_for = open_lawful (width_bytes W) (told (state_at ch c).place) (raw_of x.burst) x.taken (opens ch) stands_at

  -- and a beat of it is left
  pub open_left_for : x.taken < x.burst.count
  open_left_for = open_left (width_bytes W) (told (state_at ch c).place) (raw_of x.burst) x.taken (opens ch) stands_at

  -- a beat of it leaves the channels sound
  pub beat_opens : (d : Channels) (r : Response) → told (state_at ch d).place ≡ step_place (told (state_at ch c).place) (Beat r) → state_at (other ch) d ≡ state_at (other ch) c → OpensFit W d
  beat_opens d r place stays =
      step_opens W c d ch opens
      (step_sound (width_bytes W) (told (state_at ch c).place) (told (state_at ch d).place) (raw_of x.burst) x.taken (opens ch) stands_at (place ∙ ap (λ q. step_place q (Beat r)) stands_at)) stays

-- beat k of the open burst b, which covers y on the bus V; the slave below is m before it and n after it, and the channels are c and d
module _ (c d : Channels) (m n : Meaning) (W V : Width) (b : RawBurst) (k size : ℕ) (y : Cover)
    (y-is : y ≡ cover_of b k) (V-is : V ≡ W) (size-is : size ≡ b.size) where
  -- a write beat
  module _ (word s : ℕ) (here : Response) (ans : Result Given SlaveFault) (stands : told c.write.place ≡ busy b k) (kept : stray (width_bytes W) (address_of b k) (last_of b k) s ≡ false)
      (here-is : here ≡ write_worst (board m) (width_bytes V) y s)
      (n-is : n ≡ with_write idle Okay (written (board m) (width_bytes V) y word s) m)
      (sent : n ≡ sent_beat size (width_bytes V) word s m y)
      (ans-is : ans ≡ step_answer (told c.write.place) c.write.worst (Beat here)) (place : told d.write.place ≡ step_place (told c.write.place) (Beat here))
      (worst : d.write.worst ≡ step_worst (told c.write.place) c.write.worst (Beat here)) (stays : d.read ≡ c.read) where
    abbrev M : Meaning
    M = shows (width_bytes W) (busy b k) c.write.worst (told c.read.place) m

    is_M : converted W c m ≡ M
    is_M = ap (λ z. shows (width_bytes W) z c.write.worst (told c.read.place) m) stands

    here-worst : worse c.write.worst here ≡ worst_after M b k s
    here-worst = ap (worse c.write.worst)
        (here-is ∙ ap (λ v. write_worst (board m) (width_bytes v) y s) V-is ∙ ap (λ z. write_worst (board m) (width_bytes W) z s) y-is)

    -- its answer, and the converter after it
    pub given : (ans ≡ give_answer (converted W c m) word s) × (converted W d n ≡ give_after (converted W c m) word s)
    given =
        let F : ℕ → ℕ = written (board m) (width_bytes V) y word s in (
          ans-is ∙ ap (λ q. step_answer q c.write.worst (Beat here)) stands
              ∙ ap (λ u. Ok (cond (ltb (k + 1) b.count) (More (left b k)) (Done u))) here-worst
              ∙ sym (give_taken M b k word s refl refl kept).0 ∙ ap (λ z. give_answer z word s) (sym is_M),
          ap (λ z. shows (width_bytes W) (told d.write.place) d.write.worst (told d.read.place) z) n-is
              ∙ ap (λ z. with_write (told d.write.place) (worst_at (told d.write.place) d.write.worst) F (shows (width_bytes W) (busy b k) c.write.worst (told z.place) m)) stays
              ∙ ap (λ z. with_write z (worst_at z d.write.worst) F M) (place ∙ ap (λ q. step_place q (Beat here)) stands)
              ∙ ap (λ z. with_write (past b k) (worst_at (past b k) z) F M) (worst ∙ ap (λ q. step_worst q c.write.worst (Beat here)) stands)
              ∙ ap (λ z. with_write (past b k) z F M) (worst_past b k (worse c.write.worst here))
              ∙ ap (λ z. with_write (past b k) (cond (ltb (k + 1) b.count) z Okay) F M) here-worst
              ∙ ap (λ z. with_write (past b k) (cond (ltb (k + 1) b.count) (worst_after M b k s) Okay) z M)
              (ap (λ v. written (board m) (width_bytes v) y word s) V-is ∙ ap (λ z. written (board m) (width_bytes W) z word s) y-is)
              ∙ sym (give_taken M b k word s refl refl kept).1 ∙ ap (λ z. give_after z word s) (sym is_M),
        )

    -- and the slave below: it is where the beat's pieces leave it
    pub given_below : n ≡ sent_below (converted W c m) m word s
    given_below =
        sent ∙ ap (λ z. sent_beat z (width_bytes V) word s m y) size-is
        ∙ ap (λ v. sent_beat b.size (width_bytes v) word s m y) V-is
        ∙ ap (sent_beat b.size (width_bytes W) word s m) y-is
        ∙ ap (λ t. on_ok {A = RawBurst × ℕ} (cond t (Err Strobe) (Ok (b, k))) m (λ x. sent_beat x.0.size (width_bytes W) word s m (cover_of x.0 x.1))) (sym kept)
        ∙ ap (λ z. sent_below z m word s) (sym is_M)

  -- a read beat
  module _ (word : ℕ) (r : Response) (stands : told c.read.place ≡ busy b k)
      (word-is : word ≡ read_word (board m) (width_bytes V) y)
      (r-is : r ≡ read_worst (board m) (width_bytes V) y)
      (n-is : n ≡ m) (got : (word, r, n) ≡ fetched_beat size (width_bytes V) m y)
      (place : told d.read.place ≡ step_place (told c.read.place) (Beat r)) (stays : d.write ≡ c.write) where
    abbrev N : Meaning
    N = shows (width_bytes W) (told c.write.place) c.write.worst (busy b k) m

    is_N : converted W c m ≡ N
    is_N = ap (λ z. shows (width_bytes W) (told c.write.place) c.write.worst z m) stands

    -- its answer, and the converter after it
    pub took : (Ok (word, r, left b k) ≡ take_answer (converted W c m)) × (converted W d n ≡ take_after (converted W c m))
    took = (
      ap (λ z. Ok (z, r, left b k)) (word-is ∙ ap (λ v. read_word (board m) (width_bytes v) y) V-is ∙ ap (read_word (board m) (width_bytes W)) y-is)
          ∙ ap (λ z. Ok (read_word (board m) (width_bytes W) (cover_of b k), z, left b k))
          (r-is ∙ ap (λ v. read_worst (board m) (width_bytes v) y) V-is ∙ ap (read_worst (board m) (width_bytes W)) y-is)
          ∙ sym (take_taken N b k refl refl).0 ∙ ap take_answer (sym is_N),
      ap (converted W d) n-is
          ∙ ap (λ z. shows (width_bytes W) (told z.place) z.worst (told d.read.place) m) stays
          ∙ ap (λ z. with_read z N) (place ∙ ap (λ q. step_place q (Beat r)) stands)
          ∙ sym (take_taken N b k refl refl).1 ∙ ap take_after (sym is_N),
    )

    -- and what was fetched from below
    pub took_below : (word, r, n) ≡ fetched_below (converted W c m) m
    took_below =
        got ∙ ap (λ z. fetched_beat z (width_bytes V) m y) size-is
        ∙ ap (λ v. fetched_beat b.size (width_bytes v) m y) V-is
        ∙ ap (fetched_beat b.size (width_bytes W) m) y-is
        ∙ ap (λ z. fetched_below z m) (sym is_N)
