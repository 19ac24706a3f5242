-- One beat sent down or fetched from below.
use Rattle.std.proofs.Common.{◌≡◌, ℕ, ◌^◌, true, false, Ok, Result, sym, refl, ap, ◌∙◌}
use Rattle.burst.specs.declared.cover.Cover.{Cover}
use Rattle.burst.specs.Beats.{IsLawful, address_of, last_of, last_from, cover_of, incr_burst}
use Rattle.slave.specs.declared.response.Response.{Response}
use Rattle.slave.specs.declared.response.Response.TheVariants.{Okay}
use Rattle.slave.specs.declared.given.Given.{Given}
use Rattle.slave.specs.declared.given.Given.TheVariants.{Done}
use Rattle.slave.specs.declared.fault.SlaveFault.{SlaveFault}
use Rattle.slave.specs.declared.channels.Channel.{Channel}
use Rattle.slave.specs.declared.channels.Channel.TheVariants.{Read, Write}
use Rattle.slave.specs.Making.{ready}
use Rattle.slave.specs.Meaning.{Meaning, board, idle, busy, Sound, with_read, with_write, stand_at}
use Rattle.slave.specs.Lanes.{read_word, read_worst, write_worst, written, stray}
use Rattle.slave.specs.Acts.{open_answer, open_after, opened, take_answer, take_after, give_answer, give_after}
use Rattle.slave.proofs.Calls.{short_incr, open_taken, give_taken, take_taken, ready_parts}
use Rattle.slave.proofs.Worst.{worse_right}
use Rattle.converter.specs.Pieces.{bytes_from}

-- the one beat of a piece's burst covers the piece
beat_is : (c a : ℕ) → cover_of (incr_burst a c 1) 0 ≡ bytes_from a (last_from a (2 ^ c))
unfolding address_of last_of
beat_is c a = refl

module _ (m : Meaning) (c a e : ℕ) (end : e ≡ last_from a (2 ^ c)) (s : Sound m) (still : ready m ≡ true) (lawful : IsLawful m.width (incr_burst a c 1)) where
  cover_is : cover_of (incr_burst a c 1) 0 ≡ bytes_from a e
  cover_is = beat_is c a ∙ ap (bytes_from a) (sym end)

  -- both channels are idle
  free : (ch : Channel) → stand_at m ch ≡ idle
  free Write = (ready_parts m still).1
  free Read = (ready_parts m still).2

  -- no piece is refused
  pub opened_one : (ch : Channel) → (open_answer m ch (incr_burst a c 1) ≡ Ok tt) × (open_after m ch (incr_burst a c 1) ≡ opened ch (incr_burst a c 1) m)
  opened_one ch = open_taken m ch (incr_burst a c 1) (ready_parts m still).0 (free ch) lawful (short_incr m.full m.most (incr_burst a c 1) refl s.some)

  -- a read beat
  module _ (n1 n2 : Meaning) (ans : Result (ℕ × Response × ℕ) SlaveFault) (o : n1 ≡ open_after m Read (incr_burst a c 1)) (t : ans ≡ take_answer n1) (u : n2 ≡ take_after n1) where
    -- the slave with the read open
    rd : n1 ≡ with_read (busy (incr_burst a c 1) 0) m
    rd = o ∙ (opened_one Read).1

    -- what the take answers
    pub read_answer : ans ≡ Ok (read_word (board m) m.width (bytes_from a e), read_worst (board m) m.width (bytes_from a e), 0)
    read_answer =
        t ∙ ap take_answer rd
        ∙ (take_taken (with_read (busy (incr_burst a c 1) 0) m) (incr_burst a c 1) 0 (ready_parts m still).0 refl).0
        ∙ ap (λ x. Ok (read_word (board m) m.width x, read_worst (board m) m.width x, 0)) cover_is

    -- the slave is as it was
    pub read_after : n2 ≡ m
    read_after =
        u ∙ ap take_after rd
        ∙ (take_taken (with_read (busy (incr_burst a c 1) 0) m) (incr_burst a c 1) 0 (ready_parts m still).0 refl).1
        ∙ ap (λ p. with_read p m) (sym (ready_parts m still).2)

  -- a write beat
  module _ (n1 n2 : Meaning) (w k : ℕ) (ans : Result Given SlaveFault) (kept : stray m.width a e k ≡ false)
      (o : n1 ≡ open_after m Write (incr_burst a c 1)) (t : ans ≡ give_answer n1 w k) (u : n2 ≡ give_after n1 w k) where
    -- the slave with the write open
    wr : n1 ≡ with_write (busy (incr_burst a c 1) 0) Okay m.bytes m
    wr = o ∙ (opened_one Write).1

    -- the strobe keeps to the burst's beat
    kept' : stray m.width (address_of (incr_burst a c 1) 0) (last_of (incr_burst a c 1) 0) k ≡ false
    kept' = ap (λ (x : Cover). stray m.width x.first x.last k) cover_is ∙ kept

    -- what the give answers
    pub write_answer : ans ≡ Ok (Done (write_worst (board m) m.width (bytes_from a e) k))
    write_answer =
        t ∙ ap (λ n. give_answer n w k) wr
        ∙ (give_taken (with_write (busy (incr_burst a c 1) 0) Okay m.bytes m) (incr_burst a c 1) 0 w k (ready_parts m still).0 refl kept').0
        ∙ ap (λ r. Ok (Done r)) (worse_right (write_worst (board m) m.width (cover_of (incr_burst a c 1) 0) k))
        ∙ ap (λ x. Ok (Done (write_worst (board m) m.width x k))) cover_is

    -- the slave after it: the strobed bytes are written, and the channel is idle
    pub write_after : n2 ≡ with_write idle Okay (written (board m) m.width (bytes_from a e) w k) m
    write_after =
        u ∙ ap (λ n. give_after n w k) wr
        ∙ (give_taken (with_write (busy (incr_burst a c 1) 0) Okay m.bytes m) (incr_burst a c 1) 0 w k (ready_parts m still).0 refl kept').1
        ∙ ap (λ x. with_write idle Okay (written (board m) m.width x w k) m) cover_is
