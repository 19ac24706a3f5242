-- A piece sent or fetched.
use Rattle.std.proofs.Common.{◌≡◌, ℕ, ◌*◌, ◌/◌, true, false, Ok, Result, sym, ◌∙◌, ap, subst}
use Rattle.burst.specs.Beats.{incr_burst, IsLawful}
use Rattle.burst.proofs.Facts.{InWord}
use Rattle.slave.specs.declared.response.Response.{Response}
use Rattle.slave.specs.declared.response.Response.TheVariants.{Okay}
use Rattle.slave.specs.declared.given.Given.{Given}
use Rattle.slave.specs.declared.fault.SlaveFault.{SlaveFault}
use Rattle.slave.specs.declared.channels.Channel.TheVariants.{Read, Write}
use Rattle.slave.specs.Acts.{on_ok, given_response, open_after, give_answer, give_after, take_answer, take_after}
use Rattle.slave.specs.Making.{ready}
use Rattle.slave.specs.Meaning.{Meaning, board, Sound, idle, with_write}
use Rattle.slave.specs.Lanes.{stray, written, write_worst, read_word, read_worst}
use Rattle.converter.specs.Pieces.{Beat, bytes_from}
use Rattle.converter.specs.Sent.{moved_word, moved_strobe, cut_word, cut_strobe, got_of, sent_piece, fetched_piece}
use Rattle.converter.proofs.Cuts.{beat_word, beat_lawful}
use Rattle.converter.proofs.Moves.{piece_kept, piece_written}
use Rattle.converter.proofs.One.{read_answer, read_after, write_answer, write_after}

-- one piece from a to e on the bus of v bytes of the slave m
module _ (m : Meaning) (v a e c : ℕ) (same : v ≡ m.width) (b : Beat v a e c) where
  -- it lies in one word there
  below : InWord m.width a e
  below = subst (λ x. InWord x a e) same (beat_word v a e c b)

  -- it is lawful there
  pub part_lawful : IsLawful m.width (incr_burst a c 1)
  part_lawful = subst (λ x. IsLawful x (incr_burst a c 1)) same (beat_lawful v a e c b)

  -- the calls that send it, at a ready slave
  module _ (sound : Sound m) (still : ready m ≡ true) (w word s base cut bits : ℕ) (base-is : base ≡ a / v * v)
      (cut-is : cut ≡ moved_word 0 word base a e w) (bits-is : bits ≡ moved_strobe s base a e w)
      (n1 n2 : Meaning) (ans : Result Given SlaveFault) (o : n1 ≡ open_after m Write (incr_burst a c 1)) (t : ans ≡ give_answer n1 cut bits) (u : n2 ≡ give_after n1 cut bits) where
    -- its word and its strobe, by the slave's own width
    base' : base ≡ a / m.width * m.width
    base' = base-is ∙ ap (λ x. a / x * x) same

    cut' : cut ≡ cut_word w m.width word a e
    cut' = cut-is ∙ ap (λ x. moved_word 0 word x a e w) base'

    bits' : bits ≡ cut_strobe w m.width s a e
    bits' = bits-is ∙ ap (λ x. moved_strobe s x a e w) base'

    -- its strobe keeps to its lanes
    kept : stray m.width a e bits ≡ false
    kept = ap (stray m.width a e) bits' ∙ piece_kept (board m) m.width w a e word s below

    -- its response, the slave after it, and the calls that led there
    pub part_sent : (on_ok ans Okay given_response ≡ write_worst (board m) v (bytes_from a e) (cut_strobe w v s a e))
        × (n2 ≡ with_write idle Okay (written (board m) w (bytes_from a e) word s) m) × (n2 ≡ sent_piece c w word s m a e)
    part_sent = (
      ap (λ r. on_ok r Okay given_response) (write_answer m c a e b.last sound still part_lawful n1 n2 cut bits ans kept o t u)
          ∙ ap (write_worst (board m) m.width (bytes_from a e)) bits'
          ∙ ap (λ x. write_worst (board m) x (bytes_from a e) (cut_strobe w x s a e)) (sym same),
      write_after m c a e b.last sound still part_lawful n1 n2 cut bits ans kept o t u
          ∙ ap (λ x. with_write idle Okay (written (board m) m.width (bytes_from a e) x bits) m) cut'
          ∙ ap (λ x. with_write idle Okay (written (board m) m.width (bytes_from a e) (cut_word w m.width word a e) x) m) bits'
          ∙ ap (λ f. with_write idle Okay f m) (piece_written (board m) m.width w a e word s below),
      u ∙ ap (λ n. give_after n cut bits) o
          ∙ ap (λ x. give_after (open_after m Write (incr_burst a c 1)) x bits) cut'
          ∙ ap (give_after (open_after m Write (incr_burst a c 1)) (cut_word w m.width word a e)) bits',
    )

  -- the calls that fetch it, at a ready slave
  module _ (sound : Sound m) (still : ready m ≡ true) (n1 n2 : Meaning) (ans : Result (ℕ × Response × ℕ) SlaveFault)
      (o : n1 ≡ open_after m Read (incr_burst a c 1)) (t : ans ≡ take_answer n1) (u : n2 ≡ take_after n1) where
    answer : ans ≡ Ok (read_word (board m) v (bytes_from a e), read_worst (board m) v (bytes_from a e), 0)
    answer = read_answer m c a e b.last sound still part_lawful n1 n2 ans o t u
        ∙ ap (λ x. Ok (read_word (board m) x (bytes_from a e), read_worst (board m) x (bytes_from a e), 0)) (sym same)

    -- its word, its response, and the slave as it was
    pub part_read : ((got_of ans).0 ≡ read_word (board m) v (bytes_from a e)) × ((got_of ans).1 ≡ read_worst (board m) v (bytes_from a e)) × (n2 ≡ m)
    part_read = (
      ap (λ r. (got_of r).0) answer,
      ap (λ r. (got_of r).1) answer,
      read_after m c a e b.last sound still part_lawful n1 n2 ans o t u,
    )

    -- the piece in its lanes over a word, by the calls
    pub part_fetched : (word base : ℕ) → (moved_word word (got_of ans).0 base a e v, (got_of ans).1, n2) ≡ fetched_piece c base m word a e
    part_fetched word base =
        let n : Meaning = open_after m Read (incr_burst a c 1) in
        ap (λ z. (moved_word word (got_of ans).0 base a e v, (got_of ans).1, z)) (u ∙ ap take_after o)
        ∙ ap (λ r. (moved_word word (got_of r).0 base a e v, (got_of r).1, take_after n)) (t ∙ ap take_answer o)
        ∙ ap (λ x. (moved_word word (got_of (take_answer n)).0 base a e x, (got_of (take_answer n)).1, take_after n)) same
