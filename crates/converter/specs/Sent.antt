-- The calls that go down for a beat, piece by piece.
use Rattle.std.specs.Prelude.{ℕ, ◌+◌, ◌*◌, ◌/◌, ◌%◌, min, if◌then◌else◌, ◌&&◌, List, [], ◌∷◌, Result}
use Rattle.burst.specs.declared.cover.Cover.{Cover}
use Rattle.burst.specs.Beats.{bit, covers, mask_below, incr_burst, cover_of}
use Rattle.slave.specs.declared.response.Response.{Response}
use Rattle.slave.specs.declared.response.Response.TheVariants.{Okay}
use Rattle.slave.specs.declared.fault.SlaveFault.{SlaveFault}
use Rattle.slave.specs.declared.channels.Channel.TheVariants.{Write, Read}
use Rattle.slave.specs.Meaning.{Meaning}
use Rattle.slave.specs.Lanes.{lane_byte, word_of, worse}
use Rattle.slave.specs.Acts.{on_ok, beat_at, give_beat, open_after, give_after, take_answer, take_after}
use Rattle.converter.specs.Pieces.{code_of, pieces}

-- the bytes f to l moved from their lanes on a bus of w bytes to the lanes at `base`, over another word
abbrev pub moved_word : ℕ → ℕ → ℕ → ℕ → ℕ → ℕ → ℕ
moved_word under word base f l w =
    word_of (λ i. if covers f l (base + i) then lane_byte word ((base + i) % w) else lane_byte under i)

-- the strobe bits of the bytes f to l, moved the same way
abbrev pub moved_strobe : ℕ → ℕ → ℕ → ℕ → ℕ → ℕ
moved_strobe s base f l w = mask_below (λ i. covers f l (base + i) && bit s ((base + i) % w)) 8

-- the word of a beat on a bus of w bytes, cut to its piece a to e on a bus of v bytes
abbrev pub cut_word : ℕ → ℕ → ℕ → ℕ → ℕ → ℕ
cut_word w v word a e = moved_word 0 word (a / v * v) a e w

-- its strobe, cut the same way
abbrev pub cut_strobe : ℕ → ℕ → ℕ → ℕ → ℕ → ℕ
cut_strobe w v s a e = moved_strobe s (a / v * v) a e w

-- the slave below after the piece a to e of a write beat on a bus of w bytes: one INCR beat with the size code c
abbrev pub sent_piece : ℕ → ℕ → ℕ → ℕ → Meaning → ℕ → ℕ → Meaning
sent_piece c w word s m a e =
    give_after (open_after m Write (incr_burst a c 1)) (cut_word w m.width word a e) (cut_strobe w m.width s a e)

-- the slave below after all these pieces, one after the other
unfoldable pub sent_all : ℕ → ℕ → ℕ → ℕ → Meaning → List (ℕ × ℕ) → Meaning
sent_all c w word s m [] = m
sent_all c w word s m (p ∷ ps) = sent_all c w word s (sent_piece c w word s m p.0 p.1) ps

-- the word and the response in the answer of a take, OKAY where it is refused
abbrev pub got_of : Result (ℕ × Response × ℕ) SlaveFault → ℕ × Response
got_of r = on_ok r (0, Okay) (λ x. (x.0, x.1))

-- the piece a to e of a read beat, put into its lanes at `base` over a word, its response, and the slave below after it
abbrev pub fetched_piece : ℕ → ℕ → Meaning → ℕ → ℕ → ℕ → ℕ × Response × Meaning
fetched_piece c base m word a e =
    let n : Meaning = open_after m Read (incr_burst a c 1) in
    (moved_word word (got_of (take_answer n)).0 base a e m.width, (got_of (take_answer n)).1, take_after n)

-- the word, the worst response and the slave below after all these pieces, one after the other
unfoldable pub fetched_all : ℕ → ℕ → Meaning → ℕ → Response → List (ℕ × ℕ) → ℕ × Response × Meaning
fetched_all c base m word worst [] = (word, worst, m)
fetched_all c base m word worst (p ∷ ps) =
    let x : ℕ × Response × Meaning = fetched_piece c base m word p.0 p.1 in
    fetched_all c base x.2 x.0 (worse worst x.1) ps

-- the slave below after the pieces of the write beat that covers x, of size code s on a bus of w bytes
abbrev pub sent_beat : ℕ → ℕ → ℕ → ℕ → Meaning → Cover → Meaning
sent_beat s w word k m x = sent_all (min s (code_of m.width)) w word k m (pieces m.width x.first x.last)

-- the word, the worst response and the slave below after the pieces of such a read beat
abbrev pub fetched_beat : ℕ → ℕ → Meaning → Cover → ℕ × Response × Meaning
fetched_beat s w m x =
    fetched_all (min s (code_of m.width)) (x.first / w * w) m 0 Okay (pieces m.width x.first x.last)

-- the slave m below a slave that shows x, after a give to that one: the next beat's pieces are sent, and none where it is refused
abbrev pub sent_below : Meaning → Meaning → ℕ → ℕ → Meaning
sent_below x m word s = on_ok (give_beat x s) m (λ b. sent_beat b.0.size x.width word s m (cover_of b.0 b.1))

-- what a take from that one brings from below, and the slave m after it: the next beat's pieces are fetched
abbrev pub fetched_below : Meaning → Meaning → ℕ × Response × Meaning
fetched_below x m = on_ok (beat_at x.live x.read) (0, Okay, m) (λ b. fetched_beat b.0.size x.width m (cover_of b.0 b.1))
