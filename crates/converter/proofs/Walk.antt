-- A beat sent down or fetched piece by piece: what holds between two pieces.
use Rattle.std.proofs.Common.{◌≡◌, ℕ, ◌+◌, ◌*◌, ◌/◌, ◌≤◌, min, true, false, List, [], ◌∷◌, sym, refl, ap, ◌∙◌, subst, arith}
use Rattle.burst.specs.declared.width.Width.{Width}
use Rattle.burst.specs.Rules.{width_bytes}
use Rattle.burst.proofs.Facts.{base_le}
use Rattle.slave.specs.declared.response.Response.{Response}
use Rattle.slave.specs.declared.response.Response.TheVariants.{Okay}
use Rattle.slave.specs.Making.{ready}
use Rattle.slave.specs.Meaning.{Meaning, board, Sound, idle, is_idle, with_write}
use Rattle.slave.specs.Lanes.{stray, worse, shown, read_word, read_worst, write_worst, written}
use Rattle.slave.proofs.Words.{shown_small}
use Rattle.slave.proofs.Calls.{ready_parts}
use Rattle.converter.specs.declared.beat.BusBeat.{BusBeat}
use Rattle.converter.specs.declared.beat.Pieces.{Pieces}
use Rattle.converter.specs.Pieces.{InOrder, code_of, pieces, pieces_left}
use Rattle.converter.specs.Sent.{moved_word, cut_strobe, sent_piece, sent_all, sent_beat, fetched_piece, fetched_all, fetched_beat}
use Rattle.converter.proofs.Spans.{span_worst, span_word, wrote, wrote_at, read_at, worst_over, word_over, wrote_over}
use Rattle.converter.proofs.Cuts.{width_code, beat_word, beat_on}
use Rattle.converter.proofs.Left.{begin, begin_is, end_after, in_order}
use Rattle.converter.proofs.Moves.{piece_worst, whole_worst, wrote_all, wrote_join, wrote_none, read_part, read_worst_spans, word_join, word_none}
use Rattle.converter.proofs.Ranks.{span_join, span_none}

-- a slave that differs from a ready one in its bytes is ready
pub still_ready : (m n : Meaning) (g : ℕ → ℕ) → ready m ≡ true → n ≡ with_write idle Okay g m → ready n ≡ true
still_ready m n g h e = ap ready e ∙ ap (λ p. ready (with_write p Okay g m)) (sym (ready_parts m h).1) ∙ h

-- the pieces that an iterator has left
abbrev pub left : Pieces → List (ℕ × ℕ)
left it = pieces_left (width_bytes it.bus) it.rest

-- q has all pieces of the beat b over the bus of a slave m
pub record AllOf (b : BusBeat) (m : Meaning) (q : Pieces) : Type 0 where
  pub left : left q ≡ pieces (width_bytes q.bus) b.cover.first b.cover.last
  pub size : q.size ≡ min b.size (width_code q.bus)
  pub width : width_bytes q.bus ≡ m.width

pub all_of : (b : BusBeat) (m : Meaning) (q p : Pieces) (V : Width) → q ≡ p → pieces_left (width_bytes p.bus) p.rest ≡ pieces (width_bytes V) b.cover.first b.cover.last
    → p.size ≡ min b.size (width_code V) → p.bus ≡ V → width_bytes V ≡ m.width → AllOf b m q
all_of b m q p V same l s v w =
    let bus : q.bus ≡ V = ap (λ x. x.bus) same ∙ v in
    record {
      left = ap left same ∙ l ∙ ap (λ x. pieces (width_bytes x) b.cover.first b.cover.last) (sym bus);
      size = ap (λ x. x.size) same ∙ s ∙ ap (λ x. min b.size (width_code x)) (sym bus);
      width = ap width_bytes bus ∙ w;
    }

-- a beat b whose pieces are q
module _ (b : BusBeat) (q : Pieces) where
  -- where what is left begins
  abbrev at : Pieces → ℕ
  at it = begin b.cover.last (left it)

  -- the first pieces are done, and the others are left in order
  pub record Going (it : Pieces) : Type 0 where
    pub bus : it.bus ≡ q.bus
    pub size : it.size ≡ q.size
    pub order : InOrder (width_bytes q.bus) q.size b.cover.last (left it) (at it)
    pub low : b.cover.first ≤ at it

  -- before the first piece
  module _ (m : Meaning) (all : AllOf b m q) where
    all_order : InOrder (width_bytes q.bus) q.size b.cover.last (left q) b.cover.first
    all_order =
        subst (λ c. InOrder (width_bytes q.bus) c b.cover.last (left q) b.cover.first) (sym all.size)
        (subst (λ ps. InOrder (width_bytes q.bus) (min b.size (width_code q.bus)) b.cover.last ps b.cover.first) (sym all.left) (in_order (width_bytes b.bus) b.cover.first b.cover.last b.size q.bus (beat_on b)))

    first_at : b.cover.first ≡ at q
    first_at = sym (begin_is (width_bytes q.bus) q.size b.cover.last (left q) b.cover.first all_order)

    first_going : Going q
    first_going = record { bus = refl; size = refl; order = subst (InOrder (width_bytes q.bus) q.size b.cover.last (left q)) first_at all_order; low = omega (arith, first_at) }

  -- a piece p is taken
  module _ (it it' : Pieces) (p : BusBeat) (going : Going it) (step : left it ≡ (p.cover.first, p.cover.last) ∷ left it') where
    here_order : InOrder (width_bytes q.bus) q.size b.cover.last ((p.cover.first, p.cover.last) ∷ left it') (at it)
    here_order = subst (λ ps. InOrder (width_bytes q.bus) q.size b.cover.last ps (at it)) step going.order

    here_at : at it ≡ p.cover.first
    here_at = sym here_order.0

    next_at : at it' ≡ p.cover.last + 1
    next_at = begin_is (width_bytes q.bus) q.size b.cover.last (left it') (p.cover.last + 1) here_order.2

    some : p.cover.first ≤ p.cover.last
    some = (beat_word (width_bytes p.bus) p.cover.first p.cover.last p.size (beat_on p)).order

    low : b.cover.first ≤ p.cover.first
    low = omega (arith, here_at, going.low)

    next_going : it'.bus ≡ it.bus → it'.size ≡ it.size → Going it'
    next_going v s = record {
      bus = v ∙ going.bus;
      size = s ∙ going.size;
      order = subst (InOrder (width_bytes q.bus) q.size b.cover.last (left it')) (sym next_at) here_order.2;
      low = omega (arith, next_at, some, low);
    }

    -- the worst response with this piece
    next_worst : (g : ℕ → Response) (r here : Response) → r ≡ span_worst g (b.cover.first / width_bytes b.bus * width_bytes b.bus) b.cover.first (at it) → here ≡ worst_over g (width_bytes p.bus) p.cover
        → worse r here ≡ span_worst g (b.cover.first / width_bytes b.bus * width_bytes b.bus) b.cover.first (at it')
    next_worst g r here r-is here-is =
        let base : ℕ = b.cover.first / width_bytes b.bus * width_bytes b.bus in
        let own = beat_word (width_bytes b.bus) b.cover.first b.cover.last b.size (beat_on b) in
        let under = beat_word (width_bytes p.bus) p.cover.first p.cover.last p.size (beat_on p) in
        let inside = end_after (width_bytes q.bus) q.size b.cover.last (left it') (p.cover.last + 1) here_order.2 in
        let n2 : p.cover.first ≤ p.cover.last + 1 = omega (arith, some) in
        let n3 : p.cover.last + 1 ≤ b.cover.first / width_bytes b.bus * width_bytes b.bus + 8 = omega (arith, inside, own.inside, own.small) in
        let n4 : p.cover.last + 1 ≤ p.cover.first / width_bytes p.bus * width_bytes p.bus + 8 = omega (arith, under.inside, under.small) in
        ap (λ x. worse x here) (r-is ∙ ap (span_worst g base b.cover.first) here_at) ∙ ap (worse (span_worst g base b.cover.first p.cover.first)) here-is
        ∙ span_join g base (p.cover.first / width_bytes p.bus * width_bytes p.bus) b.cover.first p.cover.first (p.cover.last + 1) low n2 (base_le (width_bytes b.bus) b.cover.first) n3 (base_le (width_bytes p.bus) p.cover.first) n4
        ∙ ap (span_worst g base b.cover.first) (sym next_at)

  -- where no piece is left, the beat is done
  end_at : (it : Pieces) → left it ≡ [] → at it ≡ b.cover.last + 1
  end_at it e = ap (begin b.cover.last) e

  -- a write beat over the slave m
  module _ (m : Meaning) (word k : ℕ) where
    -- between two pieces: the worst response, and the slave below
    pub record Sending (it : Pieces) (r : Response) (n : Meaning) : Type 0 where
      pub all : AllOf b m q
      pub going : Going it
      pub worst : r ≡ span_worst (wrote_at (width_bytes b.bus) m.kinds k) (b.cover.first / width_bytes b.bus * width_bytes b.bus) b.cover.first (at it)
      pub below : n ≡ with_write idle Okay (wrote (width_bytes b.bus) (board m) b.cover.first (at it) word k) m
      pub sent : sent_all q.size (width_bytes b.bus) word k n (left it) ≡ sent_all q.size (width_bytes b.bus) word k m (left q)

    pub sending_first : AllOf b m q → Sound m → ready m ≡ true → Sending q Okay m
    sending_first all sound still =
        let free = (ready_parts m still).1 in
        record {
          all = all;
          going = first_going m all;
          worst = span_none (wrote_at (width_bytes b.bus) m.kinds k) (b.cover.first / width_bytes b.bus * width_bytes b.bus) b.cover.first
              ∙ ap (span_worst (wrote_at (width_bytes b.bus) m.kinds k) (b.cover.first / width_bytes b.bus * width_bytes b.bus) b.cover.first) (first_at m all);
          below = ap (λ p. with_write p m.worst m.bytes m) free
              ∙ ap (λ r. with_write idle r m.bytes m) (sound.quiet (ap is_idle free))
              ∙ ap (λ g. with_write idle Okay g m) (wrote_none (board m) (width_bytes b.bus) b.cover.first word k)
              ∙ ap (λ x. with_write idle Okay (wrote (width_bytes b.bus) (board m) b.cover.first x word k) m) (first_at m all);
          sent = refl;
        }

    pub sending_next : (it it' : Pieces) (p : BusBeat) (n n' : Meaning) (r here : Response) → Sending it r n
        → left it ≡ (p.cover.first, p.cover.last) ∷ left it' → p.size ≡ it.size → it'.bus ≡ it.bus → it'.size ≡ it.size
        → here ≡ write_worst (board n) (width_bytes p.bus) p.cover (cut_strobe (width_bytes b.bus) (width_bytes p.bus) k p.cover.first p.cover.last)
        → n' ≡ with_write idle Okay (written (board n) (width_bytes b.bus) p.cover word k) n
        → n' ≡ sent_piece p.size (width_bytes b.bus) word k n p.cover.first p.cover.last
        → (all : Response) → all ≡ worse r here → Sending it' all n'
    unfolding sent_all
    sending_next it it' p n n' r here h step code bus size here-is after-is sent-is all all-is =
        let w : ℕ = width_bytes b.bus in
        let low' = low it it' p h.going step in
        let at' = here_at it it' p h.going step in
        record {
          all = h.all;
          going = next_going it it' p h.going step bus size;
          worst = all-is ∙ next_worst it it' p h.going step (wrote_at w m.kinds k) r here h.worst (here-is
              ∙ piece_worst (board n) (width_bytes p.bus) w p.cover.first p.cover.last word k (beat_word (width_bytes p.bus) p.cover.first p.cover.last p.size (beat_on p))
              ∙ ap (λ x. worst_over (wrote_at w x.kinds k) (width_bytes p.bus) p.cover) h.below);
          below = after-is ∙ ap (λ g. with_write idle Okay g n) (sym (wrote_all (board n) w p.cover.first p.cover.last word k))
              ∙ ap (λ x. wrote_over w x p.cover word k) (h.below ∙ ap (λ x. with_write idle Okay (wrote w (board m) b.cover.first x word k) m) at')
              ∙ ap (λ g. with_write idle Okay g m) (wrote_join (board m) w b.cover.first p.cover.first (p.cover.last + 1) word k low' (omega (arith, some it it' p h.going step)))
              ∙ ap (λ x. with_write idle Okay (wrote w (board m) b.cover.first x word k) m) (sym (next_at it it' p h.going step));
          sent = ap (λ x. sent_all q.size w word k x (left it')) (sent-is ∙ ap (λ c. sent_piece c w word k n p.cover.first p.cover.last) (code ∙ h.going.size))
              ∙ ap (sent_all q.size w word k n) (sym step) ∙ h.sent;
        }

    pub sending_end : (it : Pieces) (r : Response) (n : Meaning) → left it ≡ [] → stray (width_bytes b.bus) b.cover.first b.cover.last k ≡ false → Sending it r n
        → (r ≡ write_worst (board m) (width_bytes b.bus) b.cover k) × (n ≡ with_write idle Okay (written (board m) (width_bytes b.bus) b.cover word k) m) × (n ≡ sent_beat b.size (width_bytes b.bus) word k m b.cover)
    unfolding sent_all
    sending_end it r n e kept h =
        let w : ℕ = width_bytes b.bus in (
          h.worst ∙ ap (span_worst (wrote_at w m.kinds k) (b.cover.first / w * w) b.cover.first) (end_at it e)
              ∙ whole_worst (board m) w b.cover.first b.cover.last k (beat_word w b.cover.first b.cover.last b.size (beat_on b)) kept,
          h.below ∙ ap (λ x. with_write idle Okay (wrote w (board m) b.cover.first x word k) m) (end_at it e)
              ∙ ap (λ g. with_write idle Okay g m) (wrote_all (board m) w b.cover.first b.cover.last word k),
          ap (sent_all q.size w word k n) (sym e) ∙ h.sent ∙ ap (sent_all q.size w word k m) h.all.left
              ∙ ap (λ c. sent_all c w word k m (pieces (width_bytes q.bus) b.cover.first b.cover.last)) h.all.size
              ∙ ap (λ v. sent_all (min b.size (code_of v)) w word k m (pieces v b.cover.first b.cover.last)) h.all.width,
        )

  -- a read beat from the slave m
  module _ (m : Meaning) where
    -- between two pieces: the word, the worst response, and the slave below as it was
    pub record Fetching (it : Pieces) (x : ℕ) (r : Response) (n : Meaning) : Type 0 where
      pub all : AllOf b m q
      pub going : Going it
      pub word : x ≡ span_word (shown (board m)) (b.cover.first / width_bytes b.bus * width_bytes b.bus) b.cover.first (at it)
      pub worst : r ≡ span_worst (read_at (board m)) (b.cover.first / width_bytes b.bus * width_bytes b.bus) b.cover.first (at it)
      pub below : n ≡ m
      pub got : fetched_all q.size (b.cover.first / width_bytes b.bus * width_bytes b.bus) n x r (left it) ≡ fetched_all q.size (b.cover.first / width_bytes b.bus * width_bytes b.bus) m 0 Okay (left q)

    pub fetching_first : AllOf b m q → Fetching q 0 Okay m
    fetching_first all =
        let base : ℕ = b.cover.first / width_bytes b.bus * width_bytes b.bus in
        record {
          all = all;
          going = first_going m all;
          word = word_none (shown (board m)) base b.cover.first ∙ ap (span_word (shown (board m)) base b.cover.first) (first_at m all);
          worst = span_none (read_at (board m)) base b.cover.first ∙ ap (span_worst (read_at (board m)) base b.cover.first) (first_at m all);
          below = refl;
          got = refl;
        }

    pub fetching_next : (it it' : Pieces) (p : BusBeat) (n n' : Meaning) (word : ℕ) (r : Response) (x : ℕ × Response) → Sound m → Fetching it word r n
        → left it ≡ (p.cover.first, p.cover.last) ∷ left it' → p.size ≡ it.size → it'.bus ≡ it.bus → it'.size ≡ it.size
        → (base : ℕ) → base ≡ b.cover.first / width_bytes b.bus * width_bytes b.bus
        → x.0 ≡ moved_word word (read_word (board n) (width_bytes p.bus) p.cover) base p.cover.first p.cover.last (width_bytes p.bus)
        → x.1 ≡ read_worst (board n) (width_bytes p.bus) p.cover
        → n' ≡ n
        → (x.0, x.1, n') ≡ fetched_piece p.size base n word p.cover.first p.cover.last
        → (all : Response) → all ≡ worse r x.1 → Fetching it' x.0 all n'
    unfolding fetched_all
    fetching_next it it' p n n' word r x sound h step code bus size base base-is word-is here-is same-is got-is all all-is =
        let v : ℕ = width_bytes p.bus in
        let o : ℕ = b.cover.first / width_bytes b.bus * width_bytes b.bus in
        let size' = code ∙ h.going.size in
        record {
          all = h.all;
          going = next_going it it' p h.going step bus size;
          word = word-is ∙ ap (λ y. moved_word word y base p.cover.first p.cover.last v) (read_part (board n) v p.cover.first p.cover.last)
              ∙ ap (λ y. moved_word word (word_over (shown (board n)) v p.cover) y p.cover.first p.cover.last v) base-is
              ∙ ap (λ y. moved_word y (word_over (shown (board n)) v p.cover) o p.cover.first p.cover.last v) (h.word ∙ ap (span_word (shown (board m)) o b.cover.first) (here_at it it' p h.going step))
              ∙ ap (λ y. moved_word (span_word (shown (board m)) o b.cover.first p.cover.first) (word_over (shown (board y)) v p.cover) o p.cover.first p.cover.last v) h.below
              ∙ word_join (shown (board m)) v o b.cover.first p.cover.first p.cover.last (shown_small m sound) (low it it' p h.going step) (some it it' p h.going step) (beat_word v p.cover.first p.cover.last p.size (beat_on p))
              ∙ ap (span_word (shown (board m)) o b.cover.first) (sym (next_at it it' p h.going step));
          worst = all-is ∙ next_worst it it' p h.going step (read_at (board m)) r x.1 h.worst (here-is ∙ read_worst_spans (board n) v p.cover.first p.cover.last ∙ ap (λ y. worst_over (read_at (board y)) v p.cover) h.below);
          below = same-is ∙ h.below;
          got = ap (λ y. fetched_all q.size o n' x.0 y (left it')) all-is
              ∙ ap (λ (y : ℕ × Response × Meaning). fetched_all q.size o y.2 y.0 (worse r y.1) (left it'))
              (got-is ∙ ap (λ c. fetched_piece c base n word p.cover.first p.cover.last) size' ∙ ap (λ y. fetched_piece q.size y n word p.cover.first p.cover.last) base-is)
              ∙ ap (fetched_all q.size o n word r) (sym step) ∙ h.got;
        }

    pub fetching_end : (it : Pieces) (word : ℕ) (r : Response) (n : Meaning) → left it ≡ [] → Fetching it word r n
        → (word ≡ read_word (board m) (width_bytes b.bus) b.cover) × (r ≡ read_worst (board m) (width_bytes b.bus) b.cover) × (n ≡ m) × ((word, r, n) ≡ fetched_beat b.size (width_bytes b.bus) m b.cover)
    unfolding fetched_all
    fetching_end it word r n e h =
        let o : ℕ = b.cover.first / width_bytes b.bus * width_bytes b.bus in (
          h.word ∙ ap (span_word (shown (board m)) o b.cover.first) (end_at it e) ∙ sym (read_part (board m) (width_bytes b.bus) b.cover.first b.cover.last),
          h.worst ∙ ap (span_worst (read_at (board m)) o b.cover.first) (end_at it e) ∙ sym (read_worst_spans (board m) (width_bytes b.bus) b.cover.first b.cover.last),
          h.below,
          ap (fetched_all q.size o n word r) (sym e) ∙ h.got ∙ ap (fetched_all q.size o m 0 Okay) h.all.left
              ∙ ap (λ c. fetched_all c o m 0 Okay (pieces (width_bytes q.bus) b.cover.first b.cover.last)) h.all.size
              ∙ ap (λ v. fetched_all (min b.size (code_of v)) o m 0 Okay (pieces v b.cover.first b.cover.last)) h.all.width,
        )
