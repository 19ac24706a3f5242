-- The pieces of a beat cover its bytes once and in order, and none is refused below.
use Rattle.std.proofs.Common.{◌≡◌, ℕ, ◌+◌, ◌≤◌, true, false, cond, List, [], ◌∷◌, sym, refl, ap, ◌∙◌, subst, arith}
use Rattle.std.proofs.lemmas.Bool.Decides.{nat_tests}
use Rattle.burst.specs.declared.width.Width.{Width}
use Rattle.burst.specs.declared.width.Width.TheVariants.{Eight}
use Rattle.burst.specs.declared.burst.Burst.{Burst}
use Rattle.burst.specs.Rules.{width_bytes}
use Rattle.burst.specs.Beats.{raw_of, address_of, last_of, covers, incr_burst}
use Rattle.slave.specs.declared.channels.Channel.TheVariants.{Write, Read}
use Rattle.slave.specs.Making.{ready}
use Rattle.slave.specs.Meaning.{Meaning, board, Sound}
use Rattle.slave.specs.Acts.{open_after, give_answer, give_after, take_answer, take_after}
use Rattle.burst.proofs.Facts.{InWord}
use Rattle.converter.specs.Pieces.{Beat, pieces_from, InOrder, hits, Each}
use Rattle.converter.specs.Sent.{cut_word, cut_strobe}
use Rattle.converter.specs.Laws.{Taken, PiecesLie, pieces_of, code_below}
use Rattle.converter.proofs.Cuts.{beat_word}
use Rattle.converter.proofs.Moves.{piece_kept}
use Rattle.converter.proofs.One.{opened_one, read_answer, write_answer}
use Rattle.converter.proofs.Bursts.{beat_of}
use Rattle.converter.proofs.Left.{in_order, end_after}
use Rattle.converter.proofs.Parts.{part_lawful}

-- one piece more
one_more : (a e l x : ℕ) → a ≤ e → e ≤ l → cond (covers a e x) 1 0 + cond (covers (e + 1) l x) 1 0 ≡ cond (covers a l x) 1 0
one_more a e l x p q = grind (arith, nat_tests)

-- a byte of the beat lies in one piece, and no other byte in any
once : (v c l : ℕ) (ps : List (ℕ × ℕ)) (a x : ℕ) → InOrder v c l ps a → hits x ps ≡ cond (covers a l x) 1 0
once v c l [] a x h = let z : covers a l x ≡ false = grind (arith, nat_tests) in ap (λ t. cond t 1 0) (sym z)
once v c l (p ∷ ps) a x h =
    let iw = beat_word v p.0 p.1 c h.1 in
    let r = end_after v c l ps (p.1 + 1) h.2 in
    ap (λ n. cond (covers p.0 p.1 x) 1 0 + n) (once v c l ps (p.1 + 1) x h.2)
    ∙ one_more p.0 p.1 l x iw.order (omega (arith, r)) ∙ ap (λ y. cond (covers y l x) 1 0) h.0

-- a piece that is one beat below is refused nowhere
taken_one : (m : Meaning) (c w v a e : ℕ) → Sound m → ready m ≡ true → v ≡ m.width → Beat v a e c → Taken m c w a e
taken_one m c w v a e sound still same b =
    let law = part_lawful m v a e c same b in
    let V : ℕ = m.width in
    let iw = subst (λ x. InWord x a e) same (beat_word v a e c b) in
    record {
      opens = λ ch. (opened_one m c a e b.last sound still law ch).0;
      gives = λ word s.
          let cut : ℕ = cut_word w m.width word a e in
          let bits : ℕ = cut_strobe w m.width s a e in
          let n : Meaning = open_after m Write (incr_burst a c 1) in
          write_answer m c a e b.last sound still law n (give_after n cut bits) cut bits (give_answer n cut bits) (piece_kept (board m) m.width w a e word s iw) refl refl refl;
      takes = let n : Meaning = open_after m Read (incr_burst a c 1) in
          read_answer m c a e b.last sound still law n (take_after n) (take_answer n) refl refl refl;
    }

-- so no piece of a list in order is refused
each_taken : (m : Meaning) (c w v l : ℕ) (ps : List (ℕ × ℕ)) (a : ℕ) → Sound m → ready m ≡ true → v ≡ m.width → InOrder v c l ps a → Each (Taken m c w) ps
each_taken m c w v l [] a sound still same h = tt
each_taken m c w v l (p ∷ ps) a sound still same h = (taken_one m c w v p.0 p.1 sound still same h.1, each_taken m c w v l ps (p.1 + 1) sound still same h.2)

-- the pieces of a burst's beat are in order
order_of : (V : Width) (b : Burst) (j : ℕ) → InOrder (width_bytes V) (code_below V b) (last_of (raw_of b) j) (pieces_of V b j) (address_of (raw_of b) j)
order_of V b j = in_order 8 (address_of (raw_of b) j) (last_of (raw_of b) j) b.size V (beat_of Eight b j b.lawful)

-- what holds of the pieces of every beat
pub pieces_lie : PiecesLie
unfolding pieces_from
pieces_lie = record {
  example = refl;
  order = order_of;
  once = λ V b j a. once (width_bytes V) (code_below V b) (last_of (raw_of b) j) (pieces_of V b j) (address_of (raw_of b) j) a (order_of V b j);
  taken = λ V b j w m sound still same. each_taken m (code_below V b) w (width_bytes V) (last_of (raw_of b) j) (pieces_of V b j) (address_of (raw_of b) j) sound still same (order_of V b j);
}
