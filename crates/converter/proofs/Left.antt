-- The pieces of what is left of a beat, one after the other.
use Rattle.std.proofs.Common.{◌≡◌, ℕ, zero, suc, ◌+◌, ◌-◌, ◌^◌, ◌<◌, ◌≤◌, min, Bool, true, false, cond, ltb, List, [], ◌∷◌, Some, None, sym, refl, ap, ◌∙◌, arith}
use Rattle.std.proofs.lemmas.Bool.{cond_both, ltb-true, ltb-false}
use Rattle.burst.specs.declared.width.Width.{Width}
use Rattle.burst.specs.Rules.{width_bytes}
use Rattle.burst.proofs.Facts.{width_some}
use Rattle.converter.specs.Fits.{Cuttable}
use Rattle.converter.specs.Pieces.{Beat, InOrder, piece_end, pieces_from, pieces, behind, pieces_left}
use Rattle.converter.proofs.Cuts.{width_code, beat_word, eight, code_fits, whole_cuttable, cut_beat, cut_next, end_inside, end_order}

same_if : {A : Type 0} (t : Bool) (x y : List A) → (t ≡ true → x ≡ y) → cond t x [] ≡ cond t y []
same_if true x y h = h refl
same_if false x y h = refl

-- the most pieces that there may be do not matter, if they are enough
enough : (n k v l a : ℕ) → 0 < v → a ≤ l → l < a + n → l < a + k → pieces_from n v l a ≡ pieces_from k v l a
unfolding pieces_from
enough zero k v l a some al ln lk = absurd (omega arith)
enough (suc n) zero v l a some al ln lk = absurd (omega arith)
enough (suc n) (suc k) v l a some al ln lk =
    let o : a ≤ piece_end v l a = end_order v l a some al in
    ap (λ ps. (a, piece_end v l a) ∷ ps)
    (same_if (ltb (piece_end v l a) l) (pieces_from n v l (piece_end v l a + 1)) (pieces_from k v l (piece_end v l a + 1))
    (λ t. let lt : piece_end v l a < l = ltb-true (piece_end v l a) l t in enough n k v l (piece_end v l a + 1) some (omega arith) (omega arith) (omega arith)))

-- before the first piece, all are left
pub left_first : (w f l s v : ℕ) → Beat w f l s → 0 < v → pieces_left v (Some (record { first = f; last = l })) ≡ pieces v f l
left_first w f l s v b some =
    let o = (beat_word w f l s b).order in
    let e = eight w f l s b in
    enough (l + 1 - f) 8 v l f some o (omega arith) (omega arith)

-- the first of what is left, and what is left after it
module _ (v l a : ℕ) (some : 0 < v) (al : a ≤ l) where
  left_at : (n : ℕ) → l < a + suc n → pieces_from (suc n) v l a ≡ (a, piece_end v l a) ∷ pieces_left v (behind (piece_end v l a) l)
  unfolding pieces_from
  left_at n ln = ap (λ ps. (a, piece_end v l a) ∷ ps) (by (ltb (piece_end v l a) l) refl)
    where
      by : (t : Bool) → ltb (piece_end v l a) l ≡ t → cond t (pieces_from n v l (piece_end v l a + 1)) [] ≡ pieces_left v (cond t (Some (record { first = piece_end v l a + 1; last = l })) None)
      by false e = refl
      by true e =
          let lt : piece_end v l a < l = ltb-true (piece_end v l a) l e in
          let o : a ≤ piece_end v l a = end_order v l a some al in
          enough n (l + 1 - (piece_end v l a + 1)) v l (piece_end v l a + 1) some (omega arith) (omega arith) (omega arith)

  pub left_next : pieces_left v (Some (record { first = a; last = l })) ≡ (a, piece_end v l a) ∷ pieces_left v (behind (piece_end v l a) l)
  left_next = ap (λ k. pieces_from k v l a) (let e : l + 1 - a ≡ suc (l - a) = omega arith in e) ∙ left_at (l - a) (omega arith)

-- what is left of a beat goes down in order
in_order_from : (n c l a : ℕ) (V : Width) → 2 ^ c ≤ width_bytes V → Cuttable (width_bytes V) c l a → l < a + n → InOrder (width_bytes V) c l (pieces_from n (width_bytes V) l a) a
unfolding pieces_from
in_order_from zero c l a V fits cut ln = absurd (let h = cut.0 in omega arith)
in_order_from (suc n) c l a V fits cut ln =
    let order : a ≤ piece_end (width_bytes V) l a = end_order (width_bytes V) l a (width_some V) cut.0 in
    let inside : piece_end (width_bytes V) l a ≤ l = end_inside (width_bytes V) l a in (
      refl,
      cut_beat V c l a fits cut,
      cond_both (ltb (piece_end (width_bytes V) l a) l) (pieces_from n (width_bytes V) l (piece_end (width_bytes V) l a + 1)) [] (λ ps. InOrder (width_bytes V) c l ps (piece_end (width_bytes V) l a + 1))
          (λ x. let lt : piece_end (width_bytes V) l a < l = ltb-true (piece_end (width_bytes V) l a) l x in
          in_order_from n c l (piece_end (width_bytes V) l a + 1) V fits (cut_next V c l a fits cut lt) (omega arith))
          (λ x. let ge : l ≤ piece_end (width_bytes V) l a = ltb-false (piece_end (width_bytes V) l a) l x in omega arith),
    )

-- each piece follows the one before, from the beat's first byte to its last, and is one beat for the bus below
pub in_order : (w f l s : ℕ) (V : Width) → Beat w f l s → InOrder (width_bytes V) (min s (width_code V)) l (pieces (width_bytes V) f l) f
in_order w f l s V b = in_order_from 8 (min s (width_code V)) l f V (code_fits s V) (whole_cuttable w f l s V b) (eight w f l s b)

-- pieces in order do not pass the beat's end
pub end_after : (v c l : ℕ) (ps : List (ℕ × ℕ)) (a : ℕ) → InOrder v c l ps a → a ≤ l + 1
end_after v c l [] a h = omega arith
end_after v c l (p ∷ ps) a h =
    let iw = beat_word v p.0 p.1 c h.1 in
    let r = end_after v c l ps (p.1 + 1) h.2 in
    omega (arith, iw.order, r, h.0)

-- where pieces begin, of a beat that ends with l
abbrev pub begin : ℕ → List (ℕ × ℕ) → ℕ
begin l [] = l + 1
begin l (p ∷ ps) = p.0

pub begin_is : (v c l : ℕ) (ps : List (ℕ × ℕ)) (a : ℕ) → InOrder v c l ps a → begin l ps ≡ a
begin_is v c l [] a h = sym h
begin_is v c l (p ∷ ps) a h = h.0
