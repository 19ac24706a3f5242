-- A line grows by one text after another, and what does not fit is cut off.
use Rattle.std.proofs.Common.{◌≡◌, ℕ, zero, suc, ◌+◌, ◌-◌, ◌≤◌, min, List, [], ◌∷◌, ◌++◌, length, take, refl, sym, ap, ◌∙◌, append_assoc, arith}
use Rattle.std.proofs.lemmas.List.{append-nil, take_all, take_min}
use Rattle.std.proofs.Math.Nat.{min_comm}
use Rattle.std.proofs.Math.Seq.{take-append-add}
use Rattle.report.specs.declared.line.TheConstants.{LINE_BYTES}
use Rattle.report.specs.Texts.{cut}

-- what was cut off before a text does not count after it
take_front : (n : ℕ) (u a : List ℕ) → take n (take n u ++ a) ≡ take n (u ++ a)
take_front zero u a = refl
take_front (suc n) [] a = refl
take_front (suc n) (x ∷ u) a = ap (λ l. x ∷ l) (take_front n u a)

-- two texts one after the other are one
pub cut_more : (u a b : List ℕ) → cut (cut (u ++ a) ++ b) ≡ cut (u ++ (a ++ b))
unfolding cut
cut_more u a b = take_front LINE_BYTES (u ++ a) b ∙ ap cut (append_assoc u a b)

-- as much of a text as there is room for is what fits of it
pub fitted : (u s : List ℕ) (n : ℕ) → length u ≤ LINE_BYTES → n ≡ min (length s) (LINE_BYTES - length u) → u ++ take n s ≡ cut (u ++ s)
unfolding cut
fitted u s n within is =
    let room = LINE_BYTES - length u in
    let full : length u + room ≡ LINE_BYTES = omega arith in
    ap (λ m. u ++ take m s) (is ∙ min_comm (length s) room) ∙ ap (λ l. u ++ l) (take_min room s) ∙ sym (take-append-add u s room) ∙ ap (λ m. take m (u ++ s)) full

-- a line without a text more is as it was
pub kept : (u : List ℕ) → length u ≤ LINE_BYTES → cut (u ++ []) ≡ u
unfolding cut
kept u within = ap (take LINE_BYTES) (append-nil u) ∙ take_all LINE_BYTES u within
