-- Lines one behind the other in a buffer.
use Rattle.std.proofs.Common.{◌≡◌, ℕ, ◌+◌, ◌≤◌, List, ◌++◌, length, take, drop, sym, ap, ◌∙◌, append_assoc, arith, length-append, length-drop, drop-drop}
use lib.Seq.{take-append_seam, drop-append-add}

-- a text in front of what a buffer held leaves its length
pub length_in_front : (t e : List ℕ) → length t ≤ length e → length (t ++ drop (length t) e) ≡ length e
length_in_front t e l = let a = length-append t (drop (length t) e) in let b = length-drop (length t) e in omega arith

-- one line more
pub text_more : (t l e r r' : List ℕ) (at : ℕ) → at ≡ length t → r ≡ t ++ drop (length t) e → r' ≡ take at r ++ (l ++ drop (at + length l) r) → r' ≡ (t ++ l) ++ drop (length (t ++ l)) e
text_more t l e r r' at a x y =
    y
    ∙ ap (λ k. take k r ++ (l ++ drop (k + length l) r)) a
    ∙ ap (λ z. take (length t) z ++ (l ++ drop (length t + length l) z)) x
    ∙ ap (λ z. z ++ (l ++ drop (length t + length l) (t ++ drop (length t) e))) (take-append_seam t (drop (length t) e))
    ∙ ap (λ z. t ++ (l ++ z)) (drop-append-add t (drop (length t) e) (length l) ∙ drop-drop (length l) (length t) e ∙ ap (λ k. drop k e) (sym (length-append t l)))
    ∙ sym (append_assoc t l _)

-- a line that was written behind a text stands in front with it
pub buffer_more : (start t l old new : List ℕ) (at end : ℕ)
    → at ≡ length t → length t ≤ length start → old ≡ t ++ drop (length t) start → end ≡ at + length l → end ≤ length old → new ≡ take at old ++ (l ++ drop (at + length l) old)
    → (end ≡ length (t ++ l)) × (length (t ++ l) ≤ length start) × (new ≡ (t ++ l) ++ drop (length (t ++ l)) start)
buffer_more start t l old new at end a few o e fits n =
    let both = length-append t l in
    let same : length old ≡ length start = ap length o ∙ length_in_front t start few in
    (omega arith, omega arith, text_more t l start old new at a o n)
