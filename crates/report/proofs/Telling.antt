-- Lines tell their acts' numbers and outcomes.
use Rattle.std.proofs.Common.{◌≡◌, ℕ, ◌^◌, ◌<◌, Bool, true, false, cond, eqb, List, [], ◌∷◌, ◌++◌, drop, codes, decimal, Ok, Err, sym, refl, ap, ◌∙◌, append_assoc, arith, lit<}
use Rattle.slave.specs.declared.response.Response.{Response}
use Rattle.fabric.specs.declared.types.Answer.TheVariants.{Accepted, Granted, More, Done, Beat}
use Rattle.report.specs.declared.told.Layer.{Layer}
use Rattle.report.specs.Outcomes.{Told}
use Rattle.report.specs.Lines.{hex_bytes, response_name, layer_letter, source, last_word, words, line}
use Rattle.report.specs.Laws.{AnswerFits, ToldFits, shown, SameLine, LinesTell}
use Rattle.report.proofs.Fields.{differ, number_told, word_told, source_told, response_told, layer_told, last_told}

-- what the same words before a line's end say
Alike : Told → Told → List ℕ → List ℕ → Type 0
Alike t u x y = (shown t ≡ shown u) × (x ≡ y)

accepted_told : (x y : List ℕ) → x ≡ y → Alike (Ok Accepted) (Ok Accepted) x y
unfolding Alike
accepted_told x y e = (refl, e)

granted_told : (m i n j : ℕ) (x y : List ℕ) → AnswerFits (Granted m i) → AnswerFits (Granted n j) → source m i ++ 10 ∷ x ≡ source n j ++ 10 ∷ y → Alike (Ok (Granted m i)) (Ok (Granted n j)) x y
unfolding Alike
granted_told m i n j x y f g e =
    let s = source_told m n i j (10 ∷ x) (10 ∷ y) f.0 g.0 f.1 g.1 e in
    let a = s.0 in
    let b = s.1 in
    let c = s.2 in
    (cc, cc)

more_told : (a b : ℕ) (x y : List ℕ) → a < 2 ^ 16 → b < 2 ^ 16 → decimal a ++ 10 ∷ x ≡ decimal b ++ 10 ∷ y → Alike (Ok (More a)) (Ok (More b)) x y
unfolding Alike
more_told a b x y f g e = let s = number_told 10 a b x y (lit< tt) (omega arith) (omega arith) e in (ap (λ n. Ok (More n)) s.0, s.1)

done_told : (m i n j : ℕ) (p q : Response) (x y : List ℕ) → AnswerFits (Done m i p) → AnswerFits (Done n j q) → (source m i ++ (32 ∷ response_name p)) ++ 10 ∷ x ≡ (source n j ++ (32 ∷ response_name q)) ++ 10 ∷ y → Alike (Ok (Done m i p)) (Ok (Done n j q)) x y
unfolding Alike
done_told m i n j p q x y f g e =
    let e₁ = sym (append_assoc (source m i) (32 ∷ response_name p) (10 ∷ x)) ∙ e ∙ append_assoc (source n j) (32 ∷ response_name q) (10 ∷ y) in
    let s = source_told m n i j (32 ∷ (response_name p ++ 10 ∷ x)) (32 ∷ (response_name q ++ 10 ∷ y)) f.0 g.0 f.1 g.1 e₁ in
    let t = response_told p q (10 ∷ x) (10 ∷ y) (ap (drop 1) s.2) in
    let a = s.0 in
    let b = s.1 in
    let c = t.0 in
    let d = t.1 in
    (cc, cc)

-- the end of a read beat's words
ending : (p : Response) (l : ℕ) (x : List ℕ) → (response_name p ++ last_word l) ++ 10 ∷ x ≡ response_name p ++ (last_word l ++ 10 ∷ x)
ending p l x = append_assoc (response_name p) (last_word l) (10 ∷ x)

beat_told : (m i w n j v : ℕ) (p q : Response) (k l : ℕ) (x y : List ℕ) → AnswerFits (Beat m i w p k) → AnswerFits (Beat n j v q l) → (source m i ++ (32 ∷ (hex_bytes 8 w ++ (32 ∷ (response_name p ++ last_word k))))) ++ 10 ∷ x ≡ (source n j ++ (32 ∷ (hex_bytes 8 v ++ (32 ∷ (response_name q ++ last_word l))))) ++ 10 ∷ y → Alike (Ok (Beat m i w p k)) (Ok (Beat n j v q l)) x y
unfolding Alike
beat_told m i w n j v p q k l x y f g e =
    let after : Response → ℕ → List ℕ → List ℕ = λ r b z. (response_name r ++ last_word b) ++ 10 ∷ z in
    let e₁ = sym (append_assoc (source m i) (32 ∷ (hex_bytes 8 w ++ (32 ∷ (response_name p ++ last_word k)))) (10 ∷ x)) ∙ e ∙ append_assoc (source n j) (32 ∷ (hex_bytes 8 v ++ (32 ∷ (response_name q ++ last_word l)))) (10 ∷ y) in
    let s = source_told m n i j (32 ∷ ((hex_bytes 8 w ++ (32 ∷ (response_name p ++ last_word k))) ++ 10 ∷ x)) (32 ∷ ((hex_bytes 8 v ++ (32 ∷ (response_name q ++ last_word l))) ++ 10 ∷ y)) f.0 g.0 f.1 g.1 e₁ in
    let e₂ = sym (append_assoc (hex_bytes 8 w) (32 ∷ (response_name p ++ last_word k)) (10 ∷ x)) ∙ ap (drop 1) s.2 ∙ append_assoc (hex_bytes 8 v) (32 ∷ (response_name q ++ last_word l)) (10 ∷ y) in
    let h = word_told 8 w v (32 ∷ after p k x) (32 ∷ after q l y) f.2 g.2 e₂ in
    let t = response_told p q (last_word k ++ 10 ∷ x) (last_word l ++ 10 ∷ y) (sym (ending p k x) ∙ ap (drop 1) h.1 ∙ ending q l y) in
    let z = last_told k l x y t.1 in
    let a = s.0 in
    let b = s.1 in
    let c = h.0 in
    let d = t.0 in
    let o = z.0 in
    (cc, z.1)

refusal_told : (p q : Layer) (a b : ℕ) (x y : List ℕ) → a < 2 ^ 8 → b < 2 ^ 8 → layer_letter p ∷ (32 ∷ (decimal a ++ 10 ∷ x)) ≡ layer_letter q ∷ (32 ∷ (decimal b ++ 10 ∷ y)) → Alike (Err (record { layer = p; number = a })) (Err (record { layer = q; number = b })) x y
unfolding Alike
refusal_told p q a b x y f g e =
    let s = layer_told p q (32 ∷ (decimal a ++ 10 ∷ x)) (32 ∷ (decimal b ++ 10 ∷ y)) e in
    let t = number_told 10 a b x y (lit< tt) (omega arith) (omega arith) (ap (drop 1) s.1) in
    let c = s.0 in
    let d = t.0 in
    (cc, t.1)

-- the words of two outcomes up to the line's end: each kind has a first letter of its own
words_told : (t u : Told) (x y : List ℕ) → ToldFits t → ToldFits u → words t ++ 10 ∷ x ≡ words u ++ 10 ∷ y → Alike t u x y
words_told (Ok Accepted) (Ok Accepted) x y f g e = accepted_told x y (ap (drop 4) e)
words_told (Ok Accepted) (Ok (Granted n j)) x y f g e = differ 65 71 _ _ refl e
words_told (Ok Accepted) (Ok (More b)) x y f g e = differ 65 77 _ _ refl e
words_told (Ok Accepted) (Ok (Done n j q)) x y f g e = differ 65 66 _ _ refl e
words_told (Ok Accepted) (Ok (Beat n j v q l)) x y f g e = differ 65 82 _ _ refl e
words_told (Ok Accepted) (Err q) x y f g e = differ 65 69 _ _ refl e
words_told (Ok (Granted m i)) (Ok Accepted) x y f g e = differ 71 65 _ _ refl e
words_told (Ok (Granted m i)) (Ok (Granted n j)) x y f g e = granted_told m i n j x y f g (ap (drop 4) e)
words_told (Ok (Granted m i)) (Ok (More b)) x y f g e = differ 71 77 _ _ refl e
words_told (Ok (Granted m i)) (Ok (Done n j q)) x y f g e = differ 71 66 _ _ refl e
words_told (Ok (Granted m i)) (Ok (Beat n j v q l)) x y f g e = differ 71 82 _ _ refl e
words_told (Ok (Granted m i)) (Err q) x y f g e = differ 71 69 _ _ refl e
words_told (Ok (More a)) (Ok Accepted) x y f g e = differ 77 65 _ _ refl e
words_told (Ok (More a)) (Ok (Granted n j)) x y f g e = differ 77 71 _ _ refl e
words_told (Ok (More a)) (Ok (More b)) x y f g e = more_told a b x y f g (ap (drop 5) e)
words_told (Ok (More a)) (Ok (Done n j q)) x y f g e = differ 77 66 _ _ refl e
words_told (Ok (More a)) (Ok (Beat n j v q l)) x y f g e = differ 77 82 _ _ refl e
words_told (Ok (More a)) (Err q) x y f g e = differ 77 69 _ _ refl e
words_told (Ok (Done m i p)) (Ok Accepted) x y f g e = differ 66 65 _ _ refl e
words_told (Ok (Done m i p)) (Ok (Granted n j)) x y f g e = differ 66 71 _ _ refl e
words_told (Ok (Done m i p)) (Ok (More b)) x y f g e = differ 66 77 _ _ refl e
words_told (Ok (Done m i p)) (Ok (Done n j q)) x y f g e = done_told m i n j p q x y f g (ap (drop 2) e)
words_told (Ok (Done m i p)) (Ok (Beat n j v q l)) x y f g e = differ 66 82 _ _ refl e
words_told (Ok (Done m i p)) (Err q) x y f g e = differ 66 69 _ _ refl e
words_told (Ok (Beat m i w p k)) (Ok Accepted) x y f g e = differ 82 65 _ _ refl e
words_told (Ok (Beat m i w p k)) (Ok (Granted n j)) x y f g e = differ 82 71 _ _ refl e
words_told (Ok (Beat m i w p k)) (Ok (More b)) x y f g e = differ 82 77 _ _ refl e
words_told (Ok (Beat m i w p k)) (Ok (Done n j q)) x y f g e = differ 82 66 _ _ refl e
words_told (Ok (Beat m i w p k)) (Ok (Beat n j v q l)) x y f g e = beat_told m i w n j v p q k l x y f g (ap (drop 2) e)
words_told (Ok (Beat m i w p k)) (Err q) x y f g e = differ 82 69 _ _ refl e
words_told (Err p) (Ok Accepted) x y f g e = differ 69 65 _ _ refl e
words_told (Err p) (Ok (Granted n j)) x y f g e = differ 69 71 _ _ refl e
words_told (Err p) (Ok (More b)) x y f g e = differ 69 77 _ _ refl e
words_told (Err p) (Ok (Done n j q)) x y f g e = differ 69 66 _ _ refl e
words_told (Err p) (Ok (Beat n j v q l)) x y f g e = differ 69 82 _ _ refl e
words_told (Err p) (Err q) x y f g e = refusal_told p.layer q.layer p.number q.number x y f g (ap (drop 4) e)

-- a line with what follows, in its parts
opened : (n : ℕ) (t : Told) (x : List ℕ) → line n t ++ x ≡ decimal n ++ 32 ∷ (words t ++ 10 ∷ x)
opened n t x = append_assoc (decimal n) (32 ∷ (words t ++ 10 ∷ [])) x ∙ ap (λ z. decimal n ++ 32 ∷ z) (append_assoc (words t) (10 ∷ []) x)

line_told : (n m : ℕ) (t u : Told) (x y : List ℕ) → n < 2 ^ 32 → m < 2 ^ 32 → ToldFits t → ToldFits u → line n t ++ x ≡ line m u ++ y → SameLine n m t u x y
unfolding Alike
line_told n m t u x y hn hm f g e =
    let a = number_told 32 n m (words t ++ 10 ∷ x) (words u ++ 10 ∷ y) (lit< tt) (omega arith) (omega arith) (sym (opened n t x) ∙ e ∙ opened m u y) in
    let b = words_told t u x y f g a.1 in
    record { act = a.0; outcome = b.0; rest = b.1 }

-- whether some beat is left is told of the count and of what is shown of it alike
mark_shown : (b : Bool) → cond (eqb (cond b 0 1) 0) (codes " LAST") [] ≡ cond b (codes " LAST") []
mark_shown true = refl
mark_shown false = refl

words_shown : (t : Told) → words (shown t) ≡ words t
words_shown (Ok Accepted) = refl
words_shown (Ok (Granted m i)) = refl
words_shown (Ok (More n)) = refl
words_shown (Ok (Done m i r)) = refl
words_shown (Ok (Beat m i w r l)) = ap (λ z. codes "R " ++ (source m i ++ (32 ∷ (hex_bytes 8 w ++ (32 ∷ (response_name r ++ z)))))) (mark_shown (eqb l 0))
words_shown (Err r) = refl

line_shown : (n : ℕ) (t u : Told) → shown t ≡ shown u → line n t ≡ line n u
line_shown n t u e = ap (λ w. decimal n ++ (32 ∷ (w ++ 10 ∷ []))) (sym (words_shown t) ∙ ap words e ∙ words_shown u)

pub lines_tell : LinesTell
lines_tell = record { apart = line_told; alike = line_shown }
