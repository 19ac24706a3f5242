-- A field of a line is told by its bytes, whatever follows it.
use Rattle.std.proofs.Common.{◌≡◌, ℕ, zero, suc, ◌*◌, ◌/◌, ◌%◌, ◌^◌, ◌<◌, ◌≤◌, Bool, true, false, cond, eqb, List, [], ◌∷◌, ◌++◌, codes, decimal, sym, refl, ap, ◌∙◌, append_assoc, pow-suc, arith, lit<}
use Rattle.std.specs.Fmt.{digit_glyph}
use Rattle.std.specs.Char.{digit_value}
use Rattle.std.specs.Str.Parse.{AllDigits}
use Rattle.std.proofs.lemmas.Fmt.{decimal_injective, decimal_is_IsNumeral}
use Rattle.std.proofs.lemmas.Bool.Decides.{nat_tests}
use Rattle.slave.specs.declared.response.Response.{Response}
use Rattle.slave.specs.declared.response.Response.TheVariants.{Okay, SlvErr, DecErr}
use Rattle.report.specs.declared.told.Layer.{Layer}
use Rattle.report.specs.declared.told.Layer.TheVariants.{Slave, Fabric, Bench}
use Rattle.report.specs.Lines.{hex2, hex_bytes, response_name, layer_letter, source, last_word}

-- texts with different first bytes differ
pub differ : {A : Type 0} (a b : ℕ) (r s : List ℕ) → eqb a b ≡ false → a ∷ r ≡ b ∷ s → A
differ a b r s d e = let h : a ≡ b = cc in absurd (grind arith)

-- digits end where a byte stands that is none
digits_end : (end : ℕ) (xs ys r s : List ℕ) → 10 ≤ digit_value end → AllDigits 10 xs → AllDigits 10 ys → xs ++ end ∷ r ≡ ys ++ end ∷ s → (xs ≡ ys) × (r ≡ s)
digits_end end [] [] r s big f g e = (refl, cc)
digits_end end [] (y ∷ ys) r s big f g e = let h : end ≡ y = cc in absurd (omega (arith, g.0, ap digit_value h))
digits_end end (x ∷ xs) [] r s big f g e = let h : x ≡ end = cc in absurd (omega (arith, f.0, ap digit_value h))
digits_end end (x ∷ xs) (y ∷ ys) r s big f g e =
    let h : x ≡ y = cc in
    let t : xs ++ end ∷ r ≡ ys ++ end ∷ s = cc in
    let more = digits_end end xs ys r s big f.1 g.1 t in
    let k = more.0 in
    (cc, more.1)

-- a number in decimal, up to a blank or the line's end
pub number_told : (end m n : ℕ) (r s : List ℕ) → 10 ≤ digit_value end → m < 2 ^ 64 → n < 2 ^ 64 → decimal m ++ end ∷ r ≡ decimal n ++ end ∷ s → (m ≡ n) × (r ≡ s)
number_told end m n r s big hm hn e =
    let both = digits_end end (decimal m) (decimal n) r s big (decimal_is_IsNumeral m hm).0.1 (decimal_is_IsNumeral n hn).0.1 e in
    (decimal_injective m n hm hn both.0, both.1)

glyph_told : (a b : ℕ) → a < 16 → b < 16 → digit_glyph true a ≡ digit_glyph true b → a ≡ b
glyph_told a b ha hb e = grind (arith, nat_tests)

-- a byte in two digits
pub byte_told : (a b : ℕ) (r s : List ℕ) → a < 256 → b < 256 → hex2 a ++ r ≡ hex2 b ++ s → (a ≡ b) × (r ≡ s)
byte_told a b r s ha hb e =
    let h : digit_glyph true (a / 16) ≡ digit_glyph true (b / 16) = cc in
    let l : digit_glyph true (a % 16) ≡ digit_glyph true (b % 16) = cc in
    let high = glyph_told (a / 16) (b / 16) (omega arith) (omega arith) h in
    let low = glyph_told (a % 16) (b % 16) (omega arith) (omega arith) l in
    (omega arith, cc)

-- a number of k bytes in two digits a byte
pub word_told : (k w v : ℕ) (r s : List ℕ) → w < 256 ^ k → v < 256 ^ k → hex_bytes k w ++ r ≡ hex_bytes k v ++ s → (w ≡ v) × (r ≡ s)
word_told zero w v r s hw hv e = (omega arith, e)
word_told (suc k) w v r s hw hv e =
    let bw : w < 256 ^ k * 256 = rw (pow-suc 256 k) at hw in
    let bv : v < 256 ^ k * 256 = rw (pow-suc 256 k) at hv in
    let up = word_told k (w / 256) (v / 256) (hex2 (w % 256) ++ r) (hex2 (v % 256) ++ s) (omega arith) (omega arith) (sym (append_assoc (hex_bytes k (w / 256)) (hex2 (w % 256)) r) ∙ e ∙ append_assoc (hex_bytes k (v / 256)) (hex2 (v % 256)) s) in
    let down = byte_told (w % 256) (v % 256) r s (omega arith) (omega arith) up.1 in
    (omega (arith, up.0, down.0), down.1)

-- a master and an ID
pub source_told : (m n i j : ℕ) (r s : List ℕ) → m < 2 ^ 8 → n < 2 ^ 8 → i < 2 ^ 8 → j < 2 ^ 8 → source m i ++ r ≡ source n j ++ s → (m ≡ n) × (i ≡ j) × (r ≡ s)
source_told m n i j r s hm hn hi hj e =
    let e₁ = sym (append_assoc (decimal m) (32 ∷ hex2 i) r) ∙ e ∙ append_assoc (decimal n) (32 ∷ hex2 j) s in
    let a = number_told 32 m n (hex2 i ++ r) (hex2 j ++ s) (lit< tt) (omega arith) (omega arith) e₁ in
    let b = byte_told i j r s (omega arith) (omega arith) a.1 in
    (a.0, b.0, b.1)

-- a response
pub response_told : (p q : Response) (r s : List ℕ) → response_name p ++ r ≡ response_name q ++ s → (p ≡ q) × (r ≡ s)
response_told Okay Okay r s e = (refl, cc)
response_told SlvErr SlvErr r s e = (refl, cc)
response_told DecErr DecErr r s e = (refl, cc)
response_told Okay SlvErr r s e = differ 79 83 _ _ refl e
response_told Okay DecErr r s e = differ 79 68 _ _ refl e
response_told SlvErr Okay r s e = differ 83 79 _ _ refl e
response_told SlvErr DecErr r s e = differ 83 68 _ _ refl e
response_told DecErr Okay r s e = differ 68 79 _ _ refl e
response_told DecErr SlvErr r s e = differ 68 83 _ _ refl e

-- a layer
pub layer_told : (p q : Layer) (r s : List ℕ) → layer_letter p ∷ r ≡ layer_letter q ∷ s → (p ≡ q) × (r ≡ s)
layer_told Slave Slave r s e = (refl, cc)
layer_told Fabric Fabric r s e = (refl, cc)
layer_told Bench Bench r s e = (refl, cc)
layer_told Slave Fabric r s e = differ 83 70 _ _ refl e
layer_told Slave Bench r s e = differ 83 66 _ _ refl e
layer_told Fabric Slave r s e = differ 70 83 _ _ refl e
layer_told Fabric Bench r s e = differ 70 66 _ _ refl e
layer_told Bench Slave r s e = differ 66 83 _ _ refl e
layer_told Bench Fabric r s e = differ 66 70 _ _ refl e

mark_told : (p q : Bool) (r s : List ℕ) → cond p (codes " LAST") [] ++ 10 ∷ r ≡ cond q (codes " LAST") [] ++ 10 ∷ s → (◌≡◌ {A = ℕ} (cond p 0 1) (cond q 0 1)) × (r ≡ s)
mark_told true true r s e = (refl, cc)
mark_told false false r s e = (refl, cc)
mark_told true false r s e = differ 32 10 _ _ refl e
mark_told false true r s e = differ 10 32 _ _ refl e

-- whether a beat is left, at the line's end
pub last_told : (a b : ℕ) (r s : List ℕ) → last_word a ++ 10 ∷ r ≡ last_word b ++ 10 ∷ s → (◌≡◌ {A = ℕ} (cond (eqb a 0) 0 1) (cond (eqb b 0) 0 1)) × (r ≡ s)
last_told a b r s e = mark_told (eqb a 0) (eqb b 0) r s e
