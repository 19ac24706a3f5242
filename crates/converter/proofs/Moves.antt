-- What stands where after a move of lanes.
use Rattle.std.specs.Prelude.{◌≡◌, ℕ, ◌+◌, ◌-◌, ◌*◌, ◌/◌, ◌%◌, ◌^◌, ◌<◌, ◌≤◌, Bool, true, false, cond, not, ◌&&◌, nat_le, refl}
use Rattle.std.proofs.Common.{arith, sym, ◌∙◌, ap, ⊎_elim}
use Rattle.std.proofs.Math.Path.{fun_ext}
use Rattle.std.proofs.lemmas.Bool.{cond_both, cond-true, cond-false, and_parts, leb-true, cases_Bool}
use Rattle.std.proofs.lemmas.Bool.Decides.{nat_tests}
use Rattle.std.proofs.lemmas.Nat.{mod_below}
use Rattle.burst.specs.Beats.{bit, lane_mask, covers}
use Rattle.burst.proofs.Facts.{InWord}
use Rattle.burst.proofs.Masks.{bit_mask, lane_of, mask_covers, no_lane}
use Rattle.slave.specs.declared.response.Response.TheVariants.{Okay}
use Rattle.slave.specs.Meaning.{Board}
use Rattle.slave.specs.Lanes.{lane_byte, stray, write_response, is_plain, written, write_worst, shown, read_word, read_worst}
use Rattle.slave.proofs.Words.{word_same, lane_word, kept_lane}
use Rattle.slave.proofs.Worst.{worst_same}
use Rattle.converter.specs.Pieces.{bytes_from}
use Rattle.converter.specs.Sent.{moved_word, moved_strobe}
use Rattle.converter.proofs.Spans.{spans, span_worst, span_word, wrote, wrote_at, read_at, worst_over, word_over}
use Rattle.converter.proofs.Ranks.{same_cover}

-- a choice on two tests, one after the other
cond_and : {A : Type 0} (p q : Bool) (x y : A) → cond (p && q) x y ≡ cond p (cond q x y) y
cond_and true q x y = refl
cond_and false q x y = refl

-- what holds with p does not hold without it
and_not : (p q : Bool) → ((p && q) && not p) ≡ false
and_not true true = refl
and_not true false = refl
and_not false q = refl

-- a piece from a to e of a beat on a bus of w bytes, cut for a bus of v bytes over the bytes d
module _ (d : Board) (v w a e word s : ℕ) (iw : InWord v a e) where
  -- each bit of a piece's strobe
  bit_moved : (j : ℕ) → j < 8 → bit (moved_strobe s (a / v * v) a e w) j ≡ (covers a e (a / v * v + j) && bit s ((a / v * v + j) % w))
  bit_moved j l = bit_mask (λ i. covers a e (a / v * v + i) && bit s ((a / v * v + i) % w)) j l

  -- each lane of a piece's word
  lane_moved : (j : ℕ) → j < 8
      → lane_byte (moved_word 0 word (a / v * v) a e w) j ≡ cond (covers a e (a / v * v + j)) (lane_byte word ((a / v * v + j) % w)) (lane_byte 0 j)
  lane_moved j l =
      lane_word (λ i. cond (covers a e (a / v * v + i)) (lane_byte word ((a / v * v + i) % w)) (lane_byte 0 i))
      (λ k _. cond_both (covers a e (a / v * v + k)) (lane_byte word ((a / v * v + k) % w)) (lane_byte 0 k) (λ x. x < 256)
      (λ _. mod_below (word / 2 ^ (8 * ((a / v * v + k) % w))) 256 (omega arith)) (λ _. mod_below (0 / 2 ^ (8 * k)) 256 (omega arith))) j l

  -- the strobe of a piece keeps to its lanes
  pub piece_kept : stray v a e (moved_strobe s (a / v * v) a e w) ≡ false
  piece_kept =
      no_lane (λ i. bit (moved_strobe s (a / v * v) a e w) i && not (bit (lane_mask v a e) i)) 8
      (λ i l. ap (λ t. bit (moved_strobe s (a / v * v) a e w) i && not t) (mask_covers v a e i iw l)
      ∙ ap (λ t. t && not (covers a e (a / v * v + i))) (bit_moved i l)
      ∙ and_not (covers a e (a / v * v + i)) (bit s ((a / v * v + i) % w)))

  -- its response is the worst over its strobed bytes
  pub piece_worst : write_worst d v (bytes_from a e) (moved_strobe s (a / v * v) a e w) ≡ span_worst (wrote_at w d.kinds s) (a / v * v) a (e + 1)
  piece_worst =
      worst_same (λ i. cond (bit (moved_strobe s (a / v * v) a e w) i) (write_response (d.kinds (a / v * v + i))) Okay)
      (λ i. cond (spans a (e + 1) (a / v * v + i)) (wrote_at w d.kinds s (a / v * v + i)) Okay) 8
      (λ i l. let x : ℕ = a / v * v + i in
      ap (λ t. cond t (write_response (d.kinds x)) Okay) (bit_moved i l)
      ∙ cond_and (covers a e x) (bit s (x % w)) (write_response (d.kinds x)) Okay
      ∙ ap (λ t. cond t (wrote_at w d.kinds s x) Okay) (sym (same_cover a e x)))

  -- what a piece leaves at each address
  at_piece : (x : ℕ) → written d v (bytes_from a e) (moved_word 0 word (a / v * v) a e w) (moved_strobe s (a / v * v) a e w) x ≡ written d w (bytes_from a e) word s x
  at_piece x =
      ⊎_elim
      (λ t. let p = and_parts (nat_le a x) (nat_le x e) t in
      let o = lane_of v a e x iw (leb-true a x p.0) (leb-true x e p.1) in
      let j : ℕ = x - a / v * v in
      let cv : covers a e (a / v * v + (x - a / v * v)) ≡ true = ap (covers a e) o.2 ∙ t in
      let be : bit (moved_strobe s (a / v * v) a e w) (x % v) ≡ bit s (x % w) =
      ap (bit (moved_strobe s (a / v * v) a e w)) o.0 ∙ bit_moved (x - a / v * v) o.1
      ∙ ap (λ b. b && bit s ((a / v * v + (x - a / v * v)) % w)) cv ∙ ap (λ y. bit s (y % w)) o.2 in
      let le : lane_byte (moved_word 0 word (a / v * v) a e w) (x % v) ≡ lane_byte word (x % w) =
      ap (lane_byte (moved_word 0 word (a / v * v) a e w)) o.0 ∙ lane_moved (x - a / v * v) o.1
      ∙ ap (λ b. cond b (lane_byte word ((a / v * v + (x - a / v * v)) % w)) (lane_byte 0 (x - a / v * v))) cv
      ∙ ap (λ y. lane_byte word (y % w)) o.2 in
      ap (λ b. cond ((covers a e x && b) && is_plain (d.kinds x)) (lane_byte (moved_word 0 word (a / v * v) a e w) (x % v)) (d.bytes x)) be
      ∙ ap (λ b. cond ((covers a e x && bit s (x % w)) && is_plain (d.kinds x)) b (d.bytes x)) le)
      (λ f. ap (λ b. cond ((b && bit (moved_strobe s (a / v * v) a e w) (x % v)) && is_plain (d.kinds x)) (lane_byte (moved_word 0 word (a / v * v) a e w) (x % v)) (d.bytes x)) f
      ∙ ap (λ b. cond ((b && bit s (x % w)) && is_plain (d.kinds x)) (lane_byte word (x % w)) (d.bytes x)) (sym f))
      (cases_Bool (covers a e x))

  -- the bytes that a piece writes are those of its addresses in the word of the own width
  pub piece_written : written d v (bytes_from a e) (moved_word 0 word (a / v * v) a e w) (moved_strobe s (a / v * v) a e w) ≡ written d w (bytes_from a e) word s
  piece_written = fun_ext at_piece

-- one part more written
wrote_more : (w f a e word s x : ℕ) (plain : Bool) (b : ℕ) → f ≤ a → a ≤ e
    → cond ((spans a e x && bit s (x % w)) && plain) (lane_byte word (x % w)) (cond ((spans f a x && bit s (x % w)) && plain) (lane_byte word (x % w)) b)
    ≡ cond ((spans f e x && bit s (x % w)) && plain) (lane_byte word (x % w)) b
wrote_more w f a e word s x plain b fa ae = by (bit s (x % w)) plain (lane_byte word (x % w))
  where
    by : (p q : Bool) (y : ℕ) → cond ((spans a e x && p) && q) y (cond ((spans f a x && p) && q) y b) ≡ cond ((spans f e x && p) && q) y b
    by true true y = grind (arith, nat_tests)
    by true false y = grind (arith, nat_tests)
    by false q y = grind (arith, nat_tests)

-- what a part writes over what the part before wrote
pub wrote_join : (d : Board) (w f a e word s : ℕ) → f ≤ a → a ≤ e
    → wrote w (record { bytes = wrote w d f a word s; kinds = d.kinds }) a e word s ≡ wrote w d f e word s
wrote_join d w f a e word s fa ae = fun_ext (λ x. wrote_more w f a e word s x (is_plain (d.kinds x)) (d.bytes x) fa ae)

-- nothing is written before the first part
pub wrote_none : (d : Board) (w f word s : ℕ) → d.bytes ≡ wrote w d f f word s
wrote_none d w f word s =
    fun_ext (λ x. ap (λ t. cond ((t && bit s (x % w)) && is_plain (d.kinds x)) (lane_byte word (x % w)) (d.bytes x)) (let e : false ≡ spans f f x = grind (arith, nat_tests) in e))

-- the whole beat
pub wrote_all : (d : Board) (w f l word s : ℕ) → wrote w d f (l + 1) word s ≡ written d w (bytes_from f l) word s
wrote_all d w f l word s =
    fun_ext (λ x. ap (λ t. cond ((t && bit s (x % w)) && is_plain (d.kinds x)) (lane_byte word (x % w)) (d.bytes x)) (same_cover f l x))

-- the worst response of the whole beat, where no strobe bit strays
pub whole_worst : (d : Board) (w f l s : ℕ) → InWord w f l → stray w f l s ≡ false
    → span_worst (wrote_at w d.kinds s) (f / w * w) f (l + 1) ≡ write_worst d w (bytes_from f l) s
whole_worst d w f l s iw st =
    worst_same (λ i. cond (spans f (l + 1) (f / w * w + i)) (wrote_at w d.kinds s (f / w * w + i)) Okay)
    (λ i. cond (bit s i) (write_response (d.kinds (f / w * w + i))) Okay) 8
    (λ i l8. ap (λ t. cond t (wrote_at w d.kinds s (f / w * w + i)) Okay) (same_cover f l (f / w * w + i)) ∙ at i l8)
  where
    at : (i : ℕ) → i < 8 → cond (covers f l (f / w * w + i)) (wrote_at w d.kinds s (f / w * w + i)) Okay
        ≡ cond (bit s i) (write_response (d.kinds (f / w * w + i))) Okay
    at i l8 =
        let x : ℕ = f / w * w + i in
        ⊎_elim
        (λ t. let p = and_parts (nat_le f x) (nat_le x l) t in
        let o = lane_of w f l x iw (leb-true f x p.0) (leb-true x l p.1) in
        let e : (f / w * w + i) % w ≡ i = o.0 ∙ (let q : x - f / w * w ≡ i = omega arith in q) in
        cond-true (covers f l x) (wrote_at w d.kinds s x) Okay t
        ∙ ap (λ j. cond (bit s j) (write_response (d.kinds (f / w * w + i))) Okay) e)
        (λ n. let nl : (bit s i && not (covers f l x)) ≡ false = kept_lane w f l s iw st i l8 in
        let bf : bit s i ≡ false = by (bit s i) (covers f l x) n nl in
        cond-false (covers f l x) (wrote_at w d.kinds s x) Okay n ∙ sym (cond-false (bit s i) (write_response (d.kinds x)) Okay bf))
        (cases_Bool (covers f l x))
      where
        by : (p q : Bool) → q ≡ false → (p && not q) ≡ false → p ≡ false
        by true q h k = sym (ap not h) ∙ k
        by false q h k = refl

-- the word of a read beat
pub read_part : (d : Board) (w f l : ℕ) → read_word d w (bytes_from f l) ≡ word_over (shown d) w (bytes_from f l)
read_part d w f l =
    let base : ℕ = f / w * w in
    word_same (λ i. cond (covers f l (base + i)) (shown d (base + i)) 0) (λ i. cond (spans f (l + 1) (base + i)) (shown d (base + i)) 0)
    (λ i _. ap (λ t. cond t (shown d (base + i)) 0) (sym (same_cover f l (base + i))))

-- and how its read goes
pub read_worst_spans : (d : Board) (w f l : ℕ) → read_worst d w (bytes_from f l) ≡ worst_over (read_at d) w (bytes_from f l)
read_worst_spans d w f l =
    let base : ℕ = f / w * w in
    worst_same (λ i. cond (covers f l (base + i)) (read_at d (base + i)) Okay) (λ i. cond (spans f (l + 1) (base + i)) (read_at d (base + i)) Okay) 8
    (λ i _. ap (λ t. cond t (read_at d (base + i)) Okay) (sym (same_cover f l (base + i))))

-- each lane holds a byte
span_small : (h : ℕ → ℕ) (base f a : ℕ) → ((x : ℕ) → h x < 256) → (k : ℕ) → k < 8 → cond (spans f a (base + k)) (h (base + k)) 0 < 256
span_small h base f a small k _ = cond_both (spans f a (base + k)) (h (base + k)) 0 (λ x. x < 256) (λ _. small (base + k)) (λ _. omega arith)

-- one piece more in a word: the part before it stays, and its bytes come to their lanes
pub word_join : (h : ℕ → ℕ) (v base f a e : ℕ) → ((x : ℕ) → h x < 256) → f ≤ a → a ≤ e → InWord v a e
    → moved_word (span_word h base f a) (span_word h (a / v * v) a (e + 1)) base a e v ≡ span_word h base f (e + 1)
word_join h v base f a e small fa ae iw =
    word_same (λ i. cond (covers a e (base + i)) (lane_byte (span_word h (a / v * v) a (e + 1)) ((base + i) % v)) (lane_byte (span_word h base f a) i))
    (λ i. cond (spans f (e + 1) (base + i)) (h (base + i)) 0) at
  where
    at : (i : ℕ) → i < 8 → cond (covers a e (base + i)) (lane_byte (span_word h (a / v * v) a (e + 1)) ((base + i) % v)) (lane_byte (span_word h base f a) i) ≡ cond (spans f (e + 1) (base + i)) (h (base + i)) 0
    at i l8 =
        let x : ℕ = base + i in
        ⊎_elim
        (λ t. let p = and_parts (nat_le a x) (nat_le x e) t in
        let o = lane_of v a e x iw (leb-true a x p.0) (leb-true x e p.1) in
        let sp : spans a (e + 1) x ≡ true = same_cover a e x ∙ t in
        let sw : spans f (e + 1) (base + i) ≡ true = grind (arith, nat_tests) in
        cond-true (covers a e x) (lane_byte (span_word h (a / v * v) a (e + 1)) (x % v)) (lane_byte (span_word h base f a) i) t
        ∙ ap (lane_byte (span_word h (a / v * v) a (e + 1))) o.0
        ∙ lane_word (λ j. cond (spans a (e + 1) (a / v * v + j)) (h (a / v * v + j)) 0) (span_small h (a / v * v) a (e + 1) small) (x - a / v * v) o.1
        ∙ ap (λ y. cond (spans a (e + 1) y) (h y) 0) o.2
        ∙ cond-true (spans a (e + 1) x) (h x) 0 sp
        ∙ sym (cond-true (spans f (e + 1) x) (h x) 0 sw))
        (λ n. let sw : spans f a (base + i) ≡ spans f (e + 1) (base + i) = grind (arith, nat_tests) in
        cond-false (covers a e x) (lane_byte (span_word h (a / v * v) a (e + 1)) (x % v)) (lane_byte (span_word h base f a) i) n
        ∙ lane_word (λ j. cond (spans f a (base + j)) (h (base + j)) 0) (span_small h base f a small) i l8
        ∙ ap (λ t. cond t (h x) 0) sw)
        (cases_Bool (covers a e x))

-- no byte, no lane
pub word_none : (h : ℕ → ℕ) (base f : ℕ) → 0 ≡ span_word h base f f
word_none h base f = word_same (λ _. 0) (λ i. cond (spans f f (base + i)) (h (base + i)) 0) (λ i _. ap (λ t. cond t (h (base + i)) 0) (let e : false ≡ spans f f (base + i) = grind (arith, nat_tests) in e))
