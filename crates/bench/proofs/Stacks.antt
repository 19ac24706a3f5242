-- The pile over memory of 8,192 bytes fits below a fabric, and keeps the length of its memory.
use Rattle.std.proofs.Common.{◌≡◌, ℕ, ◌≤◌, true, false, cond, eqb, ltb, List, length, Some, None, Option, vec_items, vec_len, refl, sym, ap, ◌∙◌, arith, le-ltb}
use Rattle.std.proofs.lemmas.Bool.{cond-true, ltb-false}
use Rattle.slave.specs.declared.response.Response.TheVariants.{Okay}
use Rattle.slave.specs.Meaning.{Meaning, board, ByteKind, plain, unmapped, idle, dead, is_there}
use Rattle.ram.specs.Making.{make_refusal}
use Rattle.ram.specs.Memory.{kind_at, memory_board}
use Rattle.ram.specs.Shows.{shows, ram_made}
use Rattle.ram.specs.declared.ram.Ram.{Ram}
use Rattle.splitter.specs.declared.splitter.Splitter.{Splitter}
use Rattle.converter.specs.declared.converter.Converter.{Converter}
use Rattle.register.specs.Making.{slice_made}
use Rattle.converter.specs.Making.{converted_made}
use Rattle.splitter.specs.Making.{make_answer, made_as}
use Rattle.fabric.specs.Acts.{fits_below}
use Rattle.bench.specs.Piles.{converter_shows}

-- a slice over a converter of width 8 over a splitter in runs of 8 over a slave
abbrev stacked : Meaning → Meaning
stacked m = slice_made (converted_made (made_as (make_answer 8 m) m) 8)

-- the pile over memory of width 4 that takes 8 beats at most
abbrev pile_made : List ℕ → Meaning
pile_made memory = stacked (ram_made memory 4 8)

-- the pile over such memory is the pile over live memory
pub pile_over : (xs : List ℕ) → length xs ≡ 8192 → pile_made xs ≡ stacked (shows xs 4 8 idle Okay idle)
pile_over xs e = ap stacked (cond-true (eqb (make_refusal 4 8 (length xs)) 0) (shows xs 4 8 idle Okay idle) dead (ap (λ n. eqb (make_refusal 4 8 n) 0) e))

-- it is live, idle, full and of width 8
pub pile_fits : (xs : List ℕ) → length xs ≡ 8192 → fits_below (pile_made xs) ≡ true
pile_fits xs e = ap fits_below (pile_over xs e)

-- it shows the memory
pub pile_board : (xs : List ℕ) → length xs ≡ 8192 → board (pile_made xs) ≡ memory_board xs
pile_board xs e = ap board (pile_over xs e)

-- whether memory has a byte
has_byte : (xs : List ℕ) (a : ℕ) → is_there (kind_at xs a) ≡ ltb a (length xs)
has_byte xs a = elim (ltb a (length xs)) as (λ b. is_there (cond b plain unmapped) ≡ b) [ true ↦ refl | false ↦ refl ]

-- memory that lacks each byte that other memory lacks is no longer
no_longer : (xs ys : List ℕ) → kind_at xs ≡ kind_at ys → length ys ≤ length xs
no_longer xs ys e =
    let same : ltb (length xs) (length xs) ≡ ltb (length xs) (length ys) = sym (has_byte xs (length xs)) ∙ ap (λ (k : ℕ → ByteKind). is_there (k (length xs))) e ∙ has_byte ys (length xs) in
    ltb-false (length xs) (length ys) (sym same ∙ le-ltb (length xs) (length xs) (omega arith))

-- a converter of the pile that shows the kinds of some memory stands over memory of that length
pub pile_length : {a : _} {b : _} (q : Converter (Splitter Ram a) b) (xs : List ℕ) → (converter_shows q).kinds ≡ kind_at xs → vec_len q.below.below.memory ≡ length xs
pile_length q xs e =
    let ys : List ℕ = vec_items q.below.below.memory in
    let a = no_longer ys xs e in
    let b = no_longer xs ys (sym e) in
    let n = q.below.below.memory.ok.0 in
    omega arith
