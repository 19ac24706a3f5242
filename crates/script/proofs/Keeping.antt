-- Acts and records tell each other.
use Rattle.std.proofs.Common.{◌≡◌, ℕ, zero, suc, ◌+◌, ◌<◌, ◌≤◌, true, false, List, ◌++◌, map, length, get_or, take, Ok, refl, sym, ap, ◌∙◌, subst, arith, lit<}
use Rattle.std.specs.Int.{w32, from_le_bytes, to_le_bytes}
use Rattle.std.specs.List.{range_with_len}
use Rattle.std.proofs.Math.Path.{ap₂}
use Rattle.std.proofs.lemmas.Bool.Decides.{nat_tests}
use Rattle.std.proofs.lemmas.List.FromFn.{fill_by_all}
use Rattle.std.proofs.lemmas.Nat.{le_bytes_4, le_bytes_8, from_le_bytes-to_le_bytes_4, from_le_bytes-to_le_bytes_8}
use Rattle.slave.specs.declared.channels.Channel.TheVariants.{Write, Read}
use Rattle.fabric.specs.declared.types.Act.{Act}
use Rattle.fabric.specs.declared.types.Act.TheVariants.{Request, Grant, Put, Take}
use Rattle.script.specs.declared.record.Record.{Record}
use Rattle.script.specs.Records.{record_of, record_bytes}
use Rattle.script.specs.Acts.{act_of, read_act, writable, act_record, act_bytes}
use Rattle.script.specs.Laws.{ActFits, ActsKept, Bytes}

-- what is written reads back as the same act
pub back : (a : Act) → ActFits a → writable a ≡ true → read_act (act_bytes a) ≡ Ok a
back (Request Write q) f h = let address = from_le_bytes-to_le_bytes_4 q.burst.start f in grind (arith, nat_tests)
back (Request Read q) f h = let address = from_le_bytes-to_le_bytes_4 q.burst.start f in grind (arith, nat_tests)
back (Grant Write) f h = refl
back (Grant Read) f h = refl
back (Put master word strobe true) f h = rw (from_le_bytes-to_le_bytes_8 word f)
back (Put master word strobe false) f h = rw (from_le_bytes-to_le_bytes_8 word f)
back Take f h = refl

-- a record that is taken, with the code n, is the record of its act
taken : (n : ℕ) (r : Record) (a : Act) → r.code ≡ n → r.further < 256 → act_of r ≡ Ok a → (writable a ≡ true) × (act_record a ≡ r)
taken zero r a c h e = grind (arith, nat_tests)
taken (suc zero) r a c h e = grind (arith, nat_tests)
taken (suc (suc zero)) r a c h e = grind (arith, nat_tests)
taken (suc (suc (suc zero))) r a c h e = grind (arith, nat_tests)
taken (suc (suc (suc (suc zero)))) r a c h e = grind (arith, nat_tests)
taken (suc (suc (suc (suc (suc zero))))) r a c h e = grind (arith, nat_tests)
taken (suc (suc (suc (suc (suc (suc n)))))) r a c h e = grind (arith, nat_tests)

-- n elements of a list from a place on
abbrev cells : List ℕ → ℕ → ℕ → List ℕ
cells bs at n = map (λ k. get_or bs k 0) (range_with_len at n)

-- elements of bytes are bytes, and 0 past the end
small : (bs : List ℕ) (at n i : ℕ) → at + n ≤ length bs → Bytes bs → get_or (cells bs at n) i 0 < 256
small bs at zero i l h = lit< tt
small bs at (suc n) zero l h = h at (omega arith)
small bs at (suc n) (suc i) l h = small bs (at + 1) n i (omega arith) h

-- 24 bytes are the bytes of their fields
record_back : (bs : List ℕ) → length bs ≡ 24 → Bytes bs → record_bytes (record_of bs) ≡ bs
record_back bs e h =
    let laid = λ (x y z : List ℕ). cells bs 0 8 ++ (x ++ (cells bs 12 1 ++ (y ++ z))) in
    let address = le_bytes_4 (cells bs 8 4) _ refl (λ i. small bs 8 4 i (omega arith) h) refl in
    let x = h 13 (omega arith) in
    let y = h 14 (omega arith) in
    let z = h 15 (omega arith) in
    let zeros : take 3 (to_le_bytes w32 (from_le_bytes w32 (cells bs 13 3))) ≡ cells bs 13 3 = grind arith in
    let word = le_bytes_8 (cells bs 16 8) _ refl (λ i. small bs 16 8 i (omega arith) h) refl in
    let P : List ℕ → Type 0 = λ x. record_bytes (record_of x) ≡ x in
    subst P (sym (fill_by_all (λ k. get_or bs k 0) bs 24 0 e (λ k _. refl))) (ap₂ (λ (f : List ℕ → List ℕ) (w : List ℕ). f w) (ap₂ laid address zeros) word)

-- a record that is read is written back to the same bytes
pub again : (bytes : List ℕ) (a : Act) → Bytes bytes → read_act bytes ≡ Ok a → (writable a ≡ true) × (act_bytes a ≡ bytes)
again bytes a h e =
    let long : length bytes ≡ 24 = grind (arith, nat_tests) in
    let of : act_of (record_of bytes) ≡ Ok a = grind (arith, nat_tests) in
    let own = taken (get_or bytes 0 0) (record_of bytes) a refl (h 6 (omega arith)) of in
    (own.0, ap record_bytes own.1 ∙ record_back bytes long h)

pub acts_kept : ActsKept
acts_kept = record { back = back; again = again }
