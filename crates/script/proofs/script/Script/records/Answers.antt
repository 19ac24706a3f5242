-- The chunks of the records are the records, in order.
use Rattle.std.proofs.Common.{◌≡◌, ℕ, zero, suc, ◌*◌, ◌/◌, cond, List, length, take, drop, Some, None, ap, ◌∙◌, ltb, slice_get, arith}
use Rattle.std.specs.Simd.{first_chunks}
use Rattle.std.proofs.lemmas.Bool.Decides.{nat_tests}
use Rattle.std.proofs.lemmas.List.{drop-drop}
use Rattle.script.proofs.script.Script.records.Goals as goal

-- one of the first k chunks of n elements
chunk_at : (n k i : ℕ) (xs : List ℕ) → slice_get (first_chunks n k xs) i ≡ cond (ltb i k) (Some (take n (drop (n * i) xs))) None
chunk_at n zero i xs = grind (arith, nat_tests)
chunk_at n (suc k) zero xs = grind (arith, nat_tests)
chunk_at n (suc k) (suc i) xs = grind (arith, nat_tests, chunk_at n k i (drop n xs), drop-drop (n * i) n xs)

pub returns-clause-each : goal.returns-clause-each
returns-clause-each c =
    let records : List ℕ = c.args.self.now.records.now in
    λ i. ap (λ (rs : List (List ℕ)). slice_get rs i) c.as_chunks.ensures.front ∙ chunk_at 24 (length records / 24) i records
