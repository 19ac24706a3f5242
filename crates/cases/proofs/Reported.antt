-- What an accepted call of the bench leaves in its buffer.
use Rattle.std.proofs.Common.{◌≡◌, ℕ, Bool, true, false, cond, ◌&&◌, eqb, leb, List, length, take, drop, Ok, Err, Result, refl, ap, ◌∙◌, arith}
use lib.Seq.{take-append_seam}
use Rattle.std.proofs.lemmas.Bool.{cond-true}
use Rattle.bench.specs.declared.fault.CallFault.{CallFault}
use Rattle.bench.specs.declared.fault.CallFault.TheVariants.{Memory, Short}
use Rattle.bench.specs.Runs.{accepted, bench_answer, bench_after, report_of}

-- a count is answered where both tests are passed
tests_passed : (a b : Bool) (l n : ℕ) → ◌≡◌ {A = Result ℕ CallFault} (Ok n) (cond a (cond b (Ok l) (Err Short)) (Err Memory)) → (a && b ≡ true) × (n ≡ l)
tests_passed true true l n e = (refl, cc)
tests_passed true false l n e = let z : ◌≡◌ {A = ℕ} 0 1 = cc in absurd (omega arith)
tests_passed false b l n e = let z : ◌≡◌ {A = ℕ} 0 1 = cc in absurd (omega arith)

-- a count is that of the report, and the call was accepted
pub answered : (f : List ℕ) (M room n : ℕ) → Ok n ≡ bench_answer f M room → (accepted f M room ≡ true) × (n ≡ length (report_of f))
answered f M room n e = tests_passed (eqb M 8192) (leb (length (report_of f)) room) (length (report_of f)) n e

-- the report stands in front
pub in_front : (f : List ℕ) (M : ℕ) (out : List ℕ) → accepted f M (length out) ≡ true → take (length (report_of f)) (bench_after f M out) ≡ report_of f
in_front f M out a =
    ap (take (length (report_of f))) (cond-true (accepted f M (length out)) _ _ a) ∙ take-append_seam (report_of f) (drop (length (report_of f)) out)
