-- The law holds where a script is run: not over memory of another length, nor where its report does not fit.
use Rattle.std.proofs.Common.{◌≡◌, ℕ, arith, true, false, eqb, leb, List, length, vec_len, sym, ap, ◌∙◌}
use Rattle.std.proofs.lemmas.Bool.{lt-leb, ne_eqb, true≢false}
use Rattle.ram.specs.Memory.{memory_board}
use Rattle.bench.specs.Piles.{loaded}
use Rattle.bench.specs.Reports.{script_report}
use Rattle.bench.specs.Runs.{report_of}
use Rattle.bench.proofs.Calls.{runs_is, script_is, script_holds, never_runs}
use Rattle.bench.proofs.runs.run.Goals as goal

pub returns-then-len-ne-MEMORY_BYTES-clause-law : goal.returns-then-len-ne-MEMORY_BYTES-clause-law
returns-then-len-ne-MEMORY_BYTES-clause-law c =
    let M : ℕ = vec_len c.args.memory in
    let ne : eqb M 8192 ≡ false = ne_eqb M 8192 (λ e. c.if-len-ne-MEMORY_BYTES.true (c.len.ensures ∙ e)) in
    λ r. absurd (true≢false (sym r ∙ never_runs c.args.file.now M (length c.args.report.now) ne))

pub returns-in_err-memory-clause-law : goal.returns-in_err-memory-clause-law
returns-in_err-memory-clause-law c =
    let f : List ℕ = c.args.file.now in
    let M : ℕ = vec_len c.args.memory in
    let room : ℕ = length c.args.report.now in
    let size : M ≡ 8192 = sym c.len.ensures ∙ c.if-len-ne-MEMORY_BYTES.false in
    let o = c.in-Ok.ensures.answer in
    let rep : List ℕ = script_report (memory_board (loaded c.in-Ok.script.image.now 8192)) c.in-Ok.script.records.now in
    let is : report_of f ≡ rep = script_is f _ _ c.open.ensures.law o.0 (ap (λ (z : List ℕ). loaded z 8192) o.2) o.1 in
    let long : leb (length rep) room ≡ false = lt-leb _ _ (omega (arith, c.in_err-memory.ensures.room.1)) in
    λ r. absurd (true≢false (sym r ∙ runs_is f M room rep size o.0 is ∙ long))

pub returns-clause-law : goal.returns-clause-law
returns-clause-law c =
    let o = c.in-Ok.ensures.answer in
    λ _. script_holds c.args.file.now _ _ c.open.ensures.law o.0 (ap (λ (z : List ℕ). loaded z 8192) o.2) o.1 c.reported.ensures.law
