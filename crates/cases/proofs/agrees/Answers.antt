-- The bytes that are compared are the report.
use Rattle.std.proofs.Common.{◌≡◌, ℕ, List, length, take, vec_len, sym, ap, ◌∙◌, arith}
use Rattle.std.proofs.lemmas.Bool.{true≢false}
use Rattle.bench.specs.Runs.{report_of}
use Rattle.cases.proofs.Reported.{answered, in_front}
use Rattle.cases.proofs.agrees.Goals as goal

pub returns : goal.returns
returns c =
    let f : List ℕ = c.args.file.now in
    let M : ℕ = vec_len c.args.memory in
    let out : List ℕ = c.args.out.now in
    let a = answered f M (length out) c.in-Ok.count c.in-Ok.ensures.answer in
    let count : c.in-Ok.count ≡ length (report_of f) = omega (arith, a.1) in
    let told : take (c.in-Ok.count) c.run.new.report ≡ report_of f =
    ap (λ (k : ℕ). take k c.run.new.report) count ∙ ap (take (length (report_of f))) c.run.ensures.report ∙ in_front f M out a.0 in
    record {
      agrees = λ _. (λ s. sym told ∙ c.same.ensures.0 s, λ e. c.same.ensures.1 (told ∙ e));
      refused = λ r. absurd (true≢false (sym a.0 ∙ r));
      after = c.run.ensures.report;
    }
