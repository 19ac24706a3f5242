use Rattle.std.proofs.Common.{◌≡◌, ℕ, ◌-◌, ◌%◌, ◌<◌, min, cond, Some, None, sym, ap, ◌∙◌, arith}
use Rattle.std.proofs.lemmas.Bool.{lt-ltb}
use Rattle.burst.specs.declared.raw.RawBurst.{RawBurst}
use Rattle.burst.specs.Beats.{raw_of, IsLawful, address_of, address_answer}
use Rattle.splitter.specs.Runs.{part_first, part_end, run_first, run_of, beat_in, run_answer}
use Rattle.splitter.proofs.Walks.{beat_is, run_base, base_le}
use Rattle.splitter.proofs.Places.{run_at_beat}
use Rattle.splitter.proofs.Joined.{runs_stand, worked}
use Rattle.splitter.proofs.runs.run_at.Goals as goal

-- the run as the code makes it
ran : (M : ℕ) (b : RawBurst) (j first end beat start : ℕ) → IsLawful 8 b → 0 < M → j < b.count → first ≡ part_first b j → end ≡ part_end b j
    → beat ≡ (j - first) % M → Some start ≡ address_answer b (j - beat)
    → Some (record { kind = 1; start = start; size = b.size; count = min M (end - (j - beat)) }, beat) ≡ run_answer M b j
unfolding run_of
ran M b j first end beat start law some left f e is at =
    let beats : beat ≡ beat_in M b j = is ∙ ap (λ x. (j - x) % M) f ∙ sym (beat_is M b j law some left) in
    let base : j - beat ≡ run_first M b j = omega (arith, run_base M b j law some left) in
    let within : run_first M b j < b.count = omega (arith, base_le M b j law some left) in
    let there : address_answer b (j - beat) ≡ Some (address_of b (run_first M b j)) =
    ap (address_answer b) base ∙ ap (λ t. cond t (Some (address_of b (run_first M b j))) None) (lt-ltb (run_first M b j) b.count within) in
    let starts : start ≡ address_of b (run_first M b j) = cc in
    let told = run_at_beat M b j some left in
    cc

pub returns-clause-answer : goal.returns-clause-answer
returns-clause-answer c =
    let part = c.part-part in
    let found = c.in_ok-beat.ensures in
    let count = c.min-count.ensures in
    let made = c.new.ensures in
    let run = ran c.args.number (raw_of c.args.burst) c.args.j part.result.start part.result.end c.in_ok-beat.beat c.in_ok-start.start c.args.burst.lawful
    found.0 (omega arith) part.ensures.first part.ensures.end found.1 c.in_ok-start.ensures in
    cc

pub returns-clause-law : goal.returns-clause-law
returns-clause-law c = runs_stand c.args.number (raw_of c.args.burst) c.args.burst.lawful c.in_ok-beat.ensures.0

pub returns-clause-worked : goal.returns-clause-worked
returns-clause-worked c = worked
