-- Zeros, and the image in front of them.
use Rattle.std.proofs.Common.{◌≡◌, ℕ, ◌-◌, List, ◌++◌, length, drop, replicate, ap, ◌∙◌, arith, rules}
use Rattle.std.proofs.lemmas.List.{drop-replicate}
use Rattle.bench.proofs.making.load.Goals as goal

pub returns : goal.returns
returns c =
    let n : ℕ = length c.args.image.now in
    let N : ℕ = length c.args.memory.now in
    let z : n - 0 ≡ n = omega arith in
    let f : c.fill.new.self ≡ replicate N 0 = search rules in
    ap (λ (k : ℕ). c.copy_from_slice.new.self ++ drop k c.fill.new.self) z
    ∙ ap (λ (xs : List ℕ). xs ++ drop n c.fill.new.self) c.copy_from_slice.ensures.after
    ∙ ap (λ (xs : List ℕ). c.args.image.now ++ drop n xs) f
    ∙ ap (λ (xs : List ℕ). c.args.image.now ++ xs) (drop-replicate n N 0)
