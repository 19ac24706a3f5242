-- The memory's bytes are what was loaded.
use Rattle.std.proofs.Common.{ℕ, ◌≤◌, length, sym, ap, ◌∙◌, subst}
use Rattle.std.proofs.lemmas.List.{take_at}
use Rattle.bench.specs.Piles.{loaded}
use Rattle.bench.proofs.Calls.{length_loaded}
use Rattle.bench.proofs.making.with_image.Goals as goal

pub returns : goal.returns
returns c =
    let n : ℕ = length c.as_mut_slice.result.now in
    let fits : length c.args.image.now ≤ n = subst (λ (k : ℕ). length c.args.image.now ≤ k) (sym c.as_mut_slice.ensures.len) c.requires in
    take_at _ _ _ (ap length c.load.ensures ∙ length_loaded c.args.image.now n fits ∙ c.as_mut_slice.ensures.len)
    ∙ c.load.ensures
    ∙ ap (loaded c.args.image.now) c.as_mut_slice.ensures.len
