-- The run leaves a pile that answers and shows the kinds of its memory, and so the memory's length.
use Rattle.std.proofs.Common.{◌≡◌, ℕ, ◌≤◌, List, length, vec_len, sym, ap, ◌∙◌, subst}
use Rattle.slave.specs.Meaning.{Meaning, Board}
use Rattle.ram.specs.declared.ram.Ram.{Ram}
use Rattle.bench.specs.Piles.{loaded}
use Rattle.bench.proofs.Calls.{length_loaded}
use Rattle.bench.proofs.Stacks.{pile_length}
use Rattle.bench.proofs.runs.measured.Goals as goal

pub returns-clause-memory : goal.returns-clause-memory
returns-clause-memory c =
    let xs : List ℕ = loaded c.image.result.now 8192 in
    let left = c.in_ok-perform.ensures.run.run.slave in
    let q = c.into_below.result in
    let below : c.into_below-ram.result ≡ q.below.below = c.into_below-ram.ensures ∙ ap (λ z. z.below) c.into_below-2.ensures in
    ap vec_len (c.into_memory.ensures ∙ ap (λ (z : Ram). z.memory) below)
    ∙ pile_length q xs (ap (λ (z : Meaning). z.kinds) (c.into_below.ensures ∙ left) ∙ ap (λ (b : Board). b.kinds) c.begin-pile.ensures.board)
    ∙ length_loaded c.image.result.now 8192 (subst (λ (z : List ℕ). length z ≤ 8192) (sym c.image.ensures) c.args.script.most_image)
