use Rattle.std.proofs.Common.{◌≡◌, ◌^◌, ◌≤◌, sym, subst}
use Rattle.burst.specs.Rules.{width_bytes}
use Rattle.burst.proofs.Facts.{width_some}
use Rattle.burst.specs.declared.cover.Cover.{Cover}
use Rattle.converter.specs.Fits.{Cuttable}
use Rattle.converter.proofs.Cuts.{code_fits, whole_cuttable, beat_on}
use Rattle.converter.proofs.Left.{left_first}
use Rattle.converter.proofs.beat.BusBeat.pieces.Goals as goal

pub invariant_of-result : goal.invariant_of-result
invariant_of-result c =
    let s = c.args.self in
    let v = width_bytes c.args.below in
    let b = beat_on s in
    record {
      fits = subst (λ k. 2 ^ k ≤ v) (sym c.piece_code.ensures) (code_fits s.size c.args.below);
      cuts = λ x e. let same : s.cover ≡ x = cc in
          subst (λ (y : Cover). Cuttable v c.piece_code.result y.last y.first) same
          (subst (λ k. Cuttable v k s.cover.last s.cover.first) (sym c.piece_code.ensures) (whole_cuttable (width_bytes s.bus) s.cover.first s.cover.last s.size c.args.below b));
    }

pub returns-clause-left : goal.returns-clause-left
returns-clause-left c =
    let s = c.args.self in
    left_first (width_bytes s.bus) s.cover.first s.cover.last s.size (width_bytes c.args.below) (beat_on s) (width_some c.args.below)
