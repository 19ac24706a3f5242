use Rattle.std.proofs.Common.{◌≡◌, length, ◌∷◌, refl, sym, ap, ◌∙◌, arith}
use Rattle.burst.specs.Rules.{width_bytes}
use Rattle.burst.proofs.Facts.{width_some}
use Rattle.converter.specs.Pieces.{pieces_left, behind}
use Rattle.converter.proofs.Cuts.{cut_beat, cut_behind}
use Rattle.converter.proofs.Left.{left_next}
use Rattle.converter.proofs.beat.PiecesIterator.next.Goals.{After-behind-self}
use Rattle.converter.proofs.beat.PiecesIterator.next.Goals as goal

pub invariant_of-self : goal.invariant_of-self
invariant_of-self c =
    let s = c.args.self.now in
    let x = c.in_ok-first.field-0 in
    record {
      fits = s.fits;
      cuts = λ y e. cut_behind s.bus s.size x.last x.first s.fits (s.cuts x c.in_ok-first.was) y (ap (λ z. behind z x.last) (sym c.piece_end-end.ensures.value) ∙ sym c.behind-self.ensures ∙ e);
    }

pub invariant_of-result : goal.invariant_of-result
invariant_of-result c =
    let s = c.args.self.now in
    let x = c.in_ok-first.field-0 in
    let b = cut_beat s.bus s.size x.last x.first s.fits (s.cuts x c.in_ok-first.was) in
    record { fits = b.fits; last = c.piece_end-end.ensures.value ∙ b.last; page = b.page }

left : (c : After-behind-self) → pieces_left (width_bytes c.args.self.now.bus) c.args.self.now.rest ≡ (c.in_ok-first.field-0.first, c.piece_end-end.result) ∷ pieces_left (width_bytes c.args.self.now.bus) c.behind-self.result
left c =
    let s = c.args.self.now in
    let x = c.in_ok-first.field-0 in
    ap (pieces_left (width_bytes s.bus)) c.in_ok-first.was
    ∙ left_next (width_bytes s.bus) x.last x.first (width_some s.bus) (s.cuts x c.in_ok-first.was).0
    ∙ ap (λ e. (x.first, e) ∷ pieces_left (width_bytes s.bus) (behind e x.last)) (sym c.piece_end-end.ensures.value)
    ∙ ap (λ r. (x.first, c.piece_end-end.result) ∷ pieces_left (width_bytes s.bus) r) (sym c.behind-self.ensures)

pub returns-clause-steps : goal.returns-clause-steps
returns-clause-steps c = (left (goal.at.returns-clause-steps c).After-behind-self, (refl, refl), refl, refl)

pub returns-clause-goes : goal.returns-clause-goes
returns-clause-goes c = record { on = λ _. (tt, tt, (let e = ap length (left (goal.at.returns-clause-goes c).After-behind-self) in omega arith)); keeps = tt; rests = λ _. tt }
