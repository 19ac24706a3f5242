use Rattle.std.proofs.Common.{◌≡◌, ◌^◌, ltb, sym, subst}
use Rattle.burst.specs.Beats.{raw_of, cover_of, last_from}
use Rattle.burst.proofs.Facts.{some_is}
use Rattle.burst.specs.declared.cover.Cover.{Cover}
use Rattle.burst.specs.Rules.{KeepsPage}
use Rattle.converter.proofs.Bursts.{beat_of}
use Rattle.converter.proofs.beat.BusBeat.next_of.Goals as goal

pub invariant_of-result : goal.invariant_of-result
invariant_of-result c =
    let s = c.args.at.burst.size in
    let b = beat_of c.args.bus c.args.at.burst c.args.at.taken c.requires.lawful in
    let k = c.args.at.taken in
    let at = sym (some_is (ltb k c.args.at.burst.count) (cover_of (raw_of c.args.at.burst) k) c.unwrap.result c.cover.result c.cover.ensures c.unwrap.ensures) in
    record {
      fits = b.fits;
      last = subst (λ (x : Cover). x.last ≡ last_from x.first (2 ^ s)) at b.last;
      page = subst (λ (x : Cover). KeepsPage x.first (2 ^ s) 1) at b.page;
    }
