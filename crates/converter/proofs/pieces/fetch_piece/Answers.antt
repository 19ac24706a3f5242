use Rattle.std.proofs.Common.{ap, ◌∙◌}
use Rattle.burst.specs.Rules.{width_bytes}
use Rattle.slave.specs.declared.channels.Channel.TheVariants.{Read}
use Rattle.slave.specs.Acts.{open_after}
use Rattle.converter.specs.Sent.{moved_word}
use Rattle.converter.proofs.Cuts.{beat_on}
use Rattle.converter.proofs.Parts.{part_read, part_fetched}
use Rattle.converter.proofs.pieces.fetch_piece.Goals as goal

pub returns : goal.returns
returns g c =
    let x = c.args.below.now in
    let m = g.S.Slave.meaning x in
    let p = c.args.piece in
    let v = width_bytes p.bus in
    let n1 = g.S.Slave.meaning c.open.new.self in
    let n2 = g.S.Slave.meaning c.take.new.self in
    let o = c.open.ensures.after ∙ ap (open_after m Read) c.alone.ensures in
    let got = c.got-got.ensures in
    let e = part_read m v p.cover.first p.cover.last p.size c.requires.bus (beat_on p) (g.met.S.Slave.sound x) c.requires.ready n1 n2 c.take.result o c.take.ensures.answer c.take.ensures.after in
    record {
      word = c.word.ensures ∙ ap (λ z. moved_word c.args.word z c.args.base p.cover.first p.cover.last v) (ap (λ z. z.0) got ∙ e.0);
      worst = ap (λ z. z.1) got ∙ e.1;
      after = e.2;
      got = ap (λ z. (z, c.got-got.result.1, n2)) c.word.ensures ∙ ap (λ z. (moved_word c.args.word z.0 c.args.base p.cover.first p.cover.last v, z.1, n2)) got
          ∙ part_fetched m v p.cover.first p.cover.last p.size c.requires.bus (beat_on p) (g.met.S.Slave.sound x) c.requires.ready n1 n2 c.take.result o c.take.ensures.answer c.take.ensures.after c.args.word c.args.base;
    }
