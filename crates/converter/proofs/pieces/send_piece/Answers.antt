use Rattle.std.proofs.Common.{ap, ◌∙◌}
use Rattle.burst.specs.Rules.{width_bytes}
use Rattle.slave.specs.declared.channels.Channel.TheVariants.{Write}
use Rattle.slave.specs.Acts.{open_after}
use Rattle.converter.proofs.Cuts.{beat_on}
use Rattle.converter.proofs.Parts.{part_sent}
use Rattle.converter.proofs.pieces.send_piece.Goals as goal

pub returns : goal.returns
returns g c =
    let x = c.args.below.now in
    let m = g.S.Slave.meaning x in
    let p = c.args.piece in
    let e = part_sent m (width_bytes p.bus) p.cover.first p.cover.last p.size c.requires.bus (beat_on p) (g.met.S.Slave.sound x) c.requires.ready
    (width_bytes c.args.own) c.args.word c.args.strobe c.word_start.result c.word.result c.strobe.result c.word_start.ensures c.word.ensures c.strobe.ensures
    (g.S.Slave.meaning c.open.new.self) (g.S.Slave.meaning c.give.new.self) c.give.result (c.open.ensures.after ∙ ap (open_after m Write) c.alone.ensures) c.give.ensures.answer c.give.ensures.after in
    record { worst = c.done.ensures ∙ e.0; after = e.1; sent = e.2 }
