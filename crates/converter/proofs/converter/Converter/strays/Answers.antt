-- A beat is left, so the lanes are its own.
use Rattle.slave.specs.declared.channels.Channel.TheVariants.{Write}
use Rattle.converter.proofs.Told.{open_left_for}
use Rattle.converter.proofs.converter.Converter.strays.Goals as goal

pub returns : goal.returns
returns g c = let x = c.args.self.now in c.strays.ensures.left (open_left_for x.width x.channels Write c.args.at x.opens c.requires)
