-- A record has 24 bytes.
use Rattle.std.proofs.Common.{ap, length, arith, length-take-le}
use Rattle.script.proofs.acts.write_act.Goals as goal

pub copy_from_slice-requires : goal.copy_from_slice-requires
copy_from_slice-requires c = omega (arith, ap length c.bytes.ensures, length-take-le 24 c.args.out.now)
