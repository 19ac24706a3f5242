use Rattle.std.proofs.Common.{refl}
use Rattle.burst.specs.Beats.{address_of, last_of}
use Rattle.burst.proofs.laws.edges_stand.Goals as goal

pub returns : goal.returns
unfolding address_of last_of
returns c = record {
  incr_0 = (refl, refl);
  incr_1 = (refl, refl);
  incr_2 = (refl, refl);
  wrap_0 = refl;
  wrap_1 = refl;
  wrap_2 = refl;
  wrap_3 = refl;
  fixed_0 = (refl, refl);
  fixed_1 = (refl, refl);
  page_fits = refl;
  page_two = refl;
  page_byte = refl;
  fixed_16 = refl;
  fixed_17 = refl;
  wrap_start = refl;
}
