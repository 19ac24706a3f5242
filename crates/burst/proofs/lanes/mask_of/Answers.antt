use Rattle.std.proofs.Common.{◌^◌, cond, refl, ap, ◌∙◌, arith}
use Rattle.burst.specs.Beats.{mask_below}
use Rattle.burst.proofs.Masks.{mask_more, mask_fits}
use Rattle.burst.proofs.lanes.mask_of.Goals as goal

pub loop-i-init : goal.loop-i-init
unfolding mask_below
loop-i-init g c = ((λ p h. refl), omega arith)

pub loop-i-preserved : goal.loop-i-preserved
loop-i-preserved g c =
    let i = c.loop-i.i in (
      (λ p h. mask_more p i c.loop-i.mask c.lane_bit-mask.result (c.loop-i.invariant.0 p h)
          (c.lane_bit-mask.ensures.value ∙ ap (λ b. cond b (2 ^ i) 0) (h i c.test.result c.loop-i-test.true c.test.ensures))),
      mask_fits i c.loop-i.mask c.lane_bit-mask.result c.loop-i.invariant.1 c.lane_bit-mask.ensures.bound,
    )
