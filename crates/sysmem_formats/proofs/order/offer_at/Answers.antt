use Rattle.std.proofs.Common.{◌≡◌, suc, ◌-◌, slice_get, arith, ap, ◌∙◌}
use Rattle.sysmem_formats.specs.Offers.{offers}
use Rattle.sysmem_formats.proofs.order.offer_at.Goals as goal

pub returns : goal.returns
returns c =
    let e : suc (c.args.index - 1) ≡ c.args.index = omega arith in
    c.image_at.ensures ∙ ap (slice_get (offers c.args.pairs.now c.args.colours.now)) e
