use Rattle.std.proofs.Common.{refl, [], subst}
use Rattle.sysmem_formats.specs.declared.offer.Offer.{Offer}
use Rattle.sysmem_image.specs.Bounds.{IsOwn}
use Rattle.sysmem_image.specs.Merged.{MergedOf}
use Rattle.sysmem_merge.proofs.PairKeeping.{new_pair}
use Rattle.sysmem_merge.proofs.pair.KeptPair.new.Goals as goal

pub returns : goal.returns
returns c = new_pair c.args.pair c.of.result _ refl
    (subst (λ (o : Offer). IsOwn o c.of.result) c.any_offer.ensures c.of.ensures.own)
    (subst (λ (o : Offer). MergedOf o [] c.of.result) c.any_offer.ensures c.of.ensures.merged)
    c.all.ensures c.none.ensures.colours c.none.ensures.format c.none.ensures.modifier
