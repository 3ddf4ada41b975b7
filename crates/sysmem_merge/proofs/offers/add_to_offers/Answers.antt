use Rattle.std.proofs.Common.{arith, sym, ◌∙◌}
use Rattle.std.proofs.lemmas.Option.{slice_get-get_or}
use Rattle.sysmem_formats.specs.Offers.{offers}
use Rattle.sysmem_merge.proofs.Many.{kept_before, kept_further, kept_all}
use Rattle.sysmem_merge.proofs.offers.add_to_offers.Goals as goal

pub loop-index-init : goal.loop-index-init
loop-index-init c ds d same are = kept_before (offers c.args.platform.now.pairs c.args.platform.now.colours) ds d c.args.kept.now are

pub loop-index-preserved : goal.loop-index-preserved
loop-index-preserved c ds d same are =
    kept_further c.loop-index.index (offers c.args.platform.now.pairs c.args.platform.now.colours) ds d c.loop-index.kept _ c.add_to_offer.new.kept
    (slice_get-get_or c.loop-index.kept c.loop-index.index c.index-kept-index.result (omega arith))
    (λ o here. c.add_to_offer.ensures o ds d here (same ∙ sym c.of-matches.ensures)) (c.loop-index.invariant ds d same are)

pub returns : goal.returns
returns c ds d same are = kept_all c.loop-index.index (offers c.args.platform.now.pairs c.args.platform.now.colours) ds d c.loop-index.kept (omega arith) (c.loop-index.invariant ds d same are)
