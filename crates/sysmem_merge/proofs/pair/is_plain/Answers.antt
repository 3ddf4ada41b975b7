use Rattle.std.proofs.lemmas.Bool.Decides.{Decides-at}
use Rattle.negotiation_inputs.proofs.CallerLemmas.{same_bounds}
use Rattle.sysmem_merge.proofs.PairKeeping.{own_plain}
use Rattle.sysmem_merge.proofs.pair.is_plain.Goals as goal

pub returns-in-Merged : goal.returns-in-Merged
returns-in-Merged c is =
    own_plain c.args.pair c.in-Merged.bounds c.of.result c.any_offer.result c.args.bounds.now c.eq.result c.any_offer.ensures c.of.ensures.own
    (Decides-at c.eq.result _ c.eq.ensures (same_bounds c.in-Merged.bounds c.of.result)) c.in-Merged.is is
