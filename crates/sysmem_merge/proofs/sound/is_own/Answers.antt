use Rattle.std.proofs.lemmas.Bool.Decides.{Decides-at}
use Rattle.sysmem_merge.proofs.SoundSettings.{own_none}
use Rattle.negotiation_inputs.proofs.CallerLemmas.{same_bounds}
use Rattle.sysmem_merge.proofs.sound.is_own.Goals as goal

pub returns-in-NoImage : goal.returns-in-NoImage
returns-in-NoImage c =
    own_none c.args.offer.now c.args.bounds.now c.of.result c.eq.result c.in-NoImage.is c.of.ensures.own (Decides-at c.eq.result _ c.eq.ensures (same_bounds c.args.bounds.now c.of.result))
