use Rattle.std.proofs.Common.{sym, ◌∙◌, subst}
use Rattle.sysmem_image.specs.declared.bounds.ImageBounds.{ImageBounds}
use Rattle.sysmem_image.specs.Merged.{MergedOf}
use Rattle.sysmem_merge.proofs.PairKeeping.{same_merged}
use Rattle.sysmem_merge.proofs.kept.KeptBounds.merge.Goals as goal

pub returns-in_default-merge_into-clause-merged : goal.returns-in_default-merge_into-clause-merged
returns-in_default-merge_into-clause-merged c b is es merged =
    c.in_default-merge_into.ensures.merged es (subst (λ (a : ImageBounds). MergedOf c.args.offer.now es a) (same_merged b c.in-Merged.bounds (sym is ∙ c.in-Merged.is)) merged)
