use Rattle.std.proofs.Common.{inl, inr, sym, ◌∙◌}
use Rattle.sysmem_formats.specs.declared.offer.Offer.TheVariants.{Image}
use Rattle.sysmem_merge.specs.Pairs.{has}
use Rattle.sysmem_merge.proofs.FirstFits.{unnamed_line}
use Rattle.sysmem_merge.proofs.PairKeeping.{untaken_offer}
use Rattle.sysmem_merge.proofs.pair_walk.is_shared.Goals as goal

pub returns-then-not-has-clause-none : goal.returns-then-not-has-clause-none
returns-then-not-has-clause-none c pair ds kept is =
    inl (untaken_offer (Image pair c.args.colour) ds c.args.kept.now.bounds (has c.args.kept.now.taken c.args.colour) (sym c.has.ensures ∙ c.if-not-has.true) (kept.each c.args.colour).bounds)

pub returns-then-not-is_named-clause-none : goal.returns-then-not-is_named-clause-none
returns-then-not-is_named-clause-none c pair ds kept is =
    inr (c.if-whole.true, unnamed_line (Image pair c.args.colour) ds (sym (c.is_named.ensures pair ds kept) ∙ c.if-not-is_named.true))
