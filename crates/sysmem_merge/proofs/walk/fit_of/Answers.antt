use Rattle.std.proofs.Common.{inr, sym, ◌∙◌}
use Rattle.sysmem_merge.proofs.FirstFits.{unnamed_line}
use Rattle.sysmem_merge.proofs.walk.fit_of.Goals as goal

pub returns-then-not-is_named-clause-none : goal.returns-then-not-is_named-clause-none
returns-then-not-is_named-clause-none c ds kept sizes =
    inr (c.if-whole.true, unnamed_line c.args.offer.now ds (sym (c.is_named.ensures ds kept) ∙ c.if-not-is_named.true))
