use Rattle.std.proofs.Common.{◌∙◌, ap, refl}
use Rattle.sysmem_tree.specs.Domain.{TreeFacts, has_failed, decision_of}
use Rattle.sysmem_tree.proofs.steps.Entering.{seen, barred_failed, barred_else}
use Rattle.sysmem_tree.proofs.tree.Tree.is_barred.Goals as goal

pub returns-then-has_failed : goal.returns-then-has_failed
returns-then-has_failed c = barred_failed c.args.self.now c.args.root c.has_failed.result (seen has_failed c.has_failed.result _ _ _ _ c.args.root c.args.root c.args.self.now c.has_failed.ensures c.deref.ensures.value c.deref-2.ensures.value c.self.view_is refl) c.if-has_failed.true

pub returns-else-has_failed : goal.returns-else-has_failed
returns-else-has_failed c =
    barred_else c.args.self.now c.args.root c.has_failed.result _ _ (seen has_failed c.has_failed.result _ _ _ _ c.args.root c.args.root c.args.self.now c.has_failed.ensures c.deref.ensures.value c.deref-2.ensures.value c.self.view_is refl) c.if-has_failed.false
    (c.decision_of.ensures ∙ (ap (λ z. decision_of z c.args.root) c.deref-else-has_failed.ensures.value ∙ ap (λ (z : TreeFacts). decision_of z.domains c.args.root) c.self.view_is)) c.is_none_chosen.ensures
