use Rattle.std.proofs.Common.{◌∙◌, ap}
use Rattle.sysmem_tree.specs.Domain.{TreeFacts, has_failed, decision_of}
use Rattle.sysmem_tree.proofs.steps.Entering.{seen, fate_failed, fate_decided}
use Rattle.sysmem_tree.proofs.tree.Tree.fate.Goals as goal

pub returns-then-has_failed : goal.returns-then-has_failed
returns-then-has_failed c = fate_failed c.args.self.now c.args.domain c.has_failed.result (seen has_failed c.has_failed.result _ _ _ _ c.domain.inside.0 c.args.domain c.args.self.now c.has_failed.ensures c.deref.ensures.value c.deref-2.ensures.value c.self.view_is c.domain.view_is) c.if-has_failed.true

pub returns-in-Undecided : goal.returns-in-Undecided
returns-in-Undecided c =
    fate_decided c.args.self.now c.args.domain c.has_failed.result _ _ (seen has_failed c.has_failed.result _ _ _ _ c.domain.inside.0 c.args.domain c.args.self.now c.has_failed.ensures c.deref.ensures.value c.deref-2.ensures.value c.self.view_is c.domain.view_is) c.if-has_failed.false
    (c.decision_of.ensures ∙ (ap (λ z. decision_of z c.domain.inside.0) c.deref-3.ensures.value
    ∙ (ap (λ (z : TreeFacts). decision_of z.domains c.domain.inside.0) c.self.view_is ∙ ap (decision_of c.args.self.now.domains) c.domain.view_is))) c.in-Undecided.is

pub returns-in-Chosen : goal.returns-in-Chosen
returns-in-Chosen c =
    fate_decided c.args.self.now c.args.domain c.has_failed.result _ _ (seen has_failed c.has_failed.result _ _ _ _ c.domain.inside.0 c.args.domain c.args.self.now c.has_failed.ensures c.deref.ensures.value c.deref-2.ensures.value c.self.view_is c.domain.view_is) c.if-has_failed.false
    (c.decision_of.ensures ∙ (ap (λ z. decision_of z c.domain.inside.0) c.deref-3.ensures.value
    ∙ (ap (λ (z : TreeFacts). decision_of z.domains c.domain.inside.0) c.self.view_is ∙ ap (decision_of c.args.self.now.domains) c.domain.view_is))) c.in-Chosen.is

pub returns-in-NoneChosen : goal.returns-in-NoneChosen
returns-in-NoneChosen c =
    fate_decided c.args.self.now c.args.domain c.has_failed.result _ _ (seen has_failed c.has_failed.result _ _ _ _ c.domain.inside.0 c.args.domain c.args.self.now c.has_failed.ensures c.deref.ensures.value c.deref-2.ensures.value c.self.view_is c.domain.view_is) c.if-has_failed.false
    (c.decision_of.ensures ∙ (ap (λ z. decision_of z c.domain.inside.0) c.deref-3.ensures.value
    ∙ (ap (λ (z : TreeFacts). decision_of z.domains c.domain.inside.0) c.self.view_is ∙ ap (decision_of c.args.self.now.domains) c.domain.view_is))) c.in-NoneChosen.is
