use Rattle.std.proofs.Common.{◌∙◌, ap, arith, refl, map}
use Rattle.sysmem_tree.specs.ActionKind.{deed_of}
use Rattle.sysmem_tree.specs.Step.{shown_after_all}
use Rattle.sysmem_room.specs.Log.{LogFacts, begun_as, shown_by}
use Rattle.sysmem_room.proofs.Asking.{asked_done}
use Rattle.sysmem_room.proofs.account.Account.asked.Goals as goal

pub returns : goal.returns
returns c =
    asked_done (begun_as c.self.inside.begun c.self.inside.is_domain_root) c.deref-action-items.result.now c.loop-action.action-index _ refl (omega (arith, c.loop-action-test.false)) c.loop-action.invariant
    ∙ (ap (λ xs. (shown_after_all (begun_as c.self.inside.begun c.self.inside.is_domain_root) (map deed_of xs)).constraints) c.deref-action-items.ensures.value ∙ ap (λ (l : LogFacts). (shown_by l).constraints) c.self.view_is)
