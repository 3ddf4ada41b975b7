-- See GivenBases.antt.
use Rattle.std.proofs.Common.{◌∙◌, ap, slice_get, subst, sym}
use Rattle.std.specs.Prelude.{IfSome}
use Rattle.sysmem_alloc.specs.Book.{BookFacts, IsBook}
use Rattle.sysmem_alloc.specs.Sound.{MayWait}
use Rattle.sysmem_alloc.proofs.GivenBases.{next_waits}
use Rattle.sysmem_alloc.proofs.book.Book.next_ready.Goals as goal

pub returns-clause-waits : goal.returns-clause-waits
returns-clause-waits c =
    let book : IsBook c.args.self.now = subst IsBook c.self.view_is c.self.invariant.0 in
    subst (λ o. IfSome o (MayWait c.args.self.now.state.tree))
    (sym (c.copied.ensures ∙ (c.first.ensures.value ∙ (ap (λ ws. slice_get ws 0) c.deref.ensures.value ∙ ap (λ (b : BookFacts). slice_get b.state.waiting 0) c.self.view_is))))
    (next_waits c.legal_is_sound.ensures c.args.self.now book)
