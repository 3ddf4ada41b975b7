-- See GivenBases.antt.
use Rattle.std.proofs.Common.{sym, subst}
use Rattle.std.specs.Prelude.{IfSome}
use Rattle.std.proofs.lemmas.Result.{IfOk-weaker}
use Rattle.sysmem_alloc.specs.Sound.{MayWait}
use Rattle.verdict_claims.specs.Base.{IsGivenBase}
use Rattle.sysmem_alloc.proofs.GivenBases.{book_base_given, next_waits}
use Rattle.sysmem_alloc.proofs.book.Book.base.Goals as goal

pub entered_base-requires-clause-there : goal.entered_base-requires-clause-there
entered_base-requires-clause-there c = (subst (λ o. IfSome o (MayWait c.args.self.now.state.tree)) c.requires (next_waits c.legal_is_sound.ensures c.args.self.now c.recall_legal.ensures)).there

pub returns-clause-given : goal.returns-clause-given
returns-clause-given c = IfOk-weaker c.entered_base.result _ _
    (λ base is. subst (IsGivenBase c.args.self.now.platform c.args.self.now.state.tree.nodes c.args.domain) (sym is)
    (book_base_given c.base_is_given.ensures c.args.self.now c.args.domain c.recall_legal.ensures c.requires)) c.entered_base.ensures
