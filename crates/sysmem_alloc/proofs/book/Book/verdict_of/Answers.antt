-- See Fates.antt and Apart.antt.
use Rattle.std.proofs.Common.{Some, None, sym, ◌∙◌, ap, subst}
use Rattle.std.specs.Prelude.{map}
use Rattle.std.specs.List.{filter_map}
use Rattle.verdict_claims.specs.declared.certificate.Claim.{Claim}
use Rattle.sysmem_alloc.specs.Book.{kept_book}
use Rattle.sysmem_alloc.specs.Decision.{DomainVerdict}
use Rattle.sysmem_alloc.specs.Entry.{decision_in}
use Rattle.sysmem_alloc.specs.Sound.{AreDistinct}
use Rattle.sysmem_alloc.specs.State.{verdict_of}
use Rattle.sysmem_alloc.proofs.Apart.{entered_once}
use Rattle.sysmem_alloc.proofs.Fates.{failed_verdict, entered_verdict, undecided_verdict}
use Rattle.sysmem_alloc.proofs.book.Book.verdict_of.Goals as goal

pub returns-then-has_failed : goal.returns-then-has_failed
returns-then-has_failed c =
    let state = (kept_book c.self.inside.platform c.self.inside.tree c.self.inside.history.items c.self.inside.waiting.items c.self.inside.were_open).state in
    ap Some c.self.invariant.3
    ∙ (sym (failed_verdict state c.args.domain (sym c.fate-fate.ensures ∙ c.has_failed.ensures.failed c.if-has_failed.true)) ∙ ap (λ b. verdict_of b.state c.args.domain) c.self.view_is)

pub returns-then-is_undecided : goal.returns-then-is_undecided
returns-then-is_undecided c =
    let book = kept_book c.self.inside.platform c.self.inside.tree c.self.inside.history.items c.self.inside.waiting.items c.self.inside.were_open in
    undecided_verdict c.legal_agrees.ensures book c.args.domain c.self.invariant.0 (sym c.fate-fate.ensures ∙ c.is_undecided.ensures.undecided c.if-is_undecided.true)
    ∙ ap (λ b. verdict_of b.state c.args.domain) c.self.view_is

pub entered_for-requires : goal.entered_for-requires
entered_for-requires c = subst (λ h. AreDistinct (map (λ (d : DomainVerdict). d.domain) (filter_map decision_in h))) (sym c.deref.ensures.value) (entered_once c.legal_agrees.ensures _ c.self.invariant.0)

pub returns-in_err-claim : goal.returns-in_err-claim
returns-in_err-claim c =
    let state = (kept_book c.self.inside.platform c.self.inside.tree c.self.inside.history.items c.self.inside.waiting.items c.self.inside.were_open).state in
    rw c.from_residual.ensures
    (entered_verdict state c.args.domain None (rw c.deref.ensures.value at c.in_err-claim.ensures) (λ e. c.has_failed.ensures.other c.if-has_failed.false (c.fate-fate.ensures ∙ e)) ∙ ap (λ b. verdict_of b.state c.args.domain) c.self.view_is)

pub returns-in-Some : goal.returns-in-Some
returns-in-Some c =
    let state = (kept_book c.self.inside.platform c.self.inside.tree c.self.inside.history.items c.self.inside.waiting.items c.self.inside.were_open).state in
    ap (λ (claim : Claim). Some claim.verdict) c.deref-in-Some.ensures
    ∙ (entered_verdict state c.args.domain _ (rw c.in-Some.is at (rw c.deref.ensures.value at c.in_ok-claim.ensures)) (λ e. c.has_failed.ensures.other c.if-has_failed.false (c.fate-fate.ensures ∙ e)) ∙ ap (λ b. verdict_of b.state c.args.domain) c.self.view_is)

pub returns-in-None : goal.returns-in-None
returns-in-None c =
    let state = (kept_book c.self.inside.platform c.self.inside.tree c.self.inside.history.items c.self.inside.waiting.items c.self.inside.were_open).state in
    ap Some c.self.invariant.4
    ∙ (entered_verdict state c.args.domain (Some None) (rw c.in-None.is at (rw c.deref.ensures.value at c.in_ok-claim.ensures)) (λ e. c.has_failed.ensures.other c.if-has_failed.false (c.fate-fate.ensures ∙ e)) ∙ ap (λ b. verdict_of b.state c.args.domain) c.self.view_is)
