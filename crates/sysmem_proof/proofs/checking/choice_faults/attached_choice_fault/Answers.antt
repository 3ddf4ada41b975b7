-- The settings, then what is earlier.
use Rattle.std.proofs.Common.{◌≡◌, ◌≤◌, Some, All, length, sym, subst}
use Rattle.std.specs.Prelude.{IsPermutation}
use Rattle.sysmem_tree.specs.Forest.{settled}
use Rattle.sysmem_tree.specs.Nodes.{HasNode}
use Rattle.sysmem_tree.specs.Selection.{after, IsPrefix}
use Rattle.verdict_claims.specs.Asked.{asked_in}
use Rattle.verdict_claims.specs.Base.{Terms, terms_of}
use Rattle.verdict_claims.specs.Matter.{forest, terms}
use Rattle.verdict_claims.specs.Members.{participants}
use Rattle.sysmem_proof.proofs.Left.{of_err}
use Rattle.sysmem_proof.proofs.Choosing.{attached_fails, kept_told, earlier_told, earlier_read, some_terms}
use Rattle.sysmem_proof.proofs.Selections.{selects_prefix}
use Rattle.sysmem_proof.proofs.Shown.{accepted_asked}
use Rattle.sysmem_proof.proofs.checking.choice_faults.attached_choice_fault.Goals as goal

pub members-members-requires : goal.members-members-requires
members-members-requires c = subst (IsPrefix (forest c.args.checker.now)) (sym c.selection-selection.ensures) (selects_prefix (forest c.args.checker.now) _ c.requires.selected)

pub earlier_fault-requires : goal.earlier_fault-requires
earlier_fault-requires c = subst (IsPrefix (forest c.args.checker.now)) (sym c.selection-selection.ensures) (selects_prefix (forest c.args.checker.now) _ c.requires.selected)

pub attached_fault-requires-clause-accepted : goal.attached_fault-requires-clause-accepted
attached_fault-requires-clause-accepted c = subst (λ ns. All (HasNode ns) c.accepted.result.now) (sym c.tree.ensures)
    (subst (All (HasNode c.args.checker.now.nodes)) (sym c.accepted.ensures) (c.few_accepted.ensures.there c.args.base.now c.requires.base))

pub attached_fault-requires-clause-few_accepted : goal.attached_fault-requires-clause-few_accepted
attached_fault-requires-clause-few_accepted c = subst (λ xs. length xs ≤ 128) (sym c.accepted.ensures) (c.few_accepted.ensures.few c.args.base.now c.requires.base)

pub attached_fault-requires-clause-there : goal.attached_fault-requires-clause-there
attached_fault-requires-clause-there c = subst (λ ns. All (HasNode ns) c.as_slice.result.now) (sym c.tree.ensures) (subst (All (HasNode c.args.checker.now.nodes)) (sym c.as_slice.ensures) c.members-members.ensures.there)

pub attached_fault-requires-clause-few : goal.attached_fault-requires-clause-few
attached_fault-requires-clause-few c = subst (λ xs. length xs ≤ 128) (sym c.as_slice.ensures) c.members-members.ensures.few

pub returns-in_err-attached_fault : goal.returns-in_err-attached_fault
returns-in_err-attached_fault c =
    let checker = c.args.checker.now in
    let d = forest checker in
    let given : Terms = terms_of checker.nodes c.args.base.now in
    let (e, selects) = c.requires.selected in
    let lead = subst (λ xs. after d xs ≡ Some e) (sym c.selection-selection.ensures) selects.leads in
    let slice = c.as_slice.result.now in
    let order = subst (λ ns. IsPermutation (asked_in ns slice) (participants (settled e))) (sym c.tree.ensures)
    (subst (λ xs. IsPermutation (asked_in checker.nodes xs) (participants (settled e))) (sym c.as_slice.ensures) (c.members-members.ensures.asks e lead)) in
    let before = subst (λ ns. participants given.accepted ≡ asked_in ns c.accepted.result.now) (sym c.tree.ensures)
    (subst (λ xs. participants given.accepted ≡ asked_in checker.nodes xs) (sym c.accepted.ensures) (accepted_asked checker.nodes c.args.base.now.accepted)) in
    of_err c.from_residual.result _ _ _ c.from_residual.ensures.1 (λ y same. same)
    (attached_fails checker.platform _ d c.args.chosen.now.selection c.args.chosen.now.settings _ c.args.certificate.now e selects c.platform.ensures c.settings-2.ensures (terms checker) given c.in_err-attached_fault.field-0.0
    (some_terms checker.nodes checker.base c.args.base.now c.requires.base) (c.in_err-attached_fault.ensures given (settled e) (sym c.settings.ensures) before order))

pub returns : goal.returns
returns c =
    let checker = c.args.checker.now in
    let d = forest checker in
    let given : Terms = terms_of checker.nodes c.args.base.now in
    let (e, selects) = c.requires.selected in
    let lead = subst (λ xs. after d xs ≡ Some e) (sym c.selection-selection.ensures) selects.leads in
    let slice = c.as_slice.result.now in
    let order = subst (λ ns. IsPermutation (asked_in ns slice) (participants (settled e))) (sym c.tree.ensures)
    (subst (λ xs. IsPermutation (asked_in checker.nodes xs) (participants (settled e))) (sym c.as_slice.ensures) (c.members-members.ensures.asks e lead)) in
    let before = subst (λ ns. participants given.accepted ≡ asked_in ns c.accepted.result.now) (sym c.tree.ensures)
    (subst (λ xs. participants given.accepted ≡ asked_in checker.nodes xs) (sym c.accepted.ensures) (accepted_asked checker.nodes c.args.base.now.accepted)) in
    earlier_told checker.platform d c.args.chosen.now.selection c.args.chosen.now.settings c.args.certificate.now e selects (terms checker) given c.earlier_fault.result
    (some_terms checker.nodes checker.base c.args.base.now c.requires.base)
    (kept_told checker.platform _ d c.args.chosen.now.selection c.args.chosen.now.settings _ c.args.certificate.now e selects c.platform.ensures c.settings-2.ensures given
    (c.in_ok-attached_fault.ensures given (settled e) (sym c.settings.ensures) before order))
    c.requires.fitting
    (earlier_read checker.platform (terms checker) d _ c.args.chosen.now.selection _ c.args.certificate.now.earlier c.earlier_fault.result c.selection-selection.ensures c.earlier.ensures c.earlier_fault.ensures)
