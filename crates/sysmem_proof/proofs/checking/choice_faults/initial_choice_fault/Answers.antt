-- The settings, then what is earlier, then the lines.
use Rattle.std.proofs.Common.{◌≡◌, ◌≤◌, Some, All, length, sym, subst}
use Rattle.std.specs.Prelude.{IsPermutation}
use Rattle.sysmem_tree.specs.Forest.{settled}
use Rattle.sysmem_tree.specs.Nodes.{HasNode}
use Rattle.sysmem_tree.specs.Selection.{after, IsPrefix}
use Rattle.verdict_claims.specs.Asked.{asked_in}
use Rattle.verdict_claims.specs.Matter.{forest, terms}
use Rattle.verdict_claims.specs.Members.{participants}
use Rattle.verdict_claims.specs.Roll.{listed}
use Rattle.sysmem_merge.specs.Settings.{Meets}
use Rattle.sysmem_proof.proofs.Left.{of_err}
use Rattle.sysmem_proof.proofs.Choosing.{initial_fails, least_told, lines_read, lines_told, earlier_wrong, earlier_holds, no_terms}
use Rattle.sysmem_proof.proofs.Selections.{selects_prefix}
use Rattle.sysmem_proof.proofs.checking.choice_faults.initial_choice_fault.Goals as goal

pub members-members-requires : goal.members-members-requires
members-members-requires c = subst (IsPrefix (forest c.args.checker.now)) (sym c.selection-selection.ensures) (selects_prefix (forest c.args.checker.now) _ c.requires.selected)

pub initial_fault-requires-clause-there : goal.initial_fault-requires-clause-there
initial_fault-requires-clause-there c = subst (λ ns. All (HasNode ns) c.as_slice.result.now) (sym c.tree.ensures) (subst (All (HasNode c.args.checker.now.nodes)) (sym c.as_slice.ensures) c.members-members.ensures.there)

pub initial_fault-requires-clause-few : goal.initial_fault-requires-clause-few
initial_fault-requires-clause-few c = subst (λ xs. length xs ≤ 128) (sym c.as_slice.ensures) c.members-members.ensures.few

pub earlier_fault-requires : goal.earlier_fault-requires
earlier_fault-requires c = subst (IsPrefix (forest c.args.checker.now)) (sym c.selection-selection.ensures) (selects_prefix (forest c.args.checker.now) _ c.requires.selected)

pub settled-requires : goal.settled-requires
settled-requires c = subst (IsPrefix (forest c.args.checker.now)) (sym c.selection-selection.ensures) (selects_prefix (forest c.args.checker.now) _ c.requires.selected)

pub returns-in_err-initial_fault : goal.returns-in_err-initial_fault
returns-in_err-initial_fault c =
    let checker = c.args.checker.now in
    let d = forest checker in
    let (e, selects) = c.requires.selected in
    let lead = subst (λ xs. after d xs ≡ Some e) (sym c.selection-selection.ensures) selects.leads in
    let slice = c.as_slice.result.now in
    let order = subst (λ ns. IsPermutation (asked_in ns slice) (participants (settled e))) (sym c.tree.ensures)
    (subst (λ xs. IsPermutation (asked_in checker.nodes xs) (participants (settled e))) (sym c.as_slice.ensures) (c.members-members.ensures.asks e lead)) in
    of_err c.from_residual.result _ _ _ c.from_residual.ensures.1 (λ y same. same)
    (initial_fails checker.platform _ d _ c.args.chosen.now.settings _ c.args.certificate.now e selects c.platform-platform.ensures c.settings-settings.ensures (terms checker) c.in_err-initial_fault.field-0.0
    (no_terms checker.nodes checker.base c.requires.initial) (c.in_err-initial_fault.ensures (settled e) order))

pub returns-in_err-earlier_fault : goal.returns-in_err-earlier_fault
returns-in_err-earlier_fault c =
    let checker = c.args.checker.now in
    let d = forest checker in
    let (e, selects) = c.requires.selected in
    let lead = subst (λ xs. after d xs ≡ Some e) (sym c.selection-selection.ensures) selects.leads in
    let slice = c.as_slice.result.now in
    let order = subst (λ ns. IsPermutation (asked_in ns slice) (participants (settled e))) (sym c.tree.ensures)
    (subst (λ xs. IsPermutation (asked_in checker.nodes xs) (participants (settled e))) (sym c.as_slice.ensures) (c.members-members.ensures.asks e lead)) in
    let least = least_told checker.platform _ d _ c.args.chosen.now.settings _ c.args.certificate.now e selects c.platform-platform.ensures c.settings-settings.ensures (c.in_ok-initial_fault.ensures (settled e) order) in
    of_err c.from_residual-in_err-earlier_fault.result _ _ _ c.from_residual-in_err-earlier_fault.ensures.1 (λ y same. same)
    (earlier_wrong checker.platform (terms checker) d c.args.chosen.now.selection c.args.chosen.now.settings c.args.certificate.now e selects (no_terms checker.nodes checker.base c.requires.initial) least
    _ _ c.in_err-earlier_fault.field-0.0 c.selection-selection.ensures c.earlier.ensures c.in_err-earlier_fault.ensures)

pub lines_fault-requires : goal.lines_fault-requires
lines_fault-requires c =
    let checker = c.args.checker.now in
    let d = forest checker in
    let (e, selects) = c.requires.selected in
    let lead = subst (λ xs. after d xs ≡ Some e) (sym c.selection-selection.ensures) selects.leads in
    let slice = c.as_slice.result.now in
    let order = subst (λ ns. IsPermutation (asked_in ns slice) (participants (settled e))) (sym c.tree.ensures)
    (subst (λ xs. IsPermutation (asked_in checker.nodes xs) (participants (settled e))) (sym c.as_slice.ensures) (c.members-members.ensures.asks e lead)) in
    subst (λ ms. Meets c.platform-platform.result.now (participants ms) c.settings-settings.result) (sym (c.settled.ensures e lead)) (c.in_ok-initial_fault.ensures (settled e) order).meets

pub returns : goal.returns
returns c =
    let checker = c.args.checker.now in
    let d = forest checker in
    let (e, selects) = c.requires.selected in
    let lead = subst (λ xs. after d xs ≡ Some e) (sym c.selection-selection.ensures) selects.leads in
    let slice = c.as_slice.result.now in
    let order = subst (λ ns. IsPermutation (asked_in ns slice) (participants (settled e))) (sym c.tree.ensures)
    (subst (λ xs. IsPermutation (asked_in checker.nodes xs) (participants (settled e))) (sym c.as_slice.ensures) (c.members-members.ensures.asks e lead)) in
    let least = least_told checker.platform _ d _ c.args.chosen.now.settings _ c.args.certificate.now e selects c.platform-platform.ensures c.settings-settings.ensures (c.in_ok-initial_fault.ensures (settled e) order) in
    lines_told checker.platform d c.args.chosen.now.selection c.args.chosen.now.settings c.args.certificate.now e selects (terms checker) c.lines_fault.result (no_terms checker.nodes checker.base c.requires.initial) least
    (earlier_holds checker.platform (terms checker) d c.args.chosen.now.selection c.args.certificate.now _ _ c.selection-selection.ensures c.earlier.ensures c.in_ok-earlier_fault.ensures)
    (lines_read checker.platform _ d c.args.chosen.now.selection c.args.chosen.now.settings _ c.args.certificate.now e selects c.platform-platform.ensures c.settings-settings.ensures (listed c.settled.result) c.lines_fault.result
    (c.settled.ensures e lead) c.lines_fault.ensures)
