-- What refutes all that is earlier, and lines before the settings, are a certificate.
use Rattle.std.proofs.Common.{sym, ap, subst}
use Rattle.verdict_claims.specs.Certificate.{RefutesEarlier, RefuseBeforeFor}
use Rattle.verdict_claims.specs.CertificateFacts.{CertificateFacts}
use Rattle.verdict_claims.specs.Conflict.{IsConflictFor}
use Rattle.verdict_claims.specs.Matter.{Matter, forest, terms}
use Rattle.conflict_finding.specs.Found.{IsBestChoice}
use Rattle.std.specs.Prelude.{option_map}
use Rattle.sysmem_search.proofs.Proved.{of_parts, few_selected, selected_prefix, selected_unmet, selected_best, certified, certified_cut}
use Rattle.sysmem_search.specs.Cut.{AreCut}
use Rattle.sysmem_tree.specs.Forest.{settled}
use Rattle.sysmem_tree.specs.Selection.{IsSelection}
use Rattle.sysmem_search.proofs.proving.certify.Goals as goal

pub refute_earlier-requires : goal.refute_earlier-requires
refute_earlier-requires c =
    let m = c.args.subject.now in
    let q = c.in_ok-question.question in
    let selection = c.selection-selection.result.now in
    let chosen = c.args.chosen.now in
    let optimal = c.requires.1 in record {
      start = ap (λ s. s.choices) c.in_ok-question.ensures;
      room = few_selected m selection chosen.selection chosen.settings c.selection-selection.ensures optimal c.few_choices.ensures c.recall.ensures.tree;
      prefix = selected_prefix m selection chosen.selection chosen.settings c.selection-selection.ensures optimal q c.in_ok-question.ensures;
      unmet = selected_unmet m selection chosen.selection chosen.settings c.selection-selection.ensures optimal q c.in_ok-question.ensures;
    }

pub lines_before-requires-clause-best : goal.lines_before-requires-clause-best
lines_before-requires-clause-best c =
    let m = c.args.subject.now in
    let is = of_parts m c.platform-platform.result.now c.tree-tree.result.now.nodes c.domain-domain.result (option_map (λ b. b.now) c.base-base.result) c.platform-platform.ensures c.tree-tree.ensures c.domain-domain.ensures c.base-base.ensures in
    subst (λ (x : Matter). IsBestChoice x.platform (terms x) (forest x) c.selection-selection.result.now c.settings-settings.result) (sym is)
    (selected_best m c.selection-selection.result.now c.args.chosen.now.selection c.args.chosen.now.settings c.selection-selection.ensures c.requires.1 c.settings-settings.result c.settings-settings.ensures)

pub returns-clause-cut : goal.returns-clause-cut
returns-clause-cut c =
    let m = c.args.subject.now in
    let q = c.in_ok-question.question in
    let selection = c.selection-selection.result.now in
    let chosen = c.args.chosen.now in
    certified_cut m selection chosen.selection chosen.settings c.selection-selection.ensures c.requires.1 q c.in_ok-question.ensures c.new-2.result
    (subst (λ (f : CertificateFacts). AreCut q.matter (forest q.matter) selection f.earlier) (sym c.new-2.ensures) c.in_ok-earlier.ensures.cut)

pub returns-clause-proved : goal.returns-clause-proved
returns-clause-proved c =
    let m = c.args.subject.now in
    let q = c.in_ok-question.question in
    let selection = c.selection-selection.result.now in
    let settings = c.settings-settings.result in
    let chosen = c.args.chosen.now in
    let is = of_parts m c.platform-platform.result.now c.tree-tree.result.now.nodes c.domain-domain.result (option_map (λ b. b.now) c.base-base.result) c.platform-platform.ensures c.tree-tree.ensures c.domain-domain.ensures c.base-base.ensures in
    certified m selection chosen.selection chosen.settings c.selection-selection.ensures c.requires.1 q settings c.new-2.result c.in_ok-question.ensures c.settings-settings.ensures
    (subst (λ (f : CertificateFacts). RefutesEarlier (IsConflictFor q.matter.platform (terms q.matter)) (forest q.matter) selection f.earlier) (sym c.new-2.ensures) c.in_ok-earlier.ensures.refuted)
    (λ members selects. subst (RefuseBeforeFor m.platform (terms m) (settled members) settings) (sym c.new-2.ensures)
    (subst (λ (x : Matter). RefuseBeforeFor x.platform (terms x) (settled members) settings (record { earlier = c.in_ok-earlier.earlier.items; offers = c.in_ok-lines.lines.offers; places = c.in_ok-lines.lines.places })) is
    (c.in_ok-lines.ensures members (subst (λ (x : Matter). IsSelection (forest x) selection members) (sym is) selects) c.in_ok-earlier.earlier.items)))
