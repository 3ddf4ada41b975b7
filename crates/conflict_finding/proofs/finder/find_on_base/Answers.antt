-- A count line of all who take part, a participant whom the settings fail, or settings that meet.
use Rattle.std.proofs.Common.{◌++◌, [], ◌∷◌, sym, ◌∙◌, ap, subst}
use Rattle.std.specs.Prelude.{All, Any}
use Rattle.std.proofs.lemmas.List.Elements.{All-contains}
use Rattle.sysmem_counts.specs.Counts.{IsCounted, IsFixedCountLine}
use Rattle.sysmem_counts.specs.declared.field.Field.TheVariants.{MinBufferCount, MaxBufferCount}
use Rattle.sysmem_merge.specs.declared.settings.Settings.{Settings}
use Rattle.offer_fits.specs.Demands.{counts_asked}
use Rattle.sysmem_merge.specs.Failing.{FailsOn, IsFirstUncovered}
use Rattle.sysmem_merge.specs.First.{IsFirstOf}
use Rattle.sysmem_merge.specs.Settings.{CoversOn}
use Rattle.sysmem_tree.specs.Forest.{settled}
use Rattle.sysmem_tree.specs.Nodes.{HasNode}
use Rattle.sysmem_tree.specs.Path.{path_of}
use Rattle.verdict_claims.specs.Base.{terms_of}
use Rattle.verdict_claims.specs.FirstConflict.{IsFirstWithout}
use Rattle.verdict_claims.specs.Line.{LineFacts}
use Rattle.verdict_claims.specs.Members.{members_at, participants}
use Rattle.conflict_finding.proofs.FirstWithout.{first_of_all}
use Rattle.conflict_finding.proofs.FoundConflicts.{all_behind, failing_found, fixed_count_found, fixed_met, tally_of_all}
use Rattle.conflict_finding.proofs.finder.find_on_base.Goals as goal

pub first_failing-requires-clause-there : goal.first_failing-requires-clause-there
first_failing-requires-clause-there c = all_behind (HasNode c.args.tree.now.nodes) c.args.base.now.accepted c.args.nodes.now c.requires.there

pub path_of-requires : goal.path_of-requires
path_of-requires c = All-contains (HasNode c.args.tree.now.nodes) c.args.nodes.now c.in-Some-first_failing.first.node
    (all_behind (HasNode c.args.tree.now.nodes) c.args.base.now.accepted c.args.nodes.now c.requires.there) c.in-Some-first_failing.ensures.there

pub returns-in-Some-clause-conflict : goal.returns-in-Some-clause-conflict
returns-in-Some-clause-conflict c = λ d own stand.
    let everyone = c.in_ok-everyone.ensures ∙ ap (λ ns. ns ++ c.args.nodes.now) c.accepted.ensures in
    fixed_count_found c.args.tree.now.nodes (c.args.base.now.accepted ++ c.args.nodes.now) c.deref.result.now c.deref-in-Some.result.now (c.deref.ensures.value ∙ everyone) (c.deref-in-Some.ensures.value ∙ everyone)
    (members_at c.args.tree.now.nodes c.args.base.now.accepted ++ settled d) stand c.counts_at.result c.counts_at.ensures c.args.base.now.settings.count c.requires.limit c.in-Some.field
    (λ ps tally. subst (λ (s : Settings). IsFixedCountLine s.count c.in-Some.field ps) c.settings-settings.ensures (c.in-Some.ensures.line ps tally)) c.in_ok-line.line c.in_ok-line.ensures.line

pub returns-in-Some-clause-first : goal.returns-in-Some-clause-first
returns-in-Some-clause-first c = λ d own stand.
    let everyone = c.in_ok-everyone.ensures ∙ ap (λ ns. ns ++ c.args.nodes.now) c.accepted.ensures in
    let all = members_at c.args.tree.now.nodes c.args.base.now.accepted ++ settled d in
    let tally = tally_of_all c.args.tree.now.nodes (c.args.base.now.accepted ++ c.args.nodes.now) c.deref.result.now c.deref.result.now (c.deref.ensures.value ∙ everyone) (c.deref.ensures.value ∙ everyone) all stand
    c.counts_at.result c.counts_at.ensures in
    subst (λ (line : LineFacts). IsFirstOf (λ field. IsFixedCountLine c.args.base.now.settings.count field (counts_asked (participants all))) (MinBufferCount ∷ MaxBufferCount ∷ []) line.field) (sym c.in_ok-line.ensures.line)
    (subst (λ (s : Settings). IsFirstOf (λ field. IsFixedCountLine s.count field (counts_asked (participants all))) (MinBufferCount ∷ MaxBufferCount ∷ []) c.in-Some.field) c.settings-settings.ensures
    (c.in-Some.ensures.first (counts_asked (participants all)) tally))

pub returns-in-Some-first_failing-clause-first : goal.returns-in-Some-first_failing-clause-first
returns-in-Some-first_failing-clause-first c = λ d own stand.
    let everyone = c.in_ok-everyone.ensures ∙ ap (λ ns. ns ++ c.args.nodes.now) c.accepted.ensures in
    let all = members_at c.args.tree.now.nodes c.args.base.now.accepted ++ settled d in
    let tally = tally_of_all c.args.tree.now.nodes (c.args.base.now.accepted ++ c.args.nodes.now) c.deref.result.now c.deref.result.now (c.deref.ensures.value ∙ everyone) (c.deref.ensures.value ∙ everyone) all stand
    c.counts_at.result c.counts_at.ensures in
    let found = c.in-Some-first_failing.first in
    let first = subst (λ (s : Settings). IsFirstWithout (CoversOn c.args.platform.now s) (IsFirstUncovered found.field c.args.platform.now s) (members_at c.args.tree.now.nodes c.args.nodes.now) (path_of c.args.tree.now.nodes found.node))
    c.settings-settings.ensures c.in-Some-first_failing.ensures.first in (
      subst (λ (s : Settings). IsCounted (counts_asked (participants all)) s.count) c.settings-settings.ensures (c.in_default.ensures.suits (counts_asked (participants all)) tally),
      subst (IsFirstWithout (CoversOn c.args.platform.now c.args.base.now.settings) (IsFirstUncovered found.field c.args.platform.now c.args.base.now.settings) (settled d)) (sym c.in_ok-path-in-Some-first_failing.ensures.path)
          (first_of_all (CoversOn c.args.platform.now c.args.base.now.settings) (IsFirstUncovered found.field c.args.platform.now c.args.base.now.settings) (members_at c.args.tree.now.nodes c.args.nodes.now) (settled d)
          (path_of c.args.tree.now.nodes found.node) own first),
    )

pub returns-in-Some-first_failing-clause-conflict : goal.returns-in-Some-first_failing-clause-conflict
returns-in-Some-first_failing-clause-conflict c = λ d own stand.
    failing_found c.args.tree.now.nodes c.args.platform.now c.args.base.now.settings c.args.nodes.now d c.in-Some-first_failing.first.field c.in-Some-first_failing.first.node _ own
    c.in-Some-first_failing.ensures.there c.in_ok-path-in-Some-first_failing.ensures.path
    (subst (λ (s : Settings). Any (FailsOn c.in-Some-first_failing.first.field c.args.platform.now s) (participants (members_at c.args.tree.now.nodes (c.in-Some-first_failing.first.node ∷ []))))
    c.settings-settings.ensures c.in-Some-first_failing.ensures.failed)

pub returns-clause-none : goal.returns-clause-none
returns-clause-none c = λ d own stand.
    let everyone = c.in_ok-everyone.ensures ∙ ap (λ ns. ns ++ c.args.nodes.now) c.accepted.ensures in
    let all = members_at c.args.tree.now.nodes c.args.base.now.accepted ++ settled d in
    fixed_met c.args.platform.now (terms_of c.args.tree.now.nodes c.args.base.now) d
    (subst (All (CoversOn c.args.platform.now c.args.base.now.settings)) own.same
    (subst (λ (s : Settings). All (CoversOn c.args.platform.now s) (participants (members_at c.args.tree.now.nodes c.args.nodes.now))) c.settings-settings.ensures c.in-None.ensures.covered))
    (subst (λ (s : Settings). IsCounted (counts_asked (participants all)) s.count) c.settings-settings.ensures
    (c.in_default.ensures.suits (counts_asked (participants all)) (tally_of_all c.args.tree.now.nodes (c.args.base.now.accepted ++ c.args.nodes.now) c.deref.result.now c.deref.result.now (c.deref.ensures.value ∙ everyone)
    (c.deref.ensures.value ∙ everyone) all stand c.counts_at.result c.counts_at.ensures)))
