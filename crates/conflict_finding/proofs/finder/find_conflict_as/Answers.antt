-- What is found of an initial domain, or on the base of an attached one.
use Rattle.std.proofs.Common.{◌≡◌, [], Option, Some, sym, ap, subst}
use Rattle.std.specs.Prelude.{IfNone, IfOk, IfSome, option_map}
use Rattle.sysmem_merge.specs.declared.settings.Settings.{Settings}
use Rattle.sysmem_tree.specs.Selection.{IsPrefix, after}
use Rattle.sysmem_tree.specs.Shape.{shape_of}
use Rattle.verdict_claims.specs.Base.{BaseFacts, IsElsewhere, terms_of}
use Rattle.verdict_claims.specs.Conflict.{IsConflictFor}
use Rattle.verdict_claims.specs.FirstConflict.{IsFirstConflictFor}
use Rattle.verdict_claims.specs.Matter.{Matter, forest, terms}
use Rattle.verdict_claims.specs.Verdict.{MeetsSettled}
use Rattle.conflict_finding.proofs.FoundNodes.{found_at, is_base, led, no_nodes}
use Rattle.verdict_claims.proofs.SettledNodes.{no_pairs}
use Rattle.conflict_finding.proofs.finder.find_conflict_as.Goals as goal

pub settled_at-requires-clause-prefix : goal.settled_at-requires-clause-prefix
settled_at-requires-clause-prefix c = subst (λ (m : Matter). IsPrefix (forest m) c.args.prefix.now) (sym c.subject.view_is) c.requires.prefix

pub find_on_base-requires-clause-there : goal.find_on_base-requires-clause-there
find_on_base-requires-clause-there c =
    let base = is_base _ c.subject.inside.base c.in-Some.base c.subject.inside.platform.now c.subject.inside.tree.now.nodes c.subject.inside.domain c.in-Some.is c.subject.invariant.base in
    let on = led (after (shape_of c.subject.inside.tree.now.nodes c.subject.inside.domain) c.args.prefix.now) (subst (λ (m : Matter). IsPrefix (forest m) c.args.prefix.now) (sym c.subject.view_is) c.requires.prefix) in
    (found_at c.subject.inside.tree.now.nodes on.0 c.in-Some.base.now.accepted c.in_ok-nodes.nodes.items c.deref.result.now c.deref.ensures.value
    (c.in_ok-nodes.ensures on.0 c.in-Some.base.now.accepted on.1 base.elsewhere base.once)).there

pub find_on_base-requires-clause-few : goal.find_on_base-requires-clause-few
find_on_base-requires-clause-few c =
    let base = is_base _ c.subject.inside.base c.in-Some.base c.subject.inside.platform.now c.subject.inside.tree.now.nodes c.subject.inside.domain c.in-Some.is c.subject.invariant.base in
    let on = led (after (shape_of c.subject.inside.tree.now.nodes c.subject.inside.domain) c.args.prefix.now) (subst (λ (m : Matter). IsPrefix (forest m) c.args.prefix.now) (sym c.subject.view_is) c.requires.prefix) in
    (found_at c.subject.inside.tree.now.nodes on.0 c.in-Some.base.now.accepted c.in_ok-nodes.nodes.items c.deref.result.now c.deref.ensures.value
    (c.in_ok-nodes.ensures on.0 c.in-Some.base.now.accepted on.1 base.elsewhere base.once)).few

pub returns-in-Some-clause-conflict : goal.returns-in-Some-clause-conflict
returns-in-Some-clause-conflict c = λ d goes.
    let leads = subst (λ (m : Matter). after (forest m) c.args.prefix.now ≡ Some d) (sym c.subject.view_is) goes in
    let base = is_base _ c.subject.inside.base c.in-Some.base c.subject.inside.platform.now c.subject.inside.tree.now.nodes c.subject.inside.domain c.in-Some.is c.subject.invariant.base in
    let all = found_at c.subject.inside.tree.now.nodes d c.in-Some.base.now.accepted c.in_ok-nodes.nodes.items c.deref.result.now c.deref.ensures.value
    (c.in_ok-nodes.ensures d c.in-Some.base.now.accepted leads base.elsewhere base.once) in
    let own = found_at c.subject.inside.tree.now.nodes d [] c.in_ok-nodes.nodes.items c.deref.result.now c.deref.ensures.value
    (c.in_ok-nodes.ensures d [] leads (no_nodes (IsElsewhere c.subject.inside.tree.now.nodes c.subject.inside.domain)) no_pairs) in
    subst (λ (m : Matter). IfOk c.find_on_base.result (λ found. IfSome found (IsConflictFor m.platform (terms m) d))) c.subject.view_is
    (subst (λ (o : Option BaseFacts). IfOk c.find_on_base.result (λ found. IfSome found (IsConflictFor c.subject.inside.platform.now (option_map (terms_of c.subject.inside.tree.now.nodes) o) d)))
    (sym (ap (option_map (λ b. b.now)) c.in-Some.is)) (c.find_on_base.ensures.conflict d own.stand all.stand))

pub returns-in-Some-clause-first : goal.returns-in-Some-clause-first
returns-in-Some-clause-first c = λ d goes.
    let leads = subst (λ (m : Matter). after (forest m) c.args.prefix.now ≡ Some d) (sym c.subject.view_is) goes in
    let base = is_base _ c.subject.inside.base c.in-Some.base c.subject.inside.platform.now c.subject.inside.tree.now.nodes c.subject.inside.domain c.in-Some.is c.subject.invariant.base in
    let all = found_at c.subject.inside.tree.now.nodes d c.in-Some.base.now.accepted c.in_ok-nodes.nodes.items c.deref.result.now c.deref.ensures.value
    (c.in_ok-nodes.ensures d c.in-Some.base.now.accepted leads base.elsewhere base.once) in
    let own = found_at c.subject.inside.tree.now.nodes d [] c.in_ok-nodes.nodes.items c.deref.result.now c.deref.ensures.value
    (c.in_ok-nodes.ensures d [] leads (no_nodes (IsElsewhere c.subject.inside.tree.now.nodes c.subject.inside.domain)) no_pairs) in
    subst (λ (m : Matter). IfOk c.find_on_base.result (λ found. IfSome found (IsFirstConflictFor m.platform (terms m) d))) c.subject.view_is
    (subst (λ (o : Option BaseFacts). IfOk c.find_on_base.result (λ found. IfSome found (IsFirstConflictFor c.subject.inside.platform.now (option_map (terms_of c.subject.inside.tree.now.nodes) o) d)))
    (sym (ap (option_map (λ b. b.now)) c.in-Some.is)) (c.find_on_base.ensures.first d own.stand all.stand))

pub returns-in-Some-clause-none : goal.returns-in-Some-clause-none
returns-in-Some-clause-none c = λ d goes.
    let leads = subst (λ (m : Matter). after (forest m) c.args.prefix.now ≡ Some d) (sym c.subject.view_is) goes in
    let base = is_base _ c.subject.inside.base c.in-Some.base c.subject.inside.platform.now c.subject.inside.tree.now.nodes c.subject.inside.domain c.in-Some.is c.subject.invariant.base in
    let all = found_at c.subject.inside.tree.now.nodes d c.in-Some.base.now.accepted c.in_ok-nodes.nodes.items c.deref.result.now c.deref.ensures.value
    (c.in_ok-nodes.ensures d c.in-Some.base.now.accepted leads base.elsewhere base.once) in
    let own = found_at c.subject.inside.tree.now.nodes d [] c.in_ok-nodes.nodes.items c.deref.result.now c.deref.ensures.value
    (c.in_ok-nodes.ensures d [] leads (no_nodes (IsElsewhere c.subject.inside.tree.now.nodes c.subject.inside.domain)) no_pairs) in
    subst (λ (m : Matter). IfOk c.find_on_base.result (λ found. IfNone found ((t : Settings) × MeetsSettled m.platform (terms m) d t))) c.subject.view_is
    (subst (λ (o : Option BaseFacts). IfOk c.find_on_base.result (λ found. IfNone found ((t : Settings) × MeetsSettled c.subject.inside.platform.now (option_map (terms_of c.subject.inside.tree.now.nodes) o) d t)))
    (sym (ap (option_map (λ b. b.now)) c.in-Some.is)) (c.find_on_base.ensures.none d own.stand all.stand))

pub find_initial-requires-clause-there : goal.find_initial-requires-clause-there
find_initial-requires-clause-there c =
    let on = led (after (shape_of c.subject.inside.tree.now.nodes c.subject.inside.domain) c.args.prefix.now) (subst (λ (m : Matter). IsPrefix (forest m) c.args.prefix.now) (sym c.subject.view_is) c.requires.prefix) in
    (found_at c.subject.inside.tree.now.nodes on.0 [] c.in_ok-nodes.nodes.items c.deref-in-None.result.now c.deref-in-None.ensures.value
    (c.in_ok-nodes.ensures on.0 [] on.1 (no_nodes (IsElsewhere c.subject.inside.tree.now.nodes c.subject.inside.domain)) no_pairs)).there

pub find_initial-requires-clause-few : goal.find_initial-requires-clause-few
find_initial-requires-clause-few c =
    let on = led (after (shape_of c.subject.inside.tree.now.nodes c.subject.inside.domain) c.args.prefix.now) (subst (λ (m : Matter). IsPrefix (forest m) c.args.prefix.now) (sym c.subject.view_is) c.requires.prefix) in
    (found_at c.subject.inside.tree.now.nodes on.0 [] c.in_ok-nodes.nodes.items c.deref-in-None.result.now c.deref-in-None.ensures.value
    (c.in_ok-nodes.ensures on.0 [] on.1 (no_nodes (IsElsewhere c.subject.inside.tree.now.nodes c.subject.inside.domain)) no_pairs)).few

pub returns-clause-conflict : goal.returns-clause-conflict
returns-clause-conflict c = λ d goes.
    let leads = subst (λ (m : Matter). after (forest m) c.args.prefix.now ≡ Some d) (sym c.subject.view_is) goes in
    let own = found_at c.subject.inside.tree.now.nodes d [] c.in_ok-nodes.nodes.items c.deref-in-None.result.now c.deref-in-None.ensures.value
    (c.in_ok-nodes.ensures d [] leads (no_nodes (IsElsewhere c.subject.inside.tree.now.nodes c.subject.inside.domain)) no_pairs) in
    let whole = c.requires.whole d goes in
    subst (λ (m : Matter). IfOk c.find_initial.result (λ found. IfSome found (IsConflictFor m.platform (terms m) d))) c.subject.view_is
    (subst (λ (o : Option BaseFacts). IfOk c.find_initial.result (λ found. IfSome found (IsConflictFor c.subject.inside.platform.now (option_map (terms_of c.subject.inside.tree.now.nodes) o) d)))
    (sym (ap (option_map (λ b. b.now)) c.in-None.is)) (c.find_initial.ensures.conflict d own.stand whole))

pub returns-clause-first : goal.returns-clause-first
returns-clause-first c = λ d goes.
    let leads = subst (λ (m : Matter). after (forest m) c.args.prefix.now ≡ Some d) (sym c.subject.view_is) goes in
    let own = found_at c.subject.inside.tree.now.nodes d [] c.in_ok-nodes.nodes.items c.deref-in-None.result.now c.deref-in-None.ensures.value
    (c.in_ok-nodes.ensures d [] leads (no_nodes (IsElsewhere c.subject.inside.tree.now.nodes c.subject.inside.domain)) no_pairs) in
    let whole = c.requires.whole d goes in
    subst (λ (m : Matter). IfOk c.find_initial.result (λ found. IfSome found (IsFirstConflictFor m.platform (terms m) d))) c.subject.view_is
    (subst (λ (o : Option BaseFacts). IfOk c.find_initial.result (λ found. IfSome found (IsFirstConflictFor c.subject.inside.platform.now (option_map (terms_of c.subject.inside.tree.now.nodes) o) d)))
    (sym (ap (option_map (λ b. b.now)) c.in-None.is)) (c.find_initial.ensures.first d own.stand whole))

pub returns-clause-none : goal.returns-clause-none
returns-clause-none c = λ d goes.
    let leads = subst (λ (m : Matter). after (forest m) c.args.prefix.now ≡ Some d) (sym c.subject.view_is) goes in
    let own = found_at c.subject.inside.tree.now.nodes d [] c.in_ok-nodes.nodes.items c.deref-in-None.result.now c.deref-in-None.ensures.value
    (c.in_ok-nodes.ensures d [] leads (no_nodes (IsElsewhere c.subject.inside.tree.now.nodes c.subject.inside.domain)) no_pairs) in
    let whole = c.requires.whole d goes in
    subst (λ (m : Matter). IfOk c.find_initial.result (λ found. IfNone found ((t : Settings) × MeetsSettled m.platform (terms m) d t))) c.subject.view_is
    (subst (λ (o : Option BaseFacts). IfOk c.find_initial.result (λ found. IfNone found ((t : Settings) × MeetsSettled c.subject.inside.platform.now (option_map (terms_of c.subject.inside.tree.now.nodes) o) d t)))
    (sym (ap (option_map (λ b. b.now)) c.in-None.is)) (c.find_initial.ensures.none d own.stand whole))
