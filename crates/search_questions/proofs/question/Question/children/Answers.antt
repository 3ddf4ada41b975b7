-- The first open group where the question stands is that of the shape.
use Rattle.std.proofs.Common.{◌≡◌, ◌<◌, None, Some, length, sym, subst, arith}
use Rattle.std.specs.Prelude.{IfSome, option_map}
use Rattle.verdict_claims.specs.Matter.{forest}
use Rattle.search_questions.specs.Standing.{numbers}
use Rattle.search_questions.proofs.AskedMembers.{root_there, children_told, few_told}
use Rattle.search_questions.proofs.Entering.{level_at, none_next}
use Rattle.sysmem_tree.specs.Forest.{choices}
use Rattle.sysmem_tree.specs.OpenGroups.{IsFirstOpen}
use Rattle.sysmem_tree.specs.Selection.{IsPrefix, after}
use Rattle.search_questions.proofs.question.Question.children.Goals as goal

pub group_at-requires : goal.group_at-requires
group_at-requires c =
    let m = c.self.inside.subject.now in
    let cs = c.self.inside.prefix in
    let level = level_at m c.self.inside.layout c.self.inside.parts.items c.self.inside.levels.items c.choices.result.now cs c.index.result.now c.choices.ensures c.self.invariant.0 c.index.ensures in
    let first = subst (IsFirstOpen c.self.inside.layout (numbers m) cs) c.in-Some.is level.group in
    (numbers m, cs, first)

pub overflow_cast-result : goal.overflow_cast-result
overflow_cast-result c =
    let m = c.self.inside.subject.now in
    let cs = c.self.inside.prefix in
    let level = level_at m c.self.inside.layout c.self.inside.parts.items c.self.inside.levels.items c.choices.result.now cs c.index.result.now c.choices.ensures c.self.invariant.0 c.index.ensures in
    let first = subst (IsFirstOpen c.self.inside.layout (numbers m) cs) c.in-Some.is level.group in
    let prefix = subst (λ s. IsPrefix (forest s.matter) s.choices) (sym c.self.view_is) c.requires.prefix in
    let root = root_there m.nodes m.domain c.self.invariant.0.given.domain in
    let few = few_told m.nodes m.domain cs c.self.invariant.0.given.tree root prefix c.group_at.result.0 c.group_at.result.1 (c.group_at.ensures.group (numbers m) cs first) in
    omega (arith, few.1)

pub returns-in-Some-clause-number : goal.returns-in-Some-clause-number
returns-in-Some-clause-number c =
    let m = c.self.inside.subject.now in
    let cs = c.self.inside.prefix in
    let level = level_at m c.self.inside.layout c.self.inside.parts.items c.self.inside.levels.items c.choices.result.now cs c.index.result.now c.choices.ensures c.self.invariant.0 c.index.ensures in
    let first = subst (IsFirstOpen c.self.inside.layout (numbers m) cs) c.in-Some.is level.group in
    let prefix = subst (λ s. IsPrefix (forest s.matter) s.choices) (sym c.self.view_is) c.requires.prefix in
    let root = root_there m.nodes m.domain c.self.invariant.0.given.domain in
    subst (λ s. IfSome (after (forest s.matter) s.choices) (λ d. option_map length (choices d) ≡ Some c.group_at.result.1)) c.self.view_is
    (children_told m.nodes m.domain cs c.self.invariant.0.given.tree root prefix (Some c.group_at.result) (c.group_at.ensures.group (numbers m) cs first))

pub returns-in-Some-clause-room : goal.returns-in-Some-clause-room
returns-in-Some-clause-room c =
    let m = c.self.inside.subject.now in
    let cs = c.self.inside.prefix in
    let level = level_at m c.self.inside.layout c.self.inside.parts.items c.self.inside.levels.items c.choices.result.now cs c.index.result.now c.choices.ensures c.self.invariant.0 c.index.ensures in
    let first = subst (IsFirstOpen c.self.inside.layout (numbers m) cs) c.in-Some.is level.group in
    let prefix = subst (λ s. IsPrefix (forest s.matter) s.choices) (sym c.self.view_is) c.requires.prefix in
    let root = root_there m.nodes m.domain c.self.invariant.0.given.domain in
    let few = few_told m.nodes m.domain cs c.self.invariant.0.given.tree root prefix c.group_at.result.0 c.group_at.result.1 (c.group_at.ensures.group (numbers m) cs first) in
    subst (λ s. length s.choices < 128) c.self.view_is few.0

pub returns-in-Some-clause-few : goal.returns-in-Some-clause-few
returns-in-Some-clause-few c =
    let m = c.self.inside.subject.now in
    let cs = c.self.inside.prefix in
    let level = level_at m c.self.inside.layout c.self.inside.parts.items c.self.inside.levels.items c.choices.result.now cs c.index.result.now c.choices.ensures c.self.invariant.0 c.index.ensures in
    let first = subst (IsFirstOpen c.self.inside.layout (numbers m) cs) c.in-Some.is level.group in
    let prefix = subst (λ s. IsPrefix (forest s.matter) s.choices) (sym c.self.view_is) c.requires.prefix in
    let root = root_there m.nodes m.domain c.self.invariant.0.given.domain in
    let few = few_told m.nodes m.domain cs c.self.invariant.0.given.tree root prefix c.group_at.result.0 c.group_at.result.1 (c.group_at.ensures.group (numbers m) cs first) in
    few.1

pub returns-in-None-clause-number : goal.returns-in-None-clause-number
returns-in-None-clause-number c =
    let m = c.self.inside.subject.now in
    let cs = c.self.inside.prefix in
    let level = level_at m c.self.inside.layout c.self.inside.parts.items c.self.inside.levels.items c.choices.result.now cs c.index.result.now c.choices.ensures c.self.invariant.0 c.index.ensures in
    let none = subst (IsFirstOpen c.self.inside.layout (numbers m) cs) c.in-None.is level.group in
    let prefix = subst (λ s. IsPrefix (forest s.matter) s.choices) (sym c.self.view_is) c.requires.prefix in
    let root = root_there m.nodes m.domain c.self.invariant.0.given.domain in
    subst (λ s. IfSome (after (forest s.matter) s.choices) (λ d. option_map length (choices d) ≡ None)) c.self.view_is
    (children_told m.nodes m.domain cs c.self.invariant.0.given.tree root prefix None (none_next c.self.inside.layout (numbers m) cs c.none_open_is_selection.ensures none))
