-- Where no group is open behind a choice, the choices with it are a selection.
use Rattle.std.proofs.Common.{◌≡◌, ◌∷◌, ◌++◌, [], Bool, true, not, Option, Some, None, length, is_some, refl, sym, subst}
use Rattle.std.specs.Prelude.{IfSome, option_map}
use Rattle.verdict_claims.specs.Matter.{forest}
use Rattle.search_questions.specs.Standing.{numbers}
use Rattle.search_questions.proofs.AskedMembers.{root_there, children_told}
use Rattle.search_questions.proofs.Entering.{level_at, none_next}
use Rattle.search_questions.proofs.Shapes.{prefix_of_numbers}
use Rattle.sysmem_tree.specs.Forest.{choices}
use Rattle.sysmem_tree.specs.OpenGroups.{IsFirstOpen}
use Rattle.sysmem_tree.specs.Selection.{IsPrefix, after}
use Rattle.search_questions.proofs.question.Question.is_last.Goals as goal

none_told : {X : Type 0} (o : Option X) (t : Bool) → is_some o ≡ not t → t ≡ true → o ≡ None
none_told None t is yes' = refl
none_told (Some x) t is yes' = absurd (cc)

pub child_at-child-requires : goal.child_at-child-requires
child_at-child-requires c =
    let m = c.self.inside.subject.now in
    let cs = c.self.inside.prefix in
    let level = level_at m c.self.inside.layout c.self.inside.parts.items c.self.inside.levels.items c.choices.result.now cs c.index.result.now c.choices.ensures c.self.invariant.0 c.index.ensures in
    let shape_prefix = subst (λ s. IsPrefix (forest s.matter) (s.choices ++ c.args.choice ∷ [])) (sym c.self.view_is) c.requires in
    let prefix = prefix_of_numbers m.nodes m.domain (cs ++ c.args.choice ∷ []) shape_prefix in
    let first = subst (IsFirstOpen c.self.inside.layout (numbers m) cs) c.in-Some.is level.group in
    (numbers m, cs, first, prefix)

pub open_after-requires : goal.open_after-requires
open_after-requires c =
    let m = c.self.inside.subject.now in
    let cs = c.self.inside.prefix in
    let level = level_at m c.self.inside.layout c.self.inside.parts.items c.self.inside.levels.items c.choices.result.now cs c.index.result.now c.choices.ensures c.self.invariant.0 c.index.ensures in
    let shape_prefix = subst (λ s. IsPrefix (forest s.matter) (s.choices ++ c.args.choice ∷ [])) (sym c.self.view_is) c.requires in
    let prefix = prefix_of_numbers m.nodes m.domain (cs ++ c.args.choice ∷ []) shape_prefix in
    let first = subst (IsFirstOpen c.self.inside.layout (numbers m) cs) c.in-Some.is level.group in
    (numbers m, cs, c.args.choice, c.child_at-child.ensures.child (numbers m) cs first prefix)

pub returns : goal.returns
returns c = λ last.
    let m = c.self.inside.subject.now in
    let cs = c.self.inside.prefix in
    let level = level_at m c.self.inside.layout c.self.inside.parts.items c.self.inside.levels.items c.choices.result.now cs c.index.result.now c.choices.ensures c.self.invariant.0 c.index.ensures in
    let shape_prefix = subst (λ s. IsPrefix (forest s.matter) (s.choices ++ c.args.choice ∷ [])) (sym c.self.view_is) c.requires in
    let prefix = prefix_of_numbers m.nodes m.domain (cs ++ c.args.choice ∷ []) shape_prefix in
    let first = subst (IsFirstOpen c.self.inside.layout (numbers m) cs) c.in-Some.is level.group in
    let open' = c.open_after.ensures (numbers m) cs c.args.choice (c.child_at-child.ensures.child (numbers m) cs first prefix) in
    let none = subst (IsFirstOpen c.self.inside.layout (numbers m) (cs ++ c.args.choice ∷ [])) (none_told c.open_after.result c.is_none.result c.is_none.ensures last) open' in
    subst (λ s. IfSome (after (forest s.matter) (s.choices ++ c.args.choice ∷ [])) (λ d. option_map length (choices d) ≡ None)) c.self.view_is
    (children_told m.nodes m.domain (cs ++ c.args.choice ∷ []) c.self.invariant.0.given.tree (root_there m.nodes m.domain c.self.invariant.0.given.domain) shape_prefix None
    (none_next c.self.inside.layout (numbers m) (cs ++ c.args.choice ∷ []) c.none_open_is_selection.ensures none))
