-- One choice after the other.
use Rattle.std.proofs.Common.{◌≡◌, ◌+◌, None, slice_get, refl, sym, ◌∙◌, ap, subst, arith}
use Rattle.std.specs.Prelude.{IsSomeAnd}
use Rattle.std.specs.Option.{option_or}
use Rattle.std.proofs.lemmas.List.{drop_more}
use Rattle.std.proofs.lemmas.Option.{same_Some, none-some, slice_get_within}
use Rattle.sysmem_tree.specs.declared.layout.LayoutPlace.{LayoutPlace}
use Rattle.sysmem_tree.specs.Forest.{each}
use Rattle.sysmem_tree.specs.Layout.{first_place}
use Rattle.sysmem_tree.specs.Prefix.{AreAlternatives}
use Rattle.sysmem_tree.specs.Selection.{after}
use Rattle.sysmem_tree.proofs.layout.Layout.group_after.Goals as goal
use Rattle.sysmem_tree.proofs.selections.Chosen.{all_open}
use Rattle.sysmem_tree.proofs.layouts.Walks.{begins, on_choice, at_end, if_some, next_there}

pub loop-choice-init : goal.loop-choice-init
loop-choice-init c = λ d laid h. (laid.spots, refl, all_open c.args.self.now.places laid.spots 128 None laid.laid (omega arith), begins c.args.self.now d _ laid)

pub returns-in_err-group : goal.returns-in_err-group
returns-in_err-group c =
    let (d, laid, h) = c.requires in
    let (e, goes, o, is) = c.loop-choice.invariant d laid h in
    let more = drop_more c.args.choices.now c.loop-choice.choice-index 0 c.loop-choice-test.true in
    let (at, there, on) = on_choice c.args.self.now.places laid.spots e c.args.choices.now _ _ c.loop-choice.group h (goes ∙ ap (after e) more) o is in
    absurd (none-some at (sym c.in_err-group.was ∙ there))

pub child-requires : goal.child-requires
child-requires c =
    let (d, laid, h) = c.requires in
    let (e, goes, o, is) = c.loop-choice.invariant d laid h in
    let more = drop_more c.args.choices.now c.loop-choice.choice-index 0 c.loop-choice-test.true in
    let (at, there, on) = on_choice c.args.self.now.places laid.spots e c.args.choices.now _ _ c.loop-choice.group h (goes ∙ ap (after e) more) o is in
    let same : at ≡ c.in_ok-group.field-0 = same_Some at c.in_ok-group.field-0 (sym there ∙ c.in_ok-group.was) in
    (on.kids, subst (λ x. AreAlternatives c.args.self.now.places (x + 1) on.kids) same on.alternatives, slice_get_within (each on.kids) _ on.kid on.is_kid)

pub loop-choice-preserved : goal.loop-choice-preserved
loop-choice-preserved c = λ d laid h.
    let (e, goes, o, is) = c.loop-choice.invariant d laid h in
    let more = drop_more c.args.choices.now c.loop-choice.choice-index 0 c.loop-choice-test.true in
    let (at, there, on) = on_choice c.args.self.now.places laid.spots e c.args.choices.now _ _ c.loop-choice.group h (goes ∙ ap (after e) more) o is in
    let same : at ≡ c.in_ok-group.field-0 = same_Some at c.in_ok-group.field-0 (sym there ∙ c.in_ok-group.was) in
    let child = c.child.ensures.place on.kids on.kid (subst (λ x. AreAlternatives c.args.self.now.places (x + 1) on.kids) same on.alternatives) on.is_kid in (
      on.left,
      on.goes,
      on.open_left,
      next_there c.args.self.now.places c.child.result _ (first_place on.left)
          (subst (λ x. IsSomeAnd (slice_get c.args.self.now.places x) (λ (p : LayoutPlace). p.next ≡ option_or (first_place on.left) None)) child on.next),
    )

pub returns : goal.returns
returns c = λ d laid. if_some (after laid.spots c.args.choices.now) _ (λ h.
    let (e, goes, o, is) = c.loop-choice.invariant d laid h in
    at_end c.args.self.now.places laid.spots e c.args.choices.now c.loop-choice.choice-index c.loop-choice.group (omega (arith, c.loop-choice-test.false)) goes o is)
