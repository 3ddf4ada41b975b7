-- One choice after the other marks what it settles.
use Rattle.std.proofs.Common.{◌≡◌, ◌+◌, ◌||◌, None, true, false, slice_get, get_or, refl, sym, ◌∙◌, ap, subst, arith}
use Rattle.std.specs.List.{list_any}
use Rattle.std.specs.Prelude.{IsSomeAnd}
use Rattle.std.specs.Option.{option_or}
use Rattle.std.proofs.lemmas.List.{drop_more}
use Rattle.std.proofs.lemmas.Option.{same_Some, none-some, slice_get_within}
use Rattle.sysmem_tree.specs.declared.layout.LayoutPlace.{LayoutPlace}
use Rattle.sysmem_tree.specs.Forest.{each, settled}
use Rattle.sysmem_tree.specs.Layout.{first_place}
use Rattle.sysmem_tree.specs.Prefix.{AreAlternatives}
use Rattle.sysmem_tree.specs.Selection.{after}
use Rattle.sysmem_tree.proofs.members.marks_after.Goals as goal
use Rattle.sysmem_tree.proofs.selections.Chosen.{all_open}
use Rattle.sysmem_tree.proofs.layouts.Marking.{nowhere, none_marked}
use Rattle.sysmem_tree.proofs.layouts.Settling.{is_at}
use Rattle.sysmem_tree.proofs.layouts.Walks.{alternative_laid, at_end_of, begins, on_choice, if_some, next_there}

pub loop-choice-init : goal.loop-choice-init
loop-choice-init c = λ d laid h.
    (laid.spots, refl, all_open c.args.layout.now.places laid.spots 128 None laid.laid (omega arith), begins c.args.layout.now d _ laid, λ k. c.mark.ensures laid.spots false None laid.laid laid.starts k ∙ ap (λ b. b || list_any (is_at k) (settled laid.spots)) (none_marked 128 k))

pub returns-in_default : goal.returns-in_default
returns-in_default c = λ d laid k. if_some (after laid.spots c.args.choices.now) _ (λ h.
    let (e, goes, o, is, marked) = c.loop-choice.invariant d laid h in
    let more = drop_more c.args.choices.now c.loop-choice.choice-index 0 c.loop-choice-test.true in
    let (at, there, on) = on_choice c.args.layout.now.places laid.spots e c.args.choices.now _ _ c.loop-choice.group h (goes ∙ ap (after e) more) o is in
    absurd (none-some at (sym c.in_default.is ∙ there)))

pub child-kid-requires : goal.child-kid-requires
child-kid-requires c =
    let (d, laid, h) = c.requires.prefix in
    let (e, goes, o, is, marked) = c.loop-choice.invariant d laid h in
    let more = drop_more c.args.choices.now c.loop-choice.choice-index 0 c.loop-choice-test.true in
    let (at, there, on) = on_choice c.args.layout.now.places laid.spots e c.args.choices.now _ _ c.loop-choice.group h (goes ∙ ap (after e) more) o is in
    let same : at ≡ c.in-Some.at = same_Some at c.in-Some.at (sym there ∙ c.in-Some.is) in
    let alternatives = subst (λ x. AreAlternatives c.args.layout.now.places (x + 1) on.kids) same on.alternatives in
    (on.kids, alternatives, slice_get_within (each on.kids) _ on.kid on.is_kid)

pub mark-requires-in-loop-choice-clause-laid : goal.mark-requires-in-loop-choice-clause-laid
mark-requires-in-loop-choice-clause-laid c =
    let (d, laid, h) = c.requires.prefix in
    let (e, goes, o, is, marked) = c.loop-choice.invariant d laid h in
    let more = drop_more c.args.choices.now c.loop-choice.choice-index 0 c.loop-choice-test.true in
    let (at, there, on) = on_choice c.args.layout.now.places laid.spots e c.args.choices.now _ _ c.loop-choice.group h (goes ∙ ap (after e) more) o is in
    let same : at ≡ c.in-Some.at = same_Some at c.in-Some.at (sym there ∙ c.in-Some.is) in
    let alternatives = subst (λ x. AreAlternatives c.args.layout.now.places (x + 1) on.kids) same on.alternatives in
    let child = c.child-kid.ensures.place on.kids on.kid alternatives on.is_kid in
    let (laid', from, small) = alternative_laid c.args.layout.now.places on.kids alternatives.to alternatives.next alternatives.laid alternatives.small _ on.kid on.is_kid c.child-kid.result child nowhere in
    (on.kid, true, alternatives.next, laid', from)

pub mark-requires-in-loop-choice-clause-to : goal.mark-requires-in-loop-choice-clause-to
mark-requires-in-loop-choice-clause-to c =
    let (d, laid, h) = c.requires.prefix in
    let (e, goes, o, is, marked) = c.loop-choice.invariant d laid h in
    let more = drop_more c.args.choices.now c.loop-choice.choice-index 0 c.loop-choice-test.true in
    let (at, there, on) = on_choice c.args.layout.now.places laid.spots e c.args.choices.now _ _ c.loop-choice.group h (goes ∙ ap (after e) more) o is in
    let same : at ≡ c.in-Some.at = same_Some at c.in-Some.at (sym there ∙ c.in-Some.is) in
    let alternatives = subst (λ x. AreAlternatives c.args.layout.now.places (x + 1) on.kids) same on.alternatives in
    let child = c.child-kid.ensures.place on.kids on.kid alternatives on.is_kid in
    let (laid', from, small) = alternative_laid c.args.layout.now.places on.kids alternatives.to alternatives.next alternatives.laid alternatives.small _ on.kid on.is_kid c.child-kid.result child nowhere in
    small

pub loop-choice-preserved : goal.loop-choice-preserved
loop-choice-preserved c = λ d laid h.
    let (e, goes, o, is, marked) = c.loop-choice.invariant d laid h in
    let more = drop_more c.args.choices.now c.loop-choice.choice-index 0 c.loop-choice-test.true in
    let (at, there, on) = on_choice c.args.layout.now.places laid.spots e c.args.choices.now _ _ c.loop-choice.group h (goes ∙ ap (after e) more) o is in
    let same : at ≡ c.in-Some.at = same_Some at c.in-Some.at (sym there ∙ c.in-Some.is) in
    let alternatives = subst (λ x. AreAlternatives c.args.layout.now.places (x + 1) on.kids) same on.alternatives in
    let child = c.child-kid.ensures.place on.kids on.kid alternatives on.is_kid in
    let (laid', from, small) = alternative_laid c.args.layout.now.places on.kids alternatives.to alternatives.next alternatives.laid alternatives.small _ on.kid on.is_kid c.child-kid.result child nowhere in (
      on.left,
      on.goes,
      on.open_left,
      next_there c.args.layout.now.places c.child-kid.result _ (first_place on.left)
          (subst (λ x. IsSomeAnd (slice_get c.args.layout.now.places x) (λ (p : LayoutPlace). p.next ≡ option_or (first_place on.left) None)) child on.next),
      λ k. c.mark-in-loop-choice.ensures on.kid true alternatives.next laid' from k
          ∙ (ap (λ b. b || list_any (is_at k) (settled on.kid)) (marked k) ∙ sym (on.adds (is_at k))),
    )

pub returns : goal.returns
returns c = λ d laid k. if_some (after laid.spots c.args.choices.now) _ (λ h.
    let (e, goes, o, is, marked) = c.loop-choice.invariant d laid h in
    at_end_of laid.spots e c.args.choices.now c.loop-choice.choice-index (λ e. get_or c.loop-choice.marks k false ≡ list_any (is_at k) (settled e)) (omega (arith, c.loop-choice-test.false)) goes (marked k))
