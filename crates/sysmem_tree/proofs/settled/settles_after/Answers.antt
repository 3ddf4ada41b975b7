-- One choice after the other adds what is settled below the child that it chose.
use Rattle.std.proofs.Common.{◌≡◌, ◌+◌, None, true, slice_get, refl, sym, ◌∙◌, ap, subst, arith}
use Rattle.std.specs.Prelude.{◌||◌, IsSomeAnd}
use Rattle.std.specs.List.{list_any}
use Rattle.std.specs.Option.{option_or}
use Rattle.std.proofs.lemmas.List.{drop_more}
use Rattle.std.proofs.lemmas.Option.{same_Some, none-some, slice_get_within}
use Rattle.sysmem_tree.specs.declared.layout.LayoutPlace.{LayoutPlace}
use Rattle.sysmem_tree.specs.Forest.{each, settled}
use Rattle.sysmem_tree.specs.Layout.{first_place}
use Rattle.sysmem_tree.specs.Prefix.{AreAlternatives}
use Rattle.sysmem_tree.specs.Selection.{after}
use Rattle.sysmem_tree.proofs.settled.settles_after.Goals as goal
use Rattle.sysmem_tree.proofs.settled.settles_after.Goals.{then-is_settled, else-is_settled}
use Rattle.sysmem_tree.proofs.selections.Chosen.{all_open}
use Rattle.sysmem_tree.proofs.layouts.Settling.{is_at}
use Rattle.sysmem_tree.proofs.layouts.Walks.{alternative_laid, begins, on_choice, at_end_of, if_some, next_there}

pub loop-choice-init : goal.loop-choice-init
loop-choice-init c = λ d laid h. (
  laid.spots,
  refl,
  all_open c.args.layout.now.places laid.spots 128 None laid.laid (omega arith),
  begins c.args.layout.now d _ laid,
  c.settles-is_settled.ensures laid.spots _ _ laid.laid laid.starts,
)

pub returns-in_default : goal.returns-in_default
returns-in_default c = λ d laid. if_some (after laid.spots c.args.choices.now) _ (λ h.
    let (e, goes, o, is, _) = c.loop-choice.invariant d laid h in
    let more = drop_more c.args.choices.now c.loop-choice.choice-index 0 c.loop-choice-test.true in
    let (at, there, on) = on_choice c.args.layout.now.places laid.spots e c.args.choices.now _ _ c.loop-choice.group h (goes ∙ ap (after e) more) o is in
    absurd (none-some at (sym c.in_default.is ∙ there)))

pub child-kid-requires : goal.child-kid-requires
child-kid-requires c =
    let (d, laid, h) = c.requires in
    let (e, goes, o, is, _) = c.loop-choice.invariant d laid h in
    let more = drop_more c.args.choices.now c.loop-choice.choice-index 0 c.loop-choice-test.true in
    let (at, there, on) = on_choice c.args.layout.now.places laid.spots e c.args.choices.now _ _ c.loop-choice.group h (goes ∙ ap (after e) more) o is in
    let same : at ≡ c.in-Some.at = same_Some at c.in-Some.at (sym there ∙ c.in-Some.is) in
    (on.kids, subst (λ x. AreAlternatives c.args.layout.now.places (x + 1) on.kids) same on.alternatives, slice_get_within (each on.kids) _ on.kid on.is_kid)

pub settles-is_settled-requires-else-is_settled-clause-laid : goal.settles-is_settled-requires-else-is_settled-clause-laid
settles-is_settled-requires-else-is_settled-clause-laid c =
    let (d, laid, h) = c.requires in
    let (e, goes, o, is, _) = c.loop-choice.invariant d laid h in
    let more = drop_more c.args.choices.now c.loop-choice.choice-index 0 c.loop-choice-test.true in
    let (at, there, on) = on_choice c.args.layout.now.places laid.spots e c.args.choices.now _ _ c.loop-choice.group h (goes ∙ ap (after e) more) o is in
    let same : at ≡ c.in-Some.at = same_Some at c.in-Some.at (sym there ∙ c.in-Some.is) in
    let child = c.child-kid.ensures.place on.kids on.kid (subst (λ x. AreAlternatives c.args.layout.now.places (x + 1) on.kids) same on.alternatives) on.is_kid in
    let (laid', from, small) = alternative_laid c.args.layout.now.places on.kids on.alternatives.to on.alternatives.next on.alternatives.laid on.alternatives.small _ on.kid on.is_kid c.child-kid.result child _ in
    (on.kid, true, on.alternatives.next, laid', from)

pub settles-is_settled-requires-else-is_settled-clause-to : goal.settles-is_settled-requires-else-is_settled-clause-to
settles-is_settled-requires-else-is_settled-clause-to c =
    let (d, laid, h) = c.requires in
    let (e, goes, o, is, _) = c.loop-choice.invariant d laid h in
    let more = drop_more c.args.choices.now c.loop-choice.choice-index 0 c.loop-choice-test.true in
    let (at, there, on) = on_choice c.args.layout.now.places laid.spots e c.args.choices.now _ _ c.loop-choice.group h (goes ∙ ap (after e) more) o is in
    let same : at ≡ c.in-Some.at = same_Some at c.in-Some.at (sym there ∙ c.in-Some.is) in
    let child = c.child-kid.ensures.place on.kids on.kid (subst (λ x. AreAlternatives c.args.layout.now.places (x + 1) on.kids) same on.alternatives) on.is_kid in
    let (laid', from, small) = alternative_laid c.args.layout.now.places on.kids on.alternatives.to on.alternatives.next on.alternatives.laid on.alternatives.small _ on.kid on.is_kid c.child-kid.result child _ in
    small

pub loop-choice-preserved : goal.loop-choice-preserved
loop-choice-preserved c = λ d laid h.
    let (e, goes, o, is, found) = c.loop-choice.invariant d laid h in
    let more = drop_more c.args.choices.now c.loop-choice.choice-index 0 c.loop-choice-test.true in
    let (at, there, on) = on_choice c.args.layout.now.places laid.spots e c.args.choices.now _ _ c.loop-choice.group h (goes ∙ ap (after e) more) o is in
    let same : at ≡ c.in-Some.at = same_Some at c.in-Some.at (sym there ∙ c.in-Some.is) in
    let child = c.child-kid.ensures.place on.kids on.kid (subst (λ x. AreAlternatives c.args.layout.now.places (x + 1) on.kids) same on.alternatives) on.is_kid in
    let next = next_there c.args.layout.now.places c.child-kid.result _ (first_place on.left)
    (subst (λ x. IsSomeAnd (slice_get c.args.layout.now.places x) (λ (p : LayoutPlace). p.next ≡ option_or (first_place on.left) None)) child on.next) in
    elim c.if-is_settled.branch [
      | then-is_settled w ↦ (
        on.left,
        on.goes,
        on.open_left,
        w.group-is ∙ next,
        w.is_settled-is ∙ (w.if-is_settled.true
            ∙ sym (on.adds (is_at c.args.node) ∙ ap (λ b. b || list_any (is_at c.args.node) (settled on.kid)) (sym found ∙ w.if-is_settled.true))),
      )
      | else-is_settled w ↦
          let (laid', from, _) = alternative_laid c.args.layout.now.places on.kids on.alternatives.to on.alternatives.next on.alternatives.laid on.alternatives.small _ on.kid on.is_kid c.child-kid.result child _ in (
            on.left,
            on.goes,
            on.open_left,
            w.group-is ∙ next,
            w.is_settled-is ∙ (w.settles-is_settled-else-is_settled.ensures on.kid true on.alternatives.next laid' from
                ∙ sym (on.adds (is_at c.args.node) ∙ ap (λ b. b || list_any (is_at c.args.node) (settled on.kid)) (sym found ∙ w.if-is_settled.false))),
          )
    ]

pub returns : goal.returns
returns c = λ d laid. if_some (after laid.spots c.args.choices.now) _ (λ h.
    let (e, goes, o, is, found) = c.loop-choice.invariant d laid h in
    at_end_of laid.spots e c.args.choices.now c.loop-choice.choice-index (λ x. c.loop-choice.is_settled ≡ list_any (is_at c.args.node) (settled x)) (omega (arith, c.loop-choice-test.false)) goes found)
