-- One group more is gone by.
use Rattle.std.proofs.Common.{◌∷◌, ◌++◌, [], length, get_or, sym, ◌∙◌, ap, subst, arith}
use Rattle.std.specs.Prelude.{IfSome}
use Rattle.std.proofs.Math.ListN.{drop_of_length-le}
use Rattle.verdict_claims.specs.Matter.{forest}
use Rattle.verdict_claims.specs.Verdict.{IsUnmetBefore}
use Rattle.search_questions.specs.Question.{MeetsOf}
use Rattle.sysmem_search.specs.Refuting.{RefutesFirst}
use Rattle.search_questions.specs.Standing.{Standing}
use Rattle.sysmem_search.proofs.Refuted.{at_start, next_choice, room_on_way, went_on, way_begun, way_cut, way_ended, next_prefix, next_unmet, way_further}
use Rattle.sysmem_tree.specs.Selection.{IsPrefix, after}
use Rattle.sysmem_search.proofs.refuting.refute_earlier.Goals as goal

pub loop-choice-init : goal.loop-choice-init
loop-choice-init c = record {
  same = at_start c.args.question.now c.requires.start;
  way = way_begun c.args.question.now.matter c.args.selection.now c.new-earlier.result.items c.new-earlier.ensures.items c.requires.prefix c.requires.unmet;
}

pub refute_before-requires : goal.refute_before-requires
refute_before-requires c =
    let m = c.args.question.now.matter in
    let k = c.loop-choice.choice-index in
    let choice = get_or c.choices-choice-items.result.now k 0 in
    let same = c.loop-choice.invariant.same in
    let (begins, ends) = next_choice c.choices-choice-items.result.now c.args.selection.now k c.choices-choice-items.ensures c.loop-choice-test.true in
    record {
      room = room_on_way m c.loop-choice.question c.choices-choice-items.result.now c.args.selection.now k same c.choices-choice-items.ensures c.loop-choice-test.true c.requires.room;
      prefix = subst (λ (s : Standing). IsPrefix (forest s.matter) (s.choices ++ choice ∷ [])) (sym same)
          (next_prefix m c.args.selection.now k choice c.loop-choice.earlier.items c.loop-choice.invariant.way begins ends);
      unmet = subst (λ (s : Standing). IfSome (after (forest s.matter) s.choices) (λ d. IsUnmetBefore (MeetsOf s.matter) d (choice ∷ []))) (sym same)
          (next_unmet m c.args.selection.now k choice c.loop-choice.earlier.items c.loop-choice.invariant.way begins ends);
    }

pub enter-requires : goal.enter-requires
enter-requires c =
    let m = c.args.question.now.matter in
    let k = c.loop-choice.choice-index in
    let choice = get_or c.choices-choice-items.result.now k 0 in
    let same = c.in_ok-refute_before.ensures.same ∙ c.loop-choice.invariant.same in
    let (begins, ends) = next_choice c.choices-choice-items.result.now c.args.selection.now k c.choices-choice-items.ensures c.loop-choice-test.true in
    record {
      room = room_on_way m c.refute_before.new.question c.choices-choice-items.result.now c.args.selection.now k same c.choices-choice-items.ensures c.loop-choice-test.true c.requires.room;
      prefix = subst (λ (s : Standing). IsPrefix (forest s.matter) (s.choices ++ choice ∷ [])) (sym same)
          (next_prefix m c.args.selection.now k choice c.loop-choice.earlier.items c.loop-choice.invariant.way begins ends);
    }

pub loop-choice-preserved : goal.loop-choice-preserved
loop-choice-preserved c =
    let m = c.args.question.now.matter in
    let k = c.loop-choice.choice-index in
    let choice = get_or c.choices-choice-items.result.now k 0 in
    let same = c.loop-choice.invariant.same in
    let (begins, ends) = next_choice c.choices-choice-items.result.now c.args.selection.now k c.choices-choice-items.ensures c.loop-choice-test.true in
    record {
      same = went_on m c.enter.new.self c.refute_before.new.question choice _ _ c.in_ok-enter.ensures (c.in_ok-refute_before.ensures.same ∙ same) ends;
      way = way_further m c.args.selection.now k choice c.loop-choice.earlier.items c.loop-choice.invariant.way begins ends c.in_ok-refute_before.field-0 c.push.new.self.items c.in_ok-push.ensures.items
          (subst (λ (s : Standing). IfSome (after (forest s.matter) s.choices) (λ d. RefutesFirst s.matter d choice c.in_ok-refute_before.field-0)) same c.in_ok-refute_before.ensures.refuted);
    }

pub returns-clause-cut : goal.returns-clause-cut
returns-clause-cut c =
    let long = ap length c.choices-choice-items.ensures in
    way_cut c.args.question.now.matter c.args.selection.now c.loop-choice.choice-index c.loop-choice.earlier.items c.loop-choice.invariant.way
    (drop_of_length-le c.args.selection.now (omega (arith, c.loop-choice-test.false, long)))

pub returns-clause-refuted : goal.returns-clause-refuted
returns-clause-refuted c =
    let long = ap length c.choices-choice-items.ensures in
    way_ended c.args.question.now.matter c.args.selection.now c.loop-choice.choice-index c.loop-choice.earlier.items c.loop-choice.invariant.way
    (drop_of_length-le c.args.selection.now (omega (arith, c.loop-choice-test.false, long)))
