-- Each choice before this one is refuted.
use Rattle.std.proofs.Common.{◌≡◌, [], ◌∷◌, ◌++◌, ◌+◌, refl, sym, ◌∙◌, ap, subst, arith}
use Rattle.std.specs.Prelude.{IfSome}
use Rattle.verdict_claims.specs.Matter.{forest}
use Rattle.verdict_claims.specs.Verdict.{IsForestUnmet}
use Rattle.search_questions.specs.Question.{MeetsOf}
use Rattle.sysmem_search.specs.Refuting.{AddsRefutation, RefutesFirst}
use Rattle.search_questions.specs.Standing.{Standing}
use Rattle.search_questions.proofs.CallerLemmas.{entered_at, long_push, pushed_prefix}
use Rattle.sysmem_search.proofs.Refuted.{has_children, none_refuted, earlier_choice_unmet, choice_refuted}
use Rattle.sysmem_tree.specs.Selection.{IsPrefix, after}
use Rattle.sysmem_search.proofs.refuting.refute_before.Goals as goal

pub loop-earlier-init : goal.loop-earlier-init
loop-earlier-init c =
    let q = c.args.question.now in
    let there = has_children q.matter q.choices c.args.choice c.requires.prefix in
    record {
      same = refl;
      refuted = subst (λ rs. IfSome (after (forest q.matter) q.choices) (λ d. RefutesFirst q.matter d 0 rs)) (sym c.new-refutations.ensures.items) (none_refuted q.matter (after (forest q.matter) q.choices) there.many there.number);
    }

pub enter-requires-clause-prefix : goal.enter-requires-clause-prefix
enter-requires-clause-prefix c =
    let q = c.args.question.now in
    let there = has_children q.matter q.choices c.args.choice c.requires.prefix in
    subst (λ (s : Standing). IsPrefix (forest s.matter) (s.choices ++ c.loop-earlier.earlier ∷ [])) (sym c.loop-earlier.invariant.same)
    (pushed_prefix q.matter q.choices (q.choices ++ c.loop-earlier.earlier ∷ []) c.loop-earlier.earlier there.many 0 there.prefix (omega (arith, c.loop-earlier-test.true, there.less)) refl there.number)

pub refute_from-requires-clause-prefix : goal.refute_from-requires-clause-prefix
refute_from-requires-clause-prefix c =
    let q = c.args.question.now in
    let there = has_children q.matter q.choices c.args.choice c.requires.prefix in
    let (matter_is, is) = entered_at c.enter.new.self c.loop-earlier.question q c.loop-earlier.earlier c.in_ok-enter.ensures c.loop-earlier.invariant.same in
    subst (λ x. IsPrefix (forest x) c.enter.new.self.choices) (sym matter_is)
    (pushed_prefix q.matter q.choices c.enter.new.self.choices c.loop-earlier.earlier there.many 0 there.prefix (omega (arith, c.loop-earlier-test.true, there.less)) is there.number)

pub refute_from-requires-clause-room : goal.refute_from-requires-clause-room
refute_from-requires-clause-room c =
    let q = c.args.question.now in
    let (matter_is, is) = entered_at c.enter.new.self c.loop-earlier.question q c.loop-earlier.earlier c.in_ok-enter.ensures c.loop-earlier.invariant.same in
    let long = long_push q.choices c.enter.new.self.choices c.loop-earlier.earlier is in omega (arith, long, c.requires.room)

pub refute_from-requires-clause-unmet : goal.refute_from-requires-clause-unmet
refute_from-requires-clause-unmet c =
    let q = c.args.question.now in
    let there = has_children q.matter q.choices c.args.choice c.requires.prefix in
    let (matter_is, is) = entered_at c.enter.new.self c.loop-earlier.question q c.loop-earlier.earlier c.in_ok-enter.ensures c.loop-earlier.invariant.same in
    subst (λ x. IfSome (after (forest x) c.enter.new.self.choices) (λ d. IsForestUnmet (MeetsOf x) d)) (sym matter_is)
    (earlier_choice_unmet q.matter q.choices c.enter.new.self.choices c.loop-earlier.earlier there.many there.prefix (omega (arith, c.loop-earlier-test.true, there.less)) is there.number c.args.choice
    c.loop-earlier-test.true c.requires.unmet)

pub loop-earlier-preserved : goal.loop-earlier-preserved
loop-earlier-preserved c =
    let q = c.args.question.now in
    let there = has_children q.matter q.choices c.args.choice c.requires.prefix in
    let (matter_is, is) = entered_at c.enter.new.self c.loop-earlier.question q c.loop-earlier.earlier c.in_ok-enter.ensures c.loop-earlier.invariant.same in
    let back = c.in_ok-refute_from.ensures.same in
    record {
      same = c.leave.ensures q.choices c.loop-earlier.earlier (ap (λ (s : Standing). s.choices) back ∙ is) ∙ ap (λ x. record { matter = x; choices = q.choices }) (ap (λ (s : Standing). s.matter) back ∙ matter_is);
      refuted = subst (λ rs. IfSome (after (forest q.matter) q.choices) (λ d. RefutesFirst q.matter d (c.loop-earlier.earlier + 1) rs)) (sym c.in_ok-push.ensures.items)
          (choice_refuted q.matter q.choices c.enter.new.self.choices c.loop-earlier.earlier there.many there.prefix (omega (arith, c.loop-earlier-test.true, there.less)) is there.number
          c.loop-earlier.refutations.items c.new-items.result.items c.refute_from.new.items.items c.new.result c.new-items.ensures.items c.new.ensures c.loop-earlier.invariant.refuted
          (subst (λ x. IfSome (after (forest x) c.enter.new.self.choices) (λ d. AddsRefutation x d c.new-items.result.items c.refute_from.new.items.items)) matter_is c.in_ok-refute_from.ensures.refuted));
    }

pub returns-clause-refuted : goal.returns-clause-refuted
returns-clause-refuted c =
    let q = c.args.question.now in
    let all : c.loop-earlier.earlier ≡ c.args.choice = omega (arith, c.loop-earlier-test.false, c.loop-earlier.auto.earlier-end) in
    subst (λ rs. IfSome (after (forest q.matter) q.choices) (λ d. RefutesFirst q.matter d c.args.choice rs)) (sym c.new-2.ensures)
    (subst (λ k. IfSome (after (forest q.matter) q.choices) (λ d. RefutesFirst q.matter d k c.loop-earlier.refutations.items)) all c.loop-earlier.invariant.refuted)
