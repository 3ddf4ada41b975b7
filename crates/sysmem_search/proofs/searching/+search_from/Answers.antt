-- What was found at this prefix, by what was asked and found below it.
use Rattle.std.proofs.Common.{[], ◌∷◌, ◌++◌, Some, None, refl, sym, ◌∙◌, ap, subst, arith}
use Rattle.std.specs.Prelude.{IfSome}
use Rattle.verdict_claims.specs.Matter.{forest}
use Rattle.search_questions.specs.Searching.{IsFoundOf}
use Rattle.search_questions.specs.Standing.{Standing}
use Rattle.search_questions.proofs.CallerLemmas.{entered_at, found_here, found_cut, begun, long_push, pushed_prefix, found_below, some_best, none_best, unmet_below, same_below, all_below}
use Rattle.sysmem_tree.specs.Selection.{IsPrefix, after}
use Rattle.sysmem_search.proofs.searching.+search_from.Goals as goal

pub returns-in_default-clause-found : goal.returns-in_default-clause-found
returns-in_default-clause-found g t c =
    let q = c.args.question.now in
    let (best, is, asked) = c.has_best.ensures.best in (
      best,
      is,
      subst (λ (s : Standing). IfSome (after (forest q.matter) q.choices) (λ d. IsFoundOf q.matter d q.choices s.choices c.args.visits.now c.saturating_add.result best)) (sym c.has_best.ensures.same)
          (found_here q.matter (after (forest q.matter) q.choices) q.choices c.args.visits.now c.saturating_add.result best c.in_default.ensures.number c.saturating_add.ensures asked),
    )

pub returns-then-not-is_met-clause-found : goal.returns-then-not-is_met-clause-found
returns-then-not-is_met-clause-found g t c =
    let q = c.args.question.now in (
      None,
      refl,
      subst (λ (s : Standing). IfSome (after (forest q.matter) q.choices) (λ d. IsFoundOf q.matter d q.choices s.choices c.args.visits.now c.saturating_add.result None)) (sym c.is_met.ensures.same)
          (found_cut q.matter (after (forest q.matter) q.choices) q.choices c.args.visits.now c.saturating_add.result c.is_met.result
          c.cuts_lose_nothing.ensures c.if-not-is_met.true c.saturating_add.ensures c.is_met.ensures.met),
    )

pub loop-choice-init : goal.loop-choice-init
loop-choice-init g t c = record {
  same = c.is_met.ensures.same;
  gone = begun c.args.question.now.matter (after (forest c.args.question.now.matter) c.args.question.now.choices) c.in-Some.children _ _ c.in-Some.ensures.number c.saturating_add.ensures;
}

pub enter-requires-clause-prefix : goal.enter-requires-clause-prefix
enter-requires-clause-prefix g t c =
    let q = c.args.question.now in
    subst (λ (s : Standing). IsPrefix (forest s.matter) (s.choices ++ c.loop-choice.choice ∷ [])) (sym c.loop-choice.invariant.same)
    (pushed_prefix q.matter q.choices (q.choices ++ c.loop-choice.choice ∷ []) c.loop-choice.choice c.in-Some.children 0 c.requires.prefix c.loop-choice-test.true refl c.in-Some.ensures.number)

pub search_from-requires : goal.search_from-requires
search_from-requires g t c = λ κs out.
    let q = c.args.question.now in
    let (matter_is, is) = entered_at c.enter.new.self c.loop-choice.question q c.loop-choice.choice c.in_ok-enter.ensures c.loop-choice.invariant.same in
    let long = long_push q.choices c.enter.new.self.choices c.loop-choice.choice is in (
      omega (arith, c.decreases, long, c.in-Some.ensures.room),
      (
        out,
        (
          subst (λ x. IsPrefix (forest x) c.enter.new.self.choices) (sym matter_is)
              (pushed_prefix q.matter q.choices c.enter.new.self.choices c.loop-choice.choice c.in-Some.children 0 c.requires.prefix c.loop-choice-test.true is c.in-Some.ensures.number),
          omega (arith, long, c.in-Some.ensures.room),
        ),
      ),
    )

pub returns-then-branch-clause-found : goal.returns-then-branch-clause-found
returns-then-branch-clause-found g t c =
    let q = c.args.question.now in
    let (matter_is, is) = entered_at c.enter.new.self c.loop-choice.question q c.loop-choice.choice c.in_ok-enter.ensures c.loop-choice.invariant.same in
    let (best, any, below) = c.in_ok-search_from.ensures.found in
    let found = subst (λ x. IfSome (after (forest x) c.enter.new.self.choices) (λ e. IsFoundOf x e c.enter.new.self.choices c.search_from.new.question.choices c.loop-choice.visits c.search_from.new.visits best)) matter_is below in
    let (s, some) = some_best best (sym any ∙ c.if-branch.true) in
    let found_is = subst (λ f. IfSome (after (forest q.matter) c.enter.new.self.choices) (λ e. IsFoundOf q.matter e c.enter.new.self.choices c.search_from.new.question.choices c.loop-choice.visits c.search_from.new.visits f)) some found in (
      Some s,
      refl,
      found_below q.matter q.choices c.enter.new.self.choices c.loop-choice.choice c.in-Some.children _ c.requires.prefix c.loop-choice-test.true is c.in-Some.ensures.number
          c.is_met.result c.if-not-is_met.false c.is_met.ensures.met _ _ _ c.loop-choice.invariant.gone s found_is,
    )

pub loop-choice-preserved : goal.loop-choice-preserved
loop-choice-preserved g t c =
    let q = c.args.question.now in
    let (matter_is, is) = entered_at c.enter.new.self c.loop-choice.question q c.loop-choice.choice c.in_ok-enter.ensures c.loop-choice.invariant.same in
    let (best, any, below) = c.in_ok-search_from.ensures.found in
    let found = subst (λ x. IfSome (after (forest x) c.enter.new.self.choices) (λ e. IsFoundOf x e c.enter.new.self.choices c.search_from.new.question.choices c.loop-choice.visits c.search_from.new.visits best)) matter_is below in
    let found_is = subst (λ f. IfSome (after (forest q.matter) c.enter.new.self.choices) (λ e. IsFoundOf q.matter e c.enter.new.self.choices c.search_from.new.question.choices c.loop-choice.visits c.search_from.new.visits f)) (none_best best (sym any ∙ c.if-branch.false)) found in
    let back = same_below q.matter q.choices c.enter.new.self.choices c.loop-choice.choice c.in-Some.children _ c.requires.prefix c.loop-choice-test.true is c.in-Some.ensures.number
    c.is_met.result c.if-not-is_met.false c.is_met.ensures.met _ _ _ c.loop-choice.invariant.gone found_is in
    record {
      same = c.leave.ensures q.choices c.loop-choice.choice (back ∙ is) ∙ ap (λ x. record { matter = x; choices = q.choices }) (c.in_ok-search_from.ensures.matter ∙ matter_is);
      gone = unmet_below q.matter q.choices c.enter.new.self.choices c.loop-choice.choice c.in-Some.children _ c.requires.prefix c.loop-choice-test.true is c.in-Some.ensures.number
          c.is_met.result c.if-not-is_met.false c.is_met.ensures.met _ _ _ c.loop-choice.invariant.gone found_is;
    }

pub returns-clause-found : goal.returns-clause-found
returns-clause-found g t c =
    let q = c.args.question.now in (
      None,
      refl,
      all_below q.matter (after (forest q.matter) q.choices) q.choices _ c.loop-choice.choice c.in-Some.children _ _ c.loop-choice-test.false c.loop-choice.auto.choice-end
          c.in-Some.ensures.number (ap (λ (s : Standing). s.choices) c.loop-choice.invariant.same) c.loop-choice.invariant.gone,
    )
