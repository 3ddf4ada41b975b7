-- What refutes each choice for the next group refutes all that goes on from there.
use Rattle.std.proofs.Common.{[], ◌∷◌, ◌++◌, refl, sym, ◌∙◌, ap, subst, arith}
use Rattle.std.specs.Prelude.{IfSome, OnOk}
use Rattle.sysmem_merge.specs.declared.settings.Settings.{Settings}
use Rattle.verdict_claims.specs.Matter.{forest}
use Rattle.verdict_claims.specs.Verdict.{IsForestUnmet}
use Rattle.search_questions.specs.Question.{MeetsHere, MeetsOf}
use Rattle.sysmem_search.specs.Refuting.{AddsRefutation}
use Rattle.search_questions.specs.Standing.{Standing}
use Rattle.search_questions.proofs.CallerLemmas.{entered_at, long_push, pushed_prefix, met_prefix, unmet_prefix, unmet_selection}
use Rattle.sysmem_search.proofs.Refuted.{no_choice_added, choice_unmet, choice_added, all_choices_added}
use Rattle.sysmem_tree.specs.Selection.{IsPrefix, after}
use Rattle.sysmem_search.proofs.refuting.+refute_from.Goals as goal
use Rattle.sysmem_search.proofs.refuting.+refute_from.Goals.{then-is_last+in_ok-refute_last, else-is_last+in_ok-enter+in_ok-refute_from}

pub refute_here-requires-clause-unmet : goal.refute_here-requires-clause-unmet
refute_here-requires-clause-unmet t c =
    let q = c.args.question.now in
    unmet_selection q.matter (after (forest q.matter) q.choices) c.in_default.ensures.number c.requires.unmet

pub refute_here-requires-then-not-is_met-clause-unmet : goal.refute_here-requires-then-not-is_met-clause-unmet
refute_here-requires-then-not-is_met-clause-unmet t c =
    let q = c.args.question.now in
    subst (λ (s : Standing). IfSome (after (forest s.matter) s.choices) (λ d. (t : Settings) → ¬ (MeetsHere s.matter d t))) (sym c.is_met.ensures.same)
    (unmet_prefix q.matter (after (forest q.matter) q.choices) c.in-Some.children c.is_met.result c.if-not-is_met.true c.in-Some.ensures.number c.is_met.ensures.met)

pub refute_here-requires-then-not-is_met-clause-prefix : goal.refute_here-requires-then-not-is_met-clause-prefix
refute_here-requires-then-not-is_met-clause-prefix t c = subst (λ (s : Standing). IsPrefix (forest s.matter) s.choices) (sym c.is_met.ensures.same) c.requires.prefix

pub returns-then-not-is_met-clause-refuted : goal.returns-then-not-is_met-clause-refuted
returns-then-not-is_met-clause-refuted t c =
    subst (λ (s : Standing). OnOk c.refute_here-then-not-is_met.result
    (IfSome (after (forest s.matter) s.choices) (λ d. AddsRefutation s.matter d c.args.items.now.items c.refute_here-then-not-is_met.new.items.items)))
    c.is_met.ensures.same c.refute_here-then-not-is_met.ensures.refuted

pub loop-choice-init : goal.loop-choice-init
loop-choice-init t c =
    let q = c.args.question.now in
    record {
      same = c.is_met.ensures.same;
      added = no_choice_added q.matter (after (forest q.matter) q.choices) c.in-Some.children c.args.items.now.items c.push.new.self.items c.in-Some.ensures.number c.in_ok-push.ensures.items;
    }

pub is_last-requires : goal.is_last-requires
is_last-requires t c =
    let q = c.args.question.now in
    subst (λ (s : Standing). IsPrefix (forest s.matter) (s.choices ++ c.loop-choice.choice ∷ [])) (sym c.loop-choice.invariant.same)
    (pushed_prefix q.matter q.choices (q.choices ++ c.loop-choice.choice ∷ []) c.loop-choice.choice c.in-Some.children 0 c.requires.prefix c.loop-choice-test.true refl c.in-Some.ensures.number)

pub refute_last-requires-clause-prefix : goal.refute_last-requires-clause-prefix
refute_last-requires-clause-prefix t c =
    let q = c.args.question.now in
    subst (λ (s : Standing). IsPrefix (forest s.matter) (s.choices ++ c.loop-choice.choice ∷ [])) (sym c.loop-choice.invariant.same)
    (pushed_prefix q.matter q.choices (q.choices ++ c.loop-choice.choice ∷ []) c.loop-choice.choice c.in-Some.children 0 c.requires.prefix c.loop-choice-test.true refl c.in-Some.ensures.number)

pub refute_last-requires-clause-unmet : goal.refute_last-requires-clause-unmet
refute_last-requires-clause-unmet t c =
    let q = c.args.question.now in
    subst (λ (s : Standing). IfSome (after (forest s.matter) (s.choices ++ c.loop-choice.choice ∷ [])) (λ d. IsForestUnmet (MeetsOf s.matter) d)) (sym c.loop-choice.invariant.same)
    (choice_unmet q.matter q.choices (q.choices ++ c.loop-choice.choice ∷ []) c.loop-choice.choice c.in-Some.children c.requires.prefix c.loop-choice-test.true refl c.in-Some.ensures.number c.requires.unmet)

pub enter-requires-clause-prefix : goal.enter-requires-clause-prefix
enter-requires-clause-prefix t c =
    let q = c.args.question.now in
    subst (λ (s : Standing). IsPrefix (forest s.matter) (s.choices ++ c.loop-choice.choice ∷ [])) (sym c.loop-choice.invariant.same)
    (pushed_prefix q.matter q.choices (q.choices ++ c.loop-choice.choice ∷ []) c.loop-choice.choice c.in-Some.children 0 c.requires.prefix c.loop-choice-test.true refl c.in-Some.ensures.number)

pub refute_from-requires : goal.refute_from-requires
refute_from-requires t c =
    let q = c.args.question.now in
    let (matter_is, is) = entered_at c.enter.new.self c.loop-choice.question q c.loop-choice.choice c.in_ok-enter.ensures c.loop-choice.invariant.same in
    let long = long_push q.choices c.enter.new.self.choices c.loop-choice.choice is in (
      omega (arith, c.decreases, long, c.in-Some.ensures.room),
      (
        subst (λ x. IsPrefix (forest x) c.enter.new.self.choices) (sym matter_is)
            (pushed_prefix q.matter q.choices c.enter.new.self.choices c.loop-choice.choice c.in-Some.children 0 c.requires.prefix c.loop-choice-test.true is c.in-Some.ensures.number),
        (
          omega (arith, long, c.in-Some.ensures.room),
          subst (λ x. IfSome (after (forest x) c.enter.new.self.choices) (λ d. IsForestUnmet (MeetsOf x) d)) (sym matter_is)
              (choice_unmet q.matter q.choices c.enter.new.self.choices c.loop-choice.choice c.in-Some.children c.requires.prefix c.loop-choice-test.true is c.in-Some.ensures.number c.requires.unmet),
        ),
      ),
    )

pub loop-choice-preserved : goal.loop-choice-preserved
loop-choice-preserved t c =
    let q = c.args.question.now in
    let k = c.loop-choice.choice in
    elim c.if-is_last.branch [
      | then-is_last+in_ok-refute_last w ↦ rw (w.question-is, w.items-is) (record {
        same = w.in_ok-refute_last.ensures.same ∙ c.loop-choice.invariant.same;
        added = choice_added q.matter q.choices (q.choices ++ k ∷ []) k c.in-Some.children c.requires.prefix c.loop-choice-test.true refl c.in-Some.ensures.number
            c.args.items.now.items c.loop-choice.items.items w.refute_last.new.items.items c.loop-choice.invariant.added
            (subst (λ (s : Standing). IfSome (after (forest s.matter) (s.choices ++ k ∷ [])) (λ d. AddsRefutation s.matter d c.loop-choice.items.items w.refute_last.new.items.items))
            c.loop-choice.invariant.same w.in_ok-refute_last.ensures.refuted);
      })
      | else-is_last+in_ok-enter+in_ok-refute_from w ↦
          let (matter_is, is) = entered_at w.enter.new.self c.loop-choice.question q k w.in_ok-enter.ensures c.loop-choice.invariant.same in
          let back = w.in_ok-refute_from.ensures.same in
          rw (w.question-is, w.items-is) (record {
            same = w.leave.ensures q.choices k (ap (λ (s : Standing). s.choices) back ∙ is) ∙ ap (λ x. record { matter = x; choices = q.choices }) (ap (λ (s : Standing). s.matter) back ∙ matter_is);
            added = choice_added q.matter q.choices w.enter.new.self.choices k c.in-Some.children c.requires.prefix c.loop-choice-test.true is c.in-Some.ensures.number
                c.args.items.now.items c.loop-choice.items.items w.refute_from.new.items.items c.loop-choice.invariant.added
                (subst (λ x. IfSome (after (forest x) w.enter.new.self.choices) (λ d. AddsRefutation x d c.loop-choice.items.items w.refute_from.new.items.items)) matter_is w.in_ok-refute_from.ensures.refuted);
          })
    ]

pub returns-clause-refuted : goal.returns-clause-refuted
returns-clause-refuted t c =
    let q = c.args.question.now in
    all_choices_added q.matter (after (forest q.matter) q.choices) c.loop-choice.choice c.in-Some.children c.args.items.now.items c.loop-choice.items.items
    (omega (arith, c.loop-choice-test.false)) c.loop-choice.auto.choice-end c.in-Some.ensures.number
    (met_prefix q.matter (after (forest q.matter) q.choices) c.is_met.result c.if-not-is_met.false c.is_met.ensures.met) c.loop-choice.invariant.added
