-- What is kept where the question stands is asked, and stands for the same choices still.
use Rattle.std.proofs.Common.{length, sym, ap, subst}
use Rattle.std.specs.Prelude.{IfSome}
use Rattle.search_questions.specs.Asking.{IsAnswer}
use Rattle.search_questions.specs.Standing.{StandsAt}
use Rattle.search_questions.proofs.Entering.{level_within}
use Rattle.sysmem_tree.specs.Forest.{settled}
use Rattle.sysmem_tree.specs.Selection.{after}
use Rattle.verdict_claims.specs.Matter.{forest}
use Rattle.search_questions.proofs.question.Question.best_as.Goals as goal

pub best_at-requires : goal.best_at-requires
best_at-requires c = record {
  there = level_within c.self.inside.subject.now c.self.inside.layout c.self.inside.parts.items c.self.inside.levels.items c.choices-depth.result.now c.self.inside.prefix
      c.choices-depth.ensures c.self.invariant.0;
}

pub invariant_of-self : goal.invariant_of-self
invariant_of-self c =
    let keeps = subst (λ ps. StandsAt c.self.inside.subject.now c.self.inside.layout ps c.self.inside.levels.items c.self.inside.prefix) (sym c.deref.ensures.value) c.self.invariant.0 in (
      subst (λ ps. StandsAt c.self.inside.subject.now c.self.inside.layout ps c.best_at.new.levels.items c.self.inside.prefix) c.deref.ensures.value
          (c.best_at.ensures.stands c.self.inside.layout c.self.inside.prefix (sym (ap length c.choices-depth.ensures)) keeps),
      c.self.invariant.1,
    )

pub returns-clause-answer : goal.returns-clause-answer
returns-clause-answer c =
    let keeps = subst (λ ps. StandsAt c.self.inside.subject.now c.self.inside.layout ps c.self.inside.levels.items c.self.inside.prefix) (sym c.deref.ensures.value) c.self.invariant.0 in
    subst (λ s. IfSome (after (forest s.matter) s.choices) (λ d. IsAnswer c.args.whole s.matter (settled d) c.best_at.result)) c.self.view_is
    (c.best_at.ensures.answer c.self.inside.layout c.self.inside.prefix (sym (ap length c.choices-depth.ensures)) keeps)
