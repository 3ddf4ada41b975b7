-- What a search keeps at no choice.
use Rattle.std.proofs.Common.{arith, ◌≡◌, ◌≤◌, ℕ, zero, suc, List, [], ◌∷◌, ◌++◌, Option, Some, length, slice_get, take, sym, ◌∙◌, ap, subst}
use Rattle.std.specs.Prelude.{IsSomeAnd}
use Rattle.std.proofs.lemmas.Option.{slice_get_within, same_Some}
use Rattle.verdict_claims.specs.Members.{participants}
use Rattle.search_questions.specs.declared.kept.ChoiceShare.{ChoiceShare}
use Rattle.search_questions.specs.declared.levels.Level.{Level}
use Rattle.search_questions.specs.Kept.{IsKeptFor}
use Rattle.verdict_claims.specs.Matter.{Matter}
use Rattle.search_questions.specs.Standing.{AreLevels, AreMade, AreSteps, IsLevel, IsWholeLevel}
use Rattle.sysmem_tree.specs.declared.layout.Layout.{Layout}
use Rattle.sysmem_tree.specs.Forest.{settled}
use Rattle.search_questions.proofs.question.Question.new.Goals as goal

module _ (m : Matter) (layout : Layout) (first : Level) (is : IsLevel m layout [] first) where
  only : (k : ℕ) (level : Level) → slice_get (first ∷ []) k ≡ Some level → first ≡ level
  only zero level here = same_Some first level here
  only (suc k) level here = absurd (omega (arith, slice_get_within (first ∷ []) (suc k) level here))

  -- one level stands for some participants
  one_made : (levels : List Level) → levels ≡ first ∷ [] → AreMade m levels
  one_made levels same k level here = (
    participants (settled is.left),
    subst (λ (l : Level). IsKeptFor m l.kept (participants (settled is.left)))
        (only k level (subst (λ (ls : List Level). slice_get ls k ≡ Some level) same here)) is.kept,
  )

  front : (k : ℕ) → k ≤ 0 → IsSomeAnd (slice_get (first ∷ []) k) (IsLevel m layout (take k []))
  front zero small = is
  front (suc k) small = absurd (omega (arith, small))

  -- and is that of no choice
  one_front : (levels : List Level) (cs : List ℕ) → levels ≡ first ∷ [] → cs ≡ [] → AreLevels m layout cs levels
  one_front levels cs same none = rw (same, none) front

-- behind nothing it stands alone
only_one : (first : Level) (none levels : List Level) → none ≡ [] → levels ≡ none ++ first ∷ [] → levels ≡ first ∷ []
only_one first none levels empty added = added ∙ ap (λ xs. xs ++ first ∷ []) empty

-- from no choice there is no step
no_steps : (m : Matter) (layout : Layout) (parts : List (Option ChoiceShare)) (levels : List Level) (cs : List ℕ) → cs ≡ [] → AreSteps m layout parts cs levels
no_steps m layout parts levels cs none k above next within one two = absurd (omega (arith, within, ap length none))

-- nothing is kept where there is no slot
none_kept : {X : Type 0} (parts : List (Option ChoiceShare)) (slot : ℕ) (part : ChoiceShare) → parts ≡ [] → slice_get parts slot ≡ Some (Some part) → X
none_kept [] slot part none here = absurd (cc)
none_kept (x ∷ parts) slot part none here = absurd (cc)

pub first_level-requires : goal.first_level-requires
first_level-requires c = record { lays = c.layout-layout.ensures.lays; nodes = c.layout-layout.ensures.nodes }

pub invariant_of-result : goal.invariant_of-result
invariant_of-result c = (
  record {
    given = c.recall.ensures;
    laid = record { lays = c.layout-layout.ensures.lays; nodes = c.layout-layout.ensures.nodes };
    shares = λ place slot part own here. none_kept c.new-2.result.items slot part c.new-2.ensures.items here;
    made = one_made _ c.layout-layout.result c.in_ok-first.first c.in_ok-first.ensures.level c.push.new.self.items (only_one c.in_ok-first.first _ _ c.in_ok-levels.ensures.items c.in_ok-push.ensures.items);
    fronts = one_front _ c.layout-layout.result c.in_ok-first.first c.in_ok-first.ensures.level c.push.new.self.items _
        (only_one c.in_ok-first.first _ _ c.in_ok-levels.ensures.items c.in_ok-push.ensures.items) c.new.ensures;
    first = subst (λ (ls : List Level). IsSomeAnd (slice_get ls 0) (IsWholeLevel c.args.subject.now))
        (sym (only_one c.in_ok-first.first _ _ c.in_ok-levels.ensures.items c.in_ok-push.ensures.items)) c.in_ok-first.ensures.whole;
    steps = no_steps c.args.subject.now c.layout-layout.result c.new-2.result.items c.push.new.self.items _ c.new.ensures;
  },
  c.new-3.ensures c.args.subject.now.nodes c.args.subject.now.platform.heaps,
)
