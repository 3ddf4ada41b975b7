-- What callers need of histories, of decisions, of prefixes and of forests.
pub use Rattle.sysmem_tree.proofs.steps.Accepted.{accepted, IsAccepted}
pub use Rattle.sysmem_tree.proofs.forests.Apart.{tree_labels}
pub use Rattle.sysmem_tree.proofs.domains.MadeReady.{was_ready}
pub use Rattle.sysmem_tree.proofs.nodes.Different.{few_different}
pub use Rattle.sysmem_tree.proofs.forests.Few.{few_numbers, forest_here}
pub use Rattle.sysmem_tree.proofs.nodes.Kids.{is_under, under_parent}
pub use Rattle.sysmem_tree.proofs.layouts.Layouts.{size_tree}
pub use Rattle.sysmem_tree.proofs.forests.Numbers.{numbers, front}
pub use Rattle.sysmem_tree.proofs.forests.Once.{Once, labels_once, members_stand_once}
pub use Rattle.sysmem_tree.proofs.nodes.Places.{there}
pub use Rattle.sysmem_tree.proofs.histories.Staying.{numbers_stay}
pub use Rattle.sysmem_tree.proofs.steps.Steps.{led_kid, node_within}
pub use Rattle.sysmem_tree.proofs.domains.Readiness.{decision_acted, decision_by, home_root}
pub use Rattle.sysmem_tree.proofs.layouts.Walked.{gives_same, named_there, some_open}
pub use Rattle.sysmem_tree.proofs.selections.Selections.{IfAny, all_mapped, all_at, settled_relabel, choices_relabel, after_relabel, first_many}
use Rattle.std.proofs.Common.{◌≡◌, ◌<◌, ℕ, Bool, true, false, List, [], ◌∷◌, ◌++◌, Option, Some, None, length, slice_get, refl, sym, ◌∙◌, ap, subst, arith}
use Rattle.std.specs.Prelude.{option_map, option_and_then, IsSome, IfSome, if◌then◌else◌}
use Rattle.std.proofs.lemmas.Option.{same_Some}
use Rattle.sysmem_tree.specs.declared.domain.Decision.{Decision}
use Rattle.sysmem_tree.specs.declared.domain.Decision.TheVariants.{Undecided, Chosen, NoneChosen}
use Rattle.sysmem_tree.specs.declared.fate.Fate.TheVariants as fates
use Rattle.sysmem_tree.specs.Domain.{TreeFacts, decision_of, fate_by, fate_of, has_failed, is_undecided}
use Rattle.sysmem_tree.specs.Forest.{Forest, choices, first_group}
use Rattle.sysmem_tree.specs.History.{HistoryEntry, Accepts, after_entry, replay_from, AreAccepted}
use Rattle.sysmem_tree.specs.Selection.{after, IsPrefix, IsSelection}
use Rattle.sysmem_tree.proofs.selections.Selections.{after_more}

-- a history with one more entry leads to the tree after that entry
pub replay_push : (t : TreeFacts) (es : List HistoryEntry) (e : HistoryEntry) → replay_from t (es ++ e ∷ []) ≡ after_entry (replay_from t es) e
replay_push t [] e = refl
replay_push t (x ∷ es) e = replay_push (after_entry t x) es e

-- and is accepted where the entry is
pub accepted_push : (t : TreeFacts) (es : List HistoryEntry) (e : HistoryEntry) → AreAccepted t es → Accepts (replay_from t es) e → AreAccepted t (es ++ e ∷ [])
accepted_push t [] e all one = (one, tt)
accepted_push t (x ∷ es) e all one = (all.0, accepted_push (after_entry t x) es e all.1 one)

-- a domain of which nothing became is undecided
pub undecided_by_fate : (t : TreeFacts) (r : ℕ) → fate_of t r ≡ fates.Undecided → is_undecided (decision_of t.domains r) ≡ true
undecided_by_fate t r is = by (has_failed t r) (decision_of t.domains r) is where
  by : (failed : Bool) (d : Decision) → (if failed then fates.Failed else fate_by d) ≡ fates.Undecided → is_undecided d ≡ true
  by true d e = absurd (cc)
  by false Undecided e = refl
  by false Chosen e = absurd (cc)
  by false NoneChosen e = absurd (cc)

-- a prefix and a choice of a child of the group that is next are a prefix
pub prefix_push : (d : Forest ℕ) (cs : List ℕ) (c group children : ℕ) → IsPrefix d cs → IfSome (after d cs) (λ e. Some (group, children) ≡ first_group e) → c < children → IsPrefix d (cs ++ c ∷ [])
prefix_push d cs c group children h next less = subst IsSome (sym (after_more cs (c ∷ []) d)) (by (after d cs) h next) where
  chosen : (ks : Option (List (Forest ℕ))) → option_map length ks ≡ Some children → IsSome (option_and_then (λ f. after f []) (option_and_then (λ es. slice_get es c) ks))
  chosen None e = absurd (cc)
  chosen (Some es) e =
      let many : length es ≡ children = same_Some (length es) children e in
      let (f, at, _) = front es c (omega (arith, less, many)) in
      subst (λ o. IsSome (option_and_then (λ x. after x []) o)) (sym at) refl

  by : (o : Option (Forest ℕ)) → IsSome o → IfSome o (λ e. Some (group, children) ≡ first_group e) → IsSome (option_and_then (λ e. after e (c ∷ [])) o)
  by None h n = h
  by (Some e) h n = chosen (choices e) (first_many e ∙ ap (option_map (λ (g : ℕ × ℕ). g.1)) (sym n))

-- where no group is next, a prefix is a selection
pub is_selection : (d : Forest ℕ) (cs : List ℕ) → IsPrefix d cs → IfSome (after d cs) (λ e. None ≡ first_group e) → (e : Forest ℕ) × IsSelection d cs e
is_selection d cs h none = by (after d cs) refl h none where
  whole : (ks : Option (List (Forest ℕ))) → option_map length ks ≡ None → ks ≡ None
  whole None e = refl
  whole (Some es) e = absurd (cc)

  by : (o : Option (Forest ℕ)) → after d cs ≡ o → IsSome o → IfSome o (λ e. None ≡ first_group e) → (e : Forest ℕ) × IsSelection d cs e
  by None is h n = absurd (cc)
  by (Some e) is h n = (e, record { leads = is; whole = whole (choices e) (first_many e ∙ ap (option_map (λ (g : ℕ × ℕ). g.1)) (sym n)) })
