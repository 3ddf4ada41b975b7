-- A selection of a domain's shape is one of its forest of numbers.
use Rattle.std.proofs.Common.{◌≡◌, ℕ, List, [], Option, Some, None, refl, sym, ◌∙◌, ap, subst}
use Rattle.std.specs.Prelude.{map, option_map}
use Rattle.std.proofs.lemmas.Option.{same_Some}
use Rattle.sysmem_tree.specs.Forest.{Forest, choices, relabel}
use Rattle.sysmem_tree.proofs.CallerLemmas.{after_relabel, choices_relabel}
use Rattle.sysmem_tree.specs.Laws.{by_both, AreOneForest}
use Rattle.sysmem_tree.specs.Node.{NodeFacts}
use Rattle.sysmem_tree.specs.Path.{path_of}
use Rattle.sysmem_tree.specs.Selection.{after, IsSelection}
use Rattle.sysmem_tree.specs.Shape.{Member, by_number, forest_of, shape_of}

module _ {A B : Type 0} (f : A → B) where
  none_there : (o : Option (List (Forest A))) → option_map (map (relabel f)) o ≡ None → o ≡ None
  none_there None e = refl
  none_there (Some es) e = absurd (cc)

  -- a selection under other labels
  pub selection_of : (d : Forest A) (cs : List ℕ) (e : Forest B) → IsSelection (relabel f d) cs e → (x : Forest A) × IsSelection d cs x
  selection_of d cs e is = by (after d cs) refl (sym (after_relabel f cs d) ∙ is.leads) where
    by : (o : Option (Forest A)) → after d cs ≡ o → option_map (relabel f) o ≡ Some e → (x : Forest A) × IsSelection d cs x
    by None leads h = absurd (cc)
    by (Some x) leads h = (x, record { leads = leads; whole = none_there (choices x) (sym (choices_relabel f x) ∙ (ap choices (same_Some (relabel f x) e h) ∙ is.whole)) })

  pub relabelled : (d : Forest A) (cs : List ℕ) (x : Forest A) → IsSelection d cs x → IsSelection (relabel f d) cs (relabel f x)
  relabelled d cs x is = record { leads = after_relabel f cs d ∙ ap (option_map (relabel f)) is.leads; whole = choices_relabel f x ∙ ap (option_map (map (relabel f))) is.whole }

pub by_numbers : (nodes : List NodeFacts) (r : ℕ) → AreOneForest nodes r → (cs : List ℕ) (e : Forest Member) → IsSelection (shape_of nodes r) cs e
    → (x : Forest ℕ) × IsSelection (forest_of by_number nodes r []) cs x
by_numbers nodes r one cs e is =
    let both : Forest (ℕ × Member) = forest_of by_both nodes r (path_of nodes r) in
    let (x, there) = selection_of (λ (l : ℕ × Member). l.1) both cs e (subst (λ d. IsSelection d cs e) (sym one.members) is) in
    (relabel (λ (l : ℕ × Member). l.0) x, subst (λ d. IsSelection d cs (relabel (λ (l : ℕ × Member). l.0) x)) one.numbers (relabelled (λ (l : ℕ × Member). l.0) both cs x there))
