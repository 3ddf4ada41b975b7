-- A refuted forest is met by no settings.
use Rattle.std.proofs.Common.{◌≡◌, inl, inr, arith, ℕ, zero, suc, ◌<◌, List, [], ◌∷◌, ◌++◌, length, take, Option, Some, None, IsSomeAnd, slice_get, refl, sym, ◌∙◌, ap, subst}
use Rattle.std.specs.List.{AllByRecursion, AllZip}
use Rattle.std.proofs.lemmas.Option.{same_Some, none-some}
use Rattle.sysmem_merge.specs.declared.settings.Settings.{Settings}
use Rattle.sysmem_tree.specs.Forest.{Forest, choices, settled}
use Rattle.sysmem_tree.specs.Selection.{IsSelection, IsEarlierSelection}
use Rattle.sysmem_tree.specs.Shape.{Member}
use Rattle.verdict_claims.specs.declared.refutation.Item.{Item}
use Rattle.verdict_claims.specs.declared.refutation.Item.TheVariants.{Split, Leaf}
use Rattle.verdict_claims.specs.Certificate.{Conflicts, Refutes, RefutesEarlier}
use Rattle.verdict_claims.specs.declared.conflict.Conflict.{Conflict}
use Rattle.verdict_claims.specs.Verdict.{Meeting, IsForestUnmet}
use Rattle.verdict_claims.proofs.Growing.{all_at}
use Rattle.verdict_claims.proofs.Walks.{goes_on}

-- parts of all that hold of a list
all_left : (P : Forest Member → Type 0) (xs ys : List (Forest Member)) → AllByRecursion P (xs ++ ys) → AllByRecursion P xs × AllByRecursion P ys
all_left P [] ys all = (tt, all)
all_left P (x ∷ xs) ys all = let rest = all_left P xs ys all.1 in ((all.0, rest.0), rest.1)

-- all that is asked of settings and conflicts here: a conflict leaves a forest no settings
module _ (Met : Meeting) (L : Conflicts) (sound : (d : Forest Member) (c : Conflict) → L d c → IsForestUnmet Met d) where
  -- where no choice for the first group can be met, nothing can
  split_unmet : (d : Forest Member) (es : List (Forest Member)) → choices d ≡ Some es → AllByRecursion (IsForestUnmet Met) es → IsForestUnmet Met d
  split_unmet d es h all [] e t s met = let same : d ≡ e = same_Some d e s.leads in none-some es (sym s.whole ∙ (ap choices (sym same) ∙ h))
  split_unmet d es h all (c ∷ cs) e t s met = goes_on ⊥ d e c cs s (λ fs x open' here on.
      all_at (IsForestUnmet Met) es c x (subst (λ zs. slice_get zs c ≡ Some x) (same_Some fs es (sym open' ∙ h)) here) all cs e t on met)

  refuted_split : (n : ℕ) (items : List Item) (d : Forest Member) (ds : List (Forest Member)) → ((es : List (Forest Member)) → Refutes L items es → AllByRecursion (IsForestUnmet Met) es)
      → (o : Option (List (Forest Member))) → choices d ≡ o → IsSomeAnd o (λ es. (length es ≡ n) × Refutes L items (es ++ ds)) → AllByRecursion (IsForestUnmet Met) (d ∷ ds)
  refuted_split n items d ds rest None h r = absurd r
  refuted_split n items d ds rest (Some es) h r = let a = all_left (IsForestUnmet Met) es ds (rest (es ++ ds) r.1) in (split_unmet d es h a.0, a.1)

  -- each refuted forest can't be met
  pub refuted : (items : List Item) (ds : List (Forest Member)) → Refutes L items ds → AllByRecursion (IsForestUnmet Met) ds
  refuted [] [] r = tt
  refuted [] (d ∷ ds) r = absurd r
  refuted (item ∷ items) [] r = absurd (nothing item r) where
    nothing : (item : Item) → Refutes L (item ∷ items) [] → ⊥
    nothing (Split n) r = r
    nothing (Leaf c) r = r
  refuted (Leaf c ∷ items) (d ∷ ds) r = (sound d c r.0, refuted items ds r.1)
  refuted (Split n ∷ items) (d ∷ ds) r = refuted_split n items d ds (refuted items) (choices d) refl r

  -- each choice before the chosen one is refuted
  before_unmet : (c i : ℕ) (es : List (Forest Member)) (rs : List (List Item)) (x : Forest Member) → AllZip (λ e items. Refutes L items (e ∷ [])) (take c es) rs
      → i < c → slice_get es i ≡ Some x → IsForestUnmet Met x
  before_unmet c i [] rs x zip below here = absurd (none-some x here)
  before_unmet zero i (e ∷ es) rs x zip below here = absurd (omega (arith, below))
  before_unmet (suc c) i (e ∷ es) [] x zip below here = absurd zip
  before_unmet (suc c) zero (e ∷ es) (items ∷ rs) x zip below here = subst (IsForestUnmet Met) (same_Some e x here) (refuted items (e ∷ []) zip.0).0
  before_unmet (suc c) (suc i) (e ∷ es) (items ∷ rs) x zip below here = before_unmet c i es rs x zip.1 (omega (arith, below)) here

  earlier_child : (es : List (Forest Member)) (c : ℕ) (cs : List ℕ) (rss : List (List (List Item))) (other : List ℕ) (e : Forest Member) (t : Settings)
      → ((x : Forest Member) → RefutesEarlier L x cs rss → (other : List ℕ) (e : Forest Member) (t : Settings) → IsSelection x other e → IsEarlierSelection other cs → ¬ (Met (settled e) t))
      → (x : Forest Member) → slice_get es c ≡ Some x → IsSelection x other e → IsEarlierSelection other cs → Met (settled e) t
      → (o : Option (Forest Member)) → slice_get es c ≡ o → IsSomeAnd o (λ e. RefutesEarlier L e cs rss) → ⊥
  earlier_child es c cs rss other e t inner x here s later met None h q = absurd q
  earlier_child es c cs rss other e t inner x here s later met (Some y) h q =
      inner x (subst (λ z. RefutesEarlier L z cs rss) (same_Some y x (sym h ∙ here)) q) other e t s later met

  earlier_at : (o : Option (List (Forest Member))) (d : Forest Member) (c : ℕ) (cs : List ℕ) (rs : List (List Item)) (rss : List (List (List Item))) (i : ℕ) (other : List ℕ) (e : Forest Member) (t : Settings)
      → choices d ≡ o
      → ((x : Forest Member) → RefutesEarlier L x cs rss → (other : List ℕ) (e : Forest Member) (t : Settings) → IsSelection x other e → IsEarlierSelection other cs → ¬ (Met (settled e) t))
      → IsSomeAnd o (λ es. AllZip (λ e items. Refutes L items (e ∷ [])) (take c es) rs × IsSomeAnd (slice_get es c) (λ e. RefutesEarlier L e cs rss))
      → IsSelection d (i ∷ other) e → IsEarlierSelection (i ∷ other) (c ∷ cs) → Met (settled e) t → ⊥
  earlier_at None d c cs rs rss i other e t h inner z s before met = absurd z
  earlier_at (Some es) d c cs rs rss i other e t h inner z s before met = goes_on ⊥ d e i other s (λ fs x open' at on.
      let here : slice_get es i ≡ Some x = subst (λ zs. slice_get zs i ≡ Some x) (same_Some fs es (sym open' ∙ h)) at in
      elim before as (λ _. ⊥) [
        | inl below ↦ before_unmet c i es rs x z.0 below here other e t on met
        | inr same ↦ earlier_child es c cs rss other e t inner x (subst (λ k. slice_get es k ≡ Some x) same.0 here) on same.1 met (slice_get es c) refl z.1
      ])

  -- nothing before the selection can be met
  pub earlier_unmet : (d : Forest Member) (sel : List ℕ) (rss : List (List (List Item))) → RefutesEarlier L d sel rss
      → (other : List ℕ) (e : Forest Member) (t : Settings) → IsSelection d other e → IsEarlierSelection other sel → ¬ (Met (settled e) t)
  earlier_unmet d [] rss r [] e t s before met = before
  earlier_unmet d [] rss r (i ∷ other) e t s before met = before
  earlier_unmet d (c ∷ cs) rss r [] e t s before met = before
  earlier_unmet d (c ∷ cs) [] r (i ∷ other) e t s before met = r
  earlier_unmet d (c ∷ cs) (rs ∷ rss) r (i ∷ other) e t s before met = earlier_at (choices d) d c cs rs rss i other e t refl (λ x. earlier_unmet x cs rss) r s before met
