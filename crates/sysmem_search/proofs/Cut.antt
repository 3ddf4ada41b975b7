-- Refutations that end where they can, one after another.
use Rattle.std.proofs.Common.{◌≡◌, ℕ, List, [], ◌∷◌, ◌++◌, Option, Some, None, length, slice_get, take, sym, subst, append_assoc}
use Rattle.std.proofs.lemmas.List.{append-nil}
use Rattle.std.specs.Prelude.{IfSome, IsSomeAnd}
use Rattle.std.specs.List.{AllZip, flat_map}
use Rattle.verdict_claims.specs.Certificate.{Conflicts, Refutes}
use Rattle.verdict_claims.specs.Matter.{Matter}
use Rattle.verdict_claims.specs.Verdict.{Meeting}
use Rattle.verdict_claims.specs.declared.refutation.Item.{Item}
use Rattle.verdict_claims.specs.declared.refutation.Item.TheVariants.{Split, Leaf}
use Rattle.sysmem_search.specs.Cut.{AreCut, IsCut, AreFirstItems}
use Rattle.search_questions.specs.Live.{SomeMeet}
use Rattle.sysmem_tree.specs.Forest.{Forest, choices}
use Rattle.sysmem_tree.specs.Shape.{Member}

-- what holds place by place, of what holds so
pub zip_to : {A B : Type 0} (R S : A → B → Type 0) → ((x : A) (y : B) → R x y → S x y) → (xs : List A) (ys : List B) → AllZip R xs ys → AllZip S xs ys
zip_to R S step [] [] h = tt
zip_to R S step [] (y ∷ ys) h = absurd h
zip_to R S step (x ∷ xs) [] h = absurd h
zip_to R S step (x ∷ xs) (y ∷ ys) h = (step x y h.0, zip_to R S step xs ys h.1)

module _ (Met : Meeting) (First L : Conflicts) where
  split_on : (n : ℕ) (xs ys : List Item) (ds es : List (Forest Member)) (o : Option (List (Forest Member)))
      → ((fs : List (Forest Member)) → Refutes L xs fs → AreFirstItems Met First xs fs → AreFirstItems Met First (xs ++ ys) (fs ++ es))
      → IsSomeAnd o (λ fs. (length fs ≡ n) × Refutes L xs (fs ++ ds)) → IfSome o (λ fs. AreFirstItems Met First xs (fs ++ ds)) → IfSome o (λ fs. AreFirstItems Met First (xs ++ ys) (fs ++ (ds ++ es)))
  split_on n xs ys ds es None more r a = tt
  split_on n xs ys ds es (Some fs) more r a = subst (AreFirstItems Met First (xs ++ ys)) (append_assoc fs ds es) (more (fs ++ ds) r.1 a)

  cut_append : (xs ys : List Item) (ds es : List (Forest Member)) → Refutes L xs ds → AreFirstItems Met First xs ds → AreFirstItems Met First ys es → AreFirstItems Met First (xs ++ ys) (ds ++ es)
  cut_append [] ys [] es r a b = b
  cut_append [] ys (d ∷ ds) es r a b = absurd r
  cut_append (Leaf c ∷ xs) ys [] es r a b = absurd r
  cut_append (Split n ∷ xs) ys [] es r a b = absurd r
  cut_append (Leaf c ∷ xs) ys (d ∷ ds) es r a b = (a.0, cut_append xs ys ds es r.1 a.1 b)
  cut_append (Split n ∷ xs) ys (d ∷ ds) es r a b = (a.0, split_on n xs ys ds es (choices d) (λ fs r h. cut_append xs ys fs es r h b) r a.1)

  cut_each : (es : List (Forest Member)) (rs : List (List Item)) → AllZip (λ e items. Refutes L items (e ∷ [])) es rs → AllZip (λ e items. AreFirstItems Met First items (e ∷ [])) es rs
      → AreFirstItems Met First (flat_map (λ items. items) rs) es
  cut_each [] [] zip cut = tt
  cut_each [] (r ∷ rs) zip cut = absurd zip
  cut_each (e ∷ es) [] zip cut = absurd zip
  cut_each (e ∷ es) (r ∷ rs) zip cut = cut_append r (flat_map (λ items. items) rs) (e ∷ []) es zip.0 cut.0 (cut_each es rs zip.1 cut.1)

  -- a split where some settings meet what is settled, and behind it refutations of each choice
  pub splits_cut : (d : Forest Member) (es : List (Forest Member)) (rs : List (List Item)) → choices d ≡ Some es → SomeMeet Met d
      → AllZip (λ e items. Refutes L items (e ∷ [])) es rs → AllZip (λ e items. AreFirstItems Met First items (e ∷ [])) es rs → AreFirstItems Met First (Split (length es) ∷ flat_map (λ items. items) rs) (d ∷ [])
  splits_cut d es rs open' met zip cut = (
    met,
    subst (λ o. IfSome o (λ fs. AreFirstItems Met First (flat_map (λ items. items) rs) (fs ++ []))) (sym open')
        (subst (AreFirstItems Met First (flat_map (λ items. items) rs)) (sym (append-nil es)) (cut_each es rs zip cut)),
  )

-- refutations of the choices before the first go in front of those after it
pub earlier_cut : (m : Matter) (d e : Forest Member) (es : List (Forest Member)) (c : ℕ) (cs : List ℕ) (rs : List (List Item)) (rss : List (List (List Item)))
    → choices d ≡ Some es → slice_get es c ≡ Some e → AllZip (IsCut m) (take c es) rs → AreCut m e cs rss → AreCut m d (c ∷ cs) (rs ∷ rss)
earlier_cut m d e es c cs rs rss open' here zip rest = subst (λ o. IfSome o (λ fs. AllZip (IsCut m) (take c fs) rs × IfSome (slice_get fs c) (λ f. AreCut m f cs rss))) (sym open')
    (zip, subst (λ o. IfSome o (λ f. AreCut m f cs rss)) (sym here) rest)
