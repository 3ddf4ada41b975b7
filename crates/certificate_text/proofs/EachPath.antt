-- One item more that says something.
use Rattle.std.proofs.Common.{◌≡◌, ◌<◌, ◌+◌, ℕ, List, [], ◌∷◌, ◌++◌, Option, None, Some, drop, get_or, length, option_map, refl, sym, ap, ◌∙◌, append_assoc}
use Rattle.std.proofs.lemmas.List.{drop_more}
use Rattle.serde_json.specs.Data.{Data}
use Rattle.serde_json.specs.View.{items_view, view}
use Rattle.serde_json.specs.declared.value.Value.{Value}
use Rattle.serde_json.specs.declared.value.Value.TheOpen.{Value-F}
use Rattle.certificate_text.specs.Reading.{◌>>=◌, each_said}

module _ {A : Type 0} where
  grown : (so_far : List A) (a : A) (rest : Option (List A)) → option_map (λ r. so_far ++ r) (rest >>= (λ xs. Some (a ∷ xs))) ≡ option_map (λ r. (so_far ++ a ∷ []) ++ r) rest
  grown so_far a None = refl
  grown so_far a (Some xs) = ap (λ l. Some l) (sym (append_assoc so_far (a ∷ []) xs))

  -- what was said so far and by the next item, with what is left, is all that is said
  pub one_said : (said : Data → Option A) (values : List Value) (at : ℕ) (value : Value) (so_far now : List A) (a : A) (whole : Option (List A))
      → at < length values → value ≡ get_or values at value → said (view value) ≡ Some a → now ≡ so_far ++ a ∷ []
      → option_map (λ r. so_far ++ r) (each_said said (items_view (drop at values))) ≡ whole
      → option_map (λ r. now ++ r) (each_said said (items_view (drop (at + 1) values))) ≡ whole
  one_said said values at value so_far now a whole inside is says more all =
      let rest = each_said said (items_view (drop (at + 1) values)) in
      let left : drop at values ≡ value ∷ drop (at + 1) values = drop_more values at value inside ∙ ap (λ v. v ∷ drop (at + 1) values) (sym is) in
      ap (λ n. option_map (λ r. n ++ r) rest) more ∙ (sym (grown so_far a rest)
      ∙ (ap (λ o. option_map (λ r. so_far ++ r) (o >>= (λ x. rest >>= (λ xs. Some (x ∷ xs))))) (sym says)
      ∙ (ap (λ vs. option_map (λ r. so_far ++ r) (each_said said (items_view vs))) (sym left) ∙ all)))
