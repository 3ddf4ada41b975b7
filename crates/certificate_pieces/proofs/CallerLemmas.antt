-- What callers need of the text of a list.
use Rattle.std.proofs.Common.{◌≡◌, ◌++◌, List, [], ◌∷◌, Bool, false, true, map, refl, ap, ◌∙◌}
use Rattle.serde_json.specs.Data.{Data}
use Rattle.serde_json.specs.View.{items_of}
use Rattle.serde_json.specs.Written.{comma_if, compact_text, items_text}
use Rattle.certificate_text.specs.Told.{list_data}
use Rattle.certificate_pieces.specs.Texts.{joined, list_text}

module _ {A : Type 0} (told : A → Data) where
  joined_told : (later : Bool) (xs : List A) → joined later (map (λ x. compact_text (told x)) xs) ≡ items_text later (items_of (map told xs))
  joined_told later [] = refl
  joined_told later (x ∷ xs) = ap (λ s. comma_if later ++ (compact_text (told x) ++ s)) (joined_told true xs)

  -- the texts of a list's items make up the text of the list
  pub list_told : (xs : List A) → list_text (map (λ x. compact_text (told x)) xs) ≡ compact_text (list_data told xs)
  list_told xs = ap (λ s. 91 ∷ s) (joined_told false xs)

  -- the same of a list that is lent
  pub lists_told : (xs ys : List A) → xs ≡ ys → list_text (map (λ x. compact_text (told x)) xs) ≡ compact_text (list_data told ys)
  lists_told xs ys same = list_told xs ∙ ap (λ zs. compact_text (list_data told zs)) same
