-- The lines of an explanation for programs.
use Rattle.std.specs.Prelude.{◌≡◌, ◌++◌, ◌∷◌, ℕ, List, [], codes, map, string_bytes}
use Rattle.serde_json.specs.Data.{Members, object, put, string}
use Rattle.serde_json.specs.Written.{IsInOrder}
use Rattle.explanation_text.specs.declared.items.Item.{Item}

-- a line is the JSON of an object with these members
pub record IsLine (members : Members) (line : List ℕ) : Type 0 where
  pub text : List ℕ
  pub json : IsInOrder text (object members)
  pub ended : line ≡ text ++ codes "\n"

-- a line is the JSON of some object
abbrev pub IsObjectLine : List ℕ → Type 0
IsObjectLine line = (members : Members) × IsLine members line

-- a line is the JSON of an object that has these words at the key `text`
abbrev pub IsLineOf : List ℕ → List ℕ → Type 0
IsLineOf words line = (others : Members) × IsLine (put (codes "text") (string words) others) line

-- a line for each of some words, in their order
pub data AreLinesOf : List (List ℕ) → List ℕ → Type 0 where
  no_line : AreLinesOf [] []
  one_more : (said : List (List ℕ)) (words lines line : List ℕ) → AreLinesOf said lines
      → IsLineOf words line → AreLinesOf (said ++ words ∷ []) (lines ++ line)

-- such lines, and one that ends them
pub record IsToldBy (said : List (List ℕ)) (text : List ℕ) : Type 0 where
  pub lines : List ℕ
  pub each : AreLinesOf said lines
  pub end : List ℕ
  pub ends : IsObjectLine end
  pub all : text ≡ lines ++ end

-- what the items say
abbrev pub item_texts : List Item → List (List ℕ)
item_texts = map (λ item. string_bytes item.text)
