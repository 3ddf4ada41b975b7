-- Lines, and one more.
use Rattle.std.proofs.Common.{◌≡◌, ℕ, ◌+◌, ◌<◌, List, [], ◌∷◌, ◌++◌, codes, length, get_or, take, map, sym, ap, ◌∙◌, subst}
use Rattle.std.specs.String.{string_bytes}
use Rattle.std.proofs.lemmas.List.{map-append, take_more}
use Rattle.serde_json.specs.Data.{Data, Members, object, put, string}
use Rattle.serde_json.specs.Written.{IsInOrder}
use Rattle.explanation_text.specs.declared.items.Item.{Item}
use Rattle.explain.specs.Lines.{AreLinesOf, IsLine, IsLineOf, IsObjectLine, IsToldBy, item_texts, no_line, one_more}

-- the text of an object, and a newline
pub line_made : (members : Members) (text line : List ℕ) → IsInOrder text (object members) → line ≡ text ++ codes "\n" → IsLine members line
line_made members text line json ended = record { text = text; json = json; ended = ended }

pub line_some : (members : Members) (line : List ℕ) → IsLine members line → IsObjectLine line
line_some members line is = (members, is)

-- some words were put at the key `text`
pub line_said : (words line : List ℕ) (others members : Members) (value : Data) → value ≡ string words → members ≡ put (codes "text") value others → IsLine members line → IsLineOf words line
line_said words line others members value is grown told = (others, subst (λ ms. IsLine ms line) (grown ∙ ap (λ d. put (codes "text") d others) is) told)

-- lines, and the line that ends them
pub told_by : (said : List (List ℕ)) (lines end all : List ℕ) → AreLinesOf said lines → IsObjectLine end → all ≡ lines ++ end → IsToldBy said all
told_by said lines end all each ends whole = record { lines = lines; each = each; end = end; ends = ends; all = whole }

-- the words of some items and of one more
said-more : (items : List Item) (i : ℕ) (item : Item) → i < length items → item ≡ get_or items i item → item_texts (take i items) ++ string_bytes item.text ∷ [] ≡ item_texts (take (i + 1) items)
said-more items i item within is =
    sym (map-append (λ (one : Item). string_bytes one.text) (take i items) (item ∷ []))
    ∙ ap item_texts (sym (take_more items i item within ∙ ap (λ y. take i items ++ y ∷ []) (sym is)))

-- the line of one more item
pub line_more : (items : List Item) (i : ℕ) (item : Item) (lines line after : List ℕ) → i < length items → item ≡ get_or items i item
    → AreLinesOf (item_texts (take i items)) lines → IsLineOf (string_bytes item.text) line → after ≡ lines ++ line → AreLinesOf (item_texts (take (i + 1) items)) after
line_more items i item lines line after within is before told grown =
    subst (λ l. AreLinesOf l after) (said-more items i item within is)
    (subst (λ l. AreLinesOf (item_texts (take i items) ++ string_bytes item.text ∷ []) l) (sym grown) (one_more (item_texts (take i items)) (string_bytes item.text) lines line before told))

-- no item, and no line
pub no_line_yet : (items : List Item) (text : List ℕ) → text ≡ [] → AreLinesOf (item_texts (take 0 items)) text
no_line_yet items text empty = subst (λ l. AreLinesOf [] l) (sym empty) no_line
