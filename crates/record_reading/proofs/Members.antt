-- The keys of an object and the items of a list, as the program walks them.
use Rattle.std.proofs.Common.{◌≡◌, ℕ, ◌+◌, ◌<◌, Bool, not, ◌==◌, ◌&&◌, List, [], ◌∷◌, length, get_or, drop, String, string_bytes, Result, ap, sym, ◌∙◌, refl, Global, rules, tests}
use Rattle.std.specs.List.{list_all}
use Rattle.std.specs.Map as map
use Rattle.std.proofs.lemmas.List.{at_drop_more}
use Rattle.serde_json.specs.Data.{Data}
use Rattle.serde_json.specs.declared.value.Value.{Value}
use Rattle.serde_json.specs.View.{view, items_view, members_view}
use Rattle.record_reading.specs.declared.fault.Fault.{Fault}
use Rattle.record_reading.specs.Reading.Fields.{keys_of, has_items, read_each, ◌>>=◌}

-- a test of all keys
pub list_all-keys_of : (p : List ℕ → Bool) (es : List (String Global × Value)) → list_all p (keys_of (members_view es)) ≡ list_all (λ key. p (string_bytes key)) (map.keys_of es)
list_all-keys_of p [] = refl
list_all-keys_of p (e ∷ es) = ap (λ b. p (string_bytes e.0) && b) (list_all-keys_of p es)

-- a list has items where its length isn't 0
pub has_items-items_view : (vs : List Value) → has_items (items_view vs) ≡ not (length vs == 0)
has_items-items_view [] = refl
has_items-items_view (v ∷ vs) = search (rules, tests)

pub ruleset items_rules = has_items-items_view

-- the item in turn is read, and the others are left
pub each_step : {S : Type 0} (read : S → Data → Result S Fault) (before : S) (vs : List Value) (i : ℕ) (v : Value)
    → i < length vs → v ≡ get_or vs i v
    → read_each read before (items_view (drop i vs)) ≡ (read before (view v) >>= λ after. read_each read after (items_view (drop (i + 1) vs)))
each_step read before vs i v within is =
    at_drop_more (λ ws. read_each read before (items_view ws)) vs i v within
    ∙ ap (λ w. read before (view w) >>= λ after. read_each read after (items_view (drop (i + 1) vs))) (sym is)
