-- The keys of an object, as the program walks them.
use Rattle.std.proofs.Common.{◌≡◌, ℕ, Bool, ◌&&◌, List, [], ◌∷◌, String, string_bytes, ap, refl, Global}
use Rattle.std.specs.List.{list_all}
use Rattle.std.specs.Map as map
use Rattle.serde_json.specs.declared.value.Value.{Value}
use Rattle.serde_json.specs.View.{members_view}
use Rattle.record_reading.specs.Reading.Fields.{keys_of}

-- a test of all keys
pub list_all-keys_of : (p : List ℕ → Bool) (es : List (String Global × Value))
    → list_all p (keys_of (members_view es)) ≡ list_all (λ key. p (string_bytes key)) (map.keys_of es)
list_all-keys_of p [] = refl
list_all-keys_of p (e ∷ es) = ap (λ b. p (string_bytes e.0) && b) (list_all-keys_of p es)
