-- How many members an object has.
use Rattle.std.proofs.Common.{◌≡◌, suc, List, [], ◌∷◌, String, Global, length, refl, ap}
use Rattle.serde_json.specs.declared.value.Value.{Value}
use Rattle.serde_json.specs.View.{members_view}
use Rattle.certificate_text.specs.Reading.{members_len}

pub members_counted : (es : List (String Global × Value)) → members_len (members_view es) ≡ length es
members_counted [] = refl
members_counted (e ∷ es) = ap suc (members_counted es)
