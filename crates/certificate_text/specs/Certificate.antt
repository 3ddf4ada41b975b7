-- A certificate: the decisions as one list, and a newline.
use Rattle.std.specs.Prelude.{◌≡◌, ℕ, ◌++◌, List, [], ◌∷◌}
use Rattle.json.specs.Token.{Token, begin_array}
use Rattle.json.specs.Tree.{json_tokens}
use Rattle.json.specs.Written.{Written}
use Rattle.serde_json.specs.Data.{Data, array}
use Rattle.serde_json.specs.View.{items_of}
use Rattle.serde_json.specs.Written.{outline, compact_text}
use Rattle.std.specs.List.{flat_map}

-- the tokens of data
abbrev pub tokens_of : Data → List Token
tokens_of d = json_tokens (outline d)

-- a list is written of which there are these decisions so far
pub record HasTaken (written : Written) (decisions : List Data) : Type 0 where
  pub tokens : written.tokens ≡ begin_array ∷ flat_map tokens_of decisions
  pub before : written.before ≡ []

-- the text of a certificate of these decisions
abbrev pub certificate_text : List Data → List ℕ
certificate_text decisions = compact_text (array (items_of decisions)) ++ 10 ∷ []
