-- What is put after what is written, for private clauses: data, a
-- member, or the members of an object.
use Rattle.std.specs.Prelude.{◌≡◌, ℕ, ◌++◌, List, ◌∷◌, OnOk, Result}
use Rattle.json.specs.Token.{Token, key}
use Rattle.json.specs.Tree.{members_tokens}
use Rattle.json.specs.Written.{Written}
use Rattle.serde_json.specs.Data.{Data, Members}
use Rattle.serde_json.specs.Written.{members_outline}
use Rattle.certificate_text.specs.Certificate.{tokens_of}

-- these tokens were put after the others
pub record Adds (old new : Written) (ts : List Token) : Type 0 where
  pub tokens : new.tokens ≡ old.tokens ++ ts
  pub before : new.before ≡ old.before

-- where the result is Ok, the data was put after what is written
abbrev pub PutsData : {T E : Type 0} → Result T E → Written → Written → Data → Type 0
PutsData result old new d = OnOk result (Adds old new (tokens_of d))

-- and here under a key
abbrev pub PutsMember : {T E : Type 0} → Result T E → Written → Written → List ℕ → Data → Type 0
PutsMember result old new k d = OnOk result (Adds old new (key k ∷ tokens_of d))

-- the tokens of an object's members, with its end
abbrev pub rest_of : Members → List Token
rest_of ms = members_tokens (members_outline ms)

-- members were put before whatever follows
pub record AddsMembers (old new : Written) (with : Members → Members) : Type 0 where
  pub tokens : (ms : Members) → new.tokens ++ rest_of ms ≡ old.tokens ++ rest_of (with ms)
  pub before : new.before ≡ old.before

-- where the result is Ok, they were put so
abbrev pub PutsMembers : {T E : Type 0} → Result T E → Written → Written → (Members → Members)
    → Type 0
PutsMembers result old new with = OnOk result (AddsMembers old new with)
