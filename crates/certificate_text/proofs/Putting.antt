-- What is put in turn is put as a whole.
use Rattle.std.proofs.Common.{◌≡◌, ◌++◌, ℕ, List, [], ◌∷◌, OnOk, Result, Ok, Err, append_assoc, append-nil, refl, sym, ap, ap₂, ◌∙◌}
use Rattle.std.specs.List.{flat_map}
use Rattle.json.specs.Print.{print}
use Rattle.json.specs.Token.{Token}
use Rattle.json.specs.Tree.{items_tokens}
use Rattle.json.specs.Written.{Written, Writes}
use Rattle.serde_json.specs.Data.{Data, array, Members, member}
use Rattle.serde_json.specs.View.{items_of}
use Rattle.serde_json.specs.Written.{items_outline}
use Rattle.serde_json.proofs.Texts.{print-outline}
use Rattle.certificate_text.specs.Certificate.{tokens_of, HasTaken, certificate_text}
use Rattle.certificate_text.specs.Puts.{rest_of, Adds, AddsMembers}

-- tokens, and then others
pub adds : (a b c : Written) (ts us : List Token) → Adds a b ts → Adds b c us → Adds a c (ts ++ us)
adds a b c ts us first second = record {
  tokens = second.tokens ∙ ap (λ xs. xs ++ us) first.tokens ∙ append_assoc a.tokens ts us;
  before = second.before ∙ first.before;
}

pub then : {T E : Type 0} (r : Result T E) (a b c : Written) (ts us : List Token) → Adds a b ts → OnOk r (Adds b c us) → OnOk r (Adds a c (ts ++ us))
then (Ok x) a b c ts us first second = adds a b c ts us first second
then (Err e) a b c ts us first second = second

-- a token that was written
pub token : {E : Type 0} (a b : Written) (t : Token) → (let r : Result (Unit {0}) E = Ok tt in Writes r a b t) → Adds a b (t ∷ [])
token a b t w = record { tokens = w.ok; before = w.room.0 }

-- a token that is written last
pub last : {E : Type 0} (r : Result (Unit {0}) E) (a b : Written) (t : Token) → Writes r a b t → OnOk r (Adds a b (t ∷ []))
last (Ok x) a b t w = record { tokens = w.ok; before = w.room.0 }
last (Err e) a b t w = tt

-- a member, before whatever follows
pub member_added : (a b : Written) (k : List ℕ) (d : Data) → Adds a b (Token.key k ∷ tokens_of d) → AddsMembers a b (member k d)
member_added a b k d h = record {
  tokens = λ ms. ap (λ xs. xs ++ rest_of ms) h.tokens ∙ append_assoc a.tokens (Token.key k ∷ tokens_of d) (rest_of ms);
  before = h.before;
}

pub last_member : {T E : Type 0} (r : Result T E) (a b : Written) (k : List ℕ) (d : Data) → OnOk r (Adds a b (Token.key k ∷ tokens_of d)) → OnOk r (AddsMembers a b (member k d))
last_member (Ok x) a b k d h = member_added a b k d h
last_member (Err e) a b k d h = h

-- members, and then others
pub then_members : {T E : Type 0} (r : Result T E) (a b c : Written) (f g : Members → Members) → AddsMembers a b f → OnOk r (AddsMembers b c g) → OnOk r (AddsMembers a c (λ ms. f (g ms)))
then_members (Ok x) a b c f g first second = record { tokens = λ ms. second.tokens ms ∙ first.tokens (g ms); before = second.before ∙ first.before }
then_members (Err e) a b c f g first second = second

-- members, and then the end of the object
pub then_end : {T E : Type 0} (r : Result T E) (a b c : Written) (f : Members → Members) (ms : Members) → AddsMembers a b f → OnOk r (Adds b c (rest_of ms)) → OnOk r (Adds a c (rest_of (f ms)))
then_end (Ok x) a b c f ms first second = record { tokens = second.tokens ∙ first.tokens ms; before = second.before ∙ first.before }
then_end (Err e) a b c f ms first second = second

-- a list's tokens end with its bracket
ended : (ds : List Data) → flat_map tokens_of ds ++ Token.end_array ∷ [] ≡ items_tokens (items_outline (items_of ds))
ended [] = refl
ended (d ∷ ds) = append_assoc (tokens_of d) (flat_map tokens_of ds) (Token.end_array ∷ []) ∙ ap (λ ts. tokens_of d ++ ts) (ended ds)

-- the text of all decisions
pub finished : (a b : Written) (ds : List Data) (text : List ℕ) → HasTaken a ds → Adds a b (Token.end_array ∷ []) → text ≡ b.before ++ print b.tokens → text ++ 10 ∷ [] ≡ certificate_text ds
finished a b ds text taken last is =
    let tokens : b.tokens ≡ tokens_of (array (items_of ds)) = last.tokens ∙ ap (λ ts. ts ++ Token.end_array ∷ []) taken.tokens ∙ ap (λ ts. Token.begin_array ∷ ts) (ended ds) in
    let before : b.before ≡ [] = last.before ∙ taken.before in
    ap (λ t. t ++ 10 ∷ []) (is ∙ ap₂ (λ xs ts. xs ++ print ts) before tokens ∙ print-outline (array (items_of ds)))

one_more : (ds : List Data) (d : Data) → flat_map tokens_of ds ++ tokens_of d ≡ flat_map tokens_of (ds ++ d ∷ [])
one_more [] d = sym (append-nil (tokens_of d))
one_more (e ∷ ds) d = append_assoc (tokens_of e) (flat_map tokens_of ds) (tokens_of d) ∙ ap (λ ts. tokens_of e ++ ts) (one_more ds d)

-- a further decision
pub taken : {T E : Type 0} (r : Result T E) (a b : Written) (ds : List Data) (d : Data) → HasTaken a ds → OnOk r (Adds a b (tokens_of d)) → OnOk r (HasTaken b (ds ++ d ∷ []))
taken (Ok x) a b ds d before more = record {
  tokens = more.tokens ∙ ap (λ ts. ts ++ tokens_of d) before.tokens ∙ ap (λ ts. Token.begin_array ∷ ts) (one_more ds d);
  before = more.before ∙ before.before;
}
taken (Err e) a b ds d before more = more
