-- The entries of a history, one after the other.
use Rattle.std.proofs.Common.{◌≡◌, ◌<◌, ℕ, zero, suc, ◌+◌, List, [], ◌∷◌, ◌++◌, length, get_or, map, take, slice_get, arith, Option, Some, sym, ◌∙◌, ap}
use Rattle.std.specs.Prelude.{option_map}
use Rattle.std.specs.Arc.{arc_value}
use Rattle.std.proofs.lemmas.List.{map-append}
use Rattle.std.proofs.lemmas.Option.{same_Some, slice_get-get_or, slice_get-map}
use Rattle.book_events.specs.declared.entry.Entry.{Entry}
use Rattle.book_events.specs.declared.entry.Entry.TheVariants as entries
use Rattle.certificate_text.specs.Told.{decision_data}
use Rattle.live_script.specs.Texts.{certified_of}
use Rattle.negotiation_inputs.specs.Platform.{PlatformFacts}
use Rattle.sysmem_alloc.specs.Entry.{BookEntry, entry_in}
use Rattle.sysmem_tree.specs.Node.{NodeFacts}
use Rattle.sysmem_tree.specs.Path.{path_of}
use Rattle.verdict_claims.specs.declared.certificate.Claim.{Claim}

-- one more item is taken
taken : {A : Type 0} (xs : List A) (k : ℕ) (x : A) → slice_get xs k ≡ Some x → take (suc k) xs ≡ take k xs ++ x ∷ []
taken [] zero x is = absurd (cc is)
taken [] (suc k) x is = absurd (cc is)
taken (y ∷ xs) zero x is = ap (λ z. z ∷ []) (same_Some y x is)
taken (y ∷ xs) (suc k) x is = ap (λ zs. y ∷ zs) (taken xs k x is)

pub taken_more : {A : Type 0} (xs : List A) (k : ℕ) (x : A) → slice_get xs k ≡ Some x → take (k + 1) xs ≡ take k xs ++ x ∷ []
taken_more xs k x is = let next : k + 1 ≡ suc k = omega arith in ap (λ j. take j xs) next ∙ taken xs k x is

pub mapped_more : {A B : Type 0} (f : A → B) (xs : List A) (k : ℕ) (x : A) → slice_get xs k ≡ Some x → map f (take (k + 1) xs) ≡ map f (take k xs) ++ f x ∷ []
mapped_more f xs k x is = ap (map f) (taken_more xs k x is) ∙ map-append f (take k xs) (x ∷ [])

-- an entry as it is kept, and the history's at its place
pub entry_at : (f : Entry → BookEntry) (raw : List Entry) (es : List BookEntry) (i : ℕ) (e : Entry) → i < length raw → e ≡ get_or raw i e → map f raw ≡ es → slice_get es i ≡ Some (f e)
entry_at f raw es i e less is whole =
    ap (λ xs. slice_get xs i) (sym whole) ∙ slice_get-map f raw i ∙ ap (option_map f) (slice_get-get_or raw i e less ∙ ap Some (sym is))

-- what a certificate has of a decision as it is kept
pub certified_as : (p q : PlatformFacts) (nodes : List NodeFacts) (path : List ℕ) (e : Entry) (r : ℕ) (claim : _) (o : Option Claim) → p ≡ q → path ≡ path_of nodes r → o ≡ option_map (λ shared. arc_value shared) claim
    → e ≡ entries.Decided r claim → decision_data p path o ∷ [] ≡ certified_of q nodes (entry_in nodes e)
certified_as p q nodes path e r claim o platform way same is =
    ap (λ (x : PlatformFacts). decision_data x path o ∷ []) platform
    ∙ (ap (λ (x : List ℕ). decision_data q x o ∷ []) way
    ∙ (ap (λ (x : Option Claim). decision_data q (path_of nodes r) x ∷ []) same
    ∙ ap (λ (x : Entry). certified_of q nodes (entry_in nodes x)) (sym is)))
