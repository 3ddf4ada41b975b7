-- A search among references to texts is a search among the texts.
use Rattle.std.proofs.Common.{◌≡◌, ℕ, ◌+◌, ◌∷◌, ◌++◌, [], List, Bool, true, false, ◌||◌, not, cond, length, position, Some, None, ap, refl, ◌∙◌, sym, nat_le, nat_lt, bytes_eq, if◌then◌else◌}
use Rattle.std.proofs.lemmas.List.{length-map}
use Rattle.std.specs.Prelude.{Option, unwrap_or}
use Rattle.std.specs.List.{list_any, position_or_len}
use Rattle.std.specs.Borrow.{Bor}
use Rattle.indexmap.specs.IndexSet.{insert_key}
use Rattle.script_reading.specs.Known.{texts}
use Rattle.script_reading.specs.Names.{with_actor}
use Rattle.script_reading.specs.Script.{actor_number, actors_after}

pub list_any-texts : (t : List ℕ → Bool) (ks : List (Bor (List ℕ))) → list_any t (texts ks) ≡ list_any (λ k. t k.now) ks
list_any-texts t [] = refl
list_any-texts t (k ∷ ks) = ap (λ b. t k.now || b) (list_any-texts t ks)

pub texts-append : (ks js : List (Bor (List ℕ))) → texts (ks ++ js) ≡ texts ks ++ texts js
texts-append [] js = refl
texts-append (k ∷ ks) js = ap (λ l. k.now ∷ l) (texts-append ks js)

pub position_or_len-texts : (t : List ℕ → Bool) (ks : List (Bor (List ℕ))) → position_or_len t (texts ks) ≡ position_or_len (λ k. t k.now) ks
position_or_len-texts t [] = refl
position_or_len-texts t (k ∷ ks) = ap (λ n. cond (not (t k.now)) (1 + n) 0) (position_or_len-texts t ks)

pub position-texts : (t : List ℕ → Bool) (ks : List (Bor (List ℕ))) → position t (texts ks) ≡ position (λ k. t k.now) ks
position-texts t ks =
    let len : length (texts ks) ≡ length ks = length-map ks (λ (k : Bor (List ℕ)). k.now) in
    ap (λ n. cond (nat_lt (position_or_len t (texts ks)) n) (Some (position_or_len t (texts ks))) None) len
    ∙ ap (λ m. cond (nat_lt m (length ks)) (Some m) None) (position_or_len-texts t ks)

pub ruleset texts_rules = (list_any-texts, texts-append, position-texts)

-- whether two references point to the same text
abbrev same_text : Bor (List ℕ) → Bor (List ℕ) → Bool
same_text x y = bytes_eq x.now y.now

texts-insert_key : (ks : List (Bor (List ℕ))) (k : Bor (List ℕ)) → texts (insert_key same_text ks k) ≡ with_actor (texts ks) k.now
texts-insert_key ks k =
    by (list_any (same_text k) ks) ∙ ap (λ b. if b then texts ks else texts ks ++ k.now ∷ []) (sym (list_any-texts (bytes_eq k.now) ks))
  where
    by : (b : Bool) → texts (if b then ks else ks ++ k ∷ []) ≡ (if b then texts ks else texts ks ++ k.now ∷ [])
    by true = refl
    by false = texts-append ks (k ∷ [])

-- the actors after one more, where there are n
pub actors_joined : (ks after : List (Bor (List ℕ))) (k : Bor (List ℕ)) (n : ℕ) → after ≡ insert_key same_text ks k → n ≡ length after
    → (if nat_le n 16 then Some (texts after) else None) ≡ actors_after k.now (texts ks)
actors_joined ks after k n made counted =
    let len : length (texts after) ≡ length after = length-map after (λ (r : Bor (List ℕ)). r.now) in
    ap (λ m. if nat_le m 16 then Some (texts after) else None) (counted ∙ sym len)
    ∙ ap (λ names. if nat_le (length names) 16 then Some names else None) (ap texts made ∙ texts-insert_key ks k)

-- an actor's number, where that was looked up and there are n
pub number_told : (ks : List (Bor (List ℕ))) (actor : List ℕ) (place : Option ℕ) (n number : ℕ) → place ≡ position (bytes_eq actor) (texts ks) → n ≡ length ks → number ≡ unwrap_or place n
    → number ≡ actor_number actor (texts ks)
number_told ks actor place n number found counted is =
    let len : length (texts ks) ≡ length ks = length-map ks (λ (r : Bor (List ℕ)). r.now) in
    is ∙ (ap (λ o. unwrap_or o n) found ∙ ap (unwrap_or (position (bytes_eq actor) (texts ks))) (counted ∙ sym len))
