-- A history's actions on a node, entry by entry.
use Rattle.std.proofs.Common.{◌≡◌, ◌≢◌, ◌≤◌, ◌<◌, ℕ, zero, suc, ◌+◌, ◌==◌, Bool, true, false, List, [], ◌∷◌, ◌++◌, Some, drop, get_or, length, slice_get, refl, sym, ◌∙◌, ap, map, subst, arith, rules, tests}
use Rattle.std.specs.Prelude.{◌↔◌, if◌then◌else◌}
use Rattle.std.proofs.lemmas.List.{append_cancel_left, drop_all, length-drop, length-map}
use Rattle.std.proofs.lemmas.Option.{same_Some}
use Rattle.book_events.specs.declared.entry.Entry.{Entry}
use Rattle.book_events.specs.declared.entry.Entry.TheVariants as entries
use Rattle.sysmem_alloc.specs.Entry.{BookEntry, Acted, Decided, entry_in, deed_with}
use Rattle.verdict_claims.specs.Asked.{asks_at}
use Rattle.sysmem_tree.specs.declared.action.ActionKind.{ActionKind}
use Rattle.sysmem_tree.specs.declared.action.Action.{Action}
use Rattle.sysmem_tree.specs.ActionKind.{Deed, deed_of}
use Rattle.sysmem_tree.specs.Domain.{TreeFacts}
use Rattle.sysmem_tree.specs.Node.{NodeFacts}
use Rattle.sysmem_room.specs.Agreeing.{own_deeds, book_log}

pub log_cons : (i : ℕ) (e : BookEntry) (es : List BookEntry) → book_log (e ∷ es) i ≡ own_deeds i e ++ book_log es i
log_cons i (Decided c) es = refl
log_cons i (Acted k deed) es = by (k == i) refl where
  by : (b : Bool) → (k == i) ≡ b → book_log (Acted k deed ∷ es) i ≡ (if k == i then deed ∷ [] else []) ++ book_log es i
  by true is = cc
  by false is = cc

pub drop_at : {A B : Type 0} (f : A → B) (xs : List A) (k : ℕ) (x : A) → slice_get xs k ≡ Some x → drop k (map f xs) ≡ f x ∷ drop (k + 1) (map f xs)
drop_at f [] k x at = absurd (cc)
drop_at f (y ∷ ys) zero x at = ap (λ z. f z ∷ map f ys) (same_Some y x at)
drop_at f (y ∷ ys) (suc k) x at = let more : suc (k + 1) ≡ suc k + 1 = omega arith in drop_at f ys k x at ∙ ap (λ n. f x ∷ drop n (map f (y ∷ ys))) more

-- one entry read
pub reads : (i : ℕ) (e : BookEntry) (as' : List Action) (k : ℕ) (a : Action) → slice_get as' k ≡ Some a → own_deeds i e ≡ deed_of a ∷ []
    → drop k (map deed_of as') ≡ own_deeds i e ++ drop (k + 1) (map deed_of as')
reads i e as' k a at is = drop_at deed_of as' k a at ∙ ap (λ ds. ds ++ drop (k + 1) (map deed_of as')) (sym is)

-- all agrees exactly where what is left agrees
abbrev pub Left : List NodeFacts → ℕ → List Entry → List Action → ℕ → ℕ → Type 0
Left nodes i es as' k at = (book_log (map (entry_in nodes) (drop k es)) i ≡ drop at (map deed_of as')) ↔ (book_log (map (entry_in nodes) es) i ≡ map deed_of as')

-- what an entry and the entries after it have
log_drop : (nodes : List NodeFacts) (i : ℕ) (es : List Entry) (k : ℕ) (e : Entry) → slice_get es k ≡ Some e
    → book_log (map (entry_in nodes) (drop k es)) i ≡ own_deeds i (entry_in nodes e) ++ book_log (map (entry_in nodes) (drop (k + 1) es)) i
log_drop nodes i es k e here = ap (λ xs. book_log xs i) (drop_map es k e here) ∙ log_cons i (entry_in nodes e) (map (entry_in nodes) (drop (k + 1) es)) where
  drop_map : (xs : List Entry) (j : ℕ) (x : Entry) → slice_get xs j ≡ Some x → map (entry_in nodes) (drop j xs) ≡ entry_in nodes x ∷ map (entry_in nodes) (drop (j + 1) xs)
  drop_map [] j x at = absurd (cc)
  drop_map (y ∷ ys) zero x at = ap (λ z. entry_in nodes z ∷ map (entry_in nodes) ys) (same_Some y x at)
  drop_map (y ∷ ys) (suc j) x at = let more : suc (j + 1) ≡ suc j + 1 = omega arith in drop_map ys j x at ∙ ap (λ n. entry_in nodes x ∷ map (entry_in nodes) (drop n (y ∷ ys))) more

pub left_on : (nodes : List NodeFacts) (i : ℕ) (es : List Entry) (as' : List Action) (k at next : ℕ) (e : Entry) → slice_get es k ≡ Some e
    → drop at (map deed_of as') ≡ own_deeds i (entry_in nodes e) ++ drop next (map deed_of as') → Left nodes i es as' k at → Left nodes i es as' (k + 1) next
left_on nodes i es as' k at next e here read left =
    let own = own_deeds i (entry_in nodes e) in
    let rest = book_log (map (entry_in nodes) (drop (k + 1) es)) i in
    let split = log_drop nodes i es k e here in (
      λ is. left.0 (split ∙ (ap (λ ds. own ++ ds) is ∙ sym read)),
      λ is. append_cancel_left own rest (drop next (map deed_of as')) (sym split ∙ (left.1 is ∙ read)),
    )

-- nothing agrees where an entry isn't read
pub left_unread : (nodes : List NodeFacts) (i : ℕ) (es : List Entry) (as' : List Action) (k at : ℕ) (e : Entry) → slice_get es k ≡ Some e
    → ((rest : List Deed) → drop at (map deed_of as') ≢ own_deeds i (entry_in nodes e) ++ rest) → Left nodes i es as' k at → book_log (map (entry_in nodes) es) i ≢ map deed_of as'
left_unread nodes i es as' k at e here unread left is = unread (book_log (map (entry_in nodes) (drop (k + 1) es)) i) (sym (left.1 is) ∙ log_drop nodes i es k e here)

-- where all entries were read, all agrees exactly where no action is left
pub left_end : (nodes : List NodeFacts) (i : ℕ) (es : List Entry) (as' : List Action) (k at : ℕ) → length es ≤ k → at ≤ length as' → Left nodes i es as' k at
    → (at ≡ length as') ↔ (book_log (map (entry_in nodes) es) i ≡ map deed_of as')
left_end nodes i es as' k at past within left =
    let none : book_log (map (entry_in nodes) (drop k es)) i ≡ [] = ap (λ xs. book_log (map (entry_in nodes) xs) i) (drop_all k es past) in (
      λ end. left.0 (none ∙ sym (drop_all at (map deed_of as') (omega (arith, length-map as' deed_of, end)))),
      λ is.
          let rest : drop at (map deed_of as') ≡ [] = sym (left.1 is) ∙ none in
          omega (arith, within, length-drop at (map deed_of as'), ap length rest, length-map as' deed_of),
    )

-- the element at an index
pub at_get : {X : Type 0} (xs : List X) (k : ℕ) (x : X) → k < length xs → x ≡ get_or xs k x → slice_get xs k ≡ Some x
at_get [] k x less is = absurd (omega (arith, less))
at_get (y ∷ ys) zero x less is = ap Some (sym is)
at_get (y ∷ ys) (suc k) x less is = at_get ys k x (omega (arith, less)) is

-- what the entries say as they are kept, and in the book's history
pub in_history : (t u : TreeFacts) (raw : List Entry) (es : List BookEntry) (i : ℕ) → t ≡ u → map (entry_in u.nodes) raw ≡ es → book_log es i ≡ book_log (map (entry_in t.nodes) raw) i
in_history t u raw es i same kept = sym (ap (λ xs. book_log xs i) kept) ∙ sym (ap (λ (x : TreeFacts). book_log (map (entry_in x.nodes) raw) i) same)

-- an entry with an action isn't read where no action is left
pub unread_end : (i : ℕ) (e : BookEntry) (as' : List Action) (at : ℕ) (d : Deed) → own_deeds i e ≡ d ∷ [] → length as' ≤ at
    → (rest : List Deed) → drop at (map deed_of as') ≢ own_deeds i e ++ rest
unread_end i e as' at d own past rest is =
    let none : drop at (map deed_of as') ≡ [] = drop_all at (map deed_of as') (omega (arith, length-map as' deed_of, past)) in
    let some : own_deeds i e ++ rest ≡ d ∷ rest = ap (λ ds. ds ++ rest) own in
    absurd (cc (sym none ∙ (is ∙ some)))

-- nor where the next action is another
pub unread_other : (i : ℕ) (e : BookEntry) (as' : List Action) (at : ℕ) (a : Action) (d : Deed) → own_deeds i e ≡ d ∷ [] → slice_get as' at ≡ Some a → d ≢ deed_of a
    → (rest : List Deed) → drop at (map deed_of as') ≢ own_deeds i e ++ rest
unread_other i e as' at a d own here other rest is =
    let next : drop at (map deed_of as') ≡ deed_of a ∷ drop (at + 1) (map deed_of as') = drop_at deed_of as' at a here in
    let some : own_deeds i e ++ rest ≡ d ∷ rest = ap (λ ds. ds ++ rest) own in
    let heads : deed_of a ∷ drop (at + 1) (map deed_of as') ≡ d ∷ rest = sym next ∙ (is ∙ some) in
    other (cc)

pub own_acted : (nodes : List NodeFacts) (i k : ℕ) (kind : ActionKind) (e : Entry) (d : Deed) → e ≡ entries.Acted k kind → k ≡ i → deed_with (asks_at nodes i) kind ≡ d
    → own_deeds i (entry_in nodes e) ≡ d ∷ []
own_acted nodes i k kind e d is same own =
    ap (λ x. own_deeds i (entry_in nodes x)) is ∙ (subst (λ j. own_deeds i (Acted j (deed_with (asks_at nodes j) kind)) ≡ deed_with (asks_at nodes j) kind ∷ []) (sym same) here ∙ ap (λ x. x ∷ []) (ap (λ j. deed_with (asks_at nodes j) kind) same ∙ own)) where
      here : own_deeds i (Acted i (deed_with (asks_at nodes i) kind)) ≡ deed_with (asks_at nodes i) kind ∷ []
      here = let t : (i == i) ≡ true = search (rules, tests) in ap (λ b. if b then deed_with (asks_at nodes i) kind ∷ [] else []) t
