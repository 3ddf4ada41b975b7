-- Places of actions, entry by entry.
use Rattle.std.proofs.Common.{◌≡◌, ◌≢◌, ◌≤◌, ◌<◌, ◌⊎◌, inl, inr, ℕ, zero, suc, ◌+◌, ◌==◌, Bool, true, false, List, [], ◌∷◌, ◌++◌, Option, Some, None, Ok, get_or, length, replicate, slice_get, slice_set, take, refl, sym, ◌∙◌, ap, map, subst, arith, rules, tests, length-append, append-nil}
use Rattle.std.specs.Prelude.{◌-◌, IfSome, if◌then◌else◌, filter_map, option_map}
use Rattle.std.proofs.lemmas.List.{append_assoc, get_or-set_other, get_or-set_same, length-map, length-set, length-take-le, map-append, replicate-append-replicate, take-append-le, take_all}
use Rattle.std.proofs.lemmas.List.Elements.{filter_map-append}
use Rattle.std.proofs.lemmas.Option.{same_Some, slice_get-map, slice_get_within}
use Rattle.book_events.specs.declared.entry.Entry.{Entry}
use Rattle.book_events.specs.declared.entry.Entry.TheVariants as entries
use Rattle.sysmem_alloc.specs.Decision.{Claimed}
use Rattle.sysmem_alloc.specs.Entry.{BookEntry, Acted, Decided, deed_with, entry_in, tree_entry}
use Rattle.verdict_claims.specs.Asked.{asks_at}
use Rattle.sysmem_tree.specs.declared.action.Action.{Action}
use Rattle.sysmem_tree.specs.declared.action.ActionKind.{ActionKind}
use Rattle.sysmem_tree.specs.declared.action.ActionKind.TheVariants as kinds
use Rattle.sysmem_tree.specs.ActionKind.{Deed, deed_of, duplicates, kind_of}
use Rattle.sysmem_tree.specs.Domain.{TreeFacts}
use Rattle.sysmem_tree.specs.History.{deed_on}
use Rattle.sysmem_tree.specs.Node.{NodeFacts}
use Rattle.sysmem_tree.specs.Tree.{Applied, applied}
use Rattle.sysmem_tree.proofs.CallerLemmas.{accepted}
use Rattle.sysmem_room.specs.declared.places.Places.{Places}
use Rattle.sysmem_room.specs.Agreeing.{book_log, own_deeds}
use Rattle.sysmem_room.specs.Places.{ArePlaces, EndsWith, HasAllOf}
use Rattle.node_limits.proofs.CallerLemmas.{grows}
use Rattle.sysmem_room.proofs.Logs.{again_or_other}
use Rattle.sysmem_room.proofs.Reading.{log_cons}

pub log_push : (es : List BookEntry) (e : BookEntry) (i : ℕ) → book_log (es ++ e ∷ []) i ≡ book_log es i ++ own_deeds i e
log_push es e i =
    ap (filter_map (deed_on i)) (map-append tree_entry es (e ∷ []))
    ∙ (filter_map-append (deed_on i) (map tree_entry es) (map tree_entry (e ∷ []))
    ∙ ap (λ ds. book_log es i ++ ds) (log_cons i e [] ∙ append-nil (own_deeds i e)))

-- what stands in a list with one more element
pushed_at : {X : Type 0} (xs : List X) (y : X) (k : ℕ) (x : X) → slice_get (xs ++ y ∷ []) k ≡ Some x → (slice_get xs k ≡ Some x) ⊎ ((k ≡ length xs) × (y ≡ x))
pushed_at [] y zero x at = inr (refl, same_Some y x at)
pushed_at [] y (suc k) x at = absurd (cc)
pushed_at (z ∷ zs) y zero x at = inl at
pushed_at (z ∷ zs) y (suc k) x at = on (pushed_at zs y k x at) where
  on : (slice_get zs k ≡ Some x) ⊎ ((k ≡ length zs) × (y ≡ x)) → (slice_get zs k ≡ Some x) ⊎ ((suc k ≡ suc (length zs)) × (y ≡ x))
  on (inl here) = inl here
  on (inr (last, same)) = inr (ap suc last, same)

-- one more entry that isn't on the node
other_push : (es : List BookEntry) (e : BookEntry) (i p : ℕ) → own_deeds i e ≡ [] → HasAllOf es i p → HasAllOf (es ++ e ∷ []) i p
other_push es e i p none all =
    let many : length (es ++ e ∷ []) ≡ length es + 1 = length-append es (e ∷ []) in
    record {
      within = omega (arith, many, all.within);
      log = ap (λ xs. book_log xs i) (take-append-le p es (e ∷ []) all.within)
          ∙ (all.log ∙ sym (log_push es e i ∙ (ap (λ ds. book_log es i ++ ds) none ∙ append-nil (book_log es i))));
    }

-- all entries have all
whole : (es : List BookEntry) (i n : ℕ) → n ≡ length es → HasAllOf es i n
whole es i n is = record { within = omega (arith, is); log = ap (λ xs. book_log xs i) (take_all n es (omega (arith, is))) }

-- what is before an entry stays before it
before_push : (es : List BookEntry) (e : BookEntry) (i k p : ℕ) → k ≤ length es → HasAllOf (take k es) i p → HasAllOf (take k (es ++ e ∷ [])) i p
before_push es e i k p few all = subst (λ xs. HasAllOf xs i p) (sym (take-append-le k es (e ∷ []) few)) all

-- one more entry that isn't on the node leaves what its actions end with
other_end : (es : List BookEntry) (e : BookEntry) (i p many : ℕ) → own_deeds i e ≡ [] → EndsWith es i p many → EndsWith (es ++ e ∷ []) i p many
other_end es e i p many none ends =
    let long : length (es ++ e ∷ []) ≡ length es + 1 = length-append es (e ∷ []) in
    record {
      within = omega (arith, long, ends.within);
      few = omega (arith, long, ends.few);
      log = log_push es e i ∙ (ap (λ ds. book_log es i ++ ds) none ∙ (append-nil (book_log es i)
          ∙ (ends.log ∙ ap (λ xs. book_log xs i ++ replicate many duplicates) (sym (take-append-le p es (e ∷ []) ends.within)))));
    }

-- one more duplicate on the node
again_end : (es : List BookEntry) (i p many : ℕ) → EndsWith es i p many → EndsWith (es ++ Acted i duplicates ∷ []) i p (many + 1)
again_end es i p many ends =
    let long : length (es ++ Acted i duplicates ∷ []) ≡ length es + 1 = length-append es (Acted i duplicates ∷ []) in
    let t : (i == i) ≡ true = search (rules, tests) in
    let alone : own_deeds i (Acted i duplicates) ≡ duplicates ∷ [] = ap (λ (x : Bool). if x then duplicates ∷ [] else []) t in
    record {
      within = omega (arith, long, ends.within);
      few = omega (arith, long, ends.few);
      log = log_push es (Acted i duplicates) i ∙ (ap (λ ds. book_log es i ++ ds) alone ∙ (ap (λ ds. ds ++ duplicates ∷ []) ends.log
          ∙ (append_assoc (book_log (take p es) i) (replicate many duplicates) (duplicates ∷ [])
          ∙ (ap (λ ds. book_log (take p es) i ++ ds) (replicate-append-replicate many 1 duplicates)
          ∙ ap (λ xs. book_log xs i ++ replicate (many + 1) duplicates) (sym (take-append-le p es (Acted i duplicates ∷ []) ends.within))))));
    }

-- up to the last entry there is no duplicate to come
no_end : (es : List BookEntry) (i p many : ℕ) → p ≡ length es → many ≡ 0 → EndsWith es i p many
no_end es i p many all none = record {
  within = omega (arith, all);
  few = omega (arith, none);
  log = sym (append-nil (book_log es i)) ∙ (ap (λ xs. book_log xs i ++ []) (sym (take_all p es (omega (arith, all)))) ∙ ap (λ m. book_log (take p es) i ++ replicate m duplicates) (sym none));
}

ends_as : (es fs : List BookEntry) (i j p q m n : ℕ) → es ≡ fs → i ≡ j → p ≡ q → m ≡ n → EndsWith es i p m → EndsWith fs j q n
ends_as es fs i j p q m n entries node place many ends =
    subst (λ xs. EndsWith xs j q n) entries (subst (λ x. EndsWith es x q n) node (subst (λ x. EndsWith es i x n) place (subst (λ x. EndsWith es i p x) many ends)))

-- a decision is on no node
pub decision_stays : (es : List BookEntry) (c : Claimed) (places : Places) → ArePlaces es places → ArePlaces (es ++ Decided c ∷ []) places
decision_stays es c places are = record {
  nodes = are.nodes;
  entries = are.entries;
  others = are.others;
  counts = are.counts;
  last = λ i few. other_push es (Decided c) i (get_or places.last i 0) refl (are.last i few);
  before = λ k i deed here. at k i deed (pushed_at es (Decided c) k (Acted i deed) here);
  end = λ i few. other_end es (Decided c) i (get_or places.other i 0) (get_or places.duplicates i 0) refl (are.end i few);
} where
  at : (k i : ℕ) (deed : Deed) → (slice_get es k ≡ Some (Acted i deed)) ⊎ ((k ≡ length es) × (Decided c ≡ Acted i deed)) → HasAllOf (take k (es ++ Decided c ∷ [])) i (get_or places.before k 0)
  at k i deed (inl here) = let less = slice_get_within es k (Acted i deed) here in before_push es (Decided c) i k (get_or places.before k 0) (omega (arith, less)) (are.before k i deed here)
  at k i deed (inr (_, same)) = absurd (cc)

-- an action is the last one on its node then, and before it is what was the last
pub action_stays : (es : List BookEntry) (old new : Places) (i n : ℕ) (deed : Deed) → length es ≡ n → i < 128 → n < 640
    → new.last ≡ slice_set old.last i (n + 1) → new.before ≡ slice_set old.before n (get_or old.last i 0)
    → (kind_of deed ≡ kinds.Duplicate → (new.other ≡ old.other) × (new.duplicates ≡ slice_set old.duplicates i (get_or old.duplicates i 0 + 1)))
    → (kind_of deed ≢ kinds.Duplicate → (new.other ≡ slice_set old.other i (n + 1)) × (new.duplicates ≡ slice_set old.duplicates i 0))
    → ArePlaces es old → ArePlaces (es ++ Acted i deed ∷ []) new
action_stays es old new i n deed many node few last before again other are = record {
  nodes = ap length last ∙ (length-set old.last i (n + 1) ∙ are.nodes);
  entries = ap length before ∙ (length-set old.before n (get_or old.last i 0) ∙ are.entries);
  others = others_in (again_or_other deed);
  counts = counts_in (again_or_other deed);
  last = λ j small. last_at j small (i == j) refl;
  before = λ k j d here. before_at k j d (pushed_at es (Acted i deed) k (Acted j d) here);
  end = λ j small. end_at j small (again_or_other deed) (i == j) refl;
} where
  long : length (es ++ Acted i deed ∷ []) ≡ length es + 1
  long = length-append es (Acted i deed ∷ [])

  others_in : (deed ≡ duplicates) ⊎ (kind_of deed ≢ kinds.Duplicate) → length new.other ≡ 128
  others_in (inl is) = ap length (again (ap kind_of is)).0 ∙ are.others
  others_in (inr is) = ap length (other is).0 ∙ (length-set old.other i (n + 1) ∙ are.others)

  counts_in : (deed ≡ duplicates) ⊎ (kind_of deed ≢ kinds.Duplicate) → length new.duplicates ≡ 128
  counts_in (inl is) = ap length (again (ap kind_of is)).1 ∙ (length-set old.duplicates i (get_or old.duplicates i 0 + 1) ∙ are.counts)
  counts_in (inr is) = ap length (other is).1 ∙ (length-set old.duplicates i 0 ∙ are.counts)

  apart : (j : ℕ) → (i == j) ≡ false → j ≡ i → ⊥
  apart j at same = let t : (i == j) ≡ true = search (rules, tests, sym same) in absurd (cc)

  end_other : (j : ℕ) → j < 128 → (i == j) ≡ false → get_or old.other j 0 ≡ get_or new.other j 0 → get_or old.duplicates j 0 ≡ get_or new.duplicates j 0
      → EndsWith (es ++ Acted i deed ∷ []) j (get_or new.other j 0) (get_or new.duplicates j 0)
  end_other j small at place count =
      let none : own_deeds j (Acted i deed) ≡ [] = ap (λ (b : Bool). if b then deed ∷ [] else []) at in
      ends_as (es ++ Acted i deed ∷ []) (es ++ Acted i deed ∷ []) j j (get_or old.other j 0) (get_or new.other j 0) (get_or old.duplicates j 0) (get_or new.duplicates j 0)
      refl refl place count (other_end es (Acted i deed) j (get_or old.other j 0) (get_or old.duplicates j 0) none (are.end j small))

  end_at : (j : ℕ) → j < 128 → (deed ≡ duplicates) ⊎ (kind_of deed ≢ kinds.Duplicate) → (b : Bool) → (i == j) ≡ b
      → EndsWith (es ++ Acted i deed ∷ []) j (get_or new.other j 0) (get_or new.duplicates j 0)
  end_at j small (inl is) true at =
      let same : i ≡ j = search (rules, tests, at) in
      let place : get_or old.other i 0 ≡ get_or new.other j 0 = ap (λ xs. get_or xs i 0) (sym (again (ap kind_of is)).0) ∙ ap (λ x. get_or new.other x 0) same in
      let count : get_or new.duplicates i 0 ≡ get_or old.duplicates i 0 + 1 = ap (λ xs. get_or xs i 0) (again (ap kind_of is)).1 ∙ get_or-set_same old.duplicates i (get_or old.duplicates i 0 + 1) 0 (omega (arith, node, are.counts)) in
      ends_as (es ++ Acted i duplicates ∷ []) (es ++ Acted i deed ∷ []) i j (get_or old.other i 0) (get_or new.other j 0) (get_or old.duplicates i 0 + 1) (get_or new.duplicates j 0)
      (ap (λ d. es ++ Acted i d ∷ []) (sym is)) same place (sym count ∙ ap (λ x. get_or new.duplicates x 0) same)
      (again_end es i (get_or old.other i 0) (get_or old.duplicates i 0) (are.end i node))
  end_at j small (inr is) true at =
      let same : i ≡ j = search (rules, tests, at) in
      let place : get_or new.other i 0 ≡ n + 1 = ap (λ xs. get_or xs i 0) (other is).0 ∙ get_or-set_same old.other i (n + 1) 0 (omega (arith, node, are.others)) in
      let count : get_or new.duplicates i 0 ≡ 0 = ap (λ xs. get_or xs i 0) (other is).1 ∙ get_or-set_same old.duplicates i 0 0 (omega (arith, node, are.counts)) in
      no_end (es ++ Acted i deed ∷ []) j (get_or new.other j 0) (get_or new.duplicates j 0)
      (ap (λ x. get_or new.other x 0) (sym same) ∙ (place ∙ omega (arith, many, long))) (ap (λ x. get_or new.duplicates x 0) (sym same) ∙ count)
  end_at j small (inl is) false at =
      let place : get_or old.other j 0 ≡ get_or new.other j 0 = ap (λ xs. get_or xs j 0) (sym (again (ap kind_of is)).0) in
      let count : get_or new.duplicates j 0 ≡ get_or old.duplicates j 0 = ap (λ xs. get_or xs j 0) (again (ap kind_of is)).1 ∙ get_or-set_other old.duplicates i j (get_or old.duplicates i 0 + 1) 0 (apart j at) in
      end_other j small at place (sym count)
  end_at j small (inr is) false at =
      let place : get_or new.other j 0 ≡ get_or old.other j 0 = ap (λ xs. get_or xs j 0) (other is).0 ∙ get_or-set_other old.other i j (n + 1) 0 (apart j at) in
      let count : get_or new.duplicates j 0 ≡ get_or old.duplicates j 0 = ap (λ xs. get_or xs j 0) (other is).1 ∙ get_or-set_other old.duplicates i j 0 0 (apart j at) in
      end_other j small at (sym place) (sym count)

  last_at : (j : ℕ) → j < 128 → (b : Bool) → (i == j) ≡ b → HasAllOf (es ++ Acted i deed ∷ []) j (get_or new.last j 0)
  last_at j small true is =
      let same : i ≡ j = search (rules, tests, is) in
      let here : get_or new.last i 0 ≡ n + 1 = ap (λ xs. get_or xs i 0) last ∙ get_or-set_same old.last i (n + 1) 0 (omega (arith, node, are.nodes)) in
      whole (es ++ Acted i deed ∷ []) j (get_or new.last j 0) (ap (λ x. get_or new.last x 0) (sym same) ∙ (here ∙ omega (arith, many, long)))
  last_at j small false is =
      let there : get_or new.last j 0 ≡ get_or old.last j 0 = ap (λ xs. get_or xs j 0) last ∙ get_or-set_other old.last i j (n + 1) 0 (apart j is) in
      let none : own_deeds j (Acted i deed) ≡ [] = ap (λ (b : Bool). if b then deed ∷ [] else []) is in
      subst (λ p. HasAllOf (es ++ Acted i deed ∷ []) j p) (sym there) (other_push es (Acted i deed) j (get_or old.last j 0) none (are.last j small))

  before_at : (k j : ℕ) (d : Deed) → (slice_get es k ≡ Some (Acted j d)) ⊎ ((k ≡ length es) × (Acted i deed ≡ Acted j d)) → HasAllOf (take k (es ++ Acted i deed ∷ [])) j (get_or new.before k 0)
  before_at k j d (inl here) =
      let less : k < length es = slice_get_within es k (Acted j d) here in
      let there : get_or new.before k 0 ≡ get_or old.before k 0 = ap (λ xs. get_or xs k 0) before ∙ get_or-set_other old.before n k (get_or old.last i 0) 0 (λ same. omega (arith, same, less, many)) in
      subst (λ p. HasAllOf (take k (es ++ Acted i deed ∷ [])) j p) (sym there) (before_push es (Acted i deed) j k (get_or old.before k 0) (omega (arith, less)) (are.before k j d here))
  before_at k j d (inr (end, same)) =
      let own : i ≡ j = cc in
      let at : k ≡ n = end ∙ many in
      let there : get_or new.before k 0 ≡ get_or old.last i 0 = ap (λ x. get_or new.before x 0) at ∙ (ap (λ xs. get_or xs n 0) before ∙ get_or-set_same old.before n (get_or old.last i 0) 0 (omega (arith, few, are.entries))) in
      let all : HasAllOf (take k es) j (get_or old.last i 0) = subst (λ x. HasAllOf (take k es) x (get_or old.last i 0)) own (subst (λ xs. HasAllOf xs i (get_or old.last i 0)) (sym (take_all k es (omega (arith, end)))) (are.last i node)) in
      subst (λ p. HasAllOf (take k (es ++ Acted i deed ∷ [])) j p) (sym there) (before_push es (Acted i deed) j k (get_or old.last i 0) (omega (arith, end)) all)

-- nothing was entered
pub none_placed : (places : Places) → length places.last ≡ 128 → length places.before ≡ 640 → length places.other ≡ 128 → length places.duplicates ≡ 128
    → ((i : ℕ) → get_or places.last i 0 ≡ 0) → ((i : ℕ) → get_or places.other i 0 ≡ 0) → ((i : ℕ) → get_or places.duplicates i 0 ≡ 0) → ArePlaces [] places
none_placed places nodes entries others counts lasts zeros none = record {
  nodes = nodes;
  entries = entries;
  others = others;
  counts = counts;
  last = λ i few. whole [] i (get_or places.last i 0) (lasts i);
  before = λ k i deed here. absurd (cc);
  end = λ i few. no_end [] i (get_or places.other i 0) (get_or places.duplicates i 0) (zeros i) (none i);
}

-- the entries up to a place, and the action there
snoc : {X : Type 0} (xs : List X) (k : ℕ) (x : X) → slice_get xs k ≡ Some x → take (k + 1) xs ≡ take k xs ++ x ∷ []
snoc [] k x at = absurd (cc)
snoc (y ∷ ys) zero x at = ap (λ z. z ∷ []) (same_Some y x at)
snoc (y ∷ ys) (suc k) x at = let more : suc (k + 1) ≡ suc k + 1 = omega arith in ap (λ n. take n (y ∷ ys)) (sym more) ∙ ap (λ zs. y ∷ zs) (snoc ys k x at)

taken_twice : {X : Type 0} (xs : List X) (p k : ℕ) → p ≤ k → take p (take k xs) ≡ take p xs
taken_twice [] zero k less = refl
taken_twice [] (suc p) zero less = refl
taken_twice [] (suc p) (suc k) less = refl
taken_twice (x ∷ xs) zero k less = refl
taken_twice (x ∷ xs) (suc p) zero less = absurd (omega (arith, less))
taken_twice (x ∷ xs) (suc p) (suc k) less = ap (λ zs. x ∷ zs) (taken_twice xs p k (omega (arith, less)))

pub step_at : (es : List BookEntry) (places : Places) (k i before : ℕ) (deed : Deed) → ArePlaces es places → slice_get es k ≡ Some (Acted i deed)
    → before ≡ get_or places.before k 0 → own_deeds i (Acted i deed) ≡ deed ∷ [] → book_log (take (k + 1) es) i ≡ book_log (take before es) i ++ deed ∷ []
step_at es places k i before deed are here is own =
    let all : HasAllOf (take k es) i before = subst (λ p. HasAllOf (take k es) i p) (sym is) (are.before k i deed here) in
    let less = slice_get_within es k (Acted i deed) here in
    let many : length (take k es) ≡ k = length-take-le k es (omega (arith, less)) in
    let short : before ≤ k = omega (arith, many, all.within) in
    ap (λ xs. book_log xs i) (snoc es k (Acted i deed) here)
    ∙ (log_push (take k es) (Acted i deed) i
    ∙ (ap (λ ds. book_log (take k es) i ++ ds) own
    ∙ ap (λ ds. ds ++ deed ∷ []) (sym all.log ∙ ap (λ xs. book_log xs i) (taken_twice es before k short))))

-- if what is before a place agrees with the first actions, what is before the last place agrees with all
abbrev pub Backed : List BookEntry → ℕ → List Action → ℕ → ℕ → ℕ → Type 0
Backed es i as' last p at = book_log (take p es) i ≡ map deed_of (take at as') → book_log (take last es) i ≡ map deed_of as'

pub backed_all : (es : List BookEntry) (i : ℕ) (as' : List Action) (last at : ℕ) → length as' ≤ at → Backed es i as' last last at
backed_all es i as' last at past = λ is. is ∙ ap (λ xs. map deed_of xs) (take_all at as' past)

pub backed_on : (es : List BookEntry) (i : ℕ) (as' : List Action) (last p before at : ℕ) (a : Action) → slice_get as' at ≡ Some a
    → book_log (take p es) i ≡ book_log (take before es) i ++ deed_of a ∷ [] → Backed es i as' last p (at + 1) → Backed es i as' last before at
backed_on es i as' last p before at a here step back =
    λ is. back (step ∙ (ap (λ ds. ds ++ deed_of a ∷ []) is ∙ sym (ap (λ xs. map deed_of xs) (snoc as' at a here) ∙ map-append deed_of (take at as') (a ∷ []))))

pub backed_end : (es : List BookEntry) (i : ℕ) (as' : List Action) (last p at : ℕ) → p ≡ 0 → at ≡ 0 → Backed es i as' last p at
    → book_log (take last es) i ≡ map deed_of as'
backed_end es i as' last p at none end back = back (ap (λ n. book_log (take n es) i) none ∙ ap (λ n. map deed_of (take n as')) (sym end))

-- a history has as many entries as are kept of it
pub as_many : (nodes : List NodeFacts) (raw : List Entry) (es : List BookEntry) (n : ℕ) → map (entry_in nodes) raw ≡ es → n ≡ length raw → length es ≡ n
as_many nodes raw es n kept many = sym (ap length kept) ∙ (length-map raw (entry_in nodes) ∙ sym many)

-- a node on which an action was accepted is there afterwards
pub acted_there : (t : TreeFacts) (i : ℕ) (deed : Deed) (after : Applied) → applied t i deed ≡ Ok after → i < length after.tree.nodes
acted_there t i deed after is =
    let (n, a) = accepted t i deed after is in
    let less = slice_get_within t.nodes i n a.there in
    let more = grows t i deed after is in
    omega (arith, less, more)

-- one action read back, where there was a place for the one before it
pub stepped : (nodes : List NodeFacts) (raw : List Entry) (es : List BookEntry) (places : Places) (i j p : ℕ) (asked : ActionKind) (e : Entry) (d : Deed) (o : Option ℕ)
    → map (entry_in nodes) raw ≡ es → ArePlaces es places → 0 < p → slice_get raw (p - 1) ≡ Some e → e ≡ entries.Acted j asked → j ≡ i → deed_with (asks_at nodes i) asked ≡ d
    → IfSome o (λ b. b ≡ get_or places.before (p - 1) 0) → IfSome o (λ b. book_log (take p es) i ≡ book_log (take b es) i ++ d ∷ [])
stepped nodes raw es places i j p asked e d None kept are some at is same own found = tt
stepped nodes raw es places i j p asked e d (Some b) kept are some at is same own found =
    let entry : entry_in nodes e ≡ Acted i d = ap (entry_in nodes) is ∙ (ap (λ k. Acted k (deed_with (asks_at nodes k) asked)) same ∙ ap (λ x. Acted i x) own) in
    let here : slice_get es (p - 1) ≡ Some (Acted i d) = ap (λ xs. slice_get xs (p - 1)) (sym kept) ∙ (slice_get-map (entry_in nodes) raw (p - 1) ∙ (ap (option_map (entry_in nodes)) at ∙ ap Some entry)) in
    let more : p - 1 + 1 ≡ p = omega (arith, some) in
    let t : (i == i) ≡ true = search (rules, tests) in
    let alone : own_deeds i (Acted i d) ≡ d ∷ [] = ap (λ (x : Bool). if x then d ∷ [] else []) t in
    subst (λ n. book_log (take n es) i ≡ book_log (take b es) i ++ d ∷ []) more (step_at es places (p - 1) i b d are here found alone)

-- a history that ends with as many duplicates as a log, and has the log's other actions before them, has the log's actions
pub ends_as_log : (es : List BookEntry) (places : Places) (i last many : ℕ) (others deeds : List Deed) → ArePlaces es places → i < 128 → last ≡ get_or places.other i 0
    → many ≡ get_or places.duplicates i 0 → book_log (take last es) i ≡ others → deeds ≡ others ++ replicate many duplicates → book_log es i ≡ deeds
ends_as_log es places i last many others deeds are few place count before log =
    (are.end i few).log ∙ (ap (λ n. book_log (take n es) i ++ replicate (get_or places.duplicates i 0) duplicates) (sym place)
    ∙ (ap (λ n. book_log (take last es) i ++ replicate n duplicates) (sym count) ∙ (ap (λ ds. ds ++ replicate many duplicates) before ∙ sym log)))
