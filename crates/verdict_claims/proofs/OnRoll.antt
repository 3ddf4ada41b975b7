-- Paths that name participants, each once.
use Rattle.std.proofs.Common.{◌≡◌, ◌≢◌, ◌<◌, ◌≤◌, ℕ, zero, suc, ◌+◌, Bool, true, false, List, [], ◌∷◌, ◌++◌, Option, Some, None, length, map, take, drop, get_or, inl, inr, refl, sym, ◌∙◌, ap, subst, arith}
use Rattle.std.specs.Prelude.{◌↔◌, ◌⊎◌, All, AllPairs, Any, Contains, IsTrue, is_some, slice_index_or}
use Rattle.std.specs.List.{cons_option}
use Rattle.std.proofs.lemmas.List.{map-append, take_more, take_all, take-append-drop}
use Rattle.std.proofs.lemmas.List.Elements.{filter_map-append}
use Rattle.std.proofs.lemmas.List.Kept.{AllPairs-cons}
use Rattle.std.proofs.lemmas.Option.{none-some}
use Rattle.list_lemmas.proofs.CallerLemmas.{Any-here, Any-later}
use Rattle.sysmem_counts.specs.declared.field.Field.{Field}
use Rattle.sysmem_memory.specs.declared.domain.CoherencyDomain.{CoherencyDomain}
use Rattle.sysmem_memory.specs.Heap.{HeapFacts}
use Rattle.sysmem_memory.specs.PlaceTable.{refuses_by, IsPlaceLine}
use Rattle.offer_fits.specs.Demands.{counts_asked, offer_demand, offer_demands, place_demand, place_demands}
use Rattle.negotiation_inputs.specs.Participant.{Participant}
use Rattle.sysmem_tree.specs.Shape.{Member}
use Rattle.verdict_claims.specs.declared.no.No.TheVariants.{NoConflict}
use Rattle.verdict_claims.specs.Fault.{AreNamed, LineFaults}
use Rattle.verdict_claims.specs.Line.{LineFacts}
use Rattle.verdict_claims.specs.Naming.{asked_at, Names, IsTrueOf}
use Rattle.verdict_claims.specs.Roll.{asked_by}

-- an element within a list, whatever stands for those past its end
pub same_get : {X : Type 0} (xs : List X) (k : ℕ) (a b : X) → k < length xs → slice_index_or xs k a ≡ slice_index_or xs k b
same_get [] k a b less = absurd (omega (arith, less))
same_get (x ∷ xs) zero a b less = refl
same_get (x ∷ xs) (suc k) a b less = same_get xs k a b (omega (arith, less))

pub all_push : {X : Type 0} (P : X → Type 0) (xs : List X) (x : X) → All P xs → P x → All P (xs ++ x ∷ [])
all_push P [] x all p zero d less = p
all_push P [] x all p (suc k) d less = absurd (omega (arith, less))
all_push P (y ∷ xs) x all p zero d less = all zero d (omega arith)
all_push P (y ∷ xs) x all p (suc k) d less = all_push P xs x (λ j e w. all (suc j) e (omega (arith, w))) p k d (omega (arith, less))

pairs_push : {X : Type 0} (R : X → X → Type 0) (xs : List X) (x : X) → AllPairs R xs → All (λ y. R y x) xs → AllPairs R (xs ++ x ∷ [])
pairs_push R [] x pairs all = AllPairs-cons R x [] (λ k d less. absurd (omega (arith, less))) (λ i j d less within. absurd (omega (arith, within)))
pairs_push R (y ∷ xs) x pairs all = AllPairs-cons R y (xs ++ x ∷ [])
    (all_push (R y) xs x (λ k d less. pairs 0 (suc k) d (omega arith) (omega (arith, less))) (all 0 y (omega arith)))
    (pairs_push R xs x (λ i j d less within. pairs (suc i) (suc j) d (omega (arith, less)) (omega (arith, within))) (λ k d less. all (suc k) d (omega (arith, less))))

-- no paths name nobody
pub named_none : (ms : List Member) → AreNamed ms []
named_none ms = ([], record { each = refl; once = λ i j d less within. absurd (omega (arith, within)) })

-- one path more
named_push : (ms : List Member) (xs : List (List ℕ)) (p : List ℕ) (q : Participant) → AreNamed ms xs → asked_at ms p ≡ Some q → ¬ (Contains xs p) → AreNamed ms (xs ++ p ∷ [])
named_push ms xs p q named asks new' = (
  named.0 ++ q ∷ [],
  record {
    each = map-append (asked_at ms) xs (p ∷ []) ∙ (ap (λ os. os ++ asked_at ms p ∷ []) named.1.each
        ∙ (ap (λ o. map (λ x. Some x) named.0 ++ o ∷ []) asks ∙ sym (map-append (λ x. Some x) named.0 (q ∷ []))));
    once = pairs_push (λ a b. a ≢ b) xs p named.1.once (λ k d less same. new' (k, less, same_get xs k p d less ∙ same));
  },
)

-- some of both are some of one or the other
pub any_parts : {X : Type 0} (P : X → Type 0) (xs ys : List X) → Any P (xs ++ ys) → Any P xs ⊎ Any P ys
any_parts P [] ys any = inr any
any_parts P (x ∷ xs) ys (zero, y, less, same, p) = inl (Any-here P x xs (subst P (sym same) p))
any_parts P (x ∷ xs) ys (suc k, y, less, same, p) = elim (any_parts P xs ys (k, y, omega (arith, less), same, p)) as (λ _. Any P (x ∷ xs) ⊎ Any P ys) [
  | inl a ↦ inl (Any-later P x xs a)
  | inr b ↦ inr b
]

pub any_front : {X : Type 0} (P : X → Type 0) (xs ys : List X) → Any P xs → Any P (xs ++ ys)
any_front P [] ys (k, y, less, same, p) = absurd (omega (arith, less))
any_front P (x ∷ xs) ys (zero, y, less, same, p) = Any-here P x (xs ++ ys) (subst P (sym same) p)
any_front P (x ∷ xs) ys (suc k, y, less, same, p) = Any-later P x (xs ++ ys) (any_front P xs ys (k, y, omega (arith, less), same, p))

pub any_back : {X : Type 0} (P : X → Type 0) (xs ys : List X) → Any P ys → Any P (xs ++ ys)
any_back P [] ys any = any
any_back P (x ∷ xs) ys any = Any-later P x (xs ++ ys) (any_back P xs ys any)

module _ (ms : List Member) where
  -- the first k paths, and the one behind them
  pub named_more : (xs : List (List ℕ)) (k : ℕ) (x : List ℕ) (has : Bool) → k < length xs → x ≡ get_or xs k x → AreNamed ms (take k xs) → has ≡ is_some (asked_at ms x) → has ≡ true
      → (again : Bool) → again ≡ false → IsTrue again ↔ Contains (take k xs) x → AreNamed ms (take (k + 1) xs)
  named_more xs k x has less is named asks yes' again no' test =
      subst (AreNamed ms) (sym (take_more xs k x less ∙ ap (λ y. take k xs ++ y ∷ []) (sym is))) (by (asked_at ms x) refl (sym asks ∙ yes')) where
        not_again : ¬ (Contains (take k xs) x)
        not_again c = let t : again ≡ true = test.1 c in absurd (cc)

        by : (o : Option Participant) → asked_at ms x ≡ o → is_some o ≡ true → AreNamed ms (take k xs ++ x ∷ [])
        by None at some = absurd (cc)
        by (Some q) at some = named_push ms (take k xs) x q named at not_again

  some_at : (xs : List (List ℕ)) (ps : List Participant) (k : ℕ) (d : List ℕ) → map (asked_at ms) xs ≡ map (λ x. Some x) ps → k < length xs → asked_at ms (slice_index_or xs k d) ≢ None
  some_at [] ps k d each less e = omega (arith, less)
  some_at (x ∷ xs) [] k d each less e = absurd (cc (each))
  some_at (x ∷ xs) (p ∷ ps) zero d each less e = none-some p (sym e ∙ head each) where
    head : {X : Type 0} {a b : X} {as' bs : List X} → (a ∷ as') ≡ (b ∷ bs) → a ≡ b
    head e = cc (e)
  some_at (x ∷ xs) (p ∷ ps) (suc k) d each less e = some_at xs ps k d (tail each) (omega (arith, less)) e where
    tail : {X : Type 0} {a b : X} {as' bs : List X} → (a ∷ as') ≡ (b ∷ bs) → as' ≡ bs
    tail e = cc (e)

  -- where one path names nobody, they aren't named
  pub nobody_named : (xs : List (List ℕ)) (k : ℕ) (x : List ℕ) (has : Bool) → k < length xs → x ≡ get_or xs k x → has ≡ is_some (asked_at ms x) → has ≡ false → ¬ (AreNamed ms xs)
  nobody_named xs k x has less is asks no' named = by (asked_at ms x) refl (sym asks ∙ no') where
    by : (o : Option Participant) → asked_at ms x ≡ o → is_some o ≡ false → ⊥
    by None at none = some_at xs named.0 k x named.1.each less (ap (asked_at ms) (sym is) ∙ at)
    by (Some q) at none = absurd (cc)

  once_before : (xs : List (List ℕ)) (k : ℕ) (d : List ℕ) → AllPairs (λ a b. a ≢ b) xs → k < length xs → ¬ (Contains (take k xs) (slice_index_or xs k d))
  once_before [] k d pairs less has = omega (arith, less)
  once_before (x ∷ xs) zero d pairs less has = omega (arith, has.1)
  once_before (x ∷ xs) (suc k) d pairs less (zero, inside, same) = pairs 0 (suc k) d (omega arith) less same
  once_before (x ∷ xs) (suc k) d pairs less (suc j, inside, same) =
      once_before xs k d (λ i j d less within. pairs (suc i) (suc j) d (omega (arith, less)) (omega (arith, within))) (omega (arith, less)) (j, omega (arith, inside), same)

  -- where one path stands twice, they aren't
  pub named_twice : (xs : List (List ℕ)) (k : ℕ) (x : List ℕ) (again : Bool) → k < length xs → x ≡ get_or xs k x → again ≡ true → IsTrue again ↔ Contains (take k xs) x → ¬ (AreNamed ms xs)
  named_twice xs k x again less is yes' test named = once_before xs k x named.1.once less (subst (Contains (take k xs)) is (test.0 yes'))

  -- what those ask who are named
  pub asked_named : (xs : List (List ℕ)) (ps : List Participant) → Names ms xs ps → asked_by ms xs ≡ ps
  asked_named [] [] n = refl
  asked_named [] (p ∷ ps) n = absurd (cc (n.each))
  asked_named (x ∷ xs) [] n = absurd (cc (n.each))
  asked_named (x ∷ xs) (p ∷ ps) n =
      ap (λ o. cons_option o (asked_by ms xs)) (head n.each)
      ∙ ap (λ qs. p ∷ qs) (asked_named xs ps (record { each = tail n.each; once = λ i j d less within. n.once (suc i) (suc j) d (omega (arith, less)) (omega (arith, within)) })) where
        head : {X : Type 0} {a b : X} {as' bs : List X} → (a ∷ as') ≡ (b ∷ bs) → a ≡ b
        head e = cc (e)

        tail : {X : Type 0} {a b : X} {as' bs : List X} → (a ∷ as') ≡ (b ∷ bs) → as' ≡ bs
        tail e = cc (e)

  -- what one more asks
  pub asked_more : (xs : List (List ℕ)) (k : ℕ) (x : List ℕ) (o : Option Participant) → k < length xs → x ≡ get_or xs k x → o ≡ asked_at ms x
      → asked_by ms (take (k + 1) xs) ≡ asked_by ms (take k xs) ++ cons_option o []
  asked_more xs k x o less is asks =
      ap (asked_by ms) (take_more xs k x less ∙ ap (λ y. take k xs ++ y ∷ []) (sym is))
      ∙ (filter_map-append (asked_at ms) (take k xs) (x ∷ []) ∙ ap (λ u. asked_by ms (take k xs) ++ cons_option u []) (sym asks))

  -- what they ask of counts, and of an offer
  pub counts_more : (xs : List (List ℕ)) (k : ℕ) (x : List ℕ) (o : Option Participant) → k < length xs → x ≡ get_or xs k x → o ≡ asked_at ms x
      → counts_asked (asked_by ms (take k xs)) ++ counts_asked (cons_option o []) ≡ counts_asked (asked_by ms (take (k + 1) xs))
  counts_more xs k x o less is asks = sym (ap counts_asked (asked_more xs k x o less is asks) ∙ map-append (λ p. p.counts) (asked_by ms (take k xs)) (cons_option o []))

  pub offers_more : (xs : List (List ℕ)) (k : ℕ) (x : List ℕ) (o : Option Participant) → k < length xs → x ≡ get_or xs k x → o ≡ asked_at ms x
      → offer_demands (asked_by ms (take k xs)) ++ offer_demands (cons_option o []) ≡ offer_demands (asked_by ms (take (k + 1) xs))
  offers_more xs k x o less is asks = sym (ap offer_demands (asked_more xs k x o less is asks) ∙ map-append offer_demand (asked_by ms (take k xs)) (cons_option o []))

  pub asked_whole : (xs : List (List ℕ)) (k : ℕ) → length xs ≤ k → asked_by ms (take k xs) ≡ asked_by ms xs
  asked_whole xs k over = ap (asked_by ms) (take_all k xs over)

  module _ (P : Participant → Type 0) where
    -- none so far and not the one behind them
    pub none_more : (xs : List (List ℕ)) (k : ℕ) (x : List ℕ) (o : Option Participant) (t : Bool) → k < length xs → x ≡ get_or xs k x → o ≡ asked_at ms x
        → t ≡ false → IsTrue t ↔ Any P (cons_option o []) → ¬ (Any P (asked_by ms (take k xs))) → ¬ (Any P (asked_by ms (take (k + 1) xs)))
    none_more xs k x o t less is asks no' test none any =
        elim (any_parts P (asked_by ms (take k xs)) (cons_option o []) (subst (Any P) (asked_more xs k x o less is asks) any)) as (λ _. ⊥) [
          | inl front ↦ none front
          | inr one ↦ (let yes' : t ≡ true = test.1 one in absurd (cc))
        ]

    -- the one behind them is some of all
    pub some_more : (xs : List (List ℕ)) (k : ℕ) (x : List ℕ) (o : Option Participant) (t : Bool) → k < length xs → x ≡ get_or xs k x → o ≡ asked_at ms x
        → t ≡ true → IsTrue t ↔ Any P (cons_option o []) → Any P (asked_by ms xs)
    some_more xs k x o t less is asks yes' test =
        subst (Any P) (sym (ap (asked_by ms) (sym (take-append-drop (k + 1) xs)) ∙ filter_map-append (asked_at ms) (take (k + 1) xs) (drop (k + 1) xs)))
        (any_front P (asked_by ms (take (k + 1) xs)) (asked_by ms (drop (k + 1) xs))
        (subst (Any P) (sym (asked_more xs k x o less is asks)) (any_back P (asked_by ms (take k xs)) (cons_option o []) (test.0 yes'))))

-- what is tested of those who are named is true of them
pub true_of : (ms : List Member) (given xs : List (List ℕ)) (field head : Field) (P : Field → List Participant → Type 0) (t : Bool) → given ≡ xs → field ≡ head → AreNamed ms xs
    → IsTrue t ↔ P field (asked_by ms given) → IsTrue t ↔ IsTrueOf ms xs (P head)
true_of ms given xs field head P t same one named test = (
  λ is. (named.0, named.1, subst (P head) (asked_named ms xs named.0 named.1) (here.0 is)),
  λ w. here.1 (subst (P head) (sym (asked_named ms xs w.0 w.1)) w.2),
) where
  here : IsTrue t ↔ P head (asked_by ms xs)
  here = subst (λ ys. IsTrue t ↔ P head (asked_by ms ys)) same (subst (λ f. IsTrue t ↔ P f (asked_by ms given)) one test)

-- some of what is made of a list
mapped_any : {X Y : Type 0} (P : Y → Type 0) (f : X → Y) (xs : List X) → Any (λ x. P (f x)) xs → Any P (map f xs)
mapped_any P f [] (k, x, less, same, p) = absurd (omega (arith, less))
mapped_any P f (x ∷ xs) (zero, y, less, same, p) = Any-here P (f x) (map f xs) (subst (λ z. P (f z)) (sym same) p)
mapped_any P f (x ∷ xs) (suc k, y, less, same, p) = Any-later P (f x) (map f xs) (mapped_any P f xs (k, y, omega (arith, less), same, p))

any_mapped : {X Y : Type 0} (P : Y → Type 0) (f : X → Y) (xs : List X) → Any P (map f xs) → Any (λ x. P (f x)) xs
any_mapped P f [] (k, x, less, same, p) = absurd (omega (arith, less))
any_mapped P f (x ∷ xs) (zero, y, less, same, p) = Any-here (λ z. P (f z)) x xs (subst P (sym same) p)
any_mapped P f (x ∷ xs) (suc k, y, less, same, p) = Any-later (λ z. P (f z)) x xs (any_mapped P f xs (k, y, omega (arith, less), same, p))

-- some of them are refused a place
pub place_told : (heap : HeapFacts) (domain : CoherencyDomain) (field : Field) (ps : List Participant) (t : Bool)
    → IsTrue t ↔ Any (λ p. refuses_by field p.memory p.usage heap domain ≡ true) ps → IsTrue t ↔ IsPlaceLine field heap domain (place_demands ps)
place_told heap domain field ps t test = (
  λ is. mapped_any (λ p. refuses_by field p.memory p.usage heap domain ≡ true) place_demand ps (test.0 is),
  λ any. test.1 (any_mapped (λ p. refuses_by field p.memory p.usage heap domain ≡ true) place_demand ps any),
)

-- one path names a participant
pub one_named : (ms : List Member) (path : List ℕ) (has : Bool) → has ≡ is_some (asked_at ms path) → IsTrue has ↔ AreNamed ms (path ∷ [])
one_named ms path has is = (
  λ yes'. by (asked_at ms path) refl (sym is ∙ yes'),
  λ named. is ∙ some (asked_at ms path) refl (some_at ms (path ∷ []) named.0 0 path named.1.each (omega arith)),
) where
  by : (o : Option Participant) → asked_at ms path ≡ o → is_some o ≡ true → AreNamed ms (path ∷ [])
  by None at some = absurd (cc)
  by (Some q) at some = named_push ms [] path q (named_none ms) at (λ has. omega (arith, has.1))

  some : (o : Option Participant) → asked_at ms path ≡ o → asked_at ms path ≢ None → is_some o ≡ true
  some None at differ = absurd (differ at)
  some (Some q) at differ = refl

-- named participants of whom a line isn't true
pub fault_untrue : (ms : List Member) (True : Type 0) (given : List (List ℕ)) (line : LineFacts) (t u : Bool) → given ≡ line.nodes → t ≡ true → IsTrue t ↔ AreNamed ms given → u ≡ false → IsTrue u ↔ True
    → LineFaults ms True line NoConflict
fault_untrue ms True given line t u same yes' test no' truth = inr (subst (AreNamed ms) same (test.0 yes'), ((λ is. (let y : u ≡ true = truth.1 is in absurd (cc))), refl))
