-- Whom of the settled participants one can name, and that what is said of them is a conflict.
use Rattle.std.proofs.Common.{◌≡◌, ◌≢◌, arith, inl, inr, ℕ, zero, suc, ◌<◌, true, List, [], ◌∷◌, ◌++◌, length, Option, Some, None, IsSomeAnd, is_some, is_none, All, Contains, map, slice_get, get_or, refl, sym, ◌∙◌, ap, subst, append-nil}
use Rattle.std.specs.Prelude.{AllPairs, filter, take}
use Rattle.std.specs.List.{AllZip, flat_map}
use Rattle.std.proofs.lemmas.List.{append_assoc}
use Rattle.std.proofs.lemmas.List.Elements.{All-head, All-tail, All-map, Contains-append_right}
use Rattle.std.proofs.lemmas.List.Kept.{AllPairs-cons}
use Rattle.std.proofs.lemmas.Option.{same_Some, none-some, get_or_from_slice_get, slice_get_within, slice_get-get_or}
use Rattle.list_lemmas.proofs.CallerLemmas.{All-some}
use Rattle.sysmem_image.specs.declared.entry.Entry.{Entry}
use Rattle.sysmem_image.specs.Entries.{first_match}
use Rattle.sysmem_memory.proofs.CallerLemmas.{listed_is_place}
use Rattle.sysmem_memory.specs.Listed.{places_of}
use Rattle.sysmem_merge.specs.declared.reason.Reason.TheVariants.{Count as CountReason, NoPlace, NoOffer}
use Rattle.offer_fits.specs.Offers.{bounds_asked}
use Rattle.negotiation_inputs.specs.Participant.{Participant}
use Rattle.negotiation_inputs.specs.Platform.{offers_of}
use Rattle.sysmem_tree.specs.Forest.{Forest, choices, settled}
use Rattle.sysmem_tree.specs.Laws.{PathsDiffer}
use Rattle.sysmem_tree.specs.Shape.{Member}
use Rattle.sysmem_tree.specs.Sublist.{IsSublist, ended, taken, left_out}
use Rattle.verdict_claims.specs.declared.refutation.Item.{Item}
use Rattle.verdict_claims.specs.declared.refutation.Item.TheVariants.{Split, Leaf}
use Rattle.verdict_claims.specs.Certificate.{Conflicts, Refutes, RefutesEarlier}
use Rattle.verdict_claims.specs.Line.{LineFacts}
use Rattle.verdict_claims.specs.declared.conflict.Conflict.TheVariants.{Count, Places, Offers}
use Rattle.verdict_claims.specs.Conflict.{RefusesPlace, RefusesOffer}
use Rattle.verdict_claims.specs.Finder.{SomeAreNamed, has_entry, BoundsAreOfSome, ReasonsAreConflicts}
use Rattle.verdict_claims.specs.Members.{participants}
use Rattle.verdict_claims.specs.Naming.{same_path, asked_at}
use Rattle.verdict_claims.proofs.Cutting.{some_of_sublist}
use Rattle.verdict_claims.proofs.Naming.{asked_here, asked_later, path_itself, other_path}

-- a member is found by its path
found : (ms : List Member) (k : ℕ) (m : Member) → PathsDiffer ms → slice_get ms k ≡ Some m → asked_at ms m.path ≡ m.constraints
found [] k m apart here = absurd (none-some m here)
found (x ∷ ms) zero m apart here = let same : x ≡ m = same_Some x m here in
    asked_here x ms m.path (subst (λ y. same_path x.path y.path ≡ true) same (path_itself x.path)) ∙ ap (λ y. y.constraints) same
found (x ∷ ms) (suc k) m apart here =
    let inside : k < length ms = slice_get_within ms k m here in
    let differ : x.path ≢ m.path = subst (λ y. x.path ≢ y.path) (get_or_from_slice_get ms k m m here) (apart 0 (suc k) m (omega arith) (omega (arith, inside))) in
    asked_later x ms m.path (other_path x.path m.path differ)
    ∙ found ms k m (λ i j d below within. apart (suc i) (suc j) d (omega (arith, below)) (omega (arith, within))) here

pairs_of_some : {X : Type 0} (R : X → X → Type 0) (some all : List X) → IsSublist some all → AllPairs R all → AllPairs R some
pairs_of_some R _ _ ended pairs = pairs
pairs_of_some R _ _ (taken x some all among) pairs = AllPairs-cons R x some (All-some (R x) some all (some_of_sublist some all among) (λ k d inside. pairs 0 (suc k) d (omega arith) (omega (arith, inside))))
    (pairs_of_some R some all among (λ i j d below within. pairs (suc i) (suc j) d (omega (arith, below)) (omega (arith, within))))
pairs_of_some R _ _ (left_out x some all among) pairs = pairs_of_some R some all among (λ i j d below within. pairs (suc i) (suc j) d (omega (arith, below)) (omega (arith, within)))

pairs_map : {X Y : Type 0} (R : Y → Y → Type 0) (f : X → Y) (xs : List X) → AllPairs (λ a b. R (f a) (f b)) xs → AllPairs R (map f xs)
pairs_map R f [] pairs = λ i j d below within. absurd (omega (arith, within))
pairs_map R f (x ∷ xs) pairs = AllPairs-cons R (f x) (map f xs) (All-map (R (f x)) f xs (λ k d inside. pairs 0 (suc k) d (omega arith) (omega (arith, inside))))
    (pairs_map R f xs (λ i j d below within. pairs (suc i) (suc j) d (omega (arith, below)) (omega (arith, within))))

asked_each : (ms some : List Member) → All (λ m. asked_at ms m.path ≡ m.constraints) some → All (λ m. is_some m.constraints ≡ true) some
    → map (asked_at ms) (map (λ m. m.path) some) ≡ map (λ p. Some p) (participants some)
asked_each ms [] same asks = refl
asked_each ms (m ∷ some) same asks = at m.constraints refl (asked_each ms some (All-tail (λ m. asked_at ms m.path ≡ m.constraints) m some same) (All-tail (λ m. is_some m.constraints ≡ true) m some asks)) where
  at : (c : Option Participant) → m.constraints ≡ c → map (asked_at ms) (map (λ m. m.path) some) ≡ map (λ p. Some p) (participants some)
      → map (asked_at ms) (map (λ m. m.path) (m ∷ some)) ≡ map (λ p. Some p) (participants (m ∷ some))
  at None is rest = absurd (cc (is, All-head (λ m. is_some m.constraints ≡ true) m some asks))
  at (Some p) is rest = rw (All-head (λ m. asked_at ms m.path ≡ m.constraints) m some same, is, rest) refl

pub some_are_named : SomeAreNamed
some_are_named some all apart among asks = record {
  each = asked_each all some (All-some (λ m. asked_at all m.path ≡ m.constraints) some all (some_of_sublist some all among)
      (λ k d inside. found all k (get_or all k d) apart (slice_get-get_or all k d inside))) asks;
  once = pairs_map (λ p q. p ≢ q) (λ m. m.path) some (pairs_of_some (λ a b. a.path ≢ b.path) some all among apart);
}

-- those without an entry ask nothing of an offer
pub bounds_are_of_some : BoundsAreOfSome
bounds_are_of_some o [] = refl
bounds_are_of_some o (d ∷ ds) = at (first_match o d.entries) refl (bounds_are_of_some o ds) where
  at : (e : Option Entry) → first_match o d.entries ≡ e → bounds_asked o (filter (has_entry o) ds) ≡ bounds_asked o ds → bounds_asked o (filter (has_entry o) (d ∷ ds)) ≡ bounds_asked o (d ∷ ds)
  at None is rest = rw is rest
  at (Some entry) is rest = rw is (rw is (rw rest refl))

-- refutations one after another
module _ (L : Conflicts) where
  split_on : (n : ℕ) (xs ys : List Item) (ds es : List (Forest Member)) (o : Option (List (Forest Member)))
      → ((fs : List (Forest Member)) → Refutes L xs fs → Refutes L (xs ++ ys) (fs ++ es))
      → IsSomeAnd o (λ fs. (length fs ≡ n) × Refutes L xs (fs ++ ds)) → IsSomeAnd o (λ fs. (length fs ≡ n) × Refutes L (xs ++ ys) (fs ++ (ds ++ es)))
  split_on n xs ys ds es None more r = r
  split_on n xs ys ds es (Some fs) more r = (r.0, subst (Refutes L (xs ++ ys)) (append_assoc fs ds es) (more (fs ++ ds) r.1))

  pub refutes_append : (xs ys : List Item) (ds es : List (Forest Member)) → Refutes L xs ds → Refutes L ys es → Refutes L (xs ++ ys) (ds ++ es)
  refutes_append [] ys [] es a b = b
  refutes_append [] ys (d ∷ ds) es a b = absurd a
  refutes_append (Leaf c ∷ xs) ys [] es a b = absurd a
  refutes_append (Split n ∷ xs) ys [] es a b = absurd a
  refutes_append (Leaf c ∷ xs) ys (d ∷ ds) es a b = (a.0, refutes_append xs ys ds es a.1 b)
  refutes_append (Split n ∷ xs) ys (d ∷ ds) es a b = split_on n xs ys ds es (choices d) (λ fs r. refutes_append xs ys fs es r b) a

  refute_each : (es : List (Forest Member)) (rs : List (List Item)) → AllZip (λ e items. Refutes L items (e ∷ [])) es rs → Refutes L (flat_map (λ items. items) rs) es
  refute_each [] [] zip = tt
  refute_each [] (r ∷ rs) zip = absurd zip
  refute_each (e ∷ es) [] zip = absurd zip
  refute_each (e ∷ es) (r ∷ rs) zip = refutes_append r (flat_map (λ items. items) rs) (e ∷ []) es zip.0 (refute_each es rs zip.1)

-- a split and behind it refutations of each choice refute a forest
pub splits_refute : (L : Conflicts) (d : Forest Member) (es : List (Forest Member)) (rs : List (List Item)) → choices d ≡ Some es
    → AllZip (λ e items. Refutes L items (e ∷ [])) es rs → Refutes L (Split (length es) ∷ flat_map (λ items. items) rs) (d ∷ [])
splits_refute L d es rs open' zip = subst (λ o. IsSomeAnd o (λ fs. (length fs ≡ length es) × Refutes L (flat_map (λ items. items) rs) (fs ++ []))) (sym open')
    (refl, subst (Refutes L (flat_map (λ items. items) rs)) (sym (append-nil es)) (refute_each L es rs zip))

-- where refutations of the choices before one are followed by those after it, they refute what is
-- before the selection from here on
pub earlier_grows : (L : Conflicts) (d e : Forest Member) (es : List (Forest Member)) (c : ℕ) (cs : List ℕ) (rs : List (List Item)) (rss : List (List (List Item)))
    → choices d ≡ Some es → slice_get es c ≡ Some e → AllZip (λ e items. Refutes L items (e ∷ [])) (take c es) rs → RefutesEarlier L e cs rss → RefutesEarlier L d (c ∷ cs) (rs ∷ rss)
earlier_grows L d e es c cs rs rss open' here before behind =
    subst (λ o. IsSomeAnd o (λ es. AllZip (λ e items. Refutes L items (e ∷ [])) (take c es) rs × IsSomeAnd (slice_get es c) (λ e. RefutesEarlier L e cs rss))) (sym open')
    (before, subst (λ o. IsSomeAnd o (λ e. RefutesEarlier L e cs rss)) (sym here) behind)

-- a line for each of a list
lines_from : {X : Type 0} (R : X → LineFacts → Type 0) (xs : List X) → ((x : X) → Contains xs x → (line : LineFacts) × R x line) → (lines : List LineFacts) × AllZip R xs lines
lines_from R [] each = ([], tt)
lines_from R (x ∷ xs) each =
    let first = each x (0, omega arith, refl) in
    let rest = lines_from R xs (λ y has. each y (Contains-append_right (x ∷ []) xs y has)) in
    (first.0 ∷ rest.0, (first.1, rest.1))

-- a reason that is true of all that is settled is a conflict of its kind, by lines that name all
pub reasons_are_conflicts : ReasonsAreConflicts
reasons_are_conflicts platform d paths names (CountReason field) reason = (Count (record { field = field; nodes = paths }), (participants (settled d), names, reason), refl)
reasons_are_conflicts platform d paths names NoPlace reason =
    let lines = lines_from (RefusesPlace (settled d)) (places_of platform.heaps) (λ p has.
    let refused = reason p.place p.heap ((listed_is_place platform.heaps p.place p.heap).1 has) in
    (record { field = refused.0; nodes = paths }, (participants (settled d), names, refused.1))) in
    (Places lines.0, lines.1, tt)
reasons_are_conflicts platform d paths names NoOffer reason =
    let lines = lines_from (RefusesOffer (is_none (choices d)) (settled d)) (offers_of platform) (λ o has.
    elim (reason o has) as (λ _. (line : LineFacts) × RefusesOffer (is_none (choices d)) (settled d) o line) [
      | inl line ↦ (record { field = line.0; nodes = paths }, (participants (settled d), names, inl line.1))
      | inr unnamed ↦ (record { field = unnamed.1.0; nodes = paths }, (participants (settled d), names, inr (unnamed.0, unnamed.1.1)))
    ]) in
    (Offers lines.0, lines.1, tt)
