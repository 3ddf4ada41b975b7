-- What is said of participants depends neither on their order nor on how often one of them stands
-- among them.
use Rattle.std.proofs.Common.{◌≡◌, ◌<◌, ℕ, ◌+◌, Bool, true, false, List, [], ◌∷◌, ◌++◌, length, Option, Some, None, get_or, map, slice_get, take, refl, sym, ◌∙◌, ap, subst, arith}
use Rattle.std.specs.Prelude.{◌||◌, ◌≤◌, not, All, Contains}
use Rattle.std.specs.Int.{◌∣◌}
use Rattle.std.specs.List.{list_any}
use Rattle.std.proofs.lemmas.List.Elements.{All-nil, All-cons, All-head, All-tail, All-append, All-map, All-more, All-push, All-weaker, All-contains, All-contains_itself, filter_map-append}
use Rattle.std.proofs.lemmas.List.Folds.{list_any_none}
use Rattle.std.proofs.lemmas.Option.{get_or_from_slice_get, same_Some, slice_get_within}
use Rattle.list_lemmas.proofs.CallerLemmas.{All-unmap, slice_get-append_add, some_contained}
use Rattle.sysmem_formats.specs.declared.offer.Offer.{Offer}
use Rattle.sysmem_image.specs.declared.bounds.ImageBounds.{ImageBounds}
use Rattle.sysmem_image.specs.Entries.{first_match}
use Rattle.sysmem_image.specs.Fields.{Bound, Side, Keeps, rule_of, value, own_value}
use Rattle.sysmem_image.specs.Lines.{MeetsIn}
use Rattle.sysmem_image.specs.Merged.{IsMergeOf}
use Rattle.sysmem_image.specs.Read.{IsRead, kept_of}
use Rattle.offer_fits.proofs.CallerLemmas.{asked_all, asked_each}
use Rattle.sysmem_merge.specs.declared.offer_read.OfferRead.{OfferRead}
use Rattle.offer_fits.specs.Sizes.{AreSizes}
use Rattle.offer_fits.specs.Demands.{OfferDemand, offer_demand, offer_demands}
use Rattle.sysmem_merge.specs.OfferRead.{IsOfferRead}
use Rattle.offer_fits.specs.Offers.{Asks, bounds_asked, has_format, has_colour, names_format, names_modifier, names_colour}
use Rattle.negotiation_inputs.specs.Participant.{Participant}
use Rattle.sysmem_tree.specs.Node.{NodeFacts}
use Rattle.verdict_claims.specs.Members.{member_at, members_at, participants}
use Rattle.verdict_claims.proofs.Cutting.{participants_among}
use Rattle.conflict_finding.specs.OffersAsked.{AreThose}
use Rattle.conflict_finding.proofs.NamedLines.{one_of}

-- what all of a list have, those have that are among it
pub have_among : {X : Type 0} (P : X → Type 0) (some all : List X) → All (Contains all) some → All P all → All P some
have_among P some all among has = All-weaker (Contains all) P (λ x c. All-contains P all x has c) some among

-- what all have, the one at a place has
pub have_at : {X : Type 0} (P : X → Type 0) (xs : List X) (k : ℕ) (x : X) → All P xs → slice_get xs k ≡ Some x → P x
have_at P xs k x all at = subst P (get_or_from_slice_get xs k x x at) (all k x (slice_get_within xs k x at))

-- the last of a list is the one that was pushed
pub pushed_at : {X : Type 0} (xs new : List X) (x one : X) (k : ℕ) → new ≡ xs ++ x ∷ [] → length xs ≡ k → slice_get new k ≡ Some one → x ≡ one
pushed_at xs new x one k is many at =
    let plain : k ≡ k + 0 = omega arith in
    let there : slice_get (xs ++ x ∷ []) (k + 0) ≡ Some one = subst (λ j. slice_get (xs ++ x ∷ []) j ≡ Some one) plain (subst (λ ys. slice_get ys k ≡ Some one) is at) in
    same_Some x one (sym (slice_get-append_add xs (x ∷ []) k 0 many) ∙ there)

-- one more that is pushed
pub one_pushed : {X : Type 0} (P : X → Type 0) (xs new : List X) (x : X) → new ≡ xs ++ x ∷ [] → All P xs → P x → All P new
one_pushed P xs new x is all own = subst (All P) (sym is) (All-push P xs x all own)

-- the first of a list are in a longer row too, and with it the one behind them
pub one_found : (xs row new : List ℕ) (i n : ℕ) → i < length xs → n ≡ get_or xs i n → ((x : ℕ) → Contains row x → Contains new x) → Contains new n
    → All (Contains row) (take i xs) → All (Contains new) (take (i + 1) xs)
one_found xs row new i n inside here more has all = All-more (Contains new) xs i n inside (All-weaker (Contains row) (Contains new) more (take i xs) all) (subst (Contains new) here has)

-- where some are among others, their images are among those of the others
among_map : {X Y : Type 0} (f : X → Y) (some all : List X) → All (Contains all) some → All (Contains (map f all)) (map f some)
among_map f some all among = All-map (Contains (map f all)) f some
    (have_among (λ x. Contains (map f all) (f x)) some all among (All-unmap (Contains (map f all)) f all (All-contains_itself (map f all))))

-- where some nodes are among others, so are their participants
asked_among : (nodes : List NodeFacts) (some all : List ℕ) → All (Contains all) some → All (Contains (participants (members_at nodes all))) (participants (members_at nodes some))
asked_among nodes [] all among = All-nil (Contains (participants (members_at nodes all)))
asked_among nodes (n ∷ some) all among =
    subst (All (Contains (participants (members_at nodes all)))) (sym split)
    (All-append (Contains (participants (members_at nodes all))) (participants (members_at nodes (n ∷ []))) (participants (members_at nodes some)) one
    (asked_among nodes some all (All-tail (Contains all) n some among))) where
      split : participants (members_at nodes (n ∷ some)) ≡ participants (members_at nodes (n ∷ [])) ++ participants (members_at nodes some)
      split = ap participants (filter_map-append (member_at nodes) (n ∷ []) some) ∙ filter_map-append (λ m. m.constraints) (members_at nodes (n ∷ [])) (members_at nodes some)

      one : All (Contains (participants (members_at nodes all))) (participants (members_at nodes (n ∷ [])))
      one = some_contained (participants (members_at nodes (n ∷ []))) (participants (members_at nodes all))
          (participants_among (members_at nodes (n ∷ [])) (members_at nodes all) (one_of (member_at nodes) all n (All-head (Contains all) n some among)))

-- a test that fails of all of a list fails of all that are among it
both_false : (a b : Bool) → (a || b) ≡ false → (a ≡ false) × (b ≡ false)
both_false false b is = (refl, is)
both_false true b is = absurd (cc)

all_fail : {X : Type 0} (p : X → Bool) (xs : List X) → list_any p xs ≡ false → All (λ x. p x ≡ false) xs
all_fail p [] none = All-nil (λ x. p x ≡ false)
all_fail p (x ∷ xs) none =
    let both = both_false (p x) (list_any p xs) none in
    All-cons (λ y. p y ≡ false) x xs both.0 (all_fail p xs both.1)

none_among : {X : Type 0} (p : X → Bool) (some all : List X) → All (Contains all) some → list_any p all ≡ false → list_any p some ≡ false
none_among p some all among none = list_any_none p some (have_among (λ x. p x ≡ false) some all among (all_fail p all none))

same_bool : (a b : Bool) → (a ≡ false → b ≡ false) → (b ≡ false → a ≡ false) → a ≡ b
same_bool false b there back = sym (there refl)
same_bool true false there back = back refl
same_bool true true there back = refl

module _ (o : Offer) (ds es : List OfferDemand) (among : All (Contains es) ds) (all : All (Contains ds) es) where
  same_any : (p : OfferDemand → Bool) → list_any p ds ≡ list_any p es
  same_any p = same_bool (list_any p ds) (list_any p es) (none_among p es ds all) (none_among p ds es among)

  forth : (P : ImageBounds → Type 0) → All P (bounds_asked o ds) → All P (bounds_asked o es)
  forth P has = asked_all o P es (have_among (Asks o P) es ds all (asked_each o P ds has))

  back : (P : ImageBounds → Type 0) → All P (bounds_asked o es) → All P (bounds_asked o ds)
  back P has = asked_all o P ds (have_among (Asks o P) ds es among (asked_each o P es has))

  same_merge : (R : ℕ → ℕ → Type 0) (own : ℕ) (f : ImageBounds → ℕ) (m : ℕ) → IsMergeOf R own f (bounds_asked o ds) m → IsMergeOf R own f (bounds_asked o es) m
  same_merge R own f m row = record {
    suits = row.suits;
    exactly = λ n keeps. (λ r. forth (λ e. R (f e) n) ((row.exactly n keeps).0 r), λ has. (row.exactly n keeps).1 (back (λ e. R (f e) n) has));
  }

  still_meet : (f : Bound) → MeetsIn f o (bounds_asked o es) → MeetsIn f o (bounds_asked o ds)
  still_meet f meet side = let c = meet side in (
    c.0,
    record {
      some = c.1.some;
      small = c.1.small;
      own = c.1.own;
      each = back (λ e. value f side e ∣ c.0) c.1.each;
    },
  )

  same_read : (f : Bound) (kept : Option (Side → ℕ)) → IsRead f o (bounds_asked o ds) kept → IsRead f o (bounds_asked o es) kept
  same_read f (Some m) is = λ side. same_merge (Keeps (rule_of f)) (own_value o f side) (value f side) (m side) (is side)
  same_read f None is = λ meet. is (still_meet f meet)

  same_sizes : (low high : ℕ) → AreSizes ds low high → AreSizes es low high
  same_sizes low high s = record {
    low = λ n. (
      λ within. have_among (λ d. d.min_size_bytes ≤ n) es ds all ((s.low n).0 within),
      λ has. (s.low n).1 (have_among (λ d. d.min_size_bytes ≤ n) ds es among has),
    );
    high = λ n small. (
      λ within. have_among (λ d. n ≤ d.max_size_bytes) es ds all ((s.high n small).0 within),
      λ has. (s.high n small).1 (have_among (λ d. n ≤ d.max_size_bytes) ds es among has),
    );
  }

  -- so what is read of an offer stands for the same ones in any order
  read_of_those : (read : OfferRead) → IsOfferRead o ds read → IsOfferRead o es read
  read_of_those read is = record {
    offer = is.offer;
    bounds = record { in_range = is.bounds.in_range; each = λ f. same_read f (kept_of f read.bounds) (is.bounds.each f) };
    format = is.format ∙ same_any (λ d. not (has_format o d));
    colour = is.colour ∙ same_any (λ d. not (has_colour o d));
    format_named = is.format_named ∙ same_any (λ d. names_format (first_match o d.entries));
    modifier_named = is.modifier_named ∙ same_any (λ d. names_modifier (first_match o d.entries));
    colour_named = is.colour_named ∙ same_any (λ d. names_colour o (first_match o d.entries));
    sizes = same_sizes read.least_size read.greatest_size is.sizes;
  }

module _ (nodes : List NodeFacts) (row ns : List ℕ) (those : AreThose row ns) where
  -- what those in a row ask, these nodes ask
  pub read_of_row : (o : Offer) (read : OfferRead) → IsOfferRead o (offer_demands (participants (members_at nodes row))) read → IsOfferRead o (offer_demands (participants (members_at nodes ns))) read
  read_of_row o read is = read_of_those o (offer_demands (participants (members_at nodes row))) (offer_demands (participants (members_at nodes ns)))
      (among_map offer_demand (participants (members_at nodes row)) (participants (members_at nodes ns)) (asked_among nodes row ns those.among))
      (among_map offer_demand (participants (members_at nodes ns)) (participants (members_at nodes row)) (asked_among nodes ns row those.all)) read is

  -- and what those in it have, they have
  pub have_of_row : (P : Participant → Type 0) → All P (participants (members_at nodes row)) → All P (participants (members_at nodes ns))
  have_of_row P has = have_among P (participants (members_at nodes ns)) (participants (members_at nodes row)) (asked_among nodes ns row those.all) has
