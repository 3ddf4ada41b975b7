-- A line that names some of the participants, and what it says of them.
use Rattle.std.proofs.Common.{◌≡◌, ◌⊎◌, inl, ℕ, zero, suc, Bool, true, false, List, [], ◌∷◌, Option, Some, None, map, refl, ◌∙◌, ap, subst, arith}
use Rattle.std.specs.Prelude.{All, Any, Contains, filter, is_some}
use Rattle.std.specs.Option.{option_map_or}
use Rattle.std.specs.List.{cons_option, filter_map}
use Rattle.std.proofs.lemmas.List.Elements.{All-nil, All-cons}
use Rattle.sysmem_counts.specs.declared.field.Field.{Field}
use Rattle.sysmem_formats.specs.declared.offer.Offer.{Offer}
use Rattle.sysmem_memory.specs.declared.place.Place.{Place}
use Rattle.sysmem_memory.specs.Heap.{HeapFacts}
use Rattle.sysmem_memory.specs.PlaceTable.{refuses_by}
use Rattle.offer_fits.specs.Demands.{offer_demands}
use Rattle.offer_fits.specs.OfferLines.{IsOfferLine}
use Rattle.sysmem_merge.specs.Reasons.{IsUnnamedLine}
use Rattle.negotiation_inputs.specs.Participant.{Participant}
use Rattle.sysmem_tree.specs.Node.{NodeFacts}
use Rattle.sysmem_tree.specs.Shape.{Member}
use Rattle.sysmem_tree.specs.Sublist.{IsSublist, taken, left_out}
use Rattle.conflict_finding.specs.declared.whom.Whom.{Whom}
use Rattle.conflict_finding.specs.declared.whom.Whom.TheVariants as whoms
use Rattle.verdict_claims.specs.Conflict.{RefusesOffer, RefusesPlace}
use Rattle.verdict_claims.specs.Members.{participants, member_at, members_at, StandFor}
use Rattle.verdict_claims.specs.Naming.{Names}
use Rattle.conflict_finding.specs.Whom.{names, members_named, line_on}
use Rattle.verdict_claims.proofs.FinderLemmas.{some_are_named}
use Rattle.verdict_claims.proofs.Growing.{sub_none, sub_trans}
use Rattle.verdict_claims.proofs.OnRoll.{place_told}
use Rattle.verdict_claims.proofs.SettledNodes.{filter_sub}

-- whom a line names are participants
all_ask : (whom : Whom) (ms : List Member) → All (λ m. is_some m.constraints ≡ true) (members_named whom ms)
all_ask whom [] = All-nil (λ m. is_some m.constraints ≡ true)
all_ask whom (m ∷ ms) = by m.constraints refl (option_map_or (names whom) m.constraints false) refl (all_ask whom ms) where
  by : (c : Option Participant) → m.constraints ≡ c → (t : Bool) → option_map_or (names whom) m.constraints false ≡ t
      → All (λ m. is_some m.constraints ≡ true) (members_named whom ms) → All (λ m. is_some m.constraints ≡ true) (members_named whom (m ∷ ms))
  by None none true is rest = (let e : option_map_or (names whom) None false ≡ true = subst (λ c. option_map_or (names whom) c false ≡ true) none is in absurd (cc))
  by (Some p) some true is rest = rw is (All-cons (λ m. is_some m.constraints ≡ true) m (members_named whom ms) (ap is_some some) rest)
  by c at false is rest = rw is rest

-- and what they ask is asked by those of all whom it names
asked_named : (whom : Whom) (ms : List Member) → participants (members_named whom ms) ≡ filter (names whom) (participants ms)
asked_named whom [] = refl
asked_named whom (m ∷ ms) = by m.constraints refl (asked_named whom ms) where
  by : (c : Option Participant) → m.constraints ≡ c → participants (members_named whom ms) ≡ filter (names whom) (participants ms)
      → participants (members_named whom (m ∷ ms)) ≡ filter (names whom) (participants (m ∷ ms))
  by None is rest = rw is rest
  by (Some p) is rest = in_case (names whom p) refl where
    in_case : (t : Bool) → names whom p ≡ t → participants (members_named whom (m ∷ ms)) ≡ filter (names whom) (participants (m ∷ ms))
    in_case true yes' = rw is (rw yes' (ap (λ ps. p ∷ ps) rest))
    in_case false no' = rw is (rw no' rest)

-- among all members, those who stand for them are named
pub names_those : (whom : Whom) (some all : List Member) → StandFor some all → Names all (map (λ m. m.path) (members_named whom some)) (filter (names whom) (participants all))
names_those whom some all stand =
    subst (Names all (map (λ m. m.path) (members_named whom some))) (asked_named whom some ∙ ap (filter (names whom)) stand.same)
    (some_are_named (members_named whom some) all stand.apart (sub_trans (filter_sub (λ m. option_map_or (names whom) m.constraints false) some) stand.among) (all_ask whom some))

-- one of some numbers
pub one_of : (f : ℕ → Option Member) (ns : List ℕ) (n : ℕ) → Contains ns n → IsSublist (filter_map f (n ∷ [])) (filter_map f ns)
one_of f [] n has = absurd (omega (arith, has.1))
one_of f (x ∷ ns) n (zero, less, same) = subst (λ y. IsSublist (filter_map f (y ∷ [])) (filter_map f (x ∷ ns))) same (by (f x)) where
  by : (o : Option Member) → IsSublist (cons_option o []) (cons_option o (filter_map f ns))
  by None = sub_none (filter_map f ns)
  by (Some m) = taken m [] (filter_map f ns) (sub_none (filter_map f ns))
one_of f (x ∷ ns) n (suc k, less, same) = by (f x) (one_of f ns n (k, omega (arith, less), same)) where
  by : (o : Option Member) → IsSublist (filter_map f (n ∷ [])) (filter_map f ns) → IsSublist (filter_map f (n ∷ [])) (cons_option o (filter_map f ns))
  by None sub = sub
  by (Some m) sub = left_out m (filter_map f (n ∷ [])) (filter_map f ns) sub

pub each_named : (ps : List Participant) → filter (names whoms.All) ps ≡ ps
each_named [] = refl
each_named (p ∷ ps) = ap (λ qs. p ∷ qs) (each_named ps)

-- and one of them alone is
pub names_one : (nodes : List NodeFacts) (ns : List ℕ) (node : ℕ) (all : List Member) → StandFor (members_at nodes ns) all → Contains ns node
    → Names all (map (λ m. m.path) (members_named whoms.All (members_at nodes (node ∷ [])))) (participants (members_at nodes (node ∷ [])))
names_one nodes ns node all stand has =
    subst (Names all (map (λ m. m.path) (members_named whoms.All (members_at nodes (node ∷ []))))) (asked_named whoms.All (members_at nodes (node ∷ [])) ∙ each_named (participants (members_at nodes (node ∷ []))))
    (some_are_named (members_named whoms.All (members_at nodes (node ∷ []))) all stand.apart
    (sub_trans (filter_sub (λ m. option_map_or (names whoms.All) m.constraints false) (members_at nodes (node ∷ []))) (sub_trans (one_of (member_at nodes) ns node has) stand.among))
    (all_ask whoms.All (members_at nodes (node ∷ []))))

module _ (nodes : List NodeFacts) (ns : List ℕ) (ms : List Member) (stand : StandFor (members_at nodes ns) ms) where
  -- a line of an offer that is true of one of them
  pub one_refuses : (whole : Bool) (o : Offer) (field : Field) (node : ℕ) → Contains ns node → IsOfferLine field o (offer_demands (participants (members_at nodes (node ∷ []))))
      → RefusesOffer whole ms o (line_on nodes (node ∷ []) field whoms.All)
  one_refuses whole o field node has line = (participants (members_at nodes (node ∷ [])), names_one nodes ns node ms stand has, inl line)

  -- and of those whom it names
  pub these_refuse : (whole : Bool) (o : Offer) (field : Field) (whom : Whom) → IsOfferLine field o (offer_demands (filter (names whom) (participants ms)))
      ⊎ ((whole ≡ true) × IsUnnamedLine field o (offer_demands (participants ms))) → RefusesOffer whole ms o (line_on nodes ns field whom)
  these_refuse whole o field whom line = (filter (names whom) (participants ms), names_those whom (members_at nodes ns) ms stand, line)

  -- a place that is refused to one of them
  pub one_is_refused : (place : Place) (heap : HeapFacts) (field : Field) (node : ℕ) → Contains ns node
      → Any (λ p. refuses_by field p.memory p.usage heap place.coherency ≡ true) (participants (members_at nodes (node ∷ [])))
      → RefusesPlace ms (record { place = place; heap = heap }) (line_on nodes (node ∷ []) field whoms.All)
  one_is_refused place heap field node has any = (
    participants (members_at nodes (node ∷ [])),
    names_one nodes ns node ms stand has,
    (place_told heap place.coherency field (participants (members_at nodes (node ∷ []))) true ((λ is. any), (λ any. refl))).0 refl,
  )
