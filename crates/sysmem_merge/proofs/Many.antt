-- What is kept of each offer of a list.
use Rattle.std.proofs.Common.{arith, ℕ, ◌+◌, ◌≡◌, ◌<◌, ◌≤◌, List, [], ◌∷◌, ◌++◌, inl, inr, Option, Some, None, length, slice_get, slice_set, sym, ap, ◌∙◌, subst, below_more, length-append}
use Rattle.std.proofs.lemmas.List.{length-set}
use Rattle.std.proofs.lemmas.Option.{slice_get_within, slice_get_cases, same_Some}
use Rattle.list_lemmas.proofs.CallerLemmas.{slice_get-append_left, slice_get-append_add, slice_get-set_same, slice_get-set_other}
use Rattle.sysmem_formats.specs.declared.colour_space.ColourSpace.{ColourSpace}
use Rattle.sysmem_formats.specs.declared.offer.Offer.{Offer}
use Rattle.sysmem_formats.specs.declared.offer.Pair.{Pair}
use Rattle.sysmem_formats.specs.Offers.{offers}
use Rattle.sysmem_merge.specs.declared.kept.KeptOffer.{KeptOffer}
use Rattle.sysmem_merge.specs.Aggregate.{IsKept, AreKept}
use Rattle.sysmem_merge.specs.Demands.{OfferDemand}

-- what is kept at a place of a list stands for these participants and the offer at that place
abbrev pub IsKeptAt : List Offer → List OfferDemand → List KeptOffer → ℕ → Type 0
IsKeptAt os ds kept k = (o : Offer) (one : KeptOffer) → slice_get os k ≡ Some o → slice_get kept k ≡ Some one → IsKept o ds one

-- the first i offers are kept, before any participant
pub record AreNew (i : ℕ) (os : List Offer) (kept : List KeptOffer) : Type 0 where
  pub many : length kept ≡ i
  pub within : i ≤ length os
  pub each : (k : ℕ) → IsKeptAt os [] kept k

-- the first i of them have one more participant
pub record AreKeptUpTo (i : ℕ) (os : List Offer) (ds : List OfferDemand) (d : OfferDemand) (kept : List KeptOffer) : Type 0 where
  pub many : length kept ≡ length os
  pub done : (k : ℕ) → k < i → IsKeptAt os (ds ++ d ∷ []) kept k
  pub rest : (k : ℕ) → i ≤ k → IsKeptAt os ds kept k

-- the offers are those of the pairs and colour spaces that were read
pub offer_read : (pairs asked_pairs : List Pair) (colours asked_colours : List ColourSpace) (i : ℕ) (x : Option Offer) → asked_pairs ≡ pairs → asked_colours ≡ colours
    → x ≡ slice_get (offers asked_pairs asked_colours) i → slice_get (offers pairs colours) i ≡ x
offer_read pairs asked_pairs colours asked_colours i x same_pairs same_colours is =
    sym (is ∙ (ap (λ ps. slice_get (offers ps asked_colours) i) same_pairs ∙ ap (λ cs. slice_get (offers pairs cs) i) same_colours))

-- one offer more is kept
pub new_more : (i : ℕ) (os : List Offer) (kept : List KeptOffer) (o : Offer) (one : KeptOffer) → slice_get os i ≡ Some o → IsKept o [] one
    → AreNew i os kept → AreNew (i + 1) os (kept ++ one ∷ [])
new_more i os kept o one here is before = record {
  many = omega (arith, before.many, length-append kept (one ∷ []));
  within = omega (arith, slice_get_within os i o here);
  each = λ k at new there got. below_more (IsKeptAt os [] (kept ++ one ∷ [])) i earlier last k
      (omega (arith, slice_get_within (kept ++ one ∷ []) k new got, length-append kept (one ∷ []), before.many)) at new there got;
} where
  earlier : (k : ℕ) → k < i → IsKeptAt os [] (kept ++ one ∷ []) k
  earlier k below at new there got = before.each k at new there (sym (slice_get-append_left kept (one ∷ []) k (omega (arith, below, before.many))) ∙ got)

  last : IsKeptAt os [] (kept ++ one ∷ []) i
  last at new there got =
      let same_offer = same_Some o at (sym here ∙ there) in
      let plain : i ≡ i + 0 = omega arith in
      let got_last : slice_get (kept ++ one ∷ []) (i + 0) ≡ Some new = subst (λ j. slice_get (kept ++ one ∷ []) j ≡ Some new) plain got in
      let same_kept = same_Some one new (sym (slice_get-append_add kept (one ∷ []) i 0 before.many) ∙ got_last) in
      subst (λ a. IsKept a [] new) same_offer (subst (IsKept o []) same_kept is)

-- all are kept, when no offer is left
pub new_all : (i : ℕ) (os : List Offer) (kept : List KeptOffer) → length os ≤ i → AreNew i os kept → AreKept os [] kept
new_all i os kept past before = record { many = omega (arith, past, before.many, before.within); each = before.each }

-- one offer more has the participant
pub kept_further : (i : ℕ) (os : List Offer) (ds : List OfferDemand) (d : OfferDemand) (kept : List KeptOffer) (one new : KeptOffer) → slice_get kept i ≡ Some one
    → ((o : Offer) → slice_get os i ≡ Some o → IsKept o ds one → IsKept o (ds ++ d ∷ []) new) → AreKeptUpTo i os ds d kept → AreKeptUpTo (i + 1) os ds d (slice_set kept i new)
kept_further i os ds d kept one new here adds before = record {
  many = length-set kept i new ∙ before.many;
  done = below_more (IsKeptAt os (ds ++ d ∷ []) (slice_set kept i new)) i earlier last;
  rest = λ k above o later there got. before.rest k (omega (arith, above)) o later there (slice_get-set_other kept i k new later (λ e. omega (arith, e, above)) got);
} where
  earlier : (k : ℕ) → k < i → IsKeptAt os (ds ++ d ∷ []) (slice_set kept i new) k
  earlier k below o sooner there got = before.done k below o sooner there (slice_get-set_other kept i k new sooner (λ e. omega (arith, e, below)) got)

  last : IsKeptAt os (ds ++ d ∷ []) (slice_set kept i new) i
  last o written there got = subst (IsKept o (ds ++ d ∷ [])) (slice_get-set_same kept i new written (slice_get_within kept i one here) got)
      (adds o there (before.rest i (omega arith) o one there here))

-- before the first, none has the participant
pub kept_before : (os : List Offer) (ds : List OfferDemand) (d : OfferDemand) (kept : List KeptOffer) → AreKept os ds kept → AreKeptUpTo 0 os ds d kept
kept_before os ds d kept are = record { many = are.many; done = λ k below. absurd (omega (arith, below)); rest = λ k _. are.each k }

-- after the last, each has it
pub kept_all : (i : ℕ) (os : List Offer) (ds : List OfferDemand) (d : OfferDemand) (kept : List KeptOffer) → length kept ≤ i → AreKeptUpTo i os ds d kept → AreKept os (ds ++ d ∷ []) kept
kept_all i os ds d kept past before = record { many = before.many; each = λ k o one there got. before.done k (omega (arith, past, slice_get_within kept k one got)) o one there got }

-- a list ends where it has nothing
pub none_past : (os : List Offer) (i : ℕ) → slice_get os i ≡ None → length os ≤ i
none_past os i none = elim (slice_get_cases os i).1 as (λ _. length os ≤ i) [
  | inl (o, below, is, _) ↦ absurd (cc (is, none))
  | inr past ↦ past.0
]
