-- What is kept of each pair of a list.
use Rattle.std.proofs.Common.{arith, ℕ, ◌+◌, ◌≡◌, ◌<◌, ◌≤◌, inl, inr, List, [], ◌∷◌, ◌++◌, Some, length, slice_get, slice_set, sym, ◌∙◌, subst, below_more, length-append}
use Rattle.std.proofs.lemmas.Bool.{cases_eq}
use Rattle.std.proofs.lemmas.List.{length-set}
use Rattle.std.proofs.lemmas.Option.{slice_get_within, same_Some}
use Rattle.list_lemmas.proofs.CallerLemmas.{slice_get-append_left, slice_get-append_add, slice_get-set_same, slice_get-set_other}
use Rattle.sysmem_formats.specs.declared.offer.Pair.{Pair}
use Rattle.sysmem_merge.specs.declared.pair.KeptPair.{KeptPair}
use Rattle.sysmem_merge.specs.Demands.{OfferDemand}
use Rattle.sysmem_merge.specs.Pairs.{IsPairKept, ArePairsJoined, ArePairsKept}

-- what is kept at a place of a list stands for these participants and the pair at that place
abbrev pub IsPairKeptAt : List Pair → List OfferDemand → List KeptPair → ℕ → Type 0
IsPairKeptAt pairs ds kept k = (pair : Pair) (one : KeptPair) → slice_get pairs k ≡ Some pair → slice_get kept k ≡ Some one → IsPairKept pair ds one

-- the first i pairs are kept, before any participant
pub record ArePairsNew (i : ℕ) (pairs : List Pair) (kept : List KeptPair) : Type 0 where
  pub many : length kept ≡ i
  pub within : i ≤ length pairs
  pub each : (k : ℕ) → IsPairKeptAt pairs [] kept k

-- one pair more is kept
pub pair_more : (i : ℕ) (pairs : List Pair) (kept : List KeptPair) (pair : Pair) (one : KeptPair) → slice_get pairs i ≡ Some pair → IsPairKept pair [] one
    → ArePairsNew i pairs kept → ArePairsNew (i + 1) pairs (kept ++ one ∷ [])
pair_more i pairs kept pair one here is before = record {
  many = omega (arith, before.many, length-append kept (one ∷ []));
  within = omega (arith, slice_get_within pairs i pair here);
  each = λ k at new there got. below_more (IsPairKeptAt pairs [] (kept ++ one ∷ [])) i earlier last k
      (omega (arith, slice_get_within (kept ++ one ∷ []) k new got, length-append kept (one ∷ []), before.many)) at new there got;
} where
  earlier : (k : ℕ) → k < i → IsPairKeptAt pairs [] (kept ++ one ∷ []) k
  earlier k below at new there got = before.each k at new there (sym (slice_get-append_left kept (one ∷ []) k (omega (arith, below, before.many))) ∙ got)

  last : IsPairKeptAt pairs [] (kept ++ one ∷ []) i
  last at new there got =
      let same_pair = same_Some pair at (sym here ∙ there) in
      let plain : i ≡ i + 0 = omega arith in
      let got_last : slice_get (kept ++ one ∷ []) (i + 0) ≡ Some new = subst (λ j. slice_get (kept ++ one ∷ []) j ≡ Some new) plain got in
      let same_kept = same_Some one new (sym (slice_get-append_add kept (one ∷ []) i 0 before.many) ∙ got_last) in
      subst (λ a. IsPairKept a [] new) same_pair (subst (IsPairKept pair []) same_kept is)

-- all are kept, when no pair is left
pub pairs_new : (i : ℕ) (pairs : List Pair) (kept : List KeptPair) → length pairs ≤ i → ArePairsNew i pairs kept → ArePairsKept pairs [] kept
pairs_new i pairs kept past before = record { many = omega (arith, past, before.many, before.within); each = before.each }

-- the first i pairs are kept for the new participants, the others for the old ones
pub record ArePairsUpTo (i : ℕ) (pairs : List Pair) (new old : List OfferDemand) (kept : List KeptPair) : Type 0 where
  pub many : length kept ≡ length pairs
  pub done : (k : ℕ) → k < i → IsPairKeptAt pairs new kept k
  pub rest : (k : ℕ) → i ≤ k → IsPairKeptAt pairs old kept k

pub none_done : (pairs : List Pair) (new old : List OfferDemand) (kept : List KeptPair) → ArePairsKept pairs old kept → ArePairsUpTo 0 pairs new old kept
none_done pairs new old kept are = record { many = are.many; done = λ k below. absurd (omega (arith, below)); rest = λ k _. are.each k }

pub one_done : (i : ℕ) (pairs : List Pair) (new old : List OfferDemand) (kept : List KeptPair) (one next : KeptPair) → slice_get kept i ≡ Some one
    → ((pair : Pair) → slice_get pairs i ≡ Some pair → IsPairKept pair old one → IsPairKept pair new next) → ArePairsUpTo i pairs new old kept
    → ArePairsUpTo (i + 1) pairs new old (slice_set kept i next)
one_done i pairs new old kept one next here is before = record {
  many = length-set kept i next ∙ before.many;
  done = below_more (IsPairKeptAt pairs new (slice_set kept i next)) i
      (λ k below pair sooner there got. before.done k below pair sooner there (slice_get-set_other kept i k next sooner (λ e. omega (arith, e, below)) got))
      (λ pair written there got. subst (IsPairKept pair new) (slice_get-set_same kept i next written (slice_get_within kept i one here) got)
      (is pair there (before.rest i (omega arith) pair one there here)));
  rest = λ k above pair later there got. before.rest k (omega (arith, above)) pair later there (slice_get-set_other kept i k next later (λ e. omega (arith, e, above)) got);
}

pub all_done : (i : ℕ) (pairs : List Pair) (new old : List OfferDemand) (kept : List KeptPair) → length kept ≤ i → ArePairsUpTo i pairs new old kept → ArePairsKept pairs new kept
all_done i pairs new old kept past before =
    record { many = before.many; each = λ k pair one there got. before.done k (omega (arith, past, slice_get_within kept k one got)) pair one there got }

-- where all are joined they are kept, and what is kept is joined
pub all_joined : (from to : ℕ) (pairs : List Pair) (ds : List OfferDemand) (kept : List KeptPair) → from ≡ 0 → to ≡ length pairs → ArePairsJoined from to pairs ds kept → ArePairsKept pairs ds kept
all_joined from to pairs ds kept start all are =
    record { many = are.many; each = λ k pair one there got. are.these k pair one (omega (arith, start)) (omega (arith, all, slice_get_within pairs k pair there)) there got }

pub kept_joined : (from to : ℕ) (pairs : List Pair) (ds : List OfferDemand) (kept : List KeptPair) → to ≤ length pairs → ArePairsKept pairs ds kept → ArePairsJoined from to pairs ds kept
kept_joined from to pairs ds kept within are = record {
  many = are.many;
  within = within;
  these = λ k pair one _ _ there got. are.each k pair one there got;
  each = λ k pair one there got. (ds, are.each k pair one there got);
}

-- so are some of them, and where none is joined whoever it is for
pub joined_within : (from to low high : ℕ) (pairs : List Pair) (ds : List OfferDemand) (kept : List KeptPair) → high ≤ length pairs
    → ((k : ℕ) → low ≤ k → k < high → (from ≤ k) × (k < to)) → ArePairsJoined from to pairs ds kept → ArePairsJoined low high pairs ds kept
joined_within from to low high pairs ds kept within inside are = record {
  many = are.many;
  within = within;
  these = λ k pair one above below there got. let at = inside k above below in are.these k pair one at.0 at.1 there got;
  each = are.each;
}

pub none_joined : (from to low : ℕ) (pairs : List Pair) (old ds : List OfferDemand) (kept : List KeptPair) → ArePairsJoined from to pairs old kept → ArePairsJoined low 0 pairs ds kept
none_joined from to low pairs old ds kept are = record {
  many = are.many;
  within = omega arith;
  these = λ k pair one _ below there got. absurd (omega (arith, below));
  each = are.each;
}

-- one pair more is joined
pub one_joined : (low i : ℕ) (pairs : List Pair) (ds : List OfferDemand) (kept : List KeptPair) (one next : KeptPair) → i < length pairs → slice_get kept i ≡ Some one
    → ((pair : Pair) (others : List OfferDemand) → slice_get pairs i ≡ Some pair → IsPairKept pair others one → IsPairKept pair ds next) → ArePairsJoined low i pairs ds kept
    → ArePairsJoined low (i + 1) pairs ds (slice_set kept i next)
one_joined low i pairs ds kept one next within here is before = record {
  many = length-set kept i next ∙ before.many;
  within = omega (arith, within);
  these = λ k pair new above below there got. elim (cases_eq k i) as (λ _. IsPairKept pair ds new) [
    | inl equal ↦ last pair new (subst (λ j. slice_get pairs j ≡ Some pair) equal there) (subst (λ j. slice_get (slice_set kept i next) j ≡ Some new) equal got)
    | inr other ↦ before.these k pair new above (omega (arith, below, other)) there (slice_get-set_other kept i k next new other got)
  ];
  each = λ k pair new there got. elim (cases_eq k i) as (λ _. (others : List OfferDemand) × IsPairKept pair others new) [
    | inl equal ↦ (ds, last pair new (subst (λ j. slice_get pairs j ≡ Some pair) equal there) (subst (λ j. slice_get (slice_set kept i next) j ≡ Some new) equal got))
    | inr other ↦ before.each k pair new there (slice_get-set_other kept i k next new other got)
  ];
} where
  last : IsPairKeptAt pairs ds (slice_set kept i next) i
  last pair written there got =
      let (others, was) = before.each i pair one there here in
      subst (IsPairKept pair ds) (slice_get-set_same kept i next written (slice_get_within kept i one here) got) (is pair others there was)
