-- The best settings for what structs state can be told in their terms.
use Rattle.std.proofs.Common.{arith, ◌≡◌, ◌⊎◌, inl, inr, ℕ, zero, suc, List, [], ◌∷◌, map, Option, Some, None, Contains, refl, sym, ap, subst, true, IsSomeAnd, slice_get}
use Rattle.std.specs.Prelude.{IsSome, MatchOption}
use Rattle.std.specs.List.{AllZip}
use Rattle.std.proofs.lemmas.List.Elements.{Contains-append_right, Contains-append_cases}
use Rattle.std.proofs.lemmas.Slice.Zip.{AllZip-right}
use Rattle.drm_images.specs.Codes.{fourcc}
use Rattle.sysmem_formats.specs.Offers.{images}
use Rattle.sysmem_formats.specs.declared.colour_space.ColourSpace.{ColourSpace}
use Rattle.sysmem_formats.specs.declared.offer.Offer.{Offer}
use Rattle.sysmem_formats.specs.declared.offer.Offer.TheVariants.{NoImage, Image}
use Rattle.sysmem_formats.specs.declared.offer.Pair.{Pair}
use Rattle.sysmem_merge.specs.Best.{IsBest}
use Rattle.sysmem_merge.specs.declared.settings.Settings.{Settings}
use Rattle.negotiation_inputs.specs.Participant.{Participant}
use Rattle.negotiation_inputs.specs.Platform.{PlatformFacts, offers_of}
use Rattle.flat_negotiation.specs.Pairs.{IsPairSaid}
use Rattle.flat_negotiation.specs.declared.parts.flat.FlatPair.{FlatPair}
use Rattle.flat_negotiation.specs.declared.parts.flat.FlatPlatform.{FlatPlatform}
use Rattle.flat_negotiation.specs.Said.{IsPlatformSaid}
use Rattle.flat_negotiation.specs.Written.{CanBeWritten, HoldsOffer}

cons_cases : {X : Type 0} (x : X) (xs : List X) (y : X) → Contains (x ∷ xs) y → (x ≡ y) ⊎ Contains xs y
cons_cases x xs y (zero, below, is) = inl is
cons_cases x xs y (suc k, below, is) = inr (k, omega (arith, below), is)

no_element : {X : Type 0} (y : X) → Contains [] y → ⊥
no_element y (k, below, is) = omega (arith, below)

of_colours : (p : Pair) (cs : List ColourSpace) (q : Pair) (c : ColourSpace) → Contains (map (λ d. Image p d) cs) (Image q c) → p ≡ q
of_colours p [] q c has = absurd (no_element (Image q c) has)
of_colours p (d ∷ cs) q c has = elim (cons_cases (Image p d) (map (λ e. Image p e) cs) (Image q c) has) as (λ _. p ≡ q) [
  | inl same ↦ cc same
  | inr there ↦ of_colours p cs q c there
]

-- an image that is offered is of a pair that is listed
of_pairs : (ps : List Pair) (cs : List ColourSpace) (p : Pair) (c : ColourSpace) → Contains (images ps cs) (Image p c) → Contains ps p
of_pairs [] cs p c has = absurd (no_element (Image p c) has)
of_pairs (q ∷ ps) cs p c has = elim (Contains-append_cases (map (λ d. Image q d) cs) (images ps cs) (Image p c) has) as (λ _. Contains (q ∷ ps) p) [
  | inl here ↦ (0, omega arith, of_colours q cs p c here)
  | inr there ↦ Contains-append_right (q ∷ []) ps p (of_pairs ps cs p c there)
]

offered : (ps : List Pair) (cs : List ColourSpace) (p : Pair) (c : ColourSpace) → Contains (NoImage ∷ images ps cs) (Image p c) → Contains ps p
offered ps cs p c has = elim (cons_cases NoImage (images ps cs) (Image p c) has) as (λ _. Contains ps p) [
  | inl same ↦ absurd (cc same)
  | inr there ↦ of_pairs ps cs p c there
]

code_by : (p : Pair) (flat : Option FlatPair) → IsSomeAnd flat (λ x. IsPairSaid x p) → IsSome (fourcc p.format)
code_by p None h = absurd h
code_by p (Some x) h = subst IsSome (sym h.format) refl

pair_at : (p : Pair) (o : Option Pair) (flat : Option FlatPair) → o ≡ Some p → MatchOption o (Unit {0}) (λ q. IsSomeAnd flat (λ x. IsPairSaid x q)) → IsSomeAnd flat (λ x. IsPairSaid x p)
pair_at p o flat is h = subst (λ (q : Option Pair). MatchOption q (Unit {0}) (λ r. IsSomeAnd flat (λ x. IsPairSaid x r))) is h

-- each format of a platform that structs state has a code
has_code : (flats : List FlatPair) (ps : List Pair) (p : Pair) → AllZip IsPairSaid flats ps → Contains ps p → IsSome (fourcc p.format)
has_code flats ps p zip has =
    let (k, is) = found ps p has in
    code_by p (slice_get flats k) (pair_at p (slice_get ps k) (slice_get flats k) is (AllZip-right IsPairSaid flats ps zip k)) where
      found : (xs : List Pair) (x : Pair) → Contains xs x → (k : ℕ) × (slice_get xs k ≡ Some x)
      found [] x has = absurd (no_element x has)
      found (y ∷ xs) x has = elim (cons_cases y xs x has) as (λ _. (k : ℕ) × (slice_get (y ∷ xs) k ≡ Some x)) [
        | inl same ↦ (0, ap Some same)
        | inr there ↦ let (k, is) = found xs x there in (suc k, is)
      ]

pub writable : (flat : FlatPlatform) (platform : PlatformFacts) (ps : List Participant) (s : Settings) → IsPlatformSaid flat platform → IsBest true platform ps s → CanBeWritten s
writable flat platform ps s said best = by s.offer refl where
  by : (o : Offer) → s.offer ≡ o → HoldsOffer o s
  by NoImage is = tt
  by (Image p c) is = record {
    code = has_code flat.pairs.now platform.pairs p said.pairs (offered platform.pairs platform.colours p c (subst (Contains (offers_of platform)) is best.meets.loosely.sound.offer));
    offer = is;
    sound = best.meets.loosely.sound.fit;
  }
