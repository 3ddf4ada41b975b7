-- The first line of the table that is true of participants for an offer.
use Rattle.std.proofs.Common.{◌≡◌, ◌≢◌, inl, inr, ℕ, Bool, true, false, not, List, [], ◌∷◌, ◌++◌, get_or, refl, sym, ◌∙◌, ap, subst}
use Rattle.std.specs.Prelude.{◌⊎◌, All, Any, Contains, IfNone, Option, Some, None, is_some}
use Rattle.std.specs.List.{list_all}
use Rattle.std.proofs.lemmas.List.Elements.{All-nil, All-cons, All-head, All-tail, All-map}
use Rattle.list_lemmas.specs.Some.{AreSomeOf}
use Rattle.list_lemmas.proofs.CallerLemmas.{Any-not_All, and_parts, some_contained, some_map}
use Rattle.sysmem_counts.specs.declared.field.Field.{Field}
use Rattle.sysmem_counts.specs.declared.field.Field.TheVariants.{PixelFormat, ColorSpaces, MaxSizeBytes, UnnamedPixelFormat, UnnamedPixelFormatModifier, UnnamedColorSpace}
use Rattle.sysmem_formats.specs.declared.offer.Offer.{Offer}
use Rattle.sysmem_formats.specs.declared.offer.Offer.TheVariants.{Image}
use Rattle.sysmem_image.specs.Lines.{bounds_lines}
use Rattle.offer_fits.specs.Demands.{OfferDemand, offer_demand, offer_demands}
use Rattle.sysmem_merge.specs.First.{IsFirstOf}
use Rattle.sysmem_merge.specs.OfferRead.{IsRefusingLine, offer_lines}
use Rattle.offer_fits.specs.Offers.{has_format, has_colour}
use Rattle.offer_fits.specs.OfferLines.{IsOfferLine}
use Rattle.negotiation_inputs.specs.Participant.{Participant}
use Rattle.sysmem_tree.specs.Node.{NodeFacts}
use Rattle.sysmem_tree.specs.Shape.{Member}
use Rattle.verdict_claims.specs.FirstConflict.{AreOfPair}
use Rattle.conflict_finding.specs.Reading.{HeadsFirst, TakesIn}
use Rattle.verdict_claims.specs.Members.{member_at, members_at, participants, StandFor}
use Rattle.verdict_claims.proofs.Cutting.{participants_among}
use Rattle.conflict_finding.proofs.NamedLines.{one_of}
use Rattle.verdict_claims.proofs.SameColours.{same_line, same_unnamed}

-- what some of a list have, some of the list have
any_of_some : {X : Type 0} (P : X → Type 0) (some all : List X) → AreSomeOf some all → Any P some → Any P all
any_of_some P some all among (k, x, less, is, p) =
    let has : Contains all x = subst (Contains all) is (some_contained some all among k x less) in
    (has.0, x, has.1, has.2, p)

module _ (o : Offer) (ps : List Participant) where
  -- the first line of all
  pub format_first : (whole : Bool) → IsRefusingLine whole o (offer_demands ps) PixelFormat → IsFirstOf (IsRefusingLine whole o (offer_demands ps)) offer_lines PixelFormat
  format_first whole line = record { earlier = []; later = _; listed = refl; holds = line; before = All-nil (λ f. ¬ (IsRefusingLine whole o (offer_demands ps) f)) }

  -- what each takes, none lacks
  all_take : (field : Field) → All (λ p. TakesIn field o (offer_demand p)) ps → All (TakesIn field o) (offer_demands ps)
  all_take field all = All-map (TakesIn field o) offer_demand ps all

  pub takes_format : (whole : Bool) → All (λ p. TakesIn PixelFormat o (offer_demand p)) ps → ¬ (IsRefusingLine whole o (offer_demands ps) PixelFormat)
  takes_format whole all (inl line) = Any-not_All (λ d. has_format o d ≡ false) (TakesIn PixelFormat o) (offer_demands ps) (λ d lacks takes. cc (lacks, takes)) line (all_take PixelFormat all)
  takes_format whole all (inr unnamed) = absurd unnamed.1

  pub takes_colour : (whole : Bool) → All (λ p. TakesIn ColorSpaces o (offer_demand p)) ps → ¬ (IsRefusingLine whole o (offer_demands ps) ColorSpaces)
  takes_colour whole all (inl line) = Any-not_All (λ d. has_colour o d ≡ false) (TakesIn ColorSpaces o) (offer_demands ps) (λ d lacks takes. cc (lacks, takes)) line (all_take ColorSpaces all)
  takes_colour whole all (inr unnamed) = absurd unnamed.1

  -- and behind it that of the colour space, where each takes the format
  pub colour_first : (whole : Bool) → All (λ p. TakesIn PixelFormat o (offer_demand p)) ps → IsRefusingLine whole o (offer_demands ps) ColorSpaces
      → IsFirstOf (IsRefusingLine whole o (offer_demands ps)) offer_lines ColorSpaces
  colour_first whole all line = record {
    earlier = PixelFormat ∷ [];
    later = _;
    listed = refl;
    holds = line;
    before = All-cons (λ f. ¬ (IsRefusingLine whole o (offer_demands ps) f)) PixelFormat [] (takes_format whole all) (All-nil (λ f. ¬ (IsRefusingLine whole o (offer_demands ps) f)));
  }

-- what has a property up to the last of a list has it before any of its elements
up_to_last : (P : Field → Type 0) (xs ys zs : List Field) (y z : Field) → zs ++ z ∷ [] ≡ xs ++ y ∷ ys → All P zs → All P xs
up_to_last P [] ys zs y z same all = All-nil P
up_to_last P (x ∷ xs) ys [] y z same all = absurd (short xs same) where
  short : (xs : List Field) → z ∷ [] ≡ x ∷ (xs ++ y ∷ ys) → ⊥
  short [] same = absurd (cc)
  short (w ∷ xs) same = absurd (cc)
up_to_last P (x ∷ xs) ys (w ∷ zs) y z same all =
    All-cons P x xs (subst P (ap (head_or w) same) (All-head P w zs all)) (up_to_last P xs ys zs y z (ap rest same) (All-tail P w zs all)) where
      head_or : Field → List Field → Field
      head_or f [] = f
      head_or f (g ∷ gs) = g

      rest : List Field → List Field
      rest [] = []
      rest (g ∷ gs) = gs

-- only the last line speaks of the name of a colour space
abbrev names_colour : Field → Bool
names_colour UnnamedColorSpace = true
names_colour _ = false

abbrev front_lines : List Field
front_lines = PixelFormat ∷ ColorSpaces ∷ (bounds_lines ++ MaxSizeBytes ∷ UnnamedPixelFormat ∷ UnnamedPixelFormatModifier ∷ [])

each_passes : (xs : List Field) → list_all (λ f. not (names_colour f)) xs ≡ true → All (λ f. not (names_colour f) ≡ true) xs
each_passes [] all = All-nil (λ f. not (names_colour f) ≡ true)
each_passes (f ∷ fs) all =
    let both = and_parts (not (names_colour f)) (list_all (λ g. not (names_colour g)) fs) all in
    All-cons (λ g. not (names_colour g) ≡ true) f fs both.0 (each_passes fs both.1)

front_other : All (λ f. not (names_colour f) ≡ true) front_lines
front_other = each_passes front_lines refl

module _ (one other : Offer) (pair : AreOfPair one other) (whole : Bool) (ds : List OfferDemand) where
  -- a line that doesn't speak of colour spaces is true of both or of neither
  back : (f : Field) → f ≢ ColorSpaces → f ≢ UnnamedColorSpace → IsRefusingLine whole other ds f → IsRefusingLine whole one ds f
  back f takes names line = subst (λ o. IsRefusingLine whole o ds f) (sym pair.first) (by (subst (λ o. IsRefusingLine whole o ds f) pair.second line)) where
    by : IsRefusingLine whole (Image pair.pair pair.own) ds f → IsRefusingLine whole (Image pair.pair pair.colour) ds f
    by (inl line) = inl (same_line pair.pair pair.own pair.colour ds f takes line)
    by (inr unnamed) = inr (unnamed.0, same_unnamed pair.pair pair.own pair.colour ds f names unnamed.1)

  forth : (f : Field) → f ≢ ColorSpaces → f ≢ UnnamedColorSpace → IsRefusingLine whole one ds f → IsRefusingLine whole other ds f
  forth f takes names line = subst (λ o. IsRefusingLine whole o ds f) (sym pair.second) (by (subst (λ o. IsRefusingLine whole o ds f) pair.first line)) where
    by : IsRefusingLine whole (Image pair.pair pair.colour) ds f → IsRefusingLine whole (Image pair.pair pair.own) ds f
    by (inl line) = inl (same_line pair.pair pair.colour pair.own ds f takes line)
    by (inr unnamed) = inr (unnamed.0, same_unnamed pair.pair pair.colour pair.own ds f names unnamed.1)

  still_untrue : ¬ (IsRefusingLine whole other ds ColorSpaces) → (f : Field) → not (names_colour f) ≡ true → ¬ (IsRefusingLine whole one ds f) → ¬ (IsRefusingLine whole other ds f)
  still_untrue none f passes untrue line = untrue (back f (λ e. none (subst (IsRefusingLine whole other ds) e line))
      (λ e. (let h : not (names_colour UnnamedColorSpace) ≡ true = subst (λ g. not (names_colour g) ≡ true) e passes in absurd (cc))) line)

  -- so the first line for one offer of a pair is the first for another in
  -- whose colour space all take theirs
  pub first_again : (field : Field) → field ≢ ColorSpaces → field ≢ UnnamedColorSpace → ¬ (IsRefusingLine whole other ds ColorSpaces)
      → IsFirstOf (IsRefusingLine whole one ds) offer_lines field → IsFirstOf (IsRefusingLine whole other ds) offer_lines field
  first_again field takes names none first = record {
    earlier = first.earlier;
    later = first.later;
    listed = first.listed;
    holds = forth field takes names first.holds;
    before = λ k d less. still_untrue none (get_or first.earlier k d) (up_to_last (λ f. not (names_colour f) ≡ true) first.earlier first.later front_lines field UnnamedColorSpace first.listed front_other k d less)
        (first.before k d less);
  }

  -- and that of the format is the first anyhow
  pub format_again : (field : Field) → field ≡ PixelFormat → IsFirstOf (IsRefusingLine whole one ds) offer_lines field → IsFirstOf (IsRefusingLine whole other ds) offer_lines field
  format_again field is first = subst (IsFirstOf (IsRefusingLine whole other ds) offer_lines) (sym is) (record {
    earlier = [];
    later = _;
    listed = refl;
    holds = subst (IsRefusingLine whole other ds) is (forth field (λ e. absurd (cc (is, e))) (λ e. absurd (cc (is, e))) first.holds);
    before = All-nil (λ f. ¬ (IsRefusingLine whole other ds f));
  })

-- of an offer of the pair before: the format's line, or any other where all take the colour space
pub line_again : (one other : Offer) (pair : AreOfPair one other) (whole : Bool) (some ms : List Member) → StandFor some ms → (field own : Field) → own ≡ field
    → (own ≢ ColorSpaces) × (own ≢ UnnamedColorSpace) → (own ≡ PixelFormat) ⊎ All (λ p. TakesIn ColorSpaces other (offer_demand p)) (participants some)
    → IsFirstOf (IsRefusingLine whole one (offer_demands (participants ms))) offer_lines field → IsFirstOf (IsRefusingLine whole other (offer_demands (participants ms))) offer_lines field
line_again one other pair whole some ms stand field own same ignores (inl is) first =
    format_again one other pair whole (offer_demands (participants ms)) field (sym same ∙ is) first
line_again one other pair whole some ms stand field own same ignores (inr all) first =
    first_again one other pair whole (offer_demands (participants ms)) field (λ e. ignores.0 (same ∙ e)) (λ e. ignores.1 (same ∙ e))
    (takes_colour other (participants ms) whole (subst (All (λ p. TakesIn ColorSpaces other (offer_demand p))) stand.same all)) first

-- what is first for those who stand for the members is first for the members
pub first_for_all : (some ms : List Member) → StandFor some ms → (whole : Bool) (o : Offer) (field : Field) → IsFirstOf (IsRefusingLine whole o (offer_demands (participants some))) offer_lines field
    → IsFirstOf (IsRefusingLine whole o (offer_demands (participants ms))) offer_lines field
first_for_all some ms stand whole o field first = subst (λ ps. IsFirstOf (IsRefusingLine whole o (offer_demands ps)) offer_lines field) stand.same first

-- a line of one of some participants is a line of all of them
module _ (nodes : List NodeFacts) (ns : List ℕ) (node : ℕ) (has : Contains ns node) where
  among : AreSomeOf (participants (members_at nodes (node ∷ []))) (participants (members_at nodes ns))
  among = participants_among (members_at nodes (node ∷ [])) (members_at nodes ns) (one_of (member_at nodes) ns node has)

  pub format_lacking : (o : Offer) → IsOfferLine PixelFormat o (offer_demands (participants (members_at nodes (node ∷ [])))) → HeadsFirst o (offer_demands (participants (members_at nodes ns))) PixelFormat
  format_lacking o line whole = format_first o (participants (members_at nodes ns)) whole (inl (any_of_some (λ d. has_format o d ≡ false) (offer_demands (participants (members_at nodes (node ∷ [])))) (offer_demands (participants (members_at nodes ns)))
      (some_map offer_demand (participants (members_at nodes (node ∷ []))) (participants (members_at nodes ns)) among) line))

  pub colour_lacking : (o : Offer) → All (λ p. TakesIn PixelFormat o (offer_demand p)) (participants (members_at nodes ns)) → IsOfferLine ColorSpaces o (offer_demands (participants (members_at nodes (node ∷ []))))
      → HeadsFirst o (offer_demands (participants (members_at nodes ns))) ColorSpaces
  colour_lacking o all line whole =
      colour_first o (participants (members_at nodes ns)) whole all (inl (any_of_some (λ d. has_colour o d ≡ false) (offer_demands (participants (members_at nodes (node ∷ [])))) (offer_demands (participants (members_at nodes ns)))
      (some_map offer_demand (participants (members_at nodes (node ∷ []))) (participants (members_at nodes ns)) among) line))

-- what is said of nothing, where there is nothing
pub if_none : {X : Type 0} (o : Option X) (P : Type 0) (t : Bool) → is_some o ≡ not t → t ≡ true → IfNone o P → P
if_none None P t is none h = h
if_none (Some x) P t is none h = absurd (cc)
