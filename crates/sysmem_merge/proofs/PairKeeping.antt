-- What is kept of a pair, in each of its colour spaces.
use Rattle.std.proofs.Common.{ℕ, ◌≡◌, ◌≤◌, ◌&&◌, ◌||◌, ◌==◌, Bool, true, false, List, [], ◌∷◌, ◌++◌, length, refl, sym, ap, ◌∙◌, subst}
use Rattle.std.specs.Prelude.{Some, None}
use Rattle.std.specs.Option.{option_map_or}
use Rattle.std.specs.Bool.{Decides}
use Rattle.std.proofs.Math.Nat.{one-dvd}
use Rattle.std.proofs.lemmas.List.Elements.{All-nil, All-push}
use Rattle.std.proofs.lemmas.List.Quantifiers.{Any-push}
use Rattle.sysmem_counts.specs.declared.field.Field.{Field}
use Rattle.sysmem_counts.specs.declared.field.Field.TheVariants.{PixelFormat, ColorSpaces}
use Rattle.sysmem_formats.specs.declared.colour_space.ColourSpace.{ColourSpace}
use Rattle.sysmem_formats.specs.declared.colour_space.ColourSpace.TheVariants.{Srgb}
use Rattle.sysmem_formats.specs.declared.offer.Offer.{Offer}
use Rattle.sysmem_formats.specs.declared.offer.Offer.TheVariants.{Image, NoImage}
use Rattle.sysmem_formats.specs.declared.offer.Pair.{Pair}
use Rattle.sysmem_image.specs.Bounds.{IsOwn}
use Rattle.sysmem_image.specs.Colours.{lists, accepts}
use Rattle.sysmem_image.specs.declared.bounds.ImageBounds.{ImageBounds}
use Rattle.sysmem_image.specs.declared.entry.Entry.{Entry}
use Rattle.sysmem_image.specs.Entries.{effective, first_match, takes_colour}
use Rattle.sysmem_image.specs.Lines.{IsBoundsLine}
use Rattle.sysmem_image.specs.Fields.{Bound, MinSize, MaxSize, SizeAlignment, MinBytesPerRow, MaxBytesPerRow, BytesPerRowDivisor, StartOffsetDivisor, DisplayRectAlignment, RequiredMinSize, RequiredMaxSize, MaxWidthTimesHeight, Side, Width, Height, Keeps, rule_of, value, own_value, most}
use Rattle.sysmem_image.specs.Merged.{IsMergeOf, MergedOf}
use Rattle.sysmem_image.proofs.CallerLemmas.{own_adds_nothing}
use Rattle.sysmem_merge.specs.declared.kept.KeptBounds.{KeptBounds}
use Rattle.sysmem_merge.specs.declared.kept.KeptBounds.TheVariants.{Merged, Refused}
use Rattle.sysmem_merge.specs.declared.pair.KeptPair.{KeptPair}
use Rattle.sysmem_merge.specs.Aggregate.{IsListed, AreKeptBounds}
use Rattle.sysmem_merge.specs.Demands.{OfferDemand}
use Rattle.sysmem_merge.specs.Offers.{has_colour, bounds_asked, names_format, names_modifier}
use Rattle.sysmem_merge.specs.Pairs.{has, says_format, says_modifier, bounds_where, in_colour, IsMergedWith, ArePlain, IsPairKept}
use Rattle.sysmem_merge.specs.Reasons.{IsOfferLine}
use Rattle.sysmem_merge.proofs.AnyColour.{is_own_any, merged_any, steady_any, first_any}
use Rattle.sysmem_merge.proofs.Joining.{refused_first, refused_second, merged_together, kept_together}
use Rattle.sysmem_merge.proofs.Summing.{all_parts}
use Rattle.sysmem_merge.proofs.Keeping.{merged_more, steady_lasts, asked_entry, still_refused, kept_more, kept_unnamed, kept_formatless, kept_without, IsRefusing}

-- a colour space that the new participant's entry lacks refuses the offer
lacking : (o : Offer) (ds : List OfferDemand) (d : OfferDemand) (entry : Entry) → Some entry ≡ first_match o d.entries → takes_colour o entry ≡ false
    → AreKeptBounds o (ds ++ d ∷ []) (Refused ColorSpaces)
lacking o ds d entry found lacks =
    (tt, Any-push (λ e. has_colour o e ≡ false) ds d (ap (λ x. option_map_or (takes_colour o) x true) (sym found) ∙ lacks))

-- bounds with an entry's, in a colour space that it takes
merged_entry : (pair : Pair) (c : ColourSpace) (ds : List OfferDemand) (d : OfferDemand) (entry : Entry) (b : ImageBounds) (new : KeptBounds)
    → Some entry ≡ first_match (Image pair c) d.entries → takes_colour (Image pair c) entry ≡ true
    → IsMergedWith (Image pair Srgb) entry b new → AreKeptBounds (Image pair c) ds (Merged b) → AreKeptBounds (Image pair c) (ds ++ d ∷ []) new
merged_entry pair c ds d entry b (Merged new) found takes with' are =
    merged_more (Image pair c) ds d entry new found takes are.1
    (merged_any pair Srgb c (bounds_asked (Image pair c) ds ++ effective (Image pair c) entry ∷ []) new
    (with' (bounds_asked (Image pair c) ds) (merged_any pair c Srgb (bounds_asked (Image pair c) ds) b are.0)))
merged_entry pair c ds d entry b (Refused field) found takes with' are =
    let first = with'.1 (bounds_asked (Image pair c) ds) (merged_any pair c Srgb (bounds_asked (Image pair c) ds) b are.0) in
    steady_lasts field with'.0 (Image pair c) (ds ++ d ∷ [])
    (subst (IsBoundsLine field (Image pair c)) (sym (asked_entry (Image pair c) ds d entry found))
    (steady_any pair Srgb c field with'.0 (bounds_asked (Image pair c) ds ++ effective (Image pair c) entry ∷ []) first.line))

-- what a merge leaves of bounds
pub record IsMerging (pair : Pair) (entry : Entry) (old new : KeptBounds) : Type 0 where
  pub merged : (b : ImageBounds) → old ≡ Merged b → IsMergedWith (Image pair Srgb) entry b new
  pub still : (f : Field) → old ≡ Refused f → new ≡ Refused f

entry_bounds : (pair : Pair) (c : ColourSpace) (ds : List OfferDemand) (d : OfferDemand) (entry : Entry) (taken takes : Bool) (old new : KeptBounds)
    → Some entry ≡ first_match (Image pair c) d.entries → takes ≡ takes_colour (Image pair c) entry → IsMerging pair entry old new
    → AreKeptBounds (Image pair c) ds (bounds_where taken old) → AreKeptBounds (Image pair c) (ds ++ d ∷ []) (bounds_where (taken && takes) new)
entry_bounds pair c ds d entry false takes old new found is merging are = still_refused ColorSpaces (Image pair c) ds d are
entry_bounds pair c ds d entry true false old new found is merging are = lacking (Image pair c) ds d entry found (sym is)
entry_bounds pair c ds d entry true true (Merged b) new found is merging are = merged_entry pair c ds d entry b new found (sym is) (merging.merged b refl) are
entry_bounds pair c ds d entry true true (Refused f) new found is merging are = rw (merging.still f refl) (still_refused f (Image pair c) ds d are)

-- with one more participant, whose entry for the pair this is
pub with_entry : (pair : Pair) (ds : List OfferDemand) (d : OfferDemand) (entry : Entry) (old new : KeptPair) → Some entry ≡ first_match (Image pair Srgb) d.entries
    → IsMerging pair entry old.bounds new.bounds → says_format new.named ≡ (says_format old.named || names_format (Some entry)) → says_modifier new.named ≡ (says_modifier old.named || names_modifier (Some entry))
    → ((c : ColourSpace) → has new.taken c ≡ (has old.taken c && accepts entry.colours c)) → ((c : ColourSpace) → has new.named c ≡ (has old.named c || lists entry.colours c))
    → (new.is_plain ≡ true → ArePlain pair new.bounds) → IsPairKept pair ds old → IsPairKept pair (ds ++ d ∷ []) new
with_entry pair ds d entry old new found merging format modifier taken named plain kept = record {
  each = λ c. let here = found ∙ first_any pair Srgb c d.entries in
      kept_more (Image pair c) ds d (Some entry) (in_colour old c) (in_colour new c) here (kept.each c)
      (rw (taken c) (entry_bounds pair c ds d entry (has old.taken c) (accepts entry.colours c) old.bounds new.bounds here refl merging (kept.each c).bounds))
      format modifier (named c);
  plain = plain;
}

-- n keeps to an absent value where it keeps to the offer's own
absent_kept : (o : Offer) (f : Bound) (side : Side) (n : ℕ) → Keeps (rule_of f) (own_value o f side) n → Keeps (rule_of f) (own_value NoImage f side) n
absent_kept o MinSize side n kept = kept
absent_kept o MaxSize side n kept = kept
absent_kept o SizeAlignment Width n kept = one-dvd n
absent_kept o SizeAlignment Height n kept = one-dvd n
absent_kept o MinBytesPerRow side n kept = kept
absent_kept o MaxBytesPerRow side n kept = kept
absent_kept o BytesPerRowDivisor side n kept = one-dvd n
absent_kept o StartOffsetDivisor side n kept = kept
absent_kept o DisplayRectAlignment side n kept = kept
absent_kept o RequiredMinSize side n kept = kept
absent_kept o RequiredMaxSize side n kept = kept
absent_kept o MaxWidthTimesHeight side n kept = kept

-- bounds of absent values add nothing
absent_added : (o : Offer) (es : List ImageBounds) (e b : ImageBounds) → IsOwn NoImage e → MergedOf o es b → MergedOf o (es ++ e ∷ []) b
absent_added o es e b absent merged = record {
  in_range = merged.in_range;
  each = λ f side. let exactly = (merged.each f side).exactly in record {
    suits = (merged.each f side).suits;
    exactly = λ n own. (
      λ kept. All-push (λ x. Keeps (rule_of f) (value f side x) n) es e ((exactly n own).0 kept) (rw (absent f side) (absent_kept o f side n own)),
      λ all. (exactly n own).1 (all_parts (λ x. Keeps (rule_of f) (value f side x) n) es (e ∷ []) all).0,
    );
  };
}

-- bounds that are as they were, where an entry asks for nothing
pub still_merged : (pair : Pair) (entry : Entry) (old new : KeptBounds) → new ≡ old → IsOwn NoImage (effective (Image pair Srgb) entry) → IsMerging pair entry old new
still_merged pair entry old new same absent = record {
  merged = λ b is. rw (same, is) (λ es. absent_added (Image pair Srgb) es (effective (Image pair Srgb) entry) b absent);
  still = λ f is. same ∙ is;
}

-- one who has entries, and none for the pair
refused_where : (pair : Pair) (c : ColourSpace) (ds : List OfferDemand) (d : OfferDemand) (taken : Bool) (old new : KeptBounds) → None ≡ first_match (Image pair c) d.entries
    → (length d.entries == 0) ≡ false → IsRefusing PixelFormat old new → AreKeptBounds (Image pair c) ds (bounds_where taken old)
    → AreKeptBounds (Image pair c) (ds ++ d ∷ []) (bounds_where taken new)
refused_where pair c ds d true old new found some refusing are = kept_formatless (Image pair c) ds d old new found some refusing are
refused_where pair c ds d false old new found some refusing are = still_refused ColorSpaces (Image pair c) ds d are

pub without_entry : (pair : Pair) (ds : List OfferDemand) (d : OfferDemand) (old : KeptPair) (new : KeptBounds) → None ≡ first_match (Image pair Srgb) d.entries
    → (length d.entries == 0) ≡ false → IsRefusing PixelFormat old.bounds new → IsPairKept pair ds old
    → IsPairKept pair (ds ++ d ∷ []) (record old { bounds = new; is_plain = false })
without_entry pair ds d old new found some refusing kept = record {
  each = λ c. let here = found ∙ first_any pair Srgb c d.entries in
      kept_unnamed (Image pair c) ds d (in_colour old c) (bounds_where (has old.taken c) new) here (kept.each c)
      (refused_where pair c ds d (has old.taken c) old.bounds new here some refusing (kept.each c).bounds);
  plain = λ is. absurd (cc is);
}

-- one who has no entries at all
pub without_entries : (pair : Pair) (ds : List OfferDemand) (d : OfferDemand) (old : KeptPair) → None ≡ first_match (Image pair Srgb) d.entries
    → (length d.entries == 0) ≡ true → IsPairKept pair ds old → IsPairKept pair (ds ++ d ∷ []) old
without_entries pair ds d old found none kept = record {
  each = λ c. let here = found ∙ first_any pair Srgb c d.entries in
      kept_unnamed (Image pair c) ds d (in_colour old c) (in_colour old c).bounds here (kept.each c)
      (kept_without (Image pair c) ds d (in_colour old c).bounds here none (kept.each c).bounds);
  plain = kept.plain;
}

-- before any participant
pub new_pair : (pair : Pair) (b : ImageBounds) (kept : KeptPair) → kept.bounds ≡ Merged b → IsOwn (Image pair Srgb) b → MergedOf (Image pair Srgb) [] b
    → ((c : ColourSpace) → has kept.taken c ≡ true) → ((c : ColourSpace) → has kept.named c ≡ false) → says_format kept.named ≡ false → says_modifier kept.named ≡ false → IsPairKept pair [] kept
new_pair pair b kept is own merged taken named format modifier = record {
  each = λ c. record {
    bounds = rw (taken c, is) (merged_any pair Srgb c [] b merged, All-nil (IsListed (Image pair c)));
    format = format;
    modifier = modifier;
    colour = named c;
  };
  plain = λ _. record { bounds = b; merged = is; own = λ c. is_own_any pair Srgb c b own };
}

-- bounds with plain ones
plain_added : (o : Offer) (ds es : List OfferDemand) (above : KeptBounds) (own : ImageBounds) → IsOwn o own → AreKeptBounds o ds above → AreKeptBounds o es (Merged own)
    → AreKeptBounds o (ds ++ es) above
plain_added o ds es (Refused f) own is left right = refused_first f o ds es left
plain_added o ds es (Merged a) own is left right = merged_together o ds es a own a left right
    (own_adds_nothing o (bounds_asked o ds) (bounds_asked o es) a own is left.0 right.0)

pub with_plain : (pair : Pair) (ds es : List OfferDemand) (above more : KeptBounds) → ArePlain pair more
    → (c : ColourSpace) → AreKeptBounds (Image pair c) ds above → AreKeptBounds (Image pair c) es more → AreKeptBounds (Image pair c) (ds ++ es) above
with_plain pair ds es above more plain c left right =
    plain_added (Image pair c) ds es above plain.bounds (plain.own c) left (rw plain.merged at right)

-- an offer that either list refuses for its colour space, and one that both take
joined_where : (o : Offer) (ds es : List OfferDemand) (a b : Bool) (first second joined : KeptBounds) → AreKeptBounds o ds (bounds_where a first) → AreKeptBounds o es (bounds_where b second)
    → (AreKeptBounds o ds first → AreKeptBounds o es second → AreKeptBounds o (ds ++ es) joined) → AreKeptBounds o (ds ++ es) (bounds_where (a && b) joined)
joined_where o ds es false b first second joined left right both = refused_first ColorSpaces o ds es left
joined_where o ds es true false first second joined left right both = refused_second ColorSpaces o ds es right
joined_where o ds es true true first second joined left right both = both left right

-- bounds that are the pair's own, where other ones are
same_merged_of : (o : Offer) (es : List ImageBounds) (a b : ImageBounds) → IsOwn o a → IsOwn o b → MergedOf o es a → MergedOf o es b
same_merged_of o es a b own own' m = record {
  in_range = λ f side. subst (λ v. v ≤ most f) (own f side ∙ sym (own' f side)) (m.in_range f side);
  each = λ f side. subst (λ v. IsMergeOf (Keeps (rule_of f)) (own_value o f side) (value f side) es v) (own f side ∙ sym (own' f side)) (m.each f side);
}

-- plain bounds stand for what other plain ones stand for
pub still_plain : (pair : Pair) (ds : List OfferDemand) (old above : KeptBounds) → ArePlain pair old → ArePlain pair above
    → (c : ColourSpace) → AreKeptBounds (Image pair c) ds above → AreKeptBounds (Image pair c) ds old
still_plain pair ds old above was plain c are =
    let (merged, listed) = rw plain.merged at are in
    rw was.merged (same_merged_of (Image pair c) (bounds_asked (Image pair c) ds) plain.bounds was.bounds (plain.own c) (was.own c) merged, listed)

-- what is kept of a pair for both lists
pub joined_pair : (pair : Pair) (ds es : List OfferDemand) (a b new : KeptPair)
    → ((c : ColourSpace) → AreKeptBounds (Image pair c) ds a.bounds → AreKeptBounds (Image pair c) es b.bounds → AreKeptBounds (Image pair c) (ds ++ es) new.bounds)
    → says_format new.named ≡ (says_format a.named || says_format b.named) → says_modifier new.named ≡ (says_modifier a.named || says_modifier b.named)
    → ((c : ColourSpace) → has new.taken c ≡ (has a.taken c && has b.taken c)) → ((c : ColourSpace) → has new.named c ≡ (has a.named c || has b.named c))
    → (new.is_plain ≡ true → ArePlain pair new.bounds) → IsPairKept pair ds a → IsPairKept pair es b → IsPairKept pair (ds ++ es) new
joined_pair pair ds es a b new bounds format modifier taken named plain left right = record {
  each = λ c. rw (taken c, named c, format, modifier) (kept_together (Image pair c) ds es (in_colour a c) (in_colour b c) (bounds_where (has a.taken c && has b.taken c) new.bounds)
      (joined_where (Image pair c) ds es (has a.taken c) (has b.taken c) a.bounds b.bounds new.bounds (left.each c).bounds (right.each c).bounds (bounds c))
      (left.each c) (right.each c));
  plain = plain;
}

-- what refuses a pair's bounds refuses each of its offers
pub refused_offer : (o : Offer) (ds : List OfferDemand) (taken : Bool) (f : Field) → AreKeptBounds o ds (bounds_where taken (Refused f)) → (field : Field) × IsOfferLine field o ds
refused_offer o ds true f are = (f, are.1)
refused_offer o ds false f are = (ColorSpaces, are.1)

-- and a colour space that somebody doesn't take refuses its offer
pub untaken_offer : (o : Offer) (ds : List OfferDemand) (bounds : KeptBounds) (taken : Bool) → taken ≡ false → AreKeptBounds o ds (bounds_where taken bounds) → (field : Field) × IsOfferLine field o ds
untaken_offer o ds bounds true is are = absurd (cc is)
untaken_offer o ds bounds false is are = (ColorSpaces, are.1)

-- merged bounds that are the same
abbrev merged_bounds : ImageBounds → KeptBounds → ImageBounds
merged_bounds other (Merged b) = b
merged_bounds other (Refused f) = other

pub same_merged : (a b : ImageBounds) → Merged a ≡ Merged b → a ≡ b
same_merged a b same = ap (merged_bounds a) same

-- merged bounds that are equal to the pair's own
pub own_plain : (pair : Pair) (b own : ImageBounds) (o : Offer) (kept : KeptBounds) (r : Bool) → o ≡ Image pair Srgb → IsOwn o own → Decides r (b ≡ own) → kept ≡ Merged b → r ≡ true
    → ArePlain pair kept
own_plain pair b own o kept r same is decides merged yes' = record {
  bounds = b;
  merged = merged;
  own = λ c. is_own_any pair Srgb c b (subst (IsOwn (Image pair Srgb)) (sym (decides.0 yes')) (subst (λ p. IsOwn p own) same is));
}
