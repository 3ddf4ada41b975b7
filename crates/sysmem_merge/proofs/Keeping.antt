-- What is kept of an offer after one more participant.
use Rattle.std.proofs.Common.{arith, ◌≡◌, ◌||◌, ◌==◌, Bool, true, false, List, [], ◌∷◌, ◌++◌, All, Any, length, refl, sym, ap, ◌∙◌, subst, length-append}
use Rattle.std.specs.Prelude.{Option, Some, None, is_some}
use Rattle.std.specs.List.{cons_option, list_any}
use Rattle.std.specs.Option.{option_map, option_map_or}
use Rattle.std.proofs.Math.Bool.{or-false}
use Rattle.std.proofs.lemmas.List.{append-nil, get_or_append_left}
use Rattle.std.proofs.lemmas.List.Elements.{All-push}
use Rattle.std.proofs.lemmas.List.Folds.{list_any-append}
use Rattle.std.proofs.lemmas.List.Quantifiers.{Any-push}
use Rattle.sysmem_counts.specs.declared.field.Field.{Field}
use Rattle.sysmem_counts.specs.declared.field.Field.TheVariants.{PixelFormat, ColorSpaces, SizeAlignment, BytesPerRowDivisor, StartOffsetDivisor, DisplayRectAlignment}
use Rattle.sysmem_formats.specs.declared.offer.Offer.{Offer}
use Rattle.sysmem_formats.specs.declared.offer.Offer.TheVariants.{NoImage, Image}
use Rattle.sysmem_image.specs.declared.bounds.ImageBounds.{ImageBounds}
use Rattle.sysmem_image.specs.declared.entry.Entry.{Entry}
use Rattle.sysmem_image.specs.Entries.{effective, first_match, takes_colour}
use Rattle.sysmem_image.specs.Lines.{IsBoundsLine, IsFirstLine, IsSteady}
use Rattle.sysmem_image.specs.Merged.{MergedOf}
use Rattle.sysmem_image.proofs.CallerLemmas.{steady_line}
use Rattle.offer_fits.proofs.CallerLemmas.{bounds_asked_push}
use Rattle.sysmem_merge.specs.declared.kept.KeptBounds.{KeptBounds}
use Rattle.sysmem_merge.specs.declared.kept.KeptBounds.TheVariants.{Merged, Refused}
use Rattle.sysmem_merge.specs.declared.kept.KeptOffer.{KeptOffer}
use Rattle.sysmem_merge.specs.Aggregate.{IsLasting, IsListed, AreKeptBounds, IsKept}
use Rattle.sysmem_merge.specs.Demands.{OfferDemand}
use Rattle.sysmem_merge.specs.Offers.{has_format, has_colour, entry_bounds, bounds_asked, names_format, names_modifier, names_colour}
use Rattle.sysmem_merge.specs.Reasons.{IsOfferLine}

-- what some element has, some element of the longer list has
Any-longer : {X : Type 0} (P : X → Type 0) (xs : List X) (y : X) → Any P xs → Any P (xs ++ y ∷ [])
Any-longer P xs y (k, x, below, is, p) = (k, x, omega (arith, below, length-append xs (y ∷ [])), get_or_append_left xs (y ∷ []) x k below ∙ is, p)

-- a line about a common multiple stays true with the bounds of one more entry
steady_with : (f : Field) → IsSteady f → (o : Offer) (es : List ImageBounds) (x : Option ImageBounds) → IsBoundsLine f o es → IsBoundsLine f o (es ++ cons_option x [])
steady_with f steady o es (Some e) line = steady_line f steady o es e line
steady_with f steady o es None line = subst (IsBoundsLine f o) (sym (append-nil es)) line

-- and with one more participant
steady_asked : (f : Field) → IsSteady f → (o : Offer) (ds : List OfferDemand) (d : OfferDemand) → IsBoundsLine f o (bounds_asked o ds) → IsBoundsLine f o (bounds_asked o (ds ++ d ∷ []))
steady_asked f steady o ds d line = subst (IsBoundsLine f o) (sym (bounds_asked_push o ds d)) (steady_with f steady o (bounds_asked o ds) (entry_bounds o d) line)

-- a lasting line stays true of one more participant
lasting_more : (f : Field) → IsLasting f → (o : Offer) (ds : List OfferDemand) (d : OfferDemand) → IsOfferLine f o ds → IsOfferLine f o (ds ++ d ∷ [])
lasting_more PixelFormat lasting o ds d line = Any-longer (λ e. has_format o e ≡ false) ds d line
lasting_more ColorSpaces lasting o ds d line = Any-longer (λ e. has_colour o e ≡ false) ds d line
lasting_more SizeAlignment lasting o ds d line = steady_asked SizeAlignment tt o ds d line
lasting_more BytesPerRowDivisor lasting o ds d line = steady_asked BytesPerRowDivisor tt o ds d line
lasting_more StartOffsetDivisor lasting o ds d line = steady_asked StartOffsetDivisor tt o ds d line
lasting_more DisplayRectAlignment lasting o ds d line = steady_asked DisplayRectAlignment tt o ds d line
lasting_more _ lasting o ds d line = absurd lasting

-- a line about a common multiple is a lasting line of the participants
pub steady_lasts : (f : Field) → IsSteady f → (o : Offer) (ds : List OfferDemand) → IsBoundsLine f o (bounds_asked o ds) → IsLasting f × IsOfferLine f o ds
steady_lasts SizeAlignment steady o ds line = (tt, line)
steady_lasts BytesPerRowDivisor steady o ds line = (tt, line)
steady_lasts StartOffsetDivisor steady o ds line = (tt, line)
steady_lasts DisplayRectAlignment steady o ds line = (tt, line)
steady_lasts _ steady o ds line = absurd steady

-- the bounds with those of one more participant's entry
pub asked_entry : (o : Offer) (ds : List OfferDemand) (d : OfferDemand) (entry : Entry) → Some entry ≡ first_match o d.entries
    → bounds_asked o (ds ++ d ∷ []) ≡ bounds_asked o ds ++ effective o entry ∷ []
asked_entry o ds d entry found = bounds_asked_push o ds d ∙ ap (λ x. bounds_asked o ds ++ cons_option (option_map (effective o) x) []) (sym found)

-- the multiple of one more entry's bounds is above the limit
pub refused_line : (f : Field) → IsSteady f → (o : Offer) (ds : List OfferDemand) (d : OfferDemand) (entry : Entry) → Some entry ≡ first_match o d.entries
    → IsFirstLine f o (bounds_asked o ds ++ effective o entry ∷ []) → IsLasting f × IsOfferLine f o (ds ++ d ∷ [])
refused_line f steady o ds d entry found first =
    steady_lasts f steady o (ds ++ d ∷ []) (subst (IsBoundsLine f o) (sym (asked_entry o ds d entry found)) first.line)

-- the participant's entry takes the offer and its colour space
listed_entry : (o : Offer) (d : OfferDemand) (entry : Entry) → Some entry ≡ first_match o d.entries → takes_colour o entry ≡ true → IsListed o d
listed_entry o d entry found takes = record {
  format = ap (λ x. length d.entries == 0 || is_some x) (sym found) ∙ or_true (length d.entries == 0);
  colour = ap (λ x. option_map_or (takes_colour o) x true) (sym found) ∙ takes;
} where
  or_true : (b : Bool) → (b || true) ≡ true
  or_true true = refl
  or_true false = refl

-- the merged bounds with those of one more participant's entry
pub merged_more : (o : Offer) (ds : List OfferDemand) (d : OfferDemand) (entry : Entry) (new : ImageBounds) → Some entry ≡ first_match o d.entries → takes_colour o entry ≡ true
    → All (IsListed o) ds → MergedOf o (bounds_asked o ds ++ effective o entry ∷ []) new → AreKeptBounds o (ds ++ d ∷ []) (Merged new)
merged_more o ds d entry new found takes listed merged = (
  subst (λ es. MergedOf o es new) (sym (asked_entry o ds d entry found)) merged,
  All-push (IsListed o) ds d listed (listed_entry o d entry found takes),
)

-- an offer that was refused for a field, if it wasn't before
pub record IsRefusing (f : Field) (old new : KeptBounds) : Type 0 where
  pub first : (b : ImageBounds) → old ≡ Merged b → new ≡ Refused f
  pub still : (earlier : Field) → old ≡ Refused earlier → new ≡ Refused earlier

-- a participant doesn't take the offer for the field's sake
kept_refused : (f : Field) → IsLasting f → (o : Offer) (ds : List OfferDemand) (d : OfferDemand) (old new : KeptBounds) → IsRefusing f old new
    → IsOfferLine f o (ds ++ d ∷ []) → AreKeptBounds o ds old → AreKeptBounds o (ds ++ d ∷ []) new
kept_refused f lasting o ds d (Merged b) new refusing line are = rw (refusing.first b refl) (lasting, line)
kept_refused f lasting o ds d (Refused earlier) new refusing line are = rw (refusing.still earlier refl) (are.0, lasting_more earlier are.0 o ds d are.1)

-- where the offer was refused it stays so
pub still_refused : (f : Field) (o : Offer) (ds : List OfferDemand) (d : OfferDemand) → AreKeptBounds o ds (Refused f) → AreKeptBounds o (ds ++ d ∷ []) (Refused f)
still_refused f o ds d are = (are.0, lasting_more f are.0 o ds d are.1)

-- the participant's entry lacks the colour space
pub kept_colourless : (o : Offer) (ds : List OfferDemand) (d : OfferDemand) (entry : Entry) (old new : KeptBounds) → Some entry ≡ first_match o d.entries → takes_colour o entry ≡ false
    → IsRefusing ColorSpaces old new → AreKeptBounds o ds old → AreKeptBounds o (ds ++ d ∷ []) new
kept_colourless o ds d entry old new found lacks refusing are =
    kept_refused ColorSpaces tt o ds d old new refusing (Any-push (λ e. has_colour o e ≡ false) ds d (ap (λ x. option_map_or (takes_colour o) x true) (sym found) ∙ lacks)) are

-- the participant has entries, and none for the offer
pub kept_formatless : (o : Offer) (ds : List OfferDemand) (d : OfferDemand) (old new : KeptBounds) → None ≡ first_match o d.entries → (length d.entries == 0) ≡ false
    → IsRefusing PixelFormat old new → AreKeptBounds o ds old → AreKeptBounds o (ds ++ d ∷ []) new
kept_formatless o ds d old new found some refusing are =
    kept_refused PixelFormat tt o ds d old new refusing (Any-push (λ e. has_format o e ≡ false) ds d (ap (λ x. length d.entries == 0 || is_some x) (sym found) ∙ (or-false (length d.entries == 0) ∙ some))) are

-- the participant has no entries: nothing changes
pub kept_without : (o : Offer) (ds : List OfferDemand) (d : OfferDemand) (kept : KeptBounds) → None ≡ first_match o d.entries → (length d.entries == 0) ≡ true
    → AreKeptBounds o ds kept → AreKeptBounds o (ds ++ d ∷ []) kept
kept_without o ds d (Refused f) found none are = still_refused f o ds d are
kept_without o ds d (Merged b) found none are = (
  subst (λ es. MergedOf o es b) (sym (bounds_asked_push o ds d ∙ (ap (λ x. bounds_asked o ds ++ cons_option (option_map (effective o) x) []) (sym found) ∙ append-nil (bounds_asked o ds)))) are.0,
  All-push (IsListed o) ds d are.1 (record {
    format = ap (λ b. b || is_some (first_match o d.entries)) none;
    colour = ap (λ x. option_map_or (takes_colour o) x true) (sym found);
  }),
)

-- whether one of a list passes a test, with one more
pub named_push : (f : OfferDemand → Bool) (ds : List OfferDemand) (d : OfferDemand) (before : Bool) → before ≡ list_any f ds → (before || f d) ≡ list_any f (ds ++ d ∷ [])
named_push f ds d before is = ap (λ b. b || f d) is ∙ (ap (λ b. list_any f ds || b) (sym (or-false (f d))) ∙ sym (list_any-append f ds (d ∷ [])))

-- what is kept of the offer with one more participant, part by part
pub kept_more : (o : Offer) (ds : List OfferDemand) (d : OfferDemand) (x : Option Entry) (old new : KeptOffer) → x ≡ first_match o d.entries → IsKept o ds old
    → AreKeptBounds o (ds ++ d ∷ []) new.bounds
    → new.format_named ≡ (old.format_named || names_format x) → new.modifier_named ≡ (old.modifier_named || names_modifier x) → new.colour_named ≡ (old.colour_named || names_colour o x)
    → IsKept o (ds ++ d ∷ []) new
kept_more o ds d x old new found kept bounds format modifier colour = record {
  bounds = bounds;
  format = format ∙ (ap (λ e. old.format_named || names_format e) found ∙ named_push (λ e. names_format (first_match o e.entries)) ds d old.format_named kept.format);
  modifier = modifier ∙ (ap (λ e. old.modifier_named || names_modifier e) found ∙ named_push (λ e. names_modifier (first_match o e.entries)) ds d old.modifier_named kept.modifier);
  colour = colour ∙ (ap (λ e. old.colour_named || names_colour o e) found ∙ named_push (λ e. names_colour o (first_match o e.entries)) ds d old.colour_named kept.colour);
}

-- the same where the participant has no entry for the offer, which names nothing
pub kept_unnamed : (o : Offer) (ds : List OfferDemand) (d : OfferDemand) (old : KeptOffer) (bounds : KeptBounds) → None ≡ first_match o d.entries → IsKept o ds old
    → AreKeptBounds o (ds ++ d ∷ []) bounds → IsKept o (ds ++ d ∷ []) (record old { bounds = bounds })
kept_unnamed o ds d old bounds found kept are = kept_more o ds d None old (record old { bounds = bounds }) found kept are
    (sym (or-false old.format_named)) (sym (or-false old.modifier_named)) (none_named old.colour_named o) where
      none_named : (b : Bool) (o : Offer) → b ≡ (b || names_colour o None)
      none_named b NoImage = sym (or-false b)
      none_named b (Image pair colour) = sym (or-false b)
