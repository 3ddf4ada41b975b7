-- What is true of all participants for an offer is true of those whom its line names.
use Rattle.std.proofs.Common.{◌≡◌, ◌≢◌, ◌⊎◌, inl, inr, Bool, true, false, List, [], ◌∷◌, length, option_map, refl, sym, ◌∙◌, ap, subst, arith}
use Rattle.std.specs.Prelude.{◌==◌, not, filter}
use Rattle.std.specs.List.{cons_option}
use Rattle.std.proofs.lemmas.Bool.{ne_eqb}
use Rattle.sysmem_counts.specs.declared.field.Field.{Field}
use Rattle.sysmem_counts.specs.declared.field.Field.TheVariants.{PixelFormat, ColorSpaces, MaxSizeBytes}
use Rattle.sysmem_formats.specs.declared.offer.Offer.{Offer}
use Rattle.sysmem_image.specs.declared.entry.Entry.{Entry}
use Rattle.sysmem_image.specs.Entries.{effective, first_match}
use Rattle.sysmem_image.specs.Lines.{IsBoundsLine}
use Rattle.offer_fits.specs.declared.fit.Fit.{Fit}
use Rattle.offer_fits.specs.Demands.{OfferDemand, offer_demand, offer_demands}
use Rattle.offer_fits.specs.Fit.{IsBestFit}
use Rattle.sysmem_merge.specs.OfferRead.{IsRefusingLine}
use Rattle.offer_fits.specs.Offers.{bounds_asked, entry_bounds, is_named}
use Rattle.offer_fits.specs.OfferLines.{IsOfferLine}
use Rattle.sysmem_merge.specs.Reasons.{IsUnnamedLine}
use Rattle.negotiation_inputs.specs.Participant.{Participant}
use Rattle.sysmem_tree.specs.Shape.{Member}
use Rattle.conflict_finding.specs.declared.whom.Whom.TheVariants.{All, WithEntries}
use Rattle.verdict_claims.specs.Members.{participants, StandFor}
use Rattle.conflict_finding.specs.Refusals.{ShareOffer}
use Rattle.conflict_finding.specs.Whom.{has_entries, names}
use Rattle.conflict_finding.proofs.NamedLines.{each_named}

with_entries : (ps : List Participant) → offer_demands (filter (names WithEntries) ps) ≡ filter has_entries (offer_demands ps)
with_entries [] = refl
with_entries (p ∷ ps) = by (has_entries (offer_demand p)) refl (with_entries ps) where
  by : (t : Bool) → has_entries (offer_demand p) ≡ t → offer_demands (filter (names WithEntries) ps) ≡ filter has_entries (offer_demands ps)
      → offer_demands (filter (names WithEntries) (p ∷ ps)) ≡ filter has_entries (offer_demands (p ∷ ps))
  by true is rest = rw is (ap (λ ds. offer_demand p ∷ ds) rest)
  by false is rest = rw is rest

-- those without entries ask nothing of an offer
no_entries : (es : List Entry) → not (length es == 0) ≡ false → es ≡ []
no_entries [] no' = refl
no_entries (e ∷ es) no' = absurd (cc (no', ap not (ne_eqb (length (e ∷ es)) 0 (λ same. omega (arith, same)))))

with_entries_all : (o : Offer) (ds : List OfferDemand) → bounds_asked o (filter has_entries ds) ≡ bounds_asked o ds
with_entries_all o [] = refl
with_entries_all o (d ∷ ds) = at (has_entries d) refl (with_entries_all o ds) where
  at : (t : Bool) → has_entries d ≡ t → bounds_asked o (filter has_entries ds) ≡ bounds_asked o ds → bounds_asked o (filter has_entries (d ∷ ds)) ≡ bounds_asked o (d ∷ ds)
  at true is rest = rw is (ap (λ bs. cons_option (entry_bounds o d) bs) rest)
  at false is rest = rw is (rest ∙ ap (λ es. cons_option (option_map (effective o) (first_match o es)) (bounds_asked o ds)) (sym (no_entries d.entries is)))

-- a line of bounds is true of those with entries
with_bounds : (field : Field) (o : Offer) (ps : List Participant) → IsBoundsLine field o (bounds_asked o (offer_demands ps)) → IsBoundsLine field o (bounds_asked o (offer_demands (filter (names WithEntries) ps)))
with_bounds field o ps line = subst (IsBoundsLine field o) (sym (ap (bounds_asked o) (with_entries ps) ∙ with_entries_all o (offer_demands ps))) line

bounds_line : (field : Field) (o : Offer) (ps : List Participant) → field ≢ PixelFormat → field ≢ ColorSpaces → field ≢ MaxSizeBytes → IsOfferLine field o (offer_demands ps)
    → IsOfferLine field o (offer_demands (filter (names WithEntries) ps))
bounds_line PixelFormat o ps a b c line = absurd (a refl)
bounds_line ColorSpaces o ps a b c line = absurd (b refl)
bounds_line MaxSizeBytes o ps a b c line = absurd (c refl)
bounds_line field o ps a b c line = with_bounds field o ps line

pub entries_refuse : (whole : Bool) (field : Field) (o : Offer) (ps : List Participant) → field ≢ PixelFormat → field ≢ ColorSpaces → field ≢ MaxSizeBytes → IsRefusingLine whole o (offer_demands ps) field
    → IsOfferLine field o (offer_demands (filter (names WithEntries) ps)) ⊎ ((whole ≡ true) × IsUnnamedLine field o (offer_demands ps))
entries_refuse whole field o ps a b c (inl line) = inl (bounds_line field o ps a b c line)
entries_refuse whole field o ps a b c (inr unnamed) = inr unnamed

-- and any line of all of them
pub all_refuse : (whole : Bool) (field : Field) (o : Offer) (ps : List Participant) → IsRefusingLine whole o (offer_demands ps) field
    → IsOfferLine field o (offer_demands (filter (names All) ps)) ⊎ ((whole ≡ true) × IsUnnamedLine field o (offer_demands ps))
all_refuse whole field o ps line = subst (λ qs. IsOfferLine field o (offer_demands qs) ⊎ ((whole ≡ true) × IsUnnamedLine field o (offer_demands ps))) (sym (each_named ps)) line

-- what is true of those who stand for the members is true of the members
pub shared_offer : (some ms : List Member) → StandFor some ms → (whole : Bool) (o : Offer) (fit : Fit) → IsBestFit o (offer_demands (participants some)) fit
    → (whole ≡ true → is_named o (offer_demands (participants some)) ≡ true) → ShareOffer whole ms o
shared_offer some ms stand whole o fit best named = record {
  fit = fit;
  best = subst (λ ps. IsBestFit o (offer_demands ps) fit) stand.same best;
  named = λ is. subst (λ ps. is_named o (offer_demands ps) ≡ true) stand.same (named is);
}

pub refusing : (some ms : List Member) → StandFor some ms → (whole : Bool) (o : Offer) (field : Field) → IsRefusingLine whole o (offer_demands (participants some)) field
    → IsRefusingLine whole o (offer_demands (participants ms)) field
refusing some ms stand whole o field line = subst (λ ps. IsRefusingLine whole o (offer_demands ps) field) stand.same line
