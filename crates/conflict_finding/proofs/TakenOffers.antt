-- By which entry, or by having none, a participant takes an offer.
use Rattle.std.proofs.Common.{◌≡◌, Bool, true, false, List, length, Option, Some, None, refl, sym, ◌∙◌, ap}
use Rattle.std.specs.Prelude.{◌||◌, ◌==◌, is_some}
use Rattle.std.specs.Option.{option_map_or}
use Rattle.sysmem_formats.specs.declared.offer.Offer.{Offer}
use Rattle.sysmem_image.specs.declared.entry.Entry.{Entry}
use Rattle.sysmem_image.specs.Entries.{first_match, takes_colour}
use Rattle.offer_fits.specs.Offers.{IsListed, has_colour, has_format}
use Rattle.offer_fits.specs.Demands.{OfferDemand}

or_true : (t : Bool) → (t || true) ≡ true
or_true true = refl
or_true false = refl

or_false : (t : Bool) → (t || false) ≡ t
or_false true = refl
or_false false = refl

module _ (o : Offer) (d : OfferDemand) (es : List Entry) (same : d.entries ≡ es) where
  format_by : has_format o d ≡ (length es == 0 || is_some (first_match o es))
  format_by = ap (λ xs. length xs == 0 || is_some (first_match o xs)) same

  colour_by : has_colour o d ≡ option_map_or (takes_colour o) (first_match o es) true
  colour_by = ap (λ xs. option_map_or (takes_colour o) (first_match o xs) true) same

  module _ (entry : Entry) (at : first_match o es ≡ Some entry) where
    pub format_by_entry : true ≡ has_format o d
    format_by_entry = sym (format_by ∙ (ap (λ (f : Option Entry). length es == 0 || is_some f) at ∙ or_true (length es == 0)))

    pub listed_by_entry : (t : Bool) → t ≡ takes_colour o entry → t ≡ true → IsListed o d
    listed_by_entry t is yes' = record {
      format = sym format_by_entry;
      colour = colour_by ∙ (ap (λ (f : Option Entry). option_map_or (takes_colour o) f true) at ∙ (sym is ∙ yes'));
    }

  module _ (none : first_match o es ≡ None) (t : Bool) (is : t ≡ (length es == 0)) where
    pub format_by_none : t ≡ has_format o d
    format_by_none = is ∙ sym (format_by ∙ (ap (λ (f : Option Entry). length es == 0 || is_some f) none ∙ or_false (length es == 0)))

    pub listed_by_none : t ≡ true → IsListed o d
    listed_by_none yes' = record {
      format = sym format_by_none ∙ yes';
      colour = colour_by ∙ ap (λ (f : Option Entry). option_map_or (takes_colour o) f true) none;
    }
