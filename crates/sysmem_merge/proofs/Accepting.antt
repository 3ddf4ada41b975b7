-- Whether one participant accepts an offer and bounds on its images, and settings with them.
use Rattle.std.proofs.Common.{◌≡◌, ◌↔◌, ◌||◌, ◌==◌, ◌≤◌, Bool, true, false, length, Option, Some, None, IfSome, IfNone, not, IsTrue, slice_get, refl, sym, ap, ◌∙◌, subst}
use Rattle.std.specs.Prelude.{is_some}
use Rattle.std.specs.Option.{option_map, option_map_or}
use Rattle.std.proofs.Math.Bool.{or-true}
use Rattle.std.proofs.lemmas.Option.{same_Some}
use Rattle.sysmem_counts.specs.declared.field.Field.{Field}
use Rattle.sysmem_formats.specs.declared.offer.Offer.{Offer}
use Rattle.sysmem_image.proofs.CallerLemmas.{not_tighter}
use Rattle.sysmem_image.specs.declared.bounds.ImageBounds.{ImageBounds}
use Rattle.sysmem_image.specs.declared.entry.Entry.{Entry}
use Rattle.sysmem_image.specs.Bounds.{IsTighter, IsFirstFailing}
use Rattle.sysmem_image.specs.Entries.{effective, first_match, takes_colour}
use Rattle.sysmem_memory.specs.Heap.{HeapFacts}
use Rattle.sysmem_memory.specs.PlaceTable.{AllowsPlace}
use Rattle.sysmem_merge.specs.declared.settings.Settings.{Settings}
use Rattle.sysmem_merge.specs.Demands.{OfferDemand, offer_demand}
use Rattle.sysmem_merge.specs.Offers.{AcceptsOffer}
use Rattle.sysmem_merge.specs.Settings.{CoversOn}
use Rattle.negotiation_inputs.specs.Participant.{Participant}
use Rattle.negotiation_inputs.specs.Platform.{PlatformFacts}

-- no field fails where bounds keep to others
none_failing : (a b : ImageBounds) (r : Option Field) (none : Bool) → is_some r ≡ not none → IfNone r (IsTighter a b) → IfSome r (λ f. IsFirstFailing f a b) → IsTrue none ↔ IsTighter a b
none_failing a b None true is kept failing = (λ _. kept, λ _. refl)
none_failing a b None false is kept failing = absurd (cc is)
none_failing a b (Some f) true is kept failing = absurd (cc is)
none_failing a b (Some f) false is kept failing = (λ no. absurd (cc no), λ tight. absurd (not_tighter f a b failing tight))

-- the participant's entry takes the colour space: what remains are the bounds
pub accepts_entry : (o : Offer) (b : ImageBounds) (d : OfferDemand) (entry : Entry) (r : Option Field) (none : Bool) → Some entry ≡ first_match o d.entries → takes_colour o entry ≡ true
    → is_some r ≡ not none → IfNone r (IsTighter b (effective o entry)) → IfSome r (λ f. IsFirstFailing f b (effective o entry)) → IsTrue none ↔ AcceptsOffer o b d
accepts_entry o b d entry r none found takes is kept failing = let exact = none_failing b (effective o entry) r none is kept failing in (
  λ yes. record {
    format = ap (λ x. length d.entries == 0 || is_some x) (sym found) ∙ or-true (length d.entries == 0);
    colour = ap (λ x. option_map_or (takes_colour o) x true) (sym found) ∙ takes;
    bounds = subst (λ x. IfSome (option_map (effective o) x) (IsTighter b)) found (exact.0 yes);
  },
  λ accepts. exact.1 (subst (λ x. IfSome (option_map (effective o) x) (IsTighter b)) (sym found) accepts.bounds),
)

-- what a participant accepts makes it accept settings
pub covers_when : (platform : PlatformFacts) (s : Settings) (p : Participant) (heap : HeapFacts) → slice_get platform.heaps s.place.heap ≡ Some heap
    → AllowsPlace p.memory p.usage heap s.place.coherency → (p.memory.min_size_bytes ≤ s.size_bytes) × (s.size_bytes ≤ p.memory.max_size_bytes)
    → AcceptsOffer s.offer s.bounds (offer_demand p) → CoversOn platform s p
covers_when platform s p heap here place size offer = record {
  heap = heap;
  has = here;
  covers = record { fit = record { offer = offer; min_size = size.0; max_size = size.1 }; place = place };
}

-- and the other way round
pub covers_place : (platform : PlatformFacts) (s : Settings) (p : Participant) (heap : HeapFacts) → slice_get platform.heaps s.place.heap ≡ Some heap
    → CoversOn platform s p → AllowsPlace p.memory p.usage heap s.place.coherency
covers_place platform s p heap here on =
    subst (λ h. AllowsPlace p.memory p.usage h s.place.coherency) (same_Some on.heap heap (sym on.has ∙ here)) on.covers.place

pub covers_size : (platform : PlatformFacts) (s : Settings) (p : Participant) → CoversOn platform s p → (p.memory.min_size_bytes ≤ s.size_bytes) × (s.size_bytes ≤ p.memory.max_size_bytes)
covers_size platform s p on = (on.covers.fit.min_size, on.covers.fit.max_size)

pub covers_offer : (platform : PlatformFacts) (s : Settings) (p : Participant) → CoversOn platform s p → AcceptsOffer s.offer s.bounds (offer_demand p)
covers_offer platform s p on = on.covers.fit.offer
