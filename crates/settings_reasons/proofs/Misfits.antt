-- What a misfit says of an offer and of a place.
use Rattle.std.proofs.Common.{◌≡◌, ◌⊎◌, inl, inr, Bool, true, false, not, List, [], ◌∷◌, All, Contains, Option, Some, None, IsSomeAnd, slice_get, refl, sym, ap, subst, ◌∙◌, arith}
use Rattle.std.proofs.lemmas.List.Elements.{All-nil, All-cons, All-contains, All-from_recursion}
use Rattle.std.proofs.lemmas.Option.{same_Some}
use Rattle.sysmem_counts.specs.declared.field.Field.{Field}
use Rattle.sysmem_counts.specs.declared.field.Field.TheVariants.{PermittedHeaps, PhysicallyContiguousRequired, SecureRequired, CpuDomainSupported, RamDomainSupported, InaccessibleDomainSupported, Usage, PixelFormat, ColorSpaces}
use Rattle.sysmem_image.specs.declared.bounds.ImageBounds.{ImageBounds}
use Rattle.sysmem_image.specs.Bounds.{KeepsField}
use Rattle.sysmem_image.specs.Fields as bound
use Rattle.sysmem_image.specs.Fields.{Bound, field_of}
use Rattle.sysmem_memory.specs.declared.domain.CoherencyDomain.{CoherencyDomain}
use Rattle.sysmem_memory.specs.Heap.{HeapFacts}
use Rattle.sysmem_memory.specs.PlaceTable.{place_fields}
use Rattle.offer_fits.specs.Demands.{offer_demand}
use Rattle.offer_fits.specs.Offers.{entry_bounds, has_colour, has_format}
use Rattle.sysmem_merge.specs.Failing.{FailsIn, FailsOn}
use Rattle.sysmem_merge.specs.declared.settings.Settings.{Settings}
use Rattle.negotiation_inputs.specs.Participant.{Participant}
use Rattle.negotiation_inputs.specs.Platform.{PlatformFacts}
use Rattle.settings_reasons.specs.True.{AllOfSome, IsPlaceReason, lacks_colour, lacks_entry, refuses}

-- whether it is a field by which places are refused
abbrev is_of_place : Field → Bool
is_of_place PermittedHeaps = true
is_of_place PhysicallyContiguousRequired = true
is_of_place SecureRequired = true
is_of_place CpuDomainSupported = true
is_of_place RamDomainSupported = true
is_of_place InaccessibleDomainSupported = true
is_of_place Usage = true
is_of_place _ = false

-- no field of bounds is
bounds_apart : (f : Bound) → is_of_place (field_of f) ≡ false
bounds_apart bound.MinSize = refl
bounds_apart bound.MaxSize = refl
bounds_apart bound.SizeAlignment = refl
bounds_apart bound.MinBytesPerRow = refl
bounds_apart bound.MaxBytesPerRow = refl
bounds_apart bound.BytesPerRowDivisor = refl
bounds_apart bound.StartOffsetDivisor = refl
bounds_apart bound.DisplayRectAlignment = refl
bounds_apart bound.RequiredMinSize = refl
bounds_apart bound.RequiredMaxSize = refl
bounds_apart bound.MaxWidthTimesHeight = refl

-- so no bounds fail in such a field
keeps_bounds : (field : Field) (a : ImageBounds) (o : Option ImageBounds) → is_of_place field ≡ true → IsSomeAnd o (λ b. ¬ KeepsField field a b) → ⊥
keeps_bounds field a None place fails = fails
keeps_bounds field a (Some b) place fails = fails (λ f same. let apart : is_of_place (field_of f) ≡ false = bounds_apart f in absurd (cc))

-- what fails in such a field is the place
place_fails : (field : Field) (heap : HeapFacts) (s : Settings) (p : Participant) → is_of_place field ≡ true
    → IsSomeAnd (entry_bounds s.offer (offer_demand p)) (λ b. ¬ KeepsField field s.bounds b) ⊎ (refuses field heap s.place.coherency p ≡ true)
    → refuses field heap s.place.coherency p ≡ true
place_fails field heap s p place (inl bounds) = absurd (keeps_bounds field s.bounds (entry_bounds s.offer (offer_demand p)) place bounds)
place_fails field heap s p place (inr refused) = refused

-- settings that fail in a field lie in a place that it refuses
abbrev Refused : HeapFacts → Settings → Participant → Field → Type 0
Refused heap s p field = FailsIn field heap s p → refuses field heap s.place.coherency p ≡ true

-- this is so of each field by which places are refused
places_fail : (heap : HeapFacts) (s : Settings) (p : Participant) → All (Refused heap s p) place_fields
places_fail heap s p = All-from_recursion (Refused heap s p) place_fields (
  place_fails PermittedHeaps heap s p refl,
  (
    place_fails PhysicallyContiguousRequired heap s p refl,
    (
      place_fails SecureRequired heap s p refl,
      (
        place_fails CpuDomainSupported heap s p refl,
        (
          place_fails RamDomainSupported heap s p refl,
          (
            place_fails InaccessibleDomainSupported heap s p refl,
            (place_fails Usage heap s p refl, tt),
          ),
        ),
      ),
    ),
  ),
)

-- a list of one of whom it is true
pub one_of_whom : (P : Participant → Type 0) (one : Participant) → P one → AllOfSome P (one ∷ [])
one_of_whom P one is = record { some = omega arith; each = All-cons P one [] is (All-nil P) }

-- a misfit in a field by which places are refused is a reason against the place
pub misfit_place : (platform : PlatformFacts) (s : Settings) (p : Participant) (field : Field) (heap : HeapFacts) (domain : CoherencyDomain) (asked : List Participant) → domain ≡ s.place.coherency → asked ≡ p ∷ []
    → slice_get platform.heaps s.place.heap ≡ Some heap → Contains place_fields field → FailsOn field platform s p → IsPlaceReason (record { heap = heap; domain = domain; field = field; participants = asked })
misfit_place platform s p field heap domain asked there alone has place fails =
    let same : fails.heap ≡ heap = same_Some fails.heap heap (sym fails.has ∙ has) in
    let refused : refuses field heap s.place.coherency p ≡ true = All-contains (Refused heap s p) place_fields field (places_fail heap s p) place (subst (λ h. FailsIn field h s p) same fails.fails) in
    subst (λ ps. AllOfSome (λ one. refuses field heap domain one ≡ true) ps) (sym alone)
    (one_of_whom (λ one. refuses field heap domain one ≡ true) p (subst (λ d. refuses field heap d p ≡ true) (sym there) refused))

-- a misfit in the format is a reason against the offer
pub misfit_format : (platform : PlatformFacts) (s : Settings) (p : Participant) (field : Field) → field ≡ PixelFormat → FailsOn field platform s p → AllOfSome (λ one. lacks_entry s.offer one ≡ true) (p ∷ [])
misfit_format platform s p field same fails =
    let misses : has_format s.offer (offer_demand p) ≡ false = subst (λ f. FailsIn f fails.heap s p) same fails.fails in
    one_of_whom (λ one. lacks_entry s.offer one ≡ true) p (ap not misses)

-- so is one in the colour space
pub misfit_colour : (platform : PlatformFacts) (s : Settings) (p : Participant) (field : Field) → field ≡ ColorSpaces → FailsOn field platform s p → AllOfSome (λ one. lacks_colour s.offer one ≡ true) (p ∷ [])
misfit_colour platform s p field same fails =
    let misses : has_colour s.offer (offer_demand p) ≡ false = subst (λ f. FailsIn f fails.heap s p) same fails.fails in
    one_of_whom (λ one. lacks_colour s.offer one ≡ true) p (ap not misses)
