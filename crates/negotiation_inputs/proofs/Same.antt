-- What `==` calls equal is equal.
use Rattle.std.proofs.Common.{rules, ◌≡◌, Bool, true, false, List, Option, Some, None, refl, ap, Decides}
use mathlib.Core.Bool.{beq}
use Rattle.std.specs.Option.{option_eq}
use Rattle.std.specs.Cmp.Lexicographic.{pointwise, pointwise_decides}
use Rattle.std.proofs.lemmas.Bool.Decides.{Decides-and, Decides-like, Decides-eqb}
use Rattle.std.proofs.lemmas.Option.{same_Some}
use Rattle.sysmem_counts.specs.contracts.constraints.CountConstraintsPartialEq.TheImpl as counts
use Rattle.sysmem_counts.specs.contracts.usage.UsagePartialEq.TheImpl as usage
use Rattle.sysmem_counts.specs.declared.constraints.CountConstraints.{CountConstraints}
use Rattle.sysmem_counts.specs.declared.usage.Usage.{Usage}
use Rattle.sysmem_formats.specs.contracts.colour_space.ColourSpacePartialEq.TheImpl as colour
use Rattle.sysmem_formats.specs.contracts.modifier.ModifierPartialEq.TheImpl as modifier
use Rattle.sysmem_formats.specs.contracts.offer.PairPartialEq.TheImpl as pair
use Rattle.sysmem_formats.specs.contracts.pixel_format.PixelFormatPartialEq.TheImpl as format
use Rattle.sysmem_formats.specs.declared.colour_space.ColourSpace.{ColourSpace}
use Rattle.sysmem_formats.specs.declared.modifier.Modifier.{Modifier}
use Rattle.sysmem_formats.specs.declared.offer.Pair.{Pair}
use Rattle.sysmem_formats.specs.declared.pixel_format.PixelFormat.{PixelFormat}
use Rattle.sysmem_image.specs.contracts.bounds.ImageBounds.{the_type as bounds_type}
use Rattle.sysmem_image.specs.contracts.bounds.ImageBoundsPartialEq.TheImpl as bounds
use Rattle.sysmem_image.specs.contracts.colours.ColourSet.{the_type as colours_type}
use Rattle.sysmem_image.specs.contracts.colours.ColourSetPartialEq.TheImpl as colours
use Rattle.sysmem_image.specs.contracts.entry.Entry.{the_type as entry_type}
use Rattle.sysmem_image.specs.contracts.entry.EntryPartialEq.TheImpl as entry
use Rattle.sysmem_image.specs.contracts.entry.EntryBounds.{the_type as entry_bounds_type}
use Rattle.sysmem_image.specs.contracts.entry.EntryBoundsPartialEq.TheImpl as entry_bounds
use Rattle.sysmem_image.specs.contracts.size.SizePartialEq.TheImpl as size
use Rattle.sysmem_image.specs.declared.bounds.ImageBounds.{ImageBounds}
use Rattle.sysmem_image.specs.declared.colours.ColourSet.{ColourSet}
use Rattle.sysmem_image.specs.declared.entry.Entry.{Entry}
use Rattle.sysmem_image.specs.declared.entry.EntryBounds.{EntryBounds}
use Rattle.sysmem_image.specs.declared.size.Size.{Size}
use Rattle.sysmem_memory.specs.contracts.domain.CoherencyDomainsPartialEq.TheImpl as domains
use Rattle.sysmem_memory.specs.declared.domain.CoherencyDomains.{CoherencyDomains}
use Rattle.sysmem_memory.specs.Heap.{HeapFacts}
use Rattle.sysmem_memory.specs.Wishes.{MemoryWishes}
use Rattle.sysmem_memory.proofs.CallerLemmas.{same_heap_is_equal}
use Rattle.negotiation_inputs.specs.Equal.{same_wishes, same_participant, same_heap_facts, same_platform}
use Rattle.negotiation_inputs.specs.Laws.{SameParticipantIsEqual, SamePlatformIsEqual}
use Rattle.negotiation_inputs.specs.Participant.{Participant}
use Rattle.negotiation_inputs.specs.Platform.{PlatformFacts}

pub same_usage : (a b : Usage) → Decides (usage.ghosts.eq a b) (a ≡ b)
same_usage a b = search rules

pub same_counts : (a b : CountConstraints) → Decides (counts.ghosts.eq a b) (a ≡ b)
same_counts a b = search rules

pub same_domains : (a b : CoherencyDomains) → Decides (domains.ghosts.eq a b) (a ≡ b)
same_domains a b = search rules

pub same_colour : (a b : ColourSpace) → Decides (colour.ghosts.eq a b) (a ≡ b)
same_colour a b = search rules

pub same_pair : (a b : Pair) → Decides (pair.ghosts.eq a b) (a ≡ b)
same_pair a b = search rules

pub same_size : (a b : Size) → Decides (size.ghosts.eq a b) (a ≡ b)
same_size a b = search rules

-- a test that tells one fact tells each that is true with it
told : {P Q : Type 0} (r : Bool) → Decides r P → (P → Q) → (Q → P) → Decides r Q
told r parts to from = Decides-like r to from parts

same_flags : (a b : Bool) → Decides (beq a b) (a ≡ b)
same_flags true true = (λ e. refl, λ e. refl)
same_flags true false = (λ e. cc, λ e. cc)
same_flags false true = (λ e. cc, λ e. cc)
same_flags false false = (λ e. refl, λ e. refl)

pub same_colours : (a b : ColourSet) → Decides (colours.ghosts.eq a b) (a ≡ b)
same_colours a b =
    let parts = Decides-and _ _ (same_flags a.any b.any) (Decides-and _ _ (same_flags a.srgb b.srgb) (Decides-and _ _ (same_flags a.rec601_ntsc b.rec601_ntsc) (Decides-and _ _ (same_flags a.rec601_ntsc_full_range b.rec601_ntsc_full_range) (Decides-and _ _ (same_flags a.rec601_pal b.rec601_pal) (Decides-and _ _ (same_flags a.rec601_pal_full_range b.rec601_pal_full_range) (Decides-and _ _ (same_flags a.rec709 b.rec709) (Decides-and _ _ (same_flags a.rec2020 b.rec2020) (same_flags a.rec2100 b.rec2100)))))))) in
    told (colours.ghosts.eq a b) parts (λ p. colours_type.to_one a b (cc)) (λ e. (ap (λ (x : ColourSet). x.any) e, (ap (λ (x : ColourSet). x.srgb) e, (ap (λ (x : ColourSet). x.rec601_ntsc) e, (ap (λ (x : ColourSet). x.rec601_ntsc_full_range) e, (ap (λ (x : ColourSet). x.rec601_pal) e, (ap (λ (x : ColourSet). x.rec601_pal_full_range) e, (ap (λ (x : ColourSet). x.rec709) e, (ap (λ (x : ColourSet). x.rec2020) e, ap (λ (x : ColourSet). x.rec2100) e)))))))))

pub same_bounds : (a b : ImageBounds) → Decides (bounds.ghosts.eq a b) (a ≡ b)
same_bounds a b =
    let parts = Decides-and _ _ (same_size a.min_size b.min_size) (Decides-and _ _ (same_size a.max_size b.max_size) (Decides-and _ _ (same_size a.size_alignment b.size_alignment) (Decides-and _ _ (Decides-eqb a.min_bytes_per_row b.min_bytes_per_row) (Decides-and _ _ (Decides-eqb a.max_bytes_per_row b.max_bytes_per_row) (Decides-and _ _ (Decides-eqb a.bytes_per_row_divisor b.bytes_per_row_divisor) (Decides-and _ _ (Decides-eqb a.start_offset_divisor b.start_offset_divisor) (Decides-and _ _ (same_size a.display_rect_alignment b.display_rect_alignment) (Decides-and _ _ (same_size a.required_min_size b.required_min_size) (Decides-and _ _ (same_size a.required_max_size b.required_max_size) (Decides-eqb a.max_width_times_height b.max_width_times_height)))))))))) in
    told (bounds.ghosts.eq a b) parts (λ p. bounds_type.to_one a b (cc)) (λ e. (ap (λ (x : ImageBounds). x.min_size) e, (ap (λ (x : ImageBounds). x.max_size) e, (ap (λ (x : ImageBounds). x.size_alignment) e, (ap (λ (x : ImageBounds). x.min_bytes_per_row) e, (ap (λ (x : ImageBounds). x.max_bytes_per_row) e, (ap (λ (x : ImageBounds). x.bytes_per_row_divisor) e, (ap (λ (x : ImageBounds). x.start_offset_divisor) e, (ap (λ (x : ImageBounds). x.display_rect_alignment) e, (ap (λ (x : ImageBounds). x.required_min_size) e, (ap (λ (x : ImageBounds). x.required_max_size) e, ap (λ (x : ImageBounds). x.max_width_times_height) e)))))))))))

pub same_format : (a b : PixelFormat) → Decides (format.ghosts.eq a b) (a ≡ b)
same_format a b = search rules

pub same_modifier : (a b : Modifier) → Decides (modifier.ghosts.eq a b) (a ≡ b)
same_modifier a b = search rules

-- where a test tells equal values, it tells equal options
pub same_options : {K : Type 0} (E : K → K → Bool) → ((x y : K) → Decides (E x y) (x ≡ y)) → (p q : Option K) → Decides (option_eq E p q) (p ≡ q)
same_options E decides None None = (λ e. refl, λ e. refl)
same_options E decides None (Some y) = (λ e. cc, λ e. cc)
same_options E decides (Some x) None = (λ e. cc, λ e. cc)
same_options E decides (Some x) (Some y) = (λ e. ap (λ z. Some z) ((decides x y).0 e), λ e. (decides x y).1 (same_Some x y e))

same_entry_bounds : (a b : EntryBounds) → Decides (entry_bounds.ghosts.eq a b) (a ≡ b)
same_entry_bounds a b =
    let parts = Decides-and _ _ (same_bounds a.asked b.asked) (same_flags a.at_pixel_boundary b.at_pixel_boundary) in
    told (entry_bounds.ghosts.eq a b) parts (λ p. entry_bounds_type.to_one a b (cc)) (λ e. (ap (λ (x : EntryBounds). x.asked) e, ap (λ (x : EntryBounds). x.at_pixel_boundary) e))

pub same_entry : (a b : Entry) → Decides (entry.ghosts.eq a b) (a ≡ b)
same_entry a b =
    let parts = Decides-and _ _ (same_options format.ghosts.eq same_format a.format b.format) (Decides-and _ _ (same_options modifier.ghosts.eq same_modifier a.modifier b.modifier) (Decides-and _ _ (same_colours a.colours b.colours) (same_entry_bounds a.bounds b.bounds))) in
    told (entry.ghosts.eq a b) parts (λ p. entry_type.to_one a b (cc)) (λ e. (ap (λ (x : Entry). x.format) e, (ap (λ (x : Entry). x.modifier) e, (ap (λ (x : Entry). x.colours) e, ap (λ (x : Entry). x.bounds) e))))

pub same_memory : (a b : MemoryWishes) → Decides (same_wishes a b) (a ≡ b)
same_memory a b =
    let kind = Decides-and _ _ (same_flags a.physically_contiguous_required b.physically_contiguous_required) (same_flags a.secure_required b.secure_required) in
    let access = Decides-and _ _ (Decides-and _ _ (same_flags a.cpu_domain_supported b.cpu_domain_supported) (same_flags a.ram_domain_supported b.ram_domain_supported)) (same_flags a.inaccessible_domain_supported b.inaccessible_domain_supported) in
    let parts = Decides-and _ _ (Decides-and _ _ (Decides-and _ _ (Decides-and _ _ (Decides-eqb a.min_size_bytes b.min_size_bytes) (Decides-eqb a.max_size_bytes b.max_size_bytes)) kind) access) (pointwise_decides same_heap_is_equal a.permitted_heaps b.permitted_heaps) in
    told (same_wishes a b) parts (λ p i. record { min_size_bytes = p.0.0.0.0 i; max_size_bytes = p.0.0.0.1 i; physically_contiguous_required = p.0.0.1.0 i; secure_required = p.0.0.1.1 i; cpu_domain_supported = p.0.1.0.0 i; ram_domain_supported = p.0.1.0.1 i; inaccessible_domain_supported = p.0.1.1 i; permitted_heaps = p.1 i }) (λ e. ((((ap (λ (x : MemoryWishes). x.min_size_bytes) e, ap (λ (x : MemoryWishes). x.max_size_bytes) e), (ap (λ (x : MemoryWishes). x.physically_contiguous_required) e, ap (λ (x : MemoryWishes). x.secure_required) e)), ((ap (λ (x : MemoryWishes). x.cpu_domain_supported) e, ap (λ (x : MemoryWishes). x.ram_domain_supported) e), ap (λ (x : MemoryWishes). x.inaccessible_domain_supported) e)), ap (λ (x : MemoryWishes). x.permitted_heaps) e))

pub same_participants : SameParticipantIsEqual
same_participants a b =
    let parts = Decides-and _ _ (Decides-and _ _ (Decides-and _ _ (same_counts a.counts b.counts) (same_usage a.usage b.usage)) (same_memory a.memory b.memory)) (pointwise_decides same_entry a.entries b.entries) in
    told (same_participant a b) parts (λ p i. record { counts = p.0.0.0 i; usage = p.0.0.1 i; memory = p.0.1 i; entries = p.1 i }) (λ e. (((ap (λ (x : Participant). x.counts) e, ap (λ (x : Participant). x.usage) e), ap (λ (x : Participant). x.memory) e), ap (λ (x : Participant). x.entries) e))

pub same_facts : (a b : HeapFacts) → Decides (same_heap_facts a b) (a ≡ b)
same_facts a b =
    let parts = Decides-and _ _ (Decides-and _ _ (Decides-and _ _ (same_heap_is_equal a.heap b.heap) (same_flags a.contiguous b.contiguous)) (same_flags a.secure b.secure)) (same_domains a.domains b.domains) in
    told (same_heap_facts a b) parts (λ p i. record { heap = p.0.0.0 i; contiguous = p.0.0.1 i; secure = p.0.1 i; domains = p.1 i }) (λ e. (((ap (λ (x : HeapFacts). x.heap) e, ap (λ (x : HeapFacts). x.contiguous) e), ap (λ (x : HeapFacts). x.secure) e), ap (λ (x : HeapFacts). x.domains) e))

pub same_platforms : SamePlatformIsEqual
same_platforms a b =
    let parts = Decides-and _ _ (Decides-and _ _ (pointwise_decides same_facts a.heaps b.heaps) (pointwise_decides same_pair a.pairs b.pairs)) (pointwise_decides same_colour a.colours b.colours) in
    told (same_platform a b) parts (λ p i. record { heaps = p.0.0 i; pairs = p.0.1 i; colours = p.1 i }) (λ e. ((ap (λ (x : PlatformFacts). x.heaps) e, ap (λ (x : PlatformFacts). x.pairs) e), ap (λ (x : PlatformFacts). x.colours) e))

-- lists of heaps compare equal exactly where they are equal
pub same_lists : (a b : List HeapFacts) → Decides (pointwise same_heap_facts a b) (a ≡ b)
same_lists = pointwise_decides same_facts
