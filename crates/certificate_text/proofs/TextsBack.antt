-- The text of a certificate is read as the data of its decisions.
use Rattle.std.proofs.Common.{◌≡◌, ℕ, suc, ◌-◌, ◌^◌, ◌<◌, ◌≤◌, Bool, true, false, List, [], ◌∷◌, All, Option, Some, None, IsUtf8, codes, slice_get, refl, sym, subst, arith}
use Rattle.std.specs.Prelude.{if◌then◌else◌}
use Rattle.std.proofs.lemmas.List.Elements.{All-cons, All-get_or, All-nil}
use Rattle.std.proofs.lemmas.Option.{slice_get_within, get_or_from_slice_get}
use Rattle.json.proofs.Printed.Utf8.{IsUtf8-are_ascii}
use Rattle.serde_json.specs.Data.{string, no_members, member}
use Rattle.sysmem_counts.specs.declared.field.Field.{Field}
use Rattle.sysmem_counts.specs.declared.field.Field.TheVariants as field
use Rattle.sysmem_counts.specs.Field.{field_name}
use Rattle.sysmem_formats.specs.declared.offer.Offer.{Offer}
use Rattle.sysmem_formats.specs.declared.offer.Offer.TheVariants.{NoImage, Image}
use Rattle.sysmem_formats.specs.Names.{colour_name, format_name, modifier_name}
use Rattle.sysmem_image.specs.declared.bounds.ImageBounds.{ImageBounds}
use Rattle.sysmem_image.specs.Bounds.{IsInRange}
use Rattle.sysmem_image.specs.Fields.{Bound, MinSize, MaxSize, SizeAlignment, MinBytesPerRow, MaxBytesPerRow, BytesPerRowDivisor, StartOffsetDivisor, DisplayRectAlignment, RequiredMinSize, RequiredMaxSize, MaxWidthTimesHeight, all_bounds, field_of, is_size, most, value}
use Rattle.sysmem_image.specs.Fields as side
use Rattle.sysmem_memory.specs.Domain.{domain_name}
use Rattle.sysmem_memory.specs.Heap.{HeapFacts}
use Rattle.sysmem_merge.specs.declared.settings.Settings.{Settings}
use Rattle.negotiation_inputs.specs.Platform.{PlatformFacts, IsHeap}
use Rattle.verdict_claims.specs.declared.certificate.Claim.{Claim}
use Rattle.verdict_claims.specs.declared.certificate.Proof.{Proof}
use Rattle.verdict_claims.specs.declared.certificate.Proof.TheVariants as proves
use Rattle.verdict_claims.specs.declared.conflict.Conflict.{Conflict}
use Rattle.verdict_claims.specs.declared.conflict.Conflict.TheVariants.{Count, Places, Offers, Fixed}
use Rattle.verdict_claims.specs.declared.refutation.Item.{Item}
use Rattle.verdict_claims.specs.declared.refutation.Item.TheVariants.{Split, Leaf}
use Rattle.verdict_claims.specs.declared.verdict.Verdict.{Verdict}
use Rattle.verdict_claims.specs.declared.verdict.Verdict.TheVariants as verdicts
use Rattle.verdict_claims.specs.Line.{LineFacts}
use Rattle.certificate_text.specs.Bounds.{count_data, size_data, bound_data, bounds_members}
use Rattle.certificate_text.specs.CanBeRead.{HasSteps, NamesNodes, IsReadableConflict, IsReadableItem, IsReadableRefutation, AreReadableSettings, CanBeRead, IsReadableDecision}
use Rattle.certificate_text.specs.Laws.{TextsReadBack}
use Rattle.certificate_text.specs.Told.{path_data, paths_data, field_data, named_data, line_data, lines_data, conflict_data, item_data, refutation_data, earlier_data, heap_data, image_data, image_bounds_data, settings_data, claim_data, decision_data}
use Rattle.certificate_text.proofs.NamesRead.{field_utf8, format_utf8, modifier_utf8, colour_utf8, domain_utf8, path_utf8, heap_utf8}
use Rattle.certificate_text.proofs.Readable.{IsReadable, MembersRead, AreInOrder, null_reads, count_reads, string_reads, list_reads, object_reads, put_reads, text_of}

-- ---- lines and refutations

path_reads : (n : ℕ) (path : List ℕ) → HasSteps path → IsReadable n (path_data path)
path_reads n path steps = string_reads n _ (path_utf8 path steps)

-- under a kind that comes before the nodes
named_reads : (n : ℕ) (kind : List ℕ) (field : Field) (nodes : List (List ℕ)) → IsUtf8 kind → All HasSteps nodes
    → AreInOrder (member kind (field_data field) (member (codes "nodes") (paths_data nodes) no_members)) → IsReadable (suc (suc n)) (named_data kind field nodes)
named_reads n kind field nodes utf8 steps ordered = object_reads (suc n) (member kind (field_data field) (member (codes "nodes") (paths_data nodes) no_members))
    (utf8, string_reads (suc n) (field_name field) (field_utf8 field), (IsUtf8-are_ascii (codes "nodes") refl, list_reads n path_data HasSteps (path_reads n) nodes steps, tt)) ordered

line_reads : (n : ℕ) (line : LineFacts) → NamesNodes line → IsReadable (suc (suc n)) (line_data line)
line_reads n line steps = named_reads n (codes "field") line.field line.nodes (IsUtf8-are_ascii (codes "field") refl) steps refl

lines_read : (n : ℕ) (lines : List LineFacts) → All NamesNodes lines → IsReadable (suc (suc (suc n))) (lines_data lines)
lines_read n lines all = list_reads (suc (suc n)) line_data NamesNodes (line_reads n) lines all

conflict_reads : (n : ℕ) (c : Conflict) → IsReadableConflict c → IsReadable (suc (suc (suc (suc n)))) (conflict_data c)
conflict_reads n (Count line) can = named_reads (suc (suc n)) (codes "count") line.field line.nodes (IsUtf8-are_ascii (codes "count") refl) can refl
conflict_reads n (Fixed field node) can =
    named_reads (suc (suc n)) (codes "fixed") field (node ∷ []) (IsUtf8-are_ascii (codes "fixed") refl) (All-cons HasSteps node [] can (All-nil HasSteps)) refl
conflict_reads n (Places lines) can =
    object_reads (suc (suc (suc n))) (member (codes "places") (lines_data lines) no_members) (IsUtf8-are_ascii (codes "places") refl, lines_read n lines can, tt) refl
conflict_reads n (Offers lines) can =
    object_reads (suc (suc (suc n))) (member (codes "offers") (lines_data lines) no_members) (IsUtf8-are_ascii (codes "offers") refl, lines_read n lines can, tt) refl

item_reads : (n : ℕ) (i : Item) → IsReadableItem i → IsReadable (suc (suc (suc (suc n)))) (item_data i)
item_reads n (Split children) can =
    let fits : children < 2 ^ 64 = omega (arith, can) in
    object_reads (suc (suc (suc n))) (member (codes "split") (count_data children) no_members) (IsUtf8-are_ascii (codes "split") refl, count_reads (suc (suc (suc n))) children fits, tt) refl
item_reads n (Leaf c) can = conflict_reads n c can

-- how deep an item nests
abbrev four : ℕ → ℕ
four n = suc (suc (suc (suc n)))

refutation_reads : (n : ℕ) (items : List Item) → IsReadableRefutation items → IsReadable (suc (four n)) (refutation_data items)
refutation_reads n items all = list_reads (four n) item_data IsReadableItem (item_reads n) items all

earlier_reads : (n : ℕ) (refutations : List (List Item)) → All IsReadableRefutation refutations → IsReadable (suc (suc (four n))) (earlier_data refutations)
earlier_reads n refutations all = list_reads (suc (four n)) refutation_data IsReadableRefutation (refutation_reads n) refutations all

-- ---- settings

most_fits : (f : Bound) → most f < 2 ^ 64
most_fits MinSize = omega arith
most_fits MaxSize = omega arith
most_fits SizeAlignment = omega arith
most_fits MinBytesPerRow = omega arith
most_fits MaxBytesPerRow = omega arith
most_fits BytesPerRowDivisor = omega arith
most_fits StartOffsetDivisor = omega arith
most_fits DisplayRectAlignment = omega arith
most_fits RequiredMinSize = omega arith
most_fits RequiredMaxSize = omega arith
most_fits MaxWidthTimesHeight = omega arith

size_reads : (n w h : ℕ) → w < 2 ^ 64 → h < 2 ^ 64 → IsReadable (suc n) (size_data w h)
size_reads n w h wide high = object_reads n (member (codes "height") (count_data h) (member (codes "width") (count_data w) no_members))
    (IsUtf8-are_ascii (codes "height") refl, count_reads n h high, (IsUtf8-are_ascii (codes "width") refl, count_reads n w wide, tt)) refl

bound_reads : (n : ℕ) (b : ImageBounds) → IsInRange b → (f : Bound) → IsReadable (suc n) (bound_data b f)
bound_reads n b fits f = by (is_size f) where
  small : (s : side.Side) → value f s b < 2 ^ 64
  small s = omega (arith, fits f s, most_fits f)

  by : (t : Bool) → IsReadable (suc n) (if t then size_data (value f side.Width b) (value f side.Height b) else count_data (value f side.Width b))
  by true = size_reads n (value f side.Width b) (value f side.Height b) (small side.Width) (small side.Height)
  by false = count_reads (suc n) (value f side.Width b) (small side.Width)

bounds_read : (n : ℕ) (b : ImageBounds) → IsInRange b → (fs : List Bound) → MembersRead (suc n) (bounds_members b fs)
bounds_read n b fits [] = tt
bounds_read n b fits (f ∷ fs) = put_reads (suc n) (field_name (field_of f)) (bound_data b f) (bounds_members b fs) (field_utf8 (field_of f)) (bound_reads n b fits f) (bounds_read n b fits fs)

image_bounds_read : (n : ℕ) (o : Offer) (b : ImageBounds) → IsInRange b → IsReadable (suc (suc n)) (image_bounds_data o b)
image_bounds_read n NoImage b fits = null_reads (suc (suc n))
image_bounds_read n (Image pair colour) b fits = object_reads (suc n) (bounds_members b all_bounds) (bounds_read n b fits all_bounds) refl

image_reads : (n : ℕ) (o : Offer) → IsReadable (suc n) (image_data o)
image_reads n NoImage = null_reads (suc n)
image_reads n (Image pair colour) = object_reads n
    (member (codes "color_space") (string (colour_name colour)) (member (field_name field.PixelFormat) (string (format_name pair.format))
    (member (field_name field.PixelFormatModifier) (string (modifier_name pair.modifier)) no_members))) (
      IsUtf8-are_ascii (codes "color_space") refl,
      string_reads n (colour_name colour) (colour_utf8 colour),
      (
        field_utf8 field.PixelFormat,
        string_reads n (format_name pair.format) (format_utf8 pair.format),
        (field_utf8 field.PixelFormatModifier, string_reads n (modifier_name pair.modifier) (modifier_utf8 pair.modifier), tt),
      ),
    ) refl

heap_reads : (n : ℕ) (h : HeapFacts) → IsHeap h → h.heap.id ≤ 2 ^ 64 - 1 → IsReadable (suc n) (heap_data (Some h))
heap_reads n h is id =
    let fits : h.heap.id < 2 ^ 64 = omega (arith, id) in
    object_reads n (member (field_name field.HeapType) (string h.heap.heap_type) (member (field_name field.Id) (count_data h.heap.id) no_members))
    (field_utf8 field.HeapType, string_reads n h.heap.heap_type (heap_utf8 h is), (field_utf8 field.Id, count_reads n h.heap.id fits, tt)) refl

-- a heap of the platform
heap_is : (heaps : List HeapFacts) (k : ℕ) (h : HeapFacts) → All IsHeap heaps → slice_get heaps k ≡ Some h → IsHeap h
heap_is heaps k h all here = subst IsHeap (get_or_from_slice_get heaps k h h here) (All-get_or IsHeap heaps k h (slice_get_within heaps k h here) all)

settings_read : (n : ℕ) (platform : PlatformFacts) (s : Settings) → All IsHeap platform.heaps → AreReadableSettings platform s → IsReadable (suc (suc (suc n))) (settings_data platform s)
settings_read n platform s heaps can =
    let count : s.count < 2 ^ 64 = omega (arith, can.count) in
    let size : s.size_bytes < 2 ^ 64 = omega (arith, can.size_bytes) in
    let is : IsHeap can.heap = heap_is platform.heaps s.place.heap can.heap heaps can.place.heap in
    object_reads (suc (suc n))
    (member (codes "bounds") (image_bounds_data s.offer s.bounds) (member (codes "count") (count_data s.count) (member (codes "domain") (string (domain_name s.place.coherency))
    (member (codes "heap") (heap_data (slice_get platform.heaps s.place.heap)) (member (codes "image") (image_data s.offer) (member (codes "size_bytes") (count_data s.size_bytes) no_members)))))) (
      IsUtf8-are_ascii (codes "bounds") refl,
      image_bounds_read n s.offer s.bounds can.bounds,
      (
        IsUtf8-are_ascii (codes "count") refl,
        count_reads (suc (suc n)) s.count count,
        (
          IsUtf8-are_ascii (codes "domain") refl,
          string_reads (suc (suc n)) (domain_name s.place.coherency) (domain_utf8 s.place.coherency),
          (
            IsUtf8-are_ascii (codes "heap") refl,
            subst (λ o. IsReadable (suc (suc n)) (heap_data o)) (sym can.place.heap) (heap_reads (suc n) can.heap is can.id),
            (
              IsUtf8-are_ascii (codes "image") refl,
              image_reads (suc n) s.offer,
              (IsUtf8-are_ascii (codes "size_bytes") refl, count_reads (suc (suc n)) s.size_bytes size, tt),
            ),
          ),
        ),
      ),
    ) refl

-- ---- claims

-- how deep a claim's members nest
abbrev seven : ℕ → ℕ
seven n = suc (suc (suc (four n)))

verdict_utf8 : (name : List ℕ) → IsUtf8 name → (n : ℕ) → MembersRead n (member (codes "verdict") (string name) no_members)
verdict_utf8 name utf8 n = (IsUtf8-are_ascii (codes "verdict") refl, string_reads n name utf8, tt)

claim_reads : (n : ℕ) (platform : PlatformFacts) (path : List ℕ) (verdict : Verdict) (proof : Proof) → All IsHeap platform.heaps → HasSteps path → CanBeRead platform verdict proof
    → IsReadable (suc (seven n)) (claim_data platform path verdict proof)
claim_reads n platform path (verdicts.Chosen chosen) (proves.Choice certificate) heaps steps can = object_reads (seven n) _ (
  IsUtf8-are_ascii (codes "domain") refl,
  path_reads (seven n) path steps,
  (
    IsUtf8-are_ascii (codes "earlier") refl,
    list_reads (suc (suc (four n))) earlier_data (λ refutations. All IsReadableRefutation refutations) (earlier_reads n) certificate.earlier can.certified.earlier,
    (
      IsUtf8-are_ascii (codes "offers") refl,
      lines_read (four n) certificate.offers can.certified.offers,
      (
        IsUtf8-are_ascii (codes "places") refl,
        lines_read (four n) certificate.places can.certified.places,
        (
          IsUtf8-are_ascii (codes "selection") refl,
          list_reads (suc (suc (four n))) count_data (λ k. k ≤ 255) (λ k small. count_reads (suc (suc (four n))) k (omega (arith, small))) chosen.selection can.choices,
          (
            IsUtf8-are_ascii (codes "settings") refl,
            settings_read (four n) platform chosen.settings heaps can.settings,
            verdict_utf8 (codes "chosen") (IsUtf8-are_ascii (codes "chosen") refl) (seven n),
          ),
        ),
      ),
    ),
  ),
) refl
claim_reads n platform path verdicts.IntersectionEmpty (proves.Empty items) heaps steps can = object_reads (seven n) _ (
  IsUtf8-are_ascii (codes "domain") refl,
  path_reads (seven n) path steps,
  (
    IsUtf8-are_ascii (codes "refutation") refl,
    refutation_reads (suc (suc n)) items can,
    verdict_utf8 (codes "empty") (IsUtf8-are_ascii (codes "empty") refl) (seven n),
  ),
) refl
claim_reads n platform path verdicts.TooMany proves.Nothing heaps steps can = object_reads (seven n) _
    (IsUtf8-are_ascii (codes "domain") refl, path_reads (seven n) path steps, verdict_utf8 (codes "too_many") (IsUtf8-are_ascii (codes "too_many") refl) (seven n)) refl
claim_reads n platform path verdicts.NoMemory proves.Nothing heaps steps can = object_reads (seven n) _
    (IsUtf8-are_ascii (codes "domain") refl, path_reads (seven n) path steps, verdict_utf8 (codes "no_memory") (IsUtf8-are_ascii (codes "no_memory") refl) (seven n)) refl
claim_reads n platform path (verdicts.Chosen chosen) (proves.Empty items) heaps steps can = absurd can
claim_reads n platform path (verdicts.Chosen chosen) proves.Nothing heaps steps can = absurd can
claim_reads n platform path verdicts.IntersectionEmpty (proves.Choice certificate) heaps steps can = absurd can
claim_reads n platform path verdicts.IntersectionEmpty proves.Nothing heaps steps can = absurd can
claim_reads n platform path verdicts.TooMany (proves.Choice certificate) heaps steps can = absurd can
claim_reads n platform path verdicts.TooMany (proves.Empty items) heaps steps can = absurd can
claim_reads n platform path verdicts.NoMemory (proves.Choice certificate) heaps steps can = absurd can
claim_reads n platform path verdicts.NoMemory (proves.Empty items) heaps steps can = absurd can
claim_reads n platform path verdicts.Failed proof heaps steps can = absurd can

-- ---- decisions

decision_reads : (n : ℕ) (platform : PlatformFacts) (path : List ℕ) (claim : Option Claim) → All IsHeap platform.heaps → IsReadableDecision platform path claim
    → IsReadable (suc (seven n)) (decision_data platform path claim)
decision_reads n platform path (Some claim) heaps can = claim_reads n platform path claim.verdict claim.proof heaps can.steps can.claimed
decision_reads n platform path None heaps can = claim_reads n platform path verdicts.NoMemory proves.Nothing heaps can.steps tt

-- a decision with its path
abbrev One : Type 0
One = List ℕ × Option Claim

pub texts_back : TextsReadBack
texts_back platform decisions heaps can =
    text_of (suc (suc (seven 0))) _ (omega arith)
    (list_reads (suc (seven 0)) (λ (c : One). decision_data platform c.0 c.1) (λ (c : One). IsReadableDecision platform c.0 c.1) (λ c one. decision_reads 0 platform c.0 c.1 heaps one) decisions can)
