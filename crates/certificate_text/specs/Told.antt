-- A decision as an object of a certificate: each object has its keys in the order of their bytes.
use Rattle.std.specs.Prelude.{ℕ, List, [], ◌∷◌, Option, Some, None, codes, map, slice_get}
use Rattle.serde_json.specs.Data.{Data, null, string, array, object, Members, no_members, member}
use Rattle.serde_json.specs.View.{items_of}
use Rattle.sysmem_counts.specs.declared.field.Field.{Field}
use Rattle.sysmem_counts.specs.declared.field.Field.TheVariants as field
use Rattle.sysmem_counts.specs.Field.{field_name}
use Rattle.sysmem_formats.specs.declared.offer.Offer.{Offer}
use Rattle.sysmem_formats.specs.declared.offer.Offer.TheVariants.{NoImage, Image}
use Rattle.sysmem_formats.specs.Names.{colour_name, format_name, modifier_name}
use Rattle.sysmem_image.specs.declared.bounds.ImageBounds.{ImageBounds}
use Rattle.sysmem_memory.specs.Domain.{domain_name}
use Rattle.sysmem_memory.specs.Heap.{HeapFacts}
use Rattle.sysmem_merge.specs.declared.settings.Settings.{Settings}
use Rattle.negotiation_inputs.specs.Platform.{PlatformFacts}
use Rattle.verdict_claims.specs.declared.certificate.Claim.{Claim}
use Rattle.verdict_claims.specs.declared.certificate.Proof.{Proof}
use Rattle.verdict_claims.specs.declared.certificate.Proof.TheVariants as proves
use Rattle.verdict_claims.specs.declared.conflict.Conflict.{Conflict}
use Rattle.verdict_claims.specs.declared.conflict.Conflict.TheVariants.{Count, Places, Offers}
use Rattle.verdict_claims.specs.declared.conflict.Conflict.TheVariants.{Fixed}
use Rattle.verdict_claims.specs.declared.refutation.Item.{Item}
use Rattle.verdict_claims.specs.declared.refutation.Item.TheVariants.{Split, Leaf}
use Rattle.verdict_claims.specs.declared.verdict.Verdict.{Verdict}
use Rattle.verdict_claims.specs.declared.verdict.Verdict.TheVariants as verdicts
use Rattle.verdict_claims.specs.Line.{LineFacts}
use Rattle.certificate_text.specs.Bounds.{count_data, bounds_data}
use Rattle.certificate_text.specs.Paths.{path_text}

-- a list, each of it told so
abbrev pub list_data : {A : Type 0} → (A → Data) → List A → Data
list_data told xs = array (items_of (map told xs))

-- `"/0/1"`
abbrev pub path_data : List ℕ → Data
path_data path = string (path_text path)

abbrev pub paths_data : List (List ℕ) → Data
paths_data paths = list_data path_data paths

-- the name of a field
abbrev pub field_data : Field → Data
field_data field = string (field_name field)

-- `{"KIND":FIELD,"nodes":[PATH,..]}`
abbrev pub named_data : List ℕ → Field → List (List ℕ) → Data
named_data kind field nodes = object (member kind (field_data field)
    (member (codes "nodes") (paths_data nodes) no_members))

-- a line of those for each place or each offer
abbrev pub line_data : LineFacts → Data
line_data line = named_data (codes "field") line.field line.nodes

abbrev pub lines_data : List LineFacts → Data
lines_data lines = list_data line_data lines

abbrev pub conflict_data : Conflict → Data
conflict_data (Count line) = named_data (codes "count") line.field line.nodes
conflict_data (Fixed field node) = named_data (codes "fixed") field (node ∷ [])
conflict_data (Places lines) = object (member (codes "places") (lines_data lines) no_members)
conflict_data (Offers lines) = object (member (codes "offers") (lines_data lines) no_members)

-- `{"split":n}`, or a conflict
abbrev pub item_data : Item → Data
item_data (Split n) = object (member (codes "split") (count_data n) no_members)
item_data (Leaf conflict) = conflict_data conflict

abbrev pub refutation_data : List Item → Data
refutation_data items = list_data item_data items

-- the refutations of a group's earlier choices
abbrev pub earlier_data : List (List Item) → Data
earlier_data refutations = list_data refutation_data refutations

-- the heap of a place
abbrev pub heap_data : Option HeapFacts → Data
heap_data (Some h) = object (member (field_name field.HeapType) (string h.heap.heap_type)
    (member (field_name field.Id) (count_data h.heap.id) no_members))
heap_data None = null

-- what the buffers hold, null without an image
abbrev pub image_data : Offer → Data
image_data NoImage = null
image_data (Image pair colour) = object (member (codes "color_space") (string (colour_name colour))
    (member (field_name field.PixelFormat) (string (format_name pair.format))
    (member (field_name field.PixelFormatModifier) (string (modifier_name pair.modifier))
    no_members)))

-- the bounds of images, null without one
abbrev pub image_bounds_data : Offer → ImageBounds → Data
image_bounds_data NoImage b = null
image_bounds_data (Image pair colour) b = bounds_data b

abbrev pub settings_data : PlatformFacts → Settings → Data
settings_data platform s = object (member (codes "bounds") (image_bounds_data s.offer s.bounds)
    (member (codes "count") (count_data s.count)
    (member (codes "domain") (string (domain_name s.place.coherency))
    (member (codes "heap") (heap_data (slice_get platform.heaps s.place.heap))
    (member (codes "image") (image_data s.offer)
    (member (codes "size_bytes") (count_data s.size_bytes) no_members))))))

abbrev pub verdict_name : Verdict → List ℕ
verdict_name (verdicts.Chosen chosen) = codes "chosen"
verdict_name verdicts.IntersectionEmpty = codes "empty"
verdict_name verdicts.TooMany = codes "too_many"
verdict_name verdicts.Failed = codes "failed"
verdict_name verdicts.NoMemory = codes "no_memory"

-- what a verdict has beside its name, and what follows
abbrev pub verdict_members : PlatformFacts → Verdict → Members → Members
verdict_members platform (verdicts.Chosen chosen) ms =
    member (codes "selection") (list_data count_data chosen.selection)
    (member (codes "settings") (settings_data platform chosen.settings) ms)
verdict_members platform _ ms = ms

-- what is to prove it, and what follows
abbrev pub proof_members : Proof → Members → Members
proof_members (proves.Choice certificate) ms =
    member (codes "earlier") (list_data earlier_data certificate.earlier)
    (member (codes "offers") (lines_data certificate.offers)
    (member (codes "places") (lines_data certificate.places) ms))
proof_members (proves.Empty items) ms = member (codes "refutation") (refutation_data items) ms
proof_members proves.Nothing ms = ms

-- the claim about the domain whose root is at the path
abbrev pub claim_data : PlatformFacts → List ℕ → Verdict → Proof → Data
claim_data platform path verdict proof = object (member (codes "domain") (path_data path)
    (proof_members proof (verdict_members platform verdict
    (member (codes "verdict") (string (verdict_name verdict)) no_members))))

-- what was decided of the domain: a claim, or that memory was refused
abbrev pub decision_data : PlatformFacts → List ℕ → Option Claim → Data
decision_data platform path (Some claim) = claim_data platform path claim.verdict claim.proof
decision_data platform path None = claim_data platform path verdicts.NoMemory proves.Nothing
