-- How the calls end that write a collection's script and certificate.
use Rattle.std.specs.Prelude.{◌≡◌, ◌≢◌, ℕ, List, [], ◌∷◌, flat_map, Option, Some}
use Rattle.caller_buffers.specs.Filled.{Fits}
use Rattle.certificate_text.specs.Certificate.{certificate_text}
use Rattle.certificate_text.specs.Told.{decision_data}
use Rattle.live_book.specs.Snapshot.{SnapshotFacts}
use Rattle.live_book.specs.declared.object.Object.{Object}
use Rattle.live_book.specs.declared.object.Object.TheVariants.{Snapshot}
use Rattle.serde_json.specs.Data.{Data}
use Rattle.sysmem_alloc.specs.Entry.{BookEntry, Acted, Decided}
use Rattle.negotiation_inputs.specs.Platform.{PlatformFacts}
use Rattle.sysmem_tree.specs.Node.{NodeFacts}
use Rattle.sysmem_tree.specs.Path.{path_of}

-- what a certificate has of an entry: of a decision the path of its domain's root, and its claim
abbrev pub certified_of : PlatformFacts → List NodeFacts → BookEntry → List Data
certified_of platform nodes (Acted k deed) = []
certified_of platform nodes (Decided c) =
    decision_data platform (path_of nodes c.domain) c.claim ∷ []

-- a text is the certificate of a collection's decisions
abbrev pub IsCertificateOf : SnapshotFacts → List ℕ → Type 0
IsCertificateOf s text =
    text ≡ certificate_text (flat_map (certified_of s.platform s.tree.nodes) s.history)

-- no copy of a collection
abbrev pub IsNoSnapshot : Option Object → Type 0
IsNoSnapshot object = (s : SnapshotFacts) → object ≢ Some (Snapshot s)

-- each copy of a collection has a certificate
abbrev pub HasNone : SnapshotFacts → Type 0
HasNone s = ⊥

-- a text of the copy of a collection that lies behind a handle is handed out, or has no room; or
-- this copy has none (3), or memory is refused (4), or there is no such copy (2), and then the
-- buffer is as it was
pub data Writes (IsOf : SnapshotFacts → List ℕ → Type 0) (LacksOne : SnapshotFacts → Type 0)
    (behind : Option Object) (before after : List ℕ) (old_size size : ℕ) : ℕ → Type 0 where
  writes : (s : SnapshotFacts) (text : List ℕ) (r : ℕ) → behind ≡ Some (Snapshot s) → IsOf s text
      → Fits text before after size r → Writes IsOf LacksOne behind before after old_size size r
  writes_none : (s : SnapshotFacts) → behind ≡ Some (Snapshot s) → LacksOne s → size ≡ 0
      → after ≡ before → Writes IsOf LacksOne behind before after old_size size 3
  write_starves : (s : SnapshotFacts) → behind ≡ Some (Snapshot s) → size ≡ 0 → after ≡ before
      → Writes IsOf LacksOne behind before after old_size size 4
  write_misused : IsNoSnapshot behind → size ≡ old_size → after ≡ before
      → Writes IsOf LacksOne behind before after old_size size 2
