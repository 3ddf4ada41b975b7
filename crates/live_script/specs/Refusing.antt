-- How the call ends that tells who is in the way of a domain without settings.
use Rattle.std.specs.Prelude.{◌≡◌, ◌≤◌, ◌==◌, ◌&&◌, ℕ, Bool, true, false, not, List, length, map}
use Rattle.std.specs.Prelude.{Option, Some, filter, is_none, is_some, slice_get}
use Rattle.std.specs.List.{enumerate_from, list_any}
use Rattle.std.specs.Option.{option_map_or}
use Rattle.flat_negotiation.specs.Blame.{IsBlamed}
use Rattle.flat_negotiation.specs.Refusals.{flat_refusal}
use Rattle.flat_negotiation.specs.declared.flat.FlatRefusal.{FlatRefusal}
use Rattle.flat_negotiation.specs.declared.unsettled.Refusal.{Refusal}
use Rattle.flat_negotiation.specs.declared.unsettled.Unsettled.TheVariants.{Unmet}
use Rattle.live_book.specs.Snapshot.{SnapshotFacts}
use Rattle.live_book.specs.declared.object.Object.{Object}
use Rattle.live_book.specs.declared.object.Object.TheVariants.{Snapshot}
use Rattle.live_script.specs.Texts.{IsNoSnapshot}
use Rattle.sysmem_alloc.specs.Decision.{verdict_in}
use Rattle.sysmem_alloc.specs.Entry.{BookEntry, Acted, Decided}
use Rattle.negotiation_inputs.specs.Participant.{Participant}
use Rattle.sysmem_tree.specs.Domain.{host_number}
use Rattle.sysmem_tree.specs.Layout.{is_group}
use Rattle.sysmem_tree.specs.Node.{NodeFacts}
use Rattle.verdict_claims.specs.Asked.{asked_in}
use Rattle.verdict_claims.specs.declared.verdict.Verdict.{Verdict}
use Rattle.verdict_claims.specs.declared.verdict.Verdict.TheVariants as verdicts

-- whether a node is a group of the domain of this root
abbrev pub is_group_of : ℕ → NodeFacts → Bool
is_group_of r n = (n.domain == r) && is_group n.state.kind

-- whether a domain has a group
abbrev pub has_group : List NodeFacts → ℕ → Bool
has_group nodes r = list_any (is_group_of r) nodes

-- whether a node is one of that domain, and set constraints
abbrev pub asks_in : ℕ → NodeFacts → Bool
asks_in r n = (n.domain == r) && is_some n.constraints

-- the numbers of the nodes of a domain that set constraints, in the order in which these were made
abbrev pub asking_in : List NodeFacts → ℕ → List ℕ
asking_in nodes r = map (λ p. p.0) (filter (λ p. asks_in r p.1) (enumerate_from 0 nodes))

-- whether a verdict is that no settings meet everybody
abbrev pub is_empty : Option Verdict → Bool
is_empty (Some verdicts.IntersectionEmpty) = true
is_empty _ = false

-- whether an entry is this verdict on the domain
abbrev pub is_emptied : ℕ → BookEntry → Bool
is_emptied r (Acted k deed) = false
is_emptied r (Decided c) = (c.domain == r) && is_empty (verdict_in c.claim)

-- whether it is told who is in the way of a domain: of one that isn't attached and has no group,
-- and whose verdict is this
abbrev pub is_told : SnapshotFacts → ℕ → Bool
is_told s r = (is_none (host_number s.tree.nodes r) && not (has_group s.tree.nodes r))
    && list_any (is_emptied r) s.history

-- what is asked in a domain, in the order of the nodes
abbrev pub asked_of : SnapshotFacts → ℕ → List Participant
asked_of s r = asked_in s.tree.nodes (asking_in s.tree.nodes r)

-- a refusal with the number of a node in the place of its index
abbrev pub by_number : List ℕ → FlatRefusal → FlatRefusal
by_number ks r = option_map_or (λ k. record r { who = k }) (slice_get ks r.who) r

-- who is in the way of the list of what is asked in a domain is told, or memory is refused (4)
pub data TellsWho (s : SnapshotFacts) (r : ℕ) (before after : FlatRefusal) : ℕ → Type 0 where
  tells_who : (refusal : Refusal) → IsBlamed s.platform (asked_of s r) refusal
      → after ≡ by_number (asking_in s.tree.nodes r)
      (flat_refusal before.struct_size (Unmet refusal))
      → TellsWho s r before after 0
  who_starves : after ≡ before → TellsWho s r before after 4

-- this is told of the domain of node k of the copy that lies behind a handle; or it isn't told of
-- that domain (6), or there is no such node or no copy (2), and then nothing is written
pub data TellsRefusal (k : ℕ) (behind : Option Object)
    (before after : FlatRefusal) : ℕ → Type 0 where
  tells_refusal : (s : SnapshotFacts) (n : NodeFacts) (status : ℕ) → behind ≡ Some (Snapshot s)
      → slice_get s.tree.nodes k ≡ Some n → is_told s n.domain ≡ true
      → TellsWho s n.domain before after status → TellsRefusal k behind before after status
  isnt_told : (s : SnapshotFacts) (n : NodeFacts) → behind ≡ Some (Snapshot s)
      → slice_get s.tree.nodes k ≡ Some n → is_told s n.domain ≡ false → after ≡ before
      → TellsRefusal k behind before after 6
  has_no_node : (s : SnapshotFacts) → behind ≡ Some (Snapshot s) → length s.tree.nodes ≤ k
      → after ≡ before → TellsRefusal k behind before after 2
  refusal_misused : IsNoSnapshot behind → after ≡ before → TellsRefusal k behind before after 2
