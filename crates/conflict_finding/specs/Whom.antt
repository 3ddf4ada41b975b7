-- Whom of some participants a line names.
use Rattle.std.specs.Prelude.{◌≡◌, ◌==◌, ℕ, Bool, true, false, not, List, Some, filter, length, map, slice_get}
use Rattle.std.specs.Option.{option_map_or}
use Rattle.sysmem_counts.specs.declared.field.Field.{Field}
use Rattle.offer_fits.specs.Demands.{OfferDemand, offer_demand}
use Rattle.negotiation_inputs.specs.Participant.{Participant}
use Rattle.sysmem_tree.specs.Node.{NodeFacts}
use Rattle.sysmem_tree.specs.Shape.{Member}
use Rattle.conflict_finding.specs.declared.whom.NamingLine.{NamingLine}
use Rattle.conflict_finding.specs.declared.whom.Whom.{Whom}
use Rattle.conflict_finding.specs.declared.whom.Whom.TheVariants.{All, WithCount}
use Rattle.conflict_finding.specs.declared.whom.Whom.TheVariants.{WithEntries, Nobody}
use Rattle.verdict_claims.specs.Finder.{has_count}
use Rattle.verdict_claims.specs.Line.{LineFacts}
use Rattle.verdict_claims.specs.Members.{members_at}

-- a participant has entries
abbrev pub has_entries : OfferDemand → Bool
has_entries d = not (length d.entries == 0)

-- a participant is one of those whom a line names
abbrev pub names : Whom → Participant → Bool
names All p = true
names WithCount p = has_count p.counts
names WithEntries p = has_entries (offer_demand p)
names Nobody p = false

-- the members who are
abbrev pub members_named : Whom → List Member → List Member
members_named whom ms = filter (λ m. option_map_or (names whom) m.constraints false) ms

-- the line that names them among these nodes
abbrev pub line_on : List NodeFacts → List ℕ → Field → Whom → LineFacts
line_on nodes ns field whom =
    record { field = field; nodes = map (λ m. m.path) (members_named whom (members_at nodes ns)) }

-- the line at the place is one that names them among these nodes
pub record NamesThose (nodes : List NodeFacts) (ns : List ℕ) (lines : List LineFacts)
    (named : NamingLine) : Type 0 where
  pub line : LineFacts
  pub there : slice_get lines named.place ≡ Some line
  pub is : line ≡ line_on nodes ns line.field named.whom
