-- What one who looks for conflicts has to know: whom he can name, and
-- that what he says of them is one.
use Rattle.std.specs.Prelude.{◌≡◌, ℕ, ◌≤◌, ◌||◌, ◌==◌, not, Bool, true, List, map}
use Rattle.std.specs.Prelude.{is_some, is_none, All, filter}
use Rattle.sysmem_counts.specs.Bounds.{most_number}
use Rattle.sysmem_counts.specs.Counts.{IsCountLine, IsFixedCountLine}
use Rattle.sysmem_counts.specs.declared.constraints.CountConstraints.{CountConstraints}
use Rattle.sysmem_counts.specs.declared.field.Field.{Field}
use Rattle.sysmem_formats.specs.declared.offer.Offer.{Offer}
use Rattle.sysmem_image.specs.Entries.{first_match}
use Rattle.sysmem_merge.specs.declared.reason.Reason.{Reason}
use Rattle.sysmem_merge.specs.declared.reason.Reason.TheVariants as reasons
use Rattle.offer_fits.specs.Demands.{OfferDemand}
use Rattle.offer_fits.specs.Offers.{bounds_asked}
use Rattle.sysmem_merge.specs.Reasons.{IsReason}
use Rattle.negotiation_inputs.specs.Platform.{PlatformFacts}
use Rattle.sysmem_tree.specs.Forest.{Forest, choices, settled}
use Rattle.sysmem_tree.specs.Laws.{PathsDiffer}
use Rattle.sysmem_tree.specs.Shape.{Member}
use Rattle.sysmem_tree.specs.Sublist.{IsSublist}
use Rattle.verdict_claims.specs.declared.conflict.Conflict.{Conflict}
use Rattle.verdict_claims.specs.declared.conflict.Conflict.TheVariants.{Count, Places, Offers}
use Rattle.verdict_claims.specs.Conflict.{IsConflict}
use Rattle.verdict_claims.specs.Members.{participants}
use Rattle.verdict_claims.specs.Naming.{Names}

-- some of the members, if they all are participants, are named by their paths
abbrev pub SomeAreNamed : Type 0
SomeAreNamed = (some all : List Member) → PathsDiffer all → IsSublist some all
    → All (λ m. is_some m.constraints ≡ true) some
    → Names all (map (λ m. m.path) some) (participants some)

-- some count field isn't its absent value
abbrev pub has_count : CountConstraints → Bool
has_count p = not (p.min_buffer_count_for_camping == 0)
    || not (p.min_buffer_count_for_dedicated_slack == 0)
    || not (p.min_buffer_count_for_shared_slack == 0) || not (p.min_buffer_count == 0)
    || not (p.max_buffer_count == most_number)

-- a count line is true of those that have a count field
abbrev pub CountsAreOfSome : Type 0
CountsAreOfSome = (field : Field) (ps : List CountConstraints)
    → All (λ p. p.max_buffer_count ≤ most_number) ps → IsCountLine field ps
    → IsCountLine field (filter has_count ps)

-- and so is one of a count that is fixed
abbrev pub FixedCountsAreOfSome : Type 0
FixedCountsAreOfSome = (count : ℕ) (field : Field) (ps : List CountConstraints)
    → count ≤ most_number → IsFixedCountLine count field ps
    → IsFixedCountLine count field (filter has_count ps)

-- a participant has an entry for the offer
abbrev pub has_entry : Offer → OfferDemand → Bool
has_entry o d = is_some (first_match o d.entries)

-- what bounds are asked of an offer is asked by those that have an entry for it
abbrev pub BoundsAreOfSome : Type 0
BoundsAreOfSome = (o : Offer) (ds : List OfferDemand)
    → bounds_asked o (filter (has_entry o) ds) ≡ bounds_asked o ds

-- a conflict is of the reason's kind: a line of the same count field, a line for
-- each place, or a line for each offer
abbrev pub IsOfReason : Reason → Conflict → Type 0
IsOfReason (reasons.Count field) (Count line) = line.field ≡ field
IsOfReason reasons.NoPlace (Places lines) = Unit {0}
IsOfReason reasons.NoOffer (Offers lines) = Unit {0}
IsOfReason reason conflict = ⊥

-- a reason that is true of all that is settled, whom these paths name, is a conflict
-- of its kind of an initial domain
abbrev pub ReasonsAreConflicts : Type 0
ReasonsAreConflicts = (platform : PlatformFacts) (d : Forest Member) (paths : List (List ℕ))
    → Names (settled d) paths (participants (settled d)) → (reason : Reason)
    → IsReason (is_none (choices d)) platform (participants (settled d)) reason
    → (c : Conflict) × IsConflict platform d c × IsOfReason reason c
