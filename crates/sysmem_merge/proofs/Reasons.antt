-- A reason that is true of participants leaves no settings to them, nor to more.
use Rattle.std.proofs.Common.{arith, ℕ, ◌<◌, ◌≤◌, Bool, false, List}
use Rattle.list_lemmas.proofs.CallerLemmas.{Any-not_All}
use Rattle.sysmem_counts.proofs.CallerLemmas.{line_sound}
use Rattle.sysmem_counts.specs.Counts.{IsLeastCount, IsCountFault, IsCountLine, needed}
use Rattle.sysmem_counts.specs.declared.field.Field.{Field}
use Rattle.sysmem_counts.specs.declared.field.Field.TheVariants.{MaxBufferCount, BufferCountLimit}
use Rattle.sysmem_memory.specs.declared.place.Place.{Place}
use Rattle.sysmem_memory.specs.Place.{IsFirstPlace, HasNoPlace}
use Rattle.sysmem_merge.specs.declared.reason.Reason.{Reason}
use Rattle.sysmem_merge.specs.declared.reason.Reason.TheVariants.{Count, NoPlace, NoOffer}
use Rattle.sysmem_merge.specs.Laws.{ReasonLeavesNone, ReasonOfSomeLeavesNone}
use Rattle.sysmem_merge.specs.Demands.{counts_asked, place_demands, offer_demands}
use Rattle.negotiation_inputs.specs.Participant.{Participant}
use Rattle.negotiation_inputs.specs.Platform.{PlatformFacts, offers_of}
use Rattle.sysmem_merge.specs.Reasons.{AreOffersRefused, IsReason, IsFirstReason, reason_rank}
use Rattle.sysmem_merge.proofs.SomeMet.{unmet_by_some}
use Rattle.sysmem_merge.proofs.Together.{refused_clash, unmet_by_count, unmet_by_place, unmet_by_offer}

-- each kind of reason
pub reason_of_all : ReasonLeavesNone
reason_of_all whole platform ps (Count field) line = unmet_by_count whole platform ps (line_sound field (counts_asked ps) line)
reason_of_all whole platform ps NoPlace none = unmet_by_place whole platform ps none
reason_of_all whole platform ps NoOffer refused = unmet_by_offer whole platform ps refused

-- and so of some of the participants
pub reason_of_some : ReasonOfSomeLeavesNone
reason_of_some whole platform some all reason among is =
    unmet_by_some whole platform some all among (reason_of_all false platform some reason is)

-- where some count suits, no count line is true
no_count_line : (ps : List Participant) (count : ℕ) → IsLeastCount (counts_asked ps) count → (field : Field) → ¬ (IsCountLine field (counts_asked ps))
no_count_line ps count least field line = line_sound field (counts_asked ps) line count least.counted

-- the first count line is the first reason
pub first_count : (whole : Bool) (platform : PlatformFacts) (ps : List Participant) (field : Field) → IsCountFault (counts_asked ps) field
    → IsFirstReason whole platform ps (Count field)
first_count whole platform ps MaxBufferCount fault = record { holds = fault; first = λ other below. absurd (omega (arith, below)) }
first_count whole platform ps BufferCountLimit fault = record { holds = fault.1; first = before } where
  before : (other : Reason) → reason_rank other < 1 → ¬ (IsReason whole platform ps other)
  before (Count MaxBufferCount) below line =
      Any-not_All (λ p. p.max_buffer_count < needed (counts_asked ps)) (λ p. needed (counts_asked ps) ≤ p.max_buffer_count) (counts_asked ps) (λ p low high. omega (arith, low, high)) line fault.0
  before (Count BufferCountLimit) below line = absurd (omega (arith, below))
  before (Count field) below line = absurd line
  before NoPlace below line = absurd (omega (arith, below))
  before NoOffer below line = absurd (omega (arith, below))
first_count whole platform ps _ fault = absurd fault

-- so without a place that is the first reason
pub first_no_place : (whole : Bool) (platform : PlatformFacts) (ps : List Participant) (count : ℕ) → IsLeastCount (counts_asked ps) count
    → HasNoPlace platform.heaps (place_demands ps) → IsFirstReason whole platform ps NoPlace
first_no_place whole platform ps count least none = record { holds = none; first = before } where
  before : (other : Reason) → reason_rank other < 2 → ¬ (IsReason whole platform ps other)
  before (Count field) below line = no_count_line ps count least field line
  before NoPlace below line = absurd (omega (arith, below))
  before NoOffer below line = absurd (omega (arith, below))

-- and without an offer, where there are a count and a place
pub first_no_offer : (whole : Bool) (platform : PlatformFacts) (ps : List Participant) (count : ℕ) (place : Place) → IsLeastCount (counts_asked ps) count
    → IsFirstPlace platform.heaps (place_demands ps) place → AreOffersRefused whole (offers_of platform) (offer_demands ps) → IsFirstReason whole platform ps NoOffer
first_no_offer whole platform ps count place least found none = record { holds = none; first = before } where
  before : (other : Reason) → reason_rank other < 3 → ¬ (IsReason whole platform ps other)
  before (Count field) below line = no_count_line ps count least field line
  before NoPlace below line = refused_clash found.info place.coherency (place_demands ps) (line place found.info found.place) found.allowed
  before NoOffer below line = absurd (omega (arith, below))
