-- What structs state is put into a handle, or memory is refused.
use Rattle.std.proofs.Common.{◌≡◌, ℕ, inl, inr, Option, Some, refl, subst, sym}
use Rattle.flat_negotiation.specs.Said.{IsParticipantAmiss, IsParticipantSaid, IsPlatformAmiss, IsPlatformSaid}
use Rattle.flat_negotiation.specs.Unsaid.{IfAmiss}
use Rattle.flat_negotiation.specs.declared.parts.unsaid.Unsaid.{Unsaid}
use Rattle.flat_negotiation.specs.declared.parts.unsaid.Unsaid.TheVariants.{NoMemory, Misstated}
use Rattle.flat_negotiation.specs.declared.unsettled.Unsettled.TheVariants as unsettled
use Rattle.flat_negotiation.specs.declared.flat.FlatRefusal.{FlatRefusal}
use Rattle.flat_negotiation.specs.declared.parts.flat.FlatParticipant.{FlatParticipant}
use Rattle.flat_negotiation.specs.declared.parts.flat.FlatPlatform.{FlatPlatform}
use Rattle.live_book.specs.declared.object.Object.{Object}
use Rattle.live_book.specs.declared.object.Object.TheVariants.{Platform}
use Rattle.live_calls.specs.Behind.{constraints_in}
use Rattle.live_calls.specs.Making.{PutsConstraints, puts_constraints, refuses_constraints, constraints_starve, PutsPlatform, puts_platform, refuses_platform, platform_starves, TellsUnsaid}
use Rattle.live_calls.proofs.Endings.{Put}
use Rattle.negotiation_inputs.specs.Participant.{Participant}
use Rattle.negotiation_inputs.specs.Platform.{PlatformFacts}

pub platform_by : (flat : FlatPlatform) (old new : Option Object) (why : FlatRefusal) (p : PlatformFacts) (r : ℕ) → IsPlatformSaid flat p → Put r (new ≡ Some (Platform p)) old new → PutsPlatform flat old new why why r
platform_by flat old new why p r said (inl put) = subst (λ k. PutsPlatform flat old new why why k) (sym put.0) (puts_platform p said put.1 refl)
platform_by flat old new why p r said (inr kept) = subst (λ k. PutsPlatform flat old new why why k) (sym kept.0) (platform_starves kept.1 refl)

pub constraints_by : (flat : FlatParticipant) (old new : Option Object) (why : FlatRefusal) (p : Participant) (r : ℕ) → IsParticipantSaid flat p → Put r (constraints_in new ≡ Some p) old new
    → PutsConstraints flat old new why why r
constraints_by flat old new why p r said (inl put) = subst (λ k. PutsConstraints flat old new why why k) (sym put.0) (puts_constraints p said put.1 refl)
constraints_by flat old new why p r said (inr kept) = subst (λ k. PutsConstraints flat old new why why k) (sym kept.0) (constraints_starve kept.1 refl)

pub platform_unsaid : (flat : FlatPlatform) (held : Option Object) (before after : FlatRefusal) (u : Unsaid) (r : ℕ) → IfAmiss (IsPlatformAmiss flat) u → TellsUnsaid unsettled.Platform u before after r
    → PutsPlatform flat held held before after r
platform_unsaid flat held before after NoMemory r amiss told = subst (λ k. PutsPlatform flat held held before after k) (sym told.0) (platform_starves refl told.1)
platform_unsaid flat held before after (Misstated it) r amiss told = subst (λ k. PutsPlatform flat held held before after k) (sym told.0) (refuses_platform it amiss refl told.1)

pub constraints_unsaid : (flat : FlatParticipant) (held : Option Object) (before after : FlatRefusal) (u : Unsaid) (r : ℕ) → IfAmiss (IsParticipantAmiss flat) u
    → TellsUnsaid (unsettled.Participant 0) u before after r → PutsConstraints flat held held before after r
constraints_unsaid flat held before after NoMemory r amiss told = subst (λ k. PutsConstraints flat held held before after k) (sym told.0) (constraints_starve refl told.1)
constraints_unsaid flat held before after (Misstated it) r amiss told = subst (λ k. PutsConstraints flat held held before after k) (sym told.0) (refuses_constraints it amiss refl told.1)
