-- What a handle has noted once it was told.
use Rattle.std.proofs.Common.{◌≡◌, ◌≢◌, ◌∙◌, ℕ, List, Option, Some, None, Result, Ok, Err, ap, sym, subst}
use Rattle.std.specs.Prelude.{IfErr, IfOk, IfSome, MatchResult}
use Rattle.once_cell.specs.Once.{Agrees}
use Rattle.sysmem_room.specs.declared.outcome.Outcome.{Outcome}
use Rattle.sysmem_room.specs.declared.outcome.Outcome.TheVariants as outcomes
use Rattle.sysmem_room.specs.Ruling.{RulingFacts}
use Rattle.negotiation_inputs.specs.Participant.{Participant}
use Rattle.negotiation_inputs.specs.Platform.{PlatformFacts}
use Rattle.sysmem_tree.specs.declared.refusal.Refusal.{Refusal}
use Rattle.sysmem_tree.specs.declared.refusal.Refusal.TheVariants as refusals
use Rattle.sysmem_participants.specs.Held.{Held, IsSameBut, IsStillKnown}
use Rattle.sysmem_participants.specs.Told.{IsTold, IsToldBy, Tells, asked_by}

-- what was known is known still
pub still_known : (was known noted : Option Outcome) (o : Outcome) → known ≡ was → noted ≡ Some o → Agrees known o → IfSome was (λ x. noted ≡ Some x)
still_known None known noted o is set agrees = tt
still_known (Some x) known noted o is set agrees = set ∙ ap Some (sym (subst (λ k. Agrees k o) is agrees))

-- a refusal that tells what became of a domain, by what the handle holds
told_to : (h : Held) (platform : PlatformFacts) (path : List ℕ) (asked : Option Participant) (o : Outcome) (refusal : Refusal) → platform ≡ h.platform → path ≡ h.path → asked ≡ asked_by h
    → IsTold platform path asked o refusal → IsTold h.platform h.path (asked_by h) o refusal
told_to h platform path asked o refusal p q a told =
    subst (λ x. IsTold h.platform h.path x o refusal) a (subst (λ x. IsTold h.platform x asked o refusal) q (subst (λ x. IsTold x path asked o refusal) p told))

-- what is noted goes with what is shown or told
pub noted_by : {V : Type 0} (told : Result V Refusal) (at : V → RulingFacts) (h : Held) (platform : PlatformFacts) (path : List ℕ) (asked : Option Participant) (o : Outcome) (noted : Option Outcome) → noted ≡ Some o
    → platform ≡ h.platform → path ≡ h.path → asked ≡ asked_by h → IfOk told (λ v. o ≡ outcomes.Decided (at v)) → IfErr told (IsTold platform path asked o)
    → IfErr told (λ r. r ≢ refusals.Pending)
    → MatchResult told (λ v. noted ≡ Some (outcomes.Decided (at v))) (IsToldBy h noted)
noted_by (Ok v) at h platform path asked o noted set p q a decided told known = set ∙ ap Some decided
noted_by (Err refusal) at h platform path asked o noted set p q a decided told known = ((λ is. absurd (known is)), (λ _. (o, set, told_to h platform path asked o refusal p q a told)))

-- what was known is what is found in the cell
was_known : (was known : Option Outcome) (o : Outcome) → known ≡ was → Agrees known o → IfSome was (λ k. k ≡ o)
was_known None known o is agrees = tt
was_known (Some x) known o is agrees = subst (λ k. Agrees k o) is agrees

pub tells_of : {V : Type 0} (told : Result V Refusal) (h : Held) (known : Option Outcome) (platform : PlatformFacts) (path : List ℕ) (asked : Option Participant) (o : Outcome) → known ≡ h.known → Agrees known o
    → platform ≡ h.platform → path ≡ h.path → asked ≡ asked_by h → IfErr told (IsTold platform path asked o) → IfErr told (Tells h)
tells_of (Ok v) h known platform path asked o was agrees p q a told = tt
tells_of (Err refusal) h known platform path asked o was agrees p q a told = λ _. (o, was_known h.known known o was agrees, told_to h platform path asked o refusal p q a told)

-- what was known before a while, and is what is known after it
known_before : (a b : Option Outcome) (o : Outcome) → IfSome a (λ x. b ≡ Some x) → IfSome b (λ k. k ≡ o) → IfSome a (λ k. k ≡ o)
known_before None b o kept is = tt
known_before (Some x) b o kept is = subst (λ k. IfSome k (λ y. y ≡ o)) kept is

-- what is known still after a while and then a while more
pub known_on : (a b c : Option Outcome) → IfSome a (λ o. b ≡ Some o) → IfSome b (λ o. c ≡ Some o) → IfSome a (λ o. c ≡ Some o)
known_on None b c one two = tt
known_on (Some o) b c one two = subst (λ x. IfSome x (λ o. c ≡ Some o)) one two

-- what is noted by a handle that waited and was told then
pub waited : {V : Type 0} (told : Result V Refusal) (at : V → RulingFacts) (h k n : Held) → IsSameBut h k → IsStillKnown h k
    → IsSameBut k n × IsStillKnown k n × MatchResult told (λ v. n.known ≡ Some (outcomes.Decided (at v))) (IsToldBy k n.known)
    → IsSameBut h n × IsStillKnown h n × MatchResult told (λ v. n.known ≡ Some (outcomes.Decided (at v))) (IsToldBy h n.known)
waited {V} told at h k n same kept after = (after.0 ∙ same, known_on h.known k.known n.known kept after.1, by told after.2) where
  by : (t : Result V Refusal) → MatchResult t (λ v. n.known ≡ Some (outcomes.Decided (at v))) (IsToldBy k n.known) → MatchResult t (λ v. n.known ≡ Some (outcomes.Decided (at v))) (IsToldBy h n.known)
  by (Ok v) noted = noted
  by (Err refusal) noted = (noted.0, λ decided. let (o, set, was_told) = noted.1 decided in (o, set, told_to h k.platform k.path (asked_by k) o refusal (ap (λ (x : Held). x.platform) same) (ap (λ (x : Held). x.path) same) (ap asked_by same) was_told))

pub tells_as : {V : Type 0} (told : Result V Refusal) (h k : Held) → IsSameBut h k → IsStillKnown h k → IfErr told (Tells k) → IfErr told (Tells h)
tells_as (Ok v) h k same kept tells = tt
tells_as (Err refusal) h k same kept tells = λ decided. let (o, knew, was_told) = tells decided in (o, known_before h.known k.known o kept knew, told_to h k.platform k.path (asked_by k) o refusal (ap (λ (x : Held). x.platform) same) (ap (λ (x : Held). x.path) same) (ap asked_by same) was_told)
