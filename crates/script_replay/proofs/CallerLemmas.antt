-- What callers need of a replay's definitions, and of a domain that is to be decided.
pub use Rattle.script_replay.proofs.OneDecision.{has_verdict, one_decision}
pub use Rattle.script_replay.proofs.Proved.{if_mapped, proved_push}
pub use Rattle.script_replay.proofs.OneReply.{answer_for, is_answer, or_right, unstarved_before}
use Rattle.std.proofs.Common.{◌≡◌, ℕ, ◌+◌, List, Option, Some, None, refl, ◌∙◌, ap, subst}
use Rattle.std.specs.Prelude.{is_none, option_map}
use Rattle.sysmem_alloc.specs.Decision.{answer_of}
use Rattle.verdict_claims.specs.Base.{BaseFacts}
use Rattle.verdict_claims.specs.declared.certificate.Claim.{Claim}
use Rattle.negotiation_inputs.specs.Platform.{PlatformFacts}
use Rattle.sysmem_tree.specs.Domain.{TreeFacts}
use Rattle.sysmem_tree.specs.Node.{NodeFacts}
use Rattle.sysmem_tree.specs.Path.{path_of}
use Rattle.script_reading.specs.Script.{CallFacts}
use Rattle.script_replay.specs.declared.reply.Reply.{Reply}
use Rattle.script_replay.specs.Answer.{Replies, skips, misreads, starves, lacks, refuses, accepts, tells}
use Rattle.script_replay.specs.Report.{Certified, Goes, calls, decides, stays, with_decision}
use Rattle.script_replay.specs.State.{RunState}

-- a reply leaves the platform
pub replies_platform : (s t : RunState) (r : CallFacts) (reply : Reply) → Replies s r reply t → t.platform ≡ s.platform
replies_platform s _ r _ (skips none) = refl
replies_platform s _ r _ (misreads k d fault here act read) = refl
replies_platform s _ r _ (starves k d fault here act want lack) = refl
replies_platform s _ r _ (lacks k d asked here act read) = refl
replies_platform s _ r _ (refuses k deed refusal here asks why) = refl
replies_platform s _ r _ (accepts k made deed tree here asks done) = refl
replies_platform s _ r _ (tells k here asks) = refl

-- the platform stays
pub goes_platform : (number : ℕ) (s t : RunState) (rs : List CallFacts) (a : List ℕ) (cs : List Certified) → Goes number s rs a cs t → t.platform ≡ s.platform
goes_platform _ _ _ _ _ _ (stays number s) = refl
goes_platform _ _ _ _ _ _ (calls number s answered t r rs reply text cs idle replied rest) = goes_platform (number + 1) answered t rs text cs rest ∙ replies_platform s answered r reply replied
goes_platform _ _ _ _ _ _ (decides number s t c rs what text cs allowed said rest) = goes_platform number (with_decision s (answer_of c)) t rs text cs rest

-- where memory was refused, no verdict is there
pub none_mapped : {X Y : Type 0} (f : X → Y) (o : Option X) → is_none (option_map f o) ≡ is_none o
none_mapped f None = refl
none_mapped f (Some x) = refl

-- the path of a domain, however its tree was lent
pub path_is : (t u : TreeFacts) (n r : ℕ) (path : List ℕ) → t ≡ u → n ≡ r → path ≡ path_of t.nodes n → path ≡ path_of u.nodes r
path_is t u n r path same own is = is ∙ (ap (λ (x : TreeFacts). path_of x.nodes n) same ∙ ap (path_of u.nodes) own)

-- what holds of a claim on what was lent holds of it
pub claim_as : (Holds : PlatformFacts → List NodeFacts → ℕ → Option BaseFacts → Claim → Type 0) (p q : PlatformFacts) (t u : TreeFacts) (r : ℕ) (a b : Option BaseFacts) (c d : Claim)
    → p ≡ q → t ≡ u → a ≡ b → c ≡ d → Holds p t.nodes r a c → Holds q u.nodes r b d
claim_as Holds p q t u r a b c d platform tree base same claim =
    let first = subst (λ (x : PlatformFacts). Holds x t.nodes r a c) platform claim in
    let second = subst (λ (x : TreeFacts). Holds q x.nodes r a c) tree first in
    let third = subst (λ (x : Option BaseFacts). Holds q u.nodes r x c) base second in
    subst (λ (x : Claim). Holds q u.nodes r b x) same third
