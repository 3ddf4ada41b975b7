-- Each decision of a report can be read of its certificate.
use Rattle.std.proofs.Common.{◌≡◌, ◌==◌, ◌++◌, ℕ, ◌+◌, All, Bool, true, false, List, [], ◌∷◌, Option, Some, None, IfSome, IsOk, Ok, option_map, option_and_then, refl, sym, ◌∙◌, ap, subst}
use Rattle.std.specs.Prelude.{if◌then◌else◌}
use Rattle.std.proofs.lemmas.List.Elements.{All-nil, All-cons, All-head, All-tail, All-weaker}
use Rattle.std.specs.List.{AllByRecursion}
use Rattle.sysmem_merge.specs.declared.settings.Settings.{Settings}
use Rattle.negotiation_inputs.specs.Platform.{PlatformFacts}
use Rattle.sysmem_tree.specs.ActionKind.{Deed}
use Rattle.sysmem_tree.specs.Domain.{TreeFacts, host_node}
use Rattle.sysmem_tree.specs.Node.{NodeFacts}
use Rattle.sysmem_tree.specs.Nodes.{IsTree}
use Rattle.sysmem_tree.specs.Tree.{applied}
use Rattle.verdict_claims.specs.declared.certificate.Claim.{Claim}
use Rattle.verdict_claims.specs.declared.certificate.Proof.{Proof}
use Rattle.verdict_claims.specs.declared.certificate.Proof.TheVariants as proves
use Rattle.verdict_claims.specs.declared.verdict.Verdict.{Verdict}
use Rattle.verdict_claims.specs.declared.verdict.Verdict.TheVariants as verdicts
use Rattle.sysmem_alloc.specs.Claims.{HasProof, IsRightClaim}
use Rattle.sysmem_alloc.specs.Decision.{Claimed, DomainVerdict, answer_of, decision_for, settings_for, settings_of, verdict_in}
use Rattle.sysmem_alloc.specs.Entry.{BookEntry, Acted, Decided}
use Rattle.sysmem_alloc.specs.History.{Allows, AreAllowed, IsLegal, after_answer, after_entry, replay, replay_from}
use Rattle.sysmem_alloc.specs.Laws.{LegalIsSound}
use Rattle.sysmem_alloc.specs.State.{State as BookState, base_of}
use Rattle.sysmem_alloc.specs.State as books
use Rattle.sysmem_alloc.proofs.CallerLemmas.{proved_is_true}
use Rattle.certificate_text.specs.CanBeRead.{AreReadableSettings, CanBeRead, HasHeapIds, IsReadableBase, IsReadableDecision}
use Rattle.certificate_text.specs.Laws.{ClaimsReadBack, NodePathsCanBeRead, TextsReadBack, TrueClaimsCanBeRead}
use Rattle.certificate_text.specs.Said.{claim_said}
use Rattle.certificate_text.specs.Told.{decision_data}
use Rattle.script_reading.specs.Script.{CallFacts}
use Rattle.script_replay.specs.declared.reply.Reply.{Reply}
use Rattle.script_replay.specs.Answer.{Replies, skips, misreads, starves, lacks, refuses, accepts, tells}
use Rattle.script_replay.specs.Proving.{AreProved, IsProved}
use Rattle.script_check.specs.Laws.{CertificatesReadBack, claim_told}
use Rattle.script_replay.specs.Report.{Certified, Goes, calls, certified, decides, stays, with_decision}
use Rattle.script_replay.specs.State.{RunState, collection_tree, first_run_state}

-- one more entry
replay_more : (s : BookState) (es : List BookEntry) (e : BookEntry) → replay_from s (es ++ e ∷ []) ≡ after_entry (replay_from s es) e
replay_more s [] e = refl
replay_more s (x ∷ es) e = replay_more (after_entry s x) es e

allowed_more : (platform : PlatformFacts) (s : BookState) (es : List BookEntry) (e : BookEntry) → AreAllowed platform s es → Allows platform (replay_from s es) e → AreAllowed platform s (es ++ e ∷ [])
allowed_more platform s [] e all one = (one, tt)
allowed_more platform s (x ∷ es) e all one = (all.0, allowed_more platform (after_entry s x) es e all.1 one)

-- what a decision chose can be read
abbrev ChoseReadable : PlatformFacts → DomainVerdict → Type 0
ChoseReadable platform d = IfSome (settings_of d.verdict) (AreReadableSettings platform)

-- a state that a legal history leads to, and what its decisions chose can be read
record Stands (platform : PlatformFacts) (b : BookState) : Type 0 where
  history : List BookEntry
  legal : IsLegal platform history
  replayed : b ≡ replay history
  readable : AllByRecursion (ChoseReadable platform) b.decisions

starts : (platform : PlatformFacts) → Stands platform books.first_state
starts platform = record { history = []; legal = tt; replayed = refl; readable = tt }

goes_on : (platform : PlatformFacts) (b : BookState) (e : BookEntry) → Stands platform b → Allows platform b e → AllByRecursion (ChoseReadable platform) (after_entry b e).decisions → Stands platform (after_entry b e)
goes_on platform b e stands allowed readable = record {
  history = stands.history ++ e ∷ [];
  legal = allowed_more platform books.first_state stands.history e stands.legal (subst (λ (x : BookState). Allows platform x e) stands.replayed allowed);
  replayed = ap (λ (x : BookState). after_entry x e) stands.replayed ∙ sym (replay_more books.first_state stands.history e);
  readable = readable;
}

-- an action leaves the decisions
after_act : (platform : PlatformFacts) (b : BookState) (k made : ℕ) (deed : Deed) (tree : TreeFacts) → Stands platform b → applied b.tree k deed ≡ Ok (record { tree = tree; node = made })
    → Stands platform (after_entry b (Acted k deed))
after_act platform b k made deed tree stands done = goes_on platform b (Acted k deed) stands (subst IsOk (sym done) refl)
    (subst (AllByRecursion (ChoseReadable platform)) (sym (ap (λ r. (after_answer b r).decisions) done)) stands.readable)

after_reply : (platform : PlatformFacts) (s t : RunState) (r : CallFacts) (reply : Reply) → Stands platform s.book → Replies s r reply t → Stands platform t.book
after_reply platform s _ r _ stands (skips none) = stands
after_reply platform s _ r _ stands (misreads k d fault here act read) = stands
after_reply platform s _ r _ stands (starves k d fault here act want lack) = stands
after_reply platform s _ r _ stands (lacks k d asked here act read) = stands
after_reply platform s _ r _ stands (refuses k deed refusal here asks why) = stands
after_reply platform s _ r _ stands (accepts k made deed tree here asks done) = after_act platform s.book k made deed tree stands done
after_reply platform s _ r _ stands (tells k here asks) = stands

-- the platform stays
pub replied_platform : (s t : RunState) (r : CallFacts) (reply : Reply) → Replies s r reply t → t.platform ≡ s.platform
replied_platform s _ r _ (skips none) = refl
replied_platform s _ r _ (misreads k d fault here act read) = refl
replied_platform s _ r _ (starves k d fault here act want lack) = refl
replied_platform s _ r _ (lacks k d asked here act read) = refl
replied_platform s _ r _ (refuses k deed refusal here asks why) = refl
replied_platform s _ r _ (accepts k made deed tree here asks done) = refl
replied_platform s _ r _ (tells k here asks) = refl

-- what was chosen for a domain can be read
settings_read : (platform : PlatformFacts) (ds : List DomainVerdict) (r : ℕ) → AllByRecursion (ChoseReadable platform) ds → IfSome (settings_for ds r) (AreReadableSettings platform)
settings_read platform [] r all = tt
settings_read platform (d ∷ ds) r all = by (d.domain == r) (settings_read platform ds r all.1) where
  by : (t : Bool) → IfSome (settings_for ds r) (AreReadableSettings platform)
      → IfSome (option_and_then (λ (e : DomainVerdict). settings_of e.verdict) (if t then Some d else decision_for ds r)) (AreReadableSettings platform)
  by true rest = all.0
  by false rest = rest

-- so can what a domain is decided on
base_read : (platform : PlatformFacts) (b : BookState) (r : ℕ) → AllByRecursion (ChoseReadable platform) b.decisions → IsReadableBase platform (base_of b r)
base_read platform b r all = by (host_node b.tree.nodes r) where
  on : (o : Option Settings) → IfSome o (AreReadableSettings platform) → IsReadableBase platform (option_map (λ settings. record { settings = settings; accepted = b.accepted }) o)
  on None can = tt
  on (Some settings) can = can

  by : (o : Option NodeFacts)
      → IsReadableBase platform (option_and_then (λ (host : NodeFacts). option_map (λ settings. record { settings = settings; accepted = b.accepted }) (settings_for b.decisions host.domain)) o)
  by None = tt
  by (Some host) = on (settings_for b.decisions host.domain) (settings_read platform b.decisions host.domain all)

all_more : {X : Type 0} (P : X → Type 0) (xs : List X) (x : X) → AllByRecursion P xs → P x → AllByRecursion P (xs ++ x ∷ [])
all_more P [] x all one = (one, tt)
all_more P (y ∷ xs) x all one = (all.0, all_more P xs x all.1 one)

-- of a claim that can be read, the settings can
chosen_read : (platform : PlatformFacts) (verdict : Verdict) (proof : Proof) → CanBeRead platform verdict proof → IfSome (settings_of (Some verdict)) (AreReadableSettings platform)
chosen_read platform (verdicts.Chosen chosen) (proves.Choice certificate) can = can.settings
chosen_read platform (verdicts.Chosen chosen) (proves.Empty items) can = absurd can
chosen_read platform (verdicts.Chosen chosen) proves.Nothing can = absurd can
chosen_read platform verdicts.IntersectionEmpty proof can = tt
chosen_read platform verdicts.TooMany proof can = tt
chosen_read platform verdicts.Failed proof can = tt
chosen_read platform verdicts.NoMemory proof can = tt

module _ (paths : NodePathsCanBeRead) (claims : TrueClaimsCanBeRead) (sound : LegalIsSound) (platform : PlatformFacts) (ids : HasHeapIds platform) where
  tree_stands : (b : BookState) → Stands platform b → IsTree b.tree.nodes
  tree_stands b stands = subst (λ (x : BookState). IsTree x.tree.nodes) (sym stands.replayed) (sound platform stands.history stands.legal).tree.tree

  -- a claim that the book allows can be read, where it has its proof
  claim_read : (b : BookState) (c : Claimed) → Stands platform b → Allows platform b (Decided c) → IfSome c.claim HasProof → IfSome c.claim (λ x. CanBeRead platform x.verdict x.proof)
  claim_read b c stands allowed has = by c.claim allowed.1 has where
    by : (o : Option Claim) → IfSome o (IsRightClaim platform b.tree.nodes c.domain (base_of b c.domain)) → IfSome o HasProof → IfSome o (λ x. CanBeRead platform x.verdict x.proof)
    by None is has = tt
    by (Some x) is has = claims platform b.tree.nodes c.domain (base_of b c.domain) x ids (tree_stands b stands) (base_read platform b c.domain stands.readable)
        (proved_is_true platform b.tree.nodes c.domain (base_of b c.domain) x is has)

  -- what it chose can
  decision_read : (claim : Option Claim) → IfSome claim (λ x. CanBeRead platform x.verdict x.proof) → IfSome (settings_of (verdict_in claim)) (AreReadableSettings platform)
  decision_read None can = tt
  decision_read (Some claim) can = chosen_read platform claim.verdict claim.proof can

  after_decided : (s : RunState) (c : Claimed) → Stands platform s.book → Allows platform s.book (Decided c) → IfSome c.claim HasProof → Stands platform (with_decision s (answer_of c)).book
  after_decided s c stands allowed has = goes_on platform s.book (Decided c) stands allowed
      (all_more (ChoseReadable platform) s.book.decisions (answer_of c) stands.readable (decision_read c.claim (claim_read s.book c stands allowed has)))

  abbrev CanReadOne : Certified → Type 0
  CanReadOne c = IsReadableDecision platform c.0 c.1

  -- each decision on the way can be read
  each_read : (number : ℕ) (s t : RunState) (rs : List CallFacts) (a : List ℕ) (cs : List Certified) → s.platform ≡ platform → Stands platform s.book → Goes number s rs a cs t → AreProved cs → All CanReadOne cs
  each_read _ _ _ _ _ _ on stands (stays number s) all = All-nil CanReadOne
  each_read _ _ _ _ _ _ on stands (calls number s answered t r rs reply text cs idle replied rest) all =
      each_read (number + 1) answered t rs text cs (replied_platform s answered r reply replied ∙ on) (after_reply platform s answered r reply stands replied) rest all
  each_read _ _ _ _ _ _ on stands (decides number s t c rs what text cs allowed said rest) all =
      let has : IfSome c.claim HasProof = All-head IsProved (certified s c) cs all in
      let allows : Allows platform s.book (Decided c) = subst (λ (p : PlatformFacts). Allows p s.book (Decided c)) on allowed in
      All-cons CanReadOne (certified s c) cs
      (record { steps = paths (collection_tree s).nodes c.domain (tree_stands s.book stands); claimed = claim_read s.book c stands allows has })
      (each_read number (with_decision s (answer_of c)) t rs text cs on (after_decided s c stands allows has) rest (All-tail IsProved (certified s c) cs all))

pub certificates_read_back : ClaimsReadBack → NodePathsCanBeRead → TrueClaimsCanBeRead → TextsReadBack → LegalIsSound → CertificatesReadBack
certificates_read_back back paths claims texts sound platform rs text decisions starved is ids report proved =
    let all : All (λ (c : Certified). IsReadableDecision platform c.0 c.1) decisions =
    each_read paths claims sound platform ids 1 (first_run_state platform) report.last rs report.lines decisions refl (starts platform) report.goes proved in
    let spelled = texts platform decisions is.each_heap all in
    record {
      spelled = record { text = spelled.utf8; spelled = spelled.spelled };
      each = All-weaker (λ (c : Certified). IsReadableDecision platform c.0 c.1)
          (λ (c : Certified). claim_said platform (decision_data platform c.0 c.1) ≡ Some (c.0, claim_told c.1)) (λ c can. one c.0 c.1 can) decisions all;
    } where
      one : (path : List ℕ) (claim : Option Claim) → IsReadableDecision platform path claim → claim_said platform (decision_data platform path claim) ≡ Some (path, claim_told claim)
      one path (Some claim) can = back platform path claim.verdict claim.proof is can.steps can.claimed
      one path None can = back platform path verdicts.NoMemory proves.Nothing is can.steps tt
