-- What audits that said yes say of their books' histories.
use Rattle.std.proofs.Common.{◌≡◌, ℕ, List, [], ◌∷◌, Option, Some, None, Result, Ok, Err, slice_get, get_or, refl, sym, ◌∙◌, ap, subst}
use Rattle.std.specs.Prelude.{IfSome, map, option_map, option_and_then, unwrap_or}
use Rattle.std.proofs.lemmas.Option.{same_Some}
use Rattle.verdict_claims.specs.declared.verdict.Verdict.{Verdict}
use Rattle.verdict_claims.specs.Verdict.{IsSameAnswer}
use Rattle.negotiation_inputs.specs.Platform.{PlatformFacts}
use Rattle.sysmem_tree.specs.declared.refusal.Refusal.{Refusal}
use Rattle.sysmem_tree.specs.ActionKind.{Deed}
use Rattle.sysmem_tree.specs.Domain.{TreeFacts}
use Rattle.sysmem_tree.specs.History as trees
use Rattle.sysmem_tree.specs.Laws.{OnePath, SameReady}
use Rattle.sysmem_tree.specs.Node.{NodeFacts}
use Rattle.sysmem_tree.specs.Path.{node_at}
use Rattle.sysmem_tree.specs.Tree.{Applied, applied}
use Rattle.sysmem_tree.proofs.CallerLemmas.{node_within}
use Rattle.sysmem_alloc.specs.Book.{BookFacts, IsBook}
use Rattle.sysmem_alloc.specs.Decision.{IsDecision}
use Rattle.sysmem_alloc.specs.Entry.{BookEntry, Acted, Decided, tree_entry}
use Rattle.sysmem_alloc.specs.History.{IsLegal, SameCalls, after_answer, after_entry, replay, replay_from}
use Rattle.sysmem_alloc.specs.Laws.{AreConfluent, Confluence, LegalIsSound}
use Rattle.sysmem_alloc.specs.Sound.{IsSoundState}
use Rattle.sysmem_alloc.specs.State.{State, first_state, verdict_of}
use Rattle.sysmem_room.specs.declared.outcome.Outcome.TheVariants as outcomes
use Rattle.sysmem_room.specs.Agreeing.{verdict_at, IsKnown}
use Rattle.sysmem_room.specs.Ruling.{RulingFacts}
use Rattle.sysmem_participants.specs.declared.faults.Audit.{Audit}
use Rattle.sysmem_participants.specs.Audit.{IsAudited, IsOf}
use Rattle.sysmem_participants.specs.Held.{Left}
use Rattle.sysmem_participants.specs.Laws.{AreAmong, AuditsAgree, HaveSameCalls, IsInitial, IsLike}
use Rattle.sysmem_alloc.proofs.CallerLemmas.{gave}

-- the tree of a history's state is the one that its entries for the tree lead to
tree_of_entry : (s : State) (e : BookEntry) → (after_entry s e).tree ≡ trees.after_entry s.tree (tree_entry e)
tree_of_entry s (Acted i deed) = by (applied s.tree i deed) where
  by : (o : Result Applied Refusal) → (after_answer s o).tree ≡ trees.after_answer s.tree o
  by (Ok made) = refl
  by (Err refusal) = refl
tree_of_entry s (Decided c) = refl

tree_of_replay : (s : State) (es : List BookEntry) → (replay_from s es).tree ≡ trees.replay_from s.tree (map tree_entry es)
tree_of_replay s [] = refl
tree_of_replay s (e ∷ es) = tree_of_replay (after_entry s e) es ∙ ap (λ t. trees.replay_from t (map tree_entry es)) (tree_of_entry s e)

-- the calls that a book's history has at a path
calls_at : BookFacts → List ℕ → List Deed
calls_at b path = trees.log_in b.state.tree.nodes (map tree_entry b.history) path

log_of_book : (b : BookFacts) → IsBook b → (path : List ℕ) → trees.log_at (map tree_entry b.history) path ≡ calls_at b path
unfolding calls_at
log_of_book b is path =
    let tree : trees.replay (map tree_entry b.history) ≡ b.state.tree = sym (ap (λ (s : State). s.tree) is.replayed ∙ tree_of_replay first_state b.history) in
    ap (λ (t : TreeFacts). trees.log_in t.nodes (map tree_entry b.history) path) tree

-- where a stub is of the node at a path, the calls there are the stub's
calls_of : (b : BookFacts) (s : Left) (i : ℕ) → IsOf b s i → calls_at b s.path ≡ s.deeds
unfolding calls_at
calls_of b s i is = ap (λ o. unwrap_or (option_map (trees.log (map tree_entry b.history)) o) []) is.at ∙ is.log

calls_nowhere : (b : BookFacts) (path : List ℕ) → node_at b.state.tree.nodes path ≡ None → calls_at b path ≡ []
unfolding calls_at
calls_nowhere b path none = ap (λ o. unwrap_or (option_map (trees.log (map tree_entry b.history)) o) []) none

pub none_left : PlatformFacts → Left
none_left platform = record { path = []; deeds = []; cell = 0; known = None; platform = platform }

-- two paths that lead to one node are the same
same_path : OnePath → (b : BookFacts) → IsSoundState b.state → (p q : List ℕ) (i : ℕ) → node_at b.state.tree.nodes p ≡ Some i → node_at b.state.tree.nodes q ≡ Some i → p ≡ q
same_path one b good p q i at also =
    let only = one b.state.tree.nodes i good.tree.tree (node_within b.state.tree.nodes good.tree.tree p i at) in
    only.only p at ∙ sym (only.only q also)

pub is_sound : LegalIsSound → (b : BookFacts) → IsBook b → IsSoundState b.state
is_sound sound b is = subst IsSoundState (sym is.replayed) (sound b.platform b.history is.legal)

-- at a path that leads to a node in one book, the other has a node too, with the same calls
like_there : OnePath → LegalIsSound → (b c : BookFacts) (ss ts : List Left) (a x : Audit) → IsBook b → IsAudited b ss a → IsAudited c ts x → AreAmong ss ts
    → (path : List ℕ) (i : ℕ) → node_at b.state.tree.nodes path ≡ Some i → (calls_at b path ≡ calls_at c path) × ((j : ℕ) × (node_at c.state.tree.nodes path ≡ Some j))
like_there one sound b c ss ts a x is audited other among path i at =
    let good : IsSoundState b.state = is_sound sound b is in
    let (k, less, own) = audited.all i (node_within b.state.tree.nodes good.tree.tree path i at) in
    let s : Left = get_or ss k (none_left b.platform) in
    let mine : IsOf b s i = own (none_left b.platform) in
    let (j, below, like) = among k (none_left b.platform) less in
    let t : Left = get_or ts j (none_left b.platform) in
    let alike : IsLike s t = like (none_left b.platform) in
    let (n, yours) = other.each j (none_left b.platform) below in
    let home : s.path ≡ path = same_path one b good s.path path i mine.at at in
    let away : t.path ≡ path = alike.path ∙ home in
    let here : calls_at b path ≡ s.deeds = ap (calls_at b) (sym home) ∙ calls_of b s i mine in
    let there : calls_at c path ≡ t.deeds = ap (calls_at c) (sym away) ∙ calls_of c t n yours in
    (here ∙ sym alike.deeds ∙ sym there, (n, ap (node_at c.state.tree.nodes) (sym away) ∙ yours.at))

-- the same calls are at each path
same_calls : OnePath → LegalIsSound → (b c : BookFacts) (ss ts : List Left) (a x : Audit) → IsBook b → IsBook c → IsAudited b ss a → IsAudited c ts x → HaveSameCalls ss ts
    → SameCalls b.history c.history
same_calls one sound b c ss ts a x is also audited other same path = log_of_book b is path ∙ by (node_at b.state.tree.nodes path) (node_at c.state.tree.nodes path) refl refl ∙ sym (log_of_book c also path) where
  by : (o u : Option ℕ) → node_at b.state.tree.nodes path ≡ o → node_at c.state.tree.nodes path ≡ u → calls_at b path ≡ calls_at c path
  by (Some i) u here there = let (are, _) = like_there one sound b c ss ts a x is audited other same.first path i here in are
  by None (Some j) here there = let (are, _) = like_there one sound c b ts ss x a also other audited same.second path j there in sym are
  by None None here there = calls_nowhere b path here ∙ sym (calls_nowhere c path there)

-- what a stub of the initial domain knows is that domain's verdict
verdict_known : (b : BookFacts) (s : Left) (i : ℕ) (r : RulingFacts) → IsOf b s i → IsInitial b s → s.known ≡ Some (outcomes.Decided r) → verdict_of b.state 0 ≡ Some r.claim.verdict
verdict_known b s i r is initial knows =
    let (j, at, home) = initial in
    let same : j ≡ i = same_Some j i (sym at ∙ is.at) in
    let told : verdict_at b i ≡ Some r.claim.verdict = subst (IsKnown b i) knows is.verdict in
    by (slice_get b.state.tree.nodes i) (subst (λ n. IfSome (slice_get b.state.tree.nodes n) (λ (x : NodeFacts). x.domain ≡ 0)) same home) told where
      by : (o : Option NodeFacts) → IfSome o (λ n. n.domain ≡ 0) → option_and_then (λ (n : NodeFacts). verdict_of b.state n.domain) o ≡ Some r.claim.verdict → verdict_of b.state 0 ≡ Some r.claim.verdict
      by None root e = absurd (cc)
      by (Some n) root e = ap (verdict_of b.state) (sym root) ∙ e

pub audits_agree : Confluence → LegalIsSound → OnePath → AuditsAgree
audits_agree confluence sound one b c ss ts a x is also platform audited other same calm calm' =
    let legal : IsLegal b.platform c.history = subst (λ p. IsLegal p c.history) (sym platform) also.legal in
    let calls : SameCalls b.history c.history = same_calls one sound b c ss ts a x is also audited other same in
    let confluent : AreConfluent b.history c.history = confluence b.platform b.history c.history is.legal legal calls calm calm' in
    let ready : SameReady b.state.tree c.state.tree =
    subst (λ (s : State). SameReady s.tree c.state.tree) (sym is.replayed) (subst (λ (s : State). SameReady (replay b.history).tree s.tree) (sym also.replayed) confluent.ready) in
    let answer : (v w : Verdict) → verdict_of b.state 0 ≡ Some v → verdict_of c.state 0 ≡ Some w → IsDecision v → IsDecision w → IsSameAnswer v w =
    (λ v w his hers decided decided'.
    let d = gave (replay b.history) 0 v (subst (λ (s : State). verdict_of s 0 ≡ Some v) is.replayed his) decided in
    let e = gave (replay c.history) 0 w (subst (λ (s : State). verdict_of s 0 ≡ Some w) also.replayed hers) decided' in
    confluent.answer d.decision e.decision v w d.entered e.entered d.verdict e.verdict) in
    record {
      ready = ready;
      answer = answer;
      known = λ k j d e r q less below home away knows knows' decided decided'.
          let (i, own) = audited.each k d less in
          let (n, theirs) = other.each j e below in
          answer r.claim.verdict q.claim.verdict (verdict_known b (get_or ss k d) i r own home knows) (verdict_known c (get_or ts j e) n q theirs away knows') decided decided';
    }
