-- Where actions keep to limits, no child of the root has more nodes below it than they allow.
use Rattle.std.proofs.Common.{◌≡◌, ◌<◌, ◌≤◌, ◌+◌, ◌==◌, ℕ, suc, Bool, true, false, ◌&&◌, List, [], ◌∷◌, ◌++◌, Option, None, Some, Result, Ok, Err, length, nat_le, refl, sym, ◌∙◌, ap, subst, arith, rules, tests, append-nil}
use Rattle.std.specs.Prelude.{IfSome, IsOk, is_some, option_map, unwrap_or, if◌then◌else◌}
use Rattle.std.proofs.lemmas.List.{append_assoc}
use Rattle.std.proofs.lemmas.Option.{slice_get_within}
use Rattle.negotiation_inputs.specs.Platform.{PlatformFacts}
use Rattle.sysmem_alloc.specs.Decision.{answer_of, choices_of}
use Rattle.sysmem_alloc.specs.Entry.{BookEntry, Acted, Decided}
use Rattle.sysmem_alloc.specs.History.{Allows, AreAllowed, IsLegal, after_answer, after_entry, replay, replay_from}
use Rattle.sysmem_alloc.specs.Laws.{LegalIsSound, NumbersStay}
use Rattle.sysmem_alloc.specs.State.{State, first_state}
use Rattle.sysmem_tree.specs.declared.action.ActionKind.{ActionKind}
use Rattle.sysmem_tree.specs.declared.refusal.Refusal.{Refusal}
use Rattle.sysmem_tree.specs.declared.state.NodeState.{NodeState}
use Rattle.sysmem_tree.specs.ActionKind.{Deed, kind_of}
use Rattle.sysmem_tree.specs.Domain.{TreeFacts}
use Rattle.sysmem_tree.specs.Laws.{AreStill, OnePath}
use Rattle.sysmem_tree.specs.Node.{NodeFacts}
use Rattle.sysmem_tree.specs.Nodes.{IsTree}
use Rattle.sysmem_tree.specs.Path.{path_of}
use Rattle.sysmem_tree.specs.Table.{makes}
use Rattle.sysmem_tree.specs.Tree.{Applied, applied}
use Rattle.sysmem_tree.proofs.CallerLemmas.{accepted}
use Rattle.node_limits.specs.declared.limits.Limits.{Limits}
use Rattle.node_limits.specs.Laws.{IsBounded, KeepTo, KeepsTo, LimitIsKept}
use Rattle.node_limits.specs.Limits.{is_full, is_spent, offspring}
use Rattle.node_limits.proofs.Growing.{decided_many, grows, made_by}
use Rattle.node_limits.proofs.Below.{goes_on, grown_offspring, made_path, still_offspring}

-- where nothing was made, the bound stays
pub still_bounded : (limits : Limits) (old new : List NodeFacts) → AreStill old new → length new ≡ length old → IsBounded limits old → IsBounded limits new
still_bounded limits old new still many few = λ top. by top limits.offspring (few top) where
  by : (top : ℕ) (o : Option ℕ) → IfSome o (λ most. offspring old top ≤ most) → IfSome o (λ most. offspring new top ≤ most)
  by top None few = tt
  by top (Some most) few = let same : offspring new top ≡ offspring old top = still_offspring old new top still many in omega (arith, same, few)

-- with one more node, where the limits weren't spent
one_more_bounded : (limits : Limits) (old new : List NodeFacts) (path : List ℕ) (act : ActionKind) (o : ℕ) → AreStill old new → length new ≡ suc (length old)
    → path_of new (length old) ≡ path ++ o ∷ [] → is_some (makes act) ≡ true → is_spent limits old path act ≡ false → IsBounded limits old → IsBounded limits new
one_more_bounded limits old new [] act o still many at made free few = λ top. by top limits.offspring (few top) where
  by : (top : ℕ) (l : Option ℕ) → IfSome l (λ most. offspring old top ≤ most) → IfSome l (λ most. offspring new top ≤ most)
  by top None few = tt
  by top (Some most) few =
      let grown : offspring new top ≡ offspring old top + 0 = grown_offspring old new top (o ∷ []) still many at in
      omega (arith, grown, few)
one_more_bounded limits old new (first ∷ rest) act o still many at made free few = λ top. by top limits.offspring refl (few top) (first == top) refl where
  not_full : is_full limits old first ≡ false
  not_full = sym (ap (λ b. b && is_full limits old first) made) ∙ free

  grown : (top : ℕ) (b : Bool) → (first == top) ≡ b → offspring new top ≡ offspring old top + (if b then 1 else 0)
  grown top b is = grown_offspring old new top ((first ∷ rest) ++ o ∷ []) still many at ∙ ap (λ x. offspring old top + (if x then 1 else 0)) (goes_on top first o rest ∙ is)

  by : (top : ℕ) (l : Option ℕ) → limits.offspring ≡ l → IfSome l (λ most. offspring old top ≤ most) → (b : Bool) → (first == top) ≡ b → IfSome l (λ most. offspring new top ≤ most)
  by top None limit few b is = tt
  by top (Some most) limit few false is =
      let more : offspring new top ≡ offspring old top + 0 = grown top false is in
      omega (arith, more, few)
  by top (Some most) limit few true is =
      let same : first ≡ top = search (rules, tests, is) in
      let free : nat_le most (offspring old first) ≡ false = sym (ap (λ l. unwrap_or (option_map (λ m. nat_le m (offspring old first)) l) false) limit) ∙ not_full in
      let less : offspring old first < most = search (rules, tests, free) in
      let more : offspring new top ≡ offspring old top + 1 = grown top true is in
      let place : offspring old first ≡ offspring old top = ap (offspring old) same in
      omega (arith, more, less, place)

-- after an accepted action for which the limits weren't spent
pub acted_bounded : OnePath → (limits : Limits) (t : TreeFacts) (i : ℕ) (deed : Deed) (after : Applied) → IsTree t.nodes → IsTree after.tree.nodes → AreStill t.nodes after.tree.nodes
    → applied t i deed ≡ Ok after → is_spent limits t.nodes (path_of t.nodes i) (kind_of deed) ≡ false → IsBounded limits t.nodes → IsBounded limits after.tree.nodes
acted_bounded one limits t i deed after tree grown still is free few = by (makes (kind_of deed)) refl where
  more : length after.tree.nodes ≡ length t.nodes + made_by (kind_of deed)
  more = grows t i deed after is

  there : i < length t.nodes
  there = let (n, a) = accepted t i deed after is in slice_get_within t.nodes i n a.there

  by : (m : Option NodeState) → makes (kind_of deed) ≡ m → IsBounded limits after.tree.nodes
  by None none =
      let no : made_by (kind_of deed) ≡ 0 = ap (λ (m : Option NodeState). if is_some m then 1 else 0) none in
      still_bounded limits t.nodes after.tree.nodes still (omega (arith, more, no)) few
  by (Some s) made =
      let one_made : made_by (kind_of deed) ≡ 1 = ap (λ (m : Option NodeState). if is_some m then 1 else 0) made in
      let many : length after.tree.nodes ≡ suc (length t.nodes) = omega (arith, more, one_made) in
      let (o, at) = made_path one t i deed after (path_of t.nodes i) s tree grown still (one t.nodes i tree there).leads is made many in
      one_more_bounded limits t.nodes after.tree.nodes (path_of t.nodes i) (kind_of deed) o still many at (ap is_some made) free few

-- after an entry that keeps to them
entry_bounded : OnePath → (limits : Limits) (platform : PlatformFacts) (s : State) (e : BookEntry) → IsTree s.tree.nodes → IsTree (after_entry s e).tree.nodes
    → AreStill s.tree.nodes (after_entry s e).tree.nodes → Allows platform s e → KeepsTo limits s.tree.nodes e → IsBounded limits s.tree.nodes → IsBounded limits (after_entry s e).tree.nodes
entry_bounded one limits platform s (Acted i deed) tree grown still ok keeps few = by (applied s.tree i deed) refl ok grown still where
  by : (o : Result Applied Refusal) → applied s.tree i deed ≡ o → IsOk o → IsTree (after_answer s o).tree.nodes → AreStill s.tree.nodes (after_answer s o).tree.nodes
      → IsBounded limits (after_answer s o).tree.nodes
  by (Ok made) is ok grown still = acted_bounded one limits s.tree i deed made tree grown still is keeps few
  by (Err refusal) is ok grown still = few
entry_bounded one limits platform s (Decided c) tree grown still ok keeps few =
    still_bounded limits s.tree.nodes (after_entry s (Decided c)).tree.nodes still (decided_many s.tree c.domain (choices_of (answer_of c).verdict)) few

-- histories, entry by entry
replay_on : (s : State) (es : List BookEntry) (e : BookEntry) → replay_from s (es ++ e ∷ []) ≡ after_entry (replay_from s es) e
replay_on s [] e = refl
replay_on s (x ∷ es) e = replay_on (after_entry s x) es e

allowed_front : (platform : PlatformFacts) (s : State) (es fs : List BookEntry) → AreAllowed platform s (es ++ fs) → AreAllowed platform s es
allowed_front platform s [] fs all = tt
allowed_front platform s (e ∷ es) fs all = (all.0, allowed_front platform (after_entry s e) es fs all.1)

allowed_back : (platform : PlatformFacts) (s : State) (es fs : List BookEntry) → AreAllowed platform s (es ++ fs) → AreAllowed platform (replay_from s es) fs
allowed_back platform s [] fs all = all
allowed_back platform s (e ∷ es) fs all = allowed_back platform (after_entry s e) es fs all.1

pub keep_on : (limits : Limits) (s : State) (es : List BookEntry) (e : BookEntry) → KeepTo limits s es → KeepsTo limits (replay_from s es).tree.nodes e → KeepTo limits s (es ++ e ∷ [])
keep_on limits s [] e all keeps = (keeps, tt)
keep_on limits s (x ∷ es) e all keeps = (all.0, keep_on limits (after_entry s x) es e all.1 keeps)

module _ (one : OnePath) (sound : LegalIsSound) (stay : NumbersStay) where
  bounded_on : (limits : Limits) (platform : PlatformFacts) (es fs : List BookEntry) → IsLegal platform (es ++ fs) → KeepTo limits (replay es) fs → IsBounded limits (replay es).tree.nodes
      → IsBounded limits (replay (es ++ fs)).tree.nodes
  bounded_on limits platform es [] legal keep few = subst (λ xs. IsBounded limits (replay xs).tree.nodes) (sym (append-nil es)) few
  bounded_on limits platform es (f ∷ fs) legal keep few =
      let shift : es ++ f ∷ fs ≡ (es ++ f ∷ []) ++ fs = sym (append_assoc es (f ∷ []) fs) in
      let whole : IsLegal platform ((es ++ f ∷ []) ++ fs) = subst (IsLegal platform) shift legal in
      let longer : IsLegal platform (es ++ f ∷ []) = allowed_front platform first_state (es ++ f ∷ []) fs whole in
      let shorter : IsLegal platform es = allowed_front platform first_state es (f ∷ fs) legal in
      let pushed : replay (es ++ f ∷ []) ≡ after_entry (replay es) f = replay_on first_state es f in
      let grown : IsTree (after_entry (replay es) f).tree.nodes = subst (λ (s : State). IsTree s.tree.nodes) pushed (sound platform (es ++ f ∷ []) longer).tree.tree in
      let still : AreStill (replay es).tree.nodes (after_entry (replay es) f).tree.nodes =
      subst (λ (s : State). AreStill (replay es).tree.nodes s.tree.nodes) pushed (stay platform es (f ∷ []) longer) in
      let ok : Allows platform (replay es) f = (allowed_back platform first_state es (f ∷ fs) legal).0 in
      let now : IsBounded limits (after_entry (replay es) f).tree.nodes =
      entry_bounded one limits platform (replay es) f (sound platform es shorter).tree.tree grown still ok keep.0 few in
      subst (λ xs. IsBounded limits (replay xs).tree.nodes) (sym shift)
      (bounded_on limits platform (es ++ f ∷ []) fs whole (subst (λ s. KeepTo limits s fs) (sym pushed) keep.1) (subst (λ (s : State). IsBounded limits s.tree.nodes) (sym pushed) now))

  pub limit_is_kept : LimitIsKept
  limit_is_kept limits b is keep =
      subst (λ (s : State). IsBounded limits s.tree.nodes) (sym is.replayed) (bounded_on limits b.platform [] b.history is.legal keep (λ top. by limits.offspring)) where
        by : (l : Option ℕ) → IfSome l (λ most. 0 ≤ most)
        by None = tt
        by (Some most) = omega arith
