-- What a history makes.
use Rattle.std.proofs.Common.{◌≡◌, ◌≢◌, ℕ, zero, suc, ◌≤◌, ◌==◌, true, false, List, [], ◌∷◌, ◌++◌, length, Option, Some, None, slice_get, refl, sym, ◌∙◌, ap, subst, arith, rules, tests, inl, inr, append-nil, append_assoc}
use Rattle.std.specs.Prelude.{Result, Ok, Err, IsOk, option_map, filter_map, unwrap_or}
use Rattle.std.proofs.lemmas.Bool.{cases_lt}
use Rattle.std.proofs.lemmas.List.Elements.{filter_map-append}
use Rattle.std.proofs.lemmas.Option.{slice_get_within, same_Some, none-some}
use Rattle.list_lemmas.proofs.CallerLemmas.{slice_get_some}
use Rattle.sysmem_tree.specs.declared.node.Birth.{Birth}
use Rattle.sysmem_tree.specs.ActionKind.{Deed, kind_of}
use Rattle.sysmem_tree.specs.Domain.{TreeFacts}
use Rattle.sysmem_tree.specs.History.{HistoryEntry, Acted, Decided, Accepts, after_entry, after_answer, AreAccepted, replay_from, replay, deed_on, log, log_in}
use Rattle.sysmem_tree.specs.Node.{NodeFacts}
use Rattle.sysmem_tree.specs.Nodes.{ordinals, count_from, IsPlaced, IsTree}
use Rattle.sysmem_tree.specs.Path.{node_at, Shown, at_path}
use Rattle.sysmem_tree.specs.Step.{made_by, shown_after_all, shown_first}
use Rattle.sysmem_tree.specs.Table.{allows, wants_child, makes}
use Rattle.sysmem_tree.specs.Tree.{first_tree, Applied, applied, nodes_after, decided, has_room}
use Rattle.sysmem_tree.proofs.steps.Accepted.{accepted}
use Rattle.sysmem_tree.proofs.nodes.Alike.{Alike, decided_alike, alike_tree, alike_node, alike_map}
use Rattle.sysmem_tree.proofs.steps.Growing.{long_by, still_tree}
use Rattle.sysmem_tree.proofs.histories.Logs.{IsKept, kept_then}
use Rattle.sysmem_tree.proofs.steps.Steps.{has_path, node_within, still, step}
use Rattle.sysmem_tree.proofs.nodes.Ways.{one_path}

-- a tree with what its history says of it
pub record Made (es : List HistoryEntry) (nodes : List NodeFacts) : Type 0 where
  pub tree : IsTree nodes
  pub kept : IsKept (log_in nodes es) (at_path nodes)
  pub yet : (k : ℕ) → length nodes ≤ k → log es k ≡ []

-- the first tree
pub first_nodes_tree : IsTree first_tree.nodes
first_nodes_tree = record {
  few = omega arith;
  root = (refl, refl);
  child = λ k n read. absurd (cc);
  numbered = numbered;
  placed = placed;
} where
  numbered : (i : ℕ) (n : NodeFacts) → slice_get first_tree.nodes i ≡ Some n → ordinals i first_tree.nodes ≡ count_from 0 n.state.children
  numbered zero n read = ap (λ (x : NodeFacts). count_from 0 x.state.children) (same_Some _ n read)
  numbered (suc i) n read = absurd (cc)

  placed : (k : ℕ) (n parent : NodeFacts) (b : Birth) → slice_get first_tree.nodes k ≡ Some n → n.birth ≡ Some b → slice_get first_tree.nodes b.parent ≡ Some parent → IsPlaced k n parent
  placed zero n parent b read is up = absurd (none-some b (ap (λ (x : NodeFacts). x.birth) (same_Some _ n read) ∙ is))
  placed (suc k) n parent b read is up = absurd (cc)

first_kid : (p : List ℕ) (k : ℕ) → at_path first_tree.nodes (p ++ k ∷ []) ≡ option_map (λ z. shown_after_all z (log_in first_tree.nodes [] (p ++ k ∷ []))) (slice_get (filter_map made_by (log_in first_tree.nodes [] p)) k)
first_kid [] k = refl
first_kid (a ∷ p) k = refl

first_counted : (q : List ℕ) (z : Shown) → at_path first_tree.nodes q ≡ Some z → z.state.children ≡ length (filter_map made_by (log_in first_tree.nodes [] q))
first_counted [] z e = sym (ap (λ (x : Shown). x.state.children) (same_Some _ z e))
first_counted (a ∷ q) z e = absurd (cc)

first_nowhere : (q : List ℕ) → at_path first_tree.nodes q ≡ None → log_in first_tree.nodes [] q ≡ []
first_nowhere [] e = refl
first_nowhere (a ∷ q) e = refl

first_made : Made [] first_tree.nodes
first_made = record {
  tree = first_nodes_tree;
  kept = record { map = record { root = refl; kid = first_kid }; counted = first_counted; nowhere = first_nowhere };
  yet = λ k past. refl;
}

-- logs by paths
log_there : (es : List HistoryEntry) (nodes : List NodeFacts) (q : List ℕ) (k : ℕ) → node_at nodes q ≡ Some k → log_in nodes es q ≡ log es k
log_there es nodes q k is = ap (λ o. unwrap_or (option_map (log es) o) []) is

log_nowhere : (es : List HistoryEntry) (nodes : List NodeFacts) (q : List ℕ) → node_at nodes q ≡ None → log_in nodes es q ≡ []
log_nowhere es nodes q is = ap (λ o. unwrap_or (option_map (log es) o) []) is

-- a log goes on with what the last entry asks
abbrev one_asked : Option Deed → List Deed
one_asked None = []
one_asked (Some deed) = deed ∷ []

asked_alone : (k : ℕ) (e : HistoryEntry) (o : Option Deed) → deed_on k e ≡ o → log (e ∷ []) k ≡ one_asked o
asked_alone k e None is = rw is refl
asked_alone k e (Some deed) is = rw is refl

log_push : (es : List HistoryEntry) (e : HistoryEntry) (k : ℕ) (o : Option Deed) → deed_on k e ≡ o → log (es ++ e ∷ []) k ≡ log es k ++ one_asked o
log_push es e k o is = filter_map-append (deed_on k) es (e ∷ []) ∙ ap (λ l. log es k ++ l) (asked_alone k e o is)

asked_here : (i : ℕ) (deed : Deed) → deed_on i (Acted i deed) ≡ Some deed
asked_here i deed = let t : (i == i) ≡ true = search (rules, tests) in rw t refl

asked_elsewhere : (i k : ℕ) (deed : Deed) → i ≢ k → deed_on k (Acted i deed) ≡ None
asked_elsewhere i k deed other = let t : (i == k) ≡ false = search (rules, tests, other) in rw t refl

log_elsewhere : (es : List HistoryEntry) (i k : ℕ) (deed : Deed) → i ≢ k → log (es ++ Acted i deed ∷ []) k ≡ log es k
log_elsewhere es i k deed other = log_push es (Acted i deed) k None (asked_elsewhere i k deed other) ∙ append-nil (log es k)

log_decided : (es : List HistoryEntry) (r k : ℕ) (choices : Option (List ℕ)) → log (es ++ Decided r choices ∷ []) k ≡ log es k
log_decided es r k choices = log_push es (Decided r choices) k None refl ∙ append-nil (log es k)

-- after an accepted action
module _ (es : List HistoryEntry) (nodes : List NodeFacts) (i : ℕ) (n : NodeFacts) (deed : Deed) (here : slice_get nodes i ≡ Some n) (allowed : allows (kind_of deed) n.state ≡ true) (content : wants_child (kind_of deed) n.state ≡ false)
    (room : has_room nodes (kind_of deed) ≡ true) (made : Made es nodes) where
  new_tree : IsTree (nodes_after nodes i n deed)
  new_tree = still_tree nodes i n deed here made.tree allowed room

  yet_then : (k : ℕ) → length (nodes_after nodes i n deed) ≤ k → log (es ++ Acted i deed ∷ []) k ≡ []
  yet_then k past =
      let within = slice_get_within nodes i n here in
      let long = long_by nodes i n deed here (makes (kind_of deed)) in
      log_elsewhere es i k deed (λ same. omega (arith, same, within, long, past)) ∙ made.yet k (omega (arith, long, past))

  module _ (path : List ℕ) (leads : node_at nodes path ≡ Some i) where
    more : log_in (nodes_after nodes i n deed) (es ++ Acted i deed ∷ []) path ≡ log_in nodes es path ++ deed ∷ []
    more = log_there (es ++ Acted i deed ∷ []) (nodes_after nodes i n deed) path i (still nodes i n deed here made.tree new_tree path leads path i leads)
        ∙ (log_push es (Acted i deed) i (Some deed) (asked_here i deed) ∙ ap (λ l. l ++ deed ∷ []) (sym (log_there es nodes path i leads)))

    rest_by : (q : List ℕ) → q ≢ path → (o : Option ℕ) → node_at nodes q ≡ o → (u : Option ℕ) → node_at (nodes_after nodes i n deed) q ≡ u
        → log_in (nodes_after nodes i n deed) (es ++ Acted i deed ∷ []) q ≡ log_in nodes es q
    rest_by q away (Some k) is u e =
        let apart : i ≢ k = λ same. away (one_path nodes q path i made.tree (is ∙ ap (λ j. Some j) (sym same)) leads) in
        log_there (es ++ Acted i deed ∷ []) (nodes_after nodes i n deed) q k (still nodes i n deed here made.tree new_tree path leads q k is)
        ∙ (log_elsewhere es i k deed apart ∙ sym (log_there es nodes q k is))
    rest_by q away None is None e = log_nowhere (es ++ Acted i deed ∷ []) (nodes_after nodes i n deed) q e ∙ sym (log_nowhere es nodes q is)
    rest_by q away None is (Some k) e =
        let (a, at) = slice_get_some (nodes_after nodes i n deed) k (node_within (nodes_after nodes i n deed) new_tree q k e) in
        let past : length nodes ≤ k = elim (cases_lt k (length nodes)) [
          | inl old ↦ absurd (
              let (p, to) = has_path nodes made.tree k old in
              let same : q ≡ p = one_path (nodes_after nodes i n deed) q p k new_tree e (still nodes i n deed here made.tree new_tree path leads p k to) in
              none-some k (sym is ∙ (ap (node_at nodes) same ∙ to)))
          | inr beyond ↦ beyond
        ] in
        let within = slice_get_within nodes i n here in
        log_there (es ++ Acted i deed ∷ []) (nodes_after nodes i n deed) q k e
        ∙ (log_elsewhere es i k deed (λ same. omega (arith, same, within, past)) ∙ (made.yet k past ∙ sym (log_nowhere es nodes q is)))

    acted_made_at : Made (es ++ Acted i deed ∷ []) (nodes_after nodes i n deed)
    acted_made_at = record {
      tree = new_tree;
      kept = kept_then (log_in nodes es) (log_in (nodes_after nodes i n deed) (es ++ Acted i deed ∷ [])) (at_path nodes) (at_path (nodes_after nodes i n deed)) path deed made.kept
          (step nodes i n deed here made.tree new_tree path leads allowed content) more (λ q away. rest_by q away _ refl _ refl);
      yet = yet_then;
    }

  acted_made : Made (es ++ Acted i deed ∷ []) (nodes_after nodes i n deed)
  acted_made = let (path, leads) = has_path nodes made.tree i (slice_get_within nodes i n here) in acted_made_at path leads

-- after a decision
module _ (es : List HistoryEntry) (xs ys : List NodeFacts) (r : ℕ) (members : Option (List ℕ)) (alike : Alike xs ys) (made : Made es xs) where
  same_log : (q : List ℕ) → log_in ys (es ++ Decided r members ∷ []) q ≡ log_in xs es q
  same_log q = ap (λ o. unwrap_or (option_map (log (es ++ Decided r members ∷ [])) o) []) (alike_node xs ys alike made.tree q) ∙ by (node_at xs q) where
    by : (o : Option ℕ) → unwrap_or (option_map (log (es ++ Decided r members ∷ [])) o) [] ≡ unwrap_or (option_map (log es) o) []
    by None = refl
    by (Some k) = log_decided es r k members

  same_kept : IsKept (log_in ys (es ++ Decided r members ∷ [])) (at_path ys)
  same_kept = record {
    map = record {
      root = alike_map xs ys alike made.tree [] ∙ (made.kept.map.root ∙ ap (λ l. Some (shown_after_all shown_first l)) (sym (same_log [])));
      kid = λ p k. alike_map xs ys alike made.tree (p ++ k ∷ []) ∙ (made.kept.map.kid p k
          ∙ (ap (λ l. option_map (λ z. shown_after_all z l) (slice_get (filter_map made_by (log_in xs es p)) k)) (sym (same_log (p ++ k ∷ [])))
          ∙ ap (λ l. option_map (λ z. shown_after_all z (log_in ys (es ++ Decided r members ∷ []) (p ++ k ∷ []))) (slice_get (filter_map made_by l) k)) (sym (same_log p))));
    };
    counted = λ q z e. made.kept.counted q z (sym (alike_map xs ys alike made.tree q) ∙ e) ∙ ap (λ l. length (filter_map made_by l)) (sym (same_log q));
    nowhere = λ q e. same_log q ∙ made.kept.nowhere q (sym (alike_map xs ys alike made.tree q) ∙ e);
  }

  decided_made : Made (es ++ Decided r members ∷ []) ys
  decided_made = record {
    tree = alike_tree xs ys alike made.tree;
    kept = same_kept;
    yet = λ k past. log_decided es r k members ∙ made.yet k (omega (arith, past, alike.long));
  }

-- what an entry makes of a tree that accepts it
pub acted_tree : (t : TreeFacts) (i : ℕ) (deed : Deed) (after : Applied) → applied t i deed ≡ Ok after → after_entry t (Acted i deed) ≡ after.tree
acted_tree t i deed after is = ap (after_answer t) is

pub ok_from : {X E : Type 0} (o : Result X E) → IsOk o → (x : X) × (o ≡ Ok x)
ok_from (Ok x) h = (x, refl)
ok_from (Err e) h = absurd (cc)

made_next : (es : List HistoryEntry) (t : TreeFacts) (e : HistoryEntry) → Made es t.nodes → Accepts t e → Made (es ++ e ∷ []) (after_entry t e).nodes
made_next es t (Acted i deed) m a =
    let (after, is) = ok_from (applied t i deed) a in
    let (n, ok) = accepted t i deed after is in
    subst (λ (x : TreeFacts). Made (es ++ Acted i deed ∷ []) x.nodes) (ok.tree ∙ sym (acted_tree t i deed after is)) (acted_made es t.nodes i n deed ok.there ok.allowed ok.content ok.room m)
made_next es t (Decided r choices) m a = decided_made es t.nodes (decided t r choices).nodes r choices (decided_alike t r choices) m

made_from : (done es : List HistoryEntry) (t : TreeFacts) → Made done t.nodes → AreAccepted t es → Made (done ++ es) (replay_from t es).nodes
made_from done [] t m a = subst (λ xs. Made xs t.nodes) (sym (append-nil done)) m
made_from done (e ∷ es) t m a =
    subst (λ xs. Made xs (replay_from (after_entry t e) es).nodes) (append_assoc done (e ∷ []) es) (made_from (done ++ e ∷ []) es (after_entry t e) (made_next done t e m a.0) a.1)

-- the whole
pub made : (es : List HistoryEntry) → AreAccepted first_tree es → Made es (replay es).nodes
made es a = made_from [] es first_tree first_made a
