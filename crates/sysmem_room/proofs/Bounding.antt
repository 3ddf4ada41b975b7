-- A history goes on keeping to limits with what a handle's action and a decision enter.
use Rattle.std.proofs.Common.{◌≡◌, ◌<◌, false, Option, length, sym, subst}
use Rattle.sysmem_alloc.specs.Book.{BookFacts}
use Rattle.sysmem_alloc.specs.Entry.{Acted, Decided}
use Rattle.sysmem_alloc.specs.Laws.{LegalIsSound}
use Rattle.sysmem_alloc.specs.State.{State, first_state}
use Rattle.sysmem_tree.specs.ActionKind.{Deed, kind_of}
use Rattle.sysmem_tree.specs.Laws.{OnePath}
use Rattle.sysmem_tree.specs.Nodes.{IsTree}
use Rattle.sysmem_tree.specs.Path.{path_of}
use Rattle.sysmem_tree.proofs.CallerLemmas.{node_within}
use Rattle.node_limits.specs.Laws.{KeepTo, KeepsTo}
use Rattle.node_limits.specs.Limits.{is_spent}
use Rattle.node_limits.proofs.CallerLemmas.{keep_on}
use Rattle.sysmem_room.specs.declared.outcome.Outcome.{Outcome}
use Rattle.sysmem_room.specs.Entering.{HasEntered}
use Rattle.sysmem_room.specs.Laws.{LimitGoesOn}
use Rattle.sysmem_room.specs.Log.{LogFacts}

pub limit_goes_on : OnePath → LegalIsSound → LimitGoesOn
limit_goes_on one sound limits b is keep = record {
  acted = λ new log known deed has free. by_handle new log known deed has free;
  decided = λ c. keep_on limits first_state b.history (Decided c) keep tt;
} where
  tree : IsTree b.state.tree.nodes
  tree = subst (λ (s : State). IsTree s.tree.nodes) (sym is.replayed) (sound b.platform b.history is.legal).tree.tree

  by_handle : (new : BookFacts) (log : LogFacts) (known : Option Outcome) (deed : Deed) → HasEntered b new log known deed → is_spent limits b.state.tree.nodes log.path (kind_of deed) ≡ false
      → KeepTo limits first_state new.history
  by_handle new log known deed has free =
      let (i, own, entered_is) = has in
      let there : i < length b.state.tree.nodes = node_within b.state.tree.nodes tree log.path i own.agrees.at in
      let path : log.path ≡ path_of b.state.tree.nodes i = (one b.state.tree.nodes i tree there).only log.path own.agrees.at in
      let keeps : KeepsTo limits b.state.tree.nodes (Acted i deed) = subst (λ p. is_spent limits b.state.tree.nodes p (kind_of deed) ≡ false) path free in
      subst (λ (n : BookFacts). KeepTo limits first_state n.history) (sym entered_is)
      (keep_on limits first_state b.history (Acted i deed) keep (subst (λ (s : State). KeepsTo limits s.tree.nodes (Acted i deed)) is.replayed keeps))
