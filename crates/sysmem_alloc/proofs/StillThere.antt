-- What is there stays there.
use Rattle.std.proofs.Common.{◌≡◌, ℕ, List, [], ◌∷◌, ◌++◌, refl, sym, ◌∙◌, subst, arith}
use Rattle.negotiation_inputs.specs.Platform.{PlatformFacts}
use Rattle.sysmem_tree.specs.Domain.{TreeFacts}
use Rattle.sysmem_tree.specs.Laws.{AreStill, OneForest}
use Rattle.sysmem_tree.specs.Laws as trees
use Rattle.sysmem_tree.specs.Node.{NodeFacts}
use Rattle.sysmem_alloc.specs.Book.{BookFacts, IsBook}
use Rattle.sysmem_alloc.specs.Entry.{BookEntry, tree_entry}
use Rattle.sysmem_alloc.specs.History.{Allows, IsLegal, IsStep, after_entry, replay}
use Rattle.sysmem_alloc.specs.Laws.{LegalIsSound, NumbersStay}
use Rattle.sysmem_alloc.specs.Sound.{IsSoundState}
use Rattle.sysmem_alloc.specs.State.{State, first_state}
use Rattle.sysmem_alloc.proofs.Entering.{replay_push, state_sound}
use Rattle.sysmem_alloc.proofs.Lists.{all_each}
use Rattle.sysmem_alloc.proofs.Onward.{all_keep}
use Rattle.sysmem_alloc.proofs.Stepping.{accepts, tree_of_entry}

pub still_now : (nodes : List NodeFacts) → AreStill nodes nodes
still_now nodes = record { grows = omega arith; path = λ i there. refl; birth = λ i there. refl; domain = λ i there. refl; root = λ r has. has }

still_on : (old mid new : List NodeFacts) → AreStill old mid → AreStill mid new → AreStill old new
still_on old mid new a b = record {
  grows = omega (arith, a.grows, b.grows);
  path = λ i there. b.path i (omega (arith, there, a.grows)) ∙ a.path i there;
  birth = λ i there. b.birth i (omega (arith, there, a.grows)) ∙ a.birth i there;
  domain = λ i there. b.domain i (omega (arith, there, a.grows)) ∙ a.domain i there;
  root = λ r has. b.root r (a.root r has);
}

-- one entry
still_after : OneForest → trees.NumbersStay → (platform : PlatformFacts) (s : State) (e : BookEntry) → IsSoundState s → Allows platform s e → AreStill s.tree.nodes (after_entry s e).tree.nodes
still_after one law platform s e sound ok =
    subst (λ (t : TreeFacts). AreStill s.tree.nodes t.nodes) (sym (tree_of_entry s e)) (law s.tree (tree_entry e) sound.tree.tree (accepts one platform s e sound ok))

-- a step of a book
pub still_by_step : LegalIsSound → OneForest → trees.NumbersStay → (b : BookFacts) (e : BookEntry) (u : State) → IsBook b → IsStep b.platform b.state e u → AreStill b.state.tree.nodes u.tree.nodes
still_by_step sound one law b e u is step =
    subst (λ (s : State). AreStill b.state.tree.nodes s.tree.nodes) (sym step.leads) (still_after one law b.platform b.state e (state_sound sound b is) step.allowed)

pub numbers_stay : LegalIsSound → OneForest → trees.NumbersStay → NumbersStay
numbers_stay sound one law platform es fs legal =
    all_keep platform (λ _. Unit {0}) (λ gs. AreStill (replay es).tree.nodes (replay gs).tree.nodes) step es fs legal (all_each (λ _. Unit {0}) fs (λ _. tt)) (still_now (replay es).tree.nodes) where
      step : (gs : List BookEntry) (e : BookEntry) → IsLegal platform gs → Allows platform (replay gs) e → Unit {0} → AreStill (replay es).tree.nodes (replay gs).tree.nodes
          → AreStill (replay es).tree.nodes (replay (gs ++ e ∷ [])).tree.nodes
      step gs e before ok any now = subst (λ (s : State). AreStill (replay es).tree.nodes s.tree.nodes) (sym (replay_push first_state gs e))
          (still_on (replay es).tree.nodes (replay gs).tree.nodes (after_entry (replay gs) e).tree.nodes now (still_after one law platform (replay gs) e (sound platform gs before) ok))
