-- An action as a change of the map from paths to nodes, and the map that lists of actions make.
use Rattle.std.specs.Prelude.{◌≡◌, ◌≢◌, ◌++◌, ℕ, true, false, List, [], ◌∷◌, Option, Some, None}
use Rattle.std.specs.Prelude.{IsSome, option_map, filter_map, slice_get}
use Rattle.sysmem_tree.specs.declared.state.NodeKind.TheVariants.{Token}
use Rattle.sysmem_tree.specs.declared.state.NodeState.{NodeState}
use Rattle.sysmem_tree.specs.ActionKind.{Deed, kind_of}
use Rattle.sysmem_tree.specs.Node.{fresh}
use Rattle.sysmem_tree.specs.Path.{Shown}
use Rattle.sysmem_tree.specs.Table.{allows, wants_child, state_after}
use Rattle.sysmem_tree.specs.Table.{constraints_after, makes, makes_root}

-- what is shown at each path, where there is a node
abbrev pub Map : Type 0
Map = List ℕ → Option Shown

-- the path's node after an action
abbrev pub shown_after : Deed → Shown → Shown
shown_after deed s = record s {
  state = state_after (kind_of deed) s.state;
  constraints = constraints_after deed s.constraints;
}

-- the node that an action makes in this state, as it is first shown
abbrev pub shown_new : Deed → NodeState → Shown
shown_new deed s =
    record { state = s; constraints = None; is_domain_root = makes_root (kind_of deed) }

-- the node at its path allows an action, which changes what is there, puts what it makes behind the
-- children so far, and leaves what is at each other path
pub record IsStep (old new : Map) (path : List ℕ) (deed : Deed) : Type 0 where
  pub was : Shown
  pub there : old path ≡ Some was
  pub allowed : allows (kind_of deed) was.state ≡ true
  pub content : wants_child (kind_of deed) was.state ≡ false
  pub own : new path ≡ Some (shown_after deed was)
  pub free : old (path ++ was.state.children ∷ []) ≡ None
  pub kid : (s : NodeState) → makes (kind_of deed) ≡ Some s
      → new (path ++ was.state.children ∷ []) ≡ Some (shown_new deed s)
  pub others : (q : List ℕ) → q ≢ path
      → (IsSome (makes (kind_of deed)) → q ≢ path ++ was.state.children ∷ []) → new q ≡ old q

-- the root token as it is first shown
abbrev pub shown_first : Shown
shown_first = record { state = fresh Token; constraints = None; is_domain_root = true }

-- the node that an action makes, if any, as it is first shown
abbrev pub made_by : Deed → Option Shown
made_by deed = option_map (shown_new deed) (makes (kind_of deed))

-- what a list of actions on it makes of a node
abbrev pub shown_after_all : Shown → List Deed → Shown
shown_after_all z [] = z
shown_after_all z (deed ∷ deeds) = shown_after_all (shown_after deed z) deeds

-- the map that goes with the actions at each path: each node is what its own actions made of the
-- node that its parent's action made
pub record IsMapOf (log : List ℕ → List Deed) (at : Map) : Type 0 where
  pub root : at [] ≡ Some (shown_after_all shown_first (log []))
  pub kid : (p : List ℕ) (k : ℕ)
      → at (p ++ k ∷ [])
      ≡ option_map (λ z. shown_after_all z (log (p ++ k ∷ [])))
      (slice_get (filter_map made_by (log p)) k)

-- the paths of the initial domain: no node on the way roots another
pub data IsInitial (at : Map) : List ℕ → Type 0 where
  top : IsInitial at []
  on : (path : List ℕ) (k : ℕ) (z : Shown) → IsInitial at path → at (path ++ k ∷ []) ≡ Some z
      → z.is_domain_root ≡ false → IsInitial at (path ++ k ∷ [])
