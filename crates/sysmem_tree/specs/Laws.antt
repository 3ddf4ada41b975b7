-- What is true of trees, whoever makes them.
use Rattle.std.specs.Prelude.{◌≡◌, ◌≢◌, ◌<◌, ◌≤◌, ◌⊎◌, ◌++◌, ℕ, suc, max, true, List, [], ◌∷◌}
use Rattle.std.specs.Prelude.{length, AllPairs, Option, Some, None, Ok, map, option_map, slice_get}
use Rattle.sysmem_tree.specs.Sublist.{IsSublist}
use Rattle.sysmem_tree.specs.ActionKind.{Deed}
use Rattle.sysmem_tree.specs.Domain.{TreeFacts, HasDomain, has_failed}
use Rattle.sysmem_tree.specs.Domain.{is_complete, is_ready, IsSoundTree}
use Rattle.sysmem_tree.specs.Forest.{Forest, Empty, Plain, Group, choices, settled, relabel}
use Rattle.sysmem_tree.specs.Forest.{count, total, first_group}
use Rattle.sysmem_tree.specs.History.{HistoryEntry, Accepts, after_entry, AreAccepted, replay}
use Rattle.sysmem_tree.specs.History.{log_at, SameCalls, NoEarlyClose}
use Rattle.sysmem_tree.specs.Node.{NodeFacts}
use Rattle.sysmem_tree.specs.Nodes.{HasNode, IsTree}
use Rattle.sysmem_tree.specs.Path.{birth_of, node_at, path_of, at_path}
use Rattle.sysmem_tree.specs.Selection.{after, IsPrefix, IsSelection, IsEarlierSelection}
use Rattle.sysmem_tree.specs.Shape.{Member, Labels, by_number, by_path}
use Rattle.sysmem_tree.specs.Shape.{forest_of, shape_of, members_of}
use Rattle.sysmem_tree.specs.Step.{IsStep, IsMapOf, IsInitial}
use Rattle.sysmem_tree.specs.Tree.{first_tree, Applied, applied}
use Rattle.sysmem_tree.specs.declared.tree.TheConstants.{MOST_NODES}

-- a path leads to node i, and no other path does
pub record IsOnlyPath (nodes : List NodeFacts) (i : ℕ) (path : List ℕ) : Type 0 where
  pub leads : node_at nodes path ≡ Some i
  pub only : (other : List ℕ) → node_at nodes other ≡ Some i → other ≡ path

-- each node has one path
abbrev pub OnePath : Type 0
OnePath = (nodes : List NodeFacts) (i : ℕ) → IsTree nodes → i < length nodes
    → IsOnlyPath nodes i (path_of nodes i)

-- an accepted action is a step of the map from paths to nodes
abbrev pub ActionIsStep : Type 0
ActionIsStep = (t : TreeFacts) (i : ℕ) (path : List ℕ) (deed : Deed) (after : Applied)
    → IsTree t.nodes → node_at t.nodes path ≡ Some i → applied t i deed ≡ Ok after
    → IsStep (at_path t.nodes) (at_path after.tree.nodes) path deed

-- trees with one map have one shape in each domain, whatever order their nodes were made in
abbrev pub SameMapSameShape : Type 0
SameMapSameShape = (xs ys : List NodeFacts) (r s : ℕ) → IsTree xs → IsTree ys
    → ((q : List ℕ) → at_path xs q ≡ at_path ys q) → HasDomain xs r → HasDomain ys s
    → path_of xs r ≡ path_of ys s → shape_of xs r ≡ shape_of ys s

-- by its number, with what a shape shows
abbrev pub by_both : Labels (ℕ × Member)
by_both i path n = (i, by_path i path n)

-- the forest of numbers and the shape are one forest under two kinds of labels
pub record AreOneForest (nodes : List NodeFacts) (r : ℕ) : Type 0 where
  pub numbers : relabel (λ l. l.0) (forest_of by_both nodes r (path_of nodes r))
      ≡ forest_of by_number nodes r []
  pub members : relabel (λ l. l.1) (forest_of by_both nodes r (path_of nodes r)) ≡ shape_of nodes r

abbrev pub OneForest : Type 0
OneForest = (nodes : List NodeFacts) (r : ℕ) → AreOneForest nodes r

-- what is true of each tree stays true, by accepted actions and by decisions
abbrev pub SoundStays : Type 0
SoundStays = (t : TreeFacts) (e : HistoryEntry) → IsSoundTree t → Accepts t e
    → IsSoundTree (after_entry t e)

-- the domain of node i, by its root; none where there is no such node
abbrev pub domain_of : List NodeFacts → ℕ → Option ℕ
domain_of nodes i = option_map (λ n. n.domain) (slice_get nodes i)

-- there are no fewer nodes: each that was there keeps its number, and with it its path, its parent,
-- which child it is, and its domain
pub record AreStill (old new : List NodeFacts) : Type 0 where
  pub grows : length old ≤ length new
  pub path : (i : ℕ) → HasNode old i → path_of new i ≡ path_of old i
  pub birth : (i : ℕ) → HasNode old i → birth_of new i ≡ birth_of old i
  pub domain : (i : ℕ) → HasNode old i → domain_of new i ≡ domain_of old i
  pub root : (r : ℕ) → HasDomain old r → HasDomain new r

-- numbers stay, by actions and by decisions
abbrev pub NumbersStay : Type 0
NumbersStay = (t : TreeFacts) (e : HistoryEntry) → IsTree t.nodes → Accepts t e
    → AreStill t.nodes (after_entry t e).nodes

-- once ready a domain stays so, by actions and by decisions
abbrev pub ReadyStays : Type 0
ReadyStays = (t : TreeFacts) (e : HistoryEntry) (r : ℕ) → IsSoundTree t → Accepts t e
    → HasDomain t.nodes r → is_ready t r ≡ true → is_ready (after_entry t e) r ≡ true

-- once failed a domain stays so, by actions and by decisions
abbrev pub FailedStays : Type 0
FailedStays = (t : TreeFacts) (e : HistoryEntry) (r : ℕ) → IsSoundTree t → Accepts t e
    → HasDomain t.nodes r → has_failed t r ≡ true → has_failed (after_entry t e) r ≡ true

-- a domain has the forest that it had, by numbers and by paths, kinds and constraints, and so each
-- selection has the members that it had
pub record IsSameDomain (old new : List NodeFacts) (r : ℕ) : Type 0 where
  pub forest : forest_of by_both new r (path_of new r) ≡ forest_of by_both old r (path_of old r)
  pub shape : shape_of new r ≡ shape_of old r
  pub members : (cs : List ℕ) → members_of new r cs ≡ members_of old r cs

-- from ready on neither an action nor a decision changes a domain's forest
abbrev pub ForestStays : Type 0
ForestStays = (t : TreeFacts) (e : HistoryEntry) (r : ℕ) → IsTree t.nodes → Accepts t e
    → HasDomain t.nodes r → is_ready t r ≡ true → IsSameDomain t.nodes (after_entry t e).nodes r

-- choices only add to what is settled
abbrev pub SettledGrows : Type 0
SettledGrows = (d e : Forest ℕ) (cs : List ℕ) → after d cs ≡ Some e
    → IsSublist (settled d) (settled e)

-- the count of selections: one where there is no group, else as many as the choices
-- for the first group have together
pub record CountAddsUp (d : Forest ℕ) : Type 0 where
  pub whole : choices d ≡ None → count d ≡ 1
  pub split : (es : List (Forest ℕ)) → choices d ≡ Some es → count d ≡ total es

abbrev pub Counts : Type 0
Counts = (d : Forest ℕ) → CountAddsUp d

-- all selections stand in a list, each once, in their order, as long as the count
pub record ListsSelections (d : Forest ℕ) : Type 0 where
  pub all : List (List ℕ)
  pub many : length all ≡ count d
  pub sound : (k : ℕ) (cs : List ℕ) → slice_get all k ≡ Some cs
      → (e : Forest ℕ) × IsSelection d cs e
  pub found : (cs : List ℕ) (e : Forest ℕ) → IsSelection d cs e
      → (k : ℕ) × (slice_get all k ≡ Some cs)
  pub order : (j k : ℕ) (as' bs : List ℕ) → slice_get all j ≡ Some as' → slice_get all k ≡ Some bs
      → j < k → IsEarlierSelection as' bs

abbrev pub SelectionsAreListed : Type 0
SelectionsAreListed = (d : Forest ℕ) → ListsSelections d

-- there are as many choices as the first group has children
abbrev pub FirstGroup : Type 0
FirstGroup = (d : Forest ℕ)
    → option_map length (choices d) ≡ option_map (λ (g : ℕ × ℕ). g.1) (first_group d)

-- of two selections of a forest one is earlier, or they are equal
abbrev pub OneIsEarlier : Type 0
OneIsEarlier = (d e f : Forest ℕ) (as' bs : List ℕ) → IsSelection d as' e → IsSelection d bs f
    → IsEarlierSelection as' bs ⊎ ((as' ≡ bs) ⊎ IsEarlierSelection bs as')

-- no selection is earlier than itself, and what is earlier than an earlier one is earlier
abbrev pub EarlierIsAnOrder : Type 0
EarlierIsAnOrder =
    ((as' : List ℕ) → IsEarlierSelection as' as' → ⊥)
    × ((as' bs cs : List ℕ) → IsEarlierSelection as' bs → IsEarlierSelection bs cs
    → IsEarlierSelection as' cs)

-- the first choices of a prefix are a prefix
abbrev pub PrefixOfPrefix : Type 0
PrefixOfPrefix = (d : Forest ℕ) (as' bs : List ℕ) → IsPrefix d (as' ++ bs) → IsPrefix d as'

-- other labels change neither the choices nor what they settle
abbrev pub Relabels : Type 0
Relabels = (f : ℕ → Member) (d : Forest ℕ) (cs : List ℕ)
    → (settled (relabel f d) ≡ map f (settled d))
    × (after (relabel f d) cs ≡ option_map (relabel f) (after d cs))

-- all labels of a forest, in pre-order
abbrev pub labels : {A : Type 0} → Forest A → List A
labels Empty = []
labels (Plain n kids rest) = n ∷ (labels kids ++ labels rest)
labels (Group n kids rest) = n ∷ (labels kids ++ labels rest)

-- how many groups stand within each other
abbrev pub nesting : {A : Type 0} → Forest A → ℕ
nesting Empty = 0
nesting (Plain n kids rest) = max (nesting kids) (nesting rest)
nesting (Group n kids rest) = max (suc (nesting kids)) (nesting rest)

-- no two of them have one path
abbrev pub PathsDiffer : List Member → Type 0
PathsDiffer ms = AllPairs (λ a b. a.path ≢ b.path) ms

-- the nodes of a shape have paths of their own, in whole, and those that are settled after choices
pub record HaveOwnPaths (d : Forest Member) : Type 0 where
  pub whole : PathsDiffer (labels d)
  pub settled_too : (cs : List ℕ) (e : Forest Member) → after d cs ≡ Some e
      → PathsDiffer (settled e)

abbrev pub PathsInShapesDiffer : Type 0
PathsInShapesDiffer = (nodes : List NodeFacts) (r : ℕ) → IsTree nodes → HasDomain nodes r
    → HaveOwnPaths (shape_of nodes r)

-- in a shape at most 128 groups stand within each other
abbrev pub FewGroupsNest : Type 0
FewGroupsNest = (nodes : List NodeFacts) (r : ℕ) → IsTree nodes → HasDomain nodes r
    → nesting (shape_of nodes r) ≤ MOST_NODES

-- a history makes a sound tree, and the map that goes with the actions at each path
pub record IsMade (es : List HistoryEntry) : Type 0 where
  pub sound : IsSoundTree (replay es)
  pub map : IsMapOf (log_at es) (at_path (replay es).nodes)

abbrev pub MapsOfLogs : Type 0
MapsOfLogs = (es : List HistoryEntry) → AreAccepted first_tree es → IsMade es

-- two trees agree on the initial domain
pub record SameInitial (t u : TreeFacts) : Type 0 where
  pub shape : shape_of t.nodes 0 ≡ shape_of u.nodes 0
  pub complete : is_complete t.nodes 0 ≡ is_complete u.nodes 0

-- the initial domain's shape, and whether its nodes are complete, are one function of the actions
-- at its own paths: decisions and what happens in attached domains don't enter
abbrev pub InitialShape : Type 0
InitialShape = (es fs : List HistoryEntry) → AreAccepted first_tree es → AreAccepted first_tree fs
    → ((q : List ℕ) → IsInitial (at_path (replay es).nodes) q → log_at es q ≡ log_at fs q)
    → SameInitial (replay es) (replay fs)

-- both trees have the initial domain ready, or neither; and it has one shape
pub record SameReady (t u : TreeFacts) : Type 0 where
  pub ready : is_ready t 0 ≡ is_ready u 0
  pub shape : shape_of t.nodes 0 ≡ shape_of u.nodes 0

-- histories with the same actions at each path and no early close leave the initial domain ready
-- both or neither, and of one shape
abbrev pub Confluence : Type 0
Confluence = (es fs : List HistoryEntry) → AreAccepted first_tree es → AreAccepted first_tree fs
    → SameCalls es fs → NoEarlyClose es → NoEarlyClose fs → SameReady (replay es) (replay fs)
