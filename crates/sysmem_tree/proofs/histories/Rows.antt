-- The definitions at worked rows, by computing them.
use Rattle.std.proofs.Common.{◌≡◌, ℕ, true, false, List, [], ◌∷◌, Option, Some, None, Result, Ok, Err, refl}
use Rattle.std.specs.Prelude.{map}
use Rattle.sysmem_tree.specs.declared.refusal.Refusal.{Refusal}
use Rattle.sysmem_tree.specs.declared.refusal.Refusal.TheVariants.{DomainFailed, NotSelected, WrongState, NoChildren}
use Rattle.sysmem_tree.specs.ActionKind.{Deed, duplicates, creates_group, binds, creates_child, has_all_children, sets, attaches_token, releases, closes}
use Rattle.sysmem_tree.specs.Domain.{TreeFacts, has_failed, newly_failed, is_ready}
use Rattle.sysmem_tree.specs.Forest.{Empty, Plain, Group, count}
use Rattle.sysmem_tree.specs.History.{Acted, replay_from}
use Rattle.sysmem_tree.specs.Path.{path_of}
use Rattle.sysmem_tree.specs.Shape.{forest_of, by_number, members_of}
use Rattle.sysmem_tree.specs.Tree.{Applied, applied, first_tree, decided}

abbrev go : TreeFacts → List (ℕ × Deed) → TreeFacts
go t es = replay_from t (map (λ e. Acted e.0 e.1) es)

abbrev answer : Result Applied Refusal → Option Refusal
answer (Ok a) = None
answer (Err e) = Some e

-- a closed token: its domain fails, its actions are refused, a release isn't
abbrev closed_token : TreeFacts
closed_token = go first_tree ((0, duplicates) ∷ (0, duplicates) ∷ (1, closes) ∷ [])

closed_fails : has_failed closed_token 0 ≡ true
closed_fails = refl

closed_refuses : answer (applied closed_token 2 binds) ≡ Some DomainFailed
closed_refuses = refl

closed_releases : answer (applied closed_token 2 releases) ≡ None
closed_releases = refl

-- group states
abbrev grouped : TreeFacts
grouped = go first_tree ((0, creates_group) ∷ [])

no_children : answer (applied grouped 1 has_all_children) ≡ Some NoChildren
no_children = refl

abbrev whole : TreeFacts
whole = go grouped ((1, creates_child) ∷ (1, has_all_children) ∷ [])

no_more : answer (applied whole 1 creates_child) ≡ Some WrongState
no_more = refl

-- an attached token that was released: ready with its host's decision
abbrev attached : TreeFacts
attached = go first_tree ((0, duplicates) ∷ (0, releases) ∷ (1, binds) ∷ (1, attaches_token) ∷ (2, releases) ∷ [])

abbrev attached_set : TreeFacts
attached_set = go attached ((1, sets None) ∷ [])

host_ready : is_ready attached_set 0 ≡ true
host_ready = refl

not_yet : is_ready attached_set 2 ≡ false
not_yet = refl

then_ready : is_ready (decided attached_set 0 (Some [])) 2 ≡ true
then_ready = refl

then_failed : has_failed (decided attached_set 0 None) 2 ≡ true
then_failed = refl

closed_below : has_failed (go attached ((1, closes) ∷ [])) 2 ≡ true
closed_below = refl

late_close : has_failed (go attached_set ((1, closes) ∷ [])) 0 ≡ false
late_close = refl

own_forests : forest_of by_number attached_set.nodes 0 [] ≡ Plain 0 (Plain 1 Empty Empty) Empty
own_forests = refl

attached_forest : forest_of by_number attached_set.nodes 2 [] ≡ Plain 2 Empty Empty
attached_forest = refl

-- nested groups: root 0, g 1, a0 2, a1 3, h 4, x 5, y 6
abbrev nested : TreeFacts
nested = go first_tree (
    (0, creates_group) ∷ (1, creates_child) ∷ (1, creates_child) ∷ (1, has_all_children) ∷ (0, releases) ∷
    (2, creates_group) ∷ (4, creates_child) ∷ (4, creates_child) ∷ (4, has_all_children) ∷ (2, releases) ∷
    (5, binds) ∷ (6, binds) ∷ (3, binds) ∷ (5, sets None) ∷ (6, sets None) ∷ (3, sets None) ∷ []
    )

nested_ready : is_ready nested 0 ≡ true
nested_ready = refl

nested_forest : forest_of by_number nested.nodes 0 [] ≡ Plain 0 (Group 1 (Plain 2 (Group 4 (Plain 5 Empty (Plain 6 Empty Empty)) Empty) (Plain 3 Empty Empty)) Empty) Empty
nested_forest = refl

nested_count : count (forest_of by_number nested.nodes 0 []) ≡ 3
nested_count = refl

nested_path : path_of nested.nodes 5 ≡ 0 ∷ 0 ∷ 0 ∷ 0 ∷ []
nested_path = refl

nested_members : members_of nested.nodes 0 (1 ∷ []) ≡ 0 ∷ 1 ∷ 3 ∷ []
nested_members = refl

left_out : answer (applied (decided nested 0 (Some (1 ∷ []))) 5 attaches_token) ≡ Some NotSelected
left_out = refl

kept_in : answer (applied (decided nested 0 (Some (1 ∷ []))) 3 attaches_token) ≡ None
kept_in = refl

-- a token attached to a host that the decision leaves out fails with it
abbrev hanging : TreeFacts
hanging = go nested ((5, attaches_token) ∷ [])

abbrev lost : TreeFacts
lost = decided hanging 0 (Some (1 ∷ []))

lost_fails : has_failed lost 7 ≡ true
lost_fails = refl

lost_refuses : answer (applied lost 7 binds) ≡ Some DomainFailed
lost_refuses = refl

lost_newly : newly_failed hanging lost ≡ 7 ∷ []
lost_newly = refl
