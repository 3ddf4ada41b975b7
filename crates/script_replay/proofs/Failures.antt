-- Domains that have failed and weren't marked as failed are those that an event made fail.
use Rattle.std.proofs.Common.{◌≡◌, ◌⊎◌, inl, inr, ℕ, zero, suc, ◌==◌, ◌&&◌, ◌||◌, not, Bool, false, List, [], ◌∷◌, ◌++◌, length, Option, Some, None, Ok, get_or, slice_get, refl, sym, ◌∙◌, ap, subst, append-nil}
use Rattle.std.specs.Prelude.{IsSomeAnd, map, option_and_then, option_map, unwrap_or, if◌then◌else◌}
use Rattle.std.specs.List.{AllByRecursion, list_any}
use Rattle.std.proofs.lemmas.Bool.{ne_eqb}
use Rattle.std.proofs.lemmas.Option.{same_Some}
use Rattle.sysmem_alloc.proofs.CallerLemmas.{acted_roots, added, decided_roots, domains_there}
use Rattle.sysmem_alloc.specs.Sound.{roots_of}
use Rattle.sysmem_tree.proofs.CallerLemmas.{accepted}
use Rattle.sysmem_tree.specs.declared.action.ActionKind.{ActionKind}
use Rattle.sysmem_tree.specs.declared.action.ActionKind.TheVariants.{Duplicate, CreateGroup, Bind, CreateChild, AllChildrenPresent, SetConstraints, AttachToken, Release, Close}
use Rattle.sysmem_tree.specs.declared.domain.Domain.{Domain}
use Rattle.sysmem_tree.specs.ActionKind.{Deed, kind_of}
use Rattle.sysmem_tree.specs.Domain.{TreeFacts, HasDomain, IsSoundTree, fails, has_failed, host_node, is_host_lost, up_from, was_closed_early}
use Rattle.sysmem_tree.specs.Node.{NodeFacts}
use Rattle.sysmem_tree.specs.Tree.{Applied, applied, decided}
use Rattle.script_replay.specs.Marks.{AreMarksOf, failed_at, failed_unmarked_at}
use Rattle.script_replay.proofs.Walking.{picked}

-- a node that isn't there roots no domain that was closed early
never_closed : (nodes : List NodeFacts) (r : ℕ) (ds : List Domain) → slice_get nodes r ≡ None → AllByRecursion (HasDomain nodes) (map (λ (d : Domain). d.root) ds) → was_closed_early ds r ≡ false
never_closed nodes r [] none all = refl
never_closed nodes r (d ∷ ds) none all =
    let apart : (d.root == r) ≡ false = ne_eqb d.root r (λ same. not_there (subst (HasDomain nodes) same all.0)) in
    ap (λ b. (b && d.is_closed_early) || was_closed_early ds r) apart ∙ never_closed nodes r ds none all.1 where
      not_there : HasDomain nodes r → ⊥
      not_there h = subst (λ o. IsSomeAnd o (λ (n : NodeFacts). n.domain ≡ r)) none h

no_host : (nodes : List NodeFacts) (r : ℕ) → slice_get nodes r ≡ None → host_node nodes r ≡ None
no_host nodes r none = ap (λ o. option_and_then (λ (n : NodeFacts). option_and_then (λ b. slice_get nodes b.parent) n.birth) o) none

fails_not : (t : TreeFacts) (r : ℕ) → slice_get t.nodes r ≡ None → was_closed_early t.domains r ≡ false → fails t r ≡ false
fails_not t r none early = ap (λ b. b || is_host_lost t.domains (host_node t.nodes r)) early ∙ ap (is_host_lost t.domains) (no_host t.nodes r none)

none_above : (t : TreeFacts) (r many : ℕ) → slice_get t.nodes r ≡ None → fails t r ≡ false → list_any (fails t) (up_from many t.nodes r) ≡ false
none_above t r zero none not_it = refl
none_above t r (suc many) none not_it =
    ap (λ o. list_any (fails t) (r ∷ unwrap_or (option_map (λ (host : NodeFacts). up_from many t.nodes host.domain) o) [])) (no_host t.nodes r none)
    ∙ ap (λ b. b || false) not_it

past_end : {X : Type 0} (xs : List X) → slice_get xs (length xs) ≡ None
past_end [] = refl
past_end (x ∷ xs) = past_end xs

-- the number of no node roots no domain that has failed
none_failed : (t : TreeFacts) → IsSoundTree t → has_failed t (length t.nodes) ≡ false
none_failed t sound =
    let none = past_end t.nodes in
    none_above t (length t.nodes) 128 none (fails_not t (length t.nodes) none (never_closed t.nodes (length t.nodes) t.domains none (domains_there t sound)))

all_at : (P : ℕ → Type 0) (ys : List ℕ) (k r : ℕ) → AllByRecursion P ys → slice_get ys k ≡ Some r → P r
all_at P [] k r all is = absurd (cc)
all_at P (y ∷ ys) zero r all is = subst P (same_Some y r is) all.0
all_at P (y ∷ ys) (suc k) r all is = all_at P ys k r all.1 is

where_at : (P : ℕ → Type 0) (xs ys : List ℕ) (k r : ℕ) → AllByRecursion P ys → slice_get (xs ++ ys) k ≡ Some r → (slice_get xs k ≡ Some r) ⊎ ((slice_get xs k ≡ None) × P r)
where_at P [] ys k r all is = inr (refl, all_at P ys k r all is)
where_at P (x ∷ xs) ys zero r all is = inl is
where_at P (x ∷ xs) ys (suc k) r all is = where_at P xs ys k r all is

-- marks of the domains that had failed are marks of what comes after,
-- where the new domains hadn't failed
pub marks_after : (old new : TreeFacts) (marks : List Bool) (more : List ℕ) → ((k : ℕ) → get_or marks k false ≡ failed_at old k)
    → roots_of new ≡ roots_of old ++ more → AllByRecursion (λ r. has_failed old r ≡ false) more → AreMarksOf old new marks
marks_after old new marks more marked roots fresh k r here =
    let there : slice_get (roots_of old ++ more) k ≡ Some r = sym (ap (λ xs. slice_get xs k) roots) ∙ here in
    elim (where_at (λ x. has_failed old x ≡ false) (roots_of old) more k r fresh there) as (λ _. get_or marks k false ≡ has_failed old r) [
      | inl was ↦ marked k ∙ ap (λ o. unwrap_or (option_map (has_failed old) o) false) was
      | inr (none, not_it) ↦ marked k ∙ (ap (λ o. unwrap_or (option_map (has_failed old) o) false) none ∙ sym not_it)
    ]

added_fresh : (t : TreeFacts) (kind : ActionKind) → has_failed t (length t.nodes) ≡ false → AllByRecursion (λ r. has_failed t r ≡ false) (added kind (length t.nodes))
added_fresh t AttachToken e = (e, tt)
added_fresh t Duplicate e = tt
added_fresh t CreateGroup e = tt
added_fresh t Bind e = tt
added_fresh t CreateChild e = tt
added_fresh t AllChildrenPresent e = tt
added_fresh t SetConstraints e = tt
added_fresh t Release e = tt
added_fresh t Close e = tt

pub marks_same : (t : TreeFacts) (marks : List Bool) → ((k : ℕ) → get_or marks k false ≡ failed_at t k) → AreMarksOf t t marks
marks_same t marks marked = marks_after t t marks [] marked (sym (append-nil (roots_of t))) tt

pub marks_acted : (t : TreeFacts) (i : ℕ) (deed : Deed) (after : Applied) (marks : List Bool) → IsSoundTree t → ((k : ℕ) → get_or marks k false ≡ failed_at t k)
    → applied t i deed ≡ Ok after → AreMarksOf t after.tree marks
marks_acted t i deed after marks sound marked is =
    let (n, ok) = accepted t i deed after is in
    let roots = subst (λ (u : TreeFacts). roots_of u ≡ roots_of t ++ added (kind_of deed) (length t.nodes)) ok.tree (acted_roots t n (kind_of deed)) in
    marks_after t after.tree marks (added (kind_of deed) (length t.nodes)) marked roots (added_fresh t (kind_of deed) (none_failed t sound))

pub marks_decided : (t : TreeFacts) (r : ℕ) (choices : Option (List ℕ)) (marks : List Bool) → ((k : ℕ) → get_or marks k false ≡ failed_at t k) → AreMarksOf t (decided t r choices) marks
marks_decided t r choices marks marked = marks_after t (decided t r choices) marks [] marked (decided_roots t r choices ∙ sym (append-nil (roots_of t))) tt

-- the marked way of asking is the plain one
pub unmarked_is : (old t : TreeFacts) (marks : List Bool) (k : ℕ) → AreMarksOf old t marks
    → picked (λ r. has_failed t r && not (has_failed old r)) (slice_get (roots_of t) k) ≡ failed_unmarked_at t marks k
unmarked_is old t marks k are = by (slice_get (roots_of t) k) refl where
  by : (o : Option ℕ) → slice_get (roots_of t) k ≡ o
      → picked (λ r. has_failed t r && not (has_failed old r)) o ≡ option_and_then (λ r. if has_failed t r && not (get_or marks k false) then Some r else None) o
  by None here = refl
  by (Some r) here = ap (λ b. if has_failed t r && not b then Some r else None) (sym (are k r here))
