-- What is counted for limits, as actions and decisions are entered.
use Rattle.std.proofs.Common.{◌≡◌, ◌≢◌, ◌<◌, ◌+◌, ◌==◌, ℕ, zero, suc, Bool, true, false, List, [], ◌∷◌, ◌++◌, Option, None, Some, Ok, Err, get_or, length, replicate, slice_get, slice_set, refl, sym, ◌∙◌, ap, subst, arith, rules, tests}
use Rattle.std.specs.Result.{result_err}
use Rattle.std.specs.Prelude.{IfSome, IsTrue, is_some, nat_le, option_map, if◌then◌else◌}
use Rattle.std.proofs.lemmas.List.{get_or-set_other, get_or-set_same, length-set}
use Rattle.std.proofs.lemmas.Option.{same_Some}
use Rattle.node_limits.specs.declared.limits.Limits.{Limits}
use Rattle.node_limits.specs.declared.limits.Offspring.{Offspring}
use Rattle.node_limits.specs.Laws.{IsBounded}
use Rattle.node_limits.specs.Limits.{AreCounted, applied_within, counts_after, is_spent, offspring}
use Rattle.node_limits.proofs.CallerLemmas.{accepted_within, free_answer, refused_answer, refused_beyond, unlimited, acted_counted, few_tops, first_counted, made_child, room_for, spent_by_count, still_counted, still_offspring, acted_bounded, decided_many, grows, made_by}
use Rattle.sysmem_alloc.specs.Book.{BookFacts, entered}
use Rattle.sysmem_alloc.specs.Decision.{Claimed, answer_of, choices_of}
use Rattle.sysmem_alloc.specs.Entry.{Decided}
use Rattle.sysmem_tree.specs.declared.action.ActionKind.{ActionKind}
use Rattle.sysmem_tree.specs.declared.refusal.Refusal.TheVariants.{TooManyNodes}
use Rattle.sysmem_tree.specs.declared.state.NodeState.{NodeState}
use Rattle.sysmem_tree.specs.ActionKind.{Deed, kind_of}
use Rattle.sysmem_tree.specs.Domain.{TreeFacts}
use Rattle.sysmem_tree.specs.Laws.{AreStill, OnePath}
use Rattle.sysmem_tree.specs.Node.{NodeFacts}
use Rattle.sysmem_tree.specs.Nodes.{IsTree}
use Rattle.sysmem_tree.specs.Path.{node_at, path_of}
use Rattle.sysmem_tree.specs.Table.{makes}
use Rattle.sysmem_tree.specs.Tree.{Applied, applied, first_tree}
use Rattle.sysmem_tree.proofs.CallerLemmas.{accepted}
use Rattle.live_book.specs.declared.quota.Quota.{Quota}
use Rattle.live_book.specs.Quota.{AreTops, HasPlace, IsQuotaOf, limits_of, noted, offspring_for, top_for}

-- of a root alone
pub first_quota : (q : Quota) → q.offspring.counts ≡ replicate 128 0 → length q.tops ≡ 128 → IsQuotaOf first_tree.nodes q
first_quota q counts room = record {
  counted = subst (AreCounted first_tree.nodes) (sym counts) first_counted;
  room = room;
  tops = tops;
  bounded = λ top. let none : offspring first_tree.nodes top ≡ 0 = refl in omega (arith, none);
} where
  tops : AreTops first_tree.nodes q.tops
  tops zero less = tt
  tops (suc i) less = absurd (omega (arith, less))

-- the root's path is empty
pub root_path : OnePath → (nodes : List NodeFacts) → IsTree nodes → 0 < length nodes → path_of nodes 0 ≡ []
root_path one nodes tree some = sym ((one nodes 0 tree some).only [] refl)

-- each other begins with the child of the root that the node is, or is below
pub other_path : OnePath → (nodes : List NodeFacts) (tops : List ℕ) (i : ℕ) → IsTree nodes → AreTops nodes tops → i < length nodes → i ≢ 0 → (rest : List ℕ) × (path_of nodes i ≡ get_or tops i 0 ∷ rest)
other_path one nodes tops i tree are less other = by (path_of nodes i) refl (are i less) where
  by : (p : List ℕ) → path_of nodes i ≡ p → IfSome (slice_get p 0) (λ top. get_or tops i 0 ≡ top) → (rest : List ℕ) × (p ≡ get_or tops i 0 ∷ rest)
  by [] is at =
      let leads : node_at nodes [] ≡ Some i = subst (λ p. node_at nodes p ≡ Some i) is (one nodes i tree less).leads in
      absurd (other (sym (same_Some 0 i leads)))
  by (top ∷ rest) is at = (rest, ap (λ x. x ∷ rest) (sym at))

-- which are fewer than 128
pub few_top : OnePath → (nodes : List NodeFacts) (q : Quota) (i : ℕ) → IsTree nodes → IsQuotaOf nodes q → i < length nodes → i ≢ 0 → get_or q.tops i 0 < 128
few_top one nodes q i tree is less other =
    let (rest, at) = other_path one nodes q.tops i tree is.tops less other in
    subst (λ p. IfSome (slice_get p 0) (λ top. top < 128)) at (few_tops nodes tree (path_of nodes i) (ap is_some (one nodes i tree less).leads))

-- so one more can be counted
pub has_place : OnePath → (nodes : List NodeFacts) (q : Quota) (i : ℕ) → IsTree nodes → IsQuotaOf nodes q → i < length nodes → HasPlace i q
has_place one nodes q i tree is less = record {
  top = λ other. few_top one nodes q i tree is less other;
  count = λ other.
      let (rest, at) = other_path one nodes q.tops i tree is.tops less other in
      subst (λ p. IfSome (slice_get p 0) (λ top. get_or q.offspring.counts top 0 < 255)) at
      (room_for nodes q.offspring.counts (path_of nodes i) is.counted tree.few (few_tops nodes tree (path_of nodes i) (ap is_some (one nodes i tree less).leads)));
}

-- the limits are spent where the count says so
pub spent_is : OnePath → (nodes : List NodeFacts) (q : Quota) (i : ℕ) (kind : ActionKind) → IsTree nodes → IsQuotaOf nodes q → i < length nodes → i ≢ 0 → is_some (makes kind) ≡ true
    → nat_le q.most (get_or q.offspring.counts (get_or q.tops i 0) 0) ≡ is_spent (limits_of (Some q)) nodes (path_of nodes i) kind
spent_is one nodes q i kind tree is less other made =
    let (rest, at) = other_path one nodes q.tops i tree is.tops less other in
    spent_by_count (limits_of (Some q)) nodes q.offspring.counts (path_of nodes i) kind q.most (get_or q.tops i 0) is.counted (few_top one nodes q i tree is less other)
    (ap (λ p. slice_get p 0) at) refl made

-- nothing that the root makes spends them
pub root_unspent : OnePath → (limits : Limits) (nodes : List NodeFacts) (i : ℕ) (kind : ActionKind) → IsTree nodes → i < length nodes → i ≡ 0 → is_spent limits nodes (path_of nodes i) kind ≡ false
root_unspent one limits nodes i kind tree less root =
    let first : 0 < length nodes = omega (arith, less, root) in
    let empty : path_of nodes i ≡ [] = ap (path_of nodes) root ∙ root_path one nodes tree first in
    ap (λ p. is_spent limits nodes p kind) empty

-- where no node was made, what is counted stays
pub still_quota : (old new : List NodeFacts) (q : Quota) → AreStill old new → length new ≡ length old → IsQuotaOf old q → IsQuotaOf new q
still_quota old new q still many is = record {
  counted = still_counted old new q.offspring.counts still many is.counted;
  room = is.room;
  tops = λ i less.
      let there : i < length old = omega (arith, less, many) in
      subst (λ p. IfSome (slice_get p 0) (λ top. get_or q.tops i 0 ≡ top)) (sym (still.path i there)) (is.tops i there);
  bounded = λ top. let same : offspring new top ≡ offspring old top = still_offspring old new top still many in omega (arith, same, is.bounded top);
}

pub still_itself : (nodes : List NodeFacts) → AreStill nodes nodes
still_itself nodes = record {
  grows = omega arith;
  path = λ i there. refl;
  birth = λ i there. refl;
  domain = λ i there. refl;
  root = λ r there. there;
}

-- the path of a node that was made begins with what is counted for it
made_begins : (q : Quota) (path : List ℕ) (i child : ℕ) → (i ≡ 0 → path ≡ []) → (i ≢ 0 → (rest : List ℕ) × (path ≡ get_or q.tops i 0 ∷ rest)) → slice_get (path ++ child ∷ []) 0 ≡ Some (top_for q i child)
made_begins q path i child root other = by (i == 0) refl where
  by : (b : Bool) → (i == 0) ≡ b → slice_get (path ++ child ∷ []) 0 ≡ Some (if b then child else get_or q.tops i 0)
  by true is = let none : i ≡ 0 = search (rules, tests, is) in ap (λ (p : List ℕ). slice_get (p ++ child ∷ []) 0) (root none)
  by false is =
      let (rest, at) = other (λ same. let t : (i == 0) ≡ true = search (rules, tests, same) in absurd (cc (t, is))) in
      ap (λ (p : List ℕ). slice_get (p ++ child ∷ []) 0) at

abbrev offspring_by : Bool → Quota → ActionKind → ℕ → Offspring
offspring_by b q act i = if b then q.offspring else record { counts = counts_after q.offspring.counts (get_or q.tops i 0 ∷ []) act }

-- and the counts are those after the action
counts_for : (q : Quota) (path : List ℕ) (i : ℕ) (act : ActionKind) → (i ≡ 0 → path ≡ []) → (i ≢ 0 → (rest : List ℕ) × (path ≡ get_or q.tops i 0 ∷ rest))
    → counts_after q.offspring.counts path act ≡ (offspring_for q act i).counts
counts_for q path i act root other = by (i == 0) refl where
  by : (b : Bool) → (i == 0) ≡ b → counts_after q.offspring.counts path act ≡ (offspring_by b q act i).counts
  by true is = let none : i ≡ 0 = search (rules, tests, is) in ap (λ p. counts_after q.offspring.counts p act) (root none)
  by false is =
      let (rest, at) = other (λ same. let t : (i == 0) ≡ true = search (rules, tests, same) in absurd (cc (t, is))) in
      ap (λ p. counts_after q.offspring.counts p act) at

-- the tops with one more, of a node whose path begins so
one_more_top : (old new : List NodeFacts) (tops : List ℕ) (made top : ℕ) → AreStill old new → length new ≡ suc (length old) → made ≡ length old → length old < length tops
    → slice_get (path_of new (length old)) 0 ≡ Some top → AreTops old tops → AreTops new (slice_set tops made top)
one_more_top old new tops made top still many last few begins are = λ i less. by i less (i == made) refl where
  by : (i : ℕ) → i < length new → (b : Bool) → (i == made) ≡ b → IfSome (slice_get (path_of new i) 0) (λ x. get_or (slice_set tops made top) i 0 ≡ x)
  by i less true is =
      let same : i ≡ made = search (rules, tests, is) in
      let begun : slice_get (path_of new i) 0 ≡ Some top = ap (λ k. slice_get (path_of new k) 0) (same ∙ last) ∙ begins in
      let put : get_or (slice_set tops made top) i 0 ≡ top = ap (λ k. get_or (slice_set tops made top) k 0) same ∙ get_or-set_same tops made top 0 (omega (arith, last, few)) in
      subst (λ o. IfSome o (λ x. get_or (slice_set tops made top) i 0 ≡ x)) (sym begun) put
  by i less false is =
      let apart : i ≢ made = λ same. let t : (i == made) ≡ true = search (rules, tests, same) in absurd (cc (t, is)) in
      let there : i < length old = omega (arith, less, many, last, apart) in
      let kept : get_or (slice_set tops made top) i 0 ≡ get_or tops i 0 = get_or-set_other tops made i top 0 apart in
      subst (λ p. IfSome (slice_get p 0) (λ x. get_or (slice_set tops made top) i 0 ≡ x)) (sym (still.path i there))
      (subst (λ y. IfSome (slice_get (path_of old i) 0) (λ x. y ≡ x)) (sym kept) (are i there))

abbrev noted_by : Bool → ActionKind → ℕ → ℕ → ℕ → Quota → Quota
noted_by b act i child made q = if b then record { most = q.most; offspring = offspring_for q act i; tops = slice_set q.tops made (top_for q i child) } else q

-- after an accepted action for which the limits weren't spent, what is counted is true of the nodes
pub noted_is : OnePath → (t : TreeFacts) (i child made : ℕ) (deed : Deed) (after : Applied) (q : Quota) → IsTree t.nodes → IsTree after.tree.nodes → AreStill t.nodes after.tree.nodes → i < length t.nodes
    → IfSome (slice_get t.nodes i) (λ n. child ≡ n.state.children) → made ≡ after.node → applied t i deed ≡ Ok after → is_spent (limits_of (Some q)) t.nodes (path_of t.nodes i) (kind_of deed) ≡ false
    → IsQuotaOf t.nodes q → IsQuotaOf after.tree.nodes (noted (kind_of deed) i child made q)
noted_is one t i child made deed after q tree grown still less which node is free quota = by (makes (kind_of deed)) refl where
  more : length after.tree.nodes ≡ length t.nodes + made_by (kind_of deed)
  more = grows t i deed after is

  root : i ≡ 0 → path_of t.nodes i ≡ []
  root none = let some : 0 < length t.nodes = omega (arith, less, none) in ap (path_of t.nodes) none ∙ root_path one t.nodes tree some

  other : i ≢ 0 → (rest : List ℕ) × (path_of t.nodes i ≡ get_or q.tops i 0 ∷ rest)
  other some = other_path one t.nodes q.tops i tree quota.tops less some

  by : (m : Option NodeState) → makes (kind_of deed) ≡ m → IsQuotaOf after.tree.nodes (noted (kind_of deed) i child made q)
  by None none =
      let no : made_by (kind_of deed) ≡ 0 = ap (λ (m : Option NodeState). if is_some m then 1 else 0) none in
      subst (λ (b : Bool). IsQuotaOf after.tree.nodes (noted_by b (kind_of deed) i child made q)) (sym (ap is_some none))
      (still_quota t.nodes after.tree.nodes q still (omega (arith, more, no)) quota)
  by (Some s) some =
      let one_made : made_by (kind_of deed) ≡ 1 = ap (λ (m : Option NodeState). if is_some m then 1 else 0) some in
      let many : length after.tree.nodes ≡ suc (length t.nodes) = omega (arith, more, one_made) in
      let (n, here, at) = made_child one t i deed after (path_of t.nodes i) s tree grown still (one t.nodes i tree less).leads is some many in
      let children : child ≡ n.state.children = subst (λ o. IfSome o (λ (x : NodeFacts). child ≡ x.state.children)) here which in
      let begins : slice_get (path_of after.tree.nodes (length t.nodes)) 0 ≡ Some (top_for q i child) =
      ap (λ (p : List ℕ). slice_get p 0) (at ∙ ap (λ c. path_of t.nodes i ++ c ∷ []) (sym children)) ∙ made_begins q (path_of t.nodes i) i child root other in
      let (_, a) = accepted t i deed after is in
      let last : made ≡ length t.nodes = node ∙ (sym a.node ∙ ap (λ (m : Option NodeState). if is_some m then length t.nodes else i) some) in
      subst (λ (b : Bool). IsQuotaOf after.tree.nodes (noted_by b (kind_of deed) i child made q)) (sym (ap is_some some))
      (record {
        counted = subst (AreCounted after.tree.nodes) (counts_for q (path_of t.nodes i) i (kind_of deed) root other)
            (acted_counted one t i deed after (path_of t.nodes i) q.offspring.counts tree grown still (one t.nodes i tree less).leads is quota.counted);
        room = length-set q.tops made (top_for q i child) ∙ quota.room;
        tops = one_more_top t.nodes after.tree.nodes q.tops made (top_for q i child) still many last (omega (arith, many, grown.few, quota.room)) begins quota.tops;
        bounded = acted_bounded one (limits_of (Some q)) t i deed after tree grown still is free quota.bounded;
      })

-- of a quota, if there is one
pub noted_if : OnePath → (t : TreeFacts) (i child made : ℕ) (deed : Deed) (after : Applied) (o n : Option Quota) → IsTree t.nodes → IsTree after.tree.nodes → AreStill t.nodes after.tree.nodes → i < length t.nodes
    → IfSome (slice_get t.nodes i) (λ n. child ≡ n.state.children) → made ≡ after.node → applied t i deed ≡ Ok after → is_spent (limits_of o) t.nodes (path_of t.nodes i) (kind_of deed) ≡ false
    → IfSome o (IsQuotaOf t.nodes) → n ≡ option_map (noted (kind_of deed) i child made) o → IfSome n (IsQuotaOf after.tree.nodes)
noted_if one t i child made deed after None n tree grown still less which node is free quota new = subst (λ x. IfSome x (IsQuotaOf after.tree.nodes)) (sym new) tt
noted_if one t i child made deed after (Some q) n tree grown still less which node is free quota new =
    subst (λ x. IfSome x (IsQuotaOf after.tree.nodes)) (sym new) (noted_is one t i child made deed after q tree grown still less which node is free quota)

-- what is counted changes no limits
same_most : (kind : ActionKind) (i child made : ℕ) (q : Quota) → (noted kind i child made q).most ≡ q.most
same_most kind i child made q = by (is_some (makes kind)) where
  by : (b : Bool) → (noted_by b kind i child made q).most ≡ q.most
  by true = refl
  by false = refl

pub same_limits : (kind : ActionKind) (i child made : ℕ) (o n : Option Quota) → n ≡ option_map (noted kind i child made) o → limits_of n ≡ limits_of o
same_limits kind i child made o n new = ap limits_of new ∙ by o where
  by : (o : Option Quota) → limits_of (option_map (noted kind i child made) o) ≡ limits_of o
  by None = refl
  by (Some q) = ap (λ m. record { offspring = Some m }) (same_most kind i child made q)

-- where no node was made
pub still_if : (old new : List NodeFacts) (o : Option Quota) → AreStill old new → length new ≡ length old → IfSome o (IsQuotaOf old) → IfSome o (IsQuotaOf new)
still_if old new None still many is = tt
still_if old new (Some q) still many is = still_quota old new q still many is

-- a decision makes no node
decided_if : (b n : BookFacts) (c : Claimed) (o : Option Quota) → AreStill b.state.tree.nodes n.state.tree.nodes → n ≡ entered b (Decided c) → IfSome o (IsQuotaOf b.state.tree.nodes)
    → IfSome o (IsQuotaOf n.state.tree.nodes)
decided_if b n c o still is quota =
    still_if b.state.tree.nodes n.state.tree.nodes o still (ap (λ (x : BookFacts). length x.state.tree.nodes) is ∙ decided_many b.state.tree c.domain (choices_of (answer_of c).verdict)) quota

-- where one was entered, or nothing has changed
pub entered_quota : (did : Bool) (b n : BookFacts) (c : Claimed) (o : Option Quota) → (IsTrue did → AreStill b.state.tree.nodes n.state.tree.nodes) → (IsTrue did → n ≡ entered b (Decided c)) → (did ≡ false → n ≡ b)
    → IfSome o (IsQuotaOf b.state.tree.nodes) → IfSome o (IsQuotaOf n.state.tree.nodes)
entered_quota true b n c o still done stays quota = decided_if b n c o (still refl) (done refl) quota
entered_quota false b n c o still done stays quota = subst (λ (x : BookFacts). IfSome o (IsQuotaOf x.state.tree.nodes)) (sym (stays refl)) quota

-- where the domain that waits, if one does, was decided for want of memory
pub given_up_quota : (did : Bool) (r : Option ℕ) (b n : BookFacts) (o : Option Quota) → did ≡ is_some r → (IsTrue did → AreStill b.state.tree.nodes n.state.tree.nodes) → (r ≡ None → n ≡ b)
    → IfSome r (λ d. n ≡ entered b (Decided (record { domain = d; claim = None }))) → IfSome o (IsQuotaOf b.state.tree.nodes) → IfSome o (IsQuotaOf n.state.tree.nodes)
given_up_quota did None b n o waits still stays done quota = subst (λ (x : BookFacts). IfSome o (IsQuotaOf x.state.tree.nodes)) (sym (stays refl)) quota
given_up_quota did (Some d) b n o waits still stays done quota = decided_if b n (record { domain = d; claim = None }) o (still waits) done quota

-- no child of the root has more below it than it may
pub bounded_if : (nodes : List NodeFacts) (o : Option Quota) → IfSome o (IsQuotaOf nodes) → IsBounded (limits_of o) nodes
bounded_if nodes None is = λ top. tt
bounded_if nodes (Some q) is = is.bounded

-- an action whose limits aren't spent is answered as the tree answers it
pub within_free : (limits : Limits) (t : TreeFacts) (i : ℕ) (deed : Deed) → is_spent limits t.nodes (path_of t.nodes i) (kind_of deed) ≡ false → applied_within limits t i deed ≡ applied t i deed
within_free limits t i deed free = free_answer (is_spent limits t.nodes (path_of t.nodes i) (kind_of deed)) (applied t i deed) free

-- also where there are none
pub within_none : (o : Option Quota) (t : TreeFacts) (i : ℕ) (deed : Deed) → o ≡ None → applied_within (limits_of o) t i deed ≡ applied t i deed
within_none o t i deed none = within_free (limits_of o) t i deed (unlimited (limits_of o) t.nodes (path_of t.nodes i) (kind_of deed) (ap (λ (x : Option Quota). (limits_of x).offspring) none))

-- and one that the tree refuses
pub within_refused : (limits : Limits) (t : TreeFacts) (i : ℕ) (deed : Deed) → is_some (result_err (applied t i deed)) ≡ true → applied_within limits t i deed ≡ applied t i deed
within_refused limits t i deed refused = refused_answer (is_spent limits t.nodes (path_of t.nodes i) (kind_of deed)) (applied t i deed) refused

-- for another there are too many nodes
pub beyond_limits : (limits : Limits) (t : TreeFacts) (i : ℕ) (deed : Deed) → is_spent limits t.nodes (path_of t.nodes i) (kind_of deed) ≡ true → result_err (applied t i deed) ≡ None
    → applied_within limits t i deed ≡ Err TooManyNodes
beyond_limits limits t i deed spent none = refused_beyond (is_spent limits t.nodes (path_of t.nodes i) (kind_of deed)) (applied t i deed) spent none

-- where an action is accepted and answered as the tree answers it, the limits aren't spent
pub unspent_where : (limits : Limits) (t : TreeFacts) (i : ℕ) (deed : Deed) (after : Applied) → applied_within limits t i deed ≡ applied t i deed → applied t i deed ≡ Ok after
    → is_spent limits t.nodes (path_of t.nodes i) (kind_of deed) ≡ false
unspent_where limits t i deed after within is = (accepted_within (is_spent limits t.nodes (path_of t.nodes i) (kind_of deed)) (applied t i deed) after (within ∙ is)).1

-- of a quota, if there is one, one more can be counted
pub place_if : OnePath → (nodes : List NodeFacts) (o : Option Quota) (i : ℕ) → IsTree nodes → IfSome o (IsQuotaOf nodes) → i < length nodes → IfSome o (HasPlace i)
place_if one nodes None i tree is less = tt
place_if one nodes (Some q) i tree is less = has_place one nodes q i tree is less

pub child_of_state : (o : Option NodeFacts) (s : NodeState) → IfSome o (λ n. s ≡ n.state) → IfSome o (λ n. s.children ≡ n.state.children)
child_of_state None s is = tt
child_of_state (Some n) s is = ap (λ (x : NodeState). x.children) is
