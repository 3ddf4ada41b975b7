-- What callers need of a domain's forest of numbers beside its shape, and of how far choices go.
use Rattle.std.proofs.Common.{◌≡◌, ◌<◌, ◌≤◌, ℕ, zero, suc, ◌+◌, ◌*◌, List, [], ◌∷◌, ◌++◌, drop, length, map, Option, Some, None, slice_get, refl, sym, ◌∙◌, ap, subst, arith, length-append}
use Rattle.std.specs.Prelude.{IsSome, option_map, option_and_then}
use Rattle.std.proofs.lemmas.List.{length-drop, length-map}
use Rattle.std.proofs.lemmas.Option.{same_Some, option_and_then_some}
use Rattle.std.specs.List.{AllByRecursion}
use Rattle.negotiation_inputs.specs.Participant.{Participant}
use Rattle.verdict_claims.specs.Asked.{asks_at}
use Rattle.sysmem_tree.specs.declared.state.NodeKind.{NodeKind}
use Rattle.sysmem_tree.specs.declared.state.NodeKind.TheVariants as kinds
use Rattle.sysmem_tree.specs.Forest.{Forest, Empty, Plain, Group, each, kids_else_rest, choices, settled, relabel, count, count_each, first_group}
use Rattle.sysmem_tree.specs.Layout.{size}
use Rattle.sysmem_tree.specs.Node.{NodeFacts}
use Rattle.sysmem_tree.specs.Nodes.{IsTree}
use Rattle.sysmem_tree.specs.Path.{path_of}
use Rattle.sysmem_tree.specs.Selection.{after, IsPrefix}
use Rattle.sysmem_tree.specs.Shape.{Member, tree_of, kid_of, before, kids_from, rooted, forest_of, by_number, by_path, shape_of}
use Rattle.sysmem_tree.proofs.CallerLemmas.{few_numbers, forest_here, size_tree, numbers, front, IfAny, all_mapped, all_at, settled_relabel, choices_relabel, after_relabel, first_many}

-- what a member asks
abbrev pub member_asks : Member → Option Participant
member_asks m = m.constraints

at_front : (nodes : List NodeFacts) (s : ℕ) (x : NodeFacts) (xs : List NodeFacts) → x ∷ xs ≡ drop s nodes → (slice_get nodes s ≡ Some x) × (xs ≡ drop (s + 1) nodes)
at_front [] zero x xs is = absurd (cc)
at_front [] (suc s) x xs is = absurd (cc)
at_front (n ∷ nodes) zero x xs is = (cc, cc)
at_front (n ∷ nodes) (suc s) x xs is =
    let (here, rest) = at_front nodes s x xs is in
    let z : suc (s + 1) ≡ suc s + 1 = omega arith in (here, rest ∙ ap (λ i. drop i (n ∷ nodes)) z)

-- by what is asked, the numbers and the shape are one forest
module _ (nodes : List NodeFacts) where
  same_tree : (k : NodeKind) (i : ℕ) (m : Member) (a b : Forest ℕ) (c d : Forest Member) → asks_at nodes i ≡ member_asks m → relabel (asks_at nodes) a ≡ relabel member_asks c
      → relabel (asks_at nodes) b ≡ relabel member_asks d → relabel (asks_at nodes) (tree_of k i a b) ≡ relabel member_asks (tree_of k m c d)
  same_tree kinds.Token i m a b c d l k r = ap (λ x. Plain x (relabel (asks_at nodes) a) (relabel (asks_at nodes) b)) l
      ∙ (ap (λ x. Plain (member_asks m) x (relabel (asks_at nodes) b)) k ∙ ap (λ x. Plain (member_asks m) (relabel member_asks c) x) r)
  same_tree kinds.Group i m a b c d l k r = ap (λ x. Group x (relabel (asks_at nodes) a) (relabel (asks_at nodes) b)) l
      ∙ (ap (λ x. Group (member_asks m) x (relabel (asks_at nodes) b)) k ∙ ap (λ x. Group (member_asks m) (relabel member_asks c) x) r)
  same_tree kinds.Collection i m a b c d l k r = ap (λ x. Plain x (relabel (asks_at nodes) a) (relabel (asks_at nodes) b)) l
      ∙ (ap (λ x. Plain (member_asks m) x (relabel (asks_at nodes) b)) k ∙ ap (λ x. Plain (member_asks m) (relabel member_asks c) x) r)

  same_before : (u : Option ℕ) (f : ℕ → Forest ℕ → Forest ℕ) (g : ℕ → Forest Member → Forest Member) (a : Forest ℕ) (b : Forest Member)
      → relabel (asks_at nodes) a ≡ relabel member_asks b → ((o : ℕ) → relabel (asks_at nodes) (f o a) ≡ relabel member_asks (g o b))
      → relabel (asks_at nodes) (before u f a) ≡ relabel member_asks (before u g b)
  same_before None f g a b rest one = rest
  same_before (Some o) f g a b rest one = one o

  same_kids : (xs : List NodeFacts) (domain s p : ℕ) (q r : List ℕ) → xs ≡ drop s nodes
      → relabel (asks_at nodes) (kids_from by_number domain s xs p q) ≡ relabel member_asks (kids_from by_path domain s xs p r)
  same_kids [] domain s p q r is = refl
  same_kids (x ∷ xs) domain s p q r is =
      let (here, rest) = at_front nodes s x xs is in
      let behind = same_kids xs domain (s + 1) p q r rest in
      same_before (kid_of domain p x)
      (λ o. tree_of x.state.kind s (kids_from by_number domain (s + 1) xs s (q ++ o ∷ [])))
      (λ o. tree_of x.state.kind (by_path s (r ++ o ∷ []) x) (kids_from by_path domain (s + 1) xs s (r ++ o ∷ [])))
      (kids_from by_number domain (s + 1) xs p q)
      (kids_from by_path domain (s + 1) xs p r)
      behind
      (λ o. same_tree x.state.kind s (by_path s (r ++ o ∷ []) x) _ _ _ _ (ap (option_and_then (λ (n : NodeFacts). n.constraints)) here)
      (same_kids xs domain (s + 1) s (q ++ o ∷ []) (r ++ o ∷ []) rest) behind)

  same_rooted : (r : ℕ) (path : List ℕ) (o : Option NodeFacts) → slice_get nodes r ≡ o
      → relabel (asks_at nodes) (rooted by_number nodes r [] o) ≡ relabel member_asks (rooted by_path nodes r path o)
  same_rooted r path None is = refl
  same_rooted r path (Some n) is = same_tree n.state.kind r (by_path r path n) _ _ _ _ (ap (option_and_then (λ (x : NodeFacts). x.constraints)) is) (same_kids nodes r 0 r [] path refl) refl

  one_asked : (r : ℕ) → relabel (asks_at nodes) (forest_of by_number nodes r []) ≡ relabel member_asks (shape_of nodes r)
  one_asked r = same_rooted r (path_of nodes r) (slice_get nodes r) refl

  both_after : (r : ℕ) (cs : List ℕ) → option_map (relabel (asks_at nodes)) (after (forest_of by_number nodes r []) cs) ≡ option_map (relabel member_asks) (after (shape_of nodes r) cs)
  both_after r cs = sym (after_relabel (asks_at nodes) cs (forest_of by_number nodes r [])) ∙ (ap (λ d. after d cs) (one_asked r) ∙ after_relabel member_asks cs (shape_of nodes r))

  -- choices for a domain's shape are choices for its numbers
  pub prefix_of_numbers : (r : ℕ) (cs : List ℕ) → IsPrefix (shape_of nodes r) cs → IsPrefix (forest_of by_number nodes r []) cs
  prefix_of_numbers r cs h = by (after (forest_of by_number nodes r []) cs) (after (shape_of nodes r) cs) (both_after r cs) h where
    by : (o : Option (Forest ℕ)) (u : Option (Forest Member)) → option_map (relabel (asks_at nodes)) o ≡ option_map (relabel member_asks) u → IsSome u → IsSome o
    by None None e h = h
    by None (Some d) e h = absurd (cc)
    by (Some x) u e h = refl

  same_left : (r : ℕ) (cs : List ℕ) (e : Forest ℕ) (d : Forest Member) → after (forest_of by_number nodes r []) cs ≡ Some e → after (shape_of nodes r) cs ≡ Some d
      → relabel (asks_at nodes) e ≡ relabel member_asks d
  same_left r cs e d one two = same_Some (relabel (asks_at nodes) e) (relabel member_asks d)
      (sym (ap (option_map (relabel (asks_at nodes))) one) ∙ (both_after r cs ∙ ap (option_map (relabel member_asks)) two))

  -- what is settled asks the same, in the same order
  pub same_settled : (r : ℕ) (cs : List ℕ) (e : Forest ℕ) (d : Forest Member) → after (forest_of by_number nodes r []) cs ≡ Some e → after (shape_of nodes r) cs ≡ Some d
      → map (asks_at nodes) (settled e) ≡ map member_asks (settled d)
  same_settled r cs e d one two = sym (settled_relabel (asks_at nodes) e) ∙ (ap settled (same_left r cs e d one two) ∙ settled_relabel member_asks d)

  long_mapped : {A B : Type 0} (f : A → B) (o : Option (List A)) → option_map length (option_map (map f) o) ≡ option_map length o
  long_mapped f None = refl
  long_mapped f (Some xs) = ap Some (length-map xs f)

  -- the first group has as many children
  pub same_choices : (r : ℕ) (cs : List ℕ) (e : Forest ℕ) (d : Forest Member) → after (forest_of by_number nodes r []) cs ≡ Some e → after (shape_of nodes r) cs ≡ Some d
      → option_map length (choices d) ≡ option_map (λ (g : ℕ × ℕ). g.1) (first_group e)
  same_choices r cs e d one two =
      sym (long_mapped (relabel member_asks) (choices d))
      ∙ (ap (option_map length) (sym (choices_relabel member_asks d) ∙ (ap choices (sym (same_left r cs e d one two)) ∙ choices_relabel (asks_at nodes) e))
      ∙ (long_mapped (relabel (asks_at nodes)) (choices e) ∙ first_many e))

-- how many groups a forest has
abbrev groups : {A : Type 0} → Forest A → ℕ
groups Empty = 0
groups (Plain n kids rest) = groups kids + groups rest
groups (Group n kids rest) = suc (groups kids + groups rest)

groups_few : {A : Type 0} (d : Forest A) → groups d ≤ size d
groups_few Empty = omega arith
groups_few (Plain n kids rest) = let a = groups_few kids in let b = groups_few rest in omega (arith, a, b)
groups_few (Group n kids rest) = let a = groups_few kids in let b = groups_few rest in omega (arith, a, b)

-- a choice takes a group away, and adds no nodes
record Falls {A : Type 0} (d e : Forest A) : Type 0 where
  fewer : groups e < groups d
  no_more : size e ≤ size d

-- one tree has no more groups and nodes than all
record Within {A : Type 0} (d e : Forest A) : Type 0 where
  groups : groups e ≤ groups d
  nodes : size e ≤ size d

all_weaker : {X : Type 0} (P Q : X → Type 0) (xs : List X) → ((x : X) → P x → Q x) → AllByRecursion P xs → AllByRecursion Q xs
all_weaker P Q [] h a = tt
all_weaker P Q (x ∷ xs) h a = (h x a.0, all_weaker P Q xs h a.1)

module _ {A : Type 0} where
  each_within : (d : Forest A) → AllByRecursion (Within d) (each d)
  each_within Empty = tt
  each_within (Plain n kids rest) = (
    record { groups = omega arith; nodes = omega arith },
    all_weaker (Within rest) (Within (Plain n kids rest)) (each rest) (λ e w. record { groups = omega (arith, w.groups); nodes = omega (arith, w.nodes) }) (each_within rest),
  )
  each_within (Group n kids rest) = (
    record { groups = omega arith; nodes = omega arith },
    all_weaker (Within rest) (Within (Group n kids rest)) (each rest) (λ e w. record { groups = omega (arith, w.groups); nodes = omega (arith, w.nodes) }) (each_within rest),
  )

  falls_in : (n : A) (kids rest : Forest A) (ks rs : Option (List (Forest A))) → IfAny (Unit {0}) (AllByRecursion (Falls kids)) ks → IfAny (Unit {0}) (AllByRecursion (Falls rest)) rs
      → IfAny (Unit {0}) (AllByRecursion (Falls (Plain n kids rest))) (kids_else_rest (λ k. Plain n k rest) (λ r. Plain n kids r) ks rs)
  falls_in n kids rest (Some ks) rs hk hr = all_mapped (Falls kids) (Falls (Plain n kids rest)) (λ k. Plain n k rest) ks
      (λ k f. record { fewer = omega (arith, f.fewer); no_more = omega (arith, f.no_more) }) hk
  falls_in n kids rest None (Some rs) hk hr = all_mapped (Falls rest) (Falls (Plain n kids rest)) (λ r. Plain n kids r) rs
      (λ k f. record { fewer = omega (arith, f.fewer); no_more = omega (arith, f.no_more) }) hr
  falls_in n kids rest None None hk hr = tt

  falls : (d : Forest A) → IfAny (Unit {0}) (AllByRecursion (Falls d)) (choices d)
  falls Empty = tt
  falls (Plain n kids rest) = falls_in n kids rest (choices kids) (choices rest) (falls kids) (falls rest)
  falls (Group n kids rest) = all_mapped (Within kids) (Falls (Group n kids rest)) (λ kid. Plain n kid rest) (each kids)
      (λ k w. record { fewer = omega (arith, w.groups); no_more = omega (arith, w.nodes) }) (each_within kids)

  one_falls : (d e : Forest A) (c : ℕ) (o : Option (List (Forest A))) → IfAny (Unit {0}) (AllByRecursion (Falls d)) o → option_and_then (λ es. slice_get es c) o ≡ Some e → Falls d e
  one_falls d e c None all is = absurd (cc)
  one_falls d e c (Some es) all is = all_at (Falls d) es c e is all

  -- each choice takes a group away
  record Left (d e : Forest A) (cs : List ℕ) : Type 0 where
    fewer : length cs + groups e ≤ groups d
    no_more : size e ≤ size d

  left_after : (d e : Forest A) (cs : List ℕ) → after d cs ≡ Some e → Left d e cs
  left_after d e [] is =
      let same = same_Some d e is in
      record { fewer = subst (λ x. 0 + groups x ≤ groups d) same (omega arith); no_more = subst (λ x. size x ≤ size d) same (omega arith) }
  left_after d e (c ∷ cs) is = option_and_then_some (λ x. after x cs) (option_and_then (λ es. slice_get es c) (choices d)) e is
      (λ x one on.
      let f = one_falls d x c (choices d) (falls d) one in
      let l = left_after x e cs on in
      record { fewer = omega (arith, f.fewer, l.fewer); no_more = omega (arith, f.no_more, l.no_more) })

  each_few : (d : Forest A) → length (each d) ≤ size d
  each_few Empty = omega arith
  each_few (Plain n kids rest) = let h = each_few rest in omega (arith, h)
  each_few (Group n kids rest) = let h = each_few rest in omega (arith, h)

  -- a group's children are some of the nodes, and the group is one of the groups
  abbrev Open : Forest A → List (Forest A) → Type 0
  Open d es = (length es ≤ size d) × (0 < groups d)

  open_in : (n : A) (kids rest : Forest A) (ks rs : Option (List (Forest A))) → IfAny (Unit {0}) (Open kids) ks → IfAny (Unit {0}) (Open rest) rs
      → IfAny (Unit {0}) (Open (Plain n kids rest)) (kids_else_rest (λ k. Plain n k rest) (λ r. Plain n kids r) ks rs)
  open_in n kids rest (Some ks) rs hk hr = let l = length-map ks (λ k. Plain n k rest) in (omega (arith, l, hk.0), omega (arith, hk.1))
  open_in n kids rest None (Some rs) hk hr = let l = length-map rs (λ r. Plain n kids r) in (omega (arith, l, hr.0), omega (arith, hr.1))
  open_in n kids rest None None hk hr = tt

  few_open : (d : Forest A) → IfAny (Unit {0}) (Open d) (choices d)
  few_open Empty = tt
  few_open (Plain n kids rest) = open_in n kids rest (choices kids) (choices rest) (few_open kids) (few_open rest)
  few_open (Group n kids rest) =
      let l = length-map (each kids) (λ kid. Plain n kid rest) in
      let h = each_few kids in (omega (arith, l, h), omega arith)

-- a domain has at most 128 nodes
few_nodes : (nodes : List NodeFacts) (r : ℕ) → IsTree nodes → r < length nodes → size (forest_of by_number nodes r []) ≤ 128
few_nodes nodes r tree there =
    let (n, at, _) = front nodes r there in
    let few = few_numbers r (drop (r + 1) nodes) (r + 1) r (omega arith) in
    let is : size (forest_of by_number nodes r []) ≡ suc (size (numbers r (r + 1) (drop (r + 1) nodes) r) + 0) =
    ap size (forest_here nodes tree r n there at) ∙ size_tree n.state.kind r (numbers r (r + 1) (drop (r + 1) nodes) r) Empty in
    omega (arith, is, few, length-drop (r + 1) nodes, tree.few, there)

-- where a group is left, fewer than 128 choices were made, and it has at most 128 children
pub few_choices : (nodes : List NodeFacts) (r : ℕ) (cs : List ℕ) (e : Forest ℕ) (group children : ℕ) → IsTree nodes → r < length nodes → after (forest_of by_number nodes r []) cs ≡ Some e
    → first_group e ≡ Some (group, children) → (length cs < 128) × (children ≤ 128)
few_choices nodes r cs e group children tree there is next = by (choices e) (few_open e) (first_many e ∙ ap (option_map (λ (g : ℕ × ℕ). g.1)) next) where
  by : (o : Option (List (Forest ℕ))) → IfAny (Unit {0}) (Open e) o → option_map length o ≡ Some children → (length cs < 128) × (children ≤ 128)
  by None h long = absurd (cc)
  by (Some es) h long =
      let l = left_after (forest_of by_number nodes r []) e cs is in
      let all = few_nodes nodes r tree there in
      let some = groups_few (forest_of by_number nodes r []) in
      let same : length es ≡ children = same_Some (length es) children long in
      (omega (arith, l.fewer, h.1, all, some), omega (arith, same, h.0, l.no_more, all))

settled_few : {A : Type 0} (d : Forest A) → length (settled d) ≤ size d
settled_few Empty = omega arith
settled_few (Plain n kids rest) = let a = settled_few kids in let b = settled_few rest in omega (arith, a, b, length-append (settled kids) (settled rest))
settled_few (Group n kids rest) = let b = settled_few rest in omega (arith, b)

-- at most 128 nodes are settled
pub few_settled : (nodes : List NodeFacts) (r : ℕ) (cs : List ℕ) (e : Forest ℕ) → IsTree nodes → r < length nodes → after (forest_of by_number nodes r []) cs ≡ Some e → length (settled e) ≤ 128
few_settled nodes r cs e tree there is =
    let l = left_after (forest_of by_number nodes r []) e cs is in
    let all = few_nodes nodes r tree there in
    let some = settled_few e in omega (arith, l.no_more, all, some)

-- other labels change no count
count_relabel : {A B : Type 0} (f : A → B) (d : Forest A) → (count (relabel f d) ≡ count d) × (count_each (relabel f d) ≡ count_each d)
count_relabel f Empty = (refl, refl)
count_relabel f (Plain n kids rest) =
    let (a, b) = count_relabel f kids in
    let (u, v) = count_relabel f rest in (ap (λ x. x * count (relabel f rest)) a ∙ ap (λ x. count kids * x) u, ap (λ x. x + count_each (relabel f rest)) a ∙ ap (λ x. count kids + x) v)
count_relabel f (Group n kids rest) =
    let (a, b) = count_relabel f kids in
    let (u, v) = count_relabel f rest in (
      ap (λ x. x * count (relabel f rest)) b ∙ ap (λ x. count_each kids * x) u,
      ap (λ x. x + count_each (relabel f rest)) b ∙ ap (λ x. count_each kids + x) v,
    )

-- a domain has as many selections by numbers as by its shape
pub same_count : (nodes : List NodeFacts) (r : ℕ) → count (forest_of by_number nodes r []) ≡ count (shape_of nodes r)
same_count nodes r = sym (count_relabel (asks_at nodes) (forest_of by_number nodes r [])).0 ∙ (ap count (one_asked nodes r) ∙ (count_relabel member_asks (shape_of nodes r)).0)
