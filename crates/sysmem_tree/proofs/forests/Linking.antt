-- Links lead through the forest of a domain.
use Rattle.std.proofs.Common.{◌≡◌, ◌≢◌, ◌≤◌, ◌<◌, ℕ, zero, suc, ◌+◌, ◌-◌, ◌==◌, Bool, true, false, List, [], ◌∷◌, Option, Some, None, length, drop, replicate, get_or, slice_get, slice_set, refl, sym, ◌∙◌, ap, subst, eq-eqb, arith, inl, inr}
use Rattle.std.specs.Prelude.{is_some, option_map, slice_index_or, IsSomeAnd, IfSome, if◌then◌else◌}
use Rattle.std.proofs.lemmas.Bool.{cases_Bool, cases_eq}
use Rattle.std.proofs.lemmas.List.{drop-drop, length-drop}
use Rattle.std.proofs.Math.Seq.{drop-length}
use Rattle.std.proofs.lemmas.Option.{same_Some, slice_get-get_or, slice_get_within, slice_get_read, get_or_from_slice_get}
use Rattle.sysmem_tree.specs.declared.links.Links.{Links}
use Rattle.sysmem_tree.specs.declared.node.Birth.{Birth}
use Rattle.sysmem_tree.specs.Forest.{Empty}
use Rattle.sysmem_tree.specs.Layout.{size}
use Rattle.sysmem_tree.specs.Links.{AreLinks, IsBelow, first_kid, parent_in, parent_of, siblings_from, with_siblings}
use Rattle.sysmem_tree.specs.Node.{NodeFacts}
use Rattle.sysmem_tree.specs.Nodes.{IsTree, ordinal_under}
use Rattle.sysmem_tree.specs.Shape.{by_number, forest_of, kid_of, kids_from, tree_of}
use Rattle.sysmem_tree.proofs.forests.Few.{few_numbers, forest_here, kid_is_later, kids_later}
use Rattle.sysmem_tree.proofs.layouts.Layouts.{size_tree, set_here, set_other}
use Rattle.sysmem_tree.proofs.nodes.Ways.{eq-nat}
use Rattle.sysmem_tree.proofs.forests.Numbers.{drop_here, numbers, numbers_here, numbers_other}

-- a node of the domain is a child of its parent
kid_by : (t : Bool) (o : Option Birth) (p : ℕ) → (if t then option_map (λ (b : Birth). b.parent) o else None) ≡ Some p → is_some (if t then ordinal_under p o else None) ≡ true
kid_by true None p e = absurd (cc)
kid_by true (Some b) p e = ap (λ x. is_some (if x then Some b.ordinal else None)) (eq-eqb b.parent p (same_Some b.parent p e))
kid_by false o p e = absurd (cc)

pub is_kid_of : (r p : ℕ) (n : NodeFacts) → parent_in r n ≡ Some p → is_some (kid_of r p n) ≡ true
is_kid_of r p n e = kid_by (n.domain == r) n.birth p e

-- and of no other
parent_by : (t : Bool) (o : Option Birth) (p : ℕ) → is_some (if t then ordinal_under p o else None) ≡ true
    → (t ≡ true) × (parent_of o ≡ p) × ((if t then option_map (λ (b : Birth). b.parent) o else None) ≡ Some p)
parent_by true None p e = absurd (cc)
parent_by true (Some b) p e = under (b.parent == p) refl e where
  under : (x : Bool) → (b.parent == p) ≡ x → is_some (if x then Some b.ordinal else None) ≡ true → (true ≡ true) × (b.parent ≡ p) × (Some b.parent ≡ Some p)
  under true is e = let same = eq-nat b.parent p is in (refl, same, ap Some same)
  under false is e = absurd (cc)
parent_by false o p e = absurd (cc)

pub kid_parent : (r p : ℕ) (n : NodeFacts) → is_some (kid_of r p n) ≡ true → (n.domain ≡ r) × (parent_of n.birth ≡ p) × (parent_in r n ≡ Some p)
kid_parent r p n e = let (t, q, i) = parent_by (n.domain == r) n.birth p e in (eq-nat n.domain r t, q, i)

-- where the first child stands, and that all others come behind it
record IsFound (r p i : ℕ) (xs : List NodeFacts) (k : ℕ) : Type 0 where
  at : ℕ
  is : k ≡ i + at
  node : NodeFacts
  there : slice_get xs at ≡ Some node
  kid : is_some (kid_of r p node) ≡ true
  same : numbers r i xs p ≡ numbers r k (drop at xs) p

if_true : {X : Type 0} (t : Bool) (x y : X) → t ≡ true → (if t then x else y) ≡ x
if_true true x y e = refl
if_true false x y e = absurd (cc)

if_false : {X : Type 0} (t : Bool) (x y : X) → t ≡ false → (if t then x else y) ≡ y
if_false true x y e = absurd (cc)
if_false false x y e = refl

found : (r p i : ℕ) (xs : List NodeFacts) (k : ℕ) → first_kid r p i xs ≡ Some k → IsFound r p i xs k
found r p i [] k e = absurd (cc)
found r p i (n ∷ xs) k e = elim (cases_Bool (is_some (kid_of r p n))) [
  | inl kid ↦
      let same : i ≡ k = same_Some i k (sym (if_true (is_some (kid_of r p n)) (Some i) (first_kid r p (i + 1) xs) kid) ∙ e) in
      record { at = 0; is = omega (arith, same); node = n; there = refl; kid = kid; same = ap (λ m. numbers r m (n ∷ xs) p) same }
  | inr other ↦
      let h = found r p (i + 1) xs k (sym (if_false (is_some (kid_of r p n)) (Some i) (first_kid r p (i + 1) xs) other) ∙ e) in
      let z = h.is in
      record { at = suc h.at; is = omega (arith, z); node = h.node; there = h.there; kid = h.kid; same = numbers_other r i p n xs other ∙ h.same }
]

none_found : (r p i : ℕ) (xs : List NodeFacts) → first_kid r p i xs ≡ None → numbers r i xs p ≡ Empty
none_found r p i [] e = refl
none_found r p i (n ∷ xs) e = elim (cases_Bool (is_some (kid_of r p n))) [
  | inl kid ↦ absurd (none (sym (if_true (is_some (kid_of r p n)) (Some i) (first_kid r p (i + 1) xs) kid) ∙ e))
  | inr other ↦ numbers_other r i p n xs other ∙ none_found r p (i + 1) xs (sym (if_false (is_some (kid_of r p n)) (Some i) (first_kid r p (i + 1) xs) other) ∙ e)
] where
  none : Some i ≡ None → ⊥
  none h = absurd (cc)

pub get_dropped : {X : Type 0} (xs : List X) (i j : ℕ) → slice_get (drop i xs) j ≡ slice_get xs (i + j)
get_dropped xs zero j = let z : j ≡ 0 + j = omega arith in ap (slice_get xs) z
get_dropped [] (suc i) j = refl
get_dropped (x ∷ xs) (suc i) j = let z : suc (i + j) ≡ suc i + j = omega arith in get_dropped xs i j ∙ ap (slice_get (x ∷ xs)) z

-- a child among the nodes from number i on
pub record IsKidFrom (nodes : List NodeFacts) (r p i k : ℕ) : Type 0 where
  pub from : i ≤ k
  pub node : NodeFacts
  pub there : slice_get nodes k ≡ Some node
  pub kid : is_some (kid_of r p node) ≡ true
  pub same : numbers r i (drop i nodes) p ≡ numbers r k (drop k nodes) p

pub first_is_kid : (nodes : List NodeFacts) (r p i k : ℕ) → first_kid r p i (drop i nodes) ≡ Some k → IsKidFrom nodes r p i k
first_is_kid nodes r p i k e =
    let f = found r p i (drop i nodes) k e in
    let z = f.is in
    record {
      from = omega (arith, z);
      node = f.node;
      there = ap (slice_get nodes) z ∙ (sym (get_dropped nodes i f.at) ∙ f.there);
      kid = f.kid;
      same = f.same ∙ ap (λ xs. numbers r k xs p) (drop-drop f.at i nodes ∙ ap (λ m. drop m nodes) (sym z));
    }

-- a child of p with the siblings that follow it
siblings_here : (nodes : List NodeFacts) (r p k : ℕ) (n : NodeFacts) → slice_get nodes k ≡ Some n → is_some (kid_of r p n) ≡ true
    → siblings_from nodes (Some k) ≡ numbers r k (drop k nodes) p
siblings_here nodes r p k n at kid = let (domain, parent, _) = kid_parent r p n kid in
    ap (with_siblings nodes k) at
    ∙ (ap (λ d. kids_from by_number d k (drop k nodes) (parent_of n.birth) []) domain
    ∙ ap (λ q. numbers r k (drop k nodes) q) parent)

-- all children of p from number i on are the first of them with the siblings that follow it
pub kids_linked : (nodes : List NodeFacts) (r p i : ℕ) → numbers r i (drop i nodes) p ≡ siblings_from nodes (first_kid r p i (drop i nodes))
kids_linked nodes r p i = by (first_kid r p i (drop i nodes)) refl where
  by : (o : Option ℕ) → first_kid r p i (drop i nodes) ≡ o → numbers r i (drop i nodes) p ≡ siblings_from nodes o
  by None e = none_found r p i (drop i nodes) e
  by (Some k) e = let f = first_is_kid nodes r p i k e in f.same ∙ sym (siblings_here nodes r p k f.node f.there f.kid)

-- at most so many nodes come from this one on
abbrev pub left_from : ℕ → Option ℕ → ℕ
left_from many None = 0
left_from many (Some i) = many - i

-- what the links tell of a node: its first child and its next sibling come after it, and lead
-- to what is below it and behind it
pub record IsLinked (nodes : List NodeFacts) (r i : ℕ) (n : NodeFacts) (kids next : Option ℕ) : Type 0 where
  pub kids_below : IfSome kids (λ k. (i < k) × IsBelow nodes r k)
  pub next_below : IfSome next (λ k. (i < k) × IsBelow nodes r k)
  pub tree : siblings_from nodes (Some i) ≡ tree_of n.state.kind i (siblings_from nodes kids) (siblings_from nodes next)

module _ (nodes : List NodeFacts) (tree : IsTree nodes) (r : ℕ) where
  -- a first child, where there is one, is below the domain's root
  pub first_below : (p i : ℕ) → r < i → IfSome (first_kid r p i (drop i nodes)) (λ k. (i ≤ k) × (p < k) × IsBelow nodes r k)
  first_below p i less = by (first_kid r p i (drop i nodes)) refl where
    by : (o : Option ℕ) → first_kid r p i (drop i nodes) ≡ o → IfSome o (λ k. (i ≤ k) × (p < k) × IsBelow nodes r k)
    by None e = tt
    by (Some k) e =
        let f = first_is_kid nodes r p i k e in
        let (domain, _, _) = kid_parent r p f.node f.kid in (
          f.from,
          kid_is_later nodes tree p r k f.node f.there f.kid,
          record { later = omega (arith, f.from, less); inside = subst (λ o. IsSomeAnd o (λ n. n.domain ≡ r)) (sym f.there) domain },
        )

  -- a node below the root is the child of some parent
  below_kid : (i : ℕ) (n : NodeFacts) → IsBelow nodes r i → slice_get nodes i ≡ Some n → is_some (kid_of r (parent_of n.birth) n) ≡ true
  below_kid zero n below at = absurd (omega (arith, below.later))
  below_kid (suc k) n below at = is_kid_of r (parent_of n.birth) n
      (ap (λ t. if t then option_map (λ (b : Birth). b.parent) n.birth else None) (eq-eqb n.domain r (subst (λ o. IsSomeAnd o (λ n. n.domain ≡ r)) at below.inside))
      ∙ born n.birth (tree.child k n at)) where
        born : (o : Option Birth) → IsSomeAnd o (λ b. b.parent ≤ k) → option_map (λ (b : Birth). b.parent) o ≡ Some (parent_of o)
        born None h = absurd h
        born (Some b) h = refl

  module _ (links : Links) (are : AreLinks nodes r (r + 1) links) (i : ℕ) (below : IsBelow nodes r i) (n : NodeFacts) (at : slice_get nodes i ≡ Some n) where
    abbrev kids : Option ℕ
    kids = first_kid r i (r + 1) (drop (r + 1) nodes)

    abbrev next : Option ℕ
    next = first_kid r (parent_of n.birth) (i + 1) (drop (i + 1) nodes)

    weaker : (o : Option ℕ) (f g : ℕ → Type 0) → ((k : ℕ) → f k → g k) → IfSome o f → IfSome o g
    weaker None f g h all = tt
    weaker (Some k) f g h all = h k all

    linked : IsLinked nodes r i n kids next
    linked =
        let less = below.later in
        let kid = below_kid i n below at in
        let here = slice_get_within nodes i n at in record {
          kids_below = weaker kids _ _ (λ k h. (h.1, h.2)) (first_below i (r + 1) (omega arith));
          next_below = weaker next _ _ (λ k h. let z = h.0 in (omega (arith, z), h.2)) (first_below (parent_of n.birth) (i + 1) (omega (arith, less)));
          tree = siblings_here nodes r (parent_of n.birth) i n at kid
              ∙ (numbers_here nodes r i (parent_of n.birth) n here (sym (get_or_from_slice_get nodes i n n at)) kid
              ∙ (ap (λ x. tree_of n.state.kind i x (numbers r (i + 1) (drop (i + 1) nodes) (parent_of n.birth)))
              (sym (kids_later nodes tree i r (i + 1) (omega arith) here) ∙ (kids_later nodes tree i r (r + 1) (omega (arith, less)) here ∙ kids_linked nodes r i (r + 1)))
              ∙ ap (λ x. tree_of n.state.kind i (siblings_from nodes kids) x) (kids_linked nodes r (parent_of n.birth) (i + 1))));
        }

    -- in the words of what is read from the links
    pub linked_as : IsLinked nodes r i n (slice_index_or links.first i None) (slice_index_or links.next i None)
    linked_as =
        let long = slice_get_within nodes i n at in
        let few = tree.few in
        let less = below.later in
        let k = get_or_from_slice_get links.first i kids None (are.first i (omega (arith, long, few))) in
        let o = get_or_from_slice_get links.next i next None (are.next i (parent_of n.birth) n (omega (arith, less)) at (below_kid i n below at)) in
        subst (λ x. IsLinked nodes r i n x (slice_index_or links.next i None)) (sym k) (subst (λ x. IsLinked nodes r i n kids x) (sym o) linked)

-- a node below the root is there
below_there : (nodes : List NodeFacts) (r i : ℕ) → IsBelow nodes r i → (n : NodeFacts) × (slice_get nodes i ≡ Some n)
below_there nodes r i below = by (slice_get nodes i) refl below.inside where
  by : (o : Option NodeFacts) → slice_get nodes i ≡ o → IsSomeAnd o (λ n. n.domain ≡ r) → (n : NodeFacts) × (slice_get nodes i ≡ Some n)
  by None at h = absurd h
  by (Some n) at h = (n, at)

-- and what comes after it are fewer
falls : (nodes : List NodeFacts) (r i : ℕ) (o : Option ℕ) → i < length nodes → IfSome o (λ k. (i < k) × IsBelow nodes r k)
    → left_from (length nodes) o < left_from (length nodes) (Some i)
falls nodes r i None less h = omega (arith, less)
falls nodes r i (Some k) less h =
    let (n, at) = below_there nodes r k h.1 in
    let there = slice_get_within nodes k n at in
    let later = h.0 in omega (arith, less, there, later)

are_below : (nodes : List NodeFacts) (r i : ℕ) (o : Option ℕ) → IfSome o (λ k. (i < k) × IsBelow nodes r k) → IfSome o (IsBelow nodes r)
are_below nodes r i None h = tt
are_below nodes r i (Some k) h = h.1

-- a walk along the links stands at a node: what it finds there, and where it goes on
pub record StandsAt (nodes : List NodeFacts) (links : Links) (first : Option ℕ) (i : ℕ) : Type 0 where
  pub within : i < length nodes
  pub few : length nodes ≤ 128
  pub root : ℕ
  pub are : AreLinks nodes root (root + 1) links
  pub kids_below : IfSome (slice_index_or links.first i None) (IsBelow nodes root)
  pub next_below : IfSome (slice_index_or links.next i None) (IsBelow nodes root)
  pub kids_fewer : left_from (length nodes) (slice_index_or links.first i None) < left_from (length nodes) first
  pub next_fewer : left_from (length nodes) (slice_index_or links.next i None) < left_from (length nodes) first
  pub tree : (n : NodeFacts) → n ≡ get_or nodes i n
      → siblings_from nodes first ≡ tree_of n.state.kind i (siblings_from nodes (slice_index_or links.first i None)) (siblings_from nodes (slice_index_or links.next i None))
  pub long : size (siblings_from nodes first)
      ≡ suc (size (siblings_from nodes (slice_index_or links.first i None)) + size (siblings_from nodes (slice_index_or links.next i None)))

pub stands_at : (nodes : List NodeFacts) (links : Links) (first : Option ℕ) (i : ℕ) → IsTree nodes
    → (r : ℕ) × AreLinks nodes r (r + 1) links × IfSome first (IsBelow nodes r) → first ≡ Some i → StandsAt nodes links first i
stands_at nodes links first i tree (r, are, all) is =
    let below = subst (λ o. IfSome o (IsBelow nodes r)) is all in
    let (n, at) = below_there nodes r i below in
    let less = slice_get_within nodes i n at in
    let kids = slice_index_or links.first i None in
    let next = slice_index_or links.next i None in
    let on = linked_as nodes tree r links are i below n at in record {
      within = less;
      few = tree.few;
      root = r;
      are = are;
      kids_below = are_below nodes r i kids on.kids_below;
      next_below = are_below nodes r i next on.next_below;
      kids_fewer = subst (λ o. left_from (length nodes) kids < left_from (length nodes) o) (sym is) (falls nodes r i kids less on.kids_below);
      next_fewer = subst (λ o. left_from (length nodes) next < left_from (length nodes) o) (sym is) (falls nodes r i next less on.next_below);
      tree = λ m read. ap (siblings_from nodes) is ∙ (on.tree
          ∙ ap (λ (x : NodeFacts). tree_of x.state.kind i (siblings_from nodes kids) (siblings_from nodes next)) (sym (read ∙ get_or_from_slice_get nodes i n m at)));
      long = ap (λ o. size (siblings_from nodes o)) is ∙ (ap size on.tree ∙ size_tree n.state.kind i (siblings_from nodes kids) (siblings_from nodes next));
    }

-- what lies below the domain's root
pub record StartsAt (nodes : List NodeFacts) (links : Links) (r : ℕ) : Type 0 where
  pub below : IfSome (slice_index_or links.first r None) (IsBelow nodes r)
  pub small : size (siblings_from nodes (slice_index_or links.first r None)) < 128
  pub tree : (n : NodeFacts) → n ≡ get_or nodes r n → forest_of by_number nodes r [] ≡ tree_of n.state.kind r (siblings_from nodes (slice_index_or links.first r None)) Empty

pub starts_at : (nodes : List NodeFacts) (links : Links) (r : ℕ) → IsTree nodes → r < length nodes → AreLinks nodes r (r + 1) links → StartsAt nodes links r
starts_at nodes links r tree less are =
    let few = tree.few in
    let first = first_kid r r (r + 1) (drop (r + 1) nodes) in
    let is = get_or_from_slice_get links.first r first None (are.first r (omega (arith, less, few))) in
    let same = kids_linked nodes r r (r + 1) in
    let here = same ∙ ap (siblings_from nodes) (sym is) in
    let most = few_numbers r (drop (r + 1) nodes) (r + 1) r (omega arith) in
    let long = length-drop (r + 1) nodes in
    let sized = ap size here in record {
      below = subst (λ o. IfSome o (IsBelow nodes r)) (sym is) (weaker first (first_below nodes tree r r (r + 1) (omega arith)));
      small = omega (arith, most, long, sized, few);
      tree = λ n read. forest_here nodes tree r n less (slice_get_read nodes (length nodes) r n refl less read) ∙ ap (λ x. tree_of n.state.kind r x Empty) here;
    } where
      weaker : (o : Option ℕ) → IfSome o (λ k. (r + 1 ≤ k) × (r < k) × IsBelow nodes r k) → IfSome o (IsBelow nodes r)
      weaker None h = tt
      weaker (Some k) h = h.2

none_some : {X : Type 0} (x : X) → None ≡ Some x → ⊥
none_some x e = absurd (cc)

-- a node of another domain is nobody's child in this one
not_inside : (r p : ℕ) (n : NodeFacts) → parent_in r n ≡ None → is_some (kid_of r p n) ≡ false
not_inside r p n none = elim (cases_Bool (is_some (kid_of r p n))) [
  | inl kid ↦ (let (_, _, is) = kid_parent r p n kid in absurd (none_some p (sym none ∙ is)))
  | inr other ↦ other
]

-- and a child of one node is that of no other
not_of : (r p q : ℕ) (n : NodeFacts) → parent_in r n ≡ Some q → p ≢ q → is_some (kid_of r p n) ≡ false
not_of r p q n some other = elim (cases_Bool (is_some (kid_of r p n))) [
  | inl kid ↦ (let (_, _, is) = kid_parent r p n kid in absurd (other (same_Some p q (sym is ∙ some))))
  | inr apart ↦ apart
]

module _ (nodes : List NodeFacts) (r i : ℕ) (n : NodeFacts) (at : slice_get nodes i ≡ Some n) where
  here : drop i nodes ≡ n ∷ drop (i + 1) nodes
  here = drop_here nodes i n (slice_get_within nodes i n at) (sym (get_or_from_slice_get nodes i n n at))

  first_on : (p : ℕ) → is_some (kid_of r p n) ≡ true → first_kid r p i (drop i nodes) ≡ Some i
  first_on p kid = ap (first_kid r p i) here ∙ if_true (is_some (kid_of r p n)) (Some i) (first_kid r p (i + 1) (drop (i + 1) nodes)) kid

  first_past : (p : ℕ) → is_some (kid_of r p n) ≡ false → first_kid r p i (drop i nodes) ≡ first_kid r p (i + 1) (drop (i + 1) nodes)
  first_past p other = ap (first_kid r p i) here ∙ if_false (is_some (kid_of r p n)) (Some i) (first_kid r p (i + 1) (drop (i + 1) nodes)) other

  module _ (links : Links) (so_far : AreLinks nodes r (i + 1) links) where
    -- a node of another domain leaves the links as they are
    pub past_other : parent_in r n ≡ None → AreLinks nodes r i links
    past_other none = record {
      first = λ p less. so_far.first p less ∙ ap Some (sym (first_past p (not_inside r p n none)));
      next = λ k p m from there kid. elim (cases_eq k i) [
        | inl same ↦ (let e = same_Some m n (sym there ∙ (ap (slice_get nodes) same ∙ at)) in
            let (_, _, is) = kid_parent r p n (subst (λ x. is_some (kid_of r p x) ≡ true) e kid) in absurd (none_some p (sym none ∙ is)))
        | inr later ↦ so_far.next k p m (omega (arith, from, later)) there kid
      ];
    }

    -- a child comes before those that its parent has so far
    pub past_kid : (q : ℕ) → parent_in r n ≡ Some q → q < 128 → i < length links.next
        → AreLinks nodes r i (record { first = slice_set links.first q (Some i); next = slice_set links.next i (slice_index_or links.first q None) })
    past_kid q some less long = record {
      first = λ p small. elim (cases_eq p q) [
        | inl same ↦ subst (λ x. slice_get (slice_set links.first q (Some i)) x ≡ Some (first_kid r x i (drop i nodes))) (sym same)
            (set_here links.first q (Some i) (slice_get_within links.first q _ (so_far.first q less)) ∙ ap Some (sym (first_on q (is_kid_of r q n some))))
        | inr other ↦ set_other links.first q (Some i) p other ∙ (so_far.first p small ∙ ap Some (sym (first_past p (not_of r p q n some other))))
      ];
      next = λ k p m from there kid. elim (cases_eq k i) [
        | inl same ↦ (let e = same_Some m n (sym there ∙ (ap (slice_get nodes) same ∙ at)) in
            let (_, _, is) = kid_parent r p n (subst (λ x. is_some (kid_of r p x) ≡ true) e kid) in
            let one : q ≡ p = same_Some q p (sym some ∙ is) in
            subst (λ x. slice_get (slice_set links.next i (slice_index_or links.first q None)) x ≡ Some (first_kid r p (x + 1) (drop (x + 1) nodes))) (sym same)
            (set_here links.next i (slice_index_or links.first q None) long
            ∙ ap Some (get_or_from_slice_get links.first q (first_kid r q (i + 1) (drop (i + 1) nodes)) None (so_far.first q less) ∙ ap (λ x. first_kid r x (i + 1) (drop (i + 1) nodes)) one)))
        | inr later ↦ set_other links.next i (slice_index_or links.first q None) k later ∙ so_far.next k p m (omega (arith, from, later)) there kid
      ];
    }

-- a parent comes before its child
pub parent_before : (nodes : List NodeFacts) → IsTree nodes → (r i q : ℕ) (n : NodeFacts) → slice_get nodes i ≡ Some n → parent_in r n ≡ Some q → q < i
parent_before nodes tree r i q n at some = kid_is_later nodes tree q r i n at (is_kid_of r q n some)

-- at first there are none
pub none_linked : (nodes : List NodeFacts) (r : ℕ) → AreLinks nodes r (length nodes) (record { first = replicate 128 None; next = replicate 128 None })
none_linked nodes r = record {
  first = λ p less. slice_get-get_or (replicate 128 None) p None less ∙ ap Some (all_none 128 p ∙ sym (ap (first_kid r p (length nodes)) (drop-length nodes)));
  next = λ k p m from there kid. absurd (past k m from there);
} where
  all_none : (many k : ℕ) → get_or {A = Option ℕ} (replicate many None) k None ≡ None
  all_none zero k = refl
  all_none (suc many) zero = refl
  all_none (suc many) (suc k) = all_none many k

  past : (k : ℕ) (m : NodeFacts) → length nodes ≤ k → slice_get nodes k ≡ Some m → ⊥
  past k m from there = let less = slice_get_within nodes k m there in absurd (omega (arith, less, from))
