-- The paths of a shape differ, and few groups stand within each other.
use Rattle.std.proofs.Common.{◌≡◌, ◌≢◌, ℕ, zero, suc, ◌+◌, ◌≤◌, Bool, true, false, List, [], ◌∷◌, ◌++◌, length, Option, Some, None, slice_get, refl, sym, ◌∙◌, ap, subst, arith, length-append, append_assoc}
use Rattle.std.specs.Prelude.{All, option_and_then}
use Rattle.std.proofs.Math.Nat.{max-le}
use Rattle.std.proofs.lemmas.List.{append_cancel_left}
use Rattle.std.proofs.lemmas.List.Kept.{AllPairs-cons}
use Rattle.std.proofs.lemmas.Option.{slice_get_within, same_Some, option_and_then_some}
use Rattle.std.specs.List.{AllByRecursion}
use Rattle.sysmem_tree.specs.Sublist.{IsSublist, ended, taken, left_out}
use Rattle.sysmem_tree.specs.declared.state.NodeKind.{NodeKind}
use Rattle.sysmem_tree.specs.declared.state.NodeKind.TheVariants as kinds
use Rattle.sysmem_tree.specs.Domain.{HasDomain}
use Rattle.sysmem_tree.specs.Forest.{Forest, Empty, Plain, Group, each, kids_else_rest, choices, settled}
use Rattle.sysmem_tree.specs.Laws.{labels, nesting, PathsDiffer, HaveOwnPaths}
use Rattle.sysmem_tree.specs.Node.{NodeFacts}
use Rattle.sysmem_tree.specs.Nodes.{IsTree}
use Rattle.sysmem_tree.specs.Path.{path_of, Shown, shown_of, at_path}
use Rattle.sysmem_tree.specs.Selection.{after}
use Rattle.sysmem_tree.specs.Shape.{Labels, Member, tree_of, kid_of, before, kids_from, rooted, by_path, shape_of}
use Rattle.sysmem_tree.specs.Step.{Map}
use Rattle.sysmem_tree.proofs.nodes.Kids.{under_nobody, root_birth}
use Rattle.sysmem_tree.proofs.nodes.Places.{there}
use Rattle.sysmem_tree.proofs.forests.SameForest.{put_kid, row, grown, if_true, if_false, kid_none, forest_by_map, member}
use Rattle.sysmem_tree.proofs.selections.Selections.{IfAny, all_mapped, all_at, sub_refl, sub_trans, sub_behind, sub_append}
use Rattle.sysmem_tree.proofs.steps.Steps.{path_leads}

-- what all of two lists have, all of both have
pub all_append : {X : Type 0} (P : X → Type 0) (xs ys : List X) → AllByRecursion P xs → AllByRecursion P ys → AllByRecursion P (xs ++ ys)
all_append P [] ys a b = b
all_append P (x ∷ xs) ys a b = (a.0, all_append P xs ys a.1 b)

all_weaken : {X : Type 0} (P Q : X → Type 0) (xs : List X) → ((x : X) → P x → Q x) → AllByRecursion P xs → AllByRecursion Q xs
all_weaken P Q [] h a = tt
all_weaken P Q (x ∷ xs) h a = (h x a.0, all_weaken P Q xs h a.1)

pub all_sub : {X : Type 0} (P : X → Type 0) (xs ys : List X) → IsSublist xs ys → AllByRecursion P ys → AllByRecursion P xs
all_sub P _ _ ended a = tt
all_sub P _ _ (taken x xs ys p) a = (a.0, all_sub P xs ys p a.1)
all_sub P _ _ (left_out x xs ys p) a = all_sub P xs ys p a.1

pub all_index : {X : Type 0} (P : X → Type 0) (xs : List X) → AllByRecursion P xs → All P xs
all_index P [] a k d within = absurd (omega (arith, within))
all_index P (x ∷ xs) a zero d within = a.0
all_index P (x ∷ xs) a (suc k) d within = all_index P xs a.1 k d (omega (arith, within))

-- no two have one path
abbrev pub Apart : List Member → Type 0
Apart [] = Unit {0}
Apart (m ∷ ms) = AllByRecursion (λ (x : Member). m.path ≢ x.path) ms × Apart ms

apart_append : (xs ys : List Member) → Apart xs → Apart ys → AllByRecursion (λ (x : Member). AllByRecursion (λ (y : Member). x.path ≢ y.path) ys) xs → Apart (xs ++ ys)
apart_append [] ys a b c = b
apart_append (x ∷ xs) ys a b c = (all_append (λ (y : Member). x.path ≢ y.path) xs ys a.0 c.0, apart_append xs ys a.1 b c.1)

apart_sub : (xs ys : List Member) → IsSublist xs ys → Apart ys → Apart xs
apart_sub _ _ ended a = tt
apart_sub _ _ (taken x xs ys p) a = (all_sub (λ (y : Member). x.path ≢ y.path) xs ys p a.0, apart_sub xs ys p a.1)
apart_sub _ _ (left_out x xs ys p) a = apart_sub xs ys p a.1

apart_index : (ms : List Member) → Apart ms → PathsDiffer ms
apart_index [] a = λ i j d less within. absurd (omega (arith, within))
apart_index (m ∷ ms) a = AllPairs-cons (λ (x y : Member). x.path ≢ y.path) m ms (all_index (λ (y : Member). m.path ≢ y.path) ms a.0) (apart_index ms a.1)

-- a path that goes on from a path by this ordinal or a later one
record Onward (path : List ℕ) (o : ℕ) (m : Member) : Type 0 where
  turn : ℕ
  behind : List ℕ
  late : o ≤ turn
  is : m.path ≡ path ++ turn ∷ behind

first_same : (path xs ys : List ℕ) (a b : ℕ) → path ++ a ∷ xs ≡ path ++ b ∷ ys → a ≡ b
first_same path xs ys a b e = let same = append_cancel_left path (a ∷ xs) (b ∷ ys) e in cc

goes_on : (path q : List ℕ) (a : ℕ) → path ≢ path ++ a ∷ q
goes_on path q a e = let long = ap length e in omega (arith, long, length-append path (a ∷ q))

deep : (path : List ℕ) (o : ℕ) (m : Member) (w : Onward (path ++ o ∷ []) 0 m) → m.path ≡ path ++ o ∷ (w.turn ∷ w.behind)
deep path o m w = w.is ∙ append_assoc path (o ∷ []) (w.turn ∷ w.behind)

deeper : (path : List ℕ) (o : ℕ) (m : Member) → Onward (path ++ o ∷ []) 0 m → Onward path o m
deeper path o m w = record { turn = o; behind = w.turn ∷ w.behind; late = omega arith; is = deep path o m w }

later : (path : List ℕ) (o : ℕ) (m : Member) → Onward path (o + 1) m → Onward path o m
later path o m w = record { turn = w.turn; behind = w.behind; late = omega (arith, w.late); is = w.is }

pub tree_labels : {A : Type 0} (k : NodeKind) (l : A) (kids rest : Forest A) → labels (tree_of k l kids rest) ≡ l ∷ (labels kids ++ labels rest)
tree_labels kinds.Token l kids rest = refl
tree_labels kinds.Group l kids rest = refl
tree_labels kinds.Collection l kids rest = refl

-- a forest below a path, from an ordinal on
abbrev Fine : List ℕ → ℕ → Forest Member → Type 0
Fine path o d = AllByRecursion (Onward path o) (labels d) × Apart (labels d)

fine_tree : (kind : NodeKind) (l : Member) (kids rest : Forest Member) (path : List ℕ) (o : ℕ) → l.path ≡ path ++ o ∷ [] → Fine (path ++ o ∷ []) 0 kids → Fine path (o + 1) rest
    → Fine path o (tree_of kind l kids rest)
fine_tree kind l kids rest path o is k r = subst (λ ls. AllByRecursion (Onward path o) ls × Apart ls) (sym (tree_labels kind l kids rest)) (onward, apart) where
  onward : AllByRecursion (Onward path o) (l ∷ (labels kids ++ labels rest))
  onward = (
    record { turn = o; behind = []; late = omega arith; is = is },
    all_append (Onward path o) (labels kids) (labels rest) (all_weaken (Onward (path ++ o ∷ []) 0) (Onward path o) (labels kids) (deeper path o) k.0)
        (all_weaken (Onward path (o + 1)) (Onward path o) (labels rest) (later path o) r.0),
  )

  off : (x y : Member) (xs : List ℕ) → x.path ≡ path ++ o ∷ xs → Onward path (o + 1) y → x.path ≢ y.path
  off x y xs at w e = let same = first_same path xs w.behind o w.turn (sym at ∙ (e ∙ w.is)) in omega (arith, same, w.late)

  apart : Apart (l ∷ (labels kids ++ labels rest))
  apart = (
    all_append (λ (y : Member). l.path ≢ y.path) (labels kids) (labels rest)
        (all_weaken (Onward (path ++ o ∷ []) 0) (λ (y : Member). l.path ≢ y.path) (labels kids) (λ m w e. goes_on (path ++ o ∷ []) w.behind w.turn (sym is ∙ (e ∙ w.is))) k.0)
        (all_weaken (Onward path (o + 1)) (λ (y : Member). l.path ≢ y.path) (labels rest) (λ m w. off l m [] is w) r.0),
    apart_append (labels kids) (labels rest) k.1 r.1
        (all_weaken (Onward (path ++ o ∷ []) 0) (λ (x : Member). AllByRecursion (λ (y : Member). x.path ≢ y.path) (labels rest)) (labels kids)
        (λ x u. all_weaken (Onward path (o + 1)) (λ (y : Member). x.path ≢ y.path) (labels rest) (λ y w. off x y (u.turn ∷ u.behind) (deep path o x u) w) r.0) k.0),
  )

module _ (at : Map) where
  fine_put : (below : List ℕ → ℕ → Forest Member) → ((q : List ℕ) (m : ℕ) → Fine q 0 (below q m)) → (path : List ℕ) (o : ℕ) (rest : Forest Member) → Fine path (o + 1) rest
      → (z : Option Shown) → Fine path o (put_kid member at below (path ++ o ∷ []) z rest)
  fine_put below ih path o rest fine None = (all_weaken (Onward path (o + 1)) (Onward path o) (labels rest) (later path o) fine.0, fine.1)
  fine_put below ih path o rest fine (Some z) = by z.is_domain_root refl where
    by : (x : Bool) → z.is_domain_root ≡ x → Fine path o (put_kid member at below (path ++ o ∷ []) (Some z) rest)
    by true r = subst (Fine path o) (sym (if_true z.is_domain_root rest _ r)) (all_weaken (Onward path (o + 1)) (Onward path o) (labels rest) (later path o) fine.0, fine.1)
    by false r = subst (Fine path o) (sym (if_false z.is_domain_root rest _ r))
        (fine_tree z.state.kind (member (path ++ o ∷ []) z) (below (path ++ o ∷ []) z.state.children) rest path o refl (ih (path ++ o ∷ []) z.state.children) fine)

  fine_row : (below : List ℕ → ℕ → Forest Member) → ((q : List ℕ) (m : ℕ) → Fine q 0 (below q m)) → (path : List ℕ) (o many : ℕ) → Fine path o (row member at below path o many)
  fine_row below ih path o zero = (tt, tt)
  fine_row below ih path o (suc many) = fine_put below ih path o (row member at below path (o + 1) many) (fine_row below ih path (o + 1) many) (at (path ++ o ∷ []))

  fine_grown : (depth : ℕ) (path : List ℕ) (many : ℕ) → Fine path 0 (grown member at depth path many)
  fine_grown zero path many = (tt, tt)
  fine_grown (suc depth) path many = fine_row (grown member at depth) (λ q m. fine_grown depth q m) path 0 many

-- the paths of a shape differ
pub shape_apart : (nodes : List NodeFacts) (r : ℕ) → IsTree nodes → HasDomain nodes r → Apart (labels (shape_of nodes r))
shape_apart nodes r tree has =
    let (n, here, home) = there (λ (z : NodeFacts). z.domain ≡ r) (slice_get nodes r) has in
    let p : List ℕ = path_of nodes r in
    let l : Member = member p (shown_of r n) in
    let kids : Forest Member = grown member (at_path nodes) (suc (length nodes)) p n.state.children in
    let fine = fine_grown (at_path nodes) (suc (length nodes)) p n.state.children in
    let is = forest_by_map member nodes tree r p n (length nodes) here home (path_leads nodes tree r (slice_get_within nodes r n here)) (omega arith) in
    subst (λ (d : Forest Member). Apart (labels d)) (sym is) (subst Apart (sym (tree_labels n.state.kind l kids Empty)) (
      all_append (λ (y : Member). l.path ≢ y.path) (labels kids) [] (all_weaken (Onward p 0) (λ (y : Member). l.path ≢ y.path) (labels kids) (λ m w e. goes_on p w.behind w.turn (e ∙ w.is)) fine.0) tt,
      apart_append (labels kids) [] fine.1 tt (all_weaken (Onward p 0) (λ (x : Member). AllByRecursion (λ (y : Member). x.path ≢ y.path) []) (labels kids) (λ x u. tt) fine.0),
    ))

-- choices only take nodes away
module _ {A : Type 0} where
  pub sub_none : (xs : List A) → IsSublist [] xs
  sub_none [] = ended
  sub_none (x ∷ xs) = left_out x [] xs (sub_none xs)

  abbrev Less : Forest A → Forest A → Type 0
  Less d e = IsSublist (labels e) (labels d)

  less_in : (n : A) (kids rest : Forest A) (ks rs : Option (List (Forest A))) → IfAny (Unit {0}) (AllByRecursion (Less kids)) ks → IfAny (Unit {0}) (AllByRecursion (Less rest)) rs
      → IfAny (Unit {0}) (AllByRecursion (Less (Plain n kids rest))) (kids_else_rest (λ k. Plain n k rest) (λ r. Plain n kids r) ks rs)
  less_in n kids rest (Some ks) rs hk hr = all_mapped (Less kids) (Less (Plain n kids rest)) (λ k. Plain n k rest) ks
      (λ k p. taken n (labels k ++ labels rest) (labels kids ++ labels rest) (sub_append (labels k) (labels kids) (labels rest) (labels rest) p (sub_refl (labels rest)))) hk
  less_in n kids rest None (Some rs) hk hr = all_mapped (Less rest) (Less (Plain n kids rest)) (λ r. Plain n kids r) rs
      (λ r p. taken n (labels kids ++ labels r) (labels kids ++ labels rest) (sub_append (labels kids) (labels kids) (labels r) (labels rest) (sub_refl (labels kids)) p)) hr
  less_in n kids rest None None hk hr = tt

  alone : (n : A) (kids rest : Forest A) → IsSublist (n ∷ (labels kids ++ [])) (n ∷ (labels kids ++ labels rest))
  alone n kids rest = taken n (labels kids ++ []) (labels kids ++ labels rest) (sub_append (labels kids) (labels kids) [] (labels rest) (sub_refl (labels kids)) (sub_none (labels rest)))

  others : (n : A) (kids rest : Forest A) (e : Forest A) → Less rest e → IsSublist (labels e) (n ∷ (labels kids ++ labels rest))
  others n kids rest e p = left_out n (labels e) (labels kids ++ labels rest) (sub_behind (labels kids) (labels e) (labels rest) p)

  each_less : (d : Forest A) → AllByRecursion (Less d) (each d)
  each_less Empty = tt
  each_less (Plain n kids rest) = (alone n kids rest, all_weaken (Less rest) (Less (Plain n kids rest)) (each rest) (others n kids rest) (each_less rest))
  each_less (Group n kids rest) = (alone n kids rest, all_weaken (Less rest) (Less (Group n kids rest)) (each rest) (others n kids rest) (each_less rest))

  less : (d : Forest A) → IfAny (Unit {0}) (AllByRecursion (Less d)) (choices d)
  less Empty = tt
  less (Plain n kids rest) = less_in n kids rest (choices kids) (choices rest) (less kids) (less rest)
  less (Group n kids rest) = all_mapped (Less kids) (Less (Group n kids rest)) (λ kid. Plain n kid rest) (each kids)
      (λ kid p. taken n (labels kid ++ labels rest) (labels kids ++ labels rest) (sub_append (labels kid) (labels kids) (labels rest) (labels rest) p (sub_refl (labels rest)))) (each_less kids)

  one_less : (d e : Forest A) (c : ℕ) (o : Option (List (Forest A))) → IfAny (Unit {0}) (AllByRecursion (Less d)) o → option_and_then (λ es. slice_get es c) o ≡ Some e → Less d e
  one_less d e c None all is = absurd (cc)
  one_less d e c (Some es) all is = all_at (Less d) es c e is all

  pub less_after : (d e : Forest A) (cs : List ℕ) → after d cs ≡ Some e → Less d e
  less_after d e [] is = subst (Less d) (same_Some d e is) (sub_refl (labels d))
  less_after d e (c ∷ cs) is = option_and_then_some (λ x. after x cs) (option_and_then (λ es. slice_get es c) (choices d)) e is
      (λ x one on. sub_trans (labels e) (labels x) (labels d) (less_after x e cs on) (one_less d x c (choices d) (less d) one))

  pub settled_labels : (d : Forest A) → IsSublist (settled d) (labels d)
  settled_labels Empty = ended
  settled_labels (Plain n kids rest) = taken n (settled kids ++ settled rest) (labels kids ++ labels rest) (sub_append (settled kids) (labels kids) (settled rest) (labels rest) (settled_labels kids) (settled_labels rest))
  settled_labels (Group n kids rest) = taken n (settled rest) (labels kids ++ labels rest) (sub_behind (labels kids) (settled rest) (labels rest) (settled_labels rest))

-- the paths of what is settled differ too
pub own_paths : (nodes : List NodeFacts) (r : ℕ) → IsTree nodes → HasDomain nodes r → HaveOwnPaths (shape_of nodes r)
own_paths nodes r tree has =
    let apart = shape_apart nodes r tree has in
    record {
      whole = apart_index (labels (shape_of nodes r)) apart;
      settled_too = λ cs e is. apart_index (settled e)
          (apart_sub (settled e) (labels e) (settled_labels e) (apart_sub (labels e) (labels (shape_of nodes r)) (less_after (shape_of nodes r) e cs is) apart));
    }

-- few groups stand within each other
few_tree : {A : Type 0} (k : NodeKind) (l : A) (kids rest : Forest A) (m : ℕ) → suc (nesting kids) ≤ m → nesting rest ≤ m → nesting (tree_of k l kids rest) ≤ m
few_tree kinds.Token l kids rest m a b = max-le (omega (arith, a)) b
few_tree kinds.Group l kids rest m a b = max-le a b
few_tree kinds.Collection l kids rest m a b = max-le (omega (arith, a)) b

few_before : {A : Type 0} (u : Option ℕ) (kid : ℕ → Forest A → Forest A) (rest : Forest A) (m : ℕ) → ((o : ℕ) → nesting (kid o rest) ≤ m) → nesting rest ≤ m → nesting (before u kid rest) ≤ m
few_before None kid rest m k r = r
few_before (Some o) kid rest m k r = k o

few_kids : {A : Type 0} (label : Labels A) (d : ℕ) (xs : List NodeFacts) (s p : ℕ) (path : List ℕ) → nesting (kids_from label d s xs p path) ≤ length xs
few_kids label d [] s p path = omega arith
few_kids label d (x ∷ xs) s p path = few_before (kid_of d p x)
    (λ o. tree_of x.state.kind (label s (path ++ o ∷ []) x) (kids_from label d (s + 1) xs s (path ++ o ∷ []))) (kids_from label d (s + 1) xs p path) (suc (length xs))
    (λ o. few_tree x.state.kind (label s (path ++ o ∷ []) x) (kids_from label d (s + 1) xs s (path ++ o ∷ [])) (kids_from label d (s + 1) xs p path) (suc (length xs))
    (omega (arith, few_kids label d xs (s + 1) s (path ++ o ∷ []))) (omega (arith, few_kids label d xs (s + 1) p path)))
    (omega (arith, few_kids label d xs (s + 1) p path))

few_root : (nodes : List NodeFacts) → IsTree nodes → (r : ℕ) (path : List ℕ) → suc (nesting (kids_from by_path r 0 nodes r path)) ≤ 128
few_root [] tree r path = omega arith
few_root (n ∷ rest) tree r path =
    let skip : kid_of r r n ≡ None = kid_none r r n (under_nobody r n.birth (root_birth (n ∷ rest) tree n refl).0) in
    let less : nesting (kids_from by_path r 0 (n ∷ rest) r path) ≡ nesting (kids_from by_path r 1 rest r path) =
    ap (λ u. nesting (before u (λ o. tree_of n.state.kind (by_path 0 (path ++ o ∷ []) n) (kids_from by_path r 1 rest 0 (path ++ o ∷ []))) (kids_from by_path r 1 rest r path))) skip in
    omega (arith, less, few_kids by_path r rest 1 r path, tree.few)

pub shape_shallow : (nodes : List NodeFacts) (r : ℕ) → IsTree nodes → HasDomain nodes r → nesting (shape_of nodes r) ≤ 128
shape_shallow nodes r tree has =
    let (n, here, _) = there (λ (z : NodeFacts). z.domain ≡ r) (slice_get nodes r) has in
    let p : List ℕ = path_of nodes r in
    subst (λ (d : Forest Member). nesting d ≤ 128) (sym (ap (λ o. rooted by_path nodes r p o) here))
    (few_tree n.state.kind (by_path r p n) (kids_from by_path r 0 nodes r p) Empty 128 (few_root nodes tree r p) (omega arith))
