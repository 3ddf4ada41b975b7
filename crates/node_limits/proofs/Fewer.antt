-- A node has fewer children than there are nodes.
use Rattle.std.proofs.Common.{◌≡◌, ◌<◌, ◌≤◌, ◌+◌, ℕ, zero, suc, List, [], ◌∷◌, Option, Some, None, length, slice_get, refl, ap, arith}
use Rattle.std.specs.Prelude.{IfSome}
use Rattle.sysmem_tree.specs.Node.{NodeFacts}
use Rattle.sysmem_tree.specs.Nodes.{HasNode, IsTree, count_from, ordinal_under, ordinals}
use Rattle.sysmem_tree.specs.declared.node.Birth.{Birth}
use Rattle.sysmem_tree.specs.declared.state.NodeState.{NodeState}
use Rattle.node_limits.proofs.Within.{not_past}

count_long : (a m : ℕ) → length (count_from a m) ≡ m
count_long a zero = refl
count_long a (suc m) = ap suc (count_long (a + 1) m)

skipped : (p : ℕ) (x : NodeFacts) (xs : List NodeFacts) → ordinal_under p x.birth ≡ None → ordinals p (x ∷ xs) ≡ ordinals p xs
skipped p x xs e = rw e refl

taken : (p u : ℕ) (x : NodeFacts) (xs : List NodeFacts) → ordinal_under p x.birth ≡ Some u → ordinals p (x ∷ xs) ≡ u ∷ ordinals p xs
taken p u x xs e = rw e refl

few_under : (p : ℕ) (xs : List NodeFacts) → length (ordinals p xs) ≤ length xs
few_under p [] = omega arith
few_under p (x ∷ xs) = by (ordinal_under p x.birth) refl (few_under p xs) where
  by : (o : Option ℕ) → ordinal_under p x.birth ≡ o → length (ordinals p xs) ≤ length xs → length (ordinals p (x ∷ xs)) ≤ suc (length xs)
  by None e ih = omega (arith, ih, ap length (skipped p x xs e))
  by (Some u) e ih = omega (arith, ih, ap length (taken p u x xs e))

-- the root is nobody's child
unborn : (p : ℕ) (o : Option Birth) → o ≡ None → ordinal_under p o ≡ None
unborn p o is = rw is refl

pub few_children : (nodes : List NodeFacts) → IsTree nodes → (i : ℕ) (n : NodeFacts) → slice_get nodes i ≡ Some n → n.state.children < length nodes
few_children [] tree i n here = absurd (cc)
few_children (r ∷ rest) tree i n here =
    let skip : ordinals i (r ∷ rest) ≡ ordinals i rest = skipped i r rest (unborn i r.birth tree.root.0) in
    omega (arith, ap length (tree.numbered i n here), count_long 0 n.state.children, ap length skip, few_under i rest)

-- so what a log makes of a node that is there has fewer than 128
pub few_logged : (nodes : List NodeFacts) (i : ℕ) (s : NodeState) → IsTree nodes → HasNode nodes i → IfSome (slice_get nodes i) (λ n. n.state ≡ s) → s.children < 128
few_logged nodes i s tree there same = by (slice_get nodes i) refl same where
  by : (o : Option NodeFacts) → slice_get nodes i ≡ o → IfSome o (λ n. n.state ≡ s) → s.children < 128
  by None at is = absurd (not_past nodes i there at)
  by (Some n) at is =
      let fewer : n.state.children < length nodes = few_children nodes tree i n at in
      let same_many : n.state.children ≡ s.children = ap (λ (x : NodeState). x.children) is in
      omega (arith, fewer, same_many, tree.few)
