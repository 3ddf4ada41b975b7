-- Nodes that are left out, one after the other.
use Rattle.std.proofs.Common.{◌≡◌, ◌<◌, ◌+◌, ◌==◌, ◌&&◌, ◌||◌, not, ℕ, zero, suc, Bool, List, [], ◌∷◌, ◌++◌, length, take, drop, get_or, slice_set, ◌∙◌, ap, arith}
use Rattle.std.specs.List.{list_any}
use Rattle.sysmem_tree.specs.Node.{NodeFacts}
use Rattle.sysmem_tree.specs.Tree.{left_out_but}

-- a node after a decision, by whether it is a member
abbrev pub node_left : ℕ → Bool → NodeFacts → NodeFacts
node_left r is_member n = record n { is_left_out = n.is_left_out || ((n.domain == r) && not is_member) }

left_at : (members : List ℕ) (r s : ℕ) (xs : List NodeFacts) (i : ℕ) (d : NodeFacts) → i < length xs
    → slice_set (left_out_but members r s (take i xs) ++ drop i xs) i (node_left r (list_any (λ m. m == (s + i)) members) (get_or (left_out_but members r s (take i xs) ++ drop i xs) i d))
    ≡ left_out_but members r s (take (suc i) xs) ++ drop (suc i) xs
left_at members r s [] i d less = absurd (omega (arith, less))
left_at members r s (x ∷ xs) zero d less =
    let same : s + 0 ≡ s = omega arith in ap (λ k. node_left r (list_any (λ m. m == k) members) x ∷ xs) same
left_at members r s (x ∷ xs) (suc i) d less =
    let same : s + suc i ≡ (s + 1) + i = omega arith in
    ap (λ k. node_left r (list_any (λ m. m == s) members) x
    ∷ slice_set (left_out_but members r (s + 1) (take i xs) ++ drop i xs) i (node_left r (list_any (λ m. m == k) members) (get_or (left_out_but members r (s + 1) (take i xs) ++ drop i xs) i d))) same
    ∙ ap (λ zs. node_left r (list_any (λ m. m == s) members) x ∷ zs) (left_at members r (s + 1) xs i d (omega (arith, less)))

-- the next node is left out too, if it is
pub left_next : (members : List ℕ) (r : ℕ) (xs now : List NodeFacts) (i : ℕ) (d y : NodeFacts) (b : Bool) → now ≡ left_out_but members r 0 (take i xs) ++ drop i xs → i < length xs
    → b ≡ list_any (λ m. m == i) members → y ≡ node_left r b (get_or now i d) → slice_set now i y ≡ left_out_but members r 0 (take (i + 1) xs) ++ drop (i + 1) xs
left_next members r xs now i d y b so_far less is next =
    let one : suc i ≡ i + 1 = omega arith in
    let from : i ≡ 0 + i = omega arith in
    ap (λ z. slice_set now i z) (next ∙ ap (λ z. node_left r z (get_or now i d)) (is ∙ ap (λ k. list_any (λ m. m == k) members) from))
    ∙ (ap (λ zs. slice_set zs i (node_left r (list_any (λ m. m == (0 + i)) members) (get_or zs i d))) so_far
    ∙ (left_at members r 0 xs i d less ∙ ap (λ k. left_out_but members r 0 (take k xs) ++ drop k xs) one))
