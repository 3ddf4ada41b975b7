-- The forest of a domain is a function of the map from paths.
use Rattle.std.proofs.Common.{◌≡◌, ◌≢◌, ℕ, zero, suc, ◌+◌, ◌<◌, ◌≤◌, ◌==◌, Bool, true, false, List, [], ◌∷◌, ◌++◌, length, Option, Some, None, slice_get, refl, sym, ◌∙◌, ap, arith, rules, tests, inl, inr, length-append, append_assoc}
use Rattle.std.specs.Prelude.{if◌then◌else◌}
use Rattle.std.proofs.lemmas.Bool.{cases_eq}
use Rattle.std.proofs.lemmas.List.Elements.{filter_map-append}
use Rattle.std.proofs.lemmas.Option.{slice_get_within, same_Some}
use Rattle.sysmem_tree.specs.Domain.{HasDomain}
use Rattle.sysmem_tree.specs.Forest.{Forest, Empty}
use Rattle.sysmem_tree.specs.Node.{NodeFacts}
use Rattle.sysmem_tree.specs.Nodes.{ordinal_under, ordinals, count_from, IsTree}
use Rattle.sysmem_tree.specs.Path.{node_at, path_of, Shown, shown_of, at_path}
use Rattle.sysmem_tree.specs.Shape.{Labels, Member, tree_of, kid_of, kids_from, rooted, forest_of, shape_of}
use Rattle.sysmem_tree.specs.Step.{Map}
use Rattle.sysmem_tree.proofs.steps.Growing.{none_under, not_under}
use Rattle.sysmem_tree.proofs.nodes.Kids.{is_under, taken, skipped, parent_of}
use Rattle.sysmem_tree.proofs.nodes.Places.{there, in_front}
use Rattle.sysmem_tree.proofs.steps.Steps.{led_kid, path_leads, path_is, at_node}

-- a forest built from a map: the kid at an ordinal before the next ones, down to a depth
module _ {A : Type 0} (f : List ℕ → Shown → A) (at : Map) where
  abbrev pub put_kid : (List ℕ → ℕ → Forest A) → List ℕ → Option Shown → Forest A → Forest A
  put_kid below q None rest = rest
  put_kid below q (Some z) rest = if z.is_domain_root then rest else tree_of z.state.kind (f q z) (below q z.state.children) rest

  abbrev pub row : (List ℕ → ℕ → Forest A) → List ℕ → ℕ → ℕ → Forest A
  row below path o zero = Empty
  row below path o (suc many) = put_kid below (path ++ o ∷ []) (at (path ++ o ∷ [])) (row below path (o + 1) many)

  abbrev pub grown : ℕ → List ℕ → ℕ → Forest A
  grown zero path many = Empty
  grown (suc depth) path many = row (grown depth) path 0 many

pub if_true : {X : Type 0} (x : Bool) (p q : X) → x ≡ true → (if x then p else q) ≡ p
if_true x p q e = rw e refl

pub if_false : {X : Type 0} (x : Bool) (p q : X) → x ≡ false → (if x then p else q) ≡ q
if_false x p q e = rw e refl

-- maps that agree on kids from a path on build the same
abbrev pub SameKid : Type 0 → Option Shown → Option Shown → Type 0
SameKid W None None = Unit {0}
SameKid W None (Some b) = ⊥
SameKid W (Some a) None = ⊥
SameKid W (Some a) (Some b) = (a.is_domain_root ≡ b.is_domain_root) × (a.is_domain_root ≡ false → (a ≡ b) × W)

module _ {A : Type 0} (f : List ℕ → Shown → A) (at at' : Map) (Within : List ℕ → Type 0)
    (same : (path : List ℕ) (o : ℕ) → Within path → SameKid (Within (path ++ o ∷ [])) (at (path ++ o ∷ [])) (at' (path ++ o ∷ []))) where
  same_put : (below below' : List ℕ → ℕ → Forest A) (q : List ℕ) → ((m : ℕ) → Within q → below q m ≡ below' q m) → (rest rest' : Forest A) → rest ≡ rest'
      → (a b : Option Shown) → SameKid (Within q) a b → put_kid f at below q a rest ≡ put_kid f at' below' q b rest'
  same_put below below' q ih rest rest' e None None k = e
  same_put below below' q ih rest rest' e None (Some b) k = absurd k
  same_put below below' q ih rest rest' e (Some a) None k = absurd k
  same_put below below' q ih rest rest' e (Some a) (Some b) k = by a.is_domain_root refl where
    by : (x : Bool) → a.is_domain_root ≡ x → put_kid f at below q (Some a) rest ≡ put_kid f at' below' q (Some b) rest'
    by true r = if_true a.is_domain_root rest _ r ∙ (e ∙ sym (if_true b.is_domain_root rest' _ (sym k.0 ∙ r)))
    by false r =
        let (is, within) = k.1 r in
        if_false a.is_domain_root rest _ r
        ∙ (ap (λ (z : Shown). tree_of z.state.kind (f q z) (below q z.state.children) rest) is
        ∙ (ap (λ x. tree_of b.state.kind (f q b) x rest) (ih b.state.children within)
        ∙ (ap (λ x. tree_of b.state.kind (f q b) (below' q b.state.children) x) e ∙ sym (if_false b.is_domain_root rest' _ (sym k.0 ∙ r)))))

  pub same_row : (below below' : List ℕ → ℕ → Forest A) → ((q : List ℕ) (m : ℕ) → Within q → below q m ≡ below' q m) → (path : List ℕ) → Within path → (o many : ℕ)
      → row f at below path o many ≡ row f at' below' path o many
  same_row below below' ih path within o zero = refl
  same_row below below' ih path within o (suc many) =
      same_put below below' (path ++ o ∷ []) (λ m w. ih (path ++ o ∷ []) m w) _ _ (same_row below below' ih path within (o + 1) many)
      (at (path ++ o ∷ [])) (at' (path ++ o ∷ [])) (same path o within)

  pub same_grown : (depth : ℕ) (path : List ℕ) (many : ℕ) → Within path → grown f at depth path many ≡ grown f at' depth path many
  same_grown zero path many within = refl
  same_grown (suc depth) path many within = same_row (grown f at depth) (grown f at' depth) (λ q m w. same_grown depth q m w) path within 0 many

pub kid_none : (r p : ℕ) (n : NodeFacts) → ordinal_under p n.birth ≡ None → kid_of r p n ≡ None
kid_none r p n e = by (n.domain == r) refl where
  by : (x : Bool) → (n.domain == r) ≡ x → kid_of r p n ≡ None
  by true t = rw t e
  by false t = rw t refl

pub kid_elsewhere : (r p : ℕ) (n : NodeFacts) → n.domain ≢ r → kid_of r p n ≡ None
kid_elsewhere r p n other = let t : (n.domain == r) ≡ false = search (rules, tests, other) in rw t refl

kid_here : (r p o : ℕ) (n : NodeFacts) → n.domain ≡ r → ordinal_under p n.birth ≡ Some o → kid_of r p n ≡ Some o
kid_here r p o n same e = let t : (n.domain == r) ≡ true = search (rules, tests, same) in rw t e

at_front : {X : Type 0} (front rest : List X) (x : X) (s : ℕ) → length front ≡ s → slice_get (front ++ x ∷ rest) s ≡ Some x
at_front [] rest x zero e = refl
at_front [] rest x (suc s) e = absurd (omega (arith, e))
at_front (y ∷ front) rest x zero e = absurd (omega (arith, e))
at_front (y ∷ front) rest x (suc s) e = at_front front rest x s (omega (arith, e))

-- the nodes of a tree against its map
module _ {A : Type 0} (f : List ℕ → Shown → A) (nodes : List NodeFacts) (tree : IsTree nodes) (r : ℕ) where
  abbrev pub mapped : Labels A
  mapped i q n = f q (shown_of i n)

  -- the children of a node come after it
  behind : (front rest : List NodeFacts) (s : ℕ) (n : NodeFacts) → nodes ≡ front ++ rest → length front ≡ s + 1 → slice_get nodes s ≡ Some n → ordinals s rest ≡ count_from 0 n.state.children
  behind front rest s n split long here =
      let none : ordinals s front ≡ [] = none_under s front (λ k x read. not_under nodes tree s k x (ap (λ xs. slice_get xs k) split ∙ in_front front rest k x read) (omega (arith, long, slice_get_within front k x read))) in
      ap (λ ys. ys ++ ordinals s rest) (sym none)
      ∙ (sym (filter_map-append (λ (x : NodeFacts). ordinal_under s x.birth) front rest) ∙ (ap (ordinals s) (sym split) ∙ tree.numbered s n here))

  kids : (rest front : List NodeFacts) (s depth p : ℕ) (np : NodeFacts) (path : List ℕ) (o many : ℕ) → nodes ≡ front ++ rest → length front ≡ s → length rest ≤ depth
      → slice_get nodes p ≡ Some np → np.domain ≡ r → r ≤ p → node_at nodes path ≡ Some p → ordinals p rest ≡ count_from o many
      → kids_from mapped r s rest p path ≡ row f (at_path nodes) (grown f (at_path nodes) depth) path o many
  kids [] front s depth p np path o zero split long deep here home up leads is = refl
  kids [] front s depth p np path o (suc many) split long deep here home up leads is = absurd (cc)
  kids (n ∷ rest) front s zero p np path o many split long deep here home up leads is = absurd (omega (arith, deep))
  kids (n ∷ rest) front s (suc d) p np path o many split long deep here home up leads is =
      by (ordinal_under p n.birth) refl (λ d' p' np' path' o' many'. kids rest (front ++ n ∷ []) (s + 1) d' p' np' path' o' many' split' long') where
        split' : nodes ≡ (front ++ n ∷ []) ++ rest
        split' = split ∙ sym (append_assoc front (n ∷ []) rest)

        long' : length (front ++ n ∷ []) ≡ s + 1
        long' = omega (arith, length-append front (n ∷ []), long)

        own : slice_get nodes s ≡ Some n
        own = ap (λ xs. slice_get xs s) split ∙ at_front front rest n s long

        by : (u : Option ℕ) → ordinal_under p n.birth ≡ u
            → ((d' p' : ℕ) (np' : NodeFacts) (path' : List ℕ) (o' many' : ℕ) → length rest ≤ d' → slice_get nodes p' ≡ Some np' → np'.domain ≡ r → r ≤ p' → node_at nodes path' ≡ Some p'
            → ordinals p' rest ≡ count_from o' many' → kids_from mapped r (s + 1) rest p' path' ≡ row f (at_path nodes) (grown f (at_path nodes) d') path' o' many')
            → kids_from mapped r s (n ∷ rest) p path ≡ row f (at_path nodes) (grown f (at_path nodes) (suc d)) path o many
        by None e ih = rw (kid_none r p n e) (ih (suc d) p np path o many (omega (arith, deep)) here home up leads (skipped p o many n rest e is))
        by (Some u) e ih =
            let (m, all, first, left) = taken p u o many n rest e is in
            let under : ordinal_under p n.birth ≡ Some o = e ∙ ap (λ x. Some x) first in
            let birth = is_under p o n.birth under in
            let leads' : node_at nodes (path ++ o ∷ []) ≡ Some s = led_kid nodes tree path p s n (record { parent = p; ordinal = o }) leads own birth refl in
            let shows : at_path nodes (path ++ o ∷ []) ≡ Some (shown_of s n) = at_node nodes (path ++ o ∷ []) s n leads' own in
            let less : p < s = parent_of nodes tree s n (record { parent = p; ordinal = o }) own birth in
            let below : List ℕ → ℕ → Forest A = grown f (at_path nodes) (suc d) in
            let next = ih (suc d) p np path (o + 1) m (omega (arith, deep)) here home up leads left in
            elim (cases_eq n.domain s) [
              | inl root ↦
                  let t : (n.domain == s) ≡ true = search (rules, tests, root) in
                  let drop : put_kid f (at_path nodes) below (path ++ o ∷ []) (Some (shown_of s n)) (row f (at_path nodes) below path (o + 1) m) ≡ row f (at_path nodes) below path (o + 1) m = rw t refl in
                  rw (kid_elsewhere r p n (λ same. omega (arith, same, root, less, up)), all) (
                  next ∙ (sym drop ∙ ap (λ z. put_kid f (at_path nodes) below (path ++ o ∷ []) z (row f (at_path nodes) below path (o + 1) m)) (sym shows))
                  )
              | inr apart ↦
                  let t : (n.domain == s) ≡ false = search (rules, tests, apart) in
                  let home' : n.domain ≡ r = elim (tree.placed s n np (record { parent = p; ordinal = o }) own birth here) [ inl as_parent ↦ as_parent ∙ home | inr root ↦ absurd (apart root.0) ] in
                  let kept : put_kid f (at_path nodes) below (path ++ o ∷ []) (Some (shown_of s n)) (row f (at_path nodes) below path (o + 1) m)
                  ≡ tree_of n.state.kind (f (path ++ o ∷ []) (shown_of s n)) (below (path ++ o ∷ []) n.state.children) (row f (at_path nodes) below path (o + 1) m) = rw t refl in
                  let inner = ih d s n (path ++ o ∷ []) 0 n.state.children (omega (arith, deep)) own home' (omega (arith, up, less)) leads' (behind (front ++ n ∷ []) rest s n split' long' own) in
                  rw (kid_here r p o n home' under, all) (
                  ap (λ x. tree_of n.state.kind (f (path ++ o ∷ []) (shown_of s n)) x (kids_from mapped r (s + 1) rest p path)) inner
                  ∙ (ap (λ x. tree_of n.state.kind (f (path ++ o ∷ []) (shown_of s n)) (below (path ++ o ∷ []) n.state.children) x) next
                  ∙ (sym kept ∙ ap (λ z. put_kid f (at_path nodes) below (path ++ o ∷ []) z (row f (at_path nodes) below path (o + 1) m)) (sym shows)))
                  )
            ]

  -- a domain's forest
  pub forest_by_map : (path : List ℕ) (n : NodeFacts) (depth : ℕ) → slice_get nodes r ≡ Some n → n.domain ≡ r → node_at nodes path ≡ Some r → length nodes ≤ depth
      → forest_of mapped nodes r (path_of nodes r) ≡ tree_of n.state.kind (f path (shown_of r n)) (grown f (at_path nodes) (suc depth) path n.state.children) Empty
  forest_by_map path n depth here home leads deep =
      ap (λ p. rooted mapped nodes r p (slice_get nodes r)) (path_is nodes tree path r leads)
      ∙ (ap (λ o. rooted mapped nodes r path o) here
      ∙ ap (λ x. tree_of n.state.kind (f path (shown_of r n)) x Empty) (kids nodes [] 0 depth r n path 0 n.state.children refl refl deep here home (omega arith) leads (tree.numbered r n here)))

-- what a shape shows
abbrev pub member : List ℕ → Shown → Member
member path z = record { path = path; kind = z.state.kind; constraints = z.constraints }

-- trees with one map have one shape
module _ (xs ys : List NodeFacts) (r s : ℕ) (path : List ℕ) (tree : IsTree xs) (tree' : IsTree ys) (same : (q : List ℕ) → at_path xs q ≡ at_path ys q)
    (leads : node_at xs path ≡ Some r) (leads' : node_at ys path ≡ Some s) where
  agree : (a b : Option Shown) → a ≡ b → SameKid (Unit {0}) a b
  agree None None e = tt
  agree None (Some b) e = absurd (cc)
  agree (Some a) None e = absurd (cc)
  agree (Some a) (Some b) e = let is : a ≡ b = same_Some a b e in (ap (λ (z : Shown). z.is_domain_root) is, λ h. (is, tt))

  shape_at : HasDomain xs r → HasDomain ys s → shape_of xs r ≡ shape_of ys s
  shape_at root root' =
      let (n, here, home) = there (λ (z : NodeFacts). z.domain ≡ r) (slice_get xs r) root in
      let (m, here', home') = there (λ (z : NodeFacts). z.domain ≡ s) (slice_get ys s) root' in
      let depth : ℕ = length xs + length ys in
      let shows : shown_of r n ≡ shown_of s m = same_Some (shown_of r n) (shown_of s m) (sym (at_node xs path r n leads here) ∙ (same path ∙ at_node ys path s m leads' here')) in
      forest_by_map member xs tree r path n depth here home leads (omega arith)
      ∙ (ap (λ (z : Shown). tree_of z.state.kind (member path z) (grown member (at_path xs) (suc depth) path z.state.children) Empty) shows
      ∙ (ap (λ x. tree_of m.state.kind (member path (shown_of s m)) x Empty)
      (same_grown member (at_path xs) (at_path ys) (λ q. Unit {0}) (λ q o w. agree (at_path xs (q ++ o ∷ [])) (at_path ys (q ++ o ∷ [])) (same (q ++ o ∷ []))) (suc depth) path m.state.children tt)
      ∙ sym (forest_by_map member ys tree' s path m depth here' home' leads' (omega arith))))

pub same_shape : (xs ys : List NodeFacts) (r s : ℕ) → IsTree xs → IsTree ys → ((q : List ℕ) → at_path xs q ≡ at_path ys q)
    → HasDomain xs r → HasDomain ys s → path_of xs r ≡ path_of ys s → shape_of xs r ≡ shape_of ys s
same_shape xs ys r s tree tree' same root root' paths =
    let (n, here, _) = there (λ (z : NodeFacts). z.domain ≡ r) (slice_get xs r) root in
    let (m, here', _) = there (λ (z : NodeFacts). z.domain ≡ s) (slice_get ys s) root' in
    shape_at xs ys r s (path_of ys s) tree tree' same (ap (node_at xs) (sym paths) ∙ path_leads xs tree r (slice_get_within xs r n here)) (path_leads ys tree' s (slice_get_within ys s m here')) root root'
