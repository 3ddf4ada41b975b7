-- How many nodes are below each child of the root, as nodes are made.
use Rattle.std.proofs.Common.{◌≡◌, ◌<◌, ◌≤◌, ◌+◌, ◌==◌, ℕ, zero, suc, Bool, true, false, ◌&&◌, List, [], ◌∷◌, ◌++◌, Option, None, Some, Ok, get_or, length, replicate, slice_get, slice_set, refl, sym, ◌∙◌, ap, subst, arith, rules, tests}
use Rattle.std.specs.Prelude.{IfSome, is_some, nat_le, option_and_then, option_map, unwrap_or, if◌then◌else◌}
use Rattle.std.proofs.lemmas.List.{get_or-set_other, get_or-set_same, length-replicate, length-set}
use Rattle.std.proofs.lemmas.List.Quantifiers.{position-Some}
use Rattle.std.proofs.lemmas.Option.{same_Some, slice_get-get_or}
use Rattle.sysmem_tree.specs.declared.action.ActionKind.{ActionKind}
use Rattle.sysmem_tree.specs.declared.node.Birth.{Birth}
use Rattle.sysmem_tree.specs.declared.state.NodeState.{NodeState}
use Rattle.sysmem_tree.specs.ActionKind.{Deed, kind_of}
use Rattle.sysmem_tree.specs.Domain.{TreeFacts}
use Rattle.sysmem_tree.specs.Laws.{AreStill, OnePath}
use Rattle.sysmem_tree.specs.Node.{NodeFacts}
use Rattle.sysmem_tree.specs.Nodes.{IsTree, count_from, ordinal_under, ordinals}
use Rattle.sysmem_tree.specs.Path.{child_of, is_born, led_to, node_at, path_of}
use Rattle.sysmem_tree.specs.Table.{makes}
use Rattle.sysmem_tree.specs.Tree.{Applied, applied, first_tree, new_node, node_after, nodes_made}
use Rattle.sysmem_tree.proofs.CallerLemmas.{accepted, led_kid, node_within}
use Rattle.node_limits.specs.declared.limits.Limits.{Limits}
use Rattle.node_limits.specs.Limits.{AreCounted, below_among, counts_after, is_below, is_full, is_spent, offspring}
use Rattle.node_limits.proofs.Growing.{grows, made_by}
use Rattle.node_limits.proofs.Fewer.{few_children}

-- nodes that keep their paths are below what they were
same_below : (old new : List NodeFacts) (top many : ℕ) → ((i : ℕ) → i < many → path_of new i ≡ path_of old i) → below_among new top many ≡ below_among old top many
same_below old new top zero same = refl
same_below old new top (suc many) same =
    ap (λ n. n + (if is_below top (path_of new many) then 1 else 0)) (same_below old new top many (λ i less. same i (omega (arith, less))))
    ∙ ap (λ p. below_among old top many + (if is_below top p then 1 else 0)) (same many (omega arith))

-- no more are below a child than there are
few_below : (nodes : List NodeFacts) (top many : ℕ) → below_among nodes top many ≤ many
few_below nodes top zero = omega arith
few_below nodes top (suc i) = by (is_below top (path_of nodes i)) (few_below nodes top i) where
  by : (b : Bool) → below_among nodes top i ≤ i → below_among nodes top i + (if b then 1 else 0) ≤ suc i
  by true few = omega (arith, few)
  by false few = omega (arith, few)

pub few_offspring : (nodes : List NodeFacts) (top : ℕ) → offspring nodes top ≤ length nodes
few_offspring nodes top = few_below nodes top (length nodes)

pub still_offspring : (old new : List NodeFacts) (top : ℕ) → AreStill old new → length new ≡ length old → offspring new top ≡ offspring old top
still_offspring old new top still many = ap (below_among new top) many ∙ same_below old new top (length old) still.path

-- one more node is below the child through which its path goes on
pub grown_offspring : (old new : List NodeFacts) (top : ℕ) (path : List ℕ) → AreStill old new → length new ≡ suc (length old) → path_of new (length old) ≡ path
    → offspring new top ≡ offspring old top + (if is_below top path then 1 else 0)
grown_offspring old new top path still many is =
    ap (below_among new top) many
    ∙ (ap (λ n. n + (if is_below top (path_of new (length old)) then 1 else 0)) (same_below old new top (length old) still.path)
    ∙ ap (λ p. offspring old top + (if is_below top p then 1 else 0)) is)

-- where nothing was made, the counts stay
pub still_counted : (old new : List NodeFacts) (counts : List ℕ) → AreStill old new → length new ≡ length old → AreCounted old counts → AreCounted new counts
still_counted old new counts still many are = record { room = are.room; each = λ top few. are.each top few ∙ sym (still_offspring old new top still many) }

-- the ordinals of a node's children are fewer than these
kid_few : (p : ℕ) (xs : List NodeFacts) (a many o k : ℕ) (y : NodeFacts) → ordinals p xs ≡ count_from a many → slice_get xs k ≡ Some y → ordinal_under p y.birth ≡ Some o → o < a + many
kid_few p [] a many o k y is here under = absurd (cc)
kid_few p (x ∷ xs) a many o k y is here under = at k here (ordinal_under p x.birth) refl (λ j b m r there. kid_few p xs b m o j y r there under) where
  skip : ordinal_under p x.birth ≡ None → ordinals p (x ∷ xs) ≡ ordinals p xs
  skip e = rw e refl

  take_one : (u : ℕ) → ordinal_under p x.birth ≡ Some u → ordinals p (x ∷ xs) ≡ u ∷ ordinals p xs
  take_one u e = rw e refl

  first_is : (u many : ℕ) → u ∷ ordinals p xs ≡ count_from a many → (m : ℕ) × (many ≡ suc m) × (u ≡ a) × (ordinals p xs ≡ count_from (a + 1) m)
  first_is u zero e = absurd (cc)
  first_is u (suc m) e = (m, refl, cc, cc)

  at : (k : ℕ) → slice_get (x ∷ xs) k ≡ Some y → (ox : Option ℕ) → ordinal_under p x.birth ≡ ox
      → ((j b m : ℕ) → ordinals p xs ≡ count_from b m → slice_get xs j ≡ Some y → o < b + m) → o < a + many
  at zero here None e ih =
      absurd (let same : x ≡ y = same_Some x y here in let none : ordinal_under p y.birth ≡ None = subst (λ (z : NodeFacts). ordinal_under p z.birth ≡ None) same e in cc)
  at zero here (Some u) e ih =
      let (m, all, first, _) = first_is u many (sym (take_one u e) ∙ is) in
      let same : u ≡ o = same_Some u o (sym (subst (λ (z : NodeFacts). ordinal_under p z.birth ≡ Some u) (same_Some x y here) e) ∙ under) in
      omega (arith, first, same, all)
  at (suc k) here None e ih = ih k a many (sym (skip e) ∙ is) here
  at (suc k) here (Some u) e ih =
      let (m, all, _, rest) = first_is u many (sym (take_one u e) ∙ is) in
      let less = ih k (a + 1) m rest here in
      omega (arith, less, all)

-- what was born as this child has its ordinal
born_under : (p o : ℕ) (b : Option Birth) → is_born p o b ≡ true → ordinal_under p b ≡ Some o
born_under p o None is = absurd (cc)
born_under p o (Some b) is = by (b.parent == p) (b.ordinal == o) refl is where
  by : (x y : Bool) → (b.ordinal == o) ≡ y → (x && y) ≡ true → (if x then Some b.ordinal else None) ≡ Some o
  by true true e both = let same : b.ordinal ≡ o = search (rules, tests, e) in ap Some same
  by true false e both = absurd (cc)
  by false y e both = absurd (cc)

-- a path that leads to a node begins with one of the root's children, of which there are fewer than 128
pub few_tops : (nodes : List NodeFacts) → IsTree nodes → (path : List ℕ) → is_some (node_at nodes path) ≡ true → IfSome (slice_get path 0) (λ top. top < 128)
few_tops nodes tree [] leads = tt
few_tops [] tree (top ∷ rest) leads = absurd tree.root
few_tops (d ∷ nodes) tree (top ∷ rest) leads = by (child_of (d ∷ nodes) 0 top) refl leads where
  by : (c : Option ℕ) → child_of (d ∷ nodes) 0 top ≡ c → is_some (option_and_then (λ child. led_to (d ∷ nodes) child rest) c) ≡ true → top < 128
  by None found on = absurd (cc)
  by (Some c) found on =
      let (within, born, _) = position-Some (λ n. is_born 0 top n.birth) (d ∷ nodes) c d found in
      let here : slice_get (d ∷ nodes) c ≡ Some (get_or (d ∷ nodes) c d) = slice_get-get_or (d ∷ nodes) c d within in
      let under = born_under 0 top ((get_or (d ∷ nodes) c d).birth) born in
      let less = kid_few 0 (d ∷ nodes) 0 d.state.children top c (get_or (d ∷ nodes) c d) (tree.numbered 0 d refl) here under in
      let few : d.state.children < length (d ∷ nodes) = few_children (d ∷ nodes) tree 0 d refl in
      omega (arith, less, few, tree.few)

-- a count of nodes fits a byte, with one more
pub room_for : (nodes : List NodeFacts) (counts path : List ℕ) → AreCounted nodes counts → length nodes ≤ 128 → IfSome (slice_get path 0) (λ top. top < 128)
    → IfSome (slice_get path 0) (λ top. get_or counts top 0 < 255)
room_for nodes counts [] are few small = tt
room_for nodes counts (top ∷ rest) are few small = omega (arith, are.each top small, few_offspring nodes top, few)

-- the last of a list
last_of : {X : Type 0} (xs : List X) (y : X) (k : ℕ) → k ≡ length xs → slice_get (xs ++ y ∷ []) k ≡ Some y
last_of [] y zero is = refl
last_of [] y (suc k) is = absurd (omega (arith, is))
last_of (x ∷ xs) y zero is = absurd (omega (arith, is))
last_of (x ∷ xs) y (suc k) is = last_of xs y k (omega (arith, is))

-- the path of the node that an action makes goes on from the one on which it was made
pub made_child : OnePath → (t : TreeFacts) (i : ℕ) (deed : Deed) (after : Applied) (path : List ℕ) (s : NodeState) → IsTree t.nodes → IsTree after.tree.nodes → AreStill t.nodes after.tree.nodes
    → node_at t.nodes path ≡ Some i → applied t i deed ≡ Ok after → makes (kind_of deed) ≡ Some s → length after.tree.nodes ≡ suc (length t.nodes)
    → (n : NodeFacts) × (slice_get t.nodes i ≡ Some n) × (path_of after.tree.nodes (length t.nodes) ≡ path ++ n.state.children ∷ [])
made_child one t i deed after path s tree grown still leads is made many =
    let (n, a) = accepted t i deed after is in
    let node = new_node (length t.nodes) i n (kind_of deed) s in
    let front = slice_set t.nodes i (node_after deed n) in
    let all : after.tree.nodes ≡ front ++ node ∷ [] = sym (ap (λ (u : TreeFacts). u.nodes) a.tree) ∙ ap (λ m. front ++ nodes_made (length t.nodes) i n (kind_of deed) m) made in
    let here : slice_get after.tree.nodes (length t.nodes) ≡ Some node = ap (λ ns. slice_get ns (length t.nodes)) all ∙ last_of front node (length t.nodes) (sym (length-set t.nodes i (node_after deed n))) in
    let within : i < length t.nodes = node_within t.nodes tree path i leads in
    let was : path ≡ path_of t.nodes i = (one t.nodes i tree within).only path leads in
    let same : path_of after.tree.nodes i ≡ path = still.path i within ∙ sym was in
    let still_leads : node_at after.tree.nodes path ≡ Some i = ap (node_at after.tree.nodes) (sym same) ∙ (one after.tree.nodes i grown (omega (arith, within, many))).leads in
    let on : node_at after.tree.nodes (path ++ n.state.children ∷ []) ≡ Some (length t.nodes) =
    led_kid after.tree.nodes grown path i (length t.nodes) node (record { parent = i; ordinal = n.state.children }) still_leads here refl refl in
    (n, a.there, sym ((one after.tree.nodes (length t.nodes) grown (omega (arith, many))).only (path ++ n.state.children ∷ []) on))

pub made_path : OnePath → (t : TreeFacts) (i : ℕ) (deed : Deed) (after : Applied) (path : List ℕ) (s : NodeState) → IsTree t.nodes → IsTree after.tree.nodes → AreStill t.nodes after.tree.nodes
    → node_at t.nodes path ≡ Some i → applied t i deed ≡ Ok after → makes (kind_of deed) ≡ Some s → length after.tree.nodes ≡ suc (length t.nodes)
    → (o : ℕ) × (path_of after.tree.nodes (length t.nodes) ≡ path ++ o ∷ [])
made_path one t i deed after path s tree grown still leads is made many =
    let (n, _, at) = made_child one t i deed after path s tree grown still leads is made many in (n.state.children, at)

-- a node below one on a path is below the child with which that path begins
pub goes_on : (top first o : ℕ) (rest : List ℕ) → is_below top ((first ∷ rest) ++ o ∷ []) ≡ (first == top)
goes_on top first o [] = refl
goes_on top first o (next ∷ rest) = refl

unmade : (counts path : List ℕ) (kind : ActionKind) → is_some (makes kind) ≡ false → counts_after counts path kind ≡ counts
unmade counts [] _ is = refl
unmade counts (top ∷ rest) _ is = ap (λ b. if b then slice_set counts top (get_or counts top 0 + 1) else counts) is

-- the counts with one more node, at the end of a path that goes on from this one
one_more : (old new : List NodeFacts) (counts path : List ℕ) (kind : ActionKind) (o : ℕ) → AreStill old new → length new ≡ suc (length old) → path_of new (length old) ≡ path ++ o ∷ []
    → IfSome (slice_get path 0) (λ top. top < 128) → is_some (makes kind) ≡ true → AreCounted old counts → AreCounted new (counts_after counts path kind)
one_more old new counts [] _ o still many at few made are = record {
  room = are.room;
  each = λ top small. are.each top small ∙ sym (let grown : offspring new top ≡ offspring old top + 0 = grown_offspring old new top (o ∷ []) still many at in omega (arith, grown));
}
one_more old new counts (first ∷ rest) _ o still many at few made are =
    subst (λ (b : Bool). AreCounted new (if b then slice_set counts first (get_or counts first 0 + 1) else counts)) (sym made)
    (record { room = length-set counts first (get_or counts first 0 + 1) ∙ are.room; each = λ top small. by top small (first == top) refl }) where
      grown : (top : ℕ) (b : Bool) → (first == top) ≡ b → offspring new top ≡ offspring old top + (if b then 1 else 0)
      grown top b is = grown_offspring old new top ((first ∷ rest) ++ o ∷ []) still many at ∙ ap (λ x. offspring old top + (if x then 1 else 0)) (goes_on top first o rest ∙ is)

      apart : (top : ℕ) → (first == top) ≡ false → top ≡ first → ⊥
      apart top is same = let t : (first == top) ≡ true = search (rules, tests, sym same) in absurd (cc)

      by : (top : ℕ) → top < 128 → (b : Bool) → (first == top) ≡ b → get_or (slice_set counts first (get_or counts first 0 + 1)) top 0 ≡ offspring new top
      by top small true is =
          let same : first ≡ top = search (rules, tests, is) in
          let here : get_or (slice_set counts first (get_or counts first 0 + 1)) first 0 ≡ get_or counts first 0 + 1 =
          get_or-set_same counts first (get_or counts first 0 + 1) 0 (omega (arith, few, are.room)) in
          let was : get_or counts first 0 ≡ offspring old top = ap (λ x. get_or counts x 0) same ∙ are.each top small in
          ap (λ x. get_or (slice_set counts first (get_or counts first 0 + 1)) x 0) (sym same) ∙ (here ∙ (ap (λ n. n + 1) was ∙ sym (grown top true is)))
      by top small false is =
          let more : offspring new top ≡ offspring old top + 0 = grown top false is in
          get_or-set_other counts first top (get_or counts first 0 + 1) 0 (apart top is) ∙ (are.each top small ∙ omega (arith, more))

-- after an accepted action on the node at a path the counts are those of the root's children
pub acted_counted : OnePath → (t : TreeFacts) (i : ℕ) (deed : Deed) (after : Applied) (path counts : List ℕ) → IsTree t.nodes → IsTree after.tree.nodes → AreStill t.nodes after.tree.nodes
    → node_at t.nodes path ≡ Some i → applied t i deed ≡ Ok after → AreCounted t.nodes counts → AreCounted after.tree.nodes (counts_after counts path (kind_of deed))
acted_counted one t i deed after path counts tree grown still leads is are = by (makes (kind_of deed)) refl where
  more : length after.tree.nodes ≡ length t.nodes + made_by (kind_of deed)
  more = grows t i deed after is

  by : (m : Option NodeState) → makes (kind_of deed) ≡ m → AreCounted after.tree.nodes (counts_after counts path (kind_of deed))
  by None none =
      let no : made_by (kind_of deed) ≡ 0 = ap (λ (m : Option NodeState). if is_some m then 1 else 0) none in
      subst (AreCounted after.tree.nodes) (sym (unmade counts path (kind_of deed) (ap is_some none))) (still_counted t.nodes after.tree.nodes counts still (omega (arith, more, no)) are)
  by (Some s) made =
      let one_made : made_by (kind_of deed) ≡ 1 = ap (λ (m : Option NodeState). if is_some m then 1 else 0) made in
      let many : length after.tree.nodes ≡ suc (length t.nodes) = omega (arith, more, one_made) in
      let (o, at) = made_path one t i deed after path s tree grown still leads is made many in
      one_more t.nodes after.tree.nodes counts path (kind_of deed) o still many at (few_tops t.nodes tree path (ap is_some leads)) (ap is_some made) are

pub none_yet : (many k : ℕ) → get_or {A = ℕ} (replicate many 0) k 0 ≡ 0
none_yet zero k = refl
none_yet (suc many) zero = refl
none_yet (suc many) (suc k) = none_yet many k

-- nothing is below a child of a root alone
pub first_counted : AreCounted first_tree.nodes (replicate 128 0)
first_counted = record { room = length-replicate {A = ℕ} 128 0; each = λ top few. none_yet 128 top }

-- the limits are spent where the count says so
pub spent_by_count : (limits : Limits) (nodes : List NodeFacts) (counts path : List ℕ) (kind : ActionKind) (most top : ℕ) → AreCounted nodes counts → top < 128 → slice_get path 0 ≡ Some top
    → limits.offspring ≡ Some most → is_some (makes kind) ≡ true → nat_le most (get_or counts top 0) ≡ is_spent limits nodes path kind
spent_by_count limits nodes counts [] _ most top are few first limit made = absurd (cc)
spent_by_count limits nodes counts (t ∷ rest) _ most top are few first limit made =
    ap (nat_le most) (are.each top few)
    ∙ (ap (λ x. nat_le most (offspring nodes x)) (sym (same_Some t top first))
    ∙ (sym (ap (λ o. unwrap_or (option_map (λ m. nat_le m (offspring nodes t)) o) false) limit)
    ∙ sym (ap (λ b. b && is_full limits nodes t) made)))
