-- The next group of a domain, as its layout tells it.
use Rattle.std.proofs.Common.{◌≡◌, ◌<◌, ℕ, suc, true, List, Option, Some, None, length, get_or, slice_get, refl, sym, ◌∙◌, ap, subst, arith}
use Rattle.std.specs.Prelude.{option_map, IfSome, IsSome, IsSomeAnd}
use Rattle.std.specs.Option.{option_or}
use Rattle.std.proofs.lemmas.Option.{same_Some, none-some, get_or_from_slice_get}
use Rattle.sysmem_tree.specs.declared.layout.Layout.{Layout}
use Rattle.sysmem_tree.specs.declared.layout.LayoutPlace.{LayoutPlace}
use Rattle.sysmem_tree.specs.Forest.{Forest, Empty, Plain, Group, each, relabel, first_group}
use Rattle.sysmem_tree.specs.Layout.{Spot, first_place, IsLayout}
use Rattle.sysmem_tree.specs.Prefix.{Alternatives, next_alternatives, AreOpen}
use Rattle.sysmem_tree.specs.Selection.{after, IsPrefix}
use Rattle.sysmem_tree.proofs.layouts.Layouts.{starts_before}
use Rattle.sysmem_tree.proofs.selections.Selections.{after_relabel}
use Rattle.sysmem_tree.proofs.layouts.Walks.{Stands, stands, no_first, first_is}

-- the node of a spot
abbrev pub node_of : Spot → ℕ
node_of s = s.node

many_relabel : (d : Forest Spot) → length (each (relabel node_of d)) ≡ length (each d)
many_relabel Empty = refl
many_relabel (Plain s kids rest) = ap (λ n. suc n) (many_relabel rest)
many_relabel (Group s kids rest) = ap (λ n. suc n) (many_relabel rest)

-- what is told of alternatives
abbrev shown : Alternatives Spot → ℕ × ℕ
shown g = (g.group.node, length (each g.kids))

map_or : (a b : Option (Alternatives Spot)) → option_map shown (option_or a b) ≡ option_or (option_map shown a) (option_map shown b)
map_or None b = refl
map_or (Some g) b = refl

first_shown : (d : Forest Spot) → first_group (relabel node_of d) ≡ option_map shown (next_alternatives d)
first_shown Empty = refl
first_shown (Plain s kids rest) = ap (λ o. option_or o (first_group (relabel node_of rest))) (first_shown kids)
    ∙ (ap (option_or (option_map shown (next_alternatives kids))) (first_shown rest) ∙ sym (map_or (next_alternatives kids) (next_alternatives rest)))
first_shown (Group s kids rest) = ap (λ n. Some (s.node, n)) (many_relabel kids)

-- what was told of the forest of places
abbrev pub Told : List LayoutPlace → Option ℕ → Forest Spot → Type 0
Told ps at e = (at ≡ first_place e) × AreOpen ps e None

-- what the entry at a place shows is the first group
abbrev ShownAt : List LayoutPlace → Forest Spot → ℕ → Type 0
ShownAt ps e i = (d : LayoutPlace) → first_group (relabel node_of e) ≡ Some ((get_or ps i d).node, (get_or ps i d).children)

-- the place of the next group has its node and its number of children
pub shown_at : (ps : List LayoutPlace) (e : Forest Spot) (i : ℕ) → Told ps (Some i) e
    → (i < 128) × ShownAt ps e i
shown_at ps e i told = by (next_alternatives e) refl (stands ps e None told.1) where
  by : (o : Option (Alternatives Spot)) → next_alternatives e ≡ o → IfSome o (Stands ps) → (i < 128) × ShownAt ps e i
  by None is_none st = absurd (none-some i (sym (no_first e is_none) ∙ sym told.0))
  by (Some g) is_some st = at (slice_get ps i) refl (subst (λ k. IsSomeAnd (slice_get ps k) (λ (q : LayoutPlace). (q.node ≡ g.group.node) × (q.children ≡ length (each g.kids)))) (sym place) st.entry) where
    place : i ≡ g.group.place
    place = same_Some i g.group.place (told.0 ∙ first_is e g is_some)

    at : (o : Option LayoutPlace) → slice_get ps i ≡ o → IsSomeAnd o (λ (q : LayoutPlace). (q.node ≡ g.group.node) × (q.children ≡ length (each g.kids)))
        → (i < 128) × ShownAt ps e i
    at None here h = absurd h
    at (Some q) here h =
        let before = starts_before true ps g.kids st.alternatives.to st.alternatives.next st.alternatives.laid in (
          omega (arith, before, place, st.alternatives.starts, st.alternatives.small),
          λ d.
              let same : get_or ps i d ≡ q = get_or_from_slice_get ps i q d here in
              first_shown e ∙ (ap (option_map shown) is_some ∙ ap Some (pair (sym h.0 ∙ sym (ap (λ (x : LayoutPlace). x.node) same)) (sym h.1 ∙ sym (ap (λ (x : LayoutPlace). x.children) same)))),
        ) where
          pair : {a b c d : ℕ} → a ≡ b → c ≡ d → Path (ℕ × ℕ) (a, c) (b, d)
          pair e f = rw (e, f) refl

module _ (layout : Layout) (d : Forest ℕ) (laid : IsLayout layout d) (cs : List ℕ) where
  -- a prefix leads to the same forest, by numbers and by places
  pub after_spots : after d cs ≡ option_map (relabel node_of) (after laid.spots cs)
  after_spots = ap (λ x. after x cs) (sym laid.numbers) ∙ after_relabel node_of cs laid.spots

  -- a prefix of the domain is one of its places
  pub prefix_of_places : (as' : List ℕ) → as' ≡ cs → IsPrefix d cs → IsPrefix laid.spots as'
  prefix_of_places as' same h = subst (IsPrefix laid.spots) (sym same) (by (after laid.spots cs) (subst IsSome after_spots h)) where
    by : (o : Option (Forest Spot)) → IsSome (option_map (relabel node_of) o) → IsSome o
    by None h = absurd (cc)
    by (Some e) h = refl

  module _ (as' : List ℕ) (same : as' ≡ cs) (told_at : Option ℕ) (told : IfSome (after laid.spots as') (Told layout.places told_at)) where
    told_as : (at : Option ℕ) → told_at ≡ at → IfSome (after laid.spots cs) (Told layout.places at)
    told_as at is = subst (λ o. IfSome (after laid.spots cs) (Told layout.places o)) is (subst (λ x. IfSome (after laid.spots x) (Told layout.places told_at)) same told)

    -- the next group's place is one of the layout's
    pub group_within : (i : ℕ) → told_at ≡ Some i → IsPrefix d cs → i < 128
    group_within i is h = by (after laid.spots cs) (prefix_of_places cs refl h) (told_as (Some i) is) where
      by : (o : Option (Forest Spot)) → IsSome o → IfSome o (Told layout.places (Some i)) → i < 128
      by None h t = absurd (cc)
      by (Some e) h t = (shown_at layout.places e i t).0

    -- and tells of it
    pub told_group : (i : ℕ) (p : LayoutPlace) → told_at ≡ Some i → IfSome (after d cs) (λ e. Some ((get_or layout.places i p).node, (get_or layout.places i p).children) ≡ first_group e)
    told_group i p is = subst (λ o. IfSome o (λ e. Some ((get_or layout.places i p).node, (get_or layout.places i p).children) ≡ first_group e)) (sym after_spots) (by (after laid.spots cs) (told_as (Some i) is)) where
      by : (o : Option (Forest Spot)) → IfSome o (Told layout.places (Some i)) → IfSome (option_map (relabel node_of) o) (λ e. Some ((get_or layout.places i p).node, (get_or layout.places i p).children) ≡ first_group e)
      by None t = tt
      by (Some e) t = sym ((shown_at layout.places e i t).1 p)

    -- or there is none
    pub told_none : told_at ≡ None → IfSome (after d cs) (λ e. None ≡ first_group e)
    told_none is = subst (λ o. IfSome o (λ e. None ≡ first_group e)) (sym after_spots) (by (after laid.spots cs) (told_as None is)) where
      none : (e : Forest Spot) → Told layout.places None e → (o : Option (Alternatives Spot)) → next_alternatives e ≡ o → None ≡ first_group (relabel node_of e)
      none e t None is = sym (first_shown e ∙ ap (option_map shown) is)
      none e t (Some g) is = absurd (none-some g.group.place (t.0 ∙ first_is e g is))

      by : (o : Option (Forest Spot)) → IfSome o (Told layout.places None) → IfSome (option_map (relabel node_of) o) (λ e. None ≡ first_group e)
      by None t = tt
      by (Some e) t = none e t (next_alternatives e) refl
