-- Forests laid out in places.
use Rattle.std.proofs.Common.{◌≡◌, ◌≢◌, ◌≤◌, ◌<◌, ℕ, zero, suc, ◌+◌, Bool, true, false, List, [], ◌∷◌, Option, Some, None, length, slice_get, slice_set, refl, sym, ◌∙◌, ap, subst, arith}
use Rattle.std.specs.Prelude.{if◌then◌else◌}
use Rattle.std.specs.Option.{option_or}
use Rattle.sysmem_tree.specs.declared.layout.LaidNodes.{LaidNodes}
use Rattle.sysmem_tree.specs.declared.layout.LayoutPlace.{LayoutPlace}
use Rattle.sysmem_tree.specs.declared.state.NodeKind.{NodeKind}
use Rattle.sysmem_tree.specs.declared.state.NodeKind.TheVariants as kinds
use Rattle.sysmem_tree.specs.Forest.{Forest, Empty, Plain, Group, each, relabel}
use Rattle.sysmem_tree.specs.Layout.{is_group, size, Spot, start, first_place, behind, IsLaidPlace, AreLaid, Lays}
use Rattle.sysmem_tree.specs.Shape.{tree_of}

-- what is written at a place stands there
pub set_here : {X : Type 0} (xs : List X) (i : ℕ) (y : X) → i < length xs → slice_get (slice_set xs i y) i ≡ Some y
set_here [] i y less = absurd (omega (arith, less))
set_here (x ∷ xs) zero y less = refl
set_here (x ∷ xs) (suc i) y less = set_here xs i y (omega (arith, less))

-- and the others stay
pub set_above : {X : Type 0} (xs : List X) (i : ℕ) (y : X) (k : ℕ) → i < k → slice_get (slice_set xs i y) k ≡ slice_get xs k
set_above [] i y k less = refl
set_above (x ∷ xs) i y zero less = absurd (omega (arith, less))
set_above (x ∷ xs) zero y (suc k) less = refl
set_above (x ∷ xs) (suc i) y (suc k) less = set_above xs i y k (omega (arith, less))

pub set_other : {X : Type 0} (xs : List X) (i : ℕ) (y : X) (k : ℕ) → k ≢ i → slice_get (slice_set xs i y) k ≡ slice_get xs k
set_other [] i y k other = refl
set_other (x ∷ xs) zero y zero other = absurd (other refl)
set_other (x ∷ xs) zero y (suc k) other = refl
set_other (x ∷ xs) (suc i) y zero other = refl
set_other (x ∷ xs) (suc i) y (suc k) other = set_other xs i y k (λ e. other (ap suc e))

-- a layout starts before its end
pub starts_before : (g : Bool) (ps : List LayoutPlace) (w : Forest Spot) (to : ℕ) (next : Option ℕ) → AreLaid g ps w to next → start w to ≤ to
starts_before g ps Empty to next l = omega arith
starts_before g ps (Plain s kids rest) to next l =
    let a = starts_before false ps kids (start rest to) (behind g rest next) l.1 in
    let b = starts_before g ps rest to next l.2 in omega (arith, a, b, l.0.kids_here)
starts_before g ps (Group s kids rest) to next l =
    let a = starts_before true ps kids (start rest to) (behind g rest next) l.1 in
    let b = starts_before g ps rest to next l.2 in omega (arith, a, b, l.0.kids_here)

-- a layout stays where no place from its start on changes
pub still_laid : (ps qs : List LayoutPlace) (g : Bool) (w : Forest Spot) (to : ℕ) (next : Option ℕ) → AreLaid g ps w to next
    → ((k : ℕ) → start w to ≤ k → slice_get qs k ≡ slice_get ps k) → AreLaid g qs w to next
still_laid ps qs g Empty to next l same = l
still_laid ps qs g (Plain s kids rest) to next l same =
    let a = starts_before false ps kids (start rest to) (behind g rest next) l.1 in (
      record { here = same s.place (omega arith) ∙ l.0.here; kids_here = l.0.kids_here },
      still_laid ps qs false kids (start rest to) (behind g rest next) l.1 (λ k p. same k (omega (arith, p, l.0.kids_here))),
      still_laid ps qs g rest to next l.2 (λ k p. same k (omega (arith, p, a, l.0.kids_here))),
    )
still_laid ps qs g (Group s kids rest) to next l same =
    let a = starts_before true ps kids (start rest to) (behind g rest next) l.1 in (
      record { here = same s.place (omega arith) ∙ l.0.here; kids_here = l.0.kids_here },
      still_laid ps qs true kids (start rest to) (behind g rest next) l.1 (λ k p. same k (omega (arith, p, l.0.kids_here))),
      still_laid ps qs g rest to next l.2 (λ k p. same k (omega (arith, p, a, l.0.kids_here))),
    )

pub or_assoc : {X : Type 0} (a b c : Option X) → option_or (option_or a b) c ≡ option_or a (option_or b c)
or_assoc None b c = refl
or_assoc (Some x) b c = refl

-- how many nodes a tree has
pub size_tree : (k : NodeKind) (i : ℕ) (a b : Forest ℕ) → size (tree_of k i a b) ≡ suc (size a + size b)
size_tree kinds.Token i a b = refl
size_tree kinds.Group i a b = refl
size_tree kinds.Collection i a b = refl

-- a place by what it shows
same_place : (i : ℕ) (k : Bool) (c c' e e' : ℕ) (n n' : Option ℕ) → c ≡ c' → e ≡ e' → n ≡ n'
    → Path LayoutPlace (record { node = i; is_group = k; children = c; end = e; next = n }) (record { node = i; is_group = k; children = c'; end = e'; next = n' })
same_place i k c c' e e' n n' p q r = rw (p, q, r) refl

-- what is behind a tree and its neighbours
goes_plain : (g : Bool) (s : Spot) (kids rest : Forest Spot) (next others own : Option ℕ) → behind g rest next ≡ others → behind false kids others ≡ own
    → behind g (Plain s kids rest) next ≡ (if g then next else own)
goes_plain true s kids rest next others own e f = refl
goes_plain false s kids rest next others own e f = or_assoc (first_place kids) (first_place rest) next ∙ (ap (option_or (first_place kids)) e ∙ f)

goes_group : (g : Bool) (s : Spot) (kids rest : Forest Spot) (next : Option ℕ) → behind g (Group s kids rest) next ≡ (if g then next else Some s.place)
goes_group true s kids rest next = refl
goes_group false s kids rest next = refl

-- a child is laid out in front of the others: below it come its own
-- children, laid out before the others
module _ (g : Bool) (ps qs : List LayoutPlace) (i to : ℕ) (next : Option ℕ) (a b : Forest ℕ) (own others : LaidNodes)
    (rest : Lays g ps b others to next) (kept : (k : ℕ) → others.start ≤ k → slice_get qs k ≡ slice_get ps k)
    (place : ℕ) (before : suc place ≡ own.start) (room : place < length qs) where
  abbrev spot : Spot
  spot = record { place = place; node = i }

  abbrev entry : Bool → LayoutPlace
  entry k = record { node = i; is_group = k; children = own.children; end = others.start; next = if k then Some place else own.next }

  abbrev made : Bool → LaidNodes
  made k = record { start = place; children = others.children + 1; next = if g then next else (if k then Some place else own.next) }

  abbrev written : Bool → List LayoutPlace
  written k = slice_set qs place (entry k)

  module _ (k : Bool) (kids : Lays k qs a own others.start others.next) where
    rest_laid : AreLaid g (written k) rest.spots to next
    rest_laid = still_laid ps (written k) g rest.spots to next rest.places_laid (λ j p.
        let up : place < j = omega (arith, p, rest.starts, kids.few, before) in
        set_above qs place (entry k) j up ∙ kept j (omega (arith, p, rest.starts)))

    kids_laid : AreLaid k (written k) kids.spots (start rest.spots to) (behind g rest.spots next)
    kids_laid = subst (λ e. AreLaid k (written k) kids.spots e (behind g rest.spots next)) (sym rest.starts)
        (subst (λ n. AreLaid k (written k) kids.spots others.start n) (sym rest.goes_on)
        (still_laid qs (written k) k kids.spots others.start others.next kids.places_laid (λ j p.
        let up : place < j = omega (arith, p, kids.starts, before) in set_above qs place (entry k) j up)))

    at_place : (m : Option ℕ) → (if k then Some place else own.next) ≡ m → IsLaidPlace (written k) spot k kids.spots (start rest.spots to) m
    at_place m is = record {
      here = set_here qs place (entry k) room ∙ ap Some (same_place i k own.children (length (each kids.spots)) others.start (start rest.spots to) (if k then Some place else own.next) m (sym kids.many) (sym rest.starts) is);
      kids_here = let z = before in ap (start kids.spots) rest.starts ∙ (kids.starts ∙ omega (arith, z));
    }

  plain_laid : (kids : Lays false qs a own others.start others.next) → Lays g (written false) (Plain i a b) (made false) to next
  plain_laid kids = record {
    spots = Plain spot kids.spots rest.spots;
    numbers = ap (λ x. Plain i x (relabel (λ (s : Spot). s.node) rest.spots)) kids.numbers ∙ ap (λ x. Plain i a x) rest.numbers;
    starts = refl;
    long = omega (arith, before, kids.long, rest.long);
    many = omega (arith, rest.many);
    few = omega (arith, before, kids.few, rest.few);
    goes_on = goes_plain g spot kids.spots rest.spots next others.next own.next rest.goes_on kids.goes_on;
    places_laid = (at_place false kids (option_or (first_place kids.spots) (behind g rest.spots next)) (sym kids.goes_on ∙ ap (option_or (first_place kids.spots)) (sym rest.goes_on)), kids_laid false kids, rest_laid false kids);
  }

  group_laid : (kids : Lays true qs a own others.start others.next) → Lays g (written true) (Group i a b) (made true) to next
  group_laid kids = record {
    spots = Group spot kids.spots rest.spots;
    numbers = ap (λ x. Group i x (relabel (λ (s : Spot). s.node) rest.spots)) kids.numbers ∙ ap (λ x. Group i a x) rest.numbers;
    starts = refl;
    long = omega (arith, before, kids.long, rest.long);
    many = omega (arith, rest.many);
    few = omega (arith, before, kids.few, rest.few);
    goes_on = goes_group g spot kids.spots rest.spots next;
    places_laid = (at_place true kids (Some place) refl, kids_laid true kids, rest_laid true kids);
  }

  pub kid_laid : (k : NodeKind) → Lays (is_group k) qs a own others.start others.next → Lays g (written (is_group k)) (tree_of k i a b) (made (is_group k)) to next
  kid_laid kinds.Token kids = plain_laid kids
  kid_laid kinds.Group kids = group_laid kids
  kid_laid kinds.Collection kids = plain_laid kids

  -- the same in the words of what was written
  pub kid_laid_as : (k : NodeKind) (h : Bool) → h ≡ is_group k → (at behind' : Option ℕ) → at ≡ (if h then Some place else own.next) → behind' ≡ (if g then next else at)
      → (d : Forest ℕ) → d ≡ tree_of k i a b → Lays h qs a own others.start others.next
      → Lays g (slice_set qs place (record { node = i; is_group = h; children = own.children; end = others.start; next = at })) d
      (record { start = place; children = others.children + 1; next = behind' }) to next
  kid_laid_as k h e at behind' e1 e2 d e3 kids =
      subst (λ x. Lays g (slice_set qs place (record { node = i; is_group = h; children = own.children; end = others.start; next = at })) x (record { start = place; children = others.children + 1; next = behind' }) to next) (sym e3)
      (subst (λ x. Lays g (slice_set qs place (record { node = i; is_group = h; children = own.children; end = others.start; next = at })) (tree_of k i a b) (record { start = place; children = others.children + 1; next = x }) to next) (sym e2)
      (subst (λ x. Lays g (slice_set qs place (record { node = i; is_group = h; children = own.children; end = others.start; next = x })) (tree_of k i a b) (record { start = place; children = others.children + 1; next = if g then next else x }) to next) (sym e1)
      (subst (λ x. Lays g (written x) (tree_of k i a b) (made x) to next) (sym e)
      (kid_laid k (subst (λ x. Lays x qs a own others.start others.next) e kids)))))
