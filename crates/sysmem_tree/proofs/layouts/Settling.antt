-- Which nodes a part of a layout settles, and those that a choice adds.
use Rattle.std.proofs.Common.{◌≡◌, ◌≢◌, ◌≤◌, ◌<◌, ℕ, eq-eqb, ◌+◌, ◌++◌, ◌==◌, Bool, true, false, List, [], ◌∷◌, Option, Some, get_or, slice_get, refl, sym, ◌∙◌, ap, subst, arith}
use Rattle.std.specs.Prelude.{◌||◌, if◌then◌else◌}
use Rattle.std.specs.List.{list_any}
use Rattle.std.proofs.lemmas.Bool.{ne_eqb}
use Rattle.std.proofs.lemmas.List.{append_assoc, append-nil}
use Rattle.std.proofs.lemmas.Option.{get_or_from_slice_get}
use Rattle.sysmem_tree.specs.declared.layout.LayoutPlace.{LayoutPlace}
use Rattle.sysmem_tree.specs.Forest.{Forest, Empty, Plain, Group, settled}
use Rattle.sysmem_tree.specs.Layout.{Spot, start, behind, AreLaid}
use Rattle.sysmem_tree.proofs.layouts.Layouts.{starts_before}

-- the place that follows one in a walk past the alternatives of groups
abbrev pub past : LayoutPlace → ℕ → ℕ
past p at = if p.is_group then p.end else at + 1

-- a walk from a place on meets the nodes of these spots, and ends before `to`
abbrev pub Meets : List LayoutPlace → ℕ → ℕ → List Spot → Type 0
Meets ps to at [] = at ≡ to
Meets ps to at (s ∷ ss) = (at < to) × ((p : LayoutPlace) × (slice_get ps at ≡ Some p) × (p.node ≡ s.node) × (at < past p at) × Meets ps to (past p at) ss)

-- a walk over what is laid out meets what is settled
module _ (ps : List LayoutPlace) (to : ℕ) where
  meets : (g : Bool) (w : Forest Spot) (e : ℕ) (next : Option ℕ) (ss : List Spot) → AreLaid g ps w e next → e ≤ to → Meets ps to e ss → Meets ps to (start w e) (settled w ++ ss)
  meets g Empty e next ss l small m = m
  meets g (Plain s kids rest) e next ss l small m =
      let x = starts_before g ps rest e next l.2 in
      let y = starts_before false ps kids (start rest e) (behind g rest next) l.1 in
      let later = meets g rest e next ss l.2 small m in
      let below = meets false kids (start rest e) (behind g rest next) (settled rest ++ ss) l.1 (omega (arith, x, small)) later in
      subst (λ zs. Meets ps to s.place (s ∷ zs)) (sym (append_assoc (settled kids) (settled rest) ss))
      (omega (arith, x, y, small, l.0.kids_here), (_, l.0.here, refl, omega arith, subst (λ i. Meets ps to i (settled kids ++ (settled rest ++ ss))) l.0.kids_here below))
  meets g (Group s kids rest) e next ss l small m =
      let x = starts_before g ps rest e next l.2 in
      let y = starts_before true ps kids (start rest e) (behind g rest next) l.1 in
      (omega (arith, x, y, small, l.0.kids_here), (_, l.0.here, refl, omega (arith, y, l.0.kids_here), meets g rest e next ss l.2 small m))

pub meets_settled : (ps : List LayoutPlace) (g : Bool) (w : Forest Spot) (to : ℕ) (next : Option ℕ) → AreLaid g ps w to next → Meets ps to (start w to) (settled w)
meets_settled ps g w to next l = subst (Meets ps to (start w to)) (append-nil (settled w)) (meets ps to g w to next [] l (omega arith) refl)

-- whether a spot has the node
abbrev pub is_at : ℕ → Spot → Bool
is_at node s = s.node == node

module _ (ps : List LayoutPlace) (to at : ℕ) (d : LayoutPlace) (less : at < to) where
  abbrev here : LayoutPlace
  here = get_or ps at d

  -- what a walk meets at a place before its end
  pub record IsMet (ss : List Spot) : Type 0 where
    pub there : slice_get ps at ≡ Some here
    pub up : at < past here at
    pub within : past here at ≤ to
    pub spot : Spot
    pub rest : List Spot
    pub is : ss ≡ spot ∷ rest
    pub node : here.node ≡ spot.node
    pub on : Meets ps to (past here at) rest

  pub is_met : (ss : List Spot) → Meets ps to at ss → IsMet ss
  is_met [] m = absurd (omega (arith, less, m))
  is_met (s ∷ ss) m =
      let (q, there, node, up, on) = m.1 in
      let same : q ≡ here = sym (get_or_from_slice_get ps at q d there) in
      record {
        there = there ∙ ap (λ x. Some x) same;
        up = subst (λ x. at < past x at) same up;
        within = subst (λ x. past x at ≤ to) same (within (past q at) ss on);
        spot = s;
        rest = ss;
        is = refl;
        node = subst (λ x. x.node ≡ s.node) same node;
        on = subst (λ x. Meets ps to (past x at) ss) same on;
      } where
        within : (i : ℕ) (zs : List Spot) → Meets ps to i zs → i ≤ to
        within i [] m = omega (arith, m)
        within i (z ∷ zs) m = omega (arith, m.0)

  -- the walk goes up, and not past its end
  pub goes_up : (i : ℕ) (ss : List Spot) → i ≡ past here at → Meets ps to at ss → (at < i) × (i ≤ to)
  goes_up i ss is m = let met = is_met ss m in (subst (λ x. at < x) (sym is) met.up, subst (λ x. x ≤ to) (sym is) met.within)

  -- it goes on past a node that isn't the one
  pub goes_past : (node : ℕ) (ss : List Spot) → Meets ps to at ss → here.node ≢ node
      → (rest : List Spot) × Meets ps to (past here at) rest × (list_any (is_at node) ss ≡ list_any (is_at node) rest)
  goes_past node ss m other =
      let met = is_met ss m in
      (met.rest, met.on, ap (list_any (is_at node)) met.is ∙ ap (λ b. b || list_any (is_at node) met.rest) (ne_eqb met.spot.node node (λ f. other (met.node ∙ f))))

  -- and stops at the one
  pub stops_at : (node : ℕ) (ss : List Spot) → Meets ps to at ss → here.node ≡ node → list_any (is_at node) ss ≡ true
  stops_at node ss m is =
      let met = is_met ss m in
      ap (list_any (is_at node)) met.is ∙ ap (λ b. b || list_any (is_at node) met.rest) (eq-eqb met.spot.node node (sym met.node ∙ is))

-- at the end there is nothing more
pub nothing_more : (ps : List LayoutPlace) (to at node : ℕ) (ss : List Spot) → to ≤ at → Meets ps to at ss → list_any (is_at node) ss ≡ false
nothing_more ps to at node [] less m = refl
nothing_more ps to at node (s ∷ ss) less m = absurd (omega (arith, less, m.0))
