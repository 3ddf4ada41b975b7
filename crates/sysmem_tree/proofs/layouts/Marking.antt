-- Nodes that are marked, by what a choice settles.
use Rattle.std.proofs.Common.{◌≡◌, ◌<◌, ℕ, zero, suc, ◌||◌, eq-eqb, Bool, true, false, List, [], ◌∷◌, None, length, get_or, replicate, slice_set, refl, sym, ◌∙◌, ap, subst, arith, inl, inr}
use Rattle.std.specs.List.{list_any}
use Rattle.std.proofs.lemmas.Bool.{cases_eq, ne_eqb}
use Rattle.std.proofs.lemmas.Grind.{get_or-set_at}
use Rattle.std.proofs.lemmas.List.{get_or-set_other}
use Rattle.std.proofs.lemmas.Option.{same_Some}
use Rattle.sysmem_tree.specs.declared.layout.LayoutPlace.{LayoutPlace}
use Rattle.sysmem_tree.specs.Layout.{Spot, HoldNumbers}
use Rattle.sysmem_tree.specs.Selection.{after}
use Rattle.sysmem_tree.proofs.layouts.Settling.{Meets, past, is_at, is_met}

-- what is read where there is no place
abbrev pub nowhere : LayoutPlace
nowhere = record { node = 0; is_group = false; children = 0; end = 0; next = None }

or_true : (b : Bool) → (b || true) ≡ true
or_true true = refl
or_true false = refl

pub or_false : (b : Bool) → (b || false) ≡ b
or_false true = refl
or_false false = refl

-- one more is marked, and is no longer to be
pub marked_on : (marks : List Bool) (n : ℕ) (s : Spot) (rest : List Spot) (k : ℕ) → n < length marks → n ≡ s.node
    → (get_or (slice_set marks n true) k false || list_any (is_at k) rest) ≡ (get_or marks k false || list_any (is_at k) (s ∷ rest))
marked_on marks n s rest k less same = elim (cases_eq k n) [
  | inl e ↦
      ap (λ b. b || list_any (is_at k) rest) (get_or-set_at marks n k true false e less)
      ∙ sym (ap (λ b. get_or marks k false || (b || list_any (is_at k) rest)) (eq-eqb s.node k (sym same ∙ sym e)) ∙ or_true (get_or marks k false))
  | inr other ↦
      ap (λ b. b || list_any (is_at k) rest) (get_or-set_other marks n k true false other)
      ∙ sym (ap (λ b. get_or marks k false || (b || list_any (is_at k) rest)) (ne_eqb s.node k (λ f. other (sym f ∙ sym same))))
]

-- one step of a walk that marks
pub mark_next : (ps : List LayoutPlace) (to at after : ℕ) (d : LayoutPlace) (marks : List Bool) (ss : List Spot) (all : ℕ → Bool) → length marks ≡ 128 → HoldNumbers 128 ps → at < to → Meets ps to at ss
    → after ≡ past (get_or ps at d) at → ((k : ℕ) → (get_or marks k false || list_any (is_at k) ss) ≡ all k)
    → (rest : List Spot) × Meets ps to after rest × ((k : ℕ) → (get_or (slice_set marks (get_or ps at d).node true) k false || list_any (is_at k) rest) ≡ all k)
mark_next ps to at after d marks ss all long hold less m is so_far =
    let met = is_met ps to at d less ss m in
    let small = hold at (get_or ps at d) met.there in
    let within : (get_or ps at d).node < length marks = omega (arith, small, long) in (
      met.rest,
      subst (λ i. Meets ps to i met.rest) (sym is) met.on,
      λ k. marked_on marks (get_or ps at d).node met.spot met.rest k within met.node
          ∙ (ap (λ zs. get_or marks k false || list_any (is_at k) zs) (sym met.is) ∙ so_far k),
    )

-- a written place names a node too
pub hold_written : (many : ℕ) (ps : List LayoutPlace) (i : ℕ) (q : LayoutPlace) → HoldNumbers many ps → q.node < many → HoldNumbers many (slice_set ps i q)
hold_written many [] i q all less k p is = absurd (cc)
hold_written many (x ∷ ps) zero q all less zero p is = subst (λ (y : LayoutPlace). y.node < many) (same_Some q p is) less
hold_written many (x ∷ ps) zero q all less (suc k) p is = all (suc k) p is
hold_written many (x ∷ ps) (suc i) q all less zero p is = all zero p is
hold_written many (x ∷ ps) (suc i) q all less (suc k) p is = hold_written many ps i q (λ j. all (suc j)) less k p is

-- at first none but the first does, and none is marked
pub hold_first : (many : ℕ) → 0 < many → (long : ℕ) → HoldNumbers many (replicate long nowhere)
hold_first many some zero k p is = absurd (cc)
hold_first many some (suc long) zero p is = subst (λ (y : LayoutPlace). y.node < many) (same_Some nowhere p is) some
hold_first many some (suc long) (suc k) p is = hold_first many some long k p is

pub none_marked : (many k : ℕ) → get_or (replicate many false) k false ≡ false
none_marked zero k = refl
none_marked (suc many) zero = refl
none_marked (suc many) (suc k) = none_marked many k
