-- The domains that marks leave out, and who is added by them.
use Rattle.std.proofs.Common.{◌≡◌, ◌≤◌, ◌<◌, ℕ, zero, suc, ◌+◌, Bool, true, false, not, ◌&&◌, List, [], ◌∷◌, ◌++◌, length, drop, Option, Some, None, get_or, slice_get, refl, sym, ◌∙◌, ap, arith, append_assoc}
use Rattle.std.specs.Prelude.{map, option_map, option_and_then, unwrap_or, if◌then◌else◌}
use Rattle.std.proofs.lemmas.List.{length-map}
use Rattle.book_events.proofs.CallerLemmas.{past_end}
use Rattle.sysmem_tree.specs.declared.domain.Domain.{Domain}
use Rattle.sysmem_tree.specs.Domain.{TreeFacts, is_ready}
use Rattle.sysmem_alloc.specs.Marks.{ready_at, if_unmarked, unmarked_at, ready_unmarked}
use Rattle.sysmem_alloc.specs.Sound.{roots_of}

pub many_roots : (t : TreeFacts) → length (roots_of t) ≡ length t.domains
many_roots t = length-map t.domains (λ d. d.root)

pub ready_past : (t : TreeFacts) (many k : ℕ) → length t.domains ≤ many → many ≤ k → ready_at t k ≡ false
ready_past t many k few more = ap (λ o. unwrap_or (option_map (is_ready t) o) false) (past_end (roots_of t) k (omega (arith, few, more, many_roots t)))

-- what is there, if anything, in front of a list
abbrev pub ifs : Option ℕ → List ℕ → List ℕ
ifs None xs = xs
ifs (Some x) xs = x ∷ xs

-- the roots by their domains
pub root_at : (t : TreeFacts) (k : ℕ) → slice_get (roots_of t) k ≡ option_map (λ d. d.root) (slice_get t.domains k)
root_at t k = by t.domains k where
  by : (ds : List Domain) (k : ℕ) → slice_get (map (λ (d : Domain). d.root) ds) k ≡ option_map (λ (d : Domain). d.root) (slice_get ds k)
  by [] k = refl
  by (d ∷ ds) zero = refl
  by (d ∷ ds) (suc k) = by ds k

-- one domain after the other
at_place : (xs : List ℕ) (k : ℕ) → k < length xs → (x : ℕ) × (slice_get xs k ≡ Some x) × (drop k xs ≡ x ∷ drop (k + 1) xs)
at_place [] k less = absurd (omega (arith, less))
at_place (x ∷ xs) zero less = (x, refl, refl)
at_place (x ∷ xs) (suc k) less =
    let (y, here, rest) = at_place xs k (omega (arith, less)) in
    let z : suc (k + 1) ≡ suc k + 1 = omega arith in
    (y, here, rest ∙ ap (λ (j : ℕ). y ∷ drop j (x ∷ xs)) z)

chosen : (t : TreeFacts) (marks : List Bool) (k r : ℕ) (rs : List ℕ) (o : Option ℕ) → if_unmarked t (get_or marks k false) r ≡ o
    → ready_unmarked t marks k (r ∷ rs) ≡ ifs o (ready_unmarked t marks (k + 1) rs)
chosen t marks k r rs o is = by (is_ready t r && not (get_or marks k false)) is where
  by : (b : Bool) → (if b then Some r else None) ≡ o → (if b then r ∷ ready_unmarked t marks (k + 1) rs else ready_unmarked t marks (k + 1) rs) ≡ ifs o (ready_unmarked t marks (k + 1) rs)
  by true e = ap (λ (x : Option ℕ). ifs x (ready_unmarked t marks (k + 1) rs)) e
  by false e = ap (λ (x : Option ℕ). ifs x (ready_unmarked t marks (k + 1) rs)) e

pub unmarked_next : (t : TreeFacts) (marks : List Bool) (k : ℕ) (o : Option ℕ) → k < length (roots_of t) → unmarked_at t marks k ≡ o
    → ready_unmarked t marks k (drop k (roots_of t)) ≡ ifs o (ready_unmarked t marks (k + 1) (drop (k + 1) (roots_of t)))
unmarked_next t marks k o less is =
    let (r, here, rest) = at_place (roots_of t) k less in
    ap (ready_unmarked t marks k) rest
    ∙ chosen t marks k r (drop (k + 1) (roots_of t)) o (sym (ap (option_and_then (if_unmarked t (get_or marks k false))) here) ∙ is)

-- an added one goes over from what is left to what is there
pub goes_over : (there left : List ℕ) (r : ℕ) → (there ++ r ∷ []) ++ left ≡ there ++ r ∷ left
goes_over there left r = append_assoc there (r ∷ []) left
