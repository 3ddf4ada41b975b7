-- Domains that are ready and weren't marked as ready are those that an event made ready.
use Rattle.std.proofs.Common.{◌≡◌, ℕ, suc, ◌+◌, Bool, false, not, ◌&&◌, List, [], ◌∷◌, ◌++◌, Some, get_or, slice_get, refl, sym, ◌∙◌, ap, subst, arith}
use Rattle.std.specs.Prelude.{filter, if◌then◌else◌}
use Rattle.std.specs.List.{AllByRecursion}
use Rattle.sysmem_tree.specs.Domain.{TreeFacts, is_ready}
use Rattle.sysmem_alloc.specs.Marks.{ready_unmarked}

none_added : (t : TreeFacts) (was : ℕ → Bool) (marks : List Bool) (k : ℕ) (rs : List ℕ) → AllByRecursion (λ r. is_ready t r ≡ false) rs
    → filter (λ r. is_ready t r && not (was r)) rs ≡ ready_unmarked t marks k rs
none_added t was marks k [] all = refl
none_added t was marks k (r ∷ rs) all =
    ap (λ b. if b && not (was r) then r ∷ filter (λ r. is_ready t r && not (was r)) rs else filter (λ r. is_ready t r && not (was r)) rs) all.0
    ∙ (none_added t was marks (k + 1) rs all.1
    ∙ sym (ap (λ b. if b && not (get_or marks k false) then r ∷ ready_unmarked t marks (k + 1) rs else ready_unmarked t marks (k + 1) rs) all.0))

pub newly_unmarked : (t : TreeFacts) (was : ℕ → Bool) (marks : List Bool) (k : ℕ) (rs added : List ℕ) → ((j r : ℕ) → slice_get rs j ≡ Some r → get_or marks (k + j) false ≡ was r)
    → AllByRecursion (λ r. is_ready t r ≡ false) added → filter (λ r. is_ready t r && not (was r)) (rs ++ added) ≡ ready_unmarked t marks k (rs ++ added)
newly_unmarked t was marks k [] added same all = none_added t was marks k added all
newly_unmarked t was marks k (r ∷ rs) added same all =
    let zeroed : k + 0 ≡ k = omega arith in
    let own : get_or marks k false ≡ was r = subst (λ i. get_or marks i false ≡ was r) zeroed (same 0 r refl) in
    ap (λ b. if is_ready t r && not b then r ∷ filter (λ r. is_ready t r && not (was r)) (rs ++ added) else filter (λ r. is_ready t r && not (was r)) (rs ++ added)) (sym own)
    ∙ ap (λ ys. if is_ready t r && not (get_or marks k false) then r ∷ ys else ys)
    (newly_unmarked t was marks (k + 1) rs added (λ j x here. let shift : k + suc j ≡ (k + 1) + j = omega arith in subst (λ i. get_or marks i false ≡ was x) shift (same (suc j) x here)) all)
