-- Nodes that are seen, by their numbers, while paths are gone through.
use Rattle.std.proofs.Common.{◌≡◌, ◌<◌, ℕ, zero, suc, ◌+◌, Bool, true, false, List, [], ◌∷◌, ◌++◌, Some, length, take, get_or, replicate, slice_set, refl, sym, ◌∙◌, ap, subst, arith, inl, inr}
use Rattle.std.specs.Prelude.{◌↔◌, Any, Contains, IsTrue, slice_index_or}
use Rattle.std.proofs.lemmas.Bool.{cases_eq}
use Rattle.std.proofs.lemmas.Grind.{get_or-set_at}
use Rattle.std.proofs.lemmas.List.{get_or-set_other, take_more}
use Rattle.std.proofs.lemmas.Option.{same_Some}
use Rattle.list_lemmas.proofs.CallerLemmas.{Any-here}
use Rattle.sysmem_tree.specs.Laws.{IsOnlyPath}
use Rattle.sysmem_tree.specs.Node.{NodeFacts}
use Rattle.sysmem_tree.specs.Path.{node_at}
use Rattle.verdict_claims.proofs.OnRoll.{any_parts, any_front, any_back}

module _ (nodes : List NodeFacts) where
  abbrev LeadsTo : ℕ → List ℕ → Type 0
  LeadsTo k p = node_at nodes p ≡ Some k

  no_mark : (many k : ℕ) → get_or (replicate many false) k false ≡ false
  no_mark zero k = refl
  no_mark (suc many) zero = refl
  no_mark (suc many) (suc k) = no_mark many k

  pub none_seen : (many k : ℕ) → IsTrue (get_or (replicate many false) k false) ↔ Any (LeadsTo k) []
  none_seen many k = (λ is. absurd (cc (sym is ∙ no_mark many k)), λ any. absurd (omega (arith, any.2)))

  module _ (paths : List (List ℕ)) (path : List ℕ) (n : ℕ) (only : IsOnlyPath nodes n path) where
    -- a node that was seen was named by the same path
    pub seen_before : Any (LeadsTo n) paths → Contains paths path
    seen_before (k, p, less, at, leads) = (k, less, subst (λ q. slice_index_or paths k q ≡ q) (only.only p leads) at)

    -- one that wasn't seen wasn't named
    pub not_seen : (t : Bool) → t ≡ false → IsTrue t ↔ Any (LeadsTo n) paths → ¬ (Contains paths path)
    not_seen t no' seen (k, less, at) = let yes' : t ≡ true = seen.1 (k, path, less, at, only.leads) in absurd (cc)

  -- one path more
  pub one_seen : (paths : List (List ℕ)) (i : ℕ) (path : List ℕ) (n : ℕ) (seen : List Bool) → i < length paths → path ≡ get_or paths i path → IsOnlyPath nodes n path → n < length seen
      → ((k : ℕ) → IsTrue (get_or seen k false) ↔ Any (LeadsTo k) (take i paths)) → (k : ℕ) → IsTrue (get_or (slice_set seen n true) k false) ↔ Any (LeadsTo k) (take (i + 1) paths)
  one_seen paths i path n seen inside is only less all k =
      subst (λ ps. IsTrue (get_or (slice_set seen n true) k false) ↔ Any (LeadsTo k) ps) (sym (take_more paths i path inside ∙ ap (λ q. take i paths ++ q ∷ []) (sym is))) (elim (cases_eq k n) [
        | inl same ↦ (
          λ _. any_back (LeadsTo k) (take i paths) (path ∷ []) (Any-here (LeadsTo k) path [] (only.leads ∙ ap (λ j. Some j) (sym same))),
          λ _. get_or-set_at seen n k true false same less,
        )
        | inr other ↦ (
          λ marked. any_front (LeadsTo k) (take i paths) (path ∷ []) ((all k).0 (sym (get_or-set_other seen n k true false other) ∙ marked)),
          λ any. get_or-set_other seen n k true false other ∙ (all k).1 (elim (any_parts (LeadsTo k) (take i paths) (path ∷ []) any) as (λ _. Any (LeadsTo k) (take i paths)) [
            | inl front ↦ front
            | inr (zero, p, within, at, leads) ↦ absurd (other (same_Some k n (sym (ap (node_at nodes) at ∙ leads) ∙ only.leads)))
            | inr (suc j, p, within, at, leads) ↦ absurd (omega (arith, within))
          ]),
        )
      ])
