-- The sizes that participants take.
use Rattle.std.proofs.Common.{arith, ℕ, ◌≤◌, max, min, List, [], ◌∷◌, ◌++◌, Some, refl}
use Rattle.std.proofs.lemmas.List.Elements.{All-push, All-pop}
use Rattle.sysmem_merge.specs.Aggregate.{AreSizes}
use Rattle.sysmem_merge.specs.Demands.{OfferDemand}

-- one more participant: the greater least, and the lesser greatest
pub sizes_push : (ds : List OfferDemand) (d : OfferDemand) (least greatest : ℕ) → AreSizes ds least greatest
    → AreSizes (ds ++ d ∷ []) (max least d.min_size_bytes) (min greatest d.max_size_bytes)
sizes_push ds d least greatest sizes = record {
  low = λ n. (
    λ within. All-push (λ x. x.min_size_bytes ≤ n) ds d ((sizes.low n).0 (omega (arith, within))) (omega (arith, within)),
    λ all. let both = All-pop (λ (x : OfferDemand). x.min_size_bytes ≤ n) (ds ++ d ∷ []) ds (Some d) refl all in omega (arith, (sizes.low n).1 both.0, both.1),
  );
  high = λ n small. (
    λ within. All-push (λ x. n ≤ x.max_size_bytes) ds d ((sizes.high n small).0 (omega (arith, within))) (omega (arith, within)),
    λ all. let both = All-pop (λ (x : OfferDemand). n ≤ x.max_size_bytes) (ds ++ d ∷ []) ds (Some d) refl all in omega (arith, (sizes.high n small).1 both.0, both.1),
  );
}
