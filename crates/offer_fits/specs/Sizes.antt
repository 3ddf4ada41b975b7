-- The sizes that participants take.
use Rattle.std.specs.Prelude.{◌↔◌, ℕ, ◌^◌, ◌<◌, ◌≤◌, List, All}
use Rattle.offer_fits.specs.Demands.{OfferDemand}

-- the sizes of 64 bits that every participant takes are those from the least to the greatest
pub record AreSizes (ds : List OfferDemand) (least greatest : ℕ) : Type 0 where
  pub low : (size : ℕ) → (least ≤ size) ↔ All (λ d. d.min_size_bytes ≤ size) ds
  pub high : (size : ℕ) → size < 2 ^ 64 → (size ≤ greatest) ↔ All (λ d. size ≤ d.max_size_bytes) ds
