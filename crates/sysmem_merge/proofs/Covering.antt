-- Bounds that keep to others stand for both lists.
use Rattle.std.proofs.Common.{arith, ℕ, List, ◌++◌}
use Rattle.std.proofs.lemmas.List.Elements.{All-append}
use Rattle.std.proofs.lemmas.Nat.Gcd.{dvd_trans}
use Rattle.sysmem_formats.specs.declared.offer.Offer.{Offer}
use Rattle.sysmem_image.specs.declared.bounds.ImageBounds.{ImageBounds}
use Rattle.sysmem_image.specs.Bounds.{IsTighter}
use Rattle.sysmem_image.specs.Fields.{Bound, Width, Height, Rule, Greatest, Least, Multiple, Keeps, KeepsIn, rule_of, value, own_value}
use Rattle.sysmem_image.specs.Merged.{IsMergeOf}
use Rattle.sysmem_merge.specs.Aggregate.{AreKeptBounds}
use Rattle.sysmem_merge.specs.declared.kept.KeptBounds.TheVariants.{Merged}
use Rattle.sysmem_merge.specs.Demands.{OfferDemand}
use Rattle.sysmem_merge.specs.Offers.{bounds_asked}
use Rattle.sysmem_merge.proofs.Joining.{merged_together}
use Rattle.sysmem_merge.proofs.Summing.{all_parts}

-- what keeps to a number keeps to what this keeps to
keeps_on : (r : Rule) (b a n : ℕ) → Keeps r b a → Keeps r a n → Keeps r b n
keeps_on Greatest b a n p q = omega (arith, p, q)
keeps_on Least b a n p q = omega (arith, p, q)
keeps_on Multiple b a n p q = dvd_trans b p q

-- a number that keeps to that of another list stands for both lists
covers_by : {X : Type 0} (r : Rule) (own : ℕ) (f : X → ℕ) (es fs : List X) (a b : ℕ) → Keeps r b a → IsMergeOf (Keeps r) own f es a → IsMergeOf (Keeps r) own f fs b
    → IsMergeOf (Keeps r) own f (es ++ fs) a
covers_by r own f es fs a b keeps left right = record {
  suits = left.suits;
  exactly = λ n kept. (
    λ h. All-append (λ e. Keeps r (f e) n) es fs ((left.exactly n kept).0 h) ((right.exactly n kept).0 (keeps_on r b a n keeps h)),
    λ all. (left.exactly n kept).1 (all_parts (λ e. Keeps r (f e) n) es fs all).0,
  );
}

-- and so do bounds
pub covered : (o : Offer) (ds es : List OfferDemand) (a b : ImageBounds) → IsTighter a b → AreKeptBounds o ds (Merged a) → AreKeptBounds o es (Merged b) → AreKeptBounds o (ds ++ es) (Merged a)
covered o ds es a b tighter left right = merged_together o ds es a b a left right (record {
  in_range = left.0.in_range;
  each = λ f d. covers_by (rule_of f) (own_value o f d) (value f d) (bounds_asked o ds) (bounds_asked o es) (value f d a) (value f d b) (tighter f d) (left.0.each f d) (right.0.each f d);
})

-- bounds keep to others in a field where they do in both dimensions
pub in_both : (f : Bound) (a b : ImageBounds) → Keeps (rule_of f) (value f Width b) (value f Width a) → Keeps (rule_of f) (value f Height b) (value f Height a) → KeepsIn f a b
in_both f a b w h Width = w
in_both f a b w h Height = h
