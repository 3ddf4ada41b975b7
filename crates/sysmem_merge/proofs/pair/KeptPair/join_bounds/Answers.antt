use Rattle.std.proofs.Common.{◌++◌}
use Rattle.list_lemmas.proofs.CallerLemmas.{and_parts}
use Rattle.sysmem_formats.specs.declared.offer.Offer.TheVariants.{Image}
use Rattle.sysmem_merge.specs.Aggregate.{AreKeptBounds}
use Rattle.sysmem_merge.specs.Pairs.{ArePlain}
use Rattle.sysmem_merge.proofs.PairKeeping.{with_plain}
use Rattle.sysmem_merge.proofs.pair.KeptPair.join_bounds.Goals.{then-more, else-more}
use Rattle.sysmem_merge.proofs.pair.KeptPair.join_bounds.Goals as goal

pub returns-clause-bounds : goal.returns-clause-bounds
returns-clause-bounds c pair ds es colour right above more = elim c.if-more.branch as (λ _. AreKeptBounds (Image pair colour) (ds ++ es) c.if-more.self.bounds) [
  | then-more w ↦ rw w.self-is (rw w.copy_of.ensures (with_plain pair ds es c.args.above.now.bounds c.args.more.now.bounds (right.plain w.if-more.true) colour above more))
  | else-more w ↦ rw w.self-is (w.join_of.ensures (Image pair colour) ds es above more)
]

pub returns-clause-plain : goal.returns-clause-plain
returns-clause-plain c pair ds left is = let both = and_parts c.args.above.now.is_plain c.args.more.now.is_plain is in
    elim c.if-more.branch as (λ _. ArePlain pair c.if-more.self.bounds) [
      | then-more w ↦ rw w.self-is (rw w.copy_of.ensures (left.plain both.0))
      | else-more w ↦ absurd (cc (w.if-more.false, both.1))
    ]
