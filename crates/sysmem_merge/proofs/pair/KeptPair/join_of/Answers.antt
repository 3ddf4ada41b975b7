use Rattle.std.proofs.Common.{◌≡◌, ◌&&◌, ◌++◌, true}
use Rattle.list_lemmas.proofs.CallerLemmas.{and_parts}
use Rattle.sysmem_formats.specs.declared.colour_space.ColourSpace.{ColourSpace}
use Rattle.sysmem_formats.specs.declared.offer.Offer.TheVariants.{Image}
use Rattle.sysmem_merge.specs.Aggregate.{AreKeptBounds}
use Rattle.sysmem_merge.specs.Pairs.{ArePlain}
use Rattle.sysmem_merge.proofs.PairKeeping.{with_plain, still_plain, joined_pair}
use Rattle.sysmem_merge.proofs.pair.KeptPair.join_of.Goals.{then-not-self-above, else-not-self-above}
use Rattle.sysmem_merge.proofs.pair.KeptPair.join_of.Goals as goal

pub returns : goal.returns
returns c pair others ds es was left right =
    joined_pair pair ds es c.args.above.now c.args.more.now _ bounds c.in_either-self.ensures.format c.in_either-self.ensures.modifier c.in_both-self.ensures
    c.in_either-self.ensures.colours plain left right where
      bounds : (colour : ColourSpace) → AreKeptBounds (Image pair colour) ds c.args.above.now.bounds → AreKeptBounds (Image pair colour) es c.args.more.now.bounds
          → AreKeptBounds (Image pair colour) (ds ++ es) c.if-not-self-above.self.bounds
      bounds colour above more = elim c.if-not-self-above.branch as (λ _. AreKeptBounds (Image pair colour) (ds ++ es) c.if-not-self-above.self.bounds) [
        | then-not-self-above w ↦ rw w.self-is (w.join_bounds.ensures.bounds pair ds es colour right above more)
        | else-not-self-above w ↦
            let all = and_parts (c.args.self.now.is_plain && c.args.above.now.is_plain) c.args.more.now.is_plain w.if-not-self-above.false in
            let both = and_parts c.args.self.now.is_plain c.args.above.now.is_plain all.0 in
            rw w.self-is (still_plain pair (ds ++ es) c.args.self.now.bounds c.args.above.now.bounds (was.plain both.0) (left.plain both.1) colour
            (with_plain pair ds es c.args.above.now.bounds c.args.more.now.bounds (right.plain all.1) colour above more))
      ]

      plain : c.if-not-self-above.self.is_plain ≡ true → ArePlain pair c.if-not-self-above.self.bounds
      plain = elim c.if-not-self-above.branch as (λ _. c.if-not-self-above.self.is_plain ≡ true → ArePlain pair c.if-not-self-above.self.bounds) [
        | then-not-self-above w ↦ rw w.self-is (w.join_bounds.ensures.plain pair ds left)
        | else-not-self-above w ↦ rw w.self-is was.plain
      ]
