use Rattle.std.proofs.Common.{◌≡◌, true, ◌&&◌, ◌||◌, refl, ap, ◌∙◌}
use Rattle.sysmem_formats.specs.declared.offer.Offer.TheVariants.{Image}
use Rattle.sysmem_formats.specs.declared.colour_space.ColourSpace.TheVariants.{Srgb}
use Rattle.sysmem_merge.specs.Pairs.{has, says_format, says_modifier, ArePlain}
use Rattle.sysmem_merge.proofs.PairKeeping.{IsMerging, with_entry, still_merged}
use Rattle.sysmem_merge.proofs.pair.KeptPair.add_entry.Goals.{then-not-asks_nothing, else-not-asks_nothing}
use Rattle.sysmem_merge.proofs.pair.KeptPair.add_entry.Goals as goal

pub returns : goal.returns
returns c ds d found kept =
    with_entry c.args.pair ds d c.args.entry.now c.args.self.now _ found merging
    (rw named at (c.in_either-self.ensures.format ∙ ap (λ b. says_format c.if-not-asks_nothing.self.named || b) (c.names-names.ensures.format ∙ c.is_some.ensures)))
    (rw named at (c.in_either-self.ensures.modifier ∙ ap (λ b. says_modifier c.if-not-asks_nothing.self.named || b) (c.names-names.ensures.modifier ∙ c.is_some-2.ensures)))
    (λ colour. rw taken at (c.in_both-self.ensures colour ∙ ap (λ b. has c.if-not-asks_nothing.self.taken colour && b) (c.taken-taken.ensures colour)))
    (λ colour. rw named at (c.in_either-self.ensures.colours colour ∙ ap (λ b. has c.if-not-asks_nothing.self.named colour || b) (c.names-names.ensures.colours colour)))
    plain kept where
      named : c.if-not-asks_nothing.self.named ≡ c.args.self.now.named
      named = elim c.if-not-asks_nothing.branch as (λ _. c.if-not-asks_nothing.self.named ≡ c.args.self.now.named) [
        | then-not-asks_nothing w ↦ rw w.self-is refl
        | else-not-asks_nothing w ↦ rw w.self-is refl
      ]

      taken : c.if-not-asks_nothing.self.taken ≡ c.args.self.now.taken
      taken = elim c.if-not-asks_nothing.branch as (λ _. c.if-not-asks_nothing.self.taken ≡ c.args.self.now.taken) [
        | then-not-asks_nothing w ↦ rw w.self-is refl
        | else-not-asks_nothing w ↦ rw w.self-is refl
      ]

      merging : IsMerging c.args.pair c.args.entry.now c.args.self.now.bounds c.if-not-asks_nothing.self.bounds
      merging = elim c.if-not-asks_nothing.branch as (λ _. IsMerging c.args.pair c.args.entry.now c.args.self.now.bounds c.if-not-asks_nothing.self.bounds) [
        | then-not-asks_nothing w ↦ rw w.self-is (record { merged = rw w.any_offer.ensures at w.merge.ensures.merged; still = w.merge.ensures.still })
        | else-not-asks_nothing w ↦ rw w.self-is (still_merged c.args.pair c.args.entry.now c.args.self.now.bounds c.args.self.now.bounds refl (c.asks_nothing.ensures w.if-not-asks_nothing.false (Image c.args.pair Srgb)))
      ]

      plain : c.if-not-asks_nothing.self.is_plain ≡ true → ArePlain c.args.pair c.if-not-asks_nothing.self.bounds
      plain = elim c.if-not-asks_nothing.branch as (λ _. c.if-not-asks_nothing.self.is_plain ≡ true → ArePlain c.args.pair c.if-not-asks_nothing.self.bounds) [
        | then-not-asks_nothing w ↦ rw w.self-is w.is_plain-self.ensures
        | else-not-asks_nothing w ↦ rw w.self-is kept.plain
      ]
