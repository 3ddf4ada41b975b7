use Rattle.std.proofs.Common.{arith, ◌≡◌, ◌||◌, ◌==◌, not, length, refl, sym, ap, ◌∙◌}
use Rattle.sysmem_image.specs.Entries.{first_match}
use Rattle.sysmem_memory.specs.Wishes.{MemoryWishes}
use Rattle.sysmem_merge.specs.Demands.{offer_demand}
use Rattle.sysmem_merge.proofs.OfferReading.{entry_read, no_entry_read}
use Rattle.sysmem_merge.proofs.offer_read.OfferRead.add.Goals as goal
use Rattle.sysmem_merge.proofs.offer_read.OfferRead.add.Goals.{then-self, else-self}

pub returns-in-Some : goal.returns-in-Some
returns-in-Some c = λ o ds read.
    let k = c.args.self.now in
    let wishes = c.memory.view_is ∙ c.memory-memory.ensures.memory in
    let low = ap (λ (m : MemoryWishes). m.min_size_bytes) wishes in
    let high = ap (λ (m : MemoryWishes). m.max_size_bytes) wishes in
    entry_read o ds (offer_demand c.args.asked.now) c.in-Some.entry.now k c.add_entry.new.self (c.in-Some.ensures ∙ ap (first_match k.offer) c.entries.ensures.entries)
    (record {
      offer = c.add_entry.ensures.offer;
      least = omega (arith, c.add_entry.ensures.least, c.max-self.ensures, low);
      greatest = omega (arith, c.add_entry.ensures.greatest, c.min-self.ensures, high);
      refused = c.add_entry.ensures.refused;
      bounds = c.add_entry.ensures.bounds;
      colour = c.add_entry.ensures.colour;
      format_named = c.add_entry.ensures.format_named;
      modifier_named = c.add_entry.ensures.modifier_named;
      colour_named = c.add_entry.ensures.colour_named;
    })
    read

pub returns-after-self : goal.returns-after-self
returns-after-self c = λ o ds read.
    let k = c.args.self.now in
    let wishes = c.memory.view_is ∙ c.memory-memory.ensures.memory in
    let low = ap (λ (m : MemoryWishes). m.min_size_bytes) wishes in
    let high = ap (λ (m : MemoryWishes). m.max_size_bytes) wishes in
    let refused : c.if-self.self ≡ (k.format_refused || not (length c.args.asked.now.entries == 0)) = elim c.if-self.branch [
      | then-self w ↦ cc (w.self-is, w.if-self.true, ap (λ b. b || not (length c.args.asked.now.entries == 0)) w.if-self.true)
      | else-self w ↦ w.self-is ∙ (ap not (w.is_empty.ensures ∙ ap (λ es. length es == 0) w.entries-else-self.ensures.entries)
          ∙ sym (ap (λ b. b || not (length c.args.asked.now.entries == 0)) w.if-self.false))
    ] in
    no_entry_read o ds (offer_demand c.args.asked.now) k _ (c.in-None.ensures ∙ ap (first_match k.offer) c.entries.ensures.entries)
    (record {
      offer = refl;
      least = omega (arith, c.max-self.ensures, low);
      greatest = omega (arith, c.min-self.ensures, high);
      refused = refused;
      bounds = refl;
      colour = refl;
      format_named = refl;
      modifier_named = refl;
      colour_named = refl;
    })
    read
