use Rattle.std.proofs.Common.{sym, refl, ◌∙◌}
use Rattle.std.proofs.lemmas.Option.{slice_get_read}
use Rattle.sysmem_merge.specs.Demands.{offer_demand}
use Rattle.sysmem_merge.proofs.Accepting.{covers_when, covers_place, covers_size, covers_offer}
use Rattle.sysmem_merge.proofs.meets.meets_one.Goals as goal
use Rattle.sysmem_merge.proofs.meets.meets_one.Goals.{then-accepts_place, else-accepts_place}

pub returns-then-accepts_size : goal.returns-then-accepts_size
returns-then-accepts_size c =
    let platform = c.args.platform.now in
    let s = c.args.settings.now in
    let p = c.args.asked.now in
    let lookup = rw c.heaps.ensures.heaps at c.in-Some.ensures.lookup in
    let here = slice_get_read platform.heaps _ s.place.heap c.in-Some.heap.now refl lookup.3.0 lookup.1 in
    let offer = c.accepts_offer.ensures (offer_demand p) (sym c.entries.ensures.entries) in
    elim c.if-accepts_place.branch [
      | then-accepts_place w ↦
          let size = (rw w.memory.ensures.memory at w.accepts_size.ensures).0 (sym w.value-is ∙ c.if-accepts_size.true) in
          (λ yes. covers_when platform s p c.in-Some.heap.now here (c.accepts_place.ensures.0 w.if-accepts_place.true) size (offer.0 yes), λ on. offer.1 (covers_offer platform s p on))
      | else-accepts_place w ↦ absurd (cc (w.value-is, w.if-accepts_place.false, c.if-accepts_size.true))
    ]

pub returns-else-accepts_size : goal.returns-else-accepts_size
returns-else-accepts_size c =
    let platform = c.args.platform.now in
    let s = c.args.settings.now in
    let p = c.args.asked.now in
    let lookup = rw c.heaps.ensures.heaps at c.in-Some.ensures.lookup in
    let here = slice_get_read platform.heaps _ s.place.heap c.in-Some.heap.now refl lookup.3.0 lookup.1 in (
      λ yes. absurd (cc (yes, c.if-accepts_size.false)),
      λ on. elim c.if-accepts_place.branch [
        | then-accepts_place w ↦ w.value-is ∙ (rw w.memory.ensures.memory at w.accepts_size.ensures).1 (covers_size platform s p on)
        | else-accepts_place w ↦ w.value-is ∙ c.accepts_place.ensures.1 (covers_place platform s p c.in-Some.heap.now here on)
      ],
    )
