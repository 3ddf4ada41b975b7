use Rattle.std.proofs.Common.{◌∙◌, min, refl, slice_index}
use Rattle.std.proofs.lemmas.List.{length-set}
use Rattle.std.proofs.lemmas.Option.{slice_get_read}
use Rattle.sysmem_image.proofs.Slots.{first_of_none, first_more, first_of_all}
use Rattle.sysmem_image.proofs.first_matches.FirstMatches.read.Goals as goal

pub loop-index-init : goal.loop-index-init
loop-index-init c = record {
  entries = refl;
  room = refl;
  first = first_of_none c.args.entries.now;
}

pub loop-index-preserved : goal.loop-index-preserved
loop-index-preserved c =
    let first = c.loop-index.self-inside.first in
    let read = slice_get_read c.args.entries.now _ c.loop-index.index c.index-entries-index.result refl c.loop-index-test.true c.index-entries-index.is in
    rw c.min.ensures (record {
      entries = c.loop-index.invariant.entries;
      room = length-set first c.slot-slot.result (min (slice_index first c.slot-slot.result) c.loop-index.index) ∙ c.loop-index.invariant.room;
      first = first_more c.args.entries.now c.loop-index.index c.slot-slot.result first c.index-entries-index.result c.loop-index.invariant.room c.loop-index-test.true
          read c.slot-slot.ensures.below c.slot-slot.ensures.is c.loop-index.invariant.first;
    })

pub invariant_of-self : goal.invariant_of-self
invariant_of-self c =
    rw c.loop-index.invariant.entries (first_of_all c.args.entries.now c.loop-index.index c.loop-index.self-inside.first c.loop-index-test.false c.loop-index.invariant.first)

pub returns : goal.returns
returns c = c.loop-index.invariant.entries
