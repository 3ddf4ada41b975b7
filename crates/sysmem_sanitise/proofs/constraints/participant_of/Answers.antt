-- The parts that were read are a participant's; a fault of the entries is the record's, where the
-- parts before were read.
use Rattle.std.proofs.Common.{sym}
use Rattle.std.proofs.lemmas.Result.{err_from_is_err_and}
use Rattle.serde_json.specs.View.{view}
use Rattle.record_reading.proofs.CallerLemmas.{usage_of-is, memory-permits, entries-are, later-participant}
use Rattle.sysmem_sanitise.proofs.constraints.participant_of.Goals as goal

pub new-requires : goal.new-requires
new-requires c =
    let heaps = memory-permits (view c.args.object.now) _ c.in_ok-memory.ensures in
    let entries = entries-are (view c.args.object.now) _ c.in_ok-entries.ensures in
    record {
      families = usage_of-is (view c.in_ok-stated.field-0.now) _ (sym c.in_ok-usage.ensures);
      few_heaps = heaps.few;
      distinct_heaps = heaps.distinct;
      each_heap = heaps.each;
      few_entries = entries.few;
      distinct_entries = entries.distinct;
      each_entry = entries.each;
    }

pub returns-in_err-entries : goal.returns-in_err-entries
returns-in_err-entries c =
    let p = err_from_is_err_and c.from_residual-in_err-entries.result c.from_residual-in_err-entries.ensures.1 in
    rw (p.1, p.2) (later-participant (view c.args.object.now) _ _ _ _ c.in_ok-memory.memory _ c.in_ok-expect_participant.ensures c.in_ok-stated.ensures c.in_ok-usage.ensures c.in_ok-counts.ensures c.in_ok-memory.ensures c.in_err-entries.ensures)
