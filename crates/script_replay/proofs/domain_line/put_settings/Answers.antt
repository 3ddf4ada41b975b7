use Rattle.script_replay.proofs.Texts.{three}
use Rattle.script_replay.proofs.domain_line.put_settings.Goals as goal

pub returns : goal.returns
returns c =
    let heap = rw c.heap_at.ensures at c.in_ok-put_heap.ensures in
    let rest = rw c.name.ensures at c.in_ok-put_coherency.ensures in
    three _ _ _ _ _ _ _ c.in_ok-put_numbers.ensures heap rest
