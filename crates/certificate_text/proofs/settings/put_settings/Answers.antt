use Rattle.certificate_text.proofs.Putting.{then, token, last}
use Rattle.certificate_text.proofs.settings.put_settings.Goals as goal

pub returns : goal.returns
returns c =
    let count = rw c.from.ensures at c.in_ok-put_number.ensures in
    let domain = rw c.name.ensures at c.in_ok-put_text.ensures in
    let heap = rw c.heap_at.ensures at c.in_ok-put_heap.ensures in
    then _ _ _ _ _ _ (token _ _ _ c.in_ok-begin_object.ensures)
    (then _ _ _ _ _ _ (token _ _ _ c.in_ok-key.ensures) (then _ _ _ _ _ _ c.in_ok-put_image_bounds.ensures (then _ _ _ _ _ _ count (then _ _ _ _ _ _ domain
    (then _ _ _ _ _ _ (token _ _ _ c.in_ok-key-2.ensures) (then _ _ _ _ _ _ heap
    (then _ _ _ _ _ _ (token _ _ _ c.in_ok-key-3.ensures) (then _ _ _ _ _ _ c.in_ok-put_image.ensures (then _ _ _ _ _ _ c.in_ok-put_number-2.ensures (last _ _ _ _ c.end_object.ensures))))))))))
