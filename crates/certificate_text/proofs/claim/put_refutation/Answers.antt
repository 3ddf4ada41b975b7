use Rattle.certificate_text.proofs.Putting.{last_member, then, token}
use Rattle.certificate_text.proofs.claim.put_refutation.Goals as goal

pub returns : goal.returns
returns c =
    let items = rw c.items.ensures at c.refutation.ensures in
    last_member _ _ _ _ _ (then _ _ _ _ _ _ (token _ _ _ c.in_ok-key.ensures) items)
