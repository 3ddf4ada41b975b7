use Rattle.certificate_text.proofs.Putting.{then, token, last, then_end}
use Rattle.certificate_text.proofs.claim.put_claim.Goals as goal

pub returns : goal.returns
returns c =
    let path = rw c.ordinals.ensures at c.in_ok-put_path.ensures in
    let name = rw c.verdict_name.ensures at c.in_ok-put_text.ensures in
    then _ _ _ _ _ _ (token _ _ _ c.in_ok-begin_object.ensures) (then _ _ _ _ _ _ (token _ _ _ c.in_ok-key.ensures) (then _ _ _ _ _ _ path
    (then_end _ _ _ _ _ _ c.in_ok-put_proof_members.ensures (then_end _ _ _ _ _ _ c.in_ok-put_verdict_members.ensures
    (then _ _ _ _ _ _ name (last _ _ _ _ c.end_object.ensures))))))
