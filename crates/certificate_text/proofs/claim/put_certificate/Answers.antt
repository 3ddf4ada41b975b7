use Rattle.certificate_text.proofs.Putting.{member_added, last_member, then_members}
use Rattle.certificate_text.proofs.claim.put_certificate.Goals as goal

pub returns : goal.returns
returns c =
    let earlier = rw c.earlier.ensures at c.in_ok-put_list_at.ensures in
    let offers = rw c.offers.ensures at c.in_ok-put_lines_at.ensures in
    let places = rw c.places.ensures at c.put_lines_at-2.ensures in
    then_members _ _ _ _ _ _ (member_added _ _ _ _ earlier) (then_members _ _ _ _ _ _ (member_added _ _ _ _ offers) (last_member _ _ _ _ _ places))
