use Rattle.certificate_text.proofs.Putting.{member_added, last_member, then_members}
use Rattle.certificate_text.proofs.claim.put_chosen.Goals as goal

pub returns : goal.returns
returns c =
    let selection = rw (c.choices.ensures, c.selection.ensures) at c.in_ok-put_list_at.ensures in
    let settings = rw c.settings.ensures at c.put_settings_at.ensures in
    then_members _ _ _ _ _ _ (member_added _ _ _ _ selection) (last_member _ _ _ _ _ settings)
