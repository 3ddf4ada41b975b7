use Rattle.std.proofs.Common.{Some, ap, option_map, sym, ◌∙◌}
use Rattle.certificate_text.specs.Reading.{members_len}
use Rattle.certificate_text.proofs.Members.{members_counted}
use Rattle.certificate_text.proofs.reading.members_len.Goals as goal

pub returns : goal.returns
returns c = ap Some (c.len.ensures.len ∙ sym (members_counted _)) ∙ ap (option_map members_len) c.in_ok-members.ensures
