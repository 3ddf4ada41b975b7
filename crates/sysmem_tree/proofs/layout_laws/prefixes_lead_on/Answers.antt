-- See selections/Onward.antt.
use Rattle.sysmem_tree.proofs.selections.Onward.{prefixes_lead_on as lemma}
use Rattle.sysmem_tree.proofs.layout_laws.prefixes_lead_on.Goals as goal

pub returns : goal.returns
returns c = lemma
