-- Of nobody anything is known.
use Rattle.conflict_finding.proofs.learnt.Learnt.new.Goals as goal

pub returns : goal.returns
returns c = λ nodes heaps. record { asked = c.new.ensures nodes heaps; offers = c.new-2.ensures nodes; alone = c.new-3.ensures nodes }
