use Rattle.sysmem_image.proofs.Divide.{IsStep}
use Rattle.sysmem_image.proofs.multiples.gcd.Given as goal

abbrev pub invariant-loop-y : goal.invariant-loop-y
invariant-loop-y l = IsStep l.fn.a l.fn.b l.x l.y

abbrev pub decreases-loop-y : goal.decreases-loop-y
decreases-loop-y l = l.y
