-- Refusals as reports print them.
use Rattle.std.specs.Prelude.{ℕ, List, codes}
use Rattle.sysmem_tree.specs.declared.refusal.Refusal.{Refusal}
use Rattle.sysmem_tree.specs.declared.refusal.Refusal.TheVariants.{NoMemory, WrongState}
use Rattle.sysmem_tree.specs.declared.refusal.Refusal.TheVariants.{TooManyNodes, NoChildren}
use Rattle.sysmem_tree.specs.declared.refusal.Refusal.TheVariants.{NotSelected, DomainFailed}
use Rattle.sysmem_tree.specs.declared.refusal.Refusal.TheVariants.{ConstraintsIntersectionEmpty}
use Rattle.sysmem_tree.specs.declared.refusal.Refusal.TheVariants.{TooManyGroupChildCombinations}
use Rattle.sysmem_tree.specs.declared.refusal.Refusal.TheVariants.{Pending, Strange}

abbrev pub refusal_text : Refusal → List ℕ
refusal_text NoMemory = codes "E1 NoMemory"
refusal_text WrongState = codes "E2 WrongState"
refusal_text TooManyNodes = codes "E3 TooManyNodes"
refusal_text NoChildren = codes "E4 NoChildren"
refusal_text NotSelected = codes "E5 NotSelected"
refusal_text DomainFailed = codes "E6 DomainFailed"
refusal_text ConstraintsIntersectionEmpty = codes "E7 ConstraintsIntersectionEmpty"
refusal_text TooManyGroupChildCombinations = codes "E8 TooManyGroupChildCombinations"
refusal_text Pending = codes "E9 Pending"
refusal_text Strange = codes "E10 Strange"
