use Rattle.sysmem_merge.proofs.ColourBits.{listed_bits, listed_small}
use Rattle.sysmem_merge.proofs.colours.Colours.listed.Goals as goal

pub returns-clause-is : goal.returns-clause-is
returns-clause-is c = listed_bits c.args.set.now c.from.result c.from-2.result c.from-3.result c.from-4.result c.from-5.result c.from-6.result c.from-7.result c.from-8.result
    (rw c.lists.ensures at c.from.ensures) (rw c.lists-2.ensures at c.from-2.ensures) (rw c.lists-3.ensures at c.from-3.ensures) (rw c.lists-4.ensures at c.from-4.ensures)
    (rw c.lists-5.ensures at c.from-5.ensures) (rw c.lists-6.ensures at c.from-6.ensures) (rw c.lists-7.ensures at c.from-7.ensures) (rw c.lists-8.ensures at c.from-8.ensures)

pub returns-clause-small : goal.returns-clause-small
returns-clause-small c = listed_small c.args.set.now c.from.result c.from-2.result c.from-3.result c.from-4.result c.from-5.result c.from-6.result c.from-7.result c.from-8.result
    (rw c.lists.ensures at c.from.ensures) (rw c.lists-2.ensures at c.from-2.ensures) (rw c.lists-3.ensures at c.from-3.ensures) (rw c.lists-4.ensures at c.from-4.ensures)
    (rw c.lists-5.ensures at c.from-5.ensures) (rw c.lists-6.ensures at c.from-6.ensures) (rw c.lists-7.ensures at c.from-7.ensures) (rw c.lists-8.ensures at c.from-8.ensures)
