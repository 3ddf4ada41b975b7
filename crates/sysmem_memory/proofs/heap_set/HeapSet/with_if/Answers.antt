use Rattle.std.proofs.Common.{rules, ◌∙◌, sym}
use Rattle.std.proofs.lemmas.Bool.{or_left}
use Rattle.sysmem_memory.proofs.HeapSets.{bit_set, other_bits_kept}
use Rattle.sysmem_memory.proofs.heap_set.HeapSet.with_if.Goals as goal

pub returns-clause-heap : goal.returns-clause-heap
returns-clause-heap c =
    bit_set c.args.self.word c.args.heap c.requires ∙ sym (or_left c.args.there _ (search (rules, c.if-not-there.false)))

pub returns-clause-others : goal.returns-clause-others
returns-clause-others c k apart = other_bits_kept c.args.self.word c.args.heap k c.requires apart
