-- What refutes all from no choices on refutes the domain.
use Rattle.sysmem_search.proofs.Proved.{unmet_at_start, refuted_all, refuted_cut}
use Rattle.sysmem_search.proofs.proving.refute.Goals as goal

pub refute_from-requires-clause-unmet : goal.refute_from-requires-clause-unmet
refute_from-requires-clause-unmet c = unmet_at_start c.args.subject.now c.in_ok-question.question c.in_ok-question.ensures c.requires.1

pub returns-clause-cut : goal.returns-clause-cut
returns-clause-cut c = refuted_cut c.args.subject.now c.in_ok-question.question c.new-items.result.items c.refute_from.new.items.items c.new-2.result c.in_ok-question.ensures c.new-items.ensures.items
    c.new-2.ensures c.in_ok-refute_from.ensures.refuted

pub returns-clause-proved : goal.returns-clause-proved
returns-clause-proved c = refuted_all c.args.subject.now c.in_ok-question.question c.new-items.result.items c.refute_from.new.items.items c.new-2.result c.in_ok-question.ensures c.new-items.ensures.items
    c.new-2.ensures c.in_ok-refute_from.ensures.refuted
