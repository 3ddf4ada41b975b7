use Rattle.std.proofs.Common.{rules, tests}
use Rattle.std.proofs.lemmas.Bool.Decides.{same_from_decides, not_from_Decides}
use Rattle.std.proofs.lemmas.Iterator.{YieldsList-from_slice, YieldsList-from_zip, same_from_all}
use Rattle.std.specs.Cmp.Lexicographic.{pointwise}
use Rattle.negotiation_inputs.specs.Equal.{same_heap_facts}
use Rattle.negotiation_inputs.proofs.Same.{same_facts, same_lists}
use Rattle.negotiation_inputs.proofs.equal.are_same_heaps.Goals as goal

pub returns-then-a-b : goal.returns-then-a-b
returns-then-a-b c =
    let answer = same_from_all c.all.new.self _ c.all.result c.args.a.now c.args.b.now c.all.ensures.ran (YieldsList-from_zip (YieldsList-from_slice c.args.a.now cc) (YieldsList-from_slice c.args.b.now cc)) (search rules) (λ x q k. search (rules, tests, same_facts)) (λ x q k. search (rules, tests, same_facts, not_from_Decides)) in
    same_from_decides c.all.result (pointwise same_heap_facts c.args.a.now c.args.b.now) answer (same_lists c.args.a.now c.args.b.now)
