-- What is kept of this participant and place is the answer; else the answer is asked for, and kept.
use Rattle.std.proofs.Common.{refl, ◌∙◌}
use Rattle.std.specs.Prelude.{option_map}
use Rattle.conflict_finding.proofs.AskedOnce.{is_answer, is_asked}
use Rattle.conflict_finding.proofs.places_asked.PlacesAsked.answer.Goals as goal

pub returns-in-Some-clause-answer : goal.returns-in-Some-clause-answer
returns-in-Some-clause-answer c =
    is_answer c.args.those.now.tree.now.nodes c.args.those.now.platform.now.heaps (option_map (λ one. one.now) c.args.constraints) c.args.node c.args.place c.args.heap.now c.in-Some.asked (c.in-Some.ensures.number ∙ c.number_of-number.ensures.number) c.in-Some.ensures.place
    c.requires.heap c.requires.constraints c.requires.there (c.in-Some.ensures.asked c.args.those.now.tree.now.nodes c.args.those.now.platform.now.heaps c.requires.asked)

pub returns-clause-asked : goal.returns-clause-asked
returns-clause-asked c = c.keep.ensures c.args.those.now.tree.now.nodes c.args.those.now.platform.now.heaps
    (is_asked c.args.those.now.tree.now.nodes c.args.those.now.platform.now.heaps (option_map (λ one. one.now) c.args.constraints) c.args.node c.args.place c.args.heap.now
    (record { number = c.number_of-number.result; place = c.args.place; refused = c.refused_place-refused.result }) c.number_of-number.ensures.number refl c.requires.heap c.requires.constraints
    (record { refused = c.refused_place-refused.ensures.refused; allowed = c.refused_place-refused.ensures.allowed; first = c.refused_place-refused.ensures.first }))
    c.requires.asked

pub returns-clause-answer : goal.returns-clause-answer
returns-clause-answer c = record { refused = c.refused_place-refused.ensures.refused; allowed = c.refused_place-refused.ensures.allowed; first = c.refused_place-refused.ensures.first }
