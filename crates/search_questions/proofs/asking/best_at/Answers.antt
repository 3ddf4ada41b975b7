-- Each pair is joined, then looked at.
use Rattle.std.proofs.Common.{◌<◌, ◌≤◌, length, subst, arith}
use Rattle.std.specs.Prelude.{IfErr}
use Rattle.list_lemmas.proofs.CallerLemmas.{of_some}
use Rattle.negotiation_inputs.specs.Platform.{PlatformFacts}
use Rattle.search_questions.specs.Asking.{IsAnswerAt, IsOpenOf}
use Rattle.search_questions.proofs.AskedMembers.{if_some}
use Rattle.search_questions.proofs.Keeping.{none_left}
use Rattle.search_questions.proofs.Standing.{read_kept, looked_on, found_answers, none_found}
use Rattle.sysmem_tree.specs.Forest.{settled}
use Rattle.sysmem_tree.specs.Selection.{after}
use Rattle.verdict_claims.specs.Matter.{forest}
use Rattle.search_questions.proofs.asking.best_at.Goals as goal

pub loop-index-init : goal.loop-index-init
loop-index-init c =
    let m = c.args.subject.now in record {
      there = c.requires.there;
      stands = λ layout cs long keeps. keeps;
      looked = λ layout cs long keeps. if_some _ (after (forest m) cs) (λ d leads. subst (λ r. IfErr r (λ n. IsOpenOf n c.args.whole m (settled d))) c.in-Err.is
          (c.ask.ensures.open (settled d) (read_kept m layout c.args.parts.now c.args.levels.now.items cs keeps c.args.depth c.index.result.now long c.index.ensures d leads)));
    }

pub loop-index-preserved : goal.loop-index-preserved
loop-index-preserved c =
    let m = c.args.subject.now in
    let every : length c.pairs-all.result.now ≤ length m.platform.pairs = subst (λ (p : PlatformFacts). length c.pairs-all.result.now ≤ length p.pairs) c.platform.ensures
    (subst (λ xs. length c.pairs-all.result.now ≤ length xs) c.pairs-all.ensures.pairs (omega arith)) in
    let less : c.loop-index.index < length m.platform.pairs = subst (λ (p : PlatformFacts). c.loop-index.index < length p.pairs) c.platform.ensures
    (subst (λ xs. c.loop-index.index < length xs) c.pairs-all.ensures.pairs c.loop-index-test.true) in record {
      there = omega (arith, c.look_at-found.ensures.many, c.join_ahead.ensures.many, c.loop-index.invariant.there);
      stands = λ layout cs long keeps. (looked_on m layout c.args.parts.now c.loop-index.levels.items c.join_ahead.new.levels.items c.look_at-found.new.levels.items cs c.args.depth c.loop-index.index
          c.args.whole c.look_at-found.result long less (c.loop-index.invariant.stands layout cs long keeps) (c.loop-index.invariant.looked layout cs long keeps) (c.join_ahead.ensures.stands m layout cs (omega (arith, long)) every (c.loop-index.invariant.stands layout cs long keeps))
          c.look_at-found.ensures.same c.look_at-found.ensures.looked).0;
      looked = λ layout cs long keeps.
          let both = looked_on m layout c.args.parts.now c.loop-index.levels.items c.join_ahead.new.levels.items c.look_at-found.new.levels.items cs c.args.depth c.loop-index.index
          c.args.whole c.look_at-found.result long less (c.loop-index.invariant.stands layout cs long keeps) (c.loop-index.invariant.looked layout cs long keeps) (c.join_ahead.ensures.stands m layout cs (omega (arith, long)) every (c.loop-index.invariant.stands layout cs long keeps))
          c.look_at-found.ensures.same c.look_at-found.ensures.looked in
          if_some _ (after (forest m) cs) (λ d leads. none_found c.loop-index.index c.args.whole m (settled d) c.look_at-found.result c.is_some.result c.is_some.ensures c.if-is_some.false
          (of_some (λ x. IsAnswerAt c.loop-index.index c.args.whole m (settled x) c.look_at-found.result) (after (forest m) cs) d leads both.1));
    }

pub returns-then-is_some-clause-stands : goal.returns-then-is_some-clause-stands
returns-then-is_some-clause-stands c = λ layout cs long keeps.
    let m = c.args.subject.now in
    let every : length c.pairs-all.result.now ≤ length m.platform.pairs = subst (λ (p : PlatformFacts). length c.pairs-all.result.now ≤ length p.pairs) c.platform.ensures
    (subst (λ xs. length c.pairs-all.result.now ≤ length xs) c.pairs-all.ensures.pairs (omega arith)) in
    let less : c.loop-index.index < length m.platform.pairs = subst (λ (p : PlatformFacts). c.loop-index.index < length p.pairs) c.platform.ensures
    (subst (λ xs. c.loop-index.index < length xs) c.pairs-all.ensures.pairs c.loop-index-test.true) in
    (looked_on m layout c.args.parts.now c.loop-index.levels.items c.join_ahead.new.levels.items c.look_at-found.new.levels.items cs c.args.depth c.loop-index.index
    c.args.whole c.look_at-found.result long less (c.loop-index.invariant.stands layout cs long keeps) (c.loop-index.invariant.looked layout cs long keeps) (c.join_ahead.ensures.stands m layout cs (omega (arith, long)) every (c.loop-index.invariant.stands layout cs long keeps))
    c.look_at-found.ensures.same c.look_at-found.ensures.looked).0

pub returns-then-is_some-clause-answer : goal.returns-then-is_some-clause-answer
returns-then-is_some-clause-answer c = λ layout cs long keeps.
    let m = c.args.subject.now in
    let every : length c.pairs-all.result.now ≤ length m.platform.pairs = subst (λ (p : PlatformFacts). length c.pairs-all.result.now ≤ length p.pairs) c.platform.ensures
    (subst (λ xs. length c.pairs-all.result.now ≤ length xs) c.pairs-all.ensures.pairs (omega arith)) in
    let less : c.loop-index.index < length m.platform.pairs = subst (λ (p : PlatformFacts). c.loop-index.index < length p.pairs) c.platform.ensures
    (subst (λ xs. c.loop-index.index < length xs) c.pairs-all.ensures.pairs c.loop-index-test.true) in
    let both = looked_on m layout c.args.parts.now c.loop-index.levels.items c.join_ahead.new.levels.items c.look_at-found.new.levels.items cs c.args.depth c.loop-index.index
    c.args.whole c.look_at-found.result long less (c.loop-index.invariant.stands layout cs long keeps) (c.loop-index.invariant.looked layout cs long keeps) (c.join_ahead.ensures.stands m layout cs (omega (arith, long)) every (c.loop-index.invariant.stands layout cs long keeps))
    c.look_at-found.ensures.same c.look_at-found.ensures.looked in
    if_some _ (after (forest m) cs) (λ d leads. found_answers c.loop-index.index c.args.whole m (settled d) c.look_at-found.result c.is_some.result c.is_some.ensures c.if-is_some.true
    (of_some (λ x. IsAnswerAt c.loop-index.index c.args.whole m (settled x) c.look_at-found.result) (after (forest m) cs) d leads both.1))

pub returns-clause-answer : goal.returns-clause-answer
returns-clause-answer c = λ layout cs long keeps.
    let m = c.args.subject.now in
    let all : length m.platform.pairs ≤ c.loop-index.index = subst (λ (p : PlatformFacts). length p.pairs ≤ c.loop-index.index) c.platform.ensures
    (subst (λ xs. length xs ≤ c.loop-index.index) c.pairs-all.ensures.pairs c.loop-index-test.false) in
    if_some _ (after (forest m) cs) (λ d leads. none_left c.loop-index.index c.args.whole m (settled d) all
    (of_some (λ x. IsOpenOf c.loop-index.index c.args.whole m (settled x)) (after (forest m) cs) d leads (c.loop-index.invariant.looked layout cs long keeps)))
