use Rattle.std.proofs.Common.{◌+◌, ◌≡◌, ◌∙◌, ◌<◌, ap, subst, sym, arith, rules, tests, true, false, slice_set, length}
use Rattle.std.specs.Prelude.{◌↔◌}
use Rattle.std.proofs.lemmas.List.{length-set, length-replicate, set-get_or}
use Rattle.sysmem_tree.specs.Domain.{TreeFacts}
use Rattle.sysmem_participants.specs.Audit.{AreMatched}
use Rattle.sysmem_participants.proofs.Seeing.{SeenTo, seen_none, seen_more, none_read, read_more, all_matched, marked_all, have_calls, lack_calls, lack_verdicts, each_of, all_of, none_there}
use Rattle.sysmem_participants.proofs.agreeing.stubs_agree.Goals as goal

both : {A B C D : Type 0} → A ↔ (B × C) → C ↔ D → A ↔ (B × D)
both one two = (λ a. let (b, c) = one.0 a in (b, two.0 c), λ is. let (b, d) = is in one.1 (b, two.1 d))

pub loop-index-init : goal.loop-index-init
loop-index-init g c = record { seen = seen_none c.args.book.now c.args.stubs.now; read = none_read c.args.stubs.now; long = length-replicate 128 false }

pub loop-index-preserved : goal.loop-index-preserved
loop-index-preserved g c =
    let less : c.loop-index.index < length c.loop-index.stubs = omega (arith, c.loop-index-test.true, c.loop-index.auto.index-end, c.loop-index.invariant.read.many) in
    let there : c.in-Some.node < length c.loop-index.marks = omega (arith, c.number_of.ensures.number, c.number_of.ensures.few, c.loop-index.invariant.long) in
    record {
      seen =
          subst (λ n. SeenTo c.args.book.now (slice_set c.loop-index.stubs c.loop-index.index c.agreement_of.new.stub) (slice_set c.loop-index.marks n true) c.and-all.result.calls c.and-all.result.verdict (c.loop-index.index + 1)) (sym c.number_of.ensures.number)
          (seen_more c.args.book.now c.loop-index.stubs c.loop-index.marks c.loop-index.all.calls c.loop-index.all.verdict c.and-all.result.calls c.and-all.result.verdict c.loop-index.index c.in-Some.node c.agreement_of.new.stub
          less there c.agreement_of.ensures.at
          (both c.and-all.ensures.calls c.agreement_of.ensures.calls)
          (both c.and-all.ensures.verdict c.agreement_of.ensures.verdict)
          c.loop-index.invariant.seen);
      read = read_more _ c.loop-index.stubs c.loop-index.index c.agreement_of.new.stub c.index-stubs-index.result less c.agreement_of.ensures.read c.loop-index.invariant.read;
      long = length-set c.loop-index.marks _ true ∙ c.loop-index.invariant.long;
    }

pub returns-then-not-have_stubs-clause-fault : goal.returns-then-not-have_stubs-clause-fault
returns-then-not-have_stubs-clause-fault g c = λ matched.
    let end : c.loop-index.index ≡ length c.loop-index.stubs = omega (arith, c.loop-index-test.false, c.loop-index.invariant.read.many, c.loop-index.auto.index-end) in
    let (i, less, unmarked) = c.are_marked-have_stubs.ensures.one (search (rules, tests)) in
    let number = c.node_count-nodes.ensures.number ∙ ap (λ (t : TreeFacts). length t.nodes) c.tree.ensures in
    absurd (cc (sym (marked_all c.args.book.now c.loop-index.stubs c.loop-index.marks c.loop-index.all.calls c.loop-index.all.verdict c.loop-index.index end c.loop-index.invariant.seen matched i (omega (arith, less, number))) ∙ unmarked))

pub returns-then-not-calls-clause-fault : goal.returns-then-not-calls-clause-fault
returns-then-not-calls-clause-fault g c =
    let end : c.loop-index.index ≡ length c.loop-index.stubs = omega (arith, c.loop-index-test.false, c.loop-index.invariant.read.many, c.loop-index.auto.index-end) in
    let number = c.node_count-nodes.ensures.number ∙ ap (λ (t : TreeFacts). length t.nodes) c.tree.ensures in
    let many : length c.loop-index.stubs ≡ length c.args.book.now.state.tree.nodes = omega (arith, c.loop-index.invariant.read.many, c.if-stubs-nodes.false, number) in
    let marked = c.are_marked-have_stubs.ensures.all (search (rules, tests)) in
    let differ : c.loop-index.all.calls ≡ false = search (rules, tests) in (
      all_matched c.args.book.now c.loop-index.stubs c.loop-index.marks c.loop-index.all.calls c.loop-index.all.verdict c.loop-index.index end many (λ i less. marked i (omega (arith, less, number))) c.loop-index.invariant.seen,
      lack_calls c.args.book.now c.loop-index.stubs c.loop-index.marks c.loop-index.all.calls c.loop-index.all.verdict c.loop-index.index end differ c.loop-index.invariant.seen,
    )

pub returns-then-not-verdict-clause-fault : goal.returns-then-not-verdict-clause-fault
returns-then-not-verdict-clause-fault g c =
    let end : c.loop-index.index ≡ length c.loop-index.stubs = omega (arith, c.loop-index-test.false, c.loop-index.invariant.read.many, c.loop-index.auto.index-end) in
    let number = c.node_count-nodes.ensures.number ∙ ap (λ (t : TreeFacts). length t.nodes) c.tree.ensures in
    let many : length c.loop-index.stubs ≡ length c.args.book.now.state.tree.nodes = omega (arith, c.loop-index.invariant.read.many, c.if-stubs-nodes.false, number) in
    let marked = c.are_marked-have_stubs.ensures.all (search (rules, tests)) in
    let calls : c.loop-index.all.calls ≡ true = search (rules, tests) in
    let differ : c.loop-index.all.verdict ≡ false = search (rules, tests) in (
      all_matched c.args.book.now c.loop-index.stubs c.loop-index.marks c.loop-index.all.calls c.loop-index.all.verdict c.loop-index.index end many (λ i less. marked i (omega (arith, less, number))) c.loop-index.invariant.seen,
      have_calls c.args.book.now c.loop-index.stubs c.loop-index.marks c.loop-index.all.calls c.loop-index.all.verdict c.loop-index.index end calls c.loop-index.invariant.seen,
      lack_verdicts c.args.book.now c.loop-index.stubs c.loop-index.marks c.loop-index.all.calls c.loop-index.all.verdict c.loop-index.index end differ c.loop-index.invariant.seen,
    )

pub returns-clause-agree : goal.returns-clause-agree
returns-clause-agree g c =
    let end : c.loop-index.index ≡ length c.loop-index.stubs = omega (arith, c.loop-index-test.false, c.loop-index.invariant.read.many, c.loop-index.auto.index-end) in
    let number = c.node_count-nodes.ensures.number ∙ ap (λ (t : TreeFacts). length t.nodes) c.tree.ensures in
    let many : length c.loop-index.stubs ≡ length c.args.book.now.state.tree.nodes = omega (arith, c.loop-index.invariant.read.many, c.if-stubs-nodes.false, number) in
    let marked = c.are_marked-have_stubs.ensures.all (search (rules, tests)) in
    let calls : c.loop-index.all.calls ≡ true = search (rules, tests) in
    let verdict : c.loop-index.all.verdict ≡ true = search (rules, tests) in
    record {
      each = each_of c.args.book.now c.loop-index.stubs c.loop-index.marks c.loop-index.all.calls c.loop-index.all.verdict c.loop-index.index end calls verdict c.loop-index.invariant.seen;
      all = λ i less. all_of c.args.book.now c.loop-index.stubs c.loop-index.marks c.loop-index.all.calls c.loop-index.all.verdict c.loop-index.index end calls verdict c.loop-index.invariant.seen i (marked i (omega (arith, less, number)));
      many = many;
      nodes = c.counted.ensures.nodes ∙ sym many;
      actions = c.counted.ensures.actions;
      decisions = c.counted.ensures.decisions;
    }

pub returns-in_default-clause-fault : goal.returns-in_default-clause-fault
returns-in_default-clause-fault g c = λ matched.
    let less : c.loop-index.index < length c.loop-index.stubs = omega (arith, c.loop-index-test.true, c.loop-index.auto.index-end, c.loop-index.invariant.read.many) in
    let same = set-get_or c.loop-index.stubs c.loop-index.index c.index-stubs-index.result in
    none_there c.args.book.now c.loop-index.stubs c.loop-index.index c.index-stubs-index.result less (search (rules, tests)) (subst (AreMatched c.args.book.now) same matched)
