use Rattle.std.proofs.Common.{◌≡◌, ◌++◌, ◌∙◌, List, drop, take, ap, sym, subst, arith, inr, rules, tests, length}
use Rattle.sysmem_alloc.specs.Book.{BookFacts}
use Rattle.sysmem_participants.specs.declared.faults.AuditFault.{AuditFault}
use Rattle.sysmem_room.specs.Counting.{actions_in}
use Rattle.sysmem_participants.specs.Audit.{AgreesWith, AreFor, AreRead, IsAudited, IsFaultOf, IsFirstFault}
use Rattle.sysmem_participants.specs.Held.{Left}
use Rattle.sysmem_participants.proofs.Entries.{all_written, sum_written}
use Rattle.sysmem_participants.proofs.Seeing.{for_read}
use Rattle.sysmem_participants.proofs.gathering.audited.Goals as goal

pub returns-clause-agree : goal.returns-clause-agree
returns-clause-agree g c =
    let many : c.args.stubs.len ≡ length c.stubs_agree.new.stubs = omega (arith, c.stubs_agree.auto.stubs, c.deref_mut.ensures.len) in
    let read : AreRead c.args.stubs.items c.stubs_agree.new.stubs = search rules in
    let book : c.book-2.result.now ≡ c.args.room.now = search rules in
    let found : AgreesWith c.args.room.now c.args.stubs.items c.in-Ok.audit =
    record {
      platform = search (rules, tests);
      counted = sym (sum_written c.args.stubs.len c.args.stubs.items c.stubs_agree.new.stubs many read) ∙ c.count.ensures.actions;
      audited = (c.stubs_agree.new.stubs, read, subst (λ (b : BookFacts). IsAudited b c.stubs_agree.new.stubs c.in-Ok.audit) book c.in-Ok.ensures.agree);
    } in
    subst (λ (b : BookFacts). AgreesWith b c.args.stubs.items c.in-Ok.audit) (sym c.seen-seen.ensures) found

pub returns-clause-sum : goal.returns-clause-sum
returns-clause-sum g c =
    let many : c.args.stubs.len ≡ length c.stubs_agree.new.stubs = omega (arith, c.stubs_agree.auto.stubs, c.deref_mut.ensures.len) in
    let read : AreRead c.args.stubs.items c.stubs_agree.new.stubs = search rules in
    let book : c.book-2.result.now ≡ c.args.room.now = search rules in
    c.in-Ok.ensures.agree.actions ∙ ap (λ (b : BookFacts). actions_in b.history) book ∙ sym c.count.ensures.actions ∙ sum_written c.args.stubs.len c.args.stubs.items c.stubs_agree.new.stubs many read

pub returns-in-Err-clause-read : goal.returns-in-Err-clause-read
returns-in-Err-clause-read g c =
    let many : c.args.stubs.len ≡ length c.stubs_agree.new.stubs = omega (arith, c.stubs_agree.auto.stubs, c.deref_mut.ensures.len) in
    let read : AreRead c.args.stubs.items c.stubs_agree.new.stubs = search rules in
    subst (AreRead c.args.stubs.items) (sym (all_written c.args.stubs.len c.args.stubs.items c.stubs_agree.new.stubs many)) read

pub returns-in-Err-clause-fault : goal.returns-in-Err-clause-fault
returns-in-Err-clause-fault g c =
    let many : c.args.stubs.len ≡ length c.stubs_agree.new.stubs = omega (arith, c.stubs_agree.auto.stubs, c.deref_mut.ensures.len) in
    let read : AreRead c.args.stubs.items c.stubs_agree.new.stubs = search rules in
    let book : c.book-2.result.now ≡ c.args.room.now = search rules in
    let for_it : AreFor c.args.room.now.platform c.args.stubs.items = search (rules, tests) in
    let first : IsFirstFault c.args.room.now c.stubs_agree.new.stubs c.in-Err.fault =
    subst (λ (b : BookFacts). IsFirstFault b c.stubs_agree.new.stubs c.in-Err.fault) book c.in-Err.ensures.fault in
    let found : IsFaultOf c.args.room.now c.stubs_agree.new.stubs c.in-Err.fault =
    inr (for_read c.args.room.now.platform c.args.stubs.items c.stubs_agree.new.stubs read for_it, first) in
    let back : List Left = take c.args.stubs.len (c.stubs_agree.new.stubs ++ drop (length c.stubs_agree.new.stubs) c.args.stubs.items) in
    let written : back ≡ c.stubs_agree.new.stubs = all_written c.args.stubs.len c.args.stubs.items c.stubs_agree.new.stubs many in
    subst (λ (b : BookFacts). IsFaultOf b back c.in-Err.fault) (sym c.seen-seen.ensures) (subst (λ stubs. IsFaultOf c.args.room.now stubs c.in-Err.fault) (sym written) found)

pub returns-in-Err-clause-memory : goal.returns-in-Err-clause-memory
returns-in-Err-clause-memory g c refused =
    let book : c.book-2.result.now ≡ c.args.room.now = search rules in
    subst (λ (f : AuditFault). IsFirstFault c.args.room.now c.stubs_agree.new.stubs f) refused
    (subst (λ (b : BookFacts). IsFirstFault b c.stubs_agree.new.stubs c.in-Err.fault) book c.in-Err.ensures.fault)
