-- What is due by what the call sees in the cell, said by what the handle knew.
use Rattle.std.proofs.Common.{◌≡◌, Some, true, rules}
use Rattle.std.specs.Prelude.{IfSome, option_map}
use Rattle.sysmem_room.specs.Log.{shown_by}
use Rattle.sysmem_tree.specs.ActionKind.{deed_of}
use Rattle.sysmem_participants.proofs.Answering.{answers_by_known, enters_by_known, read_known}
use Rattle.sysmem_participants.proofs.Ended.{open_still}
use Rattle.sysmem_participants.proofs.Owned.{IsLogOf, disputed, has_acted, next_of, noted, owned, read_now, state_as, there}
use Rattle.sysmem_participants.proofs.seat.Seat.step.Goals as goal

pub invariant_of-self-2 : goal.invariant_of-self-2
invariant_of-self-2 g c =
    let opened : (shown_by c.reserve.new.self).state.is_open ≡ true = search rules in (
      search rules,
      open_still _ c.enter-entered.result.0 c.reserve.new.self c.enter-entered.new.log (deed_of c.args.action) c.requires.stays c.enter-entered.ensures.begun c.enter-entered.ensures.logged c.enter-entered.ensures.unchanged opened,
    )

pub returns-clause-foreseen : goal.returns-clause-foreseen
returns-clause-foreseen g c =
    let known : c.again-seen.result.known ≡ c.args.self.now.known = search rules in
    let its : IsLogOf c.reserve.new.self c.args.self.now = record { path = search rules; begun = search rules; deeds = search rules } in
    enters_by_known c.enter-entered.result.0 c.args.self.now (deed_of c.args.action) c.again-seen.result.known c.get_as-known.result c.reserve.new.self.path (shown_by c.reserve.new.self).state
    known its.path (state_as c.args.self.now c.reserve.new.self its) (read_known c.again-seen.result.known _ c.get_as-known.result c.get_as-known.ensures.value) c.enter-entered.ensures.foreseen

pub returns-clause-answers : goal.returns-clause-answers
returns-clause-answers g c =
    let known : c.again-seen.result.known ≡ c.args.self.now.known = search rules in
    let its : IsLogOf c.reserve.new.self c.args.self.now = record { path = search rules; begun = search rules; deeds = search rules } in
    answers_by_known c.enter-entered.result.0 c.args.self.now (deed_of c.args.action) c.again-seen.result.known c.get_as-known.result c.reserve.new.self.path (shown_by c.reserve.new.self).state
    known its.path (state_as c.args.self.now c.reserve.new.self its) (read_known c.again-seen.result.known _ c.get_as-known.result c.get_as-known.ensures.value) c.enter-entered.ensures.answers

pub returns-clause-next : goal.returns-clause-next
returns-clause-next g c =
    let its : IsLogOf c.reserve.new.self c.args.self.now = record { path = search rules; begun = search rules; deeds = search rules } in
    next_of c.enter-entered.result.0 (λ e. e.before) c.args.self.now c.reserve.new.self its c.enter-entered.ensures.before

pub returns-clause-taken : goal.returns-clause-taken
returns-clause-taken g c =
    let its : IsLogOf c.reserve.new.self c.args.self.now = record { path = search rules; begun = search rules; deeds = search rules } in
    has_acted c.enter-entered.result.0 c.enter-entered.result.1.found c.enter-entered.result.1.left c.args.self.now (deed_of c.args.action) c.reserve.new.self
    (option_map (λ o. o.now) c.get_as-known.result) c.get_as-known.new.note.known its
    (read_now c.again-seen.result.known _ c.get_as-known.result c.get_as-known.ensures.value) c.enter-entered.ensures.entered

pub returns-clause-own : goal.returns-clause-own
returns-clause-own g c =
    let its : IsLogOf c.reserve.new.self c.args.self.now = record { path = search rules; begun = search rules; deeds = search rules } in
    owned c.enter-entered.result.0 c.enter-entered.result.1.found c.args.self.now c.reserve.new.self
    (option_map (λ o. o.now) c.get_as-known.result) c.get_as-known.new.note.known its
    (read_now c.again-seen.result.known _ c.get_as-known.result c.get_as-known.ensures.value) c.enter-entered.ensures.own

pub returns-clause-strange : goal.returns-clause-strange
returns-clause-strange g c =
    let its : IsLogOf c.reserve.new.self c.args.self.now = record { path = search rules; begun = search rules; deeds = search rules } in
    disputed c.enter-entered.result.0 c.enter-entered.result.1.found c.args.self.now (deed_of c.args.action) c.reserve.new.self
    (option_map (λ o. o.now) c.get_as-known.result) c.get_as-known.new.note.known its
    (read_now c.again-seen.result.known _ c.get_as-known.result c.get_as-known.ensures.value) c.enter-entered.ensures.strange

pub returns-clause-there : goal.returns-clause-there
returns-clause-there g c =
    let its : IsLogOf c.reserve.new.self c.args.self.now = record { path = search rules; begun = search rules; deeds = search rules } in
    let known : c.again-seen.result.known ≡ c.args.self.now.known = search rules in
    let knew : IfSome c.args.self.now.known (λ o. c.get_as-known.new.note.known ≡ Some o) =
    noted c.args.self.now.known c.again-seen.result.known _ c.get_as-known.result known c.get_as-known.ensures.value in
    there c.enter-entered.result.0 c.enter-entered.result.1.found c.enter-entered.result.1.left c.args.self.now (deed_of c.args.action) c.reserve.new.self
    (option_map (λ o. o.now) c.get_as-known.result) c.get_as-known.new.note.known its
    (read_now c.again-seen.result.known _ c.get_as-known.result c.get_as-known.ensures.value) knew c.enter-entered.ensures.legal c.enter-entered.ensures.entered c.enter-entered.ensures.own
