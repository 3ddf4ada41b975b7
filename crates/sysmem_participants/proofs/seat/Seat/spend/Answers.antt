use Rattle.std.proofs.Common.{◌≡◌, ◌≢◌, ℕ, None, Some, rules}
use Rattle.std.specs.Prelude.{IfSome, option_map}
use Rattle.sysmem_tree.specs.declared.refusal.Refusal.TheVariants.{Strange, WrongState}
use Rattle.sysmem_tree.specs.ActionKind.{deed_of, kind_of}
use Rattle.sysmem_room.specs.Agreeing.{IsOwn}
use Rattle.sysmem_room.specs.Entering.{HasEntered}
use Rattle.sysmem_room.specs.Log.{shown_by}
use Rattle.sysmem_room.specs.Refusals.{due}
use Rattle.sysmem_participants.proofs.Owned.{IsLogOf, acted_on, due_at_end, has_own, in_book, lacks_own, noted, read_now}
use Rattle.sysmem_participants.proofs.seat.Seat.spend.Goals as goal

pub returns-in-Ok-clause-foreseen : goal.returns-in-Ok-clause-foreseen
returns-in-Ok-clause-foreseen g c =
    let its : IsLogOf c.self.inside.log c.args.self = record { path = search rules; begun = search rules; deeds = search rules } in
    let none : due (option_map (λ o. o.now) c.get_as-known.result) c.self.inside.log.path (shown_by c.self.inside.log).state (kind_of (deed_of c.args.action)) ≡ None = search rules in
    due_at_end c.args.self c.self.inside.log (option_map (λ o. o.now) c.get_as-known.result) (kind_of (deed_of c.args.action)) None c.requires.ends its none

pub returns-in-Ok-clause-taken : goal.returns-in-Ok-clause-taken
returns-in-Ok-clause-taken g c =
    let its : IsLogOf c.self.inside.log c.args.self = record { path = search rules; begun = search rules; deeds = search rules } in
    let entered : HasEntered c.end-ended.result.1.found c.end-ended.result.1.left c.self.inside.log (option_map (λ o. o.now) c.get_as-known.result) (deed_of c.args.action) = search rules in
    acted_on c.end-ended.result.1.found c.end-ended.result.1.left c.args.self (deed_of c.args.action) c.self.inside.log (option_map (λ o. o.now) c.get_as-known.result) c.get_as-known.new.note.known its
    (read_now c.again-seen.result.known _ c.get_as-known.result c.get_as-known.ensures.value) entered

pub returns-in-Ok-clause-there : goal.returns-in-Ok-clause-there
returns-in-Ok-clause-there g c =
    let its : IsLogOf c.self.inside.log c.args.self = record { path = search rules; begun = search rules; deeds = search rules } in
    let known : c.again-seen.result.known ≡ c.args.self.known = search rules in
    let knew : IfSome c.args.self.known (λ o. c.get_as-known.new.note.known ≡ Some o) =
    noted c.args.self.known c.again-seen.result.known _ c.get_as-known.result known c.get_as-known.ensures.value in
    let entered : HasEntered c.end-ended.result.1.found c.end-ended.result.1.left c.self.inside.log (option_map (λ o. o.now) c.get_as-known.result) (deed_of c.args.action) = search rules in
    let (node, own, _) = entered in
    in_book c.end-ended.result.1.found c.args.self c.self.inside.log (option_map (λ o. o.now) c.get_as-known.result) c.get_as-known.new.note.known node its
    (read_now c.again-seen.result.known _ c.get_as-known.result c.get_as-known.ensures.value) knew c.end-ended.ensures.legal own

pub returns-in-Err-clause-answers : goal.returns-in-Err-clause-answers
returns-in-Err-clause-answers g c = λ not_strange.
    let its : IsLogOf c.self.inside.log c.args.self = record { path = search rules; begun = search rules; deeds = search rules } in
    let held : c.in-Err.refusal ≢ Strange
    → (c.in-Err.refusal ≡ WrongState) × (due (option_map (λ o. o.now) c.get_as-known.result) c.self.inside.log.path (shown_by c.self.inside.log).state (kind_of (deed_of c.args.action)) ≡ Some WrongState) = search rules in
    let (wrong, is) = held not_strange in
    (wrong, due_at_end c.args.self c.self.inside.log (option_map (λ o. o.now) c.get_as-known.result) (kind_of (deed_of c.args.action)) (Some WrongState) c.requires.ends its is)

pub returns-in-Err-clause-own : goal.returns-in-Err-clause-own
returns-in-Err-clause-own g c = λ not_strange.
    let its : IsLogOf c.self.inside.log c.args.self = record { path = search rules; begun = search rules; deeds = search rules } in
    let held : c.in-Err.refusal ≢ Strange → (node : ℕ) × IsOwn c.end-ended.result.1.found c.self.inside.log (option_map (λ o. o.now) c.get_as-known.result) node = search rules in
    has_own c.end-ended.result.1.found c.args.self c.self.inside.log (option_map (λ o. o.now) c.get_as-known.result) c.get_as-known.new.note.known its
    (read_now c.again-seen.result.known _ c.get_as-known.result c.get_as-known.ensures.value) (held not_strange)

pub returns-in-Err-clause-strange : goal.returns-in-Err-clause-strange
returns-in-Err-clause-strange g c = λ strange.
    let its : IsLogOf c.self.inside.log c.args.self = record { path = search rules; begun = search rules; deeds = search rules } in
    let held : c.in-Err.refusal ≡ Strange → (node : ℕ) → IsOwn c.end-ended.result.1.found c.self.inside.log (option_map (λ o. o.now) c.get_as-known.result) node → ⊥ = search rules in
    lacks_own c.end-ended.result.1.found c.args.self c.self.inside.log (option_map (λ o. o.now) c.get_as-known.result) c.get_as-known.new.note.known its
    (read_now c.again-seen.result.known _ c.get_as-known.result c.get_as-known.ensures.value) (held strange)

pub returns-in-Err-clause-there : goal.returns-in-Err-clause-there
returns-in-Err-clause-there g c = λ not_strange _.
    let its : IsLogOf c.self.inside.log c.args.self = record { path = search rules; begun = search rules; deeds = search rules } in
    let known : c.again-seen.result.known ≡ c.args.self.known = search rules in
    let knew : IfSome c.args.self.known (λ o. c.get_as-known.new.note.known ≡ Some o) =
    noted c.args.self.known c.again-seen.result.known _ c.get_as-known.result known c.get_as-known.ensures.value in
    let held : c.in-Err.refusal ≢ Strange → (node : ℕ) × IsOwn c.end-ended.result.1.found c.self.inside.log (option_map (λ o. o.now) c.get_as-known.result) node = search rules in
    let (node, own) = held not_strange in
    in_book c.end-ended.result.1.found c.args.self c.self.inside.log (option_map (λ o. o.now) c.get_as-known.result) c.get_as-known.new.note.known node its
    (read_now c.again-seen.result.known _ c.get_as-known.result c.get_as-known.ensures.value) knew c.end-ended.ensures.legal own
