use Rattle.std.proofs.Common.{refl, rules}
use Rattle.std.specs.Arc.{arc_value}
use Rattle.once_cell.specs.Once.{cell_name}
use Rattle.sysmem_participants.specs.Held.{Held, IsSameBut, IsStillKnown}
use Rattle.sysmem_participants.proofs.Noted.{tells_as, waited}
use Rattle.sysmem_participants.proofs.seat.Seat.wait_for_all.Goals as goal

pub returns : goal.returns
returns g c =
    let after_waiting : Held =
    record {
      path = c.self.inside.log.path;
      begun = c.self.inside.log.begun;
      deeds = c.self.inside.log.deeds;
      cell = cell_name (arc_value c.self.inside.cell);
      known = c.wait_until_set.new.note.known;
      platform = (arc_value c.self.inside.shared).platform;
    } in
    let same : IsSameBut c.args.self.now after_waiting = search rules in
    let kept : IsStillKnown c.args.self.now after_waiting = search rules in (
      (
        refl,
        (λ _. tt),
        waited c.check.result (λ v. v.ruling.now) c.args.self.now after_waiting c.check.follows.lender-at-none same kept c.check.follows.holds-at-none,
      ),
      record {
        after = tt;
        decided = search rules;
        known = search rules;
        shown = search rules;
        tells = tells_as c.check.result c.args.self.now after_waiting same kept c.check.ensures.tells;
      },
    )
