use Rattle.std.proofs.Common.{◌≡◌, Some, ap, refl, rules}
use Rattle.sysmem_room.specs.Log.{shown_by}
use Rattle.sysmem_participants.specs.Told.{asked_by}
use Rattle.sysmem_participants.proofs.Noted.{noted_by, still_known, tells_of}
use Rattle.sysmem_participants.proofs.seat.Seat.check.Goals as goal

pub returns : goal.returns
returns g c =
    let platform : c.deref-2.result.now.platform ≡ c.args.self.now.platform = search rules in
    let path : c.self.inside.log.path ≡ c.args.self.now.path = search rules in
    let asked : (shown_by c.self.inside.log).constraints ≡ asked_by c.args.self.now = ap asked_by c.self.view_is in
    let set : c.get_as.new.note.known ≡ Some c.in-Some.outcome.now = search rules in
    let was : c.self.inside.note.known ≡ c.args.self.now.known = search rules in (
      (
        refl,
        (λ _. tt),
        (
          search rules,
          still_known c.args.self.now.known c.self.inside.note.known c.get_as.new.note.known c.in-Some.outcome.now was set c.in-Some.ensures.value.1,
          noted_by c.told.result (λ v. v.ruling.now) c.args.self.now c.deref-2.result.now.platform c.self.inside.log.path (shown_by c.self.inside.log).constraints c.in-Some.outcome.now c.get_as.new.note.known set platform path asked c.told.ensures.decided c.told.ensures.told c.told.ensures.known,
        ),
      ),
      record {
        after = tt;
        pending = search rules;
        known = search rules;
        shown = search rules;
        tells = tells_of c.told.result c.args.self.now c.self.inside.note.known c.deref-2.result.now.platform c.self.inside.log.path (shown_by c.self.inside.log).constraints c.in-Some.outcome.now was c.in-Some.ensures.value.1 platform path asked c.told.ensures.told;
      },
    )
