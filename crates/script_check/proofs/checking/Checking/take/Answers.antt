use Rattle.std.proofs.Common.{◌≡◌, Some, length, slice_get, refl, sym, subst}
use Rattle.std.proofs.lemmas.Option.{slice_get_read}
use Rattle.std.specs.Arc.{arc_value}
use Rattle.serde_json.specs.View.{view}
use Rattle.verdict_claims.specs.declared.no.No.TheVariants.{WrongShape}
use Rattle.script_check.specs.Checked.{TakesClaim}
use Rattle.script_check.proofs.Checks.{fails_missing, fails_there, objects_as, some_and}
use Rattle.script_replay.proofs.CallerLemmas.{path_is}
use Rattle.script_check.proofs.checking.Checking.take.Goals as goal

pub returns-in_default-clause-fails : goal.returns-in_default-clause-fails
returns-in_default-clause-fails c =
    let path = path_is c.tree-tree.result.now c.args.book.now.state.tree c.root_of.result c.args.domain c.in_ok-path.path c.tree-tree.ensures c.root_of.ensures.node c.in_ok-path.ensures.path in
    objects_as c.refused.result (record { no = WrongShape; path = c.in_ok-path.path }) _ c.refused.ensures
    (fails_missing c.args.book.now.platform c.args.book.now.state c.args.domain c.args.self.now.objects.now c.args.self.now.taken (record { no = WrongShape; path = c.in_ok-path.path })
    c.in_default.ensures.lookup.3 path refl)

pub claim_in-requires-clause-path : goal.claim_in-requires-clause-path
claim_in-requires-clause-path c =
    path_is c.tree-tree.result.now c.args.book.now.state.tree c.root_of.result c.args.domain c.in_ok-path.path c.tree-tree.ensures c.root_of.ensures.node c.in_ok-path.ensures.path

pub returns-in-Ok-new-clause-takes : goal.returns-in-Ok-new-clause-takes
returns-in-Ok-new-clause-takes c =
    let read = c.in-Some.ensures.lookup in
    let there : slice_get c.args.self.now.objects.now c.args.self.now.taken ≡ Some c.in-Some.object.now =
    slice_get_read c.args.self.now.objects.now (length c.args.self.now.objects.now) c.args.self.now.taken c.in-Some.object.now refl read.3.0 read.1 in
    some_and (slice_get c.args.self.now.objects.now c.args.self.now.taken) c.in-Some.object.now (λ object. TakesClaim c.args.book.now.platform c.args.book.now.state c.args.domain (view object) (arc_value c.in-Ok-new.shared)) there
    (subst (TakesClaim c.args.book.now.platform c.args.book.now.state c.args.domain (view c.in-Some.object.now)) (sym c.in-Ok-new.ensures.ok) c.in-Ok.ensures.takes)

pub returns-in-Err-Fails-clause-fails : goal.returns-in-Err-Fails-clause-fails
returns-in-Err-Fails-clause-fails c =
    let read = c.in-Some.ensures.lookup in
    let there : slice_get c.args.self.now.objects.now c.args.self.now.taken ≡ Some c.in-Some.object.now =
    slice_get_read c.args.self.now.objects.now (length c.args.self.now.objects.now) c.args.self.now.taken c.in-Some.object.now refl read.3.0 read.1 in
    let path = path_is c.tree-tree.result.now c.args.book.now.state.tree c.root_of.result c.args.domain c.in_ok-path.path c.tree-tree.ensures c.root_of.ensures.node c.in_ok-path.ensures.path in
    let fails = rw c.in-Err-Fails.field-0-is at c.in-Err-Fails.ensures.fails in
    objects_as c.refused-in-Err-Fails.result _ _ c.refused-in-Err-Fails.ensures
    (fails_there c.args.book.now.platform c.args.book.now.state c.args.domain c.args.self.now.objects.now c.args.self.now.taken c.in-Some.object.now _ _ there path (cc (c.in-Err-Fails.no-is)) fails)
