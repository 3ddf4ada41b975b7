-- One path more is counted.
use Rattle.std.proofs.Common.{◌≡◌, ◌+◌, suc, length, take, ap, arith}
use Rattle.verdict_claims.specs.PathList.{numbers_of}
use Rattle.verdict_claims.proofs.PathLists.{numbers_front, numbers_next}
use Rattle.verdict_claims.proofs.path_list.room_left.Goals as goal

pub loop-path-preserved : goal.loop-path-preserved
loop-path-preserved c =
    let next : length (numbers_of (take (c.loop-path.path-index + 1) c.args.paths.now)) ≡ length (numbers_of (take c.loop-path.path-index c.args.paths.now)) + suc (length c.path-item.result) =
    numbers_next c.args.paths.now c.loop-path.path-index c.path-item.result c.loop-path-test.true c.path-item.is in
    let so_far : length (numbers_of (take c.loop-path.path-index c.args.paths.now)) + c.loop-path.left ≡ c.args.room = c.loop-path.invariant in
    let many : length c.ordinals-many.result.now ≡ length c.path-item.result = ap length c.ordinals-many.ensures in
    omega (arith, next, so_far, many, c.if-many-left.false)

pub returns-then-many-left-clause-none : goal.returns-then-many-left-clause-none
returns-then-many-left-clause-none c =
    let next : length (numbers_of (take (c.loop-path.path-index + 1) c.args.paths.now)) ≡ length (numbers_of (take c.loop-path.path-index c.args.paths.now)) + suc (length c.path-item.result) =
    numbers_next c.args.paths.now c.loop-path.path-index c.path-item.result c.loop-path-test.true c.path-item.is in
    let so_far : length (numbers_of (take c.loop-path.path-index c.args.paths.now)) + c.loop-path.left ≡ c.args.room = c.loop-path.invariant in
    let many : length c.ordinals-many.result.now ≡ length c.path-item.result = ap length c.ordinals-many.ensures in
    omega (arith, next, so_far, many, numbers_front c.args.paths.now (c.loop-path.path-index + 1), c.if-many-left.true)
