use Rattle.std.proofs.Common.{refl}
use Rattle.std.proofs.lemmas.Result.{err_from_is_err_and}
use Rattle.serde_json.specs.View.{view}
use Rattle.sysmem_counts.specs.declared.field.Field.TheVariants as field
use Rattle.record_reading.specs.declared.fault.Code.TheVariants as code
use Rattle.record_reading.specs.Reading.Fields.{stated}
use Rattle.record_reading.proofs.Platforms.{heaps_of-are, pairs_of-are, colours_of-are, is_stated}
use Rattle.record_reading.proofs.Refusals.{later-pairs, later-colours}
use Rattle.record_reading.proofs.Steps.{bind-ok}
use Rattle.record_reading.proofs.reading.platform.platform_of.Goals as goal

pub new-requires : goal.new-requires
new-requires c =
    let (hs, _, heaps) = bind-ok (stated code.WrongKind field.Heaps (view c.args.object.now)) _ c.in_ok-heaps.heaps.items c.in_ok-heaps.ensures in
    let (ps, _, pairs) = bind-ok (stated code.WrongKind field.Pairs (view c.args.object.now)) _ c.in_ok-pairs.pairs.items c.in_ok-pairs.ensures in
    let (cs, _, colours) = bind-ok (stated code.WrongKind field.ColorSpaces (view c.args.object.now)) _ c.in_ok-colours.colours.items c.in_ok-colours.ensures in
    (is_stated (record { heaps = _; pairs = _; colours = _ }) (heaps_of-are hs _ heaps) (pairs_of-are ps _ pairs) (colours_of-are cs _ colours)).platform

pub returns-in_err-pairs : goal.returns-in_err-pairs
returns-in_err-pairs c =
    let p = err_from_is_err_and c.from_residual-in_err-pairs.result c.from_residual-in_err-pairs.ensures.1 in
    rw (p.1, p.2) (later-pairs (view c.args.object.now) _ c.in_ok-heaps.heaps.items _ c.in_ok-expect_object.ensures c.in_ok-heaps.ensures (rw c.in_err-pairs.ensures refl))

pub returns-in_err-colours : goal.returns-in_err-colours
returns-in_err-colours c =
    let p = err_from_is_err_and c.from_residual-in_err-colours.result c.from_residual-in_err-colours.ensures.1 in
    rw (p.1, p.2) (later-pairs (view c.args.object.now) _ c.in_ok-heaps.heaps.items _ c.in_ok-expect_object.ensures c.in_ok-heaps.ensures
    (later-colours (view c.args.object.now) c.in_ok-heaps.heaps.items c.in_ok-pairs.pairs.items _ c.in_ok-pairs.ensures c.in_err-colours.ensures))
