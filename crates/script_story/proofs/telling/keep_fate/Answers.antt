use Rattle.std.proofs.Common.{◌≡◌, ◌∙◌, Some, IfSome, ap, refl, slice_get, sym, subst}
use Rattle.std.proofs.lemmas.List.Elements.{All-set}
use Rattle.std.proofs.lemmas.Option.{slice_get_read}
use Rattle.script_replay.specs.Events.{fate_seen}
use Rattle.script_story.specs.Paths.{path_at}
use Rattle.script_story.specs.Told.{IsTold}
use Rattle.script_story.specs.declared.story.Domain.{Domain}
use Rattle.script_story.proofs.Keeping.{told_as}
use Rattle.script_story.proofs.telling.keep_fate.Goals as goal

pub returns : goal.returns
returns c =
    let domains = c.args.story.now.domains.items in
    let nodes = c.args.story.now.nodes.items in
    let path = c.deref.result.now in
    let old = c.in-Some-get.domain.now in
    let found = c.in-Some-get.ensures.lookup in
    let at : slice_get domains c.in-Some.index ≡ Some old =
    ap (λ l. slice_get l c.in-Some.index) (sym c.deref-2.ensures.value)
    ∙ slice_get_read c.deref-2.result.now _ c.in-Some.index old refl found.3.0 found.1 in
    let on : IfSome (Some old) (λ (d : Domain). path ≡ path_at nodes d.root) =
    subst (λ o. IfSome o (λ (d : Domain). path ≡ path_at nodes d.root)) at c.in-Some.ensures in
    λ events has told. All-set (IsTold c.args.platform.now events nodes) domains c.in-Some.index _
    (told_as c.args.platform.now events nodes old c.with_fate-next.result c.args.one.now.path path (fate_seen c.args.one.now.fate) c.in_ok-told.told (c.deref.ensures ∙ c.in_ok-path.ensures) on
    c.in_ok-told.ensures.fate c.in_ok-told.ensures.said c.with_fate-next.ensures.root c.with_fate-next.ensures.told c.with_fate-next.ensures.became has) told
