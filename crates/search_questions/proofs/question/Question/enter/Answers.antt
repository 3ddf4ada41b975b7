-- One choice more: what its child settles is kept, and the level below is joined.
use Rattle.std.proofs.Common.{◌≡◌, ◌∷◌, ◌++◌, [], Some, is_some, refl, sym, ◌∙◌, ap, subst, arith}
use Rattle.std.proofs.lemmas.Option.{same_Some, none-some, slice_get_within}
use Rattle.verdict_claims.specs.Matter.{forest}
use Rattle.search_questions.specs.Standing.{numbers}
use Rattle.search_questions.proofs.AskedMembers.{root_there, numbers_left}
use Rattle.search_questions.proofs.Entering.{at_index, level_at, level_within, more_kept, entered, share_few, room_for}
use Rattle.search_questions.proofs.Shapes.{prefix_of_numbers, few_settled}
use Rattle.sysmem_tree.specs.OpenGroups.{IsFirstOpen, share_of}
use Rattle.sysmem_tree.specs.Selection.{IsPrefix}
use Rattle.search_questions.proofs.question.Question.enter.Goals as goal
use Rattle.sysmem_tree.proofs.CallerLemmas.{some_open}

pub index-requires : goal.index-requires
index-requires c =
    let m = c.self.inside.subject.now in
    let within = level_within m c.self.inside.layout c.self.inside.parts.items c.self.inside.levels.items c.choices-depth.result.now c.self.inside.prefix c.choices-depth.ensures c.self.invariant.0 in
    omega (arith, within, c.self.inside.levels.ok)

pub returns-in_default : goal.returns-in_default
returns-in_default c =
    let m = c.self.inside.subject.now in
    let cs = c.self.inside.prefix in
    let keeps = c.self.invariant.0 in
    let level = level_at m c.self.inside.layout c.self.inside.parts.items c.self.inside.levels.items c.choices-depth.result.now cs c.index.result.now c.choices-depth.ensures keeps c.index.ensures in
    let shape_prefix = subst (λ s. IsPrefix (forest s.matter) (s.choices ++ c.args.choice ∷ [])) (sym c.self.view_is) c.requires.prefix in
    let prefix = prefix_of_numbers m.nodes m.domain (cs ++ c.args.choice ∷ []) shape_prefix in
    absurd (some_open c.self.inside.layout (numbers m) cs c.args.choice c.none_open_is_selection.ensures prefix (subst (IsFirstOpen c.self.inside.layout (numbers m) cs) c.in_default.is level.group))

pub child_at-child-requires : goal.child_at-child-requires
child_at-child-requires c =
    let m = c.self.inside.subject.now in
    let cs = c.self.inside.prefix in
    let keeps = c.self.invariant.0 in
    let level = level_at m c.self.inside.layout c.self.inside.parts.items c.self.inside.levels.items c.choices-depth.result.now cs c.index.result.now c.choices-depth.ensures keeps c.index.ensures in
    let shape_prefix = subst (λ s. IsPrefix (forest s.matter) (s.choices ++ c.args.choice ∷ [])) (sym c.self.view_is) c.requires.prefix in
    let prefix = prefix_of_numbers m.nodes m.domain (cs ++ c.args.choice ∷ []) shape_prefix in
    let first = subst (IsFirstOpen c.self.inside.layout (numbers m) cs) c.in-Some.is level.group in
    (numbers m, cs, first, prefix)

pub keep_part-requires-clause-few : goal.keep_part-requires-clause-few
keep_part-requires-clause-few c =
    let m = c.self.inside.subject.now in
    let cs = c.self.inside.prefix in
    let keeps = c.self.invariant.0 in
    let level = level_at m c.self.inside.layout c.self.inside.parts.items c.self.inside.levels.items c.choices-depth.result.now cs c.index.result.now c.choices-depth.ensures keeps c.index.ensures in
    let shape_prefix = subst (λ s. IsPrefix (forest s.matter) (s.choices ++ c.args.choice ∷ [])) (sym c.self.view_is) c.requires.prefix in
    let prefix = prefix_of_numbers m.nodes m.domain (cs ++ c.args.choice ∷ []) shape_prefix in
    let first = subst (IsFirstOpen c.self.inside.layout (numbers m) cs) c.in-Some.is level.group in
    let child = c.child_at-child.ensures.child (numbers m) cs first prefix in
    let root = root_there m.nodes m.domain c.self.invariant.0.given.domain in
    let here = numbers_left m.nodes m.domain cs c.self.invariant.0.given.tree root (ap is_some level.leads) in
    let few = share_few c.self.inside.layout (numbers m) cs c.args.choice c.child_at-child.result c.choice_settles_share.ensures child here
    (λ xs e leads. few_settled m.nodes m.domain xs e c.self.invariant.0.given.tree root leads) in
    few

pub invariant_of-self : goal.invariant_of-self
invariant_of-self c =
    let m = c.self.inside.subject.now in
    let keeps = c.self.invariant.0 in (
      more_kept m c.self.inside.layout c.self.inside.parts.items c.keep_part.new.parts.items c.self.inside.levels.items c.self.inside.levels.items c.choices-depth.result.now c.self.inside.prefix c.choices-depth.ensures
          keeps (c.keep_part.ensures.parts keeps.shares) c.keep_part.ensures.filled (λ k within. refl) keeps.made,
      c.self.invariant.1,
    )

pub reserve_level-requires-clause-there : goal.reserve_level-requires-clause-there
reserve_level-requires-clause-there c =
    let m = c.self.inside.subject.now in
    level_within m c.self.inside.layout c.self.inside.parts.items c.self.inside.levels.items c.choices-depth.result.now c.self.inside.prefix c.choices-depth.ensures c.self.invariant.0

pub invariant_of-self-in_err-reserve_level : goal.invariant_of-self-in_err-reserve_level
invariant_of-self-in_err-reserve_level c =
    let m = c.self.inside.subject.now in
    let keeps = c.self.invariant.0 in (
      more_kept m c.self.inside.layout c.self.inside.parts.items c.keep_part.new.parts.items c.self.inside.levels.items c.reserve_level.new.levels.items c.choices-depth.result.now c.self.inside.prefix c.choices-depth.ensures
          keeps (c.keep_part.ensures.parts keeps.shares) c.keep_part.ensures.filled c.reserve_level.ensures.kept (c.reserve_level.ensures.made keeps.made),
      c.self.invariant.1,
    )

pub invariant_of-self-in_default-index : goal.invariant_of-self-in_default-index
invariant_of-self-in_default-index c =
    let m = c.self.inside.subject.now in
    let keeps = c.self.invariant.0 in (
      more_kept m c.self.inside.layout c.self.inside.parts.items c.keep_part.new.parts.items c.self.inside.levels.items c.reserve_level.new.levels.items c.choices-depth.result.now c.self.inside.prefix c.choices-depth.ensures
          keeps (c.keep_part.ensures.parts keeps.shares) c.keep_part.ensures.filled c.reserve_level.ensures.kept (c.reserve_level.ensures.made keeps.made),
      c.self.invariant.1,
    )

pub index-requires-2 : goal.index-requires-2
index-requires-2 c =
    let (kept, kept_is) = c.in_ok-keep_part.ensures.there c.slot_of-slot.result c.slot_of-slot.ensures in
    let within = slice_get_within c.keep_part.new.parts.items c.slot_of-slot.result (Some kept) kept_is in
    omega (arith, within, c.keep_part.new.parts.ok)

pub returns-in_default-index : goal.returns-in_default-index
returns-in_default-index c =
    let (kept, kept_is) = c.in_ok-keep_part.ensures.there c.slot_of-slot.result c.slot_of-slot.ensures in
    let read = at_index c.keep_part.new.parts.items c.slot_of-slot.result c.index-2.result.now c.index-2.ensures (slice_get_within c.keep_part.new.parts.items c.slot_of-slot.result (Some kept) kept_is) in
    let same : Some kept ≡ c.index-2.result.now = same_Some (Some kept) c.index-2.result.now (sym kept_is ∙ read) in
    absurd (none-some kept (sym c.in_default-index.is ∙ sym same))

pub open_after-next-requires : goal.open_after-next-requires
open_after-next-requires c =
    let m = c.self.inside.subject.now in
    let cs = c.self.inside.prefix in
    let keeps = c.self.invariant.0 in
    let level = level_at m c.self.inside.layout c.self.inside.parts.items c.self.inside.levels.items c.choices-depth.result.now cs c.index.result.now c.choices-depth.ensures keeps c.index.ensures in
    let shape_prefix = subst (λ s. IsPrefix (forest s.matter) (s.choices ++ c.args.choice ∷ [])) (sym c.self.view_is) c.requires.prefix in
    let prefix = prefix_of_numbers m.nodes m.domain (cs ++ c.args.choice ∷ []) shape_prefix in
    let first = subst (IsFirstOpen c.self.inside.layout (numbers m) cs) c.in-Some.is level.group in
    let child = c.child_at-child.ensures.child (numbers m) cs first prefix in
    (numbers m, cs, c.args.choice, child)

pub join_level-requires-clause-room : goal.join_level-requires-clause-room
join_level-requires-clause-room c =
    let m = c.self.inside.subject.now in
    let cs = c.self.inside.prefix in
    let keeps = c.self.invariant.0 in
    let level = level_at m c.self.inside.layout c.self.inside.parts.items c.self.inside.levels.items c.choices-depth.result.now cs c.index.result.now c.choices-depth.ensures keeps c.index.ensures in
    let shape_prefix = subst (λ s. IsPrefix (forest s.matter) (s.choices ++ c.args.choice ∷ [])) (sym c.self.view_is) c.requires.prefix in
    let prefix = prefix_of_numbers m.nodes m.domain (cs ++ c.args.choice ∷ []) shape_prefix in
    let first = subst (IsFirstOpen c.self.inside.layout (numbers m) cs) c.in-Some.is level.group in
    let child = c.child_at-child.ensures.child (numbers m) cs first prefix in
    let root = root_there m.nodes m.domain c.self.invariant.0.given.domain in
    let here = numbers_left m.nodes m.domain cs c.self.invariant.0.given.tree root (ap is_some level.leads) in
    let few = share_few c.self.inside.layout (numbers m) cs c.args.choice c.child_at-child.result c.choice_settles_share.ensures child here
    (λ xs e leads. few_settled m.nodes m.domain xs e c.self.invariant.0.given.tree root leads) in
    let (kept, kept_is) = c.in_ok-keep_part.ensures.there c.slot_of-slot.result c.slot_of-slot.ensures in
    let read = at_index c.keep_part.new.parts.items c.slot_of-slot.result c.index-2.result.now c.index-2.ensures (slice_get_within c.keep_part.new.parts.items c.slot_of-slot.result (Some kept) kept_is) in
    let same : Some kept ≡ c.index-2.result.now = same_Some (Some kept) c.index-2.result.now (sym kept_is ∙ read) in
    λ above above_is. room_for m c.self.inside.layout c.self.inside.parts.items c.self.inside.levels.items c.reserve_level.new.levels.items c.choices-depth.result.now cs above c.in-Some-index.part
    (share_of c.self.inside.layout c.child_at-child.result) c.choices-depth.ensures keeps c.reserve_level.ensures.kept above_is
    (c.keep_part.ensures.parts keeps.shares c.child_at-child.result c.slot_of-slot.result c.in-Some-index.part c.slot_of-slot.ensures (kept_is ∙ ap Some (same ∙ c.in-Some-index.is))) few

pub invariant_of-self-2 : goal.invariant_of-self-2
invariant_of-self-2 c =
    let m = c.self.inside.subject.now in
    let cs = c.self.inside.prefix in
    let keeps = c.self.invariant.0 in
    let level = level_at m c.self.inside.layout c.self.inside.parts.items c.self.inside.levels.items c.choices-depth.result.now cs c.index.result.now c.choices-depth.ensures keeps c.index.ensures in
    let shape_prefix = subst (λ s. IsPrefix (forest s.matter) (s.choices ++ c.args.choice ∷ [])) (sym c.self.view_is) c.requires.prefix in
    let prefix = prefix_of_numbers m.nodes m.domain (cs ++ c.args.choice ∷ []) shape_prefix in
    let first = subst (IsFirstOpen c.self.inside.layout (numbers m) cs) c.in-Some.is level.group in
    let child = c.child_at-child.ensures.child (numbers m) cs first prefix in
    let root = root_there m.nodes m.domain c.self.invariant.0.given.domain in
    let here = numbers_left m.nodes m.domain cs c.self.invariant.0.given.tree root (ap is_some level.leads) in
    let few = share_few c.self.inside.layout (numbers m) cs c.args.choice c.child_at-child.result c.choice_settles_share.ensures child here
    (λ xs e leads. few_settled m.nodes m.domain xs e c.self.invariant.0.given.tree root leads) in
    let (kept, kept_is) = c.in_ok-keep_part.ensures.there c.slot_of-slot.result c.slot_of-slot.ensures in
    let read = at_index c.keep_part.new.parts.items c.slot_of-slot.result c.index-2.result.now c.index-2.ensures (slice_get_within c.keep_part.new.parts.items c.slot_of-slot.result (Some kept) kept_is) in
    let same : Some kept ≡ c.index-2.result.now = same_Some (Some kept) c.index-2.result.now (sym kept_is ∙ read) in (
      entered m c.self.inside.layout c.self.inside.parts.items c.keep_part.new.parts.items c.self.inside.levels.items c.reserve_level.new.levels.items c.join_level.new.levels.items cs c.push.new.self
          c.args.choice c.child_at-child.result c.slot_of-slot.result c.in-Some-index.part c.open_after-next.result c.choices-depth.result.now c.choices-depth.ensures c.push.ensures keeps
          (c.keep_part.ensures.parts keeps.shares) c.keep_part.ensures.filled c.reserve_level.ensures.kept (c.reserve_level.ensures.made keeps.made) c.in_ok-reserve_level.ensures.there c.join_level.ensures.same
          c.join_level.ensures.joined c.slot_of-slot.ensures (kept_is ∙ ap Some (same ∙ c.in-Some-index.is)) c.sums_in_any_order.ensures c.choice_settles_share.ensures child here shape_prefix
          (c.open_after-next.ensures (numbers m) cs c.args.choice child),
      c.self.invariant.1,
    )
