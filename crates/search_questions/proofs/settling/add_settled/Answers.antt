-- One node more of the walk.
use Rattle.std.proofs.Common.{◌≡◌, [], ◌∷◌, ◌++◌, length, slice_get, length-append, refl, sym, ◌∙◌, ap, subst, arith}
use Rattle.std.specs.List.{cons_option}
use Rattle.std.specs.Prelude.{IfSome, option_map}
use Rattle.std.proofs.lemmas.List.Elements.{filter_map-append}
use Rattle.search_questions.specs.Kept.{IsPartFor}
use Rattle.verdict_claims.specs.Asked.{asks_at, asked_in}
use Rattle.search_questions.proofs.Keeping.{has_room}
use Rattle.search_questions.proofs.Taking.{told, few_asked_of}
use Rattle.search_questions.proofs.Walking.{take_one}
use Rattle.sysmem_tree.proofs.CallerLemmas.{gives_same}
use Rattle.search_questions.proofs.settling.add_settled.Goals as goal

pub loop-step-init : goal.loop-step-init
loop-step-init c = (
  [],
  omega arith,
  c.requires.none,
  λ ns has.
      let (ms, has', few) = c.requires.few in
      let same = ap length (gives_same c.args.layout.now.places c.args.walk.end ms ns c.args.walk.at has' has) in
      record { rest = ns; same = refl; left = has; few = omega (arith, few, same) },
)

pub add_asked-requires : goal.add_asked-requires
add_asked-requires c =
    let (taken, few, is, walk) = c.loop-step.invariant in
    let m = c.args.subject.now in
    has_room m.platform m.base c.loop-step.part (asked_in m.nodes taken) is (omega (arith, few_asked_of m.nodes taken, few, c.loop-step-test.true))

pub loop-step-preserved : goal.loop-step-preserved
loop-step-preserved c =
    let (taken, few, is, walk) = c.loop-step.invariant in
    let m = c.args.subject.now in
    let nodes = m.nodes in
    let node = c.in-Some.node in
    let asked = told nodes node _ (c.in-Some.ensures.there nodes c.requires.there) (subst (λ xs. IfSome (slice_get xs node) (λ n. option_map (λ asked. asked.now) c.constraints_of.result ≡ n.constraints)) c.tree-tree.ensures c.constraints_of.ensures) in
    let more : asked_in nodes (taken ++ node ∷ []) ≡ asked_in nodes taken ++ cons_option (asks_at nodes node) [] = filter_map-append (asks_at nodes) taken (node ∷ []) in (
      taken ++ node ∷ [],
      omega (arith, few, length-append taken (node ∷ [])),
      subst (IsPartFor m c.add_asked.new.part) (ap (λ o. asked_in nodes taken ++ cons_option o []) asked ∙ sym more) (c.add_asked.ensures (asked_in nodes taken) is),
      λ ns has. take_one c.args.layout.now [] taken c.loop-step.left c.next_settled.new.walk c.next_settled.result node c.loop-step._step ns (walk ns has) c.next_settled.ensures.next c.in-Some.is,
    )
