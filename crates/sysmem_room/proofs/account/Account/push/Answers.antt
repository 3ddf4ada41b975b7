use Rattle.std.proofs.Common.{◌≡◌, ◌∙◌, ap, subst, sym, arith, ◌≤◌, ◌+◌, length, rules}
use Rattle.std.proofs.lemmas.List.{length-map}
use Rattle.sysmem_tree.specs.ActionKind.{deed_of, kind_of}
use Rattle.sysmem_tree.specs.declared.state.NodeState.{NodeState}
use Rattle.sysmem_tree.specs.Table.{state_after}
use Rattle.sysmem_room.specs.Log.{LogFacts, begun_as}
use Rattle.sysmem_room.proofs.Logs.{before_push, goes_on, state_push}
use Rattle.sysmem_room.proofs.account.Account.push.Goals as goal

pub invariant_of-self : goal.invariant_of-self
invariant_of-self c =
    let (_, was, before) = c.self.invariant in
    let whole : c.len.result ≡ length c.push_reserved.new.self.items = search rules in
    let many = length-map c.self.inside.actions.items deed_of in
    let state : c.act.new.self ≡ state_after (kind_of (deed_of c.args.action)) c.self.inside.state = c.act.ensures ∙ ap (λ k. state_after k c.self.inside.state) c.kind-kind.ensures in (
      (λ opened.
          let stays = goes_on (kind_of (deed_of c.args.action)) c.self.inside.state (ap (λ (s : NodeState). s.is_open) (sym state) ∙ opened) in
          let room = subst (λ (l : LogFacts). length l.deeds + 2 ≤ l.places) (sym c.self.view_is) (c.requires.room stays) in
          omega (arith, room, many, c.push_reserved.ensures.len, c.push_reserved.ensures.capacity)),
      state_push (begun_as c.self.inside.begun c.self.inside.is_domain_root) c.self.inside.actions.items c.push_reserved.new.self.items c.args.action c.self.inside.state c.act.new.self
          c.push_reserved.ensures.items was state,
      before_push c.self.inside.actions.items c.push_reserved.new.self.items c.args.action c.self.inside.others c.others_after-others.result c.push_reserved.ensures.items
          (λ is. c.others_after-others.ensures.again (c.kind-kind.ensures ∙ is)) (λ is. c.others_after-others.ensures.other (λ same. is (sym c.kind-kind.ensures ∙ same)) ∙ whole) before,
    )
