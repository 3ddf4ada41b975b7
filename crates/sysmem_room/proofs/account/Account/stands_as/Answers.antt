use Rattle.std.proofs.Common.{◌≡◌, ◌==◌, ◌∙◌, ap, rules, slice_get, sym, tests}
use Rattle.std.specs.Cmp.{booleans_Decides}
use Rattle.sysmem_room.specs.Log.{LogFacts, shown_by}
use Rattle.sysmem_room.proofs.Owning.{as_logged, as_rooted, rooted_as}
use Rattle.sysmem_room.proofs.account.Account.stands_as.Goals as goal

pub returns : goal.returns
returns c =
    let same : c.state.result ≡ (shown_by c.args.self.now).state = search (rules, tests) in
    let own : c.self.inside.is_domain_root ≡ c.args.self.now.begun.is_domain_root = ap (λ (l : LogFacts). l.begun.is_domain_root) c.self.view_is in
    let found : c.eq-is_root.result ≡ (c.domain_of.result == c.args.node) = search (rules, tests) in (
      λ is. record {
        state = as_logged (slice_get c.args.tree.now.nodes c.args.node) c.state.result (shown_by c.args.self.now).state c.state.ensures same;
        root =
            as_rooted (slice_get c.args.tree.now.nodes c.args.node) c.domain_of.result c.args.node c.args.self.now.begun.is_domain_root c.domain_of.ensures.domain
            (sym found ∙ ((booleans_Decides c.eq-is_root.result c.self.inside.is_domain_root).0 is ∙ own));
      },
      λ stands.
          let rooted = rooted_as c.args.tree.now.nodes c.args.self.now c.args.node c.domain_of.result c.requires c.domain_of.ensures.domain stands in
          (booleans_Decides c.eq-is_root.result c.self.inside.is_domain_root).1 (found ∙ (rooted ∙ sym own)),
    )
