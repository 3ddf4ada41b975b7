-- A root alone has no node below a child.
use Rattle.std.proofs.Common.{◌≡◌, replicate, rules, subst, sym}
use Rattle.sysmem_alloc.specs.Book.{BookFacts, new_book}
use Rattle.node_limits.specs.Limits.{AreCounted}
use Rattle.node_limits.proofs.CallerLemmas.{first_counted}
use Rattle.sysmem_room.proofs.room.Room.open.Goals as goal

pub invariant_of-room : goal.invariant_of-room
invariant_of-room g c =
    let book : c.in_ok-book.book ≡ new_book c.args.platform = search rules in (
      search rules,
      search rules,
      search rules,
      search rules,
      search rules,
      search rules,
      search rules,
      subst (AreCounted c.in_ok-book.book.state.tree.nodes) (sym c.new-7.ensures) (subst (λ (b : BookFacts). AreCounted b.state.tree.nodes (replicate 128 0)) (sym book) first_counted),
    )
