-- A copy of the parts of a collection is one of the collection.
use Rattle.std.proofs.Common.{◌≡◌, ◌∙◌, List, ap, map, subst, sym}
use Rattle.book_events.specs.declared.entry.Entry.{Entry}
use Rattle.node_names.specs.Names.{NamedNode}
use Rattle.sysmem_alloc.specs.Book.{BookFacts, IsBook}
use Rattle.sysmem_alloc.specs.Entry.{entry_in}
use Rattle.sysmem_alloc.specs.History.{IsLegal, replay}
use Rattle.sysmem_alloc.specs.State.{State}
use Rattle.negotiation_inputs.specs.Platform.{PlatformFacts}
use Rattle.sysmem_tree.specs.Domain.{TreeFacts}
use Rattle.live_book.specs.Collection.{CollectionFacts}
use Rattle.live_book.specs.Snapshot.{HasLedTo, IsCopyOf, IsSettledPart, IsSnapshot}

pub settled_copy : (b : BookFacts) (p : PlatformFacts) (t : TreeFacts) (raw : List Entry) → IsBook b → p ≡ b.platform → t ≡ b.state.tree → IsSettledPart b (map (entry_in b.state.tree.nodes) raw)
    → IsSnapshot p t (map (entry_in t.nodes) raw)
settled_copy b p t raw book platform tree part =
    let es = map (entry_in b.state.tree.nodes) raw in
    let led : HasLedTo b.platform es b.state.tree = record { later = part.later; legal = subst (IsLegal b.platform) part.split book.legal; is = ap (λ (s : State). s.tree) book.replayed ∙ ap (λ xs. (replay xs).tree) part.split } in
    subst (λ (q : PlatformFacts). IsSnapshot q t (map (entry_in t.nodes) raw)) (sym platform)
    (subst (λ (x : TreeFacts). IsSnapshot b.platform x (map (entry_in x.nodes) raw)) (sym tree) (record { settled = part.settled; led = led }))

pub is_copy : (c : CollectionFacts) (b : BookFacts) (p : PlatformFacts) (t : TreeFacts) (raw : List Entry) (n : List NamedNode) → b ≡ c.book → p ≡ b.platform → t ≡ b.state.tree → n ≡ c.names
    → IsSettledPart b (map (entry_in b.state.tree.nodes) raw) → IsCopyOf c (record { platform = p; tree = t; history = map (entry_in t.nodes) raw; names = n })
is_copy c b p t raw n is platform tree names part = record {
  platform = platform ∙ ap (λ (x : BookFacts). x.platform) is;
  tree = tree ∙ ap (λ (x : BookFacts). x.state.tree) is;
  names = names;
  part = subst (λ (x : BookFacts). IsSettledPart x (map (entry_in t.nodes) raw)) is (subst (λ (x : TreeFacts). IsSettledPart b (map (entry_in x.nodes) raw)) (sym tree) part);
}
