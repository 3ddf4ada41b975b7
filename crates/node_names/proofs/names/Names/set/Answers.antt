-- The names are names afterwards.
use Rattle.std.proofs.Common.{◌≡◌, subst, sym, true, false}
use Rattle.node_names.specs.Names.{AreNames, is_name, is_taken}
use Rattle.node_names.proofs.Kept.{are_names}
use Rattle.node_names.proofs.names.Names.set.Goals as goal

pub invariant_of-self-2 : goal.invariant_of-self-2
invariant_of-self-2 c =
    let is : is_name c.args.name.now ≡ true = cc (c.is_name.ensures, c.if-not-is_name.false) in
    let free : is_taken c.self.inside.nodes.items c.args.node c.args.name.now ≡ false = cc (c.is_taken.ensures, c.if-is_taken.false, c.deref.ensures.value) in
    subst AreNames (sym c.in_ok-put_name.ensures.named) (are_names c.self.inside.nodes.items c.args.node c.args.name.now c.self.invariant is free)
