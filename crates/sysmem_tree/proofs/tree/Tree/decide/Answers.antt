-- What was written is a tree.
use Rattle.std.proofs.Common.{◌≡◌, length, arith}
use Rattle.sysmem_tree.proofs.steps.Acting.{all_written}
use Rattle.sysmem_tree.proofs.domains.Decisions.{root_within, none_sound, chosen_sound}
use Rattle.sysmem_tree.proofs.tree.Tree.decide.Goals as goal

pub invariant_of-self : goal.invariant_of-self
invariant_of-self c =
    let many : c.self.inside.domains.len ≡ length c.decide.new.domains = omega (arith, c.decide.auto.domains, c.deref_mut.ensures.len) in (
      none_sound _ _ c.domain.inside.0 _ c.self.invariant.0 c.self.view_is c.domain.view_is c.requires.there c.requires.ready c.requires.undecided _ c.decide.new.domains _
          c.deref_mut.ensures.value c.decide.ensures (all_written c.self.inside.domains.len c.self.inside.domains.items c.decide.new.domains many),
      c.self.invariant.1,
      c.self.invariant.2,
    )

pub members-members-requires-clause-there : goal.members-members-requires-clause-there
members-members-requires-clause-there c = root_within _ _ c.domain.inside.0 _ c.deref.result.now c.self.view_is c.domain.view_is c.requires.there c.deref.ensures.value

pub invariant_of-self-2 : goal.invariant_of-self-2
invariant_of-self-2 c =
    let many : c.self.inside.domains.len ≡ length c.decide-2.new.domains = omega (arith, c.decide-2.auto.domains, c.deref_mut-3.ensures.len) in
    let all : c.self.inside.nodes.len ≡ length c.leave_out.new.nodes = omega (arith, c.leave_out.auto.nodes, c.deref_mut-2.ensures.len) in (
      chosen_sound _ _ c.domain.inside.0 _ c.self.invariant.0 c.self.view_is c.domain.view_is c.requires.there c.requires.ready c.requires.undecided c.in-Some.chosen.now c.members-members.result
          _ _ c.leave_out.new.nodes _ _ c.decide-2.new.domains _ c.deref.ensures.value c.members-members.ensures c.deref_mut-2.ensures.value c.leave_out.ensures
          (all_written c.self.inside.nodes.len c.self.inside.nodes.items c.leave_out.new.nodes all) c.deref_mut-3.ensures.value c.decide-2.ensures
          (all_written c.self.inside.domains.len c.self.inside.domains.items c.decide-2.new.domains many),
      c.self.invariant.1,
      c.self.invariant.2,
    )
