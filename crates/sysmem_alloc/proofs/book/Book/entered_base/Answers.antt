-- See Keeping.antt and Apart.antt.
use Rattle.std.proofs.Common.{sym, ◌∙◌, subst}
use Rattle.std.specs.Prelude.{All, map}
use Rattle.std.specs.List.{filter_map}
use Rattle.sysmem_tree.specs.Nodes.{HasNode}
use Rattle.sysmem_alloc.specs.Decision.{DomainVerdict}
use Rattle.sysmem_alloc.specs.Entry.{decision_in}
use Rattle.sysmem_alloc.specs.Sound.{AreDistinct}
use Rattle.sysmem_alloc.proofs.Apart.{entered_once}
use Rattle.sysmem_alloc.proofs.Keeping.{chosen_there}
use Rattle.sysmem_alloc.proofs.book.Book.entered_base.Goals as goal

pub accepted_in-requires : goal.accepted_in-requires
accepted_in-requires c = subst (All (HasNode c.self.inside.tree.nodes)) (sym (c.deref-2.ensures.value ∙ c.self.invariant.6)) (chosen_there c.legal_is_sound.ensures c.members_stand_once.ensures _ c.self.invariant.0)

pub settings_for-requires : goal.settings_for-requires
settings_for-requires c = subst (λ h. AreDistinct (map (λ (d : DomainVerdict). d.domain) (filter_map decision_in h))) (sym c.deref.ensures.value) (entered_once c.legal_agrees.ensures _ c.self.invariant.0)
