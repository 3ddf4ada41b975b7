use Rattle.std.proofs.Common.{◌<◌}
use Rattle.sysmem_tree.proofs.domains.Sweeping.{host_below, if_map}
use Rattle.sysmem_tree.proofs.sweep.has_failed.Goals as goal

pub fails_with-requires : goal.fails_with-requires
fails_with-requires c = if_map (λ one. one.now) (λ h. h.domain < 128) c.host_of.result _ c.host_of.ensures (host_below c.args.nodes.now c.requires c.args.one.root)
