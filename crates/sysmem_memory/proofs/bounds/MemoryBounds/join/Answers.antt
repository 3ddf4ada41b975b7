use Rattle.sysmem_memory.proofs.Joined.{left_by_both}
use Rattle.sysmem_memory.proofs.bounds.MemoryBounds.join.Goals as goal

pub returns : goal.returns
returns c ps qs stands others =
    left_by_both c.args.self.now c.args.more.now _ c.args.heaps.now ps qs c.both-self.ensures c.both-self-2.ensures c.both-self-3.ensures stands others
