-- Decisions to which memory was refused.
use Rattle.std.specs.Prelude.{ℕ, List, [], ◌∷◌, None}
use Rattle.sysmem_alloc.specs.Book.{BookFacts, entered}
use Rattle.sysmem_alloc.specs.Entry.{Decided}

-- a book after memory was refused to the decisions of these domains, one after the other
abbrev pub without_memory : BookFacts → List ℕ → BookFacts
without_memory b [] = b
without_memory b (r ∷ rs) =
    without_memory (entered b (Decided (record { domain = r; claim = None }))) rs
