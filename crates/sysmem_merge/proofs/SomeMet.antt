-- What meets participants meets some of them.
use Rattle.list_lemmas.proofs.CallerLemmas.{All-some, some_map}
use Rattle.sysmem_counts.proofs.CallerLemmas.{counted_some}
use Rattle.sysmem_merge.specs.Demands.{counts_asked}
use Rattle.sysmem_merge.specs.Laws.{SomeAreMet, UnmetBySome}
use Rattle.sysmem_merge.specs.Settings.{Covers}
use Rattle.sysmem_merge.proofs.Together.{loosely}

pub some_met : SomeAreMet
some_met platform some all t among m = record {
  heap = m.heap;
  sound = m.sound;
  covers = All-some (Covers m.heap t) some all among m.covers;
  counted = counted_some (counts_asked some) (counts_asked all) t.count (some_map (λ p. p.counts) some all among) m.counted;
}

-- where no settings meet some of the participants, none meet all of them
pub unmet_by_some : UnmetBySome
unmet_by_some whole platform some all among none t meets = none t (some_met platform some all t among (loosely whole platform all t meets))
