use Rattle.std.proofs.Common.{◌≡◌, ◌∙◌, ap, rules, sym}
use Rattle.std.specs.Prelude.{option_map}
use Rattle.sysmem_alloc.specs.Frozen.{frozen_of}
use Rattle.sysmem_participants.proofs.Ruled.{none_next}
use Rattle.sysmem_participants.proofs.deciding.next_of.Goals as goal

pub returns-clause-none : goal.returns-clause-none
returns-clause-none g c = λ none.
    let frozen : option_map (λ next. next.0) c.frozen-frozen.result ≡ frozen_of c.seen-seen.result = search rules in
    none_next c.seen-seen.result (sym frozen ∙ ap (option_map (λ next. next.0)) none)
