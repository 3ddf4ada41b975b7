-- What each entry keeps, entries keep that follow one another.
use Rattle.std.proofs.Common.{◌≡◌, List, [], ◌∷◌, ◌++◌, sym, subst, append-nil}
use Rattle.std.proofs.lemmas.List.{append_assoc}
use Rattle.std.specs.List.{AllByRecursion}
use Rattle.negotiation_inputs.specs.Platform.{PlatformFacts}
use Rattle.sysmem_alloc.specs.Entry.{BookEntry}
use Rattle.sysmem_alloc.specs.History.{after_entry, replay_from, replay, Allows, AreAllowed, IsLegal}
use Rattle.sysmem_alloc.specs.State.{State, first_state}

-- of entries that are allowed, those in front are, and those behind are after them
pub allowed_split : (platform : PlatformFacts) (s : State) (es fs : List BookEntry) → AreAllowed platform s (es ++ fs) → AreAllowed platform s es × AreAllowed platform (replay_from s es) fs
allowed_split platform s [] fs all = (tt, all)
allowed_split platform s (e ∷ es) fs all = let (front, behind) = allowed_split platform (after_entry s e) es fs all.1 in ((all.0, front), behind)

-- what each allowed entry of a kind keeps, any number of them keep
pub all_keep : (platform : PlatformFacts) (Q : BookEntry → Type 0) (P : List BookEntry → Type 0)
    → ((es : List BookEntry) (e : BookEntry) → IsLegal platform es → Allows platform (replay es) e → Q e → P es → P (es ++ e ∷ []))
    → (es fs : List BookEntry) → IsLegal platform (es ++ fs) → AllByRecursion Q fs → P es → P (es ++ fs)
all_keep platform Q P step es [] legal all now = subst P (sym (append-nil es)) now
all_keep platform Q P step es (e ∷ fs) legal all now =
    let (front, behind) = allowed_split platform first_state es (e ∷ fs) legal in
    let same : (es ++ e ∷ []) ++ fs ≡ es ++ (e ∷ fs) = append_assoc es (e ∷ []) fs in
    subst P same (all_keep platform Q P step (es ++ e ∷ []) fs (subst (IsLegal platform) (sym same) legal) all.1 (step es e front behind.0 all.0 now))
