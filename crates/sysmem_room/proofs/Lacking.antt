-- One more decision to which memory was refused.
use Rattle.std.proofs.Common.{◌≡◌, ◌≤◌, ◌+◌, ℕ, List, [], ◌∷◌, ◌++◌, None, length, length-append, arith, refl, sym, ◌∙◌, ap}
use Rattle.sysmem_alloc.specs.Book.{BookFacts, entered}
use Rattle.sysmem_alloc.specs.Entry.{Decided}
use Rattle.sysmem_room.specs.Lacking.{without_memory}

pub one_more : (b : BookFacts) (rs : List ℕ) (r : ℕ) → without_memory b (rs ++ r ∷ []) ≡ entered (without_memory b rs) (Decided (record { domain = r; claim = None }))
one_more b [] r = refl
one_more b (x ∷ rs) r = one_more (entered b (Decided (record { domain = x; claim = None }))) rs r

-- each is an entry of the history
pub longer : (b c : BookFacts) (r : ℕ) → c ≡ entered b (Decided (record { domain = r; claim = None })) → length c.history ≡ length b.history + 1
longer b c r is = ap (λ (x : BookFacts). length x.history) is ∙ length-append b.history (Decided (record { domain = r; claim = None }) ∷ [])

-- a turn enters one more
pub next_turn : (a b c : BookFacts) (r k : ℕ) → c ≡ entered b (Decided (record { domain = r; claim = None })) → (k ≤ length b.history) × ((rs : List ℕ) × (b ≡ without_memory a rs))
    → (k + 1 ≤ length c.history) × ((rs : List ℕ) × (c ≡ without_memory a rs))
next_turn a b c r k is (many, (rs, lacking)) =
    let more = longer b c r is in
    (omega (arith, many, more), (rs ++ r ∷ [], is ∙ (ap (λ x. entered x (Decided (record { domain = r; claim = None }))) lacking ∙ sym (one_more a rs r))))
