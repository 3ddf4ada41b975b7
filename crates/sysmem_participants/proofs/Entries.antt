-- A history counted entry by entry.
use Rattle.std.proofs.Common.{◌≡◌, ℕ, zero, suc, ◌+◌, List, [], ◌∷◌, ◌++◌, Some, take, drop, length, slice_get, refl, sym, ◌∙◌, ap, map, arith}
use Rattle.std.specs.Prelude.{sum_by}
use Rattle.std.proofs.Math.Seq.{take-append_seam}
use Rattle.std.proofs.lemmas.List.Sums.{sum_by-cons}
use Rattle.std.proofs.lemmas.Option.{same_Some}
use Rattle.book_events.specs.declared.entry.Entry.{Entry}
use Rattle.sysmem_alloc.specs.Entry.{BookEntry, Acted, Decided, entry_in}
use Rattle.sysmem_tree.specs.Node.{NodeFacts}
use Rattle.sysmem_room.specs.Counting.{actions_in, weight}
use Rattle.sysmem_participants.specs.Audit.{AreRead, decisions_in}
use Rattle.sysmem_participants.specs.Held.{Left}
use Rattle.sysmem_participants.proofs.Seeing.{same_deeds}

-- the actions from an entry on are its own and those after it
pub actions_from : (nodes : List NodeFacts) (es : List Entry) (k : ℕ) (e : Entry) → slice_get es k ≡ Some e
    → actions_in (map (entry_in nodes) (drop k es)) ≡ weight (entry_in nodes e) + actions_in (map (entry_in nodes) (drop (k + 1) es))
actions_from nodes [] k e here = absurd (cc)
actions_from nodes (y ∷ ys) zero e here = ap (λ x. weight (entry_in nodes x) + actions_in (map (entry_in nodes) ys)) (same_Some y e here)
actions_from nodes (y ∷ ys) (suc k) e here =
    let more : suc (k + 1) ≡ suc k + 1 = omega arith in
    actions_from nodes ys k e here ∙ ap (λ n. weight (entry_in nodes e) + actions_in (map (entry_in nodes) (drop n (y ∷ ys)))) more

-- each entry is an action or a decision
pub all_counted : (es : List BookEntry) → actions_in es + decisions_in es ≡ length es
all_counted [] = refl
all_counted (Acted i deed ∷ es) = omega (arith, all_counted es)
all_counted (Decided c ∷ es) = omega (arith, all_counted es)

many_deeds : Left → ℕ
many_deeds s = length s.deeds

sum_of_deeds : (stubs : List Left) → sum_by many_deeds stubs ≡ sum_by length (map (λ (s : Left). s.deeds) stubs)
unfolding many_deeds
sum_of_deeds [] = refl
sum_of_deeds (s ∷ stubs) =
    sum_by-cons many_deeds s stubs ∙ ap (λ n. many_deeds s + n) (sum_of_deeds stubs) ∙ sym (sum_by-cons length s.deeds (map (λ (x : Left). x.deeds) stubs))

-- what stubs learn from their cells doesn't change the number of their actions
sum_read : (read stubs : List Left) → AreRead stubs read → sum_by (λ (s : Left). length s.deeds) read ≡ sum_by (λ (s : Left). length s.deeds) stubs
unfolding many_deeds
sum_read read stubs is = sum_of_deeds read ∙ ap (sum_by length) (same_deeds stubs read is) ∙ sym (sum_of_deeds stubs)

-- a vector whose items were all written has what was written
pub all_written : {X : Type 0} (many : ℕ) (xs new : List X) → many ≡ length new → take many (new ++ drop (length new) xs) ≡ new
all_written many xs new same = rw same (take-append_seam new (drop (length new) xs))

-- as many actions are found in stubs that were written back as in those that were given
pub sum_written : (many : ℕ) (stubs read : List Left) → many ≡ length read → AreRead stubs read
    → sum_by (λ (s : Left). length s.deeds) (take many (read ++ drop (length read) stubs)) ≡ sum_by (λ (s : Left). length s.deeds) stubs
sum_written many stubs read same is = ap (λ xs. sum_by (λ (s : Left). length s.deeds) xs) (all_written many stubs read same) ∙ sum_read read stubs is
