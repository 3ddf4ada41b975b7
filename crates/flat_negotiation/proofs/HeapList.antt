-- Heaps that are made one by one.
use Rattle.std.proofs.Common.{◌≡◌, ℕ, ◌+◌, ◌<◌, List, [], ◌∷◌, ◌++◌, suc, length, get_or, take, sym, ap, ◌∙◌, arith}
use Rattle.std.proofs.lemmas.List.{take_more, length-take-le}
use Rattle.sysmem_memory.specs.Heap.{HeapFacts}
use Rattle.flat_negotiation.specs.declared.parts.flat.FlatHeap.{FlatHeap}
use Rattle.flat_negotiation.specs.Heaps.{heap_said, heaps_said}

heaps-push : (k : ℕ) (xs : List FlatHeap) (x : FlatHeap) → heaps_said k (xs ++ x ∷ []) ≡ heaps_said k xs ++ heap_said (k + length xs) x ∷ []
heaps-push k [] x = ap (λ n. heap_said n x ∷ []) (omega arith)
heaps-push k (h ∷ hs) x = ap (λ l. heap_said k h ∷ l) (heaps-push (suc k) hs x ∙ ap (λ n. heaps_said (suc k) hs ++ heap_said n x ∷ []) (omega arith))

pub heaps-more : (xs : List FlatHeap) (ys zs : List HeapFacts) (i : ℕ) (d : FlatHeap) (y : HeapFacts) → i < length xs
    → ys ≡ heaps_said 0 (take i xs) → y ≡ heap_said i (get_or xs i d) → zs ≡ ys ++ y ∷ [] → zs ≡ heaps_said 0 (take (i + 1) xs)
heaps-more xs ys zs i d y within before one made =
    let x = get_or xs i d in
    let long : 0 + length (take i xs) ≡ i = omega (arith, length-take-le i xs (omega (arith, within))) in
    let more : heaps_said 0 (take i xs ++ x ∷ []) ≡ heaps_said 0 (take i xs) ++ heap_said i x ∷ [] = heaps-push 0 (take i xs) x ∙ ap (λ n. heaps_said 0 (take i xs) ++ heap_said n x ∷ []) long in
    made ∙ ap (λ l. l ++ y ∷ []) before ∙ ap (λ h. heaps_said 0 (take i xs) ++ h ∷ []) one ∙ sym more ∙ ap (heaps_said 0) (sym (take_more xs i d within))
