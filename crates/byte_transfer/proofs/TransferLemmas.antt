-- What a transfer has done after one more read or write.
use Rattle.std.proofs.Common.{◌≡◌, ℕ, ◌+◌, ◌-◌, ◌≤◌, List, ◌++◌, length, take, drop, Option, sym, ap, ◌∙◌, subst, append_assoc, length-append, length-drop, arith}
use Rattle.std.proofs.lemmas.List.{length-take-le, take-append-drop}
use Rattle.std.proofs.Math.Seq.{take-length, take-append_seam}
use Rattle.std.specs.Io.KnownBytes.{Appends, Consumes, Keeps}
use Rattle.byte_transfer.specs.Transfer.{ReadsFew, WritesFront}
use Rattle.byte_transfer.proofs.KnownBytes.{Appends-kept, Consumes-then}

-- one more chunk was taken
pub ReadsFew-then : (limit : ℕ) (u v w : Option (List ℕ)) (bytes chunk : List ℕ) (count : ℕ)
    → Consumes u v bytes → Consumes v w (take count chunk)
    → count ≤ length chunk → length bytes + count ≤ limit + 1 → ReadsFew limit u w
ReadsFew-then limit u v w bytes chunk count before then fits few = record {
  bytes = bytes ++ take count chunk;
  taken = Consumes-then u v w bytes (take count chunk) before then;
  few = omega (arith, length-append bytes (take count chunk), length-take-le count chunk fits);
}

-- a prefix is written, and the next write wrote nothing
pub WritesFront-kept : (u v w : Option (List ℕ)) (front rest bytes : List ℕ) → front ++ rest ≡ bytes → Appends u v front → Keeps v w → WritesFront u w bytes
WritesFront-kept u v w front rest bytes parts before kept = record {
  count = length front;
  written = subst (Appends u w) (sym (take-append_seam front rest) ∙ ap (take (length front)) parts) (Appends-kept u v w front before kept);
}

-- what is written and what is left are the bytes, after the next write took this many
pub parts-then : (front rest bytes : List ℕ) (count : ℕ) → front ++ rest ≡ bytes
    → (front ++ take count rest) ++ take (length rest - count) (drop count rest) ≡ bytes
parts-then front rest bytes count parts =
    append_assoc front (take count rest) _
    ∙ ap (λ (t : List ℕ). front ++ (take count rest ++ t)) (ap (λ n. take n (drop count rest)) (sym (length-drop count rest)) ∙ take-length (drop count rest))
    ∙ ap (λ (t : List ℕ). front ++ t) (take-append-drop count rest) ∙ parts
