-- What is known of the first of a row, where a row begins like another, and where more is read.
use Rattle.std.proofs.Common.{◌≡◌, ◌<◌, ◌≤◌, ℕ, ◌+◌, ◌-◌, List, [], ◌∷◌, ◌++◌, length, Some, None, take, drop, get_or, slice_get, slice_set, sym, ◌∙◌, ap, subst, arith, below_more, length-append, length-take}
use Rattle.std.specs.Prelude.{All, min}
use Rattle.std.proofs.Math.Seq.{take-append_seam}
use Rattle.std.proofs.lemmas.List.{take-take, take-append-drop, get_or-take}
use Rattle.std.proofs.lemmas.List.Elements.{filter_map-append}
use Rattle.std.proofs.lemmas.Option.{get_or_from_slice_get, same_Some, slice_get-get_or, slice_get_within}
use Rattle.list_lemmas.proofs.CallerLemmas.{All-some, some_front, slice_get_some, slice_get-append_add, slice_get-append_left, slice_get-set_other, slice_get-set_same}
use Rattle.sysmem_formats.specs.declared.offer.Offer.{Offer}
use Rattle.sysmem_merge.specs.declared.offer_read.OfferRead.{OfferRead}
use Rattle.offer_fits.specs.Demands.{offer_demands}
use Rattle.sysmem_merge.specs.OfferRead.{IsOfferRead}
use Rattle.negotiation_inputs.specs.Participant.{Participant}
use Rattle.sysmem_tree.specs.Node.{NodeFacts}
use Rattle.verdict_claims.specs.Members.{member_at, members_at, participants}
use Rattle.conflict_finding.specs.OfferAsked.{AreFrontReads, TakesOffer}

-- what all have up to one of a row, all have up to an earlier one
earlier_have : (nodes : List NodeFacts) (row : List ℕ) (P : Participant → Type 0) (m n : ℕ) → m ≤ n → All P (participants (members_at nodes (take n row))) → All P (participants (members_at nodes (take m row)))
earlier_have nodes row P m n few all =
    All-some P (participants (members_at nodes (take m row))) (participants (members_at nodes (take m row)) ++ participants (members_at nodes (drop m (take n row))))
    (some_front (participants (members_at nodes (take m row))) (participants (members_at nodes (drop m (take n row))))) (subst (All P) split all) where
      split : participants (members_at nodes (take n row)) ≡ participants (members_at nodes (take m row)) ++ participants (members_at nodes (drop m (take n row)))
      split = ap (λ ns. participants (members_at nodes ns)) (sym (take-append-drop m (take n row)) ∙ ap (λ ns. ns ++ drop m (take n row)) (take-take m n row few))
          ∙ (ap participants (filter_map-append (member_at nodes) (take m row) (drop m (take n row)))
          ∙ filter_map-append (λ m. m.constraints) (members_at nodes (take m row)) (members_at nodes (drop m (take n row))))

-- where rows begin alike, what is known of the first of one is known of those of the other
module _ (nodes : List NodeFacts) (row other : List ℕ) (many : ℕ) (same : take many row ≡ take many other) (o : Offer) where
  alike : (k : ℕ) → k ≤ many → take k row ≡ take k other
  alike k few = sym (take-take k many row few) ∙ (ap (take k) same ∙ take-take k many other few)

  pub cut_takes : (taking new : ℕ) → new ≡ min taking many → All (TakesOffer o) (participants (members_at nodes (take taking row))) → All (TakesOffer o) (participants (members_at nodes (take new other)))
  cut_takes taking new is all =
      subst (λ ns. All (TakesOffer o) (participants (members_at nodes ns))) (alike new (omega (arith, is)))
      (earlier_have nodes row (TakesOffer o) new taking (omega (arith, is)) all)

  pub cut_reads : (reads new : List OfferRead) → new ≡ take many reads → AreFrontReads nodes row o reads → AreFrontReads nodes other o new
  cut_reads reads new is are k read at =
      let here : slice_get (take many reads) k ≡ Some read = subst (λ xs. slice_get xs k ≡ Some read) is at in
      let within : k < length (take many reads) = slice_get_within (take many reads) k read here in
      let below : k < many = omega (arith, within, length-take many reads) in
      let inside : k < length reads = omega (arith, within, length-take many reads) in
      let there : slice_get reads k ≡ Some read = slice_get-get_or reads k read inside ∙ ap (λ x. Some x) (sym (get_or-take many reads k read below) ∙ get_or_from_slice_get (take many reads) k read read here) in
      subst (λ ns. IsOfferRead o (offer_demands (participants (members_at nodes ns))) read) (alike (k + 1) (omega (arith, below))) (are k read there)

pub cut_few : (reads new : List OfferRead) (many most : ℕ) → new ≡ take many reads → many ≤ most → length new ≤ most
cut_few reads new many most is few = omega (arith, few, ap length is, length-take many reads)

module _ (nodes : List NodeFacts) (row : List ℕ) (o : Offer) where
  -- one front more
  pub push_read : (reads new : List OfferRead) (read : OfferRead) (index : ℕ) → length reads ≡ index → new ≡ reads ++ read ∷ [] → AreFrontReads nodes row o reads
      → IsOfferRead o (offer_demands (participants (members_at nodes (take (index + 1) row)))) read → AreFrontReads nodes row o new
  push_read reads new read index many is are last k one at =
      let here : slice_get (reads ++ read ∷ []) k ≡ Some one = subst (λ xs. slice_get xs k ≡ Some one) is at in
      below_more (λ j. slice_get (reads ++ read ∷ []) j ≡ Some one → IsOfferRead o (offer_demands (participants (members_at nodes (take (j + 1) row)))) one) index earlier now k
      (omega (arith, slice_get_within (reads ++ read ∷ []) k one here, length-append reads (read ∷ []), many)) here where
        earlier : (j : ℕ) → j < index → slice_get (reads ++ read ∷ []) j ≡ Some one → IsOfferRead o (offer_demands (participants (members_at nodes (take (j + 1) row)))) one
        earlier j below got = are j one (sym (slice_get-append_left reads (read ∷ []) j (omega (arith, below, many))) ∙ got)

        now : slice_get (reads ++ read ∷ []) index ≡ Some one → IsOfferRead o (offer_demands (participants (members_at nodes (take (index + 1) row)))) one
        now got =
            let plain : index ≡ index + 0 = omega arith in
            let got_last : slice_get (reads ++ read ∷ []) (index + 0) ≡ Some one = subst (λ j. slice_get (reads ++ read ∷ []) j ≡ Some one) plain got in
            subst (IsOfferRead o (offer_demands (participants (members_at nodes (take (index + 1) row))))) (same_Some read one (sym (slice_get-append_add reads (read ∷ []) index 0 many) ∙ got_last)) last

  -- the last front of which something was read
  pub last_of : (reads : List OfferRead) (read : OfferRead) → slice_get reads (length reads - 1) ≡ Some read → AreFrontReads nodes row o reads
      → IsOfferRead o (offer_demands (participants (members_at nodes (take (length reads) row)))) read
  last_of reads read at are =
      let long : length reads - 1 + 1 ≡ length reads = omega (arith, slice_get_within reads (length reads - 1) read at) in
      subst (λ k. IsOfferRead o (offer_demands (participants (members_at nodes (take k row)))) read) long (are (length reads - 1) read at)

  -- and where nothing was
  pub none_of : (reads : List OfferRead) (read : OfferRead) → slice_get reads (length reads - 1) ≡ None → IsOfferRead o [] read
      → IsOfferRead o (offer_demands (participants (members_at nodes (take (length reads) row)))) read
  none_of [] read at is = is
  none_of (r ∷ reads) read at is =
      let some = slice_get_some (r ∷ reads) (length (r ∷ reads) - 1) (omega arith) in
      let e : None ≡ Some some.0 = sym at ∙ some.1 in absurd (cc)

-- a vector whose items were all written has what was written
pub all_written : {X : Type 0} (many : ℕ) (xs new : List X) → many ≡ length new → take many (new ++ drop (length new) xs) ≡ new
all_written many xs new same = rw same (take-append_seam new (drop (length new) xs))

-- the first of a list have one property, the others another
pub record AreUpTo {X : Type 0} (New Old : X → Type 0) (i : ℕ) (xs : List X) : Type 0 where
  pub done : (k : ℕ) (x : X) → k < i → slice_get xs k ≡ Some x → New x
  pub rest : (k : ℕ) (x : X) → i ≤ k → slice_get xs k ≡ Some x → Old x

module _ {X : Type 0} (New Old : X → Type 0) where
  pub none_done : (xs : List X) → All Old xs → AreUpTo New Old 0 xs
  none_done xs all = record {
    done = λ k x below at. absurd (omega (arith, below));
    rest = λ k x _ at. subst Old (get_or_from_slice_get xs k x x at) (all k x (slice_get_within xs k x at));
  }

  pub one_done : (i : ℕ) (xs : List X) (one next : X) → slice_get xs i ≡ Some one → (Old one → New next) → AreUpTo New Old i xs → AreUpTo New Old (i + 1) (slice_set xs i next)
  one_done i xs one next here is before = record {
    done = λ k x below. below_more (λ j. slice_get (slice_set xs i next) j ≡ Some x → New x) i
        (λ j sooner got. before.done j x sooner (slice_get-set_other xs i j next x (λ e. omega (arith, e, sooner)) got))
        (λ got. subst New (slice_get-set_same xs i next x (slice_get_within xs i one here) got) (is (before.rest i one (omega arith) here))) k below;
    rest = λ k x above got. before.rest k x (omega (arith, above)) (slice_get-set_other xs i k next x (λ e. omega (arith, e, above)) got);
  }

  pub all_done : (i : ℕ) (xs : List X) → length xs ≤ i → AreUpTo New Old i xs → All New xs
  all_done i xs past before = λ k d less. before.done k (get_or xs k d) (omega (arith, past, less)) (slice_get-get_or xs k d less)
