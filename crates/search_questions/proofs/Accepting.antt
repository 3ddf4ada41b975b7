-- How more participants take a base.
use Rattle.std.proofs.Common.{◌≤◌, ◌^◌, ◌+◌, ◌*◌, Bool, true, false, List, [], ◌∷◌, ◌++◌, length, refl, subst, arith, length-append}
use Rattle.std.specs.Prelude.{◌↔◌, ◌&&◌, All, IsTrue}
use Rattle.std.proofs.lemmas.List.Elements.{All-cons, All-nil}
use Rattle.list_lemmas.proofs.CallerLemmas.{and_parts}
use Rattle.sysmem_counts.specs.Bounds.{IsTallyOf}
use Rattle.sysmem_counts.specs.Tally.{Tally, sum_of}
use Rattle.sysmem_merge.specs.declared.settings.Settings.{Settings}
use Rattle.offer_fits.specs.Demands.{counts_asked}
use Rattle.sysmem_merge.specs.Settings.{CoversOn}
use Rattle.negotiation_inputs.specs.Participant.{Participant}
use Rattle.negotiation_inputs.specs.Platform.{PlatformFacts}
use Rattle.search_questions.specs.declared.on_base.OnBase.{OnBase}
use Rattle.search_questions.specs.Kept.{TakesBase}
use Rattle.search_questions.proofs.Taking.{both_have, front_has, rest_has, counted_more}

both_true : (a b : Bool) → IsTrue a → IsTrue b → IsTrue (a && b)
both_true true b x y = y
both_true false b x y = absurd (cc)

-- two tests, each of its own participants
both_accept : {X : Type 0} (P : X → Type 0) (ps qs : List X) (a b : Bool) → IsTrue a ↔ All P ps → IsTrue b ↔ All P qs → IsTrue (a && b) ↔ All P (ps ++ qs)
both_accept P ps qs a b one two = (
  λ is. both_have P ps qs (one.0 (and_parts a b is).0) (two.0 (and_parts a b is).1),
  λ all. both_true a b (one.1 (front_has P ps qs all)) (two.1 (rest_has P ps qs all)),
)

-- a test of one participant
pub one_accepts : {X : Type 0} (P : X → Type 0) (x : X) (b : Bool) → IsTrue b ↔ P x → IsTrue b ↔ All P (x ∷ [])
one_accepts P x b h = (λ is. All-cons P x [] (h.0 is) (All-nil P), λ all. h.1 (all 0 x (omega arith)))

-- more participants, whose counts were added and who were asked
pub takes_more : (platform : PlatformFacts) (settings : Settings) (earlier : List Participant) (old : OnBase) (kept : Tally) (accept : Bool) (ps qs : List Participant)
    → TakesBase platform settings earlier old ps → IsTallyOf kept ((counts_asked earlier ++ counts_asked ps) ++ counts_asked qs) → sum_of kept ≤ sum_of old.counts + length qs * 2 ^ 33
    → IsTrue accept ↔ All (CoversOn platform settings) qs → TakesBase platform settings earlier (record { counts = kept; all_accept = old.all_accept && accept }) (ps ++ qs)
takes_more platform settings earlier old kept accept ps qs t stands grows test = record {
  counts = subst (IsTallyOf kept) (counted_more (counts_asked earlier) ps qs (ps ++ qs) refl) stands;
  small = omega (arith, t.small, grows, length-append ps qs);
  accept = both_accept (CoversOn platform settings) ps qs old.all_accept accept t.accept test;
}
