-- The reasons against an offer.
use Rattle.std.proofs.Common.{◌≡◌, ◌↔◌, inl, inr, IsTrue, ℕ, ◌+◌, ◌<◌, Bool, true, false, List, [], ◌∷◌, ◌++◌, length, get_or, take, Option, Some, None, option_to_list, refl, sym, ap, subst, ◌∙◌, arith}
use Rattle.std.proofs.lemmas.List.{take_more}
use Rattle.sysmem_counts.specs.declared.field.Field.{Field}
use Rattle.sysmem_formats.specs.declared.offer.Offer.{Offer}
use Rattle.negotiation_inputs.specs.Participant.{Participant}
use Rattle.settings_reasons.specs.True.{AreLines, AreTheseOr, IsTrueLine, OfferRefusal, line_of, said_of}
use Rattle.settings_reasons.specs.declared.offer_reason.OfferGround.{OfferGround}
use Rattle.value_sources.specs.declared.participant.NamedParticipant.{NamedParticipant}
use Rattle.value_sources.specs.Sources.{all_asked}

-- a reason of these parts
abbrev said : Offer → Bool → OfferGround → List Participant → OfferRefusal
said o w g ps = record { offer = o; whole = w; ground = g; participants = ps }

-- nothing is said of nobody
pub said_of_none : (o : Offer) (w : Bool) (g : OfferGround) (those : List NamedParticipant) (asked : List Participant) → all_asked those ≡ asked → length those ≡ 0 → None ≡ said_of o w g asked
said_of_none o w g [] asked same none = ap (said_of o w g) same
said_of_none o w g (one ∷ others) asked same none = absurd (cc)

-- it is said of these
pub said_of_some : (o : Offer) (w : Bool) (g : OfferGround) (those : List NamedParticipant) (asked : List Participant) → all_asked those ≡ asked → 0 < length those → Some (said o w g (all_asked those)) ≡ said_of o w g asked
said_of_some o w g [] asked same some = absurd (omega arith)
said_of_some o w g (one ∷ others) asked same some = ap (said_of o w g) same

-- one more line, which is true
AreLines-more : (o : Offer) (w : Bool) (ps : List Participant) (fields : List Field) (reasons : List OfferRefusal) (field : Field) → IsTrueLine o w ps field → AreLines o w ps fields reasons → AreLines o w ps (fields ++ field ∷ []) (reasons ++ line_of o w ps field ∷ [])
AreLines-more o w ps [] reasons field is lines = inl ([], is, ap (λ l. l ++ line_of o w ps field ∷ []) lines, refl)
AreLines-more o w ps (f ∷ fs) reasons field is (inl here) = inl (here.0 ++ line_of o w ps field ∷ [], here.1, ap (λ l. l ++ line_of o w ps field ∷ []) here.2, AreLines-more o w ps fs here.0 field is here.3)
AreLines-more o w ps (f ∷ fs) reasons field is (inr later) = inr (later.0, AreLines-more o w ps fs reasons field is later.1)

-- one more, which isn't
AreLines-none : (o : Offer) (w : Bool) (ps : List Participant) (fields : List Field) (reasons : List OfferRefusal) (field : Field) → ¬ IsTrueLine o w ps field → AreLines o w ps fields reasons → AreLines o w ps (fields ++ field ∷ []) reasons
AreLines-none o w ps [] reasons field isnt lines = inr (isnt, lines)
AreLines-none o w ps (f ∷ fs) reasons field isnt (inl here) = inl (here.0, here.1, here.2, AreLines-none o w ps fs here.0 field isnt here.3)
AreLines-none o w ps (f ∷ fs) reasons field isnt (inr later) = inr (later.0, AreLines-none o w ps fs reasons field isnt later.1)

-- what a test decides isn't so where the test fails
pub not_decided : {P : Type 0} (b : Bool) → IsTrue b ↔ P → b ≡ false → ¬ P
not_decided b decides isnt = λ is. cc (decides.1 is, isnt)

-- the next line of a list, which is true
pub line_more : (o : Offer) (w : Bool) (ps : List Participant) (lines : List Field) (i : ℕ) (d : Field) (reason : OfferRefusal) (old new : List OfferRefusal) → i < length lines → IsTrueLine o w ps (get_or lines i d)
    → reason ≡ line_of o w ps (get_or lines i d) → new ≡ old ++ reason ∷ [] → AreLines o w ps (take i lines) old → AreLines o w ps (take (i + 1) lines) new
line_more o w ps lines i d reason old new there is same pushed so_far =
    subst (AreLines o w ps (take (i + 1) lines)) (sym (pushed ∙ ap (λ r. old ++ r ∷ []) same))
    (subst (λ fs. AreLines o w ps fs (old ++ line_of o w ps (get_or lines i d) ∷ [])) (sym (take_more lines i d there))
    (AreLines-more o w ps (take i lines) old (get_or lines i d) is so_far))

-- the next, which isn't
pub line_none : (o : Offer) (w : Bool) (ps : List Participant) (lines : List Field) (i : ℕ) (d : Field) (old : List OfferRefusal) → i < length lines → ¬ IsTrueLine o w ps (get_or lines i d)
    → AreLines o w ps (take i lines) old → AreLines o w ps (take (i + 1) lines) old
line_none o w ps lines i d old there isnt so_far =
    subst (λ fs. AreLines o w ps fs old) (sym (take_more lines i d there)) (AreLines-none o w ps (take i lines) old (get_or lines i d) isnt so_far)

-- reasons are these, where they are some
pub are_these : (these : List OfferRefusal) (Else : Type 0) → 0 < length these → AreTheseOr these these Else
are_these [] Else some = absurd (omega arith)
are_these (one ∷ more) Else some = refl

-- where these are none, what is said else holds
pub are_else : (these reasons : List OfferRefusal) (Else : Type 0) → length these ≡ 0 → Else → AreTheseOr these reasons Else
are_else [] reasons Else none holds = holds
are_else (one ∷ more) reasons Else none holds = absurd (cc)

-- a reason that there is alone is told alone
pub alone_told : (first : Option OfferRefusal) (reason : OfferRefusal) (reasons : List OfferRefusal) (Else : Type 0) → Some reason ≡ first → reasons ≡ reason ∷ [] → AreTheseOr (option_to_list first) reasons Else
alone_told first reason reasons Else is told = subst (λ o. AreTheseOr (option_to_list o) reasons Else) is told

-- without one, what is said else holds
pub else_told : (first : Option OfferRefusal) (reasons : List OfferRefusal) (Else : Type 0) → None ≡ first → Else → AreTheseOr (option_to_list first) reasons Else
else_told first reasons Else is holds = subst (λ o. AreTheseOr (option_to_list o) reasons Else) is holds
