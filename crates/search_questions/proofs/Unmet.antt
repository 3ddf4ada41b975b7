-- Where no settings meet what is settled.
use Rattle.std.proofs.Common.{◌≡◌, ℕ, Bool, true, false, List, [], Option, Some, None, length, refl, sym, ap, subst}
use Rattle.std.specs.Prelude.{◌↔◌, IfSome, IfNone, IsTrue, is_none, is_some, not, option_map}
use Rattle.sysmem_merge.specs.declared.settings.Settings.{Settings}
use Rattle.sysmem_merge.specs.Settings.{MeetsAs}
use Rattle.verdict_claims.specs.Base.{Terms}
use Rattle.verdict_claims.specs.declared.conflict.Conflict.{Conflict}
use Rattle.verdict_claims.specs.Members.{participants}
use Rattle.verdict_claims.specs.Verdict.{IsForestUnmet, MeetsFor, MeetsLooselyFor, MeetsSettled}
use Rattle.search_questions.specs.Live.{SomeMeet}
use Rattle.search_questions.specs.Question.{MeetsOf, MeetsHere, MeetsSoFar}
use Rattle.verdict_claims.specs.Matter.{Matter, forest, terms}
use Rattle.search_questions.proofs.AskedMembers.{if_some, some_of}
use Rattle.search_questions.proofs.Finding.{none_many}
use Rattle.sysmem_tree.specs.Forest.{Forest, choices, settled}
use Rattle.sysmem_tree.specs.Selection.{IsPrefix, after}
use Rattle.sysmem_tree.specs.Shape.{Member}
use Rattle.list_lemmas.proofs.CallerLemmas.{of_some}

-- settings that meet a selection are those that meet what is settled there
none_at_selection : (m : Matter) (d : Forest Member) → choices d ≡ None → ((t : Settings) → ¬ (MeetsFor m.platform (terms m) (settled d) t)) → (t : Settings) → ¬ (MeetsSettled m.platform (terms m) d t)
none_at_selection m d none unmet = by (terms m) unmet where
  by : (o : Option Terms) → ((t : Settings) → ¬ (MeetsFor m.platform o (settled d) t)) → (t : Settings) → ¬ (MeetsSettled m.platform o d t)
  by None unmet t met = unmet t (subst (λ x. MeetsAs (is_none x) m.platform (participants (settled d)) t) none met)
  by (Some terms) unmet t met = unmet t met

-- and before a group that is left, those that meet it but for names
none_before : (m : Matter) (d : Forest Member) (es : List (Forest Member)) → choices d ≡ Some es → ((t : Settings) → ¬ (MeetsLooselyFor m.platform (terms m) (settled d) t))
    → (t : Settings) → ¬ (MeetsSettled m.platform (terms m) d t)
none_before m d es open' unmet = by (terms m) unmet where
  by : (o : Option Terms) → ((t : Settings) → ¬ (MeetsLooselyFor m.platform o (settled d) t)) → (t : Settings) → ¬ (MeetsSettled m.platform o d t)
  by None unmet t met = unmet t (subst (λ x. MeetsAs (is_none x) m.platform (participants (settled d)) t) open' met)
  by (Some terms) unmet t met = unmet t met

-- where none meet a selection that goes on from a selection, none meet it
pub unmet_selection : (m : Matter) (o : Option (Forest Member)) → IfSome o (λ d. option_map length (choices d) ≡ None) → IfSome o (λ d. IsForestUnmet (MeetsOf m) d)
    → IfSome o (λ d. (t : Settings) → ¬ (MeetsHere m d t))
unmet_selection m o whole unmet = if_some _ o (λ d here.
    let none = none_many (choices d) (of_some (λ x. option_map length (choices x) ≡ None) o d here whole) in
    none_at_selection m d none (λ t met. of_some (λ x. IsForestUnmet (MeetsOf m) x) o d here unmet [] d t (record { leads = refl; whole = none }) met))

-- where what is settled before a group can't be met, none meet it
pub unmet_prefix : (m : Matter) (o : Option (Forest Member)) (n : ℕ) (met : Bool) → met ≡ false → IfSome o (λ d. option_map length (choices d) ≡ Some n)
    → IfSome o (λ d. IsTrue met ↔ SomeMeet (MeetsSoFar m) d) → IfSome o (λ d. (t : Settings) → ¬ (MeetsHere m d t))
unmet_prefix m o n met no' many asked = if_some _ o (λ d here. by d (choices d) refl (of_some (λ x. option_map length (choices x) ≡ Some n) o d here many)
    (of_some (λ x. IsTrue met ↔ SomeMeet (MeetsSoFar m) x) o d here asked)) where
      not_true : (b : Bool) → b ≡ false → IsTrue b → ⊥
      not_true true e h = absurd (cc)
      not_true false e h = absurd (cc)

      by : (d : Forest Member) (es : Option (List (Forest Member))) → choices d ≡ es → option_map length es ≡ Some n → (IsTrue met ↔ SomeMeet (MeetsSoFar m) d) → (t : Settings) → ¬ (MeetsHere m d t)
      by d None open' e asked = absurd (cc)
      by d (Some es) open' e asked = none_before m d es open' (λ t meets. not_true met no' (asked.1 (t, meets)))

-- what is told to be met is
pub met_prefix : (m : Matter) (o : Option (Forest Member)) (met : Bool) → met ≡ true → IfSome o (λ d. IsTrue met ↔ SomeMeet (MeetsSoFar m) d) → IfSome o (SomeMeet (MeetsSoFar m))
met_prefix m o met is asked = if_some (SomeMeet (MeetsSoFar m)) o (λ d here. (of_some (λ x. IsTrue met ↔ SomeMeet (MeetsSoFar m) x) o d here asked).0 is)

-- no group is left exactly where no children of one are told
pub none_are_left : (m : Matter) (cs : List ℕ) (told : Option ℕ) (t : Bool) (d : Forest Member) → after (forest m) cs ≡ Some d → is_some told ≡ not t
    → IfSome (after (forest m) cs) (λ e. option_map length (choices e) ≡ told) → t ≡ is_none (choices d)
none_are_left m cs told t d leads is many = by (choices d) told t (of_some (λ e. option_map length (choices e) ≡ told) (after (forest m) cs) d leads many) is where
  by : (es : Option (List (Forest Member))) (told : Option ℕ) (t : Bool) → option_map length es ≡ told → is_some told ≡ not t → t ≡ is_none es
  by None None true e is = refl
  by None None false e is = absurd (cc)
  by None (Some n) t e is = absurd (cc)
  by (Some es) None t e is = absurd (cc)
  by (Some es) (Some n) true e is = absurd (cc)
  by (Some es) (Some n) false e is = refl

-- then there is a conflict
pub no_conflict : (m : Matter) (cs : List ℕ) (found : Option Conflict) → IsPrefix (forest m) cs → found ≡ None → IfSome (after (forest m) cs) (λ d. (t : Settings) → ¬ (MeetsHere m d t))
    → ((d : Forest Member) → after (forest m) cs ≡ Some d → IfNone found ((t : Settings) × MeetsHere m d t)) → ⊥
no_conflict m cs found prefix none unmet met =
    let (d, leads) = some_of (after (forest m) cs) prefix in
    let (t, meets) = subst (λ o. IfNone o ((t : Settings) × MeetsHere m d t)) none (met d leads) in
    of_some (λ x. (t : Settings) → ¬ (MeetsHere m x t)) (after (forest m) cs) d leads unmet t meets

-- a selection leaves no group
pub last_is_whole : (m : Matter) (cs : List ℕ) (d : Forest Member) → after (forest m) cs ≡ Some d → IfSome (after (forest m) cs) (λ e. option_map length (choices e) ≡ None) → true ≡ is_none (choices d)
last_is_whole m cs d leads last = sym (ap is_none (none_many (choices d) (of_some (λ e. option_map length (choices e) ≡ None) (after (forest m) cs) d leads last)))
