-- Where each domain has one decision at most, any decision of a domain that stands among the
-- entries is the one that was entered for it.
use Rattle.std.proofs.Common.{◌≡◌, ◌≢◌, ◌<◌, ◌==◌, ℕ, zero, suc, Bool, true, false, List, [], ◌∷◌, length, Option, Some, None, get_or, refl, sym, ◌∙◌, ap, subst, arith, eq-eqb, rules, tests}
use Rattle.std.specs.Prelude.{map, if◌then◌else◌}
use Rattle.std.specs.List.{AllByRecursion, filter_map, cons_option}
use Rattle.std.proofs.lemmas.Bool.{ne_eqb}
use Rattle.book_events.specs.declared.entry.Entry.{Entry}
use Rattle.sysmem_alloc.specs.Book.{BookFacts, IsBook}
use Rattle.sysmem_alloc.specs.Decision.{DomainVerdict, decision_for}
use Rattle.sysmem_alloc.specs.Entry.{decision_in}
use Rattle.sysmem_alloc.specs.Laws.{LegalAgrees}
use Rattle.sysmem_alloc.specs.Sound.{AgreesWithTree, AreDistinct}

-- where all decisions are of other domains, none was entered
none_among : (ds : List DomainVerdict) (r : ℕ) → AllByRecursion (λ y. r ≢ y) (map (λ (d : DomainVerdict). d.domain) ds) → decision_for ds r ≡ None
none_among [] r others = refl
none_among (x ∷ ds) r others = ap (λ b. if b then Some x else decision_for ds r) (ne_eqb x.domain r (λ e. others.0 (sym e))) ∙ none_among ds r others.1

-- the decision that an entry is was entered for its domain
pub found : (h : List Entry) (i : ℕ) (e : Entry) (d : DomainVerdict) → AreDistinct (map (λ (x : DomainVerdict). x.domain) (filter_map decision_in h)) → i < length h → e ≡ get_or h i e → decision_in e ≡ Some d
    → decision_for (filter_map decision_in h) d.domain ≡ Some d
found [] i e d apart less is own = absurd (omega (arith, less))
found (x ∷ h) zero e d apart less is own =
    ap (λ o. decision_for (cons_option o (filter_map decision_in h)) d.domain) (ap decision_in (sym is) ∙ own)
    ∙ ap (λ b. if b then Some d else decision_for (filter_map decision_in h) d.domain) (eq-eqb d.domain d.domain refl)
found (x ∷ h) (suc i) e d apart less is own = by (decision_in x) apart (λ a. found h i e d a (omega (arith, less)) is own) where
  first : (y : DomainVerdict) (b : Bool) → (y.domain == d.domain) ≡ b → AllByRecursion (λ z. y.domain ≢ z) (map (λ (x : DomainVerdict). x.domain) (filter_map decision_in h))
      → decision_for (filter_map decision_in h) d.domain ≡ Some d → (if b then Some y else decision_for (filter_map decision_in h) d.domain) ≡ Some d
  first y true same others rest =
      let is : y.domain ≡ d.domain = search (rules, tests, same) in
      let none = none_among (filter_map decision_in h) d.domain (subst (λ k. AllByRecursion (λ z. k ≢ z) (map (λ (x : DomainVerdict). x.domain) (filter_map decision_in h))) is others) in
      let both : None ≡ Some d = sym none ∙ rest in
      absurd (cc)
  first y false same others rest = rest

  by : (o : Option DomainVerdict) → AreDistinct (map (λ (x : DomainVerdict). x.domain) (cons_option o (filter_map decision_in h)))
      → (AreDistinct (map (λ (x : DomainVerdict). x.domain) (filter_map decision_in h)) → decision_for (filter_map decision_in h) d.domain ≡ Some d)
      → decision_for (cons_option o (filter_map decision_in h)) d.domain ≡ Some d
  by None a rest = rest a
  by (Some y) a rest = first y (y.domain == d.domain) refl a.0 (rest a.1)

-- a book enters one decision of a domain at most
pub entered_once : LegalAgrees → (b : BookFacts) → IsBook b → AreDistinct (map (λ (d : DomainVerdict). d.domain) b.state.decisions)
entered_once agrees b is = (subst (AgreesWithTree b.platform) (sym is.replayed) (agrees b.platform b.history is.legal)).once
