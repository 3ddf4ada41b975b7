-- The line that named several last, where lines are put behind it.
use Rattle.std.proofs.Common.{arith, ◌≡◌, ◌-◌, ◌<◌, ℕ, zero, List, [], ◌∷◌, ◌++◌, IfSome, Option, None, Some, get_or, length, slice_get, refl, sym, ap, subst, ◌∙◌}
use Rattle.std.proofs.lemmas.Option.{slice_get-get_or, slice_get_within}
use Rattle.list_lemmas.proofs.CallerLemmas.{slice_get-append_add, slice_get-append_left}
use Rattle.sysmem_counts.specs.declared.field.Field.{Field}
use Rattle.sysmem_tree.specs.Node.{NodeFacts}
use Rattle.verdict_claims.specs.Line.{LineFacts}
use Rattle.conflict_finding.specs.declared.whom.NamingLine.{NamingLine}
use Rattle.conflict_finding.specs.declared.whom.Whom.{Whom}
use Rattle.conflict_finding.specs.Whom.{NamesThose, line_on}

-- one that is put behind all
pub pushed_on : (nodes : List NodeFacts) (ns : List ℕ) (lines now : List LineFacts) (line : LineFacts) (field : Field) (whom : Whom) (at : ℕ)
    → now ≡ lines ++ line ∷ [] → line ≡ line_on nodes ns field whom → at ≡ length lines → NamesThose nodes ns now (record { whom = whom; place = at })
pushed_on nodes ns lines now line field whom at more is here = record {
  line = line;
  there = ap (λ ls. slice_get ls at) more ∙ ap (slice_get (lines ++ line ∷ [])) (omega (arith, here)) ∙ slice_get-append_add lines (line ∷ []) (length lines) 0 refl;
  is = is ∙ ap (λ f. line_on nodes ns f whom) (sym (ap (λ l. l.field) is));
}

-- one with the paths of another that names the same is the line of its field
pub headed_is : (nodes : List NodeFacts) (ns : List ℕ) (lines : List LineFacts) (named : NamingLine) (field : Field) (whom : Whom) (one : NamesThose nodes ns lines named)
    → ((f : Field) → line_on nodes ns f named.whom ≡ line_on nodes ns f whom) → record { field = field; nodes = one.line.nodes } ≡ line_on nodes ns field whom
headed_is nodes ns lines named field whom one same =
    ap (λ l. record { field = field; nodes = l.nodes }) (one.is ∙ same one.line.field)

named_before : (nodes : List NodeFacts) (ns : List ℕ) (lines more : List LineFacts) (named : NamingLine) → NamesThose nodes ns lines named → NamesThose nodes ns (lines ++ more) named
named_before nodes ns lines more named one = record {
  line = one.line;
  there = slice_get-append_left lines more named.place (slice_get_within lines named.place one.line one.there) ∙ one.there;
  is = one.is;
}

-- it stands where it stood
pub named_more : (nodes : List NodeFacts) (ns : List ℕ) (kept : Option NamingLine) (lines more now : List LineFacts) → now ≡ lines ++ more
    → IfSome kept (NamesThose nodes ns lines) → IfSome kept (NamesThose nodes ns now)
named_more nodes ns None lines more now is one = tt
named_more nodes ns (Some named) lines more now is one = subst (λ ls. NamesThose nodes ns ls named) (sym is) (named_before nodes ns lines more named one)

-- also where the last is put once more
pub named_again : (nodes : List NodeFacts) (ns : List ℕ) (kept : Option NamingLine) (lines now : List LineFacts) → zero < length lines
    → ((last : LineFacts) → slice_get lines (length lines - 1) ≡ Some last → now ≡ lines ++ last ∷ []) → IfSome kept (NamesThose nodes ns lines) → IfSome kept (NamesThose nodes ns now)
named_again nodes ns kept [] now some more one = absurd (omega (arith, some))
named_again nodes ns kept (x ∷ xs) now some more one =
    let last = get_or (x ∷ xs) (length (x ∷ xs) - 1) x in
    named_more nodes ns kept (x ∷ xs) (last ∷ []) now (more last (slice_get-get_or (x ∷ xs) (length (x ∷ xs) - 1) x (omega arith))) one
