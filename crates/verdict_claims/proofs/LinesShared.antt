-- Lines that have the paths of an earlier one keep them where lines are put behind them.
use Rattle.std.proofs.Common.{arith, ℕ, ◌≡◌, ◌<◌, List, [], ◌∷◌, ◌++◌, All, Some, get_or, length, slice_get, refl, sym, ap, subst, ◌∙◌}
use Rattle.std.proofs.lemmas.List.Elements.{All-append, All-cons, All-nil, All-weaker}
use Rattle.std.proofs.lemmas.Option.{slice_get-get_or, slice_get_within}
use Rattle.list_lemmas.proofs.CallerLemmas.{slice_get-append_add, slice_get-append_left}
use Rattle.sysmem_counts.specs.declared.field.Field.{Field}
use Rattle.verdict_claims.specs.declared.line.SharedPaths.{SharedPaths}
use Rattle.verdict_claims.specs.Line.{LineFacts, SharePaths}

shared_before : (lines more : List LineFacts) (places : SharedPaths) → SharePaths lines places → SharePaths (lines ++ more) places
shared_before lines more places is = record {
  earlier = is.earlier;
  later = is.later;
  first = slice_get-append_left lines more places.earlier (slice_get_within lines places.earlier is.earlier is.first) ∙ is.first;
  second = slice_get-append_left lines more places.later (slice_get_within lines places.later is.later is.second) ∙ is.second;
  same = is.same;
}

-- those that were known stay so
pub all_shared : (lines more : List LineFacts) (shared : List SharedPaths) → All (SharePaths lines) shared → All (SharePaths (lines ++ more)) shared
all_shared lines more shared all = All-weaker (SharePaths lines) (SharePaths (lines ++ more)) (shared_before lines more) shared all

-- the line at the end has the paths of the one from which they come
pub last_shared : (lines : List LineFacts) (line last : LineFacts) (places : SharedPaths) → slice_get lines places.earlier ≡ Some line → places.later ≡ length lines → last.nodes ≡ line.nodes
    → SharePaths (lines ++ last ∷ []) places
last_shared lines line last places is at same = record {
  earlier = line;
  later = last;
  first = slice_get-append_left lines (last ∷ []) places.earlier (slice_get_within lines places.earlier line is) ∙ is;
  second = ap (λ k. slice_get (lines ++ last ∷ []) k) (omega (arith, at)) ∙ slice_get-append_add lines (last ∷ []) (length lines) 0 refl;
  same = same;
}

-- the places of one more pair
pub one_shared : (lines now : List LineFacts) (line last : LineFacts) (places : SharedPaths) (shared kept marked : List SharedPaths)
    → slice_get lines places.earlier ≡ Some line → places.later ≡ length lines → last.nodes ≡ line.nodes → now ≡ lines ++ last ∷ [] → kept ≡ shared → marked ≡ kept ++ places ∷ []
    → All (SharePaths lines) shared → All (SharePaths now) marked
one_shared lines now line last places shared kept marked is at paths more same mark all =
    let one = All-cons (SharePaths (lines ++ last ∷ [])) places [] (last_shared lines line last places is at paths) (All-nil (SharePaths (lines ++ last ∷ []))) in
    subst (λ ls. All (SharePaths ls) marked) (sym more) (subst (All (SharePaths (lines ++ last ∷ []))) (sym (mark ∙ ap (λ ks. ks ++ places ∷ []) same))
    (All-append (SharePaths (lines ++ last ∷ [])) shared (places ∷ []) (all_shared lines (last ∷ []) shared all) one))

-- and where none is put with them
pub no_more_shared : (lines now more : List LineFacts) (shared kept : List SharedPaths) → now ≡ lines ++ more → kept ≡ shared → All (SharePaths lines) shared → All (SharePaths now) kept
no_more_shared lines now more shared kept longer same all =
    subst (λ ls. All (SharePaths ls) kept) (sym longer) (subst (All (SharePaths (lines ++ more))) (sym same) (all_shared lines more shared all))

-- the item at a place of a list that is lent
pub item_at : (lines lent : List LineFacts) (at : ℕ) (line : LineFacts) → lent ≡ lines → at < length lent → line ≡ get_or lent at line → slice_get lines at ≡ Some line
item_at lines lent at line same inside is =
    subst (λ ls. slice_get ls at ≡ Some line) same (slice_get-get_or lent at line inside ∙ ap (λ x. Some x) (sym is))
