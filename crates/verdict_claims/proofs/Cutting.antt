-- What nothing meets, nothing meets with more members.
use Rattle.std.proofs.Common.{◌≡◌, List, [], ◌∷◌, ◌++◌, Option, Some, None, refl}
use Rattle.list_lemmas.specs.Some.{AreSomeOf}
use Rattle.list_lemmas.proofs.CallerLemmas.{some_itself, some_taken, some_left_out, some_map, All-some}
use Rattle.sysmem_counts.proofs.CallerLemmas.{counted_some}
use Rattle.sysmem_merge.specs.declared.settings.Settings.{Settings}
use Rattle.offer_fits.specs.Demands.{counts_asked}
use Rattle.sysmem_merge.specs.Laws.{SomeAreMet}
use Rattle.sysmem_merge.specs.Settings.{CoversOn}
use Rattle.negotiation_inputs.specs.Participant.{Participant}
use Rattle.negotiation_inputs.specs.Platform.{PlatformFacts}
use Rattle.sysmem_tree.specs.Forest.{settled}
use Rattle.sysmem_tree.specs.Shape.{Member}
use Rattle.sysmem_tree.specs.Sublist.{IsSublist, ended, taken, left_out}
use Rattle.verdict_claims.specs.Base.{Terms}
use Rattle.verdict_claims.specs.Laws.{CutsLoseNothing}
use Rattle.verdict_claims.specs.Members.{participants}
use Rattle.verdict_claims.specs.Verdict.{MeetsFixed}
use Rattle.verdict_claims.proofs.Growing.{sub_itself, sub_both, settled_grows}

-- a list with elements left out is some of it
pub some_of_sublist : {X : Type 0} (some all : List X) → IsSublist some all → AreSomeOf some all
some_of_sublist _ _ ended = some_itself []
some_of_sublist _ _ (taken x some all among) = some_taken x some all (some_of_sublist some all among)
some_of_sublist _ _ (left_out x some all among) = some_left_out x some all (some_of_sublist some all among)

-- more members in the same order have more participants in the same order
pub participants_some : (some all : List Member) → IsSublist some all → IsSublist (participants some) (participants all)
participants_some _ _ ended = ended
participants_some _ _ (taken m some all among) = by_case m.constraints refl (participants_some some all among) where
  by_case : (c : Option Participant) → m.constraints ≡ c → IsSublist (participants some) (participants all) → IsSublist (participants (m ∷ some)) (participants (m ∷ all))
  by_case None is rest = rw is rest
  by_case (Some p) is rest = rw is (taken p (participants some) (participants all) rest)
participants_some _ _ (left_out m some all among) = by_case m.constraints refl (participants_some some all among) where
  by_case : (c : Option Participant) → m.constraints ≡ c → IsSublist (participants some) (participants all) → IsSublist (participants some) (participants (m ∷ all))
  by_case None is rest = rw is rest
  by_case (Some p) is rest = rw is (left_out p (participants some) (participants all) rest)

pub participants_among : (some all : List Member) → IsSublist some all → AreSomeOf (participants some) (participants all)
participants_among some all among = some_of_sublist (participants some) (participants all) (participants_some some all among)

-- settings that meet members of an attached domain meet some of them
pub fixed_some : (platform : PlatformFacts) (terms : Terms) (some all : List Member) (t : Settings) → IsSublist some all → MeetsFixed platform terms all t → MeetsFixed platform terms some t
fixed_some platform terms some all t among met = record {
  same = met.same;
  covers = All-some (CoversOn platform t) (participants some) (participants all) (participants_among some all among) met.covers;
  counted = counted_some (counts_asked (participants (terms.accepted ++ some))) (counts_asked (participants (terms.accepted ++ all))) t.count
      (some_map (λ p. p.counts) (participants (terms.accepted ++ some)) (participants (terms.accepted ++ all))
      (participants_among (terms.accepted ++ some) (terms.accepted ++ all) (sub_both terms.accepted terms.accepted some all (sub_itself terms.accepted) among))) met.counted;
}

pub cuts_lose_nothing : SomeAreMet → CutsLoseNothing
cuts_lose_nothing met_by_some platform None d none selection e t s met =
    none t (met_by_some platform (participants (settled d)) (participants (settled e)) t (participants_among (settled d) (settled e) (settled_grows selection d e s.leads)) met.loosely)
cuts_lose_nothing met_by_some platform (Some terms) d none selection e t s met =
    none t (fixed_some platform terms (settled d) (settled e) t (settled_grows selection d e s.leads) met)
