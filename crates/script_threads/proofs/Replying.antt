-- The replies to calls, one event after another.
use Rattle.std.proofs.Common.{◌≡◌, ◌<◌, ◌≤◌, ℕ, ◌+◌, ◌++◌, List, [], ◌∷◌, take, length, get_or, map, sym, ◌∙◌, ap}
use Rattle.std.proofs.lemmas.List.{map-append, take_all, take_more}
use Rattle.std.proofs.lemmas.List.Elements.{filter_map-append}
use Rattle.script_replay.specs.Among.{replies_in, reply_in}
use Rattle.script_replay.specs.Events.{EventFacts, event_seen}
use Rattle.script_replay.specs.declared.event.Event.{Event}
use Rattle.script_replay.specs.declared.reply.Reply.{Reply}

-- the replies before an event, and the one to it, if it is a call
pub reply_more : (events : List Event) (i : ℕ) (one : Event) (old new : List Reply) → i < length events → one ≡ get_or events i one → old ≡ replies_in (map event_seen (take i events))
    → new ≡ old ++ replies_in (event_seen one ∷ []) → new ≡ replies_in (map event_seen (take (i + 1) events))
reply_more events i one old new below is before more =
    let here = take_more events i one below ∙ ap (λ (x : Event). take i events ++ x ∷ []) (sym is) in
    let seen = ap (map event_seen) here ∙ map-append event_seen (take i events) (one ∷ []) in
    more ∙ (ap (λ rs. rs ++ replies_in (event_seen one ∷ [])) before
    ∙ (sym (filter_map-append reply_in (map event_seen (take i events)) (event_seen one ∷ [])) ∙ ap replies_in (sym seen)))

-- at the end they are those to all calls
pub replies_all : (events : List Event) (i : ℕ) (seen : List EventFacts) (replies : List Reply) → length events ≤ i → map event_seen events ≡ seen → replies ≡ replies_in (map event_seen (take i events)) → replies ≡ replies_in seen
replies_all events i seen replies all same is = is ∙ (ap (λ (es : List Event). replies_in (map event_seen es)) (take_all i events all) ∙ ap replies_in same)
