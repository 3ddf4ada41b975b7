-- What is among events: the replies to calls, and what was decided.
use Rattle.std.specs.Prelude.{List, Option, Some, None}
use Rattle.std.specs.List.{filter_map}
use Rattle.script_replay.specs.Events.{EventFacts, becomes, called, decided, failed, pending}
use Rattle.script_replay.specs.Report.{Certified}
use Rattle.script_replay.specs.declared.reply.Reply.{Reply}

-- the reply, if a call was made or refused
abbrev pub reply_in : EventFacts → Option Reply
reply_in (called number r reply) = Some reply
reply_in (becomes path fate) = None

-- the replies, in the order of the calls
abbrev pub replies_in : List EventFacts → List Reply
replies_in events = filter_map reply_in events

-- the path of a domain with the claim of its decision, if one was taken
abbrev pub decision_in : EventFacts → Option Certified
decision_in (called number r reply) = None
decision_in (becomes path (decided claim k)) = Some (path, claim)
decision_in (becomes path failed) = None
decision_in (becomes path pending) = None

-- the decisions, in their order
abbrev pub decided_in : List EventFacts → List Certified
decided_in events = filter_map decision_in events
