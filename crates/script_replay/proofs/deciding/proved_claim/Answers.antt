use Rattle.script_replay.proofs.deciding.proved_claim.Goals as goal

pub search-requires-clause-ready : goal.search-requires-clause-ready
search-requires-clause-ready c = c.requires.waits.ready

pub returns : goal.returns
returns c = record { optimal = c.in_ok-found.ensures.optimal; proved = c.in_ok-proof.ensures.proved }
