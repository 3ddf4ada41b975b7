-- What the program knows after some calls.
use Rattle.std.specs.Prelude.{ℕ, List, map}
use Rattle.std.specs.Borrow.{Bor}
use Rattle.script_reading.specs.declared.known.KnownNames.{KnownNames}
use Rattle.script_reading.specs.Script.{KnownFacts}

-- the texts that some references point to
abbrev pub texts : List (Bor (List ℕ)) → List (List ℕ)
texts refs = map (λ r. r.now) refs

-- what the program keeps as known, by its texts
abbrev pub known_seen : KnownNames → KnownFacts
known_seen k = record { names = texts k.names.keys; actors = texts k.actors.keys }
