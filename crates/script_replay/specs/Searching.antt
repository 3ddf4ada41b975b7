-- What a search for verdicts keeps.
use Rattle.std.specs.Prelude.{ℕ}
use Rattle.script_replay.specs.declared.searching.Searching.{Searching}

-- how many prefixes its searches visited so far
abbrev pub visits_of : Searching → ℕ
visits_of s = s.visits
