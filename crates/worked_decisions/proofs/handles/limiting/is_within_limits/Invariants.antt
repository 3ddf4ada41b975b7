use Rattle.worked_decisions.proofs.handles.limiting.is_within_limits.Given as goal

abbrev pub ghosts-host : goal.ghosts-host
ghosts-host g a = record { name = a.blank.name; parts = a.blank.parts }
