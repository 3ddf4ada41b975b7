use Rattle.worked_decisions.proofs.handles.gates.is_decided_outside.Given as goal

abbrev pub ghosts-hold : goal.ghosts-hold
ghosts-hold g a = record { name = a.blank.name; parts = a.blank.parts }
