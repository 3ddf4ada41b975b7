use Rattle.worked_decisions.proofs.handles.gates.is_decided_by_two.Given as goal

abbrev pub ghosts-choose : goal.ghosts-choose
ghosts-choose g a = record { name = a.blank.name; parts = a.blank.parts }
