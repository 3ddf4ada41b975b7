use Rattle.worked_decisions.proofs.handles.gates.is_long_for_one.Given as goal

abbrev pub ghosts-choose_of_many : goal.ghosts-choose_of_many
ghosts-choose_of_many g a = record { name = a.blank.name; parts = a.blank.parts }
