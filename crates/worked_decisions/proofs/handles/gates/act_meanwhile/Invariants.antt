use Rattle.worked_decisions.proofs.handles.gates.act_meanwhile.Given as goal

abbrev pub ghosts-decided_apart : goal.ghosts-decided_apart
ghosts-decided_apart g a = record { name = a.blank.name; parts = a.blank.parts }
