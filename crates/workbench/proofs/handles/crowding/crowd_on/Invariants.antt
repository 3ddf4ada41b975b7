use Rattle.workbench.proofs.handles.crowding.crowd_on.Given as goal

abbrev pub ghosts-gather : goal.ghosts-gather
ghosts-gather g a = record { name = a.blank.name; parts = a.blank.parts }
