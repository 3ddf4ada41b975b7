use Rattle.workbench.proofs.handles.taking.take_again.Given as goal

abbrev pub ghosts-take_once : goal.ghosts-take_once
ghosts-take_once g a = record { name = a.blank.name; parts = a.blank.parts }
