use Rattle.workbench.proofs.handles.repeating.repeat_handles.Given as goal

abbrev pub ghosts-play_once : goal.ghosts-play_once
ghosts-play_once g a = record { name = a.blank.name; parts = a.blank.parts }
