use Rattle.workbench.proofs.handles.happened.script_after.Given as goal

abbrev pub ghosts-collection_after : goal.ghosts-collection_after
ghosts-collection_after g a = record { name = a.blank.name; parts = a.blank.parts }
