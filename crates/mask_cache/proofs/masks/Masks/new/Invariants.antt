use Rattle.mask_cache.proofs.masks.Masks.new.Given as goal

abbrev pub ghosts-masks_on : goal.ghosts-masks_on
ghosts-masks_on a = record { name = a.blank.name; parts = a.blank.parts }
