use Rattle.guild_replica.proofs.masks.masks_then.Given as goal

abbrev pub ghosts-mended : goal.ghosts-mended
ghosts-mended a = record { name = a.blank.name; parts = a.blank.parts }
