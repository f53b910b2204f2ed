use Rattle.jfs_run.proofs.run.run_lines.Given as goal

-- what the volume is mounted from: the disk's image, and the superblock that was handed in
abbrev pub ghosts-run_from : goal.ghosts-run_from
ghosts-run_from g a = record { block = a.s.now; image = g.D.Disk.image a.disk }
