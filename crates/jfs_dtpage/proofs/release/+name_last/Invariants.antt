use Rattle.jfs_dtpage.proofs.release.+name_last.Given as goal

abbrev pub decreases-name_last : goal.decreases-name_last
decreases-name_last l = l.more
