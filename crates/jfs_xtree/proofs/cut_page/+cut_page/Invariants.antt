use Rattle.jfs_xtree.proofs.cut_page.+cut_page.Given as goal

-- proposed from what the function passes where it calls itself
abbrev pub decreases-cut_page : goal.decreases-cut_page
decreases-cut_page g l = l.most
