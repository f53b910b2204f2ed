use Rattle.jfs_files.proofs.naming.name_outcome.Goals as goal

pub returns-in-Mkdir-clause-follows : goal.returns-in-Mkdir-clause-follows
returns-in-Mkdir-clause-follows g c tells between area con log_pages limit = rw c.in-Mkdir.is (c.new_outcome.ensures.follows tells between area con log_pages limit)

pub returns-in-Create-clause-follows : goal.returns-in-Create-clause-follows
returns-in-Create-clause-follows g c tells between area con log_pages limit = rw c.in-Create.is (c.new_outcome-in-Create.ensures.follows tells between area con log_pages limit)

pub returns-in-Symlink-clause-follows : goal.returns-in-Symlink-clause-follows
returns-in-Symlink-clause-follows g c tells between area con log_pages limit = rw c.in-Symlink.is (rw c.as_slice.ensures at (c.new_outcome-in-Symlink.ensures.follows tells between area con log_pages limit))

pub returns-in-Link-clause-follows : goal.returns-in-Link-clause-follows
returns-in-Link-clause-follows g c tells between area con log_pages limit = rw c.in-Link.is (c.link_outcome.ensures.follows tells between area con log_pages limit)
