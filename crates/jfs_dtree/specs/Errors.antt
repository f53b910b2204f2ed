-- How errors are handed on.
use Rattle.jfs_ranges.specs.declared.view.ViewError.TheVariants as view
use Rattle.jfs_tree.specs.declared.form.TreeError.{TreeError}
use Rattle.jfs_tree.specs.declared.form.TreeError.TheVariants as tree
use Rattle.jfs_dtree.specs.declared.error.DtError.{DtError}
use Rattle.jfs_dtree.specs.declared.error.DtError.TheVariants.{View, Bad}

-- want of memory is the view's
abbrev pub handed_on : TreeError → DtError
handed_on (tree.View e) = View e
handed_on (tree.Bad page rule) = Bad page rule
handed_on tree.Memory = View view.Memory
