-- How errors are handed on.
use Rattle.jfs_ranges.specs.declared.view.ViewError.TheVariants as view
use Rattle.jfs_tree.specs.declared.form.TreeError.{TreeError}
use Rattle.jfs_tree.specs.declared.form.TreeError.TheVariants as tree
use Rattle.jfs_xtree.specs.declared.error.XtError.{XtError}
use Rattle.jfs_xtree.specs.declared.error.XtError.TheVariants.{View, Bad}

-- want of memory is the view's
abbrev pub handed_on : TreeError → XtError
handed_on (tree.View e) = View e
handed_on (tree.Bad page rule) = Bad page rule
handed_on tree.Memory = View view.Memory
