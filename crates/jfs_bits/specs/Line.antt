-- The kinds of pages that the log names: their numbers, and their lines, the unit of the changes that are logged. (JFS Log, REDOPAGE: page type, l2linesize.)
use Rattle.std.specs.Prelude.{ℕ, ◌^◌}
use Rattle.jfs_bits.specs.declared.rule.PageKind.{PageKind}
use Rattle.jfs_bits.specs.declared.rule.PageKind.TheVariants as kinds

-- the page type of such a page that isn't new
abbrev pub kind_number : PageKind → ℕ
kind_number kinds.Inode = 1
kind_number kinds.Xtree = 2
kind_number kinds.Dtree = 4
kind_number kinds.Index = 8

-- a line of such a page has 2 to this power bytes
abbrev pub l2_line : PageKind → ℕ
l2_line kinds.Inode = 7
l2_line kinds.Xtree = 4
l2_line kinds.Dtree = 5
l2_line kinds.Index = 4

abbrev pub line_size : PageKind → ℕ
line_size kind = 2 ^ l2_line kind
