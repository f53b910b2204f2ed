-- Which calls may change the tree.
use Rattle.std.specs.Prelude.{Bool, true, false}
use Rattle.jfs_plain.specs.declared.call.Call.{Call}
use Rattle.jfs_plain.specs.declared.call.Call.TheVariants as calls

abbrev pub is_changing : Call → Bool
is_changing (calls.Mkdir path mode) = true
is_changing (calls.Create path mode) = true
is_changing (calls.Symlink path target) = true
is_changing (calls.Link from to) = true
is_changing (calls.Unlink path) = true
is_changing (calls.Rmdir path) = true
is_changing (calls.Rename from to) = true
is_changing (calls.Chmod path mode) = true
is_changing (calls.Write path offset bytes) = true
is_changing (calls.Fill path offset count byte) = true
is_changing (calls.Truncate path size) = true
is_changing (calls.Read path offset count) = false
is_changing (calls.Stat path) = false
is_changing (calls.List path) = false
is_changing (calls.Readlink path) = false
is_changing calls.Sync = false
