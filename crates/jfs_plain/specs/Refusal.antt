-- The refusals' numbers and names, as they are printed.
use Rattle.std.specs.Prelude.{ℕ, List, codes}
use Rattle.jfs_plain.specs.declared.refusal.Refusal.{Refusal}
use Rattle.jfs_plain.specs.declared.refusal.Refusal.TheVariants as refusals

abbrev pub number_of : Refusal → ℕ
number_of refusals.NotFound = 1
number_of refusals.NotDir = 2
number_of refusals.IsDir = 3
number_of refusals.NotFile = 4
number_of refusals.Exists = 5
number_of refusals.NotEmpty = 6
number_of refusals.TooManyLinks = 7
number_of refusals.FileTooBig = 8
number_of refusals.IntoItself = 9
number_of (refusals.NoSpace free) = 10
number_of refusals.NoInodes = 11
number_of (refusals.ReadOnly fault) = 12
number_of (refusals.IoFault fault) = 13
number_of refusals.OutOfMemory = 14
number_of (refusals.Damaged page rule) = 15
number_of (refusals.TooDeep inode) = 16

abbrev pub name_of : Refusal → List ℕ
name_of refusals.NotFound = codes "NotFound"
name_of refusals.NotDir = codes "NotDir"
name_of refusals.IsDir = codes "IsDir"
name_of refusals.NotFile = codes "NotFile"
name_of refusals.Exists = codes "Exists"
name_of refusals.NotEmpty = codes "NotEmpty"
name_of refusals.TooManyLinks = codes "TooManyLinks"
name_of refusals.FileTooBig = codes "FileTooBig"
name_of refusals.IntoItself = codes "IntoItself"
name_of (refusals.NoSpace free) = codes "NoSpace"
name_of refusals.NoInodes = codes "NoInodes"
name_of (refusals.ReadOnly fault) = codes "ReadOnly"
name_of (refusals.IoFault fault) = codes "IoFault"
name_of refusals.OutOfMemory = codes "OutOfMemory"
name_of (refusals.Damaged page rule) = codes "Damaged"
name_of (refusals.TooDeep inode) = codes "TooDeep"
