-- Whether an object may go where it is to go, whatever the volume holds.
use Rattle.std.specs.Prelude.{ℕ, ◌==◌, Bool, true, false, if◌then◌else◌, Option, Some, None, Result, Ok, Err}
use Rattle.jfs_dtree.specs.Spells.{root_node}
use Rattle.jfs_link.specs.meaning.specs.Readers.{root_of}
use Rattle.jfs_link.specs.objects.specs.Objects.{has_names}
use Rattle.jfs_plain.specs.Tree.{and_then}
use Rattle.jfs_plain.specs.Step.{why_barred}
use Rattle.jfs_plain.specs.declared.refusal.Refusal.{Refusal}
use Rattle.jfs_plain.specs.declared.refusal.Refusal.TheVariants.{IntoItself, IsDir, NotDir, FileTooBig}
use Rattle.jfs_link.specs.way.specs.declared.object.Held.{Held}
use Rattle.jfs_unlink.specs.Call.{bare_at, is_last_of_big}
use Rattle.jfs_rename_steps.specs.declared.moving.Moving.{Moving}
use Rattle.jfs_rename.specs.declared.permits.Asked.{Asked}
use Rattle.jfs_rename.specs.declared.permits.Asked.TheVariants.{Same, Free, Over}

abbrev pub unless_barred : Option Refusal → Result (Unit {0}) Refusal
unless_barred None = Ok tt
unless_barred (Some why) = Err why

-- Where nothing stands: by the causes of the plain step, told of inodes.
abbrev pub free_check : Moving → Bool → Result (Unit {0}) Refusal
free_check moving inside = unless_barred (why_barred (has_names moving.object.inode) inside (moving.source.number == moving.target.number) moving.target.inode.nlink)

-- an empty directory's root is a leaf without names
abbrev pub bare_check : ℕ → Held → Result (Unit {0}) Refusal
bare_check blocks there = and_then (bare_at there (root_node blocks (root_of there.inode))) (λ it. Ok tt)

-- Where another object stands: a directory takes the place of an empty one, and another object that of another.
abbrev pub over_check : ℕ → ℕ → Held → Held → Bool → Result (Unit {0}) Refusal
over_check blocks limit object there inside = if has_names object.inode
    then (if inside then Err IntoItself else (if has_names there.inode then bare_check blocks there else Err NotDir))
    else (if has_names there.inode then Err IsDir else (if is_last_of_big limit there.inode then Err FileTooBig else Ok tt))

-- Two names of one object change nothing.
abbrev pub permitted : ℕ → ℕ → Moving → Bool → Option Held → Result Asked Refusal
permitted blocks limit moving inside None = and_then (free_check moving inside) (λ it. Ok (Free moving))
permitted blocks limit moving inside (Some there) = if there.number == moving.object.number then Ok Same else and_then (over_check blocks limit moving.object there inside) (λ it. Ok (Over moving there))
