-- What the walk of a path meets on a volume, whatever the volume holds: the inode at its end, or why it ends before. (POSIX: path resolution.)
use Rattle.std.specs.Prelude.{ℕ, ◌%◌, nat_lt, if◌then◌else◌, List, [], ◌∷◌, Option, Some, None, Result, Ok, Err}
use Rattle.jfs_bits.specs.Broken.{first_broken}
use Rattle.jfs_bits.specs.declared.rule.Rule.{Rule}
use Rattle.jfs_bits.specs.declared.rule.Rule.TheVariants as rules
use Rattle.jfs_inode.specs.Rules.{rows}
use Rattle.jfs_inode.specs.declared.read.BadInode.{BadInode}
use Rattle.jfs_imap.specs.Inodes.{Inodes, home_of}
use Rattle.jfs_tree.specs.Spells.{no_page}
use Rattle.jfs_reader.specs.dtree.specs.Spells.{broken_for, found_for}
use Rattle.jfs_reader.specs.objects.specs.Volume.{slot_of}
use Rattle.jfs_reader.specs.objects.specs.Objects.{has_names}
use Rattle.jfs_reader.specs.meaning.specs.Readers.{root_of}
use Rattle.jfs_reader.specs.plain.specs.Tree.{root, and_then}
use Rattle.jfs_reader.specs.plain.specs.declared.refusal.Refusal.{Refusal}
use Rattle.jfs_reader.specs.plain.specs.declared.refusal.Refusal.TheVariants.{NotFound, NotDir, Damaged}
use Rattle.jfs_way.specs.Answer.{at_root}
use Rattle.jfs_way.specs.declared.object.Held.{Held}

-- ---- an inode

-- the inode with a number, as it stands on a page
abbrev pub held_on : (ℕ → List ℕ) → ℕ → ℕ → Held
held_on pages n page = record { number = n; page = page; inode = slot_of (pages page) (n % 8) }

-- It is damaged where it breaks a rule, the first one.
abbrev pub if_whole : Held → Option BadInode → Result Held Refusal
if_whole o None = Ok o
if_whole o (Some bad) = Err (Damaged o.page bad.rule)

abbrev pub checked : Held → Result Held Refusal
checked o = if_whole o (first_broken (rows o.inode o.number))

-- its page, where its extent is there and the page lies within the file system part of so many blocks
abbrev pub if_within : ℕ → Option ℕ → Option ℕ
if_within blocks None = None
if_within blocks (Some page) = if nat_lt page blocks then Some page else None

abbrev pub place_of : ℕ → Inodes → ℕ → Option ℕ
place_of blocks inodes n = if_within blocks (home_of inodes n)

-- An inode without such a page breaks the rule `fields`, at the page of the inode of the directory that names it.
abbrev pub inode_on : (ℕ → List ℕ) → ℕ → ℕ → Option ℕ → Result Held Refusal
inode_on pages above n None = Err (Damaged above rules.Fields)
inode_on pages above n (Some page) = checked (held_on pages n page)

abbrev pub inode_at : ℕ → (ℕ → List ℕ) → Inodes → ℕ → ℕ → Result Held Refusal
inode_at blocks pages inodes above n = inode_on pages above n (place_of blocks inodes n)

-- ---- a name

-- the inode that is named, if there is one
abbrev pub inode_named : ℕ → (ℕ → List ℕ) → Inodes → ℕ → Option ℕ → Result Held Refusal
inode_named blocks pages inodes above None = Err NotFound
inode_named blocks pages inodes above (Some n) = inode_at blocks pages inodes above n

-- The directory is damaged where a page on the name's way breaks a rule, the first one; its root stands on its inode's page.
abbrev pub if_unbroken : ℕ → Option (ℕ × Rule) → Result Held Refusal → Result Held Refusal
if_unbroken page None there = there
if_unbroken page (Some bad) there = Err (Damaged (at_root page bad.0) bad.1)

-- what a name leads to from an inode
abbrev pub name_from : ℕ → (ℕ → List ℕ) → Inodes → Held → List ℕ → Result Held Refusal
name_from blocks pages inodes at name = if has_names at.inode
    then if_unbroken at.page (broken_for blocks pages (root_of at.inode) name) (inode_named blocks pages inodes at.page (found_for blocks pages (root_of at.inode) name))
    else Err NotDir

-- ---- a path

abbrev pub path_from : ℕ → (ℕ → List ℕ) → Inodes → Held → List (List ℕ) → Result Held Refusal
path_from blocks pages inodes at [] = Ok at
path_from blocks pages inodes at (name ∷ names) = and_then (name_from blocks pages inodes at name) (λ next. path_from blocks pages inodes next names)

-- From the root on. Nothing names the root.
abbrev pub path_of : ℕ → (ℕ → List ℕ) → Inodes → List (List ℕ) → Result Held Refusal
path_of blocks pages inodes path = and_then (inode_at blocks pages inodes no_page root) (λ at. path_from blocks pages inodes at path)
