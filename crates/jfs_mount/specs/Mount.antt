-- What a mount looks at, in its order. (This project's profile: a volume that breaks one of these isn't read further.)
use Rattle.std.specs.Prelude.{ℕ, suc, ◌+◌, ◌*◌, ◌/◌, ◌%◌, Bool, false, not, ◌&&◌, ◌||◌, ◌==◌, nat_le, List, [], ◌∷◌, is_some, Option, Some, None, unwrap_or}
use Rattle.std.specs.List.{range_with_len, prefix_len}
use Rattle.jfs_bits.specs.declared.descriptor.Pxd.{Pxd}
use Rattle.jfs_bits.specs.declared.rule.Rule.{Rule}
use Rattle.jfs_bits.specs.declared.rule.Rule.TheVariants as rules
use Rattle.jfs_bits.specs.Broken.{Row, first_broken}
use Rattle.jfs_bits.specs.Descriptor.{pxd_of}
use Rattle.jfs_bits.specs.Field.{field_of}
use Rattle.jfs_inode.specs.Rules.{type_of}
use Rattle.jfs_iag.specs.Canonical.{is_there}
use Rattle.jfs_bmap.specs.MapFile.{pages_of}
use Rattle.jfs_reader.specs.objects.specs.Volume.{home, slot_of}
use Rattle.jfs_reader.specs.objects.specs.Contents.{block_of}
use Rattle.jfs_reader.specs.objects.specs.Image.{file_extents, file_page, iag_page, iags_on}
use Rattle.jfs_mount.specs.Subject.{Subject, blocks, volume}
use Rattle.jfs_mount.specs.declared.bad.BadMount.{BadMount as Bad}

-- a rule that a mount looks at, with the page that breaks it and the value there
abbrev pub BadMount : Type 0
BadMount = Bad

abbrev row : Rule → ℕ → ℕ → Bool → Row BadMount
row rule page value holds = record { answer = record { rule = rule; page = page; value = value }; holds = holds }

-- the block that page `j` of a file of the aggregate stands on
abbrev pub place : Subject → ℕ → ℕ → Option ℕ
place s k j = block_of (file_extents s.readers s.page k) j

abbrev pub page_of_file : Subject → ℕ → ℕ → ℕ
page_of_file s k j = unwrap_or (place s k j) 0

-- how many of a file's first `n` pages stand on a block, up to the first one that doesn't
unfoldable pub covered : Subject → ℕ → ℕ → ℕ
covered s k n = prefix_len (λ j. is_some (place s k j)) (range_with_len 0 n)

-- the pages of the inode map: its control page, and one for each inode allocation group (IAG)
abbrev pub iags : Subject → ℕ
iags s = iags_on s.readers s.page

-- The descriptor of inode extent `e`. An extent that is there has four blocks of the file system part.
abbrev pub extent_at : Subject → ℕ → Pxd
extent_at s e = pxd_of (iag_page s.readers s.page (e / 128)) (3072 + 8 * (e % 128))

abbrev pub fits_extent : Subject → ℕ → Bool
fits_extent s e = not (is_there (extent_at s e)) || ((extent_at s e).len == 4 && nat_le ((extent_at s e).addr + 4) (blocks s))

-- how many of the first extents fit, up to the first one that doesn't
unfoldable pub fitting : Subject → ℕ
fitting s = prefix_len (fits_extent s) (range_with_len 0 (128 * iags s))

-- ---- the rules

-- Pages 11 and 13 have the aggregate's inodes 2 and 16, the block map's file and the inode map's. Their extents cover all their pages.
abbrev pub bmap_row : Subject → Row BadMount
bmap_row s = row rules.Bmap 11 (covered s 2 (pages_of (blocks s))) (covered s 2 (pages_of (blocks s)) == pages_of (blocks s))

abbrev pub imap_row : Subject → Row BadMount
imap_row s = row rules.Imap 13 (covered s 16 (suc (iags s))) (covered s 16 (suc (iags s)) == suc (iags s))

-- the map is of as many blocks as the volume has
abbrev pub mapsize_row : Subject → Row BadMount
mapsize_row s = row rules.Mapsize (page_of_file s 2 0) (field_of (file_page s.readers s.page 2 0) 0 8) (field_of (file_page s.readers s.page 2 0) 0 8 == blocks s)

-- there are 1 to 65,536 IAGs
abbrev pub nextiag_row : Subject → Row BadMount
nextiag_row s = row rules.Nextiag (page_of_file s 16 0) (iags s) (nat_le 1 (iags s) && nat_le (iags s) 65536)

-- inode extents lie within the file system part
abbrev pub extents_row : Subject → Row BadMount
extents_row s = row rules.Extents (page_of_file s 16 (suc (fitting s / 128))) (extent_at s (fitting s)).addr (fitting s == 128 * iags s)

-- inode 2, the root, is a directory
abbrev pub root_row : Subject → Option ℕ → Row BadMount
root_row s None = row rules.Root (page_of_file s 16 1) 0 false
root_row s (Some page) = row rules.Root page (slot_of (s.page page) 2).mode (type_of (slot_of (s.page page) 2) == 0x4000)

-- those on the maps: log redo looks at no other
unfoldable pub map_rows : Subject → List (Row BadMount)
map_rows s = bmap_row s ∷ imap_row s ∷ mapsize_row s ∷ nextiag_row s ∷ extents_row s ∷ []

unfoldable pub mount_rows : Subject → List (Row BadMount)
mount_rows s = bmap_row s ∷ imap_row s ∷ mapsize_row s ∷ nextiag_row s ∷ extents_row s ∷ root_row s (home (volume s).extents 2) ∷ []

-- the first rule on the maps that is broken
abbrev pub broken_maps : Subject → Option BadMount
broken_maps s = first_broken (map_rows s)

-- the first rule that a mount finds broken
abbrev pub broken_mount : Subject → Option BadMount
broken_mount s = first_broken (mount_rows s)
