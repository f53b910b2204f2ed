-- The places of the maps.
use Rattle.std.proofs.Common.{◌≡◌, ◌⊎◌, ◌≤◌, ◌<◌, ◌&&◌, ◌==◌, nat_le, nat_lt, ℕ, true, List, get_or, is_some, unwrap_or, Option, Some, refl, ap, inl, inr, arith}
use Rattle.std.specs.Int.{div_ceil, is_power_of_two}
use Rattle.std.proofs.lemmas.Bool.{or_cases, and_parts, eqb-true, leb-true, ltb-true}
use Rattle.std.proofs.lemmas.Option.{slice_get-get_or}
use Rattle.jfs_bits.specs.declared.rule.Rule.TheVariants as rules
use Rattle.jfs_bits.specs.Broken.{Row}
use Rattle.jfs_bits.proofs.Broken.{each_holds}
use Rattle.jfs_super.specs.Rules.{rows, shape_rows, flag_rows, size_rows, log_rows, blocks_of, IsAccepted}
use Rattle.jfs_super.specs.declared.fields.Super.{Super}
use Rattle.jfs_super.specs.declared.read.BadSuper.{BadSuper}
use Rattle.jfs_super.proofs.Rules.{accepted_layout}
use Rattle.jfs_shown.specs.imap.specs.Inodes.{Inodes}
use Rattle.jfs_shown.specs.bmap.specs.States.{Blocks}
use Rattle.jfs_shown.specs.bmap.specs.MapFile.{pages_of, is_in_use}
use Rattle.jfs_shown.specs.bmap.proofs.GroupNumbers.{div_ceil-same}
use Rattle.jfs_shown.specs.map_files.specs.declared.map_file.MapFiles.{MapFiles}
use Rattle.jfs_shown.specs.objects.specs.Contents.{block_of}
use Rattle.jfs_shown.specs.objects.specs.Image.{file_extents, iags_on}
use Rattle.jfs_shown.specs.objects.specs.Readers.{Readers}
use Rattle.jfs_shown.specs.meaning.specs.Readers.{readers}
use Rattle.jfs_shown.specs.meaning.specs.Consistent.{IsConsistent}
use Rattle.jfs_shown.specs.way.specs.Volume.{volume_of}
use Rattle.jfs_shown.specs.Shown.{ShowsMaps}
use Rattle.jfs_shown.specs.Laws.{SpellsVolume}
use Rattle.jfs_shown.specs.Files.{KnowsFiles}
use Rattle.jfs_shown.proofs.Files.{written_law}
use Rattle.jfs_shown.proofs.Image.{image_law}
use Rattle.jfs_mounted_places.specs.Places.{groups_of, FitLaw, StandsInPlaces, KnownLaw}

-- ---- numbers

few_groups : (s : Super) (pages : ℕ) → IsAccepted s pages → groups_of s ≤ 128
unfolding rows shape_rows flag_rows size_rows log_rows
few_groups s pages h =
    let fine : Row BadSuper = record { answer = record { rule = rules.Short; value = 0 }; holds = true } in
    let row = and_parts (is_power_of_two s.agsize && nat_le 8192 s.agsize) (nat_le (div_ceil (blocks_of s) s.agsize) 128) (each_holds (rows s pages) 13 fine h refl) in
    let group = leb-true 8192 s.agsize (and_parts (is_power_of_two s.agsize) (nat_le 8192 s.agsize) row.0).1 in
    let few = leb-true (div_ceil (blocks_of s) s.agsize) 128 row.1 in
    let same = div_ceil-same (blocks_of s) s.agsize (omega (arith, group)) in
    omega (arith, few, same)

pub fit_law : FitLaw
fit_law s pages page accepted group few =
    let layout = accepted_layout s pages accepted in
    let least = layout.least in
    record {
      block_map = record {
        groups = record { some = omega (arith, least); least = layout.group; power = layout.power; most = layout.groups };
        most = layout.most;
        group_size = group;
      };
      iags = few;
      groups = few_groups s pages accepted;
    }

-- ---- files

-- a page that is in use is one of the file
pub in_file : (blocks k : ℕ) → is_in_use blocks k ≡ true → k < pages_of blocks
in_file blocks k e = at (or_cases (k == 0) (nat_le 3 k && nat_lt k (pages_of blocks)) e)
  where
    at : (k == 0 ≡ true) ⊎ ((nat_le 3 k && nat_lt k (pages_of blocks)) ≡ true) → k < pages_of blocks
    at (inl zero) = let none = eqb-true k 0 zero in omega (arith, none)
    at (inr both) = ltb-true k (pages_of blocks) (and_parts (nat_le 3 k) (nat_lt k (pages_of blocks)) both).1

there : (o : Option ℕ) (b : ℕ) → o ≡ Some b → is_some o ≡ true
there o b e = ap (λ (x : Option ℕ). is_some x) e

module _ (s : Super) (page : ℕ → List ℕ) (area : ℕ → ℕ) (blocks : Blocks) (inodes : Inodes) (files : MapFiles) (knows : KnowsFiles s page area blocks inodes files) where
  abbrev r : Readers
  r = readers (blocks_of s)

  block_there : (k : ℕ) → k < pages_of (blocks_of s) → is_some (block_of (file_extents r page 2) k) ≡ true
  block_there k l =
      let b = get_or files.blocks.places k 0 in
      let pages = knows.block_pages in
      there (block_of (file_extents r page 2) k) b (knows.block_places k b (slice_get-get_or files.blocks.places k 0 (omega (arith, l, pages))))

  inode_there : (k : ℕ) → k ≤ inodes.iags → is_some (block_of (file_extents r page 16) k) ≡ true
  inode_there k l =
      let b = get_or files.inodes.places k 0 in
      let pages = knows.inode_pages in
      there (block_of (file_extents r page 16) k) b (knows.inode_places k b (slice_get-get_or files.inodes.places k 0 (omega (arith, l, pages))))

  pub stand : ShowsMaps s page blocks inodes → IsConsistent r (volume_of page area blocks inodes) → StandsInPlaces s page area blocks inodes files
  stand shows consistent =
      let spells : SpellsVolume s page area blocks inodes = image_law s page area blocks inodes knows.sizes knows.areas shows consistent in
      let number : iags_on r page ≡ inodes.iags = shows.inode_map 0 (omega arith) in
      record {
        volume_is = spells.volume_is;
        stands = record {
          sound = spells.consistent.sound;
          files = knows.whole;
          pages = record { block_map = λ k used. block_there k (in_file (blocks_of s) k used); inode_map = λ k low. inode_there k (omega (arith, low, number)) };
          places = refl;
        };
        iags = number;
        block_places = λ k b e. ap (λ (o : Option ℕ). unwrap_or o 0) (knows.block_places k b e);
        inode_places = λ k b e. ap (λ (o : Option ℕ). unwrap_or o 0) (knows.inode_places k b e);
      }

pub known_law : KnownLaw
known_law s page area blocks inodes files knows fresh same consistent = stand s page area blocks inodes files knows (written_law s page area blocks inodes files knows fresh same) consistent
