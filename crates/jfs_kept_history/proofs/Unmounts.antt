-- An image that a kept volume leaves when it is unmounted is keepable again.
use Rattle.std.proofs.Common.{◌≡◌, ◌<◌, nat_lt, not, ℕ, suc, true, true≢false, List, length, refl, sym, ap, ◌∙◌, subst, arith}
use Rattle.std.proofs.lemmas.Bool.{and_parts}
use Rattle.jfs_bits.specs.Bits.{is_taken}
use Rattle.jfs_bits.specs.Field.{range_of}
use Rattle.jfs_disk.specs.Image.{page_of}
use Rattle.jfs_super.specs.Rules.{blocks_of}
use Rattle.jfs_super.specs.declared.fields.Super.{Super}
use Rattle.jfs_legal.specs.served.specs.halves.specs.Parts.{Parts}
use Rattle.jfs_legal.specs.served.specs.shown.specs.meaning.specs.Consistent.{IsConsistent}
use Rattle.jfs_legal.specs.served.specs.shown.specs.meaning.specs.Image as meaning
use Rattle.jfs_legal.specs.served.specs.shown.specs.meaning.specs.Readers.{readers}
use Rattle.jfs_legal.specs.served.specs.shown.specs.objects.specs.Volume.{Volume}
use Rattle.jfs_mounted_maps.specs.mounted_held.specs.mounted_places.specs.Mounted.{SetsPast}
use Rattle.jfs_mounted_maps.specs.mounted_held.specs.mounted_places.specs.Places.{groups_of, places_of, StandsInPlaces}
use Rattle.jfs_mounted_maps.specs.mounted_held.specs.mounted_places.proofs.Places.{known_law, in_file}
use Rattle.jfs_mounted_maps.specs.mounted_held.specs.mounted_places.specs.held.specs.survival.specs.face.specs.Places.{Places, is_map_page}
use Rattle.jfs_mounted_maps.specs.mounted_held.specs.mounted_places.specs.held.specs.survival.specs.face.proofs.Reading.{block_page}
use Rattle.jfs_mounted_maps.specs.Keepable.{IsKeepable}
use Rattle.jfs_mounted_maps.proofs.Rules.{past, whole_files}
use Rattle.jfs_kept_history.specs.Kept.{Lasting, IsKeptSince}
use Rattle.jfs_crashes_redone.specs.held_maps.proofs.Places.{first_law}
use Rattle.jfs_kept_history.specs.Unmounted.{IsHomeVolume, HasPagesOf, UnmountedAgainLaw}

module _ (s : Super) (page : ℕ → List ℕ) (start : Parts) (list : List Lasting) (points : List ℕ) (p : Parts) (left : ℕ → List ℕ) (k : IsKeptSince s page start list points p)
    (volume : IsHomeVolume s (meaning.volume_of s page).area p) (has : HasPagesOf p left) (consistent : meaning.IsConsistentImage s left) where
  abbrev view : ℕ → List ℕ
  view = page_of p.view

  -- where the maps stood at the mount
  abbrev pl : Places
  pl = places_of s k.low

  stands : StandsInPlaces s view (meaning.volume_of s page).area p.map p.inodes p.files
  stands = known_law s view (meaning.volume_of s page).area p.map p.inodes p.files volume.files volume.home.block_map volume.home.inode_map volume.consistent

  image : meaning.IsConsistentImage s view
  image = subst (λ (v : Volume). IsConsistent (readers (blocks_of s)) v) stands.volume_is volume.consistent

  -- a page of a map is one of the volume's part of the disk
  there : (q : ℕ) → is_map_page pl q ≡ true → q < length k.keeper.both.volume.blocks
  there q is_map = k.kept.rests.held.held.maps_within q is_map

  -- nor is it the superblock's
  other : (q : ℕ) → is_map_page pl q ≡ true → q ≡ 8 → ⊥
  other q is_map e =
      let fixed = first_law (readers (blocks_of s)) (blocks_of s) s.agsize (groups_of s) s.ait2 s.aim2 pl k.keeper.core.mounted (k.kept.rests.held.held.images 0 (omega arith)).is.stands 8 (omega arith) in
      let none = (and_parts (nat_lt 0 (pl.area 8)) (not (is_map_page pl 8)) fixed).1 in
      true≢false (sym none ∙ ap not (subst (λ (n : ℕ). is_map_page pl n ≡ true) e is_map))

  -- what the volume shows of it was read from the disk
  read : (q : ℕ) → is_map_page pl q ≡ true → view q ≡ (k.keeper.core.slots q).block.pages.seen
  read q is_map =
      let at = there q is_map in
      let below : q < p.blocks = let number = k.kept.rests.stands.number in omega (arith, at, number) in
      sym (has.pages q (other q is_map) below)
      ∙ has.disk q (other q is_map) below
      ∙ k.kept.rests.stands.disk refl q at
      ∙ ap (λ h. h.seen) (sym (k.kept.rests.held.held.core_is.each q at).written)

  sets : SetsPast (places_of s view) view
  sets n i used beyond small =
      let m : ℕ = suc (suc (suc (suc n))) in
      let place : (places_of s view).block_map m ≡ pl.block_map m = stands.block_places m (pl.block_map m) (k.kept.pages.stand.block_map m used) in
      let within = in_file (blocks_of s) m used in
      ap (λ (q : ℕ). is_taken (range_of (view q) 3072 1024) i) place
      ∙ ap (λ (bytes : List ℕ). is_taken (range_of bytes 3072 1024) i) (read (pl.block_map m) (block_page pl m within used))
      ∙ (k.kept.rests.maps.sizes (pl.block_map m)).seen.past n i within used refl beyond small

  same : (b : ℕ) → b < blocks_of s → (b ≡ 8 → ⊥) → left b ≡ view b
  same b below other = has.pages b other (let room = k.kept.rests.maps.room in let number = k.kept.rests.stands.number in omega (arith, below, room, number))

  pub keepable : IsKeepable s left
  keepable = record {
    consistent = consistent;
    files = whole_files s view left image.sound volume.files.whole same;
    past = past s view left image.sound volume.files.whole same sets;
  }

pub unmounted_again_law : UnmountedAgainLaw
unmounted_again_law s page start list points p k left volume has consistent = keepable s page start list points p left k volume has consistent
