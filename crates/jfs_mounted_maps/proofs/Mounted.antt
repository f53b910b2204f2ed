-- A volume that was mounted from a keepable image is held, and has its maps.
use Rattle.std.specs.Bool.{⊤}
use Rattle.std.proofs.Common.{◌≡◌, ◌≤◌, ◌<◌, ◌-◌, nat_lt, not, ℕ, length, take, None, ap, ◌∙◌, arith}
use Rattle.std.proofs.lemmas.Bool.{ltb-true, and_parts}
use Rattle.std.proofs.lemmas.List.{length-set, length-take}
use Rattle.jfs_disk.specs.Image.{Image, page_of}
use Rattle.jfs_super.specs.Rules.{blocks_of}
use Rattle.jfs_super.specs.declared.fields.Super.{Super}
use Rattle.jfs_super.proofs.Rules.{accepted_layout, accepted_log}
use Rattle.jfs_volume_calls.specs.halves.specs.Log.{LogParts}
use Rattle.jfs_volume_calls.specs.halves.specs.Parts.{Parts}
use Rattle.jfs_mounted_held.specs.unmount.specs.mounted.specs.Mount.{IsMountOf}
use Rattle.jfs_mounted_held.specs.unmount.specs.mounted.proofs.Started.{marked_same}
use Rattle.jfs_mount.specs.Mount.{broken_mount}
use Rattle.jfs_mount.specs.Subject.{Subject, subject_of}
use Rattle.jfs_shown.specs.kinds.specs.Images.{HasWholeFiles}
use Rattle.jfs_shown.specs.meaning.specs.Image as meaning
use Rattle.jfs_shown.specs.meaning.specs.Readers.{readers}
use Rattle.jfs_mounted_held.specs.mounted_places.specs.held.specs.survival.specs.face.specs.Mounted.{HasMapPages}
use Rattle.jfs_mounted_held.specs.mounted_places.specs.held.specs.canonical_maps.specs.Laws.{HasMapBytes}
use Rattle.jfs_held_maps.specs.Maps.{KeepsMaps}
use Rattle.jfs_held_maps.proofs.Kept.{replaced}
use Rattle.jfs_held_maps.proofs.Places.{first_law, area_within}
use Rattle.jfs_mounted_held.specs.mounted_places.specs.held.specs.survival.specs.face.specs.Places.{is_map_page}
use Rattle.jfs_held_maps.proofs.Mounted.{mounted_law as has_maps}
use Rattle.jfs_mounted_held.specs.joined_held.specs.Held.{volume_at}
use Rattle.jfs_mounted_held.specs.mounted_places.specs.Mounted.{SetsPast, mount_of}
use Rattle.jfs_mounted_held.specs.mounted_places.specs.Places.{groups_of, places_of}
use Rattle.jfs_mounted_held.specs.mounted_places.specs.held.specs.survival.specs.recovery.specs.Face.{Pages}
use Rattle.jfs_shown.specs.objects.specs.Readers.{Readers}
use Rattle.jfs_mounted_held.specs.Mounted.{low_of, from_mount, shown_by, IsSoundMount}
use Rattle.jfs_mounted_held.proofs.Mounted.{mounted_law as is_held, low_is, is_mounted}
use Rattle.jfs_mounted_maps.specs.Keepable.{IsKeepableMount, IsHeldFromMount, MountedLaw}
use Rattle.jfs_mounted_maps.proofs.Keepable.{has_map_pages}
use Rattle.jfs_mounted_maps.proofs.Rules.{unbroken, past, bytes}

module _ (s : Super) (old : Image) (p : Parts) (log : LogParts) (m : IsMountOf ⊤ ⊥ s old p log) (to : IsKeepableMount s old m.pages) where
  abbrev pub r : Readers
  r = readers (blocks_of s)

  abbrev pub sub : Subject
  sub = subject_of s (page_of old)

  abbrev pub low : Pages
  low = low_of m.pages

  abbrev pub area : ℕ → ℕ
  area = (meaning.volume_of s (page_of old)).area

  consistent : meaning.IsConsistentImage s (page_of old)
  consistent = to.keepable.consistent

  files : HasWholeFiles r (page_of old)
  files = to.keepable.files

  mounts : broken_mount sub ≡ None
  mounts = (m.found tt).unbroken

  -- ---- the pages that are shown are those of the image, but for the superblock's

  inside : blocks_of s ≤ s.logpxd.addr
  inside = (accepted_layout s (length old) to.accepted).behind

  room : blocks_of s ≤ length m.pages
  room =
      let ends = accepted_log s (length old) to.accepted in
      let pages = ap (λ (image : Image). length image) (m.marked tt) ∙ length-set (take s.logpxd.addr old) 8 _ in
      let front = length-take s.logpxd.addr old in
      omega (arith, inside, ends, pages, front)

  same : (q : ℕ) → q < blocks_of s → (q ≡ 8 → ⊥) → low q ≡ page_of old q
  same q below other = low_is m.pages q (omega (arith, below, room)) ∙ marked_same s old m.pages inside (m.marked tt) q other below

  -- ---- the maps

  has_pages : HasMapPages r (blocks_of s) (page_of old)
  has_pages = has_map_pages s (page_of old) mounts

  sets_past : SetsPast (places_of s low) low
  sets_past = past s (page_of old) low consistent.sound files same to.keepable.past

  map_bytes : HasMapBytes (places_of s low) low
  map_bytes = bytes s (page_of old) low consistent.sound files same has_pages to.bytes

  pub sound : IsSoundMount s (length old) old m.pages
  sound = record {
    accepted = to.accepted;
    group = to.group;
    whole = to.whole;
    room = room;
    consistent = consistent;
    files = files;
    bytes = map_bytes;
    past = sets_past;
  }

  maps : KeepsMaps (mount_of s low) (from_mount s old m)
  maps = has_maps s (length old) (s.logpxd.len - 2) low (shown_by m) area m.maps.files (is_mounted s (length old) old p log m sound) (unbroken s (page_of old) low consistent.sound files same mounts)

  -- the core's image has the page of the superblock that the mount wrote
  pub superblock : (from_mount s old m).core.mounted 8 ≡ page_of m.pages 8
  superblock =
      let first = is_held s (length old) old p log m sound in
      let at = (first.held.images 0 (omega arith)).is.stands in
      let eight = first_law r (blocks_of s) s.agsize (groups_of s) s.ait2 s.aim2 (places_of s low) (from_mount s old m).core.mounted at 8 (omega arith) in
      let below = area_within r (blocks_of s) s.agsize (groups_of s) s.ait2 s.aim2 (places_of s low) (from_mount s old m).core.mounted at 8 (ltb-true 0 ((places_of s low).area 8) (and_parts (nat_lt 0 ((places_of s low).area 8)) (not (is_map_page (places_of s low) 8)) eight).0) in
      (first.held.images 0 (omega arith)).fixed 8 eight ∙ low_is m.pages 8 (omega (arith, below, room))

  pub held : IsHeldFromMount s old p log m
  held = record { held = is_held s (length old) old p log m sound; maps = replaced (mount_of s low) (from_mount s old m) (volume_at area p) (from_mount s old m).volumes maps }

pub superblock_law : (s : Super) (old : Image) (p : Parts) (log : LogParts) (m : IsMountOf ⊤ ⊥ s old p log) → IsKeepableMount s old m.pages → (from_mount s old m).core.mounted 8 ≡ page_of m.pages 8
superblock_law s old p log m to = superblock s old p log m to

pub mounted_law : MountedLaw
mounted_law s old p log m to = held s old p log m to
