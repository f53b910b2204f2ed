-- A volume that was just mounted is held.
use Rattle.std.specs.Bool.{⊤}
use Rattle.std.proofs.Common.{◌≡◌, ◌⊎◌, ◌<◌, ◌≤◌, ◌-◌, ◌*◌, ◌&&◌, nat_le, nat_lt, refl, sym, ap, ◌∙◌, subst, ℕ, true, false, List, length, take, map, replicate, inl, inr, arith}
use Rattle.std.proofs.lemmas.Bool.{cases_Bool, and_parts, leb-true, lt-ltb, ltb-true, cond-true, cond-false}
use Rattle.std.proofs.lemmas.List.{length-map, length-set, length-take, length-replicate}
use Rattle.jfs_bits.specs.declared.rule.Rule.TheVariants as rules
use Rattle.jfs_bits.specs.Broken.{Row}
use Rattle.jfs_bits.proofs.Broken.{each_holds}
use Rattle.jfs_disk.specs.Image.{Image, page_of}
use Rattle.jfs_super.specs.Rules.{blocks_of}
use Rattle.jfs_super.specs.declared.fields.Super.{Super}
use Rattle.jfs_unmount.specs.volume_calls.specs.crash_core.specs.Core.{fresh_block}
use Rattle.jfs_unmount.specs.volume_calls.specs.halves.specs.Laws.{fresh_halves}
use Rattle.jfs_unmount.specs.volume_calls.specs.halves.specs.Log.{LogParts}
use Rattle.jfs_unmount.specs.volume_calls.specs.halves.specs.Parts.{Parts, StandsFor}
use Rattle.jfs_unmount.specs.mounted.specs.Laws.{SameButSuper}
use Rattle.jfs_unmount.specs.mounted.specs.Mount.{IsMountOf}
use Rattle.jfs_unmount.specs.mounted.specs.mount_maps.specs.Maps.{blocks_on}
use Rattle.jfs_unmount.specs.mounted.specs.mount_rules.specs.Mount.{BadMount, iags, mount_rows}
use Rattle.jfs_unmount.specs.mounted.specs.mount_rules.specs.Subject.{Subject, subject_of}
use Rattle.jfs_unmount.specs.mounted.proofs.Marked.{marked_law}
use Rattle.jfs_unmount.specs.mounted.proofs.Started.{marked_same}
use Rattle.jfs_unmount.proofs.Known.{mount_law}
use Rattle.jfs_shown.specs.imap.specs.Inodes.{Inodes}
use Rattle.jfs_shown.specs.bmap.specs.States.{Blocks, is_owned}
use Rattle.jfs_shown.specs.objects.specs.Image.{extent_place}
use Rattle.jfs_shown.specs.objects.specs.Readers.{Readers}
use Rattle.jfs_shown.specs.meaning.specs.Consistent.{IsConsistent}
use Rattle.jfs_shown.specs.meaning.specs.Image as meaning
use Rattle.jfs_shown.specs.meaning.specs.Readers.{readers}
use Rattle.jfs_shown.specs.way.specs.Volume.{volume_of}
use Rattle.jfs_shown.specs.Files.{KnowsFiles}
use Rattle.jfs_joined_held.specs.Held.{blocks_at, volume_at, IsHeldAs}
use Rattle.jfs_mounted_places.specs.held.specs.survival.specs.recovery.specs.Face.{Pages}
use Rattle.jfs_mounted_places.specs.held.specs.Changes.{HasTheSame}
use Rattle.jfs_mounted_places.specs.held.proofs.Kept.{replaced}
use Rattle.jfs_mounted_places.specs.Mounted.{IsMounted, mount_of}
use Rattle.jfs_mounted_places.specs.Places.{StandsInPlaces}
use Rattle.jfs_mounted_places.proofs.Mounted.{mounted_law as held_law}
use Rattle.jfs_mounted_places.proofs.Places.{known_law}
use Rattle.jfs_mounted_held.specs.Mounted.{low_of, shown_by, from_mount, IsSoundMount, MountedLaw}

pub low_is : (image : Image) (p : ℕ) → p < length image → low_of image p ≡ page_of image p
low_is image p l = cond-true (nat_lt p (length image)) (page_of image p) (replicate 4096 0) (lt-ltb p (length image) l)

low_size : (image : Image) → ((p : ℕ) → p < length image → length (page_of image p) ≡ 4096) → (p : ℕ) → length (low_of image p) ≡ 4096
low_size image whole p = by (cases_Bool (nat_lt p (length image)))
  where
    by : (nat_lt p (length image) ≡ true) ⊎ (nat_lt p (length image) ≡ false) → length (low_of image p) ≡ 4096
    by (inl e) = ap (λ (a : List ℕ). length a) (cond-true (nat_lt p (length image)) (page_of image p) (replicate 4096 0) e) ∙ whole p (ltb-true p (length image) e)
    by (inr e) = ap (λ (a : List ℕ). length a) (cond-false (nat_lt p (length image)) (page_of image p) (replicate 4096 0) e) ∙ length-replicate {A = ℕ} 4096 0

module _ (s : Super) (count : ℕ) (old : Image) (p : Parts) (log : LogParts) (m : IsMountOf ⊤ ⊥ s old p log) (sound : IsSoundMount s count old m.pages) where
  abbrev pub r : Readers
  r = readers (blocks_of s)

  abbrev pub subject : Subject
  subject = subject_of s (page_of old)

  abbrev pub area : ℕ → ℕ
  area = (meaning.volume_of s (page_of old)).area

  abbrev pub low : Pages
  low = low_of m.pages

  stands_for : StandsFor true false p (fresh_halves (s.logpxd.len - 2) (record { pages = m.pages; map = m.maps.blocks; inodes = m.maps.inodes })).volume
  stands_for = m.fresh true false (λ e. tt) (λ e. cc (e))

  size : blocks_at p ≡ blocks_of s
  size = ap (λ (x : Blocks). length x.states) m.has_maps.0 ∙ m.rest.number

  inside : blocks_of s ≤ s.logpxd.addr
  inside =
      let room = sound.room in
      let pages = ap (λ (image : Image). length image) (m.marked tt) ∙ length-set (take s.logpxd.addr old) 8 _ in
      let front = length-take s.logpxd.addr old in
      omega (arith, room, pages, front)

  same : SameButSuper s (page_of old) low
  same b other below = low_is m.pages b (let room = sound.room in omega (arith, below, room)) ∙ marked_same s old m.pages inside (m.marked tt) b other below

  pub knows : KnowsFiles s low area m.maps.blocks m.maps.inodes m.maps.files
  knows = mount_law s (page_of old) low m.maps m.rest (m.found tt) sound.consistent sound.files same

  consistent : IsConsistent r (volume_of low area m.maps.blocks m.maps.inodes)
  consistent = subst (λ (x : Blocks). IsConsistent r (volume_of low area x m.maps.inodes)) (sym (m.found tt).blocks_are)
      (subst (λ (i : Inodes). IsConsistent r (volume_of low area (blocks_on subject) i)) (sym (m.found tt).inodes_are) (marked_law s (page_of old) low sound.consistent same).consistent)

  numbers : (1 ≤ m.maps.inodes.iags) × (m.maps.inodes.iags ≤ 65536)
  unfolding mount_rows
  numbers =
      let fine : Row BadMount = record { answer = record { rule = rules.Bmap; page = 0; value = 0 }; holds = true } in
      let row = and_parts (nat_le 1 (iags subject)) (nat_le (iags subject) 65536) (each_holds (mount_rows subject) 3 fine (m.found tt).unbroken refl) in
      let high_number = leb-true 1 (iags subject) row.0 in
      let low_number = leb-true (iags subject) 65536 row.1 in
      let same_number : m.maps.inodes.iags ≡ iags subject = ap (λ (i : Inodes). i.iags) (m.found tt).inodes_are in
      (omega (arith, high_number, same_number), omega (arith, low_number, same_number))

  pub is_mounted : IsMounted s count low (shown_by m) area m.maps.files
  is_mounted = record {
    accepted = sound.accepted;
    group = sound.group;
    some = numbers.0;
    few = numbers.1;
    room = sound.room;
    sizes = low_size m.pages sound.whole.sizes;
    shows = low_is m.pages;
    knows = knows;
    blocks_fresh = m.rest.fresh.0;
    inodes_fresh = m.rest.fresh.1;
    consistent = consistent;
    bytes = sound.bytes;
    past = sound.past;
  }

  view : p.view ≡ m.pages
  view = stands_for.view refl

  same_now : HasTheSame (volume_of low area m.maps.blocks m.maps.inodes) (volume_at area p)
  same_now = record {
    extents = ap (λ (i : Inodes). map extent_place i.extents) m.has_maps.1;
    area = λ b. refl;
    used = λ b. ap (λ (x : Blocks). nat_lt b (length x.states) && is_owned x b) m.has_maps.0;
    in_use = λ n. ap (λ (i : Inodes). (volume_of low area m.maps.blocks i).in_use n) m.has_maps.1;
    pages = λ b used. (
        let below = ltb-true b (length m.maps.blocks.states) (and_parts (nat_lt b (length m.maps.blocks.states)) (is_owned m.maps.blocks b) used).0 in
        let number = m.rest.number in
        let room = sound.room in
        ap (λ (image : Image). page_of image b) view ∙ sym (low_is m.pages b (omega (arith, below, number, room))));
  }

  pub places : StandsInPlaces s low area m.maps.blocks m.maps.inodes m.maps.files
  places = known_law s low area m.maps.blocks m.maps.inodes m.maps.files knows m.rest.fresh.0 m.rest.fresh.1 consistent

  pub held : IsHeldAs (mount_of s low) area p (from_mount s old m).both (from_mount s old m).core (from_mount s old m).volumes
  held = record {
    held = replaced (mount_of s low) (from_mount s old m) (volume_at area p) (held_law s count (s.logpxd.len - 2) low (shown_by m) area m.maps.files is_mounted) same_now;
    readers_are = ap readers size;
    blocks = sym size;
    extents = ap (λ (i : Inodes). length i.extents) m.has_maps.1 ∙ knows.sizes.places_are ∙ ap (λ (k : ℕ). 128 * k) (sym places.iags);
    within = (let room = sound.room in let many = length-map m.pages fresh_block in omega (arith, size, room, many));
  }

pub mounted_law : MountedLaw
mounted_law s count old p log m sound = held s count old p log m sound
