-- A volume that was just mounted holds the tree of its image.
use Rattle.std.specs.Bool.{⊤}
use Rattle.std.proofs.Common.{◌≡◌, ◌≤◌, ◌+◌, ◌-◌, ◌*◌, ◌^◌, refl, sym, ap, ◌∙◌, subst, ℕ, true, false, List, [], ◌∷◌, length, take, nat_lt, arith}
use Rattle.std.specs.List.{AllByRecursion}
use Rattle.std.proofs.lemmas.List.{length-map, length-set, length-take}
use Rattle.std.proofs.lemmas.List.FromFn.{length-map-range_with_len}
use Rattle.jfs_disk.specs.Image.{Image, page_of}
use Rattle.jfs_super.specs.Rules.{blocks_of}
use Rattle.jfs_super.specs.declared.fields.Super.{Super}
use Rattle.jfs_shown.specs.imap.specs.Inodes.{Inodes}
use Rattle.jfs_shown.specs.bmap.specs.States.{Blocks, is_owned}
use Rattle.jfs_shown.specs.bmap.proofs.Views.{length-each_below}
use Rattle.jfs_shown.specs.map_files.specs.declared.map_file.MapFiles.{MapFiles}
use Rattle.jfs_shown.specs.objects.specs.Image.{file_extents, file_has, area_on, extent_on, extents_on, iags_on}
use Rattle.jfs_shown.specs.objects.specs.Owners.{covers}
use Rattle.jfs_shown.specs.objects.specs.Readers.{Readers}
use Rattle.jfs_shown.specs.objects.proofs.Blocks.{covered}
use Rattle.jfs_shown.specs.meaning.specs.Readers.{readers}
use Rattle.jfs_shown.specs.meaning.specs.Tree.{tree_on}
use Rattle.jfs_shown.specs.meaning.specs.Room.{room_on}
use Rattle.jfs_shown.specs.objects.specs.Volume.{Volume}
use Rattle.jfs_shown.specs.Files.{KnowsFiles}
use Rattle.jfs_unmount.proofs.Known.{mount_law}
use Rattle.jfs_alike.specs.Alike.{AreAlike}
use Rattle.jfs_alike.proofs.Alike.{alike_law}
use Rattle.jfs_unmount.specs.mounted.proofs.Marked.{area_there}
use Rattle.jfs_unmount.specs.mounted.proofs.Started.{marked_same}
use Rattle.jfs_call.specs.crash_core.specs.Core.{fresh_block}
use Rattle.std.proofs.lemmas.Bool.{and_parts, ltb-true}
use Rattle.jfs_served.proofs.Room.{same_room}
use Rattle.jfs_shown.specs.meaning.specs.Consistent.{IsConsistent}
use Rattle.jfs_shown.specs.meaning.specs.Image.{tree_of, IsConsistentImage}
use Rattle.jfs_shown.specs.meaning.specs.Image as meaning
use Rattle.jfs_shown.specs.way.specs.Volume.{volume_of, PlacesWithin}
use Rattle.jfs_room.specs.Laws.{NoneReserved}
use Rattle.jfs_entered.specs.Marked.{HasBits}
use Rattle.jfs_unmount.specs.mounted.specs.Mount.{IsMountOf}
use Rattle.jfs_unmount.specs.mounted.specs.mount_rules.specs.Mount.{iags}
use Rattle.jfs_unmount.specs.mounted.specs.mount_rules.specs.Subject.{Subject, subject_of, volume}
use Rattle.jfs_unmount.specs.mounted.specs.sets.specs.Sets.{extent_from}
use Rattle.jfs_call.specs.volume.specs.MapsHome.{HoldsNone}
use Rattle.jfs_call.specs.halves.specs.Laws.{fresh_halves}
use Rattle.jfs_call.specs.halves.specs.Log.{LogParts}
use Rattle.jfs_call.specs.halves.specs.Parts.{Parts, StandsFor, IsFreed}
use Rattle.jfs_call.specs.halves.specs.declared.freed.FreedPage.{FreedPage}
use Rattle.jfs_call.specs.plain.specs.Moves.{Same}
use Rattle.jfs_served.specs.Holds.{blocks_at, IsBusyPage}
use Rattle.jfs_served.specs.Laws.{HoldsImage, MountedLaw}

-- no entry has freed a page
none_freed : (m : Blocks) (fs : List FreedPage) → AllByRecursion (IsFreed []) fs → AllByRecursion (IsBusyPage m) fs
none_freed m [] all = tt
none_freed m (f ∷ fs) all = absurd (cc (all.0.3))

-- a page of a map's file lies in a fixed area
in_area : (s : Super) (page : ℕ → List ℕ) (b : ℕ) → covers b (file_extents (readers (blocks_of s)) page 2) + covers b (file_extents (readers (blocks_of s)) page 16) ≤ area_on (readers (blocks_of s)) s.ait2 s.aim2 page b
unfolding area_on file_has
in_area s page b = omega arith

-- the inode map has 128 places for each IAG
places_are : (r : Readers) (page : ℕ → List ℕ) → length (extents_on r page) ≡ 128 * iags_on r page
unfolding extents_on
places_are r page = length-map-range_with_len (extent_on r page) 0 (128 * iags_on r page)

module _ (s : Super) (old : Image) (p : Parts) (log : LogParts) (m : IsMountOf ⊤ ⊥ s old p log) (fits : blocks_of s ≤ p.blocks) (consistent : IsConsistentImage s (page_of old)) where
  abbrev subject : Subject
  subject = subject_of s (page_of old)

  abbrev area : ℕ → ℕ
  area = (meaning.volume_of s (page_of old)).area

  stands_for : StandsFor true false p (fresh_halves (s.logpxd.len - 2) (record { pages = m.pages; map = m.maps.blocks; inodes = m.maps.inodes })).volume
  stands_for = m.fresh true false (λ e. tt) (λ e. cc (e))

  size : blocks_at p ≡ blocks_of s
  size = ap (λ (x : Blocks). length x.states) m.has_maps.0 ∙ m.rest.number

  -- what is said of the maps that were found is said of the volume's
  moved : (P : ℕ → Image → Blocks → Inodes → Type 0) → P (blocks_of s) m.pages m.maps.blocks m.maps.inodes → P (blocks_at p) p.view p.map p.inodes
  moved P h = subst (λ (k : ℕ). P k p.view p.map p.inodes) (sym size) (subst (λ (image : Image). P (blocks_of s) image p.map p.inodes) (sym (stands_for.view refl))
      (subst (λ (x : Blocks). P (blocks_of s) m.pages x p.inodes) (sym m.has_maps.0) (subst (λ (x : Inodes). P (blocks_of s) m.pages m.maps.blocks x) (sym m.has_maps.1) h)))

  holds_none : (b : ℕ) → area b ≡ 0 → HoldsNone m.maps.files b
  holds_none b zero = (
    (λ n h. (let c = covered (file_extents (readers (blocks_of s)) (page_of old) 2) n b ((m.found tt).block_places n b h) in let a = in_area s (page_of old) b in absurd (omega (arith, c, a, zero)))),
    (λ n h. (let c = covered (file_extents (readers (blocks_of s)) (page_of old) 16) n b ((m.found tt).inode_places n b h) in let a = in_area s (page_of old) b in absurd (omega (arith, c, a, zero)))),
  )

  bits : length m.maps.inodes.taken ≡ 32 * length m.maps.inodes.extents
  bits =
      let taken : length m.maps.inodes.taken ≡ 4096 * iags subject = ap (λ (x : Inodes). length x.taken) (m.found tt).inodes_are ∙ length-each_below (4096 * iags subject) (volume subject).in_use in
      let places : length m.maps.inodes.extents ≡ 128 * iags subject = ap (λ (x : Inodes). length x.extents) (m.found tt).inodes_are ∙ length-map (volume subject).extents extent_from ∙ places_are (readers (blocks_of s)) (page_of old) in
      omega (arith, taken, places)

  -- ---- the room, whatever the superblock's page has since

  inside : blocks_of s ≤ s.logpxd.addr
  inside =
      let number = stands_for.number in
      let blocks = length-map m.pages fresh_block in
      let pages = ap (λ (image : Image). length image) (m.marked tt) ∙ length-set (take s.logpxd.addr old) 8 _ in
      let front = length-take s.logpxd.addr old in
      omega (arith, fits, number, blocks, pages, front)

  abbrev before : Volume
  before = volume_of (page_of old) area m.maps.blocks m.maps.inodes

  abbrev after : Volume
  after = volume_of (page_of m.pages) area m.maps.blocks m.maps.inodes

  alike : AreAlike before after
  alike = record {
    extents = refl;
    area = λ b. refl;
    used = λ b. refl;
    in_use = λ n. refl;
    pages = λ b used zero. marked_same s old m.pages inside (m.marked tt) b
        (λ e. (let first = area_there (readers (blocks_of s)) s.ait2 s.aim2 (page_of old) in let none = ap area (sym e) in absurd (omega (arith, first, zero, none))))
        (let l = ltb-true b (length m.maps.blocks.states) (and_parts (nat_lt b (length m.maps.blocks.states)) (is_owned m.maps.blocks b) used).0 in let number = m.rest.number in omega (arith, l, number));
  }

  consistent_before : IsConsistent (readers (blocks_of s)) before
  consistent_before = subst (λ (x : Volume). IsConsistent (readers (blocks_of s)) x) (sym (m.found tt).volume_is) consistent

  room_is : room_on (readers (blocks_of s)) after (blocks_of s) s.logpxd.len ≡ meaning.room_of s (page_of old)
  room_is = same_room (blocks_of s) before after consistent_before.sound alike (alike_law (readers (blocks_of s)) before after consistent_before alike) s.logpxd.len
      ∙ ap (λ (x : Volume). room_on (readers (blocks_of s)) x (blocks_of s) s.logpxd.len) (m.found tt).volume_is

  pub mounted : HoldsImage s (page_of old) p
  mounted = record {
    serves = record {
      holds = record {
        consistent = moved (λ (k : ℕ) (image : Image) (x : Blocks) (i : Inodes). IsConsistent (readers k) (volume_of (page_of image) area x i)) (m.keeps tt consistent).consistent;
        limit = m.has_maps.2 ∙ m.rest.limit;
        within = omega (arith, fits, size);
        places = moved (λ (k : ℕ) (image : Image) (x : Blocks) (i : Inodes). PlacesWithin k i) m.rest.within;
        few = subst (λ (x : Inodes). length x.extents ≤ 2 ^ 27) (sym m.has_maps.1) m.rest.rest.places;
        bits = subst (λ (x : Inodes). HasBits x) (sym m.has_maps.1) bits;
        freed = none_freed p.map p.freed stands_for.freed;
        areas = λ b zero. subst (λ (f : MapFiles). HoldsNone f b) (sym m.has_maps.3) (holds_none b zero);
      };
      none = subst (λ (x : Blocks). NoneReserved x) (sym m.has_maps.0) m.rest.rest.none;
    };
    tree = moved (λ (k : ℕ) (image : Image) (x : Blocks) (i : Inodes). Same (tree_of s (page_of old)) (tree_on (readers k) (volume_of (page_of image) area x i))) (m.keeps tt consistent).tree;
    room = moved (λ (k : ℕ) (image : Image) (x : Blocks) (i : Inodes). room_on (readers k) (volume_of (page_of image) area x i) k s.logpxd.len ≡ meaning.room_of s (page_of old)) room_is;
    knows = λ whole. moved (λ (k : ℕ) (image : Image) (x : Blocks) (i : Inodes). KnowsFiles s (page_of image) area x i p.files)
        (subst (λ (f : MapFiles). KnowsFiles s (page_of m.pages) area m.maps.blocks m.maps.inodes f) (sym m.has_maps.3)
        (mount_law s (page_of old) (page_of m.pages) m.maps m.rest (m.found tt) consistent whole (marked_same s old m.pages inside (m.marked tt))));
  }

pub mounted_law : MountedLaw
mounted_law = mounted
