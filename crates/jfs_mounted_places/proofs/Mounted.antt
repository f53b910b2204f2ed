-- A volume that was just mounted is held.
use Rattle.std.proofs.Common.{◌≡◌, ◌≤◌, ◌<◌, nat_lt, ℕ, zero, suc, true, true≢false, length, map, Option, Some, None, IsSome, refl, sym, ap, ◌∙◌, subst, inl, inr, arith}
use Rattle.std.proofs.lemmas.Bool.{and_parts, ltb-true}
use Rattle.std.proofs.lemmas.List.{length-map}
use Rattle.jfs_super.specs.Rules.{blocks_of}
use Rattle.jfs_super.specs.declared.fields.Super.{Super}
use Rattle.jfs_shown.specs.bmap.specs.States.{BlockState, Free, Owned, Reserved, Busy, is_owned, is_owned_state, state_of}
use Rattle.jfs_shown.specs.map_files.specs.declared.map_file.MapFiles.{MapFiles}
use Rattle.jfs_shown.specs.objects.specs.Readers.{Readers}
use Rattle.jfs_shown.specs.objects.specs.Volume.{Volume}
use Rattle.jfs_shown.specs.kinds.specs.Owner.{Owner, owner_of, is_logged}
use Rattle.jfs_shown.specs.meaning.specs.Readers.{readers}
use Rattle.jfs_shown.specs.way.specs.Volume.{volume_of}
use Rattle.jfs_held_volumes.specs.survival.specs.halves.specs.Entry.{Shown}
use Rattle.jfs_held_volumes.specs.survival.specs.halves.specs.Laws.{fresh_halves}
use Rattle.jfs_held_volumes.specs.survival.specs.recovery.specs.crash_core.specs.Core.{fresh_block}
use Rattle.jfs_held_volumes.specs.survival.specs.recovery.specs.Face.{Face, Pages, IsStart}
use Rattle.jfs_held_volumes.specs.survival.specs.recovery.specs.Core.{image as image_at}
use Rattle.jfs_held_volumes.specs.survival.specs.recovery.specs.Mount.{fresh, IsMounted as IsMountedFace}
use Rattle.jfs_held_volumes.specs.survival.specs.recovery.specs.Sound.{Cares}
use Rattle.jfs_held_volumes.specs.survival.specs.recovery.specs.crash_core.specs.Sound.{SameCell}
use Rattle.jfs_held_volumes.specs.survival.specs.face.specs.Items.{cell}
use Rattle.jfs_held_volumes.specs.survival.specs.face.specs.Places.{Places, AreInAreas, is_map_page}
use Rattle.jfs_held_volumes.specs.survival.specs.face.specs.MapPages.{IsCanonicalPage}
use Rattle.jfs_held_volumes.specs.survival.specs.face.specs.Volume.{items_on}
use Rattle.jfs_held_volumes.specs.survival.specs.face.proofs.Owned.{map_matters}
use Rattle.jfs_held_volumes.specs.survival.specs.Stands.{IsCoreOf}
use Rattle.jfs_held_volumes.specs.survival.specs.Busy.{HasStates}
use Rattle.jfs_held_volumes.specs.survival.specs.MapMarks.{map_marks}
use Rattle.jfs_held_volumes.specs.survival.proofs.Seen.{seen_law}
use Rattle.jfs_held_volumes.specs.survival.proofs.Start.{start_law as halves_start}
use Rattle.jfs_held_volumes.specs.canonical_maps.specs.Places.{FitMaps}
use Rattle.jfs_held_volumes.specs.canonical_maps.specs.Images.{made_canonical}
use Rattle.jfs_held_volumes.specs.canonical_maps.proofs.Images.{follow_law}
use Rattle.jfs_held_volumes.specs.canonical_maps.proofs.OwnPlaces.{own_places}
use Rattle.jfs_held_volumes.specs.image_volumes.proofs.Next.{start_law as image_start, in_areas}
use Rattle.jfs_held_volumes.specs.Held.{Mount, IsHeld, IsImageAt, face_at}
use Rattle.jfs_held_volumes.proofs.Kept.{used_where}
use Rattle.jfs_mounted_places.specs.Places.{groups_of, places_of, StandsInPlaces}
use Rattle.jfs_mounted_places.specs.Mounted.{IsMounted, mount_of, held_from, MountedLaw}
use Rattle.jfs_mounted_places.proofs.Cells.{item_cell}
use Rattle.jfs_mounted_places.proofs.Places.{fit_law, known_law}

owned_state : (s : BlockState) → is_owned_state s ≡ true → s ≡ Owned
owned_state Free e = absurd (true≢false (sym e))
owned_state Owned e = refl
owned_state Reserved e = absurd (true≢false (sym e))
owned_state (Busy entry) e = absurd (true≢false (sym e))

logged_some : (o : Option Owner) → is_logged o ≡ true → IsSome o
logged_some None e = absurd (true≢false (sym e))
logged_some (Some a) e = refl

module _ (s : Super) (pages ring : ℕ) (low : Pages) (shown : Shown) (area : ℕ → ℕ) (files : MapFiles) (is : IsMounted s pages low shown area files) where
  abbrev r : Readers
  r = readers (blocks_of s)

  abbrev pl : Places
  pl = places_of s low

  abbrev m : Mount
  m = mount_of s low

  abbrev f : Face
  f = face_at m

  abbrev v : Volume
  v = volume_of low area shown.map shown.inodes

  abbrev image : Pages
  image = made_canonical pl low

  places : StandsInPlaces s low area shown.map shown.inodes files
  places = known_law s low area shown.map shown.inodes files is.knows is.blocks_fresh is.inodes_fresh is.consistent

  fits : FitMaps pl
  fits = fit_law s pages low is.accepted is.group (let number = places.iags in let few = is.few in omega (arith, number, few))

  areas : AreInAreas pl
  areas = in_areas r (blocks_of s) s.agsize (groups_of s) s.ait2 s.aim2 pl low places.stands

  start : IsStart f low image × IsImageAt m image v
  start = subst (λ (u : Volume). IsStart f low image × IsImageAt m image u) (sym places.volume_is)
      (image_start r (blocks_of s) s.agsize (groups_of s) s.ait2 s.aim2 pl (map_marks pl) low fits places.stands is.bytes is.sizes)

  -- the cells with items are those of the image, whatever else stands on the pages that were found
  cells : (p c : ℕ) → is_map_page pl p ≡ true → Cares f p c → SameCell (low p) (image p) c
  cells p c e (inl other) = absurd (true≢false (sym e ∙ other))
  cells p c e (inr (i, at, in_cell)) =
      let number = places.iags in
      let some = is.some in
      subst (λ (z : ℕ). SameCell (low p) (image p) z) in_cell (subst (λ (q : ℕ). SameCell (low q) (image q) (cell i)) at
      (item_cell pl low image fits.block_map.groups.some (omega (arith, number, some)) is.sizes is.bytes is.past start.0.maps i))

  mounted : IsMountedFace f low image
  mounted = record {
    start = start.0;
    sizes = is.sizes;
    cells = λ p c within e cares. cells p c e cares;
  }

  own : (p : ℕ) → is_map_page pl p ≡ true → IsCanonicalPage pl image (items_on pl image) p (image p)
  own = (follow_law.start r pl (map_marks pl) low fits (own_places r (blocks_of s) s.agsize (groups_of s) s.ait2 s.aim2 low places.stands.sound.agrees places.stands.pages) is.bytes).1.own

  core_is : IsCoreOf f (fresh_halves ring shown) (fresh f low image)
  core_is = halves_start r pl (map_marks pl) ring shown low image areas mounted own is.shows

  states : HasStates f (fresh_halves ring shown) (fresh f low image)
  states = record {
    owned = λ b some. owned_state (state_of shown.map b)
        (and_parts (nat_lt b (length shown.map.states)) (is_owned shown.map b) (used_where r v start.1.sound.agrees b (subst (λ (o : Option Owner). IsSome o) (seen_law r pl image v start.1.sound start.1.shows b) some))).1;
    busy = λ b z. (let before = z.before in absurd (omega (arith, before)));
  }

  -- each page of a map lies within the file system part
  within : (p : ℕ) → is_map_page pl p ≡ true → p < length (map fresh_block shown.pages)
  within p e =
      let used = used_where r v start.1.sound.agrees p (logged_some (owner_of r v p) (sym (ap (λ (o : Option Owner). is_logged o) (seen_law r pl image v start.1.sound start.1.shows p)) ∙ map_matters r pl areas image p e)) in
      let below = ltb-true p (length shown.map.states) (and_parts (nat_lt p (length shown.map.states)) (is_owned shown.map p) used).0 in
      let number = is.knows.sizes.blocks_are in
      let room = is.room in
      let many = length-map shown.pages fresh_block in
      omega (arith, below, number, room, many)

  pub held : IsHeld m (held_from s ring low shown area)
  held = record {
    fits = fits;
    core_is = core_is;
    states = states;
    images = λ k l. at k l;
    now = start.1;
    mapped = λ b used. ltb-true b (length shown.map.states) (and_parts (nat_lt b (length shown.map.states)) (is_owned shown.map b) used).0;
    maps_within = within;
  }
    where
      at : (k : ℕ) → k ≤ 0 → IsImageAt m (image_at (fresh f low image) k) v
      at zero l = start.1
      at (suc k) l = absurd (omega (arith, l))

pub mounted_law : MountedLaw
mounted_law s pages ring low shown area files is = held s pages ring low shown area files is
