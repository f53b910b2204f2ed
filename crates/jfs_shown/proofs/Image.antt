-- Pages that show the maps in memory spell the volume.
use Rattle.std.proofs.Common.{◌≡◌, ◌⊎◌, ◌<◌, ◌≤◌, refl, sym, ap, ◌∙◌, subst, ℕ, suc, ◌+◌, ◌*◌, ◌/◌, ◌%◌, Bool, true, false, not, ◌&&◌, ◌==◌, nat_lt, List, length, map, get_or, inl, inr, Option, Some, None, is_some, arith}
use Rattle.std.specs.List.{range_with_len}
use Rattle.std.proofs.Math.Path.{fun_ext}
use Rattle.std.proofs.lemmas.Bool.{cases_lt, lt-ltb, le-ltb}
use Rattle.std.proofs.lemmas.List.{ext_get_or, get_or-map, get_or_past, length-map}
use Rattle.std.proofs.lemmas.List.FromFn.{get_or-map-range_with_len, length-map-range_with_len}
use Rattle.jfs_bits.specs.Bits.{is_taken}
use Rattle.jfs_bits.specs.Field.{range_of, field_of}
use Rattle.jfs_bits.specs.declared.descriptor.Pxd.{Pxd}
use Rattle.jfs_super.specs.Rules.{blocks_of}
use Rattle.jfs_super.specs.declared.fields.Super.{Super}
use Rattle.jfs_iag.specs.Iag.{no_run}
use Rattle.jfs_iag.specs.Canonical.{is_there}
use Rattle.jfs_way.specs.imap.specs.Inodes.{Inodes, is_used, extent_at}
use Rattle.jfs_way.specs.bmap.specs.Pages.{dmaps_of}
use Rattle.jfs_way.specs.bmap.specs.States.{Blocks, is_owned}
use Rattle.jfs_way.specs.objects.specs.Readers.{Readers}
use Rattle.jfs_way.specs.objects.specs.Volume.{Volume, home, page_in}
use Rattle.jfs_way.specs.objects.specs.Objects.{Object, objects, object_in}
use Rattle.jfs_way.specs.objects.specs.Image.{file_page, iag_page, iags_on, extent_place, extent_on, extents_on, is_block_used, is_inode_used, area_on}
use Rattle.jfs_way.specs.meaning.specs.Readers.{readers}
use Rattle.jfs_way.specs.meaning.specs.Tree.{tree_on}
use Rattle.jfs_way.specs.meaning.specs.Room.{room_on}
use Rattle.jfs_way.specs.meaning.specs.Consistent.{IsConsistent}
use Rattle.jfs_way.specs.meaning.specs.Image as meaning
use Rattle.jfs_way.specs.Volume.{volume_of}
use Rattle.jfs_shown.specs.Shown.{ShowsBlocks, ShowsGroup, ShowsMaps}
use Rattle.jfs_shown.specs.Laws.{HasSizes, AreAreas, SpellsVolume, ImageLaw}

there_is : (p : Pxd) → is_some (extent_place p) ≡ is_there p
there_is p = by (p.len == 0 && p.addr == 0) refl
  where
    by : (x : Bool) → (p.len == 0 && p.addr == 0) ≡ x → is_some (extent_place p) ≡ is_there p
    by true e = rw e refl
    by false e = rw e refl

-- an inode has a page where its place has an extent
home_there : (o : Option ℕ) (n : ℕ) → is_some (page_in o n) ≡ is_some o
home_there None n = refl
home_there (Some first) n = refl

module _ (s : Super) (page : ℕ → List ℕ) (area : ℕ → ℕ) (m : Blocks) (i : Inodes) (sizes : HasSizes s m i) (areas : AreAreas s page area) (shows : ShowsMaps s page m i)
    (consistent : IsConsistent (readers (blocks_of s)) (volume_of page area m i)) where
  abbrev r : Readers
  r = readers (blocks_of s)

  abbrev v : Volume
  v = volume_of page area m i

  -- ---- extents

  group : (k : ℕ) → k < i.iags → ShowsGroup i k (iag_page r page k)
  group k l = shows.inode_map (suc k) (omega (arith, l))

  place_is : (e : ℕ) → e < 128 * i.iags → extent_on r page e ≡ extent_place (extent_at i e)
  place_is e l =
      let same : 128 * (e / 128) + e % 128 ≡ e = omega arith in
      (group (e / 128) (omega (arith, l))).extents (e % 128) (omega arith) ∙ ap (λ (k : ℕ). extent_place (extent_at i k)) same

  extents_are : extents_on r page ≡ map extent_place i.extents
  unfolding extents_on
  extents_are = ap (λ (n : ℕ). map (extent_on r page) (range_with_len 0 (128 * n))) (shows.inode_map 0 (omega arith)) ∙ ext_get_or None (map (extent_on r page) (range_with_len 0 (128 * i.iags))) (map extent_place i.extents) long at
    where
      size : length (map (extent_on r page) (range_with_len 0 (128 * i.iags))) ≡ 128 * i.iags
      size = length-map-range_with_len (extent_on r page) 0 (128 * i.iags)

      long : length (map (extent_on r page) (range_with_len 0 (128 * i.iags))) ≡ length (map extent_place i.extents)
      long = size ∙ sym sizes.places_are ∙ sym (length-map i.extents extent_place)

      at : (e : ℕ) → e < length (map (extent_on r page) (range_with_len 0 (128 * i.iags))) → get_or (map (extent_on r page) (range_with_len 0 (128 * i.iags))) e None ≡ get_or (map extent_place i.extents) e None
      at e h =
          let l : e < 128 * i.iags = omega (arith, h, size) in
          get_or-map-range_with_len (extent_on r page) 0 (128 * i.iags) e e None l (omega arith) ∙ place_is e l ∙ sym (get_or-map extent_place i.extents e no_run None (omega (arith, l, sizes.places_are)))

  -- ---- blocks

  used_is : (b : ℕ) → (nat_lt b (length m.states) && is_owned m b) ≡ is_block_used r page (blocks_of s) b
  unfolding is_block_used
  used_is b = elim (cases_lt b (blocks_of s)) [
    | inl l ↦ (
        let same : 8192 * (b / 8192) + b % 8192 ≡ b = omega arith in
        let shown = dmap (b / 8192) (omega (arith, l)) (b % 8192) (omega arith) (omega (arith, l)) in
        ap (λ (x : Bool). x && is_owned m b) (lt-ltb b (length m.states) (omega (arith, l, sizes.blocks_are)))
        ∙ sym (ap (λ (x : Bool). x && is_taken (range_of (file_page r page 2 (4 + b / 8192)) 3072 1024) (b % 8192)) (lt-ltb b (blocks_of s) l) ∙ shown ∙ ap (is_owned m) same))
    | inr l ↦ ap (λ (x : Bool). x && is_owned m b) (le-ltb b (length m.states) (omega (arith, l, sizes.blocks_are)))
        ∙ sym (ap (λ (x : Bool). x && is_taken (range_of (file_page r page 2 (4 + b / 8192)) 3072 1024) (b % 8192)) (le-ltb b (blocks_of s) l))
  ]
    where
      dmap : (k : ℕ) → k < dmaps_of (blocks_of s) → (j : ℕ) → j < 8192 → 8192 * k + j < blocks_of s → is_taken (range_of (file_page r page 2 (4 + k)) 3072 1024) j ≡ is_owned m (8192 * k + j)
      dmap k l = subst (λ (n : ℕ). ShowsBlocks (blocks_of s) m n (file_page r page 2 n) → (j : ℕ) → j < 8192 → 8192 * k + j < blocks_of s → is_taken (range_of (file_page r page 2 n) 3072 1024) j ≡ is_owned m (8192 * k + j)) (four k) (λ p. p) (shows.block_map (4 + k) (omega (arith, l)))
        where
          four : (k : ℕ) → suc (suc (suc (suc k))) ≡ 4 + k
          four k = omega arith

  -- ---- inodes

  abbrev bit_on : ℕ → Bool
  bit_on n = is_taken (range_of (iag_page r page (n / 4096)) 2560 512) (n % 4096)

  unused : (n : ℕ) → home (map extent_place i.extents) n ≡ None → is_used i n ≡ false
  unfolding objects
  unused n none = consistent.sound.agrees.inodes n ∙ ap (λ (o : Option ℕ). is_some (object_in r page n o)) none

  used_there : (n : ℕ) → is_some (home (map extent_place i.extents) n) ≡ true → bit_on n ≡ is_used i n
  used_there n there =
      by (cases_lt (n / 32) (128 * i.iags))
    where
      by : (n / 32 < 128 * i.iags) ⊎ (128 * i.iags ≤ n / 32) → bit_on n ≡ is_used i n
      by (inl l) =
          let same : 4096 * (n / 4096) + n % 4096 ≡ n = omega arith in
          let place : 128 * (n / 4096) + n % 4096 / 32 ≡ n / 32 = omega arith in
          let is : is_there (extent_at i (n / 32)) ≡ true = sym (there_is (extent_at i (n / 32))) ∙ sym (ap (λ (o : Option ℕ). is_some o) (get_or-map extent_place i.extents (n / 32) no_run None (omega (arith, l, sizes.places_are)))) ∙ sym (home_there (get_or (map extent_place i.extents) (n / 32) None) n) ∙ there in
          (group (n / 4096) (omega (arith, l))).in_use (n % 4096) (omega arith) (ap (λ (e : ℕ). is_there (extent_at i e)) place ∙ is) ∙ ap (is_used i) same
      by (inr l) =
          let past : get_or (map extent_place i.extents) (n / 32) None ≡ None = get_or_past (map extent_place i.extents) (n / 32) None (omega (arith, l, sizes.places_are, length-map i.extents extent_place)) in
          absurd (cc (there, past))

  in_use_is : (n : ℕ) → is_used i n ≡ is_inode_used r page n
  unfolding is_inode_used
  in_use_is n = by (home (map extent_place i.extents) n) refl ∙ sym (ap (λ (es : List (Option ℕ)). is_some (home es n) && bit_on n) extents_are)
    where
      by : (o : Option ℕ) → home (map extent_place i.extents) n ≡ o → is_used i n ≡ (is_some (home (map extent_place i.extents) n) && bit_on n)
      by None e = unused n e ∙ sym (ap (λ (x : Option ℕ). is_some x && bit_on n) e)
      by (Some p) e = sym (ap (λ (x : Option ℕ). is_some x && bit_on n) e ∙ used_there n (ap (λ (x : Option ℕ). is_some x) e))

  -- ---- the volume

  pub volume_is : volume_of page area m i ≡ meaning.volume_of s page
  volume_is =
      ap (λ (es : List (Option ℕ)). record { page = page; extents = es; area = area; used = λ b. nat_lt b (length m.states) && is_owned m b; in_use = is_used i }) (sym extents_are)
      ∙ ap (λ (f : ℕ → ℕ). record { page = page; extents = extents_on r page; area = f; used = λ b. nat_lt b (length m.states) && is_owned m b; in_use = is_used i }) (fun_ext areas)
      ∙ ap (λ (f : ℕ → Bool). record { page = page; extents = extents_on r page; area = area_on r s.ait2 s.aim2 page; used = f; in_use = is_used i }) (fun_ext used_is)
      ∙ ap (λ (f : ℕ → Bool). record { page = page; extents = extents_on r page; area = area_on r s.ait2 s.aim2 page; used = is_block_used r page (blocks_of s); in_use = f }) (fun_ext in_use_is)

  pub spells : SpellsVolume s page area m i
  spells = record {
    volume_is = volume_is;
    tree = ap (tree_on r) volume_is;
    room = ap (λ (x : Volume). room_on r x (blocks_of s) s.logpxd.len) volume_is;
    consistent = subst (λ (x : Volume). IsConsistent r x) volume_is consistent;
  }

pub image_law : ImageLaw
image_law = spells
