-- The files of both maps, between calls.
use Rattle.std.proofs.Common.{◌≡◌, ◌⊎◌, ◌≤◌, ◌<◌, refl, sym, ap, ◌∙◌, subst, ℕ, suc, ◌+◌, ◌-◌, ◌&&◌, ◌==◌, Bool, true, false, nat_le, nat_lt, if◌then◌else◌, List, [], ◌∷◌, length, slice_get, get_or, unwrap_or, inl, inr, Option, Some, None, arith}
use Rattle.std.specs.Int.RustNames.{bit_and}
use Rattle.std.proofs.lemmas.Bool.Decides.{nat_tests}
use Rattle.std.proofs.lemmas.Option.{slice_get-get_or}
use Rattle.jfs_bits.specs.declared.extent.Xad.{Xad}
use Rattle.jfs_super.specs.Rules.{blocks_of}
use Rattle.jfs_super.specs.declared.fields.Super.{Super}
use Rattle.jfs_way.specs.imap.specs.Inodes.{Inodes}
use Rattle.jfs_way.specs.bmap.specs.States.{Blocks}
use Rattle.jfs_map_files.specs.declared.map_file.MapFiles.{MapFiles}
use Rattle.jfs_way.specs.objects.specs.Readers.{Readers}
use Rattle.jfs_way.specs.objects.specs.Volume.{Volume}
use Rattle.jfs_way.specs.objects.specs.Owners.{Agrees, owners, bit, covers, run_has, unless_broken}
use Rattle.jfs_way.specs.objects.specs.Objects.{met, listed}
use Rattle.jfs_way.specs.objects.specs.Contents.{block_of, block_in, bytes_at}
use Rattle.jfs_way.specs.objects.specs.Image.{file_extents, file_page, file_has, file_walk, area_on}
use Rattle.jfs_way.specs.objects.proofs.Blocks.{covered}
use Rattle.jfs_way.specs.meaning.specs.Readers.{readers}
use Rattle.jfs_way.specs.Volume.{volume_of}
use Rattle.jfs_shown.specs.Shown.{ShowsBlocks, ShowsInodes, ShowsMaps}
use Rattle.jfs_shown.specs.Laws.{map_pages}
use Rattle.jfs_shown.specs.Files.{AreFilePlaces, KnowsFiles, WrittenLaw, ChangesMaps, ChangeLaw, HasOwnPlaces, OwnLaw}
use Rattle.jfs_shown.proofs.Places.{files_law}

-- ---- the pages show both maps

page_at : (r : Readers) (page : ℕ → List ℕ) (k j b : ℕ) → block_of (file_extents r page k) j ≡ Some b → file_page r page k j ≡ page b
unfolding file_page
page_at r page k j b h = ap (λ (o : Option ℕ). unwrap_or (bytes_at page o) []) h

pub written_law : WrittenLaw
written_law s page area blocks inodes files knows fresh same =
    let r = readers (blocks_of s) in
    record {
      block_map = λ j l.
          (let at : slice_get files.blocks.places j ≡ Some (get_or files.blocks.places j 0) = slice_get-get_or files.blocks.places j 0 (omega (arith, l, knows.block_pages)) in
          subst (λ (p : List ℕ). ShowsBlocks (blocks_of s) blocks j p) (sym (page_at r page 2 j (get_or files.blocks.places j 0) (knows.block_places j (get_or files.blocks.places j 0) at)))
          (knows.block_map fresh j (get_or files.blocks.places j 0) at));
      inode_map = λ j l.
          (let at : slice_get files.inodes.places j ≡ Some (get_or files.inodes.places j 0) = slice_get-get_or files.inodes.places j 0 (omega (arith, l, knows.inode_pages)) in
          subst (λ (p : List ℕ). ShowsInodes inodes j p) (sym (page_at r page 16 j (get_or files.inodes.places j 0) (knows.inode_places j (get_or files.inodes.places j 0) at)))
          (knows.inode_map same j (get_or files.inodes.places j 0) at));
    }

-- ---- a change

places_kept : (r : Readers) (old new : ℕ → List ℕ) (k : ℕ) (before after : List ℕ) → file_extents r new k ≡ file_extents r old k → after ≡ before → AreFilePlaces r old k before → AreFilePlaces r new k after
places_kept r old new k before after same is places j b h = ap (λ (es : List Xad). block_of es j) same ∙ places j b (ap (λ (ps : List ℕ). slice_get ps j) (sym is) ∙ h)

pub change_law : ChangeLaw
change_law s old new area blocks after inodes later before files knows changes =
    let r = readers (blocks_of s) in
    let same = files_law r s.ait2 s.aim2 old new changes.places in
    record {
      sizes = changes.sizes;
      areas = λ b. knows.areas b ∙ sym (same.areas b);
      whole = same.whole knows.whole;
      block_pages = ap (λ (ps : List ℕ). length ps) changes.block_places ∙ knows.block_pages;
      inode_pages = ap (λ (ps : List ℕ). length ps) changes.inode_places ∙ knows.inode_pages ∙ ap (λ (n : ℕ). n + 1) (sym changes.groups);
      block_places = places_kept r old new 2 before.blocks.places files.blocks.places same.block_map changes.block_places knows.block_places;
      inode_places = places_kept r old new 16 before.inodes.places files.inodes.places same.inode_map changes.inode_places knows.inode_places;
      block_map = changes.block_map;
      inode_map = changes.inode_map;
    }

-- ---- places of their own

some_same : (a b : ℕ) → Some a ≡ Some b → a ≡ b
some_same a b h = cc

-- two places in one extent
in_one : (e : Xad) (n m b : ℕ) → (nat_le e.offset n && nat_lt n (e.offset + e.at.len)) ≡ true → (nat_le e.offset m && nat_lt m (e.offset + e.at.len)) ≡ true → block_in e n ≡ Some b → block_in e m ≡ Some b → n ≡ m
in_one e n m b s t h k = by (bit_and e.flag 0x08 == 0x08) h k
  where
    from : (o l j : ℕ) → (nat_le o j && nat_lt j (o + l)) ≡ true → o ≤ j
    from o l j h = grind (arith, nat_tests)

    by : (x : Bool) → (if x then None else Some (e.at.addr + (n - e.offset))) ≡ Some b → (if x then None else Some (e.at.addr + (m - e.offset))) ≡ Some b → n ≡ m
    by true h k = absurd (cc (h))
    by false h k =
        let a = some_same (e.at.addr + (n - e.offset)) b h in
        let c = some_same (e.at.addr + (m - e.offset)) b k in
        let f = from e.offset e.at.len n s in
        let g = from e.offset e.at.len m t in
        omega (arith, a, c, f, g)

-- an extent has the block of each of its places
one_more : (e : Xad) (k b : ℕ) → (nat_le e.offset k && nat_lt k (e.offset + e.at.len)) ≡ true → block_in e k ≡ Some b → 0 < run_has e.at b
one_more e k b t h =
    let here : block_of (e ∷ []) k ≡ Some b = ap (λ (x : Bool). if x then block_in e k else None) t ∙ h in
    let c = covered (e ∷ []) k b here in
    omega (arith, c)

apart : (es : List Xad) (n m b : ℕ) → covers b es ≤ 1 → block_of es n ≡ Some b → block_of es m ≡ Some b → n ≡ m
apart [] n m b few h k = absurd (cc (h))
apart (e ∷ es) n m b few h k = by (nat_le e.offset n && nat_lt n (e.offset + e.at.len)) refl (nat_le e.offset m && nat_lt m (e.offset + e.at.len)) refl h k (apart es n m b)
  where
    by : (x : Bool) → (nat_le e.offset n && nat_lt n (e.offset + e.at.len)) ≡ x → (y : Bool) → (nat_le e.offset m && nat_lt m (e.offset + e.at.len)) ≡ y
        → (if x then block_in e n else block_of es n) ≡ Some b → (if y then block_in e m else block_of es m) ≡ Some b → (covers b es ≤ 1 → block_of es n ≡ Some b → block_of es m ≡ Some b → n ≡ m) → n ≡ m
    by true s true t h k rest = in_one e n m b s t h k
    by true s false t h k rest = let one = one_more e n b s h in let more = covered es m b k in absurd (omega (arith, few, one, more))
    by false s true t h k rest = let one = one_more e m b t k in let more = covered es n b h in absurd (omega (arith, few, one, more))
    by false s false t h k rest = rest (omega (arith, few)) h k

at_most_one : (x : Bool) (n : ℕ) → n ≡ bit x → n ≤ 1
at_most_one true n e = omega (arith, e)
at_most_one false n e = omega (arith, e)

module _ (s : Super) (page : ℕ → List ℕ) (area : ℕ → ℕ) (blocks : Blocks) (inodes : Inodes) (files : MapFiles) (knows : KnowsFiles s page area blocks inodes files)
    (agrees : Agrees (readers (blocks_of s)) (volume_of page area blocks inodes)) where
  abbrev r : Readers
  r = readers (blocks_of s)

  abbrev v : Volume
  v = volume_of page area blocks inodes

  within : (b : ℕ) → map_pages r page b ≤ area b
  unfolding area_on file_has
  within b = let a = knows.areas b in omega (arith, a)

  once : (b : ℕ) → map_pages r page b ≤ 1
  once b = let n = at_most_one (v.used b) (owners r v b) (agrees.blocks b) in let w = within b in omega (arith, n, w)

  block_at : (n b : ℕ) → slice_get files.blocks.places n ≡ Some b → 0 < covers b (file_extents r page 2)
  block_at n b h = covered (file_extents r page 2) n b (knows.block_places n b h)

  inode_at : (n b : ℕ) → slice_get files.inodes.places n ≡ Some b → 0 < covers b (file_extents r page 16)
  inode_at n b h = covered (file_extents r page 16) n b (knows.inode_places n b h)

  pub own : HasOwnPlaces r page area files
  own = record {
    blocks = λ n m b h k. (let o = once b in apart (file_extents r page 2) n m b (omega (arith, o)) (knows.block_places n b h) (knows.block_places m b k));
    inodes = λ n m b h k. (let o = once b in apart (file_extents r page 16) n m b (omega (arith, o)) (knows.inode_places n b h) (knows.inode_places m b k));
    both = λ n m b h k. (let o = once b in let x = block_at n b h in let y = inode_at m b k in absurd (omega (arith, o, x, y)));
    block_areas = λ n b h. (let x = block_at n b h in let w = within b in (omega (arith, x), omega (arith, x, w)));
    inode_areas = λ n b h. (let x = inode_at n b h in let w = within b in (omega (arith, x), omega (arith, x, w)));
  }

pub own_law : OwnLaw
own_law = own
