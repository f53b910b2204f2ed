-- On a volume whose maps agree each page of both files has a block of its own.
use Rattle.std.proofs.Common.{◌≡◌, ◌≤◌, ◌<◌, ap, ◌∙◌, refl, ℕ, ◌+◌, ◌-◌, ◌&&◌, ◌==◌, Bool, true, false, nat_le, nat_lt, if◌then◌else◌, List, [], ◌∷◌, is_some, unwrap_or, Option, Some, None, arith}
use Rattle.std.specs.Int.RustNames.{bit_and}
use Rattle.std.proofs.lemmas.Bool.Decides.{nat_tests}
use Rattle.jfs_bits.specs.declared.extent.Xad.{Xad}
use Rattle.jfs_bits.specs.declared.descriptor.Pxd.{Pxd}
use Rattle.jfs_face.specs.steps.specs.objects.specs.Readers.{Readers}
use Rattle.jfs_face.specs.steps.specs.objects.specs.Volume.{Volume}
use Rattle.jfs_face.specs.steps.specs.objects.specs.Owners.{Agrees, owners, bit, covers, run_has}
use Rattle.jfs_face.specs.steps.specs.objects.specs.Contents.{block_of, block_in}
use Rattle.jfs_face.specs.steps.specs.objects.specs.Image.{file_extents, file_has, area_on, volume_on}
use Rattle.jfs_face.specs.steps.specs.objects.proofs.Blocks.{covered}
use Rattle.jfs_canonical_maps.specs.Places.{OwnPlacesLaw}

-- ---- extents that have no block twice

some_same : (a b : ℕ) → Some a ≡ Some b → a ≡ b
some_same a b h = cc

-- two places in one extent
in_one : (e : Xad) (n m b : ℕ) → (nat_le e.offset n && nat_lt n (e.offset + e.at.len)) ≡ true → (nat_le e.offset m && nat_lt m (e.offset + e.at.len)) ≡ true → block_in e n ≡ Some b → block_in e m ≡ Some b → n ≡ m
in_one e n m b s t h k = by (bit_and e.flag 0x08 == 0x08) h k
  where
    from : (o l j : ℕ) → (nat_le o j && nat_lt j (o + l)) ≡ true → o ≤ j
    from o l j h = grind (arith, nat_tests)

    by : (x : Bool) → (if x then None else Some (e.at.addr + (n - e.offset))) ≡ Some b → (if x then None else Some (e.at.addr + (m - e.offset))) ≡ Some b → n ≡ m
    by true h k = absurd (cc (h))
    by false h k =
        let a = some_same (e.at.addr + (n - e.offset)) b h in
        let c = some_same (e.at.addr + (m - e.offset)) b k in
        let f = from e.offset e.at.len n s in
        let g = from e.offset e.at.len m t in
        omega (arith, a, c, f, g)

-- an extent has the block of each of its places
one_more : (e : Xad) (k b : ℕ) → (nat_le e.offset k && nat_lt k (e.offset + e.at.len)) ≡ true → block_in e k ≡ Some b → 0 < run_has e.at b
one_more e k b t h =
    let here : block_of (e ∷ []) k ≡ Some b = ap (λ (x : Bool). if x then block_in e k else None) t ∙ h in
    let c = covered (e ∷ []) k b here in
    omega (arith, c)

apart : (es : List Xad) (n m b : ℕ) → covers b es ≤ 1 → block_of es n ≡ Some b → block_of es m ≡ Some b → n ≡ m
apart [] n m b few h k = absurd (cc (h))
apart (e ∷ es) n m b few h k = by (nat_le e.offset n && nat_lt n (e.offset + e.at.len)) refl (nat_le e.offset m && nat_lt m (e.offset + e.at.len)) refl h k (apart es n m b)
  where
    by : (x : Bool) → (nat_le e.offset n && nat_lt n (e.offset + e.at.len)) ≡ x → (y : Bool) → (nat_le e.offset m && nat_lt m (e.offset + e.at.len)) ≡ y
        → (if x then block_in e n else block_of es n) ≡ Some b → (if y then block_in e m else block_of es m) ≡ Some b → (covers b es ≤ 1 → block_of es n ≡ Some b → block_of es m ≡ Some b → n ≡ m) → n ≡ m
    by true s true t h k rest = in_one e n m b s t h k
    by true s false t h k rest = let one = one_more e n b s h in let more = covered es m b k in absurd (omega (arith, few, one, more))
    by false s true t h k rest = let one = one_more e m b t k in let more = covered es n b h in absurd (omega (arith, few, one, more))
    by false s false t h k rest = rest (omega (arith, few)) h k

at_most_one : (x : Bool) (n : ℕ) → n ≡ bit x → n ≤ 1
at_most_one true n e = omega (arith, e)
at_most_one false n e = omega (arith, e)

there : (o : Option ℕ) (b : ℕ) → is_some o ≡ true → unwrap_or o 0 ≡ b → o ≡ Some b
there None b h e = absurd (cc (h))
there (Some a) b h e = ap Some e

-- ---- both files

module _ (r : Readers) (blocks : ℕ) (table map : Pxd) (page : ℕ → List ℕ) (agrees : Agrees r (volume_on r blocks table map page)) where
  abbrev v : Volume
  v = volume_on r blocks table map page

  once : (b : ℕ) → covers b (file_extents r page 2) + covers b (file_extents r page 16) ≤ 1
  unfolding area_on file_has
  once b = let n = at_most_one (v.used b) (owners r v b) (agrees.blocks b) in omega (arith, n)

pub own_places : OwnPlacesLaw
own_places r blocks agsize numag table map page agrees has = record {
  block_map = λ k j used in_use e.
      let b = unwrap_or (block_of (file_extents r page 2) j) 0 in
      let o = once r blocks table map page agrees b in
      apart (file_extents r page 2) k j b (omega (arith, o)) (there (block_of (file_extents r page 2) k) b (has.block_map k used) e) (there (block_of (file_extents r page 2) j) b (has.block_map j in_use) refl);
  inode_map = λ k j low within e.
      let b = unwrap_or (block_of (file_extents r page 16) j) 0 in
      let o = once r blocks table map page agrees b in
      apart (file_extents r page 16) k j b (omega (arith, o)) (there (block_of (file_extents r page 16) k) b (has.inode_map k low) e) (there (block_of (file_extents r page 16) j) b (has.inode_map j within) refl);
  both = λ k j used low e.
      let b = unwrap_or (block_of (file_extents r page 16) j) 0 in
      let o = once r blocks table map page agrees b in
      let one = covered (file_extents r page 2) k b (there (block_of (file_extents r page 2) k) b (has.block_map k used) e) in
      let other = covered (file_extents r page 16) j b (there (block_of (file_extents r page 16) j) b (has.inode_map j low) refl) in
      absurd (omega (arith, o, one, other));
}
