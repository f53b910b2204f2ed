-- A consistent image keeps its tree whatever the superblock's page has.
use Rattle.std.proofs.Common.{◌≡◌, ◌≢◌, ◌<◌, ◌≤◌, refl, sym, ap, ap₂, ◌∙◌, subst, ℕ, suc, ◌+◌, ◌*◌, ◌/◌, ◌%◌, Bool, true, false, ◌&&◌, nat_le, nat_lt, List, [], ◌∷◌, take, map, Option, Some, None, Result, Ok, Err, arith}
use Rattle.std.specs.List.{range_with_len}
use Rattle.std.proofs.lemmas.Bool.Decides.{nat_tests}
use Rattle.std.proofs.lemmas.List.{get_or-take, get_or-set_other}
use Rattle.jfs_bits.specs.Descriptor.{pxd_of}
use Rattle.jfs_bits.specs.Field.{field_of}
use Rattle.jfs_bits.specs.declared.descriptor.Pxd.{Pxd}
use Rattle.jfs_bits.specs.declared.extent.Xad.{Xad}
use Rattle.jfs_bits.specs.declared.rule.Rule.{Rule}
use Rattle.jfs_disk.specs.Image.{Image, page_of}
use Rattle.jfs_disk.specs.Crash.{torn}
use Rattle.jfs_super.specs.Rules.{blocks_of}
use Rattle.jfs_super.specs.declared.fields.Super.{Super}
use Rattle.jfs_volume.specs.plain.specs.Moves.{Same}
use Rattle.jfs_volume.specs.plain.specs.Tree.{Tree}
use Rattle.jfs_findings.specs.objects.specs.Readers.{Readers}
use Rattle.jfs_findings.specs.objects.specs.Volume.{Volume}
use Rattle.jfs_findings.specs.objects.specs.Objects.{objects, listed}
use Rattle.jfs_findings.specs.objects.specs.Owners.{entries, owners, bit, run_has}
use Rattle.jfs_findings.specs.objects.specs.Contents.{block_of}
use Rattle.jfs_findings.specs.objects.specs.Image.{file_walk, file_page, file_has, area_on, extent_place, extent_on, extents_on, iags_on, is_block_used}
use Rattle.jfs_volume.specs.kinds.specs.Images.{IsWholeFile}
use Rattle.jfs_volume.specs.kinds.proofs.Images.{same_page}
use Rattle.jfs_findings.specs.meaning.specs.Readers.{readers}
use Rattle.jfs_findings.specs.meaning.specs.Tree.{tree_on}
use Rattle.jfs_findings.specs.meaning.specs.Image as meaning
use Rattle.jfs_findings.specs.mount_rules.specs.Subject.{subject_of}
use Rattle.jfs_findings.specs.mount_rules.specs.Mount.{broken_mount, iags}
use Rattle.jfs_findings.proofs.Mounted.{mounted, on_block}
use Rattle.jfs_mount_disk.specs.Begun.{marked_page}
use Rattle.jfs_mounted.specs.Crashes.{CrashLaw}
use Rattle.jfs_mounted.proofs.Marked.{in_first, area_there, used_below, same_tree}

-- a file of the aggregate that has a block breaks no rule
file_whole : (r : Readers) (page : ℕ → List ℕ) (k b : ℕ) → block_of (entries (listed r.extents_order (file_walk r page k))) 0 ≡ Some b → IsWholeFile r page k
file_whole r page k b h = by (listed r.extents_order (file_walk r page k)) refl h
  where
    by : (x : Result (List Xad) (ℕ × Rule)) → listed r.extents_order (file_walk r page k) ≡ x → block_of (entries x) 0 ≡ Some b → IsWholeFile r page k
    by (Ok es) e h = (es, e)
    by (Err fault) e h = absurd (cc (h))

same_map : (f g : ℕ → Option ℕ) → ((n : ℕ) → g n ≡ f n) → (ns : List ℕ) → map g ns ≡ map f ns
same_map f g h [] = refl
same_map f g h (n ∷ ns) = ap₂ (λ (x : Option ℕ) (xs : List (Option ℕ)). x ∷ xs) (h n) (same_map f g h ns)

-- what the areas have of a block, at the least
file_in : (r : Readers) (table second : Pxd) (page : ℕ → List ℕ) (b : ℕ) → run_has (record { len = 16; addr = 0 }) b + file_has r page 16 b ≤ area_on r table second page b
unfolding area_on
file_in r table second page b = omega arith

module _ (s : Super) (old new : ℕ → List ℕ) (unbroken : broken_mount (subject_of s old) ≡ None) (consistent : meaning.IsConsistentImage s old)
    (same : (b : ℕ) → b ≢ 8 → b < blocks_of s → new b ≡ old b) where
  abbrev r : Readers
  r = readers (blocks_of s)

  abbrev v : Volume
  v = meaning.volume_of s old

  count : (b : ℕ) → owners r v b ≡ bit (is_block_used r old (blocks_of s) b)
  count b = consistent.sound.agrees.blocks b

  -- a block of an area is in use once
  owned : (b : ℕ) → 1 ≤ area_on r s.ait2 s.aim2 old b → (area_on r s.ait2 s.aim2 old b ≤ 1) × (b < blocks_of s)
  owned b more = by (is_block_used r old (blocks_of s) b) refl (count b)
    where
      by : (x : Bool) → is_block_used r old (blocks_of s) b ≡ x → owners r v b ≡ bit x → (area_on r s.ait2 s.aim2 old b ≤ 1) × (b < blocks_of s)
      by true e n = (omega (arith, n), used_below r old (blocks_of s) b e)
      by false e n = absurd (omega (arith, n, more))

  -- the inode map's file doesn't have page 8
  pages : (b : ℕ) → 0 < file_has r old 16 b → new b ≡ old b
  pages b more = let f = file_in r s.ait2 s.aim2 old b in let o = owned b (omega (arith, f, more)) in same b other o.1
    where
      other : b ≢ 8
      other e =
          let one : 1 ≤ run_has (record { len = 16; addr = 0 }) 8 = in_first (nat_le 0 8 && nat_lt 8 (0 + 16)) (grind (arith, nat_tests)) in
          let m : 0 < file_has r old 16 8 = subst (λ (n : ℕ). 0 < file_has r old 16 n) e more in
          let f = file_in r s.ait2 s.aim2 old 8 in
          let o = owned 8 (omega (arith, f, m)) in
          absurd (omega (arith, one, m, f, o.0))

  inode : new 13 ≡ old 13
  inode =
      let one : 1 ≤ run_has (record { len = 16; addr = 0 }) 13 = in_first (nat_le 0 13 && nat_lt 13 (0 + 16)) (grind (arith, nat_tests)) in
      let f = file_in r s.ait2 s.aim2 old 13 in
      same 13 (λ e. absurd (omega (arith, e))) (owned 13 (omega (arith, one, f))).1

  file : IsWholeFile r old 16
  file = let m = mounted (subject_of s old) unbroken in
      let p = on_block (subject_of s old) 16 (suc (iags (subject_of s old))) 0 m.inodes_covered (omega arith) in
      file_whole r old 16 p.0 p.1

  inode_map : (j : ℕ) → file_page r new 16 j ≡ file_page r old 16 j
  inode_map = same_page r old new 16 file inode pages

  same_extents : extents_on r new ≡ extents_on r old
  unfolding extents_on
  same_extents = ap (λ (p : List ℕ). map (extent_on r new) (range_with_len 0 (128 * field_of p 4 4))) (inode_map 0)
      ∙ same_map (extent_on r old) (extent_on r new) (λ e. ap (λ (p : List ℕ). extent_place (pxd_of p (3072 + 8 * (e % 128)))) (inode_map (suc (e / 128)))) (range_with_len 0 (128 * iags_on r old))

  abbrev w : Volume
  w = meaning.volume_of s new

  -- the tree is read from pages and inode extents
  with_pages : tree_on r (record w { extents = v.extents }) ≡ tree_on r (record v { page = new })
  unfolding objects
  with_pages = refl

  pub same_image : Same (tree_on r v) (tree_on r w)
  same_image = subst (λ (t : Tree). Same (tree_on r v) t) (sym (ap (λ (es : List (Option ℕ)). tree_on r (record w { extents = es })) same_extents ∙ with_pages))
      (same_tree r v consistent.sound (area_there r s.ait2 s.aim2 old) new (λ b other used. same b other (used_below r old (blocks_of s) b used)))

pub crash_law : CrashLaw
crash_law s old left unbroken consistent fits partly =
    same_image s (page_of old) (page_of left) unbroken consistent (λ b other below.
    ap (λ (im : Image). page_of im b) partly.2
    ∙ get_or-set_other (take s.logpxd.addr old) 8 b (torn partly.0 (marked_page s (page_of (take s.logpxd.addr old) 8)) (page_of (take s.logpxd.addr old) 8)) [] other
    ∙ get_or-take s.logpxd.addr old b [] (omega (arith, below, fits)))
