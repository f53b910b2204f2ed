-- The files of the aggregate: what is found of them, and what they hold.
use Rattle.std.proofs.Common.{◌≡◌, ◌<◌, refl, sym, ap, ◌∙◌, subst, ℕ, zero, suc, ◌+◌, ◌/◌, true, List, [], Some, None, Result, Ok, Err, arith}
use Rattle.std.specs.Prelude.{IfOk, OnOk}
use Rattle.jfs_bits.specs.declared.rule.Rule.{Rule}
use Rattle.jfs_bits.specs.declared.extent.Xad.{Xad}
use Rattle.jfs_map_check.specs.bmap.specs.MapFile.{pages_of}
use Rattle.jfs_disk.specs.Image.{Image, page_of}
use Rattle.jfs_super.specs.Rules.{blocks_of}
use Rattle.jfs_super.specs.declared.fields.Super.{Super}
use Rattle.jfs_link_check.specs.page_tree.specs.Walk.{Marks}
use Rattle.jfs_link_check.specs.xtree.specs.Node.{xt_scale}
use Rattle.jfs_link_check.specs.objects.specs.Objects.{listed}
use Rattle.jfs_link_check.specs.objects.specs.Owners.{entries}
use Rattle.jfs_link_check.specs.objects.specs.Contents.{block_of}
use Rattle.jfs_link_check.specs.objects.specs.Image.{aggregate_at, file_walk, file_extents, file_has, area_on}
use Rattle.jfs_findings.specs.meaning.specs.Readers.{readers, root_of}
use Rattle.jfs_findings.specs.mount_rules.specs.Subject.{Subject, subject_of, blocks}
use Rattle.jfs_findings.specs.mount_rules.specs.Mount.{broken_mount, covered, iags}
use Rattle.jfs_findings.specs.Gains.{Gains}
use Rattle.jfs_findings.specs.declared.finding.Finding.{Finding}
use Rattle.jfs_findings.specs.declared.finding.FindingKind.TheVariants as kinds
use Rattle.jfs_findings.proofs.Mounted.{mounted, on_block}
use Rattle.jfs_link_check.specs.object_check.specs.Laws.{IsOfFile}
use Rattle.jfs_link_check.specs.object_check.specs.Steps.{IsBroken, IsSound}
use Rattle.jfs_link_check.specs.object_check.proofs.Found.{gains_as}
use Rattle.jfs_link_check.specs.owners.specs.Counts.{OwnerSets, Adds}
use Rattle.jfs_link_check.specs.owners.specs.Held.{areas_have, extents_walk, extents_held}
use Rattle.jfs_link_check.specs.owners.proofs.Areas.{area_joined, same_walk, file_adds}
use Rattle.jfs_check.proofs.Seen.{list_or_fault, has_list}

-- ---- the files of both maps break no rule, where a mount finds none broken

nowhere : (page : ℕ) → block_of [] 0 ≡ Some page → ⊥
nowhere page h = cc h

-- a file that has a page has extents
has_extents : (s : Subject) (k n : ℕ) → 0 < n → covered s k n ≡ n → listed s.readers.extents_order (file_walk s.readers s.page k) ≡ Ok (file_extents s.readers s.page k)
has_extents s k n some e = by (listed s.readers.extents_order (file_walk s.readers s.page k)) refl
  where
    by : (l : Result (List Xad) (ℕ × Rule)) → listed s.readers.extents_order (file_walk s.readers s.page k) ≡ l → listed s.readers.extents_order (file_walk s.readers s.page k) ≡ Ok (file_extents s.readers s.page k)
    by (Ok es) h = h ∙ ap (λ (xs : List Xad). let r : Result (List Xad) (ℕ × Rule) = Ok xs in r) (sym (ap entries h))
    by (Err f) h =
        let first = on_block s k n 0 e some in
        absurd (nowhere first.0 (subst (λ (xs : List Xad). block_of xs 0 ≡ Some first.0) (ap entries h) first.1))

pub map_is_sound : (s : Subject) → broken_mount s ≡ None → listed s.readers.extents_order (file_walk s.readers s.page 2) ≡ Ok (file_extents s.readers s.page 2)
map_is_sound s none = has_extents s 2 (pages_of (blocks s)) (omega arith) (mounted s none).map_covered

pub inodes_are_sound : (s : Subject) → broken_mount s ≡ None → listed s.readers.extents_order (file_walk s.readers s.page 16) ≡ Ok (file_extents s.readers s.page 16)
inodes_are_sound s none = has_extents s 16 (suc (iags s)) (omega arith) (mounted s none).inodes_covered

-- ---- what is found

module _ (super : Super) (page : ℕ → List ℕ) (none : broken_mount (subject_of super page) ≡ None) where
  abbrev it : Subject
  it = subject_of super page

  abbrev of : ℕ → Finding → Type 0
  of k = IsBroken kinds.Xtree xt_scale (file_walk (readers (blocks_of super)) page k) (11 + k / 8)

  to : (f : Finding) → of 4 f → IsOfFile it f
  to f h = (4, (1, omega arith, refl), h)

  back : (f : Finding) → IsOfFile it f → of 4 f
  back f (k, (zero, l, e), h) = absurd (let b = (subst (λ (k : ℕ). of k f) (sym e) h).1 in list_or_fault (listed xt_scale (file_walk (readers (blocks_of super)) page 2)) (file_extents (readers (blocks_of super)) page 2) (b.tree_page, b.rule) (map_is_sound it none) b.breaks)
  back f (k, (suc zero, l, e), h) = subst (λ (k : ℕ). of k f) (sym e) h
  back f (k, (suc (suc zero), l, e), h) = absurd (let b = (subst (λ (k : ℕ). of k f) (sym e) h).1 in list_or_fault (listed xt_scale (file_walk (readers (blocks_of super)) page 16)) (file_extents (readers (blocks_of super)) page 16) (b.tree_page, b.rule) (inodes_are_sound it none) b.breaks)
  back f (k, (suc (suc (suc n)), l, e), h) = absurd (omega (arith, l))

  -- of the three files only that of the bad blocks can break a rule
  files_found : (old new : List Finding) → Gains (IsBroken kinds.Xtree xt_scale (file_walk (readers (blocks_of super)) page 4) 11) old new → Gains (IsOfFile it) old new
  files_found old new g = gains_as to back g

-- what a tree that breaks no rule holds, on a view that is as it was
pub sound_held : {T E : Type 0} (root : List ℕ) (blocks now : ℕ) (image after : Image) (r : Result T E) (old new : OwnerSets) → now ≡ blocks → after ≡ image → IsSound (listed xt_scale (extents_walk blocks (page_of image) root)) true
    → IfOk r (λ it. (es : List Xad) → listed xt_scale (extents_walk now (page_of after) root) ≡ Ok es → Adds (extents_held (extents_walk now (page_of after) root)) old new)
    → IfOk r (λ it. Adds (extents_held (extents_walk blocks (page_of image) root)) old new)
sound_held root blocks now image after (Ok it) old new e f is told =
    let list = has_list (listed xt_scale (extents_walk blocks (page_of image) root)) is in
    let walk : extents_walk now (page_of after) root ≡ extents_walk blocks (page_of image) root = ap (λ (n : ℕ). extents_walk n (page_of after) root) e ∙ ap (λ (i : Image). extents_walk blocks (page_of i) root) f in
    subst (λ (ms : Marks ℕ Xad). Adds (extents_held ms) old new) walk (told list.0 (ap (λ (ms : Marks ℕ Xad). listed xt_scale ms) walk ∙ list.1))
sound_held root blocks now image after (Err x) old new e f is told = tt

-- ---- all of them, one after the other

module _ (super : Super) (b0 : ℕ) (i0 : Image) (part : blocks_of super ≡ b0) where
  abbrev this : Subject
  this = subject_of super (page_of i0)

  moved : (P : ℕ → Image → Type 0) (now : ℕ) (after : Image) → now ≡ b0 → after ≡ i0 → P now after → P (blocks_of super) i0
  moved P now after same whole x = subst (λ (n : ℕ). P n i0) (sym part) (subst (P b0) whole (subst (λ (n : ℕ). P n after) same x))

  root_of_file : (k : ℕ) (root : List ℕ) (after : Image) → after ≡ i0 → root ≡ root_of (aggregate_at (page_of after) k) → root ≡ root_of (aggregate_at (page_of i0) k)
  root_of_file k root after whole is = is ∙ ap (λ (i : Image). root_of (aggregate_at (page_of i) k)) whole

  -- what is told of a tree that breaks no rule, by its root, on the view as it is then
  abbrev Told : List ℕ → OwnerSets → OwnerSets → ℕ → Image → Type 0
  Told root old new b i = (es : List Xad) → listed xt_scale (extents_walk b (page_of i) root) ≡ Ok es → Adds (extents_held (extents_walk b (page_of i) root)) old new

  file_told : (k : ℕ) (root : List ℕ) (old new : OwnerSets) (now : ℕ) (after : Image) → now ≡ b0 → after ≡ i0 → root ≡ root_of (aggregate_at (page_of i0) k) → Told root old new now after
      → (es : List Xad) → listed xt_scale (file_walk (readers (blocks_of super)) (page_of i0) k) ≡ Ok es → Adds (file_has (readers (blocks_of super)) (page_of i0) k) old new
  file_told k root old new now after same whole is told es sound =
      let walk = same_walk (blocks_of super) (page_of i0) root k is in
      file_adds (blocks_of super) (page_of i0) k old new
      (subst (λ (ms : Marks ℕ Xad). Adds (extents_held ms) old new) walk (moved (Told root old new) now after same whole told es (ap (λ (ms : Marks ℕ Xad). listed xt_scale ms) walk ∙ sound)))

  file_holds : (k : ℕ) (root : List ℕ) (old new : OwnerSets) (now : ℕ) (after : Image) → now ≡ b0 → after ≡ i0 → root ≡ root_of (aggregate_at (page_of i0) k) → Adds (extents_held (extents_walk now (page_of after) root)) old new
      → Adds (file_has (readers (blocks_of super)) (page_of i0) k) old new
  file_holds k root old new now after same whole is adds =
      file_adds (blocks_of super) (page_of i0) k old new
      (subst (λ (ms : Marks ℕ Xad). Adds (extents_held ms) old new) (same_walk (blocks_of super) (page_of i0) root k is) (moved (λ b i. Adds (extents_held (extents_walk b (page_of i) root)) old new) now after same whole adds))

  pub area_found : {T E : Type 0} (r : Result T E) (root : List ℕ) (b : ℕ) (i1 i : Image) (old new : List Finding) → b ≡ b0 → i1 ≡ i0 → i ≡ i0 → root ≡ root_of (aggregate_at (page_of i1) 4)
      → Gains (IsBroken kinds.Xtree xt_scale (extents_walk b (page_of i) root) 11) old new → OnOk r (broken_mount this ≡ None → Gains (IsOfFile this) old new)
  area_found (Ok it) root b i1 i old new e f1 f is gains = λ none.
      files_found super (page_of i0) none old new
      (subst (λ (ms : Marks ℕ Xad). Gains (IsBroken kinds.Xtree xt_scale ms 11) old new) (same_walk (blocks_of super) (page_of i0) root 4 (root_of_file 4 root i1 f1 is))
      (moved (λ n x. Gains (IsBroken kinds.Xtree xt_scale (extents_walk n (page_of x) root) 11) old new) b i e f gains))
  area_found (Err x) root b i1 i old new e f1 f is gains = tt

  pub area_held : {T E : Type 0} (r : Result T E) (map bad inodes : List ℕ) (b2 b3 b5 : ℕ) (i1 i2 i3 i4 i5 : Image) (o p q s t : OwnerSets) → b2 ≡ b0 → b3 ≡ b0 → b5 ≡ b0 → i1 ≡ i0 → i2 ≡ i0 → i3 ≡ i0 → i4 ≡ i0 → i5 ≡ i0
      → map ≡ root_of (aggregate_at (page_of i0) 2) → bad ≡ root_of (aggregate_at (page_of i1) 4) → inodes ≡ root_of (aggregate_at (page_of i4) 16)
      → Adds (areas_have super.ait2 super.aim2) o p → Told map p q b2 i2 → Adds (extents_held (extents_walk b3 (page_of i3) bad)) q s → IfOk r (λ it. Told inodes s t b5 i5)
      → IfOk r (λ it. (broken_mount this ≡ None → Adds (area_on (readers (blocks_of super)) super.ait2 super.aim2 (page_of i0)) o t))
  area_held (Ok it) map bad inodes b2 b3 b5 i1 i2 i3 i4 i5 o p q s t e2 e3 e5 f1 f2 f3 f4 f5 is_map is_bad is_inodes areas of_map of_bad of_inodes = λ none.
      area_joined (readers (blocks_of super)) (page_of i0) super.ait2 super.aim2 o p q s t areas
      (file_told 2 map p q b2 i2 e2 f2 is_map of_map (file_extents (readers (blocks_of super)) (page_of i0) 2) (map_is_sound this none))
      (file_holds 4 bad q s b3 i3 e3 f3 (root_of_file 4 bad i1 f1 is_bad) of_bad)
      (file_told 16 inodes s t b5 i5 e5 f5 (root_of_file 16 inodes i4 f4 is_inodes) of_inodes (file_extents (readers (blocks_of super)) (page_of i0) 16) (inodes_are_sound this none))
  area_held (Err x) map bad inodes b2 b3 b5 i1 i2 i3 i4 i5 o p q s t e2 e3 e5 f1 f2 f3 f4 f5 is_map is_bad is_inodes areas of_map of_bad of_inodes = tt
