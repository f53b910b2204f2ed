-- Where the maps' files lie, and the fixed areas.
use Rattle.std.proofs.Common.{◌≡◌, ◌≢◌, ◌⊎◌, ◌≤◌, ◌<◌, refl, sym, ap, ◌∙◌, subst, ℕ, ◌+◌, ◌/◌, ◌%◌, ◌&&◌, Bool, true, false, nat_le, nat_lt, if◌then◌else◌, List, inl, inr, arith}
use Rattle.std.proofs.lemmas.Bool.{cases_eq}
use Rattle.std.proofs.lemmas.Bool.Decides.{nat_tests}
use Rattle.jfs_bits.specs.declared.descriptor.Pxd.{Pxd}
use Rattle.jfs_bits.specs.declared.extent.Xad.{Xad}
use Rattle.jfs_inode.specs.declared.fields.Dinode.{Dinode}
use Rattle.jfs_way.specs.page_tree.specs.Walk.{Marks}
use Rattle.jfs_way.specs.page_tree.specs.Spells.{tree_of, footprint as root_footprint}
use Rattle.jfs_way.specs.page_tree.proofs.Footprint.{tree_frame}
use Rattle.jfs_way.specs.objects.specs.Readers.{Readers}
use Rattle.jfs_way.specs.objects.specs.Volume.{Volume, slot_of, room}
use Rattle.jfs_way.specs.objects.specs.Objects.{objects, met, listed}
use Rattle.jfs_way.specs.objects.specs.Owners.{Agrees, owners, bit, unless_broken, entries, run_has, covers, holds, extents_have, sum_below}
use Rattle.jfs_way.specs.objects.specs.Image.{aggregate_at, file_walk, file_extents, file_has, area_on}
use Rattle.jfs_kinds.specs.Images.{IsWholeFile, HasWholeFiles}
use Rattle.jfs_shown.specs.Laws.{KeepsPlaces, SamePlaces, FilesLaw, map_pages, KeepsAreas, KeepsLaw}

-- ---- the walk of one file

same_walk : (r : Readers) (old new : ℕ → List ℕ) (k : ℕ) → new (11 + k / 8) ≡ old (11 + k / 8) → ((b : ℕ) → 0 < met (file_walk r old k) b → new b ≡ old b) → file_walk r new k ≡ file_walk r old k
unfolding root_footprint
same_walk r old new k inode trees = ap (λ (d : Dinode). tree_of r.extents_order (λ b. r.extents_page (new b)) (r.extents_root d)) (ap (λ (p : List ℕ). slot_of p (k % 8)) inode)
    ∙ tree_frame r.extents_order (λ b. r.extents_page (old b)) (λ b. r.extents_page (new b)) (r.extents_root (aggregate_at old k)) (λ b h. ap r.extents_page (trees b h))

-- what is told by a walk
extents_by : (r : Readers) (one other : Marks ℕ Xad) → one ≡ other → entries (listed r.extents_order one) ≡ entries (listed r.extents_order other)
extents_by r one other same = ap (λ (ms : Marks ℕ Xad). entries (listed r.extents_order ms)) same

has_by : (r : Readers) (old new : ℕ → List ℕ) (k b : ℕ) → file_walk r new k ≡ file_walk r old k → file_has r new k b ≡ file_has r old k b
unfolding file_has
has_by r old new k b same = ap (λ (ms : Marks ℕ Xad). unless_broken (listed r.extents_order ms) (met ms b) + covers b (entries (listed r.extents_order ms))) same

whole_by : (r : Readers) (old new : ℕ → List ℕ) (k : ℕ) → file_walk r new k ≡ file_walk r old k → IsWholeFile r old k → IsWholeFile r new k
whole_by r old new k same whole = (whole.0, ap (λ (ms : Marks ℕ Xad). listed r.extents_order ms) same ∙ whole.1)

pub files_law : FilesLaw
unfolding area_on
files_law r table map old new keeps =
    let two = same_walk r old new 2 keeps.low_inodes keeps.block_map in
    let four = same_walk r old new 4 keeps.low_inodes keeps.bad_blocks in
    let sixteen = same_walk r old new 16 keeps.high_inodes keeps.inode_map in
    record {
      block_map = extents_by r (file_walk r new 2) (file_walk r old 2) two;
      inode_map = extents_by r (file_walk r new 16) (file_walk r old 16) sixteen;
      areas = λ b.
          (let x = has_by r old new 2 b two in
          let y = has_by r old new 4 b four in
          let z = has_by r old new 16 b sixteen in
          omega (arith, x, y, z));
      whole = λ h. record { block_map = whole_by r old new 2 two h.block_map; bad_blocks = whole_by r old new 4 four h.bad_blocks; inode_map = whole_by r old new 16 sixteen h.inode_map };
    }

-- ---- what keeps them

in_first : (b : ℕ) → b < 16 → 1 ≤ run_has (record { len = 16; addr = 0 }) b
in_first b h = within (nat_le 0 b && nat_lt b (0 + 16)) (grind (arith, nat_tests))
  where
    within : (x : Bool) → x ≡ true → 1 ≤ (if x then 1 else 0)
    within true h = omega arith
    within false h = absurd (cc (h))

at_most_one : (x : Bool) (n : ℕ) → n ≡ bit x → n ≤ 1
at_most_one true n e = omega (arith, e)
at_most_one false n e = omega (arith, e)

module _ (r : Readers) (table map : Pxd) (v : Volume) (new : ℕ → List ℕ) (agrees : Agrees r v) (areas : (b : ℕ) → v.area b ≡ area_on r table map v.page b) (whole : HasWholeFiles r v.page) (keeps : KeepsAreas r v.area v.page new) where
  abbrev first : ℕ → ℕ
  first b = run_has (record { len = 16; addr = 0 }) b

  abbrev walked : ℕ → ℕ → ℕ
  walked k b = unless_broken (listed r.extents_order (file_walk r v.page k)) (met (file_walk r v.page k) b)

  -- an area has a block once, whichever it is
  once : (b : ℕ) → first b + walked 2 b + walked 4 b + walked 16 b + map_pages r v.page b ≤ 1
  unfolding area_on file_has
  once b =
      let a = areas b in
      let n = at_most_one (v.used b) (owners r v b) (agrees.blocks b) in
      omega (arith, a, n)

  some : (b : ℕ) → first b + walked 2 b + walked 4 b + walked 16 b ≤ v.area b
  unfolding area_on file_has
  some b = let a = areas b in omega (arith, a)

  stays : (b : ℕ) → 1 ≤ first b + walked 2 b + walked 4 b + walked 16 b → b ≢ 8 → new b ≡ v.page b
  stays b more other = let o = once b in let s = some b in keeps b other (omega (arith, s, more)) (omega (arith, o, more))

  low : (b : ℕ) → b < 16 → b ≢ 8 → new b ≡ v.page b
  low b l other = let f = in_first b l in stays b (omega (arith, f)) other

  -- a page of a tree isn't among the first ones
  tree : (b : ℕ) → 1 ≤ walked 2 b + walked 4 b + walked 16 b → new b ≡ v.page b
  tree b more = stays b (omega (arith, more)) other
    where
      other : b ≢ 8
      other e =
          let o = once 8 in
          let f = in_first 8 (omega arith) in
          let m : 1 ≤ walked 2 8 + walked 4 8 + walked 16 8 = subst (λ (n : ℕ). 1 ≤ walked 2 n + walked 4 n + walked 16 n) e more in
          absurd (omega (arith, o, f, m))

  is_walked : (k b : ℕ) → IsWholeFile r v.page k → walked k b ≡ met (file_walk r v.page k) b
  is_walked k b w = ap (λ l. unless_broken l (met (file_walk r v.page k) b)) w.1

  pub kept : KeepsPlaces r v.page new
  kept = record {
    low_inodes = low 11 (omega arith) (λ e. absurd (omega (arith, e)));
    high_inodes = low 13 (omega arith) (λ e. absurd (omega (arith, e)));
    block_map = λ b more. (let w = is_walked 2 b whole.block_map in tree b (omega (arith, w, more)));
    bad_blocks = λ b more. (let w = is_walked 4 b whole.bad_blocks in tree b (omega (arith, w, more)));
    inode_map = λ b more. (let w = is_walked 16 b whole.inode_map in tree b (omega (arith, w, more)));
  }

pub keeps_law : KeepsLaw
keeps_law = kept
