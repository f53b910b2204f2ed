-- The fixed areas lie within the file system part.
use Rattle.std.proofs.Common.{◌≡◌, ◌≤◌, refl, sym, ap, ◌∙◌, ℕ, zero, suc, ◌+◌, ◌%◌, ◌^◌, Bool, true, false, ◌&&◌, ◌==◌, nat_le, nat_lt, if◌then◌else◌, List, [], ◌∷◌, arith}
use Rattle.std.specs.declared.result.Result.{Result}
use Rattle.std.specs.declared.result.Result.TheVariants.{Ok, Err}
use Rattle.std.proofs.lemmas.Bool.{leb-true, ltb-true, and_parts}
use Rattle.jfs_bits.specs.declared.descriptor.Pxd.{Pxd}
use Rattle.jfs_bits.specs.declared.extent.Xad.{Xad}
use Rattle.jfs_bits.specs.declared.rule.Rule.{Rule}
use Rattle.jfs_bits.specs.declared.rule.Rule.TheVariants as rules
use Rattle.jfs_bits.specs.Broken.{Row}
use Rattle.jfs_bits.proofs.Broken.{each_holds}
use Rattle.jfs_super.specs.Rules.{IsAccepted, blocks_of, ends_within, rows, shape_rows, flag_rows, size_rows, log_rows}
use Rattle.jfs_super.specs.declared.fields.Super.{Super}
use Rattle.jfs_super.specs.declared.read.BadSuper.{BadSuper}
use Rattle.jfs_mount.specs.xtree.specs.Node.{xt_node, xt_scale, all_within, is_within}
use Rattle.jfs_xtpage.specs.declared.head.XtForm.TheVariants as forms
use Rattle.jfs_mount.specs.xtree.proofs.Adds.{has_pages}
use Rattle.jfs_mount.specs.page_tree.specs.Spells.{footprint}
use Rattle.jfs_mount.specs.page_tree.proofs.Within.{footprint_within}
use Rattle.jfs_mount.specs.objects.specs.Objects.{met, listed}
use Rattle.jfs_mount.specs.objects.specs.Owners.{unless_broken, entries, run_has, covers, fixed}
use Rattle.jfs_mount.specs.objects.specs.Image.{aggregate_at, file_walk, file_extents, file_has, area_on}
use Rattle.jfs_mount.specs.meaning.specs.Readers.{readers, root_of}
use Rattle.jfs_mount.specs.Subject.{subject_of}
use Rattle.jfs_mount.specs.Subject.{volume}
use Rattle.jfs_mount.proofs.Within.{entries_within}
use Rattle.jfs_findings.proofs.Mounted.{IsMounted, extents_end}

-- ---- runs

run_within : (p : Pxd) (end b : ℕ) → p.addr + p.len ≤ end → end ≤ b → run_has p b ≡ 0
run_within p end b l w = by (nat_le p.addr b && nat_lt b (p.addr + p.len)) refl
  where
    by : (x : Bool) → (nat_le p.addr b && nat_lt b (p.addr + p.len)) ≡ x → (let n : ℕ = (if x then 1 else 0) in n) ≡ 0
    by true e = absurd (let t = ltb-true b (p.addr + p.len) (and_parts (nat_le p.addr b) (nat_lt b (p.addr + p.len)) e).1 in omega (arith, t, l, w))
    by false e = refl

pub none_covered : (blocks b : ℕ) (es : List Xad) → blocks ≤ b → all_within blocks es ≡ true → covers b es ≡ 0
none_covered blocks b [] w h = refl
none_covered blocks b (x ∷ es) w h =
    let p = and_parts (is_within blocks x) (all_within blocks es) h in
    let here = run_within x.at blocks b (leb-true (x.at.addr + x.at.len) blocks (and_parts (nat_le 1 x.at.len) (nat_le (x.at.addr + x.at.len) blocks) p.0).1) w in
    let rest = none_covered blocks b es w p.1 in
    omega (arith, here, rest)

-- ---- the aggregate's files

module _ (blocks : ℕ) (page : ℕ → List ℕ) (k : ℕ) where
  no_page_met : (b : ℕ) → blocks ≤ b → met (file_walk (readers blocks) page k) b ≡ 0
  unfolding footprint
  no_page_met b w = by (met (file_walk (readers blocks) page k) b) refl
    where
      by : (n : ℕ) → met (file_walk (readers blocks) page k) b ≡ n → met (file_walk (readers blocks) page k) b ≡ 0
      by zero e = e
      by (suc n) e = absurd (let l = footprint_within xt_scale (λ b. xt_node forms.Full blocks (page b)) (xt_node forms.Root blocks (root_of (aggregate_at page k))) b blocks (has_pages forms.Root blocks (root_of (aggregate_at page k))) (λ m. has_pages forms.Full blocks (page m)) (omega (arith, e)) in omega (arith, l, w))

  unless_zero : (r : Result (List Xad) (ℕ × Rule)) (n : ℕ) → n ≡ 0 → unless_broken r n ≡ 0
  unless_zero (Ok es) n e = e
  unless_zero (Err fault) n e = refl

  pub file_ends : (b : ℕ) → blocks ≤ b → file_has (readers blocks) page k b ≡ 0
  unfolding file_has
  file_ends b w =
      let pages = unless_zero (listed xt_scale (file_walk (readers blocks) page k)) (met (file_walk (readers blocks) page k) b) (no_page_met b w) in
      let extents = none_covered blocks b (file_extents (readers blocks) page k) w (entries_within blocks page k (listed xt_scale (file_walk (readers blocks) page k)) refl) in
      omega (arith, pages, extents)

-- ---- the superblock's rules

abbrev no_row : Row BadSuper
no_row = record { answer = record { rule = rules.Short; value = 0 }; holds = true }

pub record FitsAreas (s : Super) : Type 0 where
  pub least : 64 ≤ blocks_of s
  pub table : s.ait2.addr + s.ait2.len ≤ blocks_of s
  pub map : s.aim2.addr + s.aim2.len ≤ blocks_of s

pub fits_areas : (s : Super) (pages : ℕ) → IsAccepted s pages → FitsAreas s
unfolding shape_rows flag_rows size_rows log_rows rows
fits_areas s pages h =
    let size = each_holds (rows s pages) 12 no_row h refl in
    let table = each_holds (rows s pages) 16 no_row h refl in
    let map = each_holds (rows s pages) 17 no_row h refl in
    record {
      least = leb-true 64 (blocks_of s) (and_parts (s.size % 8 == 0) (nat_le 64 (blocks_of s)) (and_parts (s.size % 8 == 0 && nat_le 64 (blocks_of s)) (nat_le (blocks_of s) (2 ^ 23)) size).0).1;
      table = leb-true (s.ait2.addr + s.ait2.len) (blocks_of s) (and_parts (s.ait2.len == 4) (ends_within s.ait2 (blocks_of s)) table).1;
      map = leb-true (s.aim2.addr + s.aim2.len) (blocks_of s) (and_parts (s.aim2.len == 2) (ends_within s.aim2 (blocks_of s)) map).1;
    }

-- no fixed area and no inode extent has a block behind the file system part
pub fixed_ends : (super : Super) (pages : ℕ) (page : ℕ → List ℕ) → IsAccepted super pages → IsMounted (subject_of super page) → (b : ℕ) → blocks_of super ≤ b → fixed (volume (subject_of super page)) b ≡ 0
unfolding area_on
fixed_ends super pages page h m b w =
    let areas = fits_areas super pages h in
    let first = run_within (record { len = 16; addr = 0 }) 16 b (omega arith) (let l = areas.least in omega (arith, l, w)) in
    let table = run_within super.ait2 (blocks_of super) b areas.table w in
    let map = run_within super.aim2 (blocks_of super) b areas.map w in
    let two = file_ends (blocks_of super) page 2 b w in
    let four = file_ends (blocks_of super) page 4 b w in
    let sixteen = file_ends (blocks_of super) page 16 b w in
    let extents = extents_end (subject_of super page) m b w in
    omega (arith, first, table, map, two, four, sixteen, extents)
