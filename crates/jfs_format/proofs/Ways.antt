-- A volume that lacks its superblock, and what a crash leaves on the way there.
use Rattle.std.proofs.Common.{◌≡◌, ◌≤◌, ◌<◌, ◌+◌, ◌-◌, ℕ, List, [], length, drop, refl, subst, ap, ◌∙◌, ◌⊎◌, inl, inr, arith}
use Rattle.std.proofs.Math.ListN.{set}
use Rattle.std.proofs.lemmas.List.{get_or-set_same, get_or-set_other, drop-set-lt}
use Rattle.jfs_disk.specs.Image.{Image, page_of}
use Rattle.jfs_disk.specs.Crash.{torn, TearsPage}
use Rattle.jfs_disk.specs.declared.disk.Disk.{Ghosts}
use Rattle.jfs_logpages.specs.Fresh.{IsFreshLog, IsOutside, OthersStay}
use Rattle.jfs_logpages.proofs.Histories.{histories-fewer, histories-join}
use Rattle.jfs_format.specs.declared.layout.Layout.{Layout}
use Rattle.jfs_format.specs.declared.volume.NewVolume.{NewVolume}
use Rattle.jfs_imap.specs.Inodes.{IsInodePage}
use Rattle.jfs_bmap.specs.MapFile.{IsMapPage}
use Rattle.jfs_format.specs.declared.tables.Table.TheVariants.{Aggregate, Fileset}
use Rattle.jfs_bits.specs.declared.descriptor.Moment.{Moment}
use Rattle.jfs_super.specs.Super.{super_of}
use Rattle.jfs_format.specs.Layout.{IsLayout, layout_of, map_pages, second_table, second_map, inode_map, first_inodes, is_taken_block}
use Rattle.jfs_format.specs.Inodes.{aggregate_inode, fileset_inode, IsTablePage}
use Rattle.jfs_format.specs.Superblock.{label_field, new_super, super_page}
use Rattle.jfs_format.specs.Volume.{wanted, HasPages, inodes_in, IsAllButSuper, IsNewVolume, IsUnnamed, IsOnTheWay}
use Rattle.jfs_format.specs.Wrote.{WroteWithin}
use Rattle.jfs_format.specs.Areas.{IsUpToLog}
use Rattle.jfs_format.specs.Steps.{IsKept, WroteNamed}
use Rattle.jfs_format.proofs.Joined.{up-to-kept}

-- ---- a page before an area doesn't matter to it

has-apart : (first count n : ℕ) (Is : ℕ → List ℕ → Type 0) (image : Image) (page : List ℕ) → n < first → HasPages first count Is image → HasPages first count Is (set image n page)
has-apart first count n Is image page before has k h = rw (get_or-set_other image n (first + k) page [] (λ e. omega (arith, e))) (has k h)

pub all-but : (pages : ℕ) (v : NewVolume) (image : Image) (page : List ℕ) → IsLayout pages v.layout → IsAllButSuper v image → IsAllButSuper v (set image 8 page)
all-but pages v image page l all = record {
  aggregate_map = has-apart 9 2 8 (IsInodePage (inodes_in Aggregate v.layout)) image page (omega arith) all.aggregate_map;
  aggregate_inodes = has-apart 11 4 8 (IsTablePage (aggregate_inode v)) image page (omega arith) all.aggregate_inodes;
  second_super = get_or-set_other image 8 15 page [] (λ e. omega (arith, e)) ∙ all.second_super;
  block_map = has-apart 16 (map_pages v.layout) 8 (IsMapPage v.layout.blocks v.layout.agsize (is_taken_block v.layout)) image page (omega arith) all.block_map;
  second_inodes = has-apart (second_table v.layout) 4 8 (IsTablePage (aggregate_inode v)) image page (omega arith) all.second_inodes;
  second_map = has-apart (second_map v.layout) 2 8 (IsInodePage (inodes_in Aggregate v.layout)) image page (omega arith) all.second_map;
  inode_map = has-apart (inode_map v.layout) (1 + v.layout.iags) 8 (IsInodePage (inodes_in Fileset v.layout)) image page (omega arith) all.inode_map;
  inodes = has-apart (first_inodes v.layout) 4 8 (IsTablePage (fileset_inode v)) image page (omega arith) all.inodes;
  log = rw (drop-set-lt v.layout.log.addr image 8 page (omega (arith, l.least, l.work, l.behind))) all.log;
}

pub volume-made : (pages : ℕ) (v : NewVolume) (mid new : Image) → IsLayout pages v.layout → 8 < length mid → IsAllButSuper v mid → new ≡ set mid 8 (super_page v) → IsNewVolume v new
volume-made pages v mid new l there all e = rw e (record {
  super_block = get_or-set_same mid 8 (super_page v) [] there;
  rest = all-but pages v mid (super_page v) l all;
})

-- ---- on the way

kept-unnamed : (v : NewVolume) (n : ℕ) → IsUnnamed v.layout n → IsKept v.layout n
kept-unnamed v n (inl low) = inl (omega arith)
kept-unnamed v n (inr high) = inr high

pub way-before : (v : NewVolume) (old left : Image) → ((n : ℕ) → IsKept v.layout n → page_of left n ≡ page_of old n) → IsOnTheWay v old left
way-before v old left kept = record { page = inl (kept 8 (inl (omega arith))); unnamed = λ n side. kept n (kept-unnamed v n side) }

pub way-after : (pages : ℕ) (v : NewVolume) (old mid left : Image) → IsLayout pages v.layout → 8 < length mid → IsAllButSuper v mid → ((n : ℕ) → IsKept v.layout n → page_of mid n ≡ page_of old n) → TearsPage 8 (super_page v) mid left → IsOnTheWay v old left
way-after pages v old mid left l there all kept tears =
    let page = torn tears.0 (super_page v) (page_of mid 8) in
    rw tears.2 (record {
      page = inr (tears.0, tears.1, get_or-set_same mid 8 page [] there ∙ ap (λ (z : List ℕ). torn tears.0 (super_page v) z) (kept 8 (inl (omega arith))), all-but pages v mid page l all);
      unnamed = λ n side. get_or-set_other mid 8 n page [] (λ e. apart n side e) ∙ kept n (kept-unnamed v n side);
    })
  where
    apart : (n : ℕ) → IsUnnamed v.layout n → n ≡ 8 → ⊥
    apart n (inl low) e = omega (arith, low, e)
    apart n (inr high) e = omega (arith, high.0, e)

-- pages that aren't named stay at the last step too
pub unnamed-kept : (v : NewVolume) (old new : Image) → ((n : ℕ) → IsKept v.layout n → page_of new n ≡ page_of old n) → (n : ℕ) → IsUnnamed v.layout n → page_of new n ≡ page_of old n
unnamed-kept v old new kept n side = kept n (kept-unnamed v n side)

pub unnamed-outside : (v : NewVolume) (n : ℕ) → IsUnnamed v.layout n → (n < 8) ⊎ (8 + 1 ≤ n)
unnamed-outside v n (inl low) = inl low
unnamed-outside v n (inr high) = inr (omega (arith, high.0))

-- ---- all but the superblock

kept-blocks : (l : Layout) (n : ℕ) → IsKept l n → IsOutside 9 (22 + l.dmaps + l.iags) n
kept-blocks l n (inl low) = inl low
kept-blocks l n (inr high) = inr (omega (arith, high.0))

kept-log : (pages : ℕ) (l : Layout) (n : ℕ) → IsLayout pages l → IsKept l n → IsOutside (l.log.addr + 1) (l.log.len - 1) n
kept-log pages l n b (inl low) = inl (omega (arith, low, b.least, b.work, b.behind))
kept-log pages l n b (inr high) = high.1

pub named-part : {D : Type 0} (d : Ghosts D) (l : Layout) (old new : D) → WroteWithin d 9 (22 + l.dmaps + l.iags) old new → WroteNamed d l old new
named-part d l old new one = record {
  pages = one.pages;
  others = λ t n keeps. one.others t n (kept-blocks l n keeps);
  past = λ c. histories-fewer (IsOutside 9 (22 + l.dmaps + l.iags)) (IsKept l) (d.past old) (d.past new) (λ n keeps. kept-blocks l n keeps) (one.past c);
}

pub named-both : {D : Type 0} (d : Ghosts D) (pages : ℕ) (l : Layout) (old mid new : D) → (d.tells_crashes → 0 < length (d.past old)) → IsLayout pages l → WroteWithin d 9 (22 + l.dmaps + l.iags) old mid → WroteWithin d (l.log.addr + 1) (l.log.len - 1) mid new → WroteNamed d l old new
named-both d pages l old mid new some b one two = record {
  pages = two.pages ∙ one.pages;
  others = λ t n keeps. two.others t n (kept-log pages l n b keeps) ∙ one.others t n (kept-blocks l n keeps);
  past = λ c. histories-join (IsKept l) (d.past old) (d.past mid) (d.past new) (some c)
      (histories-fewer (IsOutside 9 (22 + l.dmaps + l.iags)) (IsKept l) (d.past old) (d.past mid) (λ n keeps. kept-blocks l n keeps) (one.past c))
      (histories-fewer (IsOutside (l.log.addr + 1) (l.log.len - 1)) (IsKept l) (d.past mid) (d.past new) (λ n keeps. kept-log pages l n b keeps) (two.past c));
}

pub all-made : (pages : ℕ) (v : NewVolume) (mid new : Image) → IsLayout pages v.layout → OthersStay (v.layout.log.addr + 1) (v.layout.log.len - 1) mid new → IsUpToLog v mid → IsFreshLog v.layout.log.len v.uuid (drop v.layout.log.addr new) → IsAllButSuper v new
all-made pages v mid new b stay blocks log =
    let all = up-to-kept v (v.layout.log.addr + 1) (v.layout.log.len - 1) mid new (omega (arith, b.within, b.work, b.behind)) stay blocks in
    record {
      aggregate_map = all.front.aggregate_map;
      aggregate_inodes = all.front.aggregate_inodes;
      second_super = all.front.second_super;
      block_map = all.block_map;
      second_inodes = all.copies.second_inodes;
      second_map = all.copies.second_map;
      inode_map = all.fileset.inode_map;
      inodes = all.fileset.inodes;
      log = log;
    }

-- what is asked for, by its parts
pub way-of : (pages : ℕ) (uuid label : List ℕ) (now : Moment) (layout : Layout) (own field : List ℕ) (old left : Image) → layout ≡ layout_of pages → own ≡ uuid → field ≡ label_field label
    → IsOnTheWay (record { layout = layout; uuid = own; label = field; moment = now }) old left → IsOnTheWay (wanted pages uuid label now) old left
way-of pages uuid label now layout own field old left l u b way = rw (l, u, b) at way

pub super-read : (pages : ℕ) (uuid label : List ℕ) (now : Moment) (layout : Layout) (own field : List ℕ) (image : Image) → layout ≡ layout_of pages → own ≡ uuid → field ≡ label_field label
    → page_of image 8 ≡ super_page (record { layout = layout; uuid = own; label = field; moment = now }) → super_of (super_page (record { layout = layout; uuid = own; label = field; moment = now })) ≡ new_super (record { layout = layout; uuid = own; label = field; moment = now })
    → super_of (page_of image 8) ≡ new_super (wanted pages uuid label now)
super-read pages uuid label now layout own field image l u b page reads =
    let v : NewVolume = record { layout = layout; uuid = own; label = field; moment = now } in
    let same : v ≡ wanted pages uuid label now = rw (l, u, b) refl in
    subst (λ (w : NewVolume). super_of (page_of image 8) ≡ new_super w) same (ap super_of page ∙ reads)
