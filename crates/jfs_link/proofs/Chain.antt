-- A directory gains a name for an object that is there, and the object one link: the two steps of link.
use Rattle.std.proofs.Common.{◌≡◌, ◌≢◌, ◌≤◌, ◌<◌, refl, sym, ap, ◌∙◌, subst, ℕ, ◌+◌, Bool, true, false, true≢false, List, [], ◌++◌, length, Some, None, Ok}
use Rattle.std.specs.Option.{option_map}
use Rattle.jfs_bits.specs.Broken.{first_broken}
use Rattle.jfs_bits.specs.Field.{put_bytes}
use Rattle.jfs_bits.specs.declared.descriptor.Moment.{Moment}
use Rattle.jfs_inode.specs.Rules.{rows}
use Rattle.jfs_inode.specs.declared.fields.Dinode.{Dinode}
use Rattle.jfs_name.specs.declared.name.NameEntry.{NameEntry}
use Rattle.jfs_ranges.specs.declared.edit.Edit.{Edit}
use Rattle.jfs_ranges.specs.Laid.{put_tx}
use Rattle.jfs_lead_steps.specs.page_tree.specs.Edit.{count_in}
use Rattle.jfs_lead_steps.specs.page_tree.specs.Form.{AllBelow}
use Rattle.jfs_lead_steps.specs.dtree.specs.Parent.{parent_of}
use Rattle.jfs_lead_steps.specs.dtree.specs.Spells.{spells_names}
use Rattle.jfs_lead_steps.specs.dtree.specs.Adding.{AddsName}
use Rattle.jfs_plain.specs.Tree.{Tree}
use Rattle.jfs_plain.specs.Moves.{changed, gains, stamped, rises}
use Rattle.jfs_plain.specs.Step.{entry_as}
use Rattle.jfs_lead_steps.specs.objects.specs.Readers.{Readers}
use Rattle.jfs_lead_steps.specs.objects.specs.Volume.{Volume}
use Rattle.jfs_lead_steps.specs.objects.specs.Objects.{objects, spelled, is_live, has_names}
use Rattle.jfs_lead_steps.specs.objects.specs.Owners.{bit}
use Rattle.jfs_lead_steps.specs.objects.specs.Changes.{put, PutsInode, SetsObject}
use Rattle.jfs_lead_steps.specs.meaning.specs.Contents.{byte_in}
use Rattle.jfs_lead_steps.specs.meaning.specs.Node.{node_in}
use Rattle.jfs_lead_steps.specs.meaning.specs.Readers.{readers, root_of}
use Rattle.jfs_lead_steps.specs.meaning.specs.Tree.{tree_on}
use Rattle.jfs_lead_steps.specs.meaning.specs.Consistent.{IsConsistent}
use Rattle.jfs_lead_steps.specs.Reached.{HasTree}
use Rattle.jfs_lead_steps.proofs.Chain.{some_is, set_has, set_other, twice}
use Rattle.jfs_lead_steps.proofs.InPlace.{sets_in_place, counted_names, counted_extents, counted_bytes, counted_rules, rises_now}
use Rattle.jfs_lead_steps.proofs.Named.{gains_set, gains_have}
use Rattle.jfs_lead_steps.proofs.Again.{again, few_links, inode_same, spelled_inode, stays_in_use}
use Rattle.jfs_steps.specs.Call.{LeavesAreas}
use Rattle.jfs_steps.proofs.Areas.{puts_leave, set_leaves}

module _ (blocks : ℕ) (v : Volume) (con : IsConsistent (readers blocks) v) (whole : (b : ℕ) → b < blocks → length (v.page b) ≡ 4096) (within : (b : ℕ) → v.used b ≡ true → b < blocks)
    (n : ℕ) (d : Dinode) (was_n : objects (readers blocks) v n ≡ Some (spelled (readers blocks) v.page d)) (dir : has_names d ≡ true) (size : length d.rest ≡ 384) (live_n : is_live n d ≡ true)
    (es : List NameEntry) (spelled_es : spells_names blocks v.page (root_of d) ≡ Ok es)
    (m : ℕ) (e : Dinode) (was_m : objects (readers blocks) v m ≡ Some (spelled (readers blocks) v.page e)) (file : has_names e ≡ false) (live_m : is_live m (record e { nlink = e.nlink + 1 }) ≡ true) (few : e.nlink + 1 ≤ 65535)
    (name : List ℕ) (now : Moment) (own : ℕ) (free left taken : List ℕ) (parts : free ≡ taken ++ left) (once : (b : ℕ) → count_in b free ≤ 1) (all : AllBelow blocks free) (unused : (b : ℕ) → 0 < count_in b free → v.used b ≡ false)
    (root : List ℕ) (width : length root ≡ 288) (parent : parent_of root ≡ parent_of (root_of d)) (mid_tx named_tx tx : List Edit) (adds : AddsName blocks v.page (entry_as name m) (root_of d) root free left [] mid_tx)
    (puts_n : PutsInode (put_tx blocks mid_tx v.page) (put_tx blocks named_tx v.page) v.extents n (record d { rest = put_bytes 96 root d.rest; nblocks = own; mtime = now; ctime = now }))
    (puts_m : PutsInode (put_tx blocks named_tx v.page) (put_tx blocks tx v.page) v.extents m (record e { nlink = e.nlink + 1; ctime = now }))
    (used : ℕ → Bool) (used_is : (b : ℕ) → bit (used b) ≡ bit (v.used b) + count_in b taken) where
  abbrev r : Readers
  r = readers blocks

  abbrev t : Tree
  t = tree_on r v

  abbrev v1 : Volume
  v1 = record v { page = put_tx blocks named_tx v.page; used = used }

  abbrev v2 : Volume
  v2 = record v { page = put_tx blocks tx v.page; used = used }

  abbrev risen : Dinode
  risen = record e { nlink = e.nlink + 1; ctime = now }

  has : HasTree r v t
  has = record { sound = con.sound; inodes = con.inodes; tree = refl }

  -- a directory isn't the object
  apart : m ≢ n
  apart h = true≢false (sym dir ∙ ap has_names (inode_same r v.page v.page d e (some_is (sym was_n ∙ ap (objects r v) (sym h) ∙ was_m))) ∙ file)

  rules_of : (k : ℕ) (x : Dinode) → objects r v k ≡ Some (spelled r v.page x) → first_broken (rows x k) ≡ None
  rules_of k x h = ap (λ (y : Dinode). first_broken (rows y k)) (sym (spelled_inode r v.page x)) ∙ con.inodes k (spelled r v.page x) h

  few_n : d.nlink ≤ 65535
  few_n = few_links d n (rules_of n d was_n)

  same_use : (k : ℕ) → v.in_use k ≡ put n true v.in_use k
  same_use = stays_in_use r v n (spelled r v.page d) con.sound was_n

  named_has : HasTree r v1 (changed n (gains (entry_as name m) now) t)
  named_has = gains_have blocks v.page [] v v1 (λ b l. (whole b l, refl)) (λ b l. refl) t has within n d was_n dir size (λ k. k) own live_n few_n root width parent now es spelled_es mid_tx puts_n refl refl same_use
      (entry_as name m) free left taken parts once all unused adds used_is

  named_set : SetsObject r v v1 n (record d { rest = put_bytes 96 root d.rest; nblocks = own; mtime = now; ctime = now }) (put_tx blocks mid_tx v.page) taken []
  named_set = gains_set blocks v.page [] v v1 (λ b l. (whole b l, refl)) (λ b l. refl) t has within n d was_n dir size (λ k. k) own live_n few_n root width parent now es spelled_es mid_tx puts_n refl refl same_use
      (entry_as name m) free left taken parts once all unused adds used_is

  still_m : objects r v1 m ≡ Some (spelled r v.page e)
  still_m = set_other r v v1 t has n (record d { rest = put_bytes 96 root d.rest; nblocks = own; mtime = now; ctime = now }) (put_tx blocks mid_tx v.page) taken [] named_set m apart ∙ was_m

  there_m : objects r v1 m ≡ Some (spelled r v1.page e)
  there_m = (again r v1 v.page m e still_m).0

  -- the name, and then the link
  linked_has : HasTree r v2 (changed m (stamped now) (changed m rises (changed n (gains (entry_as name m) now) t)))
  linked_has = by (twice m rises (stamped now) (changed n (gains (entry_as name m) now) t))
      (set_has r v1 v2 (changed n (gains (entry_as name m) now) t) named_has m risen v1.page [] []
      (sets_in_place r v1 v2 named_has.sound m e risen there_m live_m (counted_names blocks v1.page e (e.nlink + 1) now) (counted_extents blocks v1.page e (e.nlink + 1) now) refl refl puts_m refl refl refl (λ k. refl))
      (λ o. stamped now (rises o))
      (rises_now blocks v1.page e now ∙ ap (option_map (λ o. stamped now (rises o))) (sym (ap (node_in r v1.page) there_m)))
      (λ i. counted_bytes blocks v1.page e (e.nlink + 1) now i ∙ sym (ap (λ o. byte_in r v1.page o i) there_m))
      (counted_rules blocks v1.page e (e.nlink + 1) now m few (rules_of m e was_m)))
    where
      by : {x y : Tree} → x ≡ y → HasTree r v2 y → HasTree r v2 x
      by h s = subst (HasTree r v2) (sym h) s

  linked_leaves : LeavesAreas v v2
  linked_leaves b h = puts_leave r v con.sound.agrees v1.page v2.page m risen puts_m b h
      ∙ set_leaves r v con.sound.agrees v1 n (record d { rest = put_bytes 96 root d.rest; nblocks = own; mtime = now; ctime = now }) (put_tx blocks mid_tx v.page) taken [] named_set b h

  pub linked_both : HasTree r v2 (changed m (stamped now) (changed m rises (changed n (gains (entry_as name m) now) t))) × LeavesAreas v v2
  linked_both = (linked_has, linked_leaves)
