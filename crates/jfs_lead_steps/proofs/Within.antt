-- A directory gains one name and then loses another, by two calls on its tree and one change of its inode.
use Rattle.std.proofs.Common.{◌≡◌, ◌≤◌, ◌<◌, refl, sym, ap, ◌∙◌, inl, inr, ℕ, Bool, ◌+◌, true, false, List, [], ◌++◌, length, Some, Ok, arith}
use Rattle.jfs_bits.specs.Field.{put_bytes}
use Rattle.jfs_bits.specs.declared.descriptor.Moment.{Moment}
use Rattle.jfs_inode.specs.declared.fields.Dinode.{Dinode}
use Rattle.jfs_name.specs.declared.name.NameEntry.{NameEntry}
use Rattle.jfs_name.specs.Directory.{named, with_name, without_name}
use Rattle.jfs_ranges.specs.declared.edit.Edit.{Edit}
use Rattle.jfs_ranges.specs.Laid.{put_tx}
use Rattle.jfs_tree.specs.Edit.{count_in}
use Rattle.jfs_tree.specs.Form.{AllBelow}
use Rattle.jfs_tree.specs.Fresh.{LeadsTo, after_tx}
use Rattle.jfs_tree.specs.Removes.{TellsFreed}
use Rattle.jfs_meaning.specs.dtree.specs.Parent.{parent_of}
use Rattle.jfs_meaning.specs.dtree.specs.Spells.{spells_names, owned_pages}
use Rattle.jfs_meaning.specs.dtree.specs.Adding.{AddsName, HasOneMoreName}
use Rattle.jfs_meaning.specs.dtree.specs.Removing.{RemovesName, HasOneLessName}
use Rattle.jfs_meaning.specs.plain.specs.Tree.{Tree}
use Rattle.jfs_meaning.specs.plain.specs.Moves.{changed}
use Rattle.jfs_meaning.specs.objects.specs.Readers.{Readers}
use Rattle.jfs_meaning.specs.objects.specs.Volume.{Volume}
use Rattle.jfs_meaning.specs.objects.specs.Objects.{objects, spelled, is_live, has_names}
use Rattle.jfs_meaning.specs.objects.specs.Owners.{bit, holds}
use Rattle.jfs_meaning.specs.objects.specs.Changes.{put, PutsInode, SetsObject}
use Rattle.jfs_meaning.specs.objects.proofs.Owned.{owned_once}
use Rattle.jfs_meaning.specs.objects.proofs.Sums.{zero_or_more}
use Rattle.jfs_meaning.specs.Readers.{readers, root_of}
use Rattle.jfs_meaning.proofs.Books.{count_append}
use Rattle.jfs_lead_steps.specs.Reached.{HasTree}
use Rattle.jfs_lead_steps.proofs.Turned.{turns, names_set, names_have, root_now, spelled_now, owned_now, dir_holds, no_extents_of}
use Rattle.jfs_lead_steps.proofs.Named.{all_below, put_within, put_past}

module _ (blocks : ℕ) (v : Volume) (whole : (b : ℕ) → b < blocks → length (v.page b) ≡ 4096) (t : Tree) (has : HasTree (readers blocks) v t) (within : (b : ℕ) → v.used b ≡ true → b < blocks) (n : ℕ) (d : Dinode)
    (was : objects (readers blocks) v n ≡ Some (spelled (readers blocks) v.page d)) (dir : has_names d ≡ true) (size : length d.rest ≡ 384) (live : is_live n d ≡ true) (few : d.nlink ≤ 65535)
    (es : List NameEntry) (spelled_es : spells_names blocks v.page (root_of d) ≡ Ok es) (now : Moment) (own : ℕ)
    (new : NameEntry) (free left taken : List ℕ) (parts : free ≡ taken ++ left) (once : (b : ℕ) → count_in b free ≤ 1) (all : AllBelow blocks free) (unused : (b : ℕ) → 0 < count_in b free → v.used b ≡ false)
    (root_mid : List ℕ) (width_mid : length root_mid ≡ 288) (parent_mid : parent_of root_mid ≡ parent_of (root_of d)) (mid_tx : List Edit) (adds : AddsName blocks v.page new (root_of d) root_mid free left [] mid_tx)
    (old_name : List ℕ) (root : List ℕ) (width : length root ≡ 288) (parent : parent_of root ≡ parent_of root_mid) (tx : List Edit) (k : ℕ) (removes : RemovesName blocks (put_tx blocks mid_tx v.page) old_name root_mid root mid_tx tx k) where
  abbrev r : Readers
  r = readers blocks

  abbrev mid : ℕ → List ℕ
  mid = put_tx blocks mid_tx v.page

  abbrev more_names : List NameEntry → List NameEntry
  more_names = with_name new

  free_is : (b : ℕ) → count_in b free ≡ count_in b taken + count_in b left
  free_is b = ap (count_in b) parts ∙ count_append b taken left

  -- no free block is one of the tree
  spare : (b : ℕ) → 0 < count_in b free → owned_pages blocks v.page (root_of d) b ≡ 0
  spare b l = elim (zero_or_more (owned_pages blocks v.page (root_of d) b)) [
    | inl e ↦ e
    | inr o ↦ absurd (true_is_false (sym ((owned_once r v has.sound.agrees).in_use n b (let h = dir_holds blocks v.page d es b dir (no_extents_of d dir) spelled_es in let x = ap (λ o. holds r o b) was in omega (arith, h, x, o))) ∙ unused b l))
  ]
    where
      true_is_false : true ≡ false → ⊥
      true_is_false h = cc (h)

  taken_below : (b : ℕ) → 0 < count_in b taken → b < blocks
  taken_below b l = all_below blocks free b all (let f = free_is b in omega (arith, f, l))

  taken_fresh : (b : ℕ) → 0 < count_in b taken → v.used b ≡ false
  taken_fresh b l = unused b (let f = free_is b in omega (arith, f, l))

  more : HasOneMoreName blocks new es v.page (after_tx v.page mid_tx) (root_of d) root_mid free left
  more = adds v.page (λ b l. (whole b l, refl)) es spelled_es (record { once = once; apart = spare })

  -- an inode with the root between the two calls
  abbrev between : Dinode
  between = record d { rest = put_bytes 96 root_mid d.rest; nblocks = own; mtime = now; ctime = now }

  root_is : root_of between ≡ root_mid
  root_is = root_now blocks v.page mid d root_mid now (λ l. l) own more_names es dir parent_mid width_mid size

  turned_mid : spells_names blocks (after_tx v.page mid_tx) (root_of between) ≡ Ok (more_names es)
  turned_mid = ap (spells_names blocks (after_tx v.page mid_tx)) root_is ∙ more.spelled

  owned_mid : (b : ℕ) → owned_pages blocks (after_tx v.page mid_tx) (root_of between) b + count_in b [] ≡ owned_pages blocks v.page (root_of d) b + count_in b taken
  owned_mid b = ap (λ (x : List ℕ). owned_pages blocks (after_tx v.page mid_tx) x b + count_in b []) root_is ∙ (let e = more.owned b in let f = free_is b in omega (arith, e, f))

  spelled_mid : spells_names blocks mid root_mid ≡ Ok (more_names es)
  spelled_mid = ap (spells_names blocks mid) (sym root_is)
      ∙ spelled_now blocks v has.sound within n d between was dir es (more_names es) spelled_es (after_tx v.page mid_tx) mid (put_within blocks mid_tx v.page) (put_past blocks mid_tx v.page) taken [] turned_mid owned_mid taken_below dir refl refl

  owned_is : (b : ℕ) → owned_pages blocks mid root_mid b ≡ owned_pages blocks v.page (root_of d) b + count_in b taken
  owned_is b = ap (λ (x : List ℕ). owned_pages blocks mid x b) (sym root_is)
      ∙ owned_now blocks v has.sound within n d between was dir es (more_names es) spelled_es (after_tx v.page mid_tx) mid (put_within blocks mid_tx v.page) (put_past blocks mid_tx v.page) taken [] turned_mid owned_mid taken_below dir refl refl b
      ∙ (let e = owned_mid b in omega (arith, e))

  gone : (named old_name (more_names es) ≡ Some k) × ((freed : List ℕ) × TellsFreed freed mid_tx tx × ((base : ℕ → List ℕ) → LeadsTo blocks base mid_tx mid → HasOneLessName blocks old_name (more_names es) mid (after_tx base tx) root_mid root freed))
  gone = removes (more_names es) spelled_mid

  pub freed : List ℕ
  freed = gone.1.0

  pub named_old : named old_name (more_names es) ≡ Some k
  named_old = gone.0

  pub tells_freed : TellsFreed freed mid_tx tx
  unfolding freed
  tells_freed = gone.1.1

  less : HasOneLessName blocks old_name (more_names es) mid (after_tx v.page tx) root_mid root freed
  unfolding freed
  less = gone.1.2 v.page (λ b l. (whole b l, sym (put_within blocks mid_tx v.page b l)))

  abbrev change : List NameEntry → List NameEntry
  change names = without_name old_name (with_name new names)

  owned : (b : ℕ) → owned_pages blocks (after_tx v.page tx) root b + count_in b freed ≡ owned_pages blocks v.page (root_of d) b + count_in b taken
  owned b = less.owned b ∙ owned_is b

  keeps : (b : ℕ) → b < blocks → owned_pages blocks v.page (root_of d) b ≡ 0 → count_in b taken ≡ 0 → after_tx v.page tx b ≡ v.page b
  keeps b l z c = less.keeps b l (let o = owned_is b in omega (arith, o, z, c)) ∙ put_within blocks mid_tx v.page b l ∙ more.keeps b l z (let f = free_is b in omega (arith, f, c))

  -- ---- the pages that the tree has no more

  freed_among : (b : ℕ) → count_in b freed ≤ owned_pages blocks v.page (root_of d) b + count_in b taken
  freed_among b = let o = owned b in omega (arith, o)

  owned_here : (b : ℕ) → owned_pages blocks v.page (root_of d) b ≤ holds r (objects r v n) b
  owned_here b = let h = dir_holds blocks v.page d es b dir (no_extents_of d dir) spelled_es in let x = ap (λ o. holds r o b) was in omega (arith, h, x)

  -- each is one page, and was one of the tree, or was taken for it
  pub freed_once : (b : ℕ) → count_in b freed ≤ 1
  freed_once b = elim (zero_or_more (count_in b taken)) [
    | inl z ↦ (let f = freed_among b in let h = owned_here b in let o = (owned_once r v has.sound.agrees).once n b in omega (arith, f, h, o, z))
    | inr t ↦ (let f = freed_among b in let e = free_is b in let o = once b in let s = spare b (omega (arith, e, t)) in omega (arith, f, e, o, s))
  ]

  is_true : (x : Bool) → 0 < bit x → x ≡ true
  is_true true h = refl
  is_true false h = absurd (omega (arith, h))

  pub freed_used : (u : ℕ → Bool) → ((b : ℕ) → bit (u b) ≡ bit (v.used b) + count_in b taken) → (b : ℕ) → 0 < count_in b freed → u b ≡ true
  freed_used u u_is b l = elim (zero_or_more (count_in b taken)) [
    | inl z ↦ (let f = freed_among b in let h = owned_here b in let e = ap bit ((owned_once r v has.sound.agrees).in_use n b (omega (arith, f, h, l, z))) in let i = u_is b in is_true (u b) (omega (arith, e, i)))
    | inr t ↦ (let i = u_is b in is_true (u b) (omega (arith, i, t)))
  ]

  module _ (w : Volume) (puts : PutsInode (put_tx blocks tx v.page) w.page v.extents n (record d { rest = put_bytes 96 root d.rest; nblocks = own; mtime = now; ctime = now }))
      (used : (b : ℕ) → bit (w.used b) + count_in b freed ≡ bit (v.used b) + count_in b taken)
      (extents : w.extents ≡ v.extents) (area : w.area ≡ v.area) (in_use : (k : ℕ) → w.in_use k ≡ put n true v.in_use k) where
    pub within_set : SetsObject r v w n (record d { rest = put_bytes 96 root d.rest; nblocks = own; mtime = now; ctime = now }) (put_tx blocks tx v.page) taken freed
    within_set = names_set blocks v w t has within n d was dir size root width (parent ∙ parent_mid) now (λ l. l) own change es spelled_es (after_tx v.page tx) (put_tx blocks tx v.page) (put_within blocks tx v.page) (put_past blocks tx v.page)
        taken freed less.spelled owned keeps taken_below taken_fresh live few puts used extents area in_use

    pub within_has : HasTree r w (changed n (turns change (λ l. l) now) t)
    within_has = names_have blocks v w t has within n d was dir size root width (parent ∙ parent_mid) now (λ l. l) own change es spelled_es (after_tx v.page tx) (put_tx blocks tx v.page) (put_within blocks tx v.page) (put_past blocks tx v.page)
        taken freed less.spelled owned keeps taken_below taken_fresh live few puts used extents area in_use
