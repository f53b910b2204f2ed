-- A directory's name is led elsewhere, gained or lost: the steps, from what the calls on its tree say. A call stands on top of edits that lead the base pages to the volume's.
use Rattle.std.proofs.Common.{◌≡◌, ◌≤◌, ◌<◌, refl, sym, ap, ◌∙◌, subst, inl, inr, ℕ, ◌+◌, Bool, true, false, ◌==◌, if◌then◌else◌, eqb-true, List, [], ◌∷◌, ◌++◌, length, Some, Ok, arith}
use Rattle.std.proofs.lemmas.Bool.{lt-ltb, le-ltb}
use Rattle.jfs_bits.specs.Field.{put_bytes}
use Rattle.jfs_bits.specs.declared.descriptor.Moment.{Moment}
use Rattle.jfs_inode.specs.declared.fields.Dinode.{Dinode}
use Rattle.jfs_name.specs.declared.name.NameEntry.{NameEntry}
use Rattle.jfs_name.specs.Directory.{with_name, without_name, with_inode}
use Rattle.jfs_ranges.specs.declared.edit.Edit.{Edit}
use Rattle.jfs_ranges.specs.Apply.{apply_tx}
use Rattle.jfs_ranges.specs.Laid.{put_tx}
use Rattle.jfs_tree.specs.Edit.{count_in}
use Rattle.jfs_tree.specs.Form.{AllBelow}
use Rattle.jfs_tree.specs.Fresh.{LeadsTo, after_tx}
use Rattle.jfs_meaning.specs.dtree.specs.Parent.{parent_of}
use Rattle.jfs_meaning.specs.dtree.specs.Spells.{spells_names, owned_pages}
use Rattle.jfs_meaning.specs.dtree.specs.Adding.{AddsName, HasOneMoreName}
use Rattle.jfs_meaning.specs.dtree.specs.Removing.{HasOneLessName}
use Rattle.jfs_meaning.specs.dtree.specs.Replacing.{ReplacesName, LeadsElsewhere}
use Rattle.jfs_meaning.specs.plain.specs.Tree.{Tree}
use Rattle.jfs_meaning.specs.plain.specs.Moves.{changed}
use Rattle.jfs_meaning.specs.objects.specs.Volume.{Volume}
use Rattle.jfs_meaning.specs.objects.specs.Objects.{objects, spelled, is_live, has_names}
use Rattle.jfs_meaning.specs.objects.specs.Owners.{bit, holds}
use Rattle.jfs_meaning.specs.objects.specs.Changes.{put, PutsInode, SetsObject}
use Rattle.jfs_meaning.specs.objects.proofs.Owned.{owned_once}
use Rattle.jfs_meaning.specs.objects.proofs.Sums.{zero_or_more}
use Rattle.jfs_meaning.specs.Readers.{readers, root_of}
use Rattle.jfs_meaning.proofs.Books.{count_append}
use Rattle.jfs_lead_steps.specs.Reached.{HasTree}
use Rattle.jfs_lead_steps.proofs.Turned.{turns, names_set, names_have, dir_holds, no_extents_of}

pub all_below : (bound : ℕ) (ns : List ℕ) (b : ℕ) → AllBelow bound ns → 0 < count_in b ns → b < bound
all_below bound [] b h l = absurd (omega (arith, l))
all_below bound (n ∷ ns) b h l = by (n == b) refl (all_below bound ns b h.1) l
  where
    by : (x : Bool) → (n == b) ≡ x → (0 < count_in b ns → b < bound) → 0 < (if x then 1 else 0) + count_in b ns → b < bound
    by true e f l = subst (λ (k : ℕ). k < bound) (eqb-true n b e) h.0
    by false e f l = f (omega (arith, l))

pub put_within : (blocks : ℕ) (tx : List Edit) (pages : ℕ → List ℕ) (b : ℕ) → b < blocks → put_tx blocks tx pages b ≡ after_tx pages tx b
put_within blocks tx pages b l = ap (λ (x : Bool). if x then apply_tx b tx (pages b) else pages b) (lt-ltb b blocks l)

pub put_past : (blocks : ℕ) (tx : List Edit) (pages : ℕ → List ℕ) (b : ℕ) → blocks ≤ b → put_tx blocks tx pages b ≡ pages b
put_past blocks tx pages b l = ap (λ (x : Bool). if x then apply_tx b tx (pages b) else pages b) (le-ltb b blocks l)

-- The directory, in the volume as the edits `before` leave it.
module _ (blocks : ℕ) (base : ℕ → List ℕ) (before : List Edit) (v w : Volume) (leads_to : LeadsTo blocks base before v.page) (past : (b : ℕ) → blocks ≤ b → base b ≡ v.page b)
    (t : Tree) (has : HasTree (readers blocks) v t) (within : (b : ℕ) → v.used b ≡ true → b < blocks) (n : ℕ) (d : Dinode)
    (was : objects (readers blocks) v n ≡ Some (spelled (readers blocks) v.page d)) (dir : has_names d ≡ true) (size : length d.rest ≡ 384)
    (links : ℕ → ℕ) (own : ℕ) (live : is_live n (record d { nlink = links d.nlink }) ≡ true) (few : links d.nlink ≤ 65535)
    (root : List ℕ) (width : length root ≡ 288) (parent : parent_of root ≡ parent_of (root_of d)) (now : Moment)
    (es : List NameEntry) (spelled_es : spells_names blocks v.page (root_of d) ≡ Ok es) (tx : List Edit)
    (puts : PutsInode (put_tx blocks tx base) w.page v.extents n (record d { rest = put_bytes 96 root d.rest; nblocks = own; nlink = links d.nlink; mtime = now; ctime = now }))
    (extents : w.extents ≡ v.extents) (area : w.area ≡ v.area) (in_use : (k : ℕ) → w.in_use k ≡ put n true v.in_use k) where
  abbrev later : ℕ → List ℕ
  later = after_tx base tx

  abbrev mid : ℕ → List ℕ
  mid = put_tx blocks tx base

  inside : (b : ℕ) → b < blocks → mid b ≡ later b
  inside b l = put_within blocks tx base b l

  outside : (b : ℕ) → blocks ≤ b → mid b ≡ v.page b
  outside b l = put_past blocks tx base b l ∙ past b l

  -- ---- another inode under a name

  module _ (used : w.used ≡ v.used) (name : List ℕ) (m old : ℕ) (replaces : ReplacesName blocks v.page name m (root_of d) root before tx old) where
    led : LeadsElsewhere blocks name m es v.page later (root_of d) root
    led = (replaces es spelled_es).1 base leads_to

    none_taken : (b : ℕ) → 0 < count_in b [] → b < blocks
    none_taken b l = absurd (omega (arith, l))

    none_fresh : (b : ℕ) → 0 < count_in b [] → v.used b ≡ false
    none_fresh b l = absurd (omega (arith, l))

    same_used : (b : ℕ) → bit (w.used b) + count_in b [] ≡ bit (v.used b) + count_in b []
    same_used b = let u = ap (λ (f : ℕ → Bool). bit (f b)) used in omega (arith, u)

    same_owned : (b : ℕ) → owned_pages blocks later root b + count_in b [] ≡ owned_pages blocks v.page (root_of d) b + count_in b []
    same_owned b = let e = led.owned b in omega (arith, e)

    pub leads_set : SetsObject (readers blocks) v w n (record d { rest = put_bytes 96 root d.rest; nblocks = own; nlink = links d.nlink; mtime = now; ctime = now }) mid [] []
    leads_set = names_set blocks v w t has within n d was dir size root width parent now links own (with_inode name m) es spelled_es later mid inside outside [] [] led.spelled same_owned (λ b l z k. led.keeps b l z)
        none_taken none_fresh live few puts same_used extents area in_use

    pub leads_have : HasTree (readers blocks) w (changed n (turns (with_inode name m) links now) t)
    leads_have = names_have blocks v w t has within n d was dir size root width parent now links own (with_inode name m) es spelled_es later mid inside outside [] [] led.spelled same_owned (λ b l z k. led.keeps b l z)
        none_taken none_fresh live few puts same_used extents area in_use

  -- ---- one name less

  module _ (name : List ℕ) (freed : List ℕ) (less : HasOneLessName blocks name es v.page later (root_of d) root freed) (used : (b : ℕ) → bit (w.used b) + count_in b freed ≡ bit (v.used b)) where
    nothing_taken : (b : ℕ) → 0 < count_in b [] → b < blocks
    nothing_taken b l = absurd (omega (arith, l))

    nothing_fresh : (b : ℕ) → 0 < count_in b [] → v.used b ≡ false
    nothing_fresh b l = absurd (omega (arith, l))

    less_used : (b : ℕ) → bit (w.used b) + count_in b freed ≡ bit (v.used b) + count_in b []
    less_used b = let u = used b in omega (arith, u)

    less_owned : (b : ℕ) → owned_pages blocks later root b + count_in b freed ≡ owned_pages blocks v.page (root_of d) b + count_in b []
    less_owned b = let e = less.owned b in omega (arith, e)

    pub loses_set : SetsObject (readers blocks) v w n (record d { rest = put_bytes 96 root d.rest; nblocks = own; nlink = links d.nlink; mtime = now; ctime = now }) mid [] freed
    loses_set = names_set blocks v w t has within n d was dir size root width parent now links own (without_name name) es spelled_es later mid inside outside [] freed less.spelled less_owned (λ b l z k. less.keeps b l z)
        nothing_taken nothing_fresh live few puts less_used extents area in_use

    pub loses_have : HasTree (readers blocks) w (changed n (turns (without_name name) links now) t)
    loses_have = names_have blocks v w t has within n d was dir size root width parent now links own (without_name name) es spelled_es later mid inside outside [] freed less.spelled less_owned (λ b l z k. less.keeps b l z)
        nothing_taken nothing_fresh live few puts less_used extents area in_use

  -- ---- one name more

  module _ (new : NameEntry) (free left taken : List ℕ) (parts : free ≡ taken ++ left) (once : (b : ℕ) → count_in b free ≤ 1) (all : AllBelow blocks free) (unused : (b : ℕ) → 0 < count_in b free → v.used b ≡ false)
      (adds : AddsName blocks v.page new (root_of d) root free left before tx) (used : (b : ℕ) → bit (w.used b) ≡ bit (v.used b) + count_in b taken) where
    free_is : (b : ℕ) → count_in b free ≡ count_in b taken + count_in b left
    free_is b = ap (count_in b) parts ∙ count_append b taken left

    -- no free block is one of the tree
    spare : (b : ℕ) → 0 < count_in b free → owned_pages blocks v.page (root_of d) b ≡ 0
    spare b l = elim (zero_or_more (owned_pages blocks v.page (root_of d) b)) [
      | inl e ↦ e
      | inr o ↦ absurd (true_is_false (sym ((owned_once (readers blocks) v has.sound.agrees).in_use n b (let h = dir_holds blocks v.page d es b dir (no_extents_of d dir) spelled_es in let x = ap (λ o. holds (readers blocks) o b) was in omega (arith, h, x, o))) ∙ unused b l))
    ]
      where
        true_is_false : true ≡ false → ⊥
        true_is_false h = cc (h)

    more : HasOneMoreName blocks new es v.page later (root_of d) root free left
    more = adds base leads_to es spelled_es (record { once = once; apart = spare })

    more_owned : (b : ℕ) → owned_pages blocks later root b + count_in b [] ≡ owned_pages blocks v.page (root_of d) b + count_in b taken
    more_owned b = let e = more.owned b in let f = free_is b in omega (arith, e, f)

    more_used : (b : ℕ) → bit (w.used b) + count_in b [] ≡ bit (v.used b) + count_in b taken
    more_used b = let u = used b in omega (arith, u)

    taken_below : (b : ℕ) → 0 < count_in b taken → b < blocks
    taken_below b l = all_below blocks free b all (let f = free_is b in omega (arith, f, l))

    taken_fresh : (b : ℕ) → 0 < count_in b taken → v.used b ≡ false
    taken_fresh b l = unused b (let f = free_is b in omega (arith, f, l))

    pub gains_set : SetsObject (readers blocks) v w n (record d { rest = put_bytes 96 root d.rest; nblocks = own; nlink = links d.nlink; mtime = now; ctime = now }) mid taken []
    gains_set = names_set blocks v w t has within n d was dir size root width parent now links own (with_name new) es spelled_es later mid inside outside taken [] more.spelled more_owned
        (λ b l z k. more.keeps b l z (let f = free_is b in omega (arith, f, k))) taken_below taken_fresh live few puts more_used extents area in_use

    pub gains_have : HasTree (readers blocks) w (changed n (turns (with_name new) links now) t)
    gains_have = names_have blocks v w t has within n d was dir size root width parent now links own (with_name new) es spelled_es later mid inside outside taken [] more.spelled more_owned
        (λ b l z k. more.keeps b l z (let f = free_is b in omega (arith, f, k))) taken_below taken_fresh live few puts more_used extents area in_use
