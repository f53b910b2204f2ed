-- A volume as a transaction leaves it, step by step, and the plain tree beside it.
use Rattle.std.proofs.Common.{◌≡◌, ◌≢◌, ◌≤◌, ◌<◌, refl, sym, ap, ◌∙◌, subst, inl, inr, ℕ, ◌+◌, Bool, true, false, List, [], ◌∷◌, ◌++◌, length, Option, Some, Ok, arith}
use Rattle.jfs_bits.specs.Field.{put_bytes}
use Rattle.jfs_bits.specs.declared.descriptor.Moment.{Moment}
use Rattle.jfs_bits.specs.declared.rule.PageKind.TheVariants as kinds
use Rattle.jfs_inode.specs.declared.fields.Dinode.{Dinode}
use Rattle.jfs_name.specs.declared.name.NameEntry.{NameEntry}
use Rattle.jfs_name.specs.Directory.{with_name, without_name, with_inode}
use Rattle.jfs_ranges.specs.declared.edit.Edit.{Edit}
use Rattle.jfs_ranges.specs.declared.edit.Edit.TheVariants.{Lines, NoRedo, Alloc, Free}
use Rattle.jfs_ranges.specs.Laid.{put_tx}
use Rattle.jfs_loss.specs.page_tree.specs.Changes.{PagesEdits, TellsTaken, TellsGone}
use Rattle.jfs_loss.specs.page_tree.specs.Edit.{count_in}
use Rattle.jfs_loss.specs.page_tree.specs.Form.{AllBelow}
use Rattle.jfs_loss.specs.page_tree.specs.Fresh.{LeadsTo, after_tx}
use Rattle.jfs_loss.specs.page_tree.specs.Removes.{TellsFreed, page_frees}
use Rattle.jfs_loss.specs.page_tree.specs.Tell.{AllLines, PageEdits, is_in}
use Rattle.jfs_dtree.specs.Parent.{parent_of}
use Rattle.jfs_dtree.specs.Spells.{spells_names}
use Rattle.jfs_dtree.specs.Adding.{AddsName}
use Rattle.jfs_dtree.specs.Removing.{RemovesName, HasOneLessName}
use Rattle.jfs_dtree.specs.Replacing.{ReplacesName, ChangesOnePlace}
use Rattle.jfs_plain.specs.Tree.{Tree}
use Rattle.jfs_plain.specs.Moves.{changed, dropped}
use Rattle.jfs_plain.specs.declared.node.Node.{Node}
use Rattle.jfs_loss.specs.objects.specs.Readers.{Readers}
use Rattle.jfs_loss.specs.objects.specs.Volume.{Volume}
use Rattle.jfs_loss.specs.objects.specs.Objects.{objects, spelled, is_live, has_names}
use Rattle.jfs_loss.specs.objects.specs.Owners.{bit, holds}
use Rattle.jfs_loss.specs.objects.specs.Changes.{put, PutsInode, SetsObject, DropsObject}
use Rattle.jfs_loss.specs.objects.proofs.Owned.{owned_once}
use Rattle.jfs_loss.specs.objects.proofs.Sums.{zero_or_more}
use Rattle.jfs_loss.specs.meaning.specs.Readers.{readers, root_of}
use Rattle.jfs_loss.specs.meaning.proofs.Books.{count_append}
use Rattle.jfs_loss.specs.steps.specs.After.{used_after, extents_after, frees}
use Rattle.jfs_loss.specs.steps.specs.Call.{LeavesAreas}
use Rattle.jfs_loss.specs.steps.specs.Laws.{TakesAndFrees, LeavesSets, IsFair}
use Rattle.jfs_loss.specs.steps.specs.Put.{TellsLines}
use Rattle.jfs_loss.specs.steps.proofs.After.{counts, used_onto, extents_onto, lines_alone, leaves_onto, runs_leave}
use Rattle.jfs_loss.specs.steps.proofs.Areas.{then_leaves, puts_leave, set_leaves}
use Rattle.jfs_loss.specs.steps.proofs.Sets.{frees_onto, moves_onto, lines_move, frees_move, taken_move, lines_on_top}
use Rattle.jfs_loss.specs.lead_steps.specs.Reached.{HasTree}
use Rattle.jfs_loss.specs.lead_steps.proofs.Chain.{set_here, set_other, drop_has, drop_other}
use Rattle.jfs_loss.specs.lead_steps.proofs.InPlace.{ChangesInPlace, in_place_has, in_place_other}
use Rattle.jfs_loss.specs.lead_steps.proofs.Turned.{turns, dir_holds, no_extents_of, names_listed}
use Rattle.jfs_loss.specs.lead_steps.proofs.Named.{put_within, put_past, all_below, gains_set, gains_have, leads_set, leads_have, loses_set, loses_have}
use Rattle.jfs_loss.specs.lead_steps.proofs.Again.{again, stays_in_use}

-- After so many edits of volume v: pages as the edits leave them, and blocks in use too, but for those that are owed: they are freed by the edits, and an object still has them.
pub record Stage (blocks : ℕ) (v : Volume) (owed : List ℕ) (tx : List Edit) (w : Volume) (t : Tree) : Type 0 where
  pub has : HasTree (readers blocks) w t
  pub page : (b : ℕ) → w.page b ≡ put_tx blocks tx v.page b
  pub extents : w.extents ≡ v.extents
  pub area : w.area ≡ v.area
  pub areas : LeavesAreas v w
  pub used : (b : ℕ) → bit (w.used b) ≡ bit (used_after tx v.used b) + count_in b owed
  pub within : (b : ℕ) → w.used b ≡ true → b < blocks
  pub stay : extents_after tx v.extents ≡ v.extents

-- ---- edits that leave the sets

is_true : (x : Bool) → 0 < bit x → x ≡ true
is_true true h = refl
is_true false h = absurd (omega (arith, h))

pub used_more : (tx more later : List Edit) (used : ℕ → Bool) → later ≡ tx ++ more → LeavesSets more → used_after later used ≡ used_after tx used
used_more tx more later used is leaves = ap (λ (all : List Edit). used_after all used) is ∙ used_onto tx more used ∙ (lines_alone more leaves).used (used_after tx used)

pub extents_more : (tx more later : List Edit) (extents : List (Option ℕ)) → later ≡ tx ++ more → LeavesSets more → extents_after later extents ≡ extents_after tx extents
extents_more tx more later extents is leaves = ap (λ (all : List Edit). extents_after all extents) is ∙ extents_onto tx more extents ∙ (lines_alone more leaves).extents (extents_after tx extents)

lines_leave : (blocks : ℕ) (pages : ℕ → List ℕ) (page : ℕ) (tx later : List Edit) → (tells : TellsLines blocks pages page tx later) → LeavesSets tells.0
lines_leave blocks pages page tx later tells = runs_leave page kinds.Inode (put_tx blocks tx pages page) (put_tx blocks later pages page) 0 tells.0 tells.2

pub lines_used : (blocks : ℕ) (pages : ℕ → List ℕ) (page : ℕ) (tx later : List Edit) (used : ℕ → Bool) → TellsLines blocks pages page tx later → used_after later used ≡ used_after tx used
lines_used blocks pages page tx later used tells = used_more tx tells.0 later used tells.1 (lines_leave blocks pages page tx later tells)

pub lines_extents : (blocks : ℕ) (pages : ℕ → List ℕ) (page : ℕ) (tx later : List Edit) (extents : List (Option ℕ)) → TellsLines blocks pages page tx later → extents_after later extents ≡ extents_after tx extents
lines_extents blocks pages page tx later extents tells = extents_more tx tells.0 later extents tells.1 (lines_leave blocks pages page tx later tells)

-- a name that is led elsewhere takes and frees nothing
pub lead_leaves : (blocks : ℕ) (pages : ℕ → List ℕ) (root after : List ℕ) (tx later : List Edit) → ChangesOnePlace blocks pages root after tx later → (more : List Edit) × (later ≡ tx ++ more) × LeavesSets more
lead_leaves blocks pages root after tx later (inl h) = ([], h.1 ∙ sym (nothing tx), tt)
  where
    nothing : (xs : List Edit) → xs ++ [] ≡ xs
    nothing [] = refl
    nothing (x ∷ xs) = ap (λ (ys : List Edit). x ∷ ys) (nothing xs)
lead_leaves blocks pages root after tx later (inr h) = (h.1.told.0, h.1.told.1, runs_leave h.1.page kinds.Dtree (pages h.1.page) h.1.bytes 0 h.1.told.0 h.1.told.2)

-- ---- what a stage gives to a step

module _ (blocks : ℕ) (v : Volume) (whole : (b : ℕ) → b < blocks → length (v.page b) ≡ 4096) (owed : List ℕ) (tx : List Edit) (w : Volume) (t : Tree) (s : Stage blocks v owed tx w t) where
  abbrev r : Readers
  r = readers blocks

  pub leads_to : LeadsTo blocks v.page tx w.page
  leads_to b l = (whole b l, sym (put_within blocks tx v.page b l) ∙ sym (s.page b))

  pub past : (b : ℕ) → blocks ≤ b → v.page b ≡ w.page b
  past b l = sym (put_past blocks tx v.page b l) ∙ sym (s.page b)

  pub pages_are : put_tx blocks tx v.page ≡ w.page
  pages_are = λ i b. sym (s.page b) i

  puts_here : (later : ℕ → List ℕ) (n : ℕ) (d : Dinode) → PutsInode (put_tx blocks tx v.page) later v.extents n d → PutsInode w.page later w.extents n d
  puts_here later n d puts = subst (λ (pages : ℕ → List ℕ). PutsInode pages later w.extents n d) pages_are (subst (λ (places : List (Option ℕ)). PutsInode (put_tx blocks tx v.page) later places n d) (sym s.extents) puts)

  -- a directory's names
  abbrev pub names_of : (n : ℕ) (d : Dinode) → objects r w n ≡ Some (spelled r w.page d) → has_names d ≡ true → (es : List NameEntry) × (spells_names blocks w.page (root_of d) ≡ Ok es)
  names_of n d was dir = ((s.has.sound.whole n (spelled r w.page d) was).names, sym (names_listed blocks w.page d dir) ∙ (s.has.sound.whole n (spelled r w.page d) was).names_are)

  -- ---- an inode changes in its slot

  module _ (page : ℕ) (later : List Edit) (m : ℕ) (e set : Dinode) (lines : TellsLines blocks v.page page tx later) (puts : PutsInode (put_tx blocks tx v.page) (put_tx blocks later v.page) v.extents m set) where
    areas_stay : (b : ℕ) → 0 < v.area b → put_tx blocks later v.page b ≡ v.page b
    areas_stay = then_leaves v w (record w { page = put_tx blocks later v.page }) s.area s.areas
        (puts_leave r w s.has.sound.agrees w.page (put_tx blocks later v.page) m set (puts_here (put_tx blocks later v.page) m set puts))

    module _ (f : Node → Node) (was : objects r w m ≡ Some (spelled r w.page e)) (change : ChangesInPlace r m e set f) where
      abbrev pub set_volume : Volume
      set_volume = record w { page = put_tx blocks later v.page }

      pub set_stage : Stage blocks v owed later set_volume (changed m f t)
      set_stage = record {
        has = in_place_has r w set_volume t s.has m e set f was change (puts_here (put_tx blocks later v.page) m set puts) refl refl refl (λ k. refl);
        page = λ b. refl;
        extents = s.extents;
        area = s.area;
        areas = areas_stay;
        used = λ b. s.used b ∙ sym (ap (λ (u : ℕ → Bool). bit (u b) + count_in b owed) (lines_used blocks v.page page tx later v.used lines));
        within = s.within;
        stay = lines_extents blocks v.page page tx later v.extents lines ∙ s.stay;
      }

      pub set_keeps : (k : ℕ) → k ≢ m → objects r set_volume k ≡ objects r w k
      set_keeps = in_place_other r w set_volume t s.has m e set f was change (puts_here (put_tx blocks later v.page) m set puts) refl refl refl (λ k. refl)

    -- an object goes, and what was owed is free
    module _ (dead : is_live m set ≡ false) (all : (b : ℕ) → count_in b owed ≡ holds r (objects r w m) b) where
      abbrev pub drop_volume : Volume
      drop_volume = record w { page = put_tx blocks later v.page; used = used_after later v.used; in_use = put m false w.in_use }

      drop_used : (b : ℕ) → bit (used_after later v.used b) + count_in b owed ≡ bit (w.used b)
      drop_used b = ap (λ (u : ℕ → Bool). bit (u b) + count_in b owed) (lines_used blocks v.page page tx later v.used lines) ∙ sym (s.used b)

      drops : DropsObject r w drop_volume m set owed
      drops = record { dead = dead; all = all; puts = puts_here (put_tx blocks later v.page) m set puts; used = drop_used; extents = refl; area = refl; in_use = λ k. refl }

      pub drop_stage : Stage blocks v [] later drop_volume (dropped m t)
      drop_stage = record {
        has = drop_has r w drop_volume t s.has m set owed drops;
        page = λ b. refl;
        extents = s.extents;
        area = s.area;
        areas = areas_stay;
        used = λ b. omega arith;
        within = λ b h. s.within b (is_true (w.used b) (let u = drop_used b in let x = ap bit h in omega (arith, u, x)));
        stay = lines_extents blocks v.page page tx later v.extents lines ∙ s.stay;
      }

      pub drop_keeps : (k : ℕ) → k ≢ m → objects r drop_volume k ≡ objects r w k
      drop_keeps = drop_other r w drop_volume t s.has m set owed drops

-- ---- a directory loses a name

page_leaves : (x : Bool) (n : ℕ) (old new : List ℕ) (edits : List Edit) → PageEdits x n kinds.Dtree old new edits → LeavesSets edits
page_leaves true n old new edits h = subst LeavesSets (sym h) (refl, tt)
page_leaves false n old new edits h = runs_leave n kinds.Dtree old new 0 edits h

pages_leave : (taken : List ℕ) (old new : ℕ → List ℕ) (ns : List ℕ) (edits : List Edit) → PagesEdits kinds.Dtree taken old new ns edits → LeavesSets edits
pages_leave taken old new [] edits h = subst LeavesSets (sym h) tt
pages_leave taken old new (n ∷ ns) edits h = subst LeavesSets (sym h.2) (leaves_onto h.0 h.1 (page_leaves (is_in n taken) n (old n) (new n) h.0 h.3) (pages_leave taken old new ns h.1 h.4))

-- the edits of a removal, whatever stands before them
abbrev pub loss_of : (blocks : ℕ) (pages : ℕ → List ℕ) (tx mid : List Edit) → TellsGone blocks kinds.Dtree pages tx mid → List Edit
loss_of blocks pages tx mid gone = gone.1.lines ++ page_frees gone.0

pub loss_moves : (blocks : ℕ) (pages : ℕ → List ℕ) (tx mid : List Edit) → (gone : TellsGone blocks kinds.Dtree pages tx mid) → TakesAndFrees (loss_of blocks pages tx mid gone) [] gone.0
loss_moves blocks pages tx mid gone = moves_onto gone.1.lines (page_frees gone.0) [] [] [] gone.0 (lines_move gone.1.lines (pages_leave [] pages gone.1.after gone.1.changed gone.1.lines gone.1.edits)) (frees_move gone.0)

lines_free : (b : ℕ) (lines : List Edit) → AllLines lines → frees lines b ≡ 0
lines_free b [] h = refl
lines_free b (Lines page kind first bytes ∷ lines) h = lines_free b lines h
lines_free b (NoRedo page ∷ lines) h = absurd h
lines_free b (Alloc run ∷ lines) h = absurd h
lines_free b (Free run ∷ lines) h = absurd h

module _ (blocks : ℕ) (v : Volume) (whole : (b : ℕ) → b < blocks → length (v.page b) ≡ 4096) (tx : List Edit) (w : Volume) (t : Tree) (s : Stage blocks v [] tx w t)
    (p : ℕ) (d : Dinode) (was : objects (readers blocks) w p ≡ Some (spelled (readers blocks) w.page d)) (dir : has_names d ≡ true) (size : length d.rest ≡ 384)
    (links : ℕ → ℕ) (own : ℕ) (live : is_live p (record d { nlink = links d.nlink }) ≡ true) (few : links d.nlink ≤ 65535)
    (name root : List ℕ) (width : length root ≡ 288) (parent : parent_of root ≡ parent_of (root_of d)) (now : Moment) (mid later : List Edit) (k : ℕ)
    (removes : RemovesName blocks (put_tx blocks tx v.page) name (root_of d) root tx mid k) (gone : TellsGone blocks kinds.Dtree (put_tx blocks tx v.page) tx mid)
    (puts : PutsInode (put_tx blocks mid v.page) (put_tx blocks later v.page) v.extents p (record d { rest = put_bytes 96 root d.rest; nblocks = own; nlink = links d.nlink; mtime = now; ctime = now }))
    (page : ℕ) (lines : TellsLines blocks v.page page mid later) where
  abbrev q : Readers
  q = readers blocks

  abbrev es : List NameEntry
  es = (names_of blocks v whole [] tx w t s p d was dir).0

  es_are : spells_names blocks w.page (root_of d) ≡ Ok es
  es_are = (names_of blocks v whole [] tx w t s p d was dir).1

  found : RemovesName blocks w.page name (root_of d) root tx mid k
  found = subst (λ (pages : ℕ → List ℕ). RemovesName blocks pages name (root_of d) root tx mid k) (pages_are blocks v whole [] tx w t s) removes

  freed : List ℕ
  freed = (found es es_are).1.0

  told : TellsFreed freed tx mid
  unfolding freed
  told = (found es es_are).1.1

  less : HasOneLessName blocks name es w.page (after_tx v.page mid) (root_of d) root freed
  unfolding freed
  less = (found es es_are).1.2 v.page (leads_to blocks v whole [] tx w t s)

  abbrev rest : List Edit
  rest = loss_of blocks (put_tx blocks tx v.page) tx mid gone

  rest_moves : TakesAndFrees rest [] gone.0
  rest_moves = loss_moves blocks (put_tx blocks tx v.page) tx mid gone

  same_freed : (b : ℕ) → frees rest b ≡ count_in b freed
  same_freed b = let one = ap (λ (edits : List Edit). frees edits b) gone.1.told ∙ frees_onto tx rest b in
      let other = ap (λ (edits : List Edit). frees edits b) told.2 ∙ frees_onto tx (told.0 ++ page_frees freed) b in
      let parts = frees_onto told.0 (page_frees freed) b in let none = lines_free b told.0 told.1 in let last = (frees_move freed).freed_are b in
      omega (arith, sym one, other, parts, none, last)

  among : (b : ℕ) → count_in b freed ≤ holds q (objects q w p) b
  among b = let o = less.owned b in let h = dir_holds blocks w.page d es b dir (no_extents_of d dir) es_are in let x = ap (λ o. holds q o b) was in omega (arith, o, h, x)

  used_now : (b : ℕ) → 0 < count_in b freed → used_after tx v.used b ≡ true
  used_now b l = is_true (used_after tx v.used b) (let a = among b in let e = ap bit ((owned_once q w s.has.sound.agrees).in_use p b (omega (arith, a, l))) in let u = s.used b in omega (arith, e, u))

  fair : IsFair rest (used_after tx v.used)
  fair = record {
    fresh = λ b l. absurd (let m = rest_moves.taken_are b in omega (arith, m, l));
    owned = λ b l. used_now b (let f = same_freed b in omega (arith, f, l));
    once = λ b. (let m = rest_moves.taken_are b in let f = same_freed b in let a = among b in let o = (owned_once q w s.has.sound.agrees).once p b in omega (arith, m, f, a, o));
  }

  abbrev pub loss_volume : Volume
  loss_volume = record w { page = put_tx blocks later v.page; used = used_after later v.used }

  loss_used : (b : ℕ) → bit (used_after later v.used b) + count_in b freed ≡ bit (w.used b)
  loss_used b = let c = counts rest (used_after tx v.used) fair b in
      let u = ap (λ (u : ℕ → Bool). bit (u b)) (lines_used blocks v.page page mid later v.used lines ∙ ap (λ (edits : List Edit). used_after edits v.used) gone.1.told ∙ used_onto tx rest v.used) in
      let m = rest_moves.taken_are b in let f = same_freed b in let z = s.used b in omega (arith, c, u, m, f, z)

  loss_puts : PutsInode (put_tx blocks mid v.page) (put_tx blocks later v.page) w.extents p (record d { rest = put_bytes 96 root d.rest; nblocks = own; nlink = links d.nlink; mtime = now; ctime = now })
  loss_puts = subst (λ (places : List (Option ℕ)). PutsInode (put_tx blocks mid v.page) (put_tx blocks later v.page) places p (record d { rest = put_bytes 96 root d.rest; nblocks = own; nlink = links d.nlink; mtime = now; ctime = now })) (sym s.extents) puts

  lost : SetsObject q w loss_volume p (record d { rest = put_bytes 96 root d.rest; nblocks = own; nlink = links d.nlink; mtime = now; ctime = now }) (put_tx blocks mid v.page) [] freed
  lost = loses_set blocks v.page tx w loss_volume (leads_to blocks v whole [] tx w t s) (past blocks v whole [] tx w t s) t s.has s.within p d was dir size links own live few root width parent now es es_are mid loss_puts refl refl
      (stays_in_use q w p (spelled q w.page d) s.has.sound was) name freed less loss_used

  pub loss_stage : Stage blocks v [] later loss_volume (changed p (turns (without_name name) links now) t)
  loss_stage = record {
    has = loses_have blocks v.page tx w loss_volume (leads_to blocks v whole [] tx w t s) (past blocks v whole [] tx w t s) t s.has s.within p d was dir size links own live few root width parent now es es_are mid loss_puts refl refl
        (stays_in_use q w p (spelled q w.page d) s.has.sound was) name freed less loss_used;
    page = λ b. refl;
    extents = s.extents;
    area = s.area;
    areas = then_leaves v w loss_volume s.area s.areas (set_leaves q w s.has.sound.agrees loss_volume p (record d { rest = put_bytes 96 root d.rest; nblocks = own; nlink = links d.nlink; mtime = now; ctime = now }) (put_tx blocks mid v.page) [] freed lost);
    used = λ b. omega arith;
    within = λ b h. s.within b (is_true (w.used b) (let u = loss_used b in let x = ap bit h in omega (arith, u, x)));
    stay = lines_extents blocks v.page page mid later v.extents lines ∙ ap (λ (edits : List Edit). extents_after edits v.extents) gone.1.told ∙ extents_onto tx rest v.extents ∙ ap (extents_after rest) s.stay ∙ rest_moves.extents_stay v.extents;
  }

-- ---- the first step, on the volume itself

module _ (blocks : ℕ) (v : Volume) (whole : (b : ℕ) → b < blocks → length (v.page b) ≡ 4096) (t : Tree) (has : HasTree (readers blocks) v t) (within : (b : ℕ) → v.used b ≡ true → b < blocks)
    (n : ℕ) (d : Dinode) (was : objects (readers blocks) v n ≡ Some (spelled (readers blocks) v.page d)) (dir : has_names d ≡ true) (size : length d.rest ≡ 384)
    (links : ℕ → ℕ) (own : ℕ) (live : is_live n (record d { nlink = links d.nlink }) ≡ true) (few : links d.nlink ≤ 65535)
    (root : List ℕ) (width : length root ≡ 288) (parent : parent_of root ≡ parent_of (root_of d)) (now : Moment) (page : ℕ) (mid later : List Edit)
    (puts : PutsInode (put_tx blocks mid v.page) (put_tx blocks later v.page) v.extents n (record d { rest = put_bytes 96 root d.rest; nblocks = own; nlink = links d.nlink; mtime = now; ctime = now }))
    (lines : TellsLines blocks v.page page mid later) where
  abbrev z : Readers
  z = readers blocks

  abbrev set : Dinode
  set = record d { rest = put_bytes 96 root d.rest; nblocks = own; nlink = links d.nlink; mtime = now; ctime = now }

  dir_names : (es : List NameEntry) × (spells_names blocks v.page (root_of d) ≡ Ok es)
  dir_names = ((has.sound.whole n (spelled z v.page d) was).names, sym (names_listed blocks v.page d dir) ∙ (has.sound.whole n (spelled z v.page d) was).names_are)

  same_use : (k : ℕ) → v.in_use k ≡ put n true v.in_use k
  same_use = stays_in_use z v n (spelled z v.page d) has.sound was

  -- it gains a name
  module _ (new : NameEntry) (free left : List ℕ) (once : (b : ℕ) → count_in b free ≤ 1) (all : AllBelow blocks free) (unused : (b : ℕ) → 0 < count_in b free → v.used b ≡ false)
      (adds : AddsName blocks v.page new (root_of d) root free left [] mid) (taken : TellsTaken blocks kinds.Dtree v.page free left [] mid) where
    moves : TakesAndFrees later taken.0 []
    moves = lines_on_top blocks v.page page mid later taken.0 [] (taken_move blocks kinds.Dtree v.page free left mid (λ first bytes. refl) taken) lines

    free_is : (b : ℕ) → count_in b free ≡ count_in b taken.0 + count_in b left
    free_is b = ap (count_in b) taken.1 ∙ count_append b taken.0 left

    gain_fair : IsFair later v.used
    gain_fair = record {
      fresh = λ b l. unused b (let f = free_is b in let m = moves.taken_are b in omega (arith, f, m, l));
      owned = λ b l. absurd (let m = moves.freed_are b in omega (arith, m, l));
      once = λ b. (let f = free_is b in let m = moves.taken_are b in let k = moves.freed_are b in let o = once b in omega (arith, f, m, k, o));
    }

    gain_used : (b : ℕ) → bit (used_after later v.used b) ≡ bit (v.used b) + count_in b taken.0
    gain_used b = let c = counts later v.used gain_fair b in let m = moves.taken_are b in let k = moves.freed_are b in omega (arith, c, m, k)

    abbrev pub gain_volume : Volume
    gain_volume = record v { page = put_tx blocks later v.page; used = used_after later v.used }

    gained : SetsObject z v gain_volume n set (put_tx blocks mid v.page) taken.0 []
    gained = gains_set blocks v.page [] v gain_volume (λ b l. (whole b l, refl)) (λ b l. refl) t has within n d was dir size links own live few root width parent now dir_names.0 dir_names.1 mid puts refl refl same_use
        new free left taken.0 taken.1 once all unused adds gain_used

    gain_within : (b : ℕ) → used_after later v.used b ≡ true → b < blocks
    gain_within b h = elim (zero_or_more (count_in b taken.0)) [
      | inl e ↦ within b (is_true (v.used b) (let u = gain_used b in let x = ap bit h in omega (arith, u, x, e)))
      | inr l ↦ all_below blocks free b all (let f = free_is b in omega (arith, f, l))
    ]

    pub gain_stage : Stage blocks v [] later gain_volume (changed n (turns (with_name new) links now) t)
    gain_stage = record {
      has = gains_have blocks v.page [] v gain_volume (λ b l. (whole b l, refl)) (λ b l. refl) t has within n d was dir size links own live few root width parent now dir_names.0 dir_names.1 mid puts refl refl same_use
          new free left taken.0 taken.1 once all unused adds gain_used;
      page = λ b. refl;
      extents = refl;
      area = refl;
      areas = set_leaves z v has.sound.agrees gain_volume n set (put_tx blocks mid v.page) taken.0 [] gained;
      used = λ b. omega arith;
      within = gain_within;
      stay = moves.extents_stay v.extents;
    }

    pub gain_here : objects z gain_volume n ≡ Some (spelled z gain_volume.page set)
    gain_here = (again z gain_volume (put_tx blocks mid v.page) n set (set_here z v gain_volume t has n set (put_tx blocks mid v.page) taken.0 [] gained)).0

    pub gain_keeps : (k : ℕ) → k ≢ n → objects z gain_volume k ≡ objects z v k
    gain_keeps = set_other z v gain_volume t has n set (put_tx blocks mid v.page) taken.0 [] gained

  -- one of its names is led elsewhere, on top of edits that free what an object has, or nothing
  module _ (first : List Edit) (owed : List ℕ) (s : Stage blocks v owed first v t) (name : List ℕ) (m old : ℕ) (replaces : ReplacesName blocks v.page name m (root_of d) root first mid old)
      (edits : ChangesOnePlace blocks v.page (root_of d) root first mid) where
    abbrev pub lead_volume : Volume
    lead_volume = record v { page = put_tx blocks later v.page }

    led : SetsObject z v lead_volume n set (put_tx blocks mid v.page) [] []
    led = leads_set blocks v.page first v lead_volume (leads_to blocks v whole owed first v t s) (λ b l. refl) t has within n d was dir size links own live few root width parent now dir_names.0 dir_names.1 mid puts refl refl same_use
        refl name m old replaces

    lead_more : (more : List Edit) × (mid ≡ first ++ more) × LeavesSets more
    lead_more = lead_leaves blocks v.page (root_of d) root first mid edits

    pub lead_stage : Stage blocks v owed later lead_volume (changed n (turns (with_inode name m) links now) t)
    lead_stage = record {
      has = leads_have blocks v.page first v lead_volume (leads_to blocks v whole owed first v t s) (λ b l. refl) t has within n d was dir size links own live few root width parent now dir_names.0 dir_names.1 mid puts refl refl same_use
          refl name m old replaces;
      page = λ b. refl;
      extents = refl;
      area = refl;
      areas = set_leaves z v has.sound.agrees lead_volume n set (put_tx blocks mid v.page) [] [] led;
      used = λ b. s.used b ∙ sym (ap (λ (u : ℕ → Bool). bit (u b) + count_in b owed) (lines_used blocks v.page page mid later v.used lines ∙ used_more first lead_more.0 mid v.used lead_more.1 lead_more.2));
      within = within;
      stay = lines_extents blocks v.page page mid later v.extents lines ∙ extents_more first lead_more.0 mid v.extents lead_more.1 lead_more.2 ∙ s.stay;
    }

    pub lead_here : objects z lead_volume n ≡ Some (spelled z lead_volume.page set)
    lead_here = (again z lead_volume (put_tx blocks mid v.page) n set (set_here z v lead_volume t has n set (put_tx blocks mid v.page) [] [] led)).0

    pub lead_keeps : (k : ℕ) → k ≢ n → objects z lead_volume k ≡ objects z v k
    lead_keeps = set_other z v lead_volume t has n set (put_tx blocks mid v.page) [] [] led

-- ---- edits that free what an object has, and nothing else yet

pub frees_stage : (blocks : ℕ) (v : Volume) (t : Tree) → HasTree (readers blocks) v t → ((b : ℕ) → v.used b ≡ true → b < blocks) → (m : ℕ) (first : List Edit) (owed : List ℕ) → TakesAndFrees first [] owed
    → ((b : ℕ) → b < blocks → after_tx v.page first b ≡ v.page b) → ((b : ℕ) → count_in b owed ≤ holds (readers blocks) (objects (readers blocks) v m) b) → Stage blocks v owed first v t
frees_stage blocks v t has within m first owed moves stays held = record {
  has = has;
  page = λ b. elim (Rattle.std.proofs.lemmas.Bool.cases_lt b blocks) [
    | inl l ↦ sym (put_within blocks first v.page b l ∙ stays b l)
    | inr l ↦ sym (put_past blocks first v.page b l)
  ];
  extents = refl;
  area = refl;
  areas = λ b h. refl;
  used = λ b. (let c = counts first v.used fair b in let k = moves.taken_are b in let f = moves.freed_are b in omega (arith, c, k, f));
  within = within;
  stay = moves.extents_stay v.extents;
}
  where
    fair : IsFair first v.used
    fair = record {
      fresh = λ b l. absurd (let k = moves.taken_are b in omega (arith, k, l));
      owned = λ b l. (owned_once (readers blocks) v has.sound.agrees).in_use m b (let f = moves.freed_are b in let h = held b in omega (arith, f, h, l));
      once = λ b. (let k = moves.taken_are b in let f = moves.freed_are b in let h = held b in let o = (owned_once (readers blocks) v has.sound.agrees).once m b in omega (arith, k, f, h, o));
    }
