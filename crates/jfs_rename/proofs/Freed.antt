-- Which blocks a directory's tree frees with a name, on top of a transaction.
use Rattle.std.proofs.Common.{◌≡◌, ◌≤◌, ◌<◌, refl, sym, ap, ◌∙◌, subst, ℕ, ◌+◌, Bool, true, List, [], ◌∷◌, ◌++◌, length, Some, Ok, arith}
use Rattle.jfs_bits.specs.declared.rule.PageKind.TheVariants as kinds
use Rattle.jfs_inode.specs.declared.fields.Dinode.{Dinode}
use Rattle.jfs_name.specs.declared.name.NameEntry.{NameEntry}
use Rattle.jfs_ranges.specs.declared.edit.Edit.{Edit}
use Rattle.jfs_ranges.specs.declared.edit.Edit.TheVariants.{Lines, NoRedo, Alloc, Free}
use Rattle.jfs_ranges.specs.Laid.{put_tx}
use Rattle.jfs_tree.specs.Edit.{count_in}
use Rattle.jfs_tree.specs.Fresh.{after_tx}
use Rattle.jfs_tree.specs.Removes.{TellsFreed, page_frees}
use Rattle.jfs_tree.specs.Tell.{AllLines}
use Rattle.jfs_dtree.specs.Removing.{RemovesName, HasOneLessName}
use Rattle.jfs_dtree.specs.Spells.{spells_names}
use Rattle.jfs_plain.specs.Tree.{Tree}
use Rattle.jfs_link.specs.objects.specs.Readers.{Readers}
use Rattle.jfs_link.specs.objects.specs.Volume.{Volume}
use Rattle.jfs_link.specs.objects.specs.Objects.{objects, spelled, has_names}
use Rattle.jfs_link.specs.objects.specs.Owners.{holds}
use Rattle.jfs_link.specs.objects.proofs.Owned.{owned_once}
use Rattle.jfs_link.specs.meaning.specs.Readers.{readers, root_of}
use Rattle.jfs_link.specs.steps.specs.After.{frees}
use Rattle.jfs_link.specs.steps.specs.Put.{TellsLines}
use Rattle.jfs_link.specs.steps.proofs.After.{lines_alone, runs_leave}
use Rattle.jfs_link.specs.steps.proofs.Sets.{frees_onto, frees_move}
use Rattle.jfs_link.specs.lead_steps.proofs.Turned.{dir_holds, no_extents_of}
use Rattle.jfs_rename_steps.proofs.Stage.{Stage, pages_are, leads_to, names_of}

lines_free : (b : ℕ) (lines : List Edit) → AllLines lines → frees lines b ≡ 0
lines_free b [] h = refl
lines_free b (Lines page kind first bytes ∷ lines) h = lines_free b lines h
lines_free b (NoRedo page ∷ lines) h = absurd h
lines_free b (Alloc run ∷ lines) h = absurd h
lines_free b (Free run ∷ lines) h = absurd h

-- lines of an inode's page free nothing
pub lines_frees : (blocks : ℕ) (pages : ℕ → List ℕ) (page : ℕ) (tx later : List Edit) (b : ℕ) → TellsLines blocks pages page tx later → frees later b ≡ frees tx b
lines_frees blocks pages page tx later b tells = ap (λ (all : List Edit). frees all b) tells.1 ∙ (let s = frees_onto tx tells.0 b in
    let z = (lines_alone tells.0 (runs_leave page kinds.Inode (put_tx blocks tx pages page) (put_tx blocks later pages page) 0 tells.0 tells.2)).frees_none b in omega (arith, s, z))

module _ (blocks : ℕ) (v : Volume) (whole : (b : ℕ) → b < blocks → length (v.page b) ≡ 4096) (tx : List Edit) (w : Volume) (u : Tree) (s : Stage blocks v [] tx w u)
    (p : ℕ) (d : Dinode) (here : objects (readers blocks) w p ≡ Some (spelled (readers blocks) w.page d)) (dir : has_names d ≡ true) (name root : List ℕ) (mid : List Edit) (k : ℕ) (removes : RemovesName blocks (put_tx blocks tx v.page) name (root_of d) root tx mid k) where
  abbrev r : Readers
  r = readers blocks

  abbrev es : List NameEntry
  es = (names_of blocks v whole [] tx w u s p d here dir).0

  es_are : spells_names blocks w.page (root_of d) ≡ Ok es
  es_are = (names_of blocks v whole [] tx w u s p d here dir).1

  found : RemovesName blocks w.page name (root_of d) root tx mid k
  found = subst (λ (pages : ℕ → List ℕ). RemovesName blocks pages name (root_of d) root tx mid k) (pages_are blocks v whole [] tx w u s) removes

  pub freed : List ℕ
  freed = (found es es_are).1.0

  told : TellsFreed freed tx mid
  unfolding freed
  told = (found es es_are).1.1

  less : HasOneLessName blocks name es w.page (after_tx v.page mid) (root_of d) root freed
  unfolding freed
  less = (found es es_are).1.2 v.page (leads_to blocks v whole [] tx w u s)

  pub frees_are : (b : ℕ) → frees mid b ≡ frees tx b + count_in b freed
  frees_are b = let all = ap (λ (edits : List Edit). frees edits b) told.2 ∙ frees_onto tx (told.0 ++ page_frees freed) b in
      let parts = frees_onto told.0 (page_frees freed) b in let none = lines_free b told.0 told.1 in let last = (frees_move freed).freed_are b in omega (arith, all, parts, none, last)

  among : (b : ℕ) → count_in b freed ≤ holds r (objects r w p) b
  among b = let o = less.owned b in let h = dir_holds blocks w.page d es b dir (no_extents_of d dir) es_are in let x = ap (λ o. holds r o b) here in omega (arith, o, h, x)

  pub freed_once : (b : ℕ) → count_in b freed ≤ 1
  freed_once b = let a = among b in let o = (owned_once r w s.has.sound.agrees).once p b in omega (arith, a, o)

  pub freed_used : (b : ℕ) → 0 < count_in b freed → w.used b ≡ true
  freed_used b l = (owned_once r w s.has.sound.agrees).in_use p b (let a = among b in omega (arith, a, l))
