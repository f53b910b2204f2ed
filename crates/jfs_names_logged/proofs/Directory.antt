-- A directory whose tree gets other names, by edits that tell its pages, and whose inode is put then.
use Rattle.std.proofs.Common.{◌≡◌, ◌⊎◌, ◌<◌, ◌≤◌, ◌+◌, ◌==◌, ℕ, Bool, true, false, List, ◌++◌, Option, Some, Ok, refl, sym, ap, ◌∙◌, subst, inl, inr, arith}
use Rattle.std.proofs.lemmas.Bool.{cases_lt, or_parts}
use Rattle.jfs_inode.specs.Rules.{type_of}
use Rattle.jfs_inode.specs.declared.fields.Dinode.{Dinode}
use Rattle.jfs_name.specs.declared.name.NameEntry.{NameEntry}
use Rattle.jfs_ranges.specs.declared.edit.Edit.{Edit}
use Rattle.jfs_ranges.specs.Apply.{apply_tx}
use Rattle.jfs_tree.specs.Edit.{count_in}
use Rattle.jfs_tree.specs.Form.{AllBelow}
use Rattle.jfs_tree.specs.Tell.{is_in}
use Rattle.jfs_unlink.specs.loss.specs.lead_steps.specs.dtree.specs.Spells.{spells_names, owned_pages}
use Rattle.jfs_unlink.specs.loss.specs.lead_steps.proofs.Named.{all_below}
use Rattle.jfs_unlink.specs.loss.specs.lead_steps.proofs.Turned.{no_extents_of, extents_listed, dir_holds, sets_names, owned_now, spelled_now}
use Rattle.jfs_unlink.specs.loss.specs.objects.specs.Readers.{Readers}
use Rattle.jfs_unlink.specs.loss.specs.objects.specs.Volume.{Volume, home}
use Rattle.jfs_unlink.specs.loss.specs.objects.specs.Objects.{Object, objects, spelled, is_live, has_names, has_extents}
use Rattle.jfs_unlink.specs.loss.specs.objects.specs.Owners.{IsSound, holds, bit, covers, entries, data_held, attributes_held}
use Rattle.jfs_unlink.specs.loss.specs.objects.specs.Laws.{ChangesOne, IsOwnedOnce}
use Rattle.jfs_unlink.specs.loss.specs.objects.specs.Changes.{put, PutsInode, SetsObject}
use Rattle.jfs_unlink.specs.loss.specs.objects.proofs.Owned.{owned_once}
use Rattle.jfs_unlink.specs.loss.specs.objects.proofs.Set.{object_is_set}
use Rattle.jfs_unlink.specs.loss.specs.objects.proofs.Sums.{zero_or_more}
use Rattle.jfs_unlink.specs.loss.specs.meaning.specs.Readers.{readers, root_of}
use Rattle.jfs_calls_logged.specs.logged.specs.recovery.specs.kinds.specs.Owner.{is_regular_file, has_page, has_still}
use Rattle.jfs_calls_logged.specs.logged.specs.recovery.specs.kinds.specs.Laws.{KeepsKinds}
use Rattle.jfs_calls_logged.specs.logged.specs.recovery.specs.kinds.proofs.Parts.{parts}
use Rattle.jfs_calls_logged.specs.logged.specs.Stages.{ArePageRuns}
use Rattle.jfs_calls_logged.specs.logged.specs.Trees.{TellsPages}
use Rattle.jfs_calls_logged.specs.logged.specs.Written.{WritesTree}
use Rattle.jfs_calls_logged.specs.logged.proofs.OneObject.{kinds_law}

-- what an object has beside its tree pages
pub beside_pages : (r : Readers) (o : Object) (b : ℕ) → holds r (Some o) b ≡ has_page r (Some o) b + data_held r o b + attributes_held o b
unfolding holds has_page
beside_pages r o b = refl

-- ---- a directory

module _ (blocks : ℕ) (page : ℕ → List ℕ) (d : Dinode) (dir : has_names d ≡ true) where
  abbrev r : Readers
  r = readers blocks

  plain : has_extents d ≡ false
  plain = no_extents_of d dir

  pub not_regular : is_regular_file (spelled r page d) ≡ false
  unfolding spelled
  not_regular = (or_parts (type_of d == 0x8000) _ plain).0

  pub no_data : (b : ℕ) → data_held r (spelled r page d) b ≡ 0
  no_data b = ap (λ es. covers b (entries es)) (extents_listed blocks page d plain)

  -- its tree pages
  pub dir_pages : (es : List NameEntry) (b : ℕ) → spells_names blocks page (root_of d) ≡ Ok es → has_page r (Some (spelled r page d)) b ≡ owned_pages blocks page (root_of d) b
  dir_pages es b is = let h = dir_holds blocks page d es b dir plain is in let p = beside_pages r (spelled r page d) b in let z = no_data b in omega (arith, h, p, z)

pub same_attributes : (r : Readers) (page other : ℕ → List ℕ) (d set : Dinode) → set.acl ≡ d.acl → set.ea ≡ d.ea → (b : ℕ) → attributes_held (spelled r page set) b ≡ attributes_held (spelled r other d) b
unfolding spelled
same_attributes r page other d set acl ea b = rw (acl, ea) refl

-- ---- other names

-- Its tree spells other names on the pages that its edits lead to. The pages that came are told whole, those that went are freed with a NoRedo, and others that aren't its own stay.
pub record TurnsDirectory (blocks : ℕ) (v w : Volume) (n : ℕ) (tree inode : List Edit) : Type 0 where
  pub page : ℕ
  pub old : Dinode
  pub set : Dinode
  pub at : home v.extents n ≡ Some page
  pub was : objects (readers blocks) v n ≡ Some (spelled (readers blocks) v.page old)
  pub dir : has_names old ≡ true
  pub dir_set : has_names set ≡ true
  pub acl : set.acl ≡ old.acl
  pub ea : set.ea ≡ old.ea
  pub live : is_live n set ≡ true
  -- its names, before and after
  pub names : List NameEntry
  pub names_then : List NameEntry
  pub spelled_names : spells_names blocks v.page (root_of old) ≡ Ok names
  pub later : ℕ → List ℕ
  pub mid : ℕ → List ℕ
  pub inside : (b : ℕ) → b < blocks → mid b ≡ later b
  pub outside : (b : ℕ) → blocks ≤ b → mid b ≡ v.page b
  pub turned : spells_names blocks later (root_of set) ≡ Ok names_then
  -- its pages
  pub taken : List ℕ
  pub freed : List ℕ
  pub owned : (b : ℕ) → owned_pages blocks later (root_of set) b + count_in b freed ≡ owned_pages blocks v.page (root_of old) b + count_in b taken
  pub below : (b : ℕ) → 0 < count_in b taken → b < blocks
  pub fresh : (b : ℕ) → 0 < count_in b taken → v.used b ≡ false
  pub apart : (b : ℕ) → 0 < count_in b freed → count_in b taken ≡ 0
  pub keeps : (b : ℕ) → b < blocks → owned_pages blocks v.page (root_of old) b ≡ 0 → count_in b taken ≡ 0 → later b ≡ v.page b
  -- the volume after it
  pub puts : PutsInode mid w.page v.extents n set
  pub used : (b : ℕ) → bit (w.used b) + count_in b freed ≡ bit (v.used b) + count_in b taken
  pub extents : w.extents ≡ v.extents
  pub area : w.area ≡ v.area
  pub in_use : (k : ℕ) → w.in_use k ≡ put n true v.in_use k
  pub pages : (q : ℕ) → v.used q ≡ true → w.used q ≡ true → w.page q ≡ apply_tx q (tree ++ inode) (v.page q)
  -- what is told
  pub runs : ArePageRuns page inode
  pub told : List ℕ
  pub gone : List ℕ
  pub changed : List ℕ
  pub new : ℕ → List ℕ
  pub tells : TellsPages told gone changed v.page new tree
  pub within : AllBelow blocks changed
  pub new_is : (q : ℕ) → q < blocks → new q ≡ later q
  pub gone_same : (q : ℕ) → count_in q gone ≡ count_in q freed
  pub comes : (q : ℕ) → 0 < count_in q taken → (is_in q told ≡ true) × (0 < count_in q changed)
  pub told_alone : (q : ℕ) → count_in q taken ≡ 0 → is_in q told ≡ false

pub none_below : (bound q : ℕ) (ns : List ℕ) → AllBelow bound ns → bound ≤ q → count_in q ns ≡ 0
none_below bound q ns all l = elim (zero_or_more (count_in q ns)) [ inl z ↦ z | inr some ↦ (let b = all_below bound ns q all some in absurd (omega (arith, b, l))) ]

module _ (blocks : ℕ) (v w : Volume) (n : ℕ) (tree inode : List Edit) (sound : IsSound (readers blocks) v) (used_within : (b : ℕ) → v.used b ≡ true → b < blocks) (x : TurnsDirectory blocks v w n tree inode) where
  abbrev q : Readers
  q = readers blocks

  once : IsOwnedOnce q v
  once = owned_once q v sound.agrees

  abbrev before : Object
  before = spelled q v.page x.old

  abbrev after : Object
  after = spelled q x.mid x.set

  pub turn_sets : SetsObject q v w n x.set x.mid x.taken x.freed
  turn_sets = sets_names blocks v sound used_within n x.old x.set x.was x.dir x.names x.names_then x.spelled_names x.later x.mid x.inside x.outside x.taken x.freed x.turned x.owned x.below x.dir_set x.acl x.ea
      w x.keeps x.fresh x.live x.puts x.used x.extents x.area x.in_use

  pub turn_changes : ChangesOne q v w n (Some after)
  turn_changes = (object_is_set q v w n x.set x.mid x.taken x.freed sound turn_sets).0

  no_targets : (b : ℕ) → data_held q after b ≡ data_held q before b
  no_targets b = no_data blocks x.mid x.set x.dir_set b ∙ sym (no_data blocks v.page x.old x.dir b)

  kinds : KeepsKinds q v w (objects q v n) (Some after)
  kinds = subst (λ (o : Option Object). KeepsKinds q v w o (Some after)) (sym x.was) (kinds_law.no_data q v w n before after x.was turn_changes (record {
    before = not_regular blocks v.page x.old x.dir;
    after = not_regular blocks x.mid x.set x.dir_set;
    targets = no_targets;
    attributes = same_attributes q x.mid v.page x.old x.set x.acl x.ea;
  }))

  -- its tree pages then
  pages_then : (b : ℕ) → has_page q (Some after) b ≡ owned_pages blocks x.later (root_of x.set) b
  pages_then b =
      dir_pages blocks x.mid x.set x.dir_set x.names_then b (spelled_now blocks v sound used_within n x.old x.set x.was x.dir x.names x.names_then x.spelled_names x.later x.mid x.inside x.outside x.taken x.freed x.turned x.owned x.below x.dir_set x.acl x.ea)
      ∙ owned_now blocks v sound used_within n x.old x.set x.was x.dir x.names x.names_then x.spelled_names x.later x.mid x.inside x.outside x.taken x.freed x.turned x.owned x.below x.dir_set x.acl x.ea b

  pages_before : (b : ℕ) → has_page q (objects q v n) b ≡ owned_pages blocks v.page (root_of x.old) b
  pages_before b = ap (λ (o : Option Object). has_page q o b) x.was ∙ dir_pages blocks v.page x.old x.dir x.names b x.spelled_names

  is_used : (b : ℕ) → 0 < owned_pages blocks v.page (root_of x.old) b → v.used b ≡ true
  is_used b l = once.in_use n b (
      let p = beside_pages q before b in let h = ap (λ (o : Option Object). holds q o b) x.was in let a = ap (λ (o : Option Object). has_page q o b) x.was in let s = pages_before b in omega (arith, p, h, a, s, l))

  none_before : (b : ℕ) → v.used b ≡ false → owned_pages blocks v.page (root_of x.old) b ≡ 0
  none_before b free = elim (zero_or_more (owned_pages blocks v.page (root_of x.old) b)) [
    | inl z ↦ z
    | inr l ↦ absurd (no (sym (is_used b l) ∙ free))
  ]
    where
      no : true ≡ false → ⊥
      no h = cc (h)

  bit_of : (s : Bool) → bit s ≡ 0 → s ≡ false
  bit_of true h = absurd (omega (arith, h))
  bit_of false h = refl

  at_most : (s : Bool) → bit s ≤ 1
  at_most true = omega arith
  at_most false = omega arith

  come : (b : ℕ) → v.used b ≡ false → 0 < has_page q (Some after) b → (is_in b x.told ≡ true) × (0 < count_in b x.changed)
  come b free l = x.comes b (let o = x.owned b in let z = none_before b free in let p = pages_then b in omega (arith, o, z, p, l))

  go : (b : ℕ) → w.used b ≡ false → 0 < has_page q (objects q v n) b → 0 < count_in b x.gone
  go b free l =
      let p = pages_before b in
      let t = ap bit (is_used b (omega (arith, p, l))) in
      let f = ap bit free in
      let u = x.used b in
      let g = x.gone_same b in
      omega (arith, t, f, u, g)

  gone_are : (b : ℕ) → 0 < count_in b x.gone → (w.used b ≡ false) × (0 < has_page q (objects q v n) b)
  gone_are b l =
      let g = x.gone_same b in
      let a = x.apart b (omega (arith, g, l)) in
      let u = x.used b in
      let m = at_most (v.used b) in
      let o = x.owned b in
      let p = pages_before b in
      (bit_of (w.used b) (omega (arith, g, a, u, m, l)), omega (arith, g, a, o, p, l))

  others : (b : ℕ) → has_page q (Some after) b ≡ 0 → count_in b x.gone ≡ 0 → (count_in b x.changed ≡ 0) ⊎ ((is_in b x.told ≡ false) × (x.new b ≡ v.page b))
  others b none stays = elim (cases_lt b blocks) [
    | inr l ↦ inl (none_below blocks b x.changed x.within l)
    | inl l ↦ (let p = pages_then b in let o = x.owned b in let g = x.gone_same b in let t : count_in b x.taken ≡ 0 = omega (arith, p, o, g, none, stays) in
        inr (x.told_alone b t, x.new_is b l ∙ x.keeps b l (omega (arith, p, o, g, none, stays)) t))
  ]

  -- its attributes are those that it had
  none_still : (b : ℕ) → v.used b ≡ false → has_still q (Some after) b ≡ 0
  none_still b free =
      let p = parts q (Some after) b in
      let s = beside_pages q after b in
      let z = no_data blocks x.mid x.set x.dir_set b in
      let a = same_attributes q x.mid v.page x.old x.set x.acl x.ea b in
      let h = beside_pages q before b in
      let o = ap (λ (o : Option Object). holds q o b) x.was in
      let n = held_none (zero_or_more (holds q (objects q v n) b)) in
      omega (arith, p, s, z, a, h, o, n)
    where
      no : true ≡ false → ⊥
      no h = cc (h)

      held_none : (holds q (objects q v n) b ≡ 0) ⊎ (0 < holds q (objects q v n) b) → holds q (objects q v n) b ≡ 0
      held_none (inl z) = z
      held_none (inr l) = absurd (no (sym (once.in_use n b l) ∙ free))

  pub turn_writes : WritesTree q v w n tree inode
  turn_writes = record {
    page = x.page;
    set = x.set;
    mid = x.mid;
    taken = x.taken;
    freed = x.freed;
    at = x.at;
    sets = turn_sets;
    kinds = kinds;
    pages = x.pages;
    runs = x.runs;
    none_still = none_still;
    told = x.told;
    gone = x.gone;
    changed = x.changed;
    new = x.new;
    tells = x.tells;
    new_is = λ b some. (let l = all_below blocks x.changed b x.within some in x.new_is b l ∙ sym (x.inside b l));
    come = come;
    go = go;
    gone_are = gone_are;
    others = others;
  }
