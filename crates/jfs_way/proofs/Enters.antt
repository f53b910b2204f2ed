-- What a name leads to.
use Rattle.std.proofs.Common.{◌≡◌, refl, sym, ap, ◌∙◌, inl, inr, ℕ, true, false, if◌then◌else◌, List, map, Option, Some, None, Result, Ok, Err, IfOk}
use Rattle.jfs_name.specs.declared.name.NameEntry.{NameEntry}
use Rattle.jfs_name.specs.Directory.{named}
use Rattle.jfs_imap.specs.Inodes.{Inodes}
use Rattle.jfs_bmap.specs.States.{Blocks}
use Rattle.jfs_ranges.specs.declared.view.ViewError.{ViewError}
use Rattle.jfs_ranges.specs.declared.view.ViewError.TheVariants.{Read, Memory}
use Rattle.jfs_reader.specs.dtree.specs.Spells.{root_node, page_nodes, spells_names, FailsWhereBad, broken_for, found_for, TellsWay}
use Rattle.jfs_reader.specs.dtree.specs.declared.error.DtError.{DtError}
use Rattle.jfs_reader.specs.dtree.specs.declared.error.DtError.TheVariants as dt
use Rattle.jfs_reader.specs.objects.specs.Volume.{Volume, home}
use Rattle.jfs_reader.specs.objects.specs.Image.{extent_place}
use Rattle.jfs_reader.specs.objects.specs.Objects.{has_names}
use Rattle.jfs_reader.specs.meaning.specs.Readers.{readers, root_of}
use Rattle.jfs_reader.specs.meaning.specs.Consistent.{IsConsistent, MayBeNamed}
use Rattle.jfs_reader.specs.plain.specs.Tree.{Tree, enter, wanted}
use Rattle.jfs_reader.specs.plain.specs.declared.refusal.Refusal.{Refusal}
use Rattle.jfs_reader.specs.plain.specs.declared.refusal.Refusal.TheVariants.{NotDir, NotFound}
use Rattle.jfs_way.specs.Answer.{is_open, Answers, Follows, view_refusal, names_refusal}
use Rattle.jfs_way.specs.Volume.{volume_of, PlacesWithin}
use Rattle.jfs_way.specs.Way.{held_on, if_whole, inode_on, inode_at, inode_named, if_unbroken, name_from}
use Rattle.jfs_way.specs.Walk.{IsThere, IsOf, IsHeld, IsShown, tree_in}
use Rattle.jfs_way.specs.declared.object.Held.{Held}
use Rattle.jfs_way.proofs.Places.{home_is, place_is_home}
use Rattle.jfs_way.proofs.Nodes.{in_directory, in_other, stands, unbroken}

pub through : {X : Type 0} (given other : Result X Refusal) (r : Result X Refusal) → given ≡ other → Answers other r → Answers given r
through given other (Ok x) e h = e ∙ h
through given other (Err why) e (inl h) = inl (e ∙ h)
through given other (Err why) e (inr h) = inr h

-- ---- a name's way, on any volume

view_open : (e : ViewError) → is_open (view_refusal e) ≡ true
view_open (Read fault) = refl
view_open Memory = refl

module _ (blocks : ℕ) (pages : ℕ → List ℕ) (inodes : Inodes) (at : Held) (name root : List ℕ) (dir : has_names at.inode ≡ true) (is : root ≡ root_of at.inode) where
  abbrev there : Result Held Refusal
  there = inode_named blocks pages inodes at.page (found_for blocks pages root name)

  in_names : name_from blocks pages inodes at name ≡ if_unbroken at.page (broken_for blocks pages root name) there
  in_names = ap (λ b. if b then if_unbroken at.page (broken_for blocks pages (root_of at.inode) name) (inode_named blocks pages inodes at.page (found_for blocks pages (root_of at.inode) name)) else Err NotDir) dir
      ∙ ap (λ (bytes : List ℕ). if_unbroken at.page (broken_for blocks pages bytes name) (inode_named blocks pages inodes at.page (found_for blocks pages bytes name))) (sym is)

  found_is : (found : Option ℕ) → broken_for blocks pages root name ≡ None → found ≡ found_for blocks pages root name → name_from blocks pages inodes at name ≡ inode_named blocks pages inodes at.page found
  found_is found whole e = in_names ∙ ap (λ first. if_unbroken at.page first there) whole ∙ ap (inode_named blocks pages inodes at.page) (sym e)

  pub meets_found : (n : ℕ) (r : Result Held Refusal) → broken_for blocks pages root name ≡ None → Some n ≡ found_for blocks pages root name → Answers (inode_at blocks pages inodes at.page n) r → Answers (name_from blocks pages inodes at name) r
  meets_found n r whole e = through (name_from blocks pages inodes at name) (inode_at blocks pages inodes at.page n) r (found_is (Some n) whole e)

  pub meets_none : broken_for blocks pages root name ≡ None → None ≡ found_for blocks pages root name → name_from blocks pages inodes at name ≡ Err NotFound
  meets_none whole e = found_is None whole e

  pub meets_failed : (e : DtError) → TellsWay {T = Option ℕ} (broken_for blocks pages root name) (Err e) → FailsWhereBad (page_nodes blocks pages) (root_node blocks root) e
      → Answers (name_from blocks pages inodes at name) (Err (names_refusal at.number at.page e))
  meets_failed (dt.View e) way bad = inr (view_open e)
  meets_failed (dt.Bad page rule) way bad = inl (in_names ∙ ap (λ first. if_unbroken at.page first there) way)
  meets_failed dt.Exists way bad = absurd bad
  meets_failed dt.Missing way bad = absurd bad
  meets_failed dt.TooDeep way bad = absurd bad

pub meets_other : (blocks : ℕ) (pages : ℕ → List ℕ) (inodes : Inodes) (at : Held) (name : List ℕ) → has_names at.inode ≡ false → name_from blocks pages inodes at name ≡ Err NotDir
meets_other blocks pages inodes at name other =
    ap (λ b. if b then if_unbroken at.page (broken_for blocks pages (root_of at.inode) name) (inode_named blocks pages inodes at.page (found_for blocks pages (root_of at.inode) name)) else Err NotDir) other

-- ---- on a consistent volume

-- a call on a tree that spells a list names no page
find_open : (blocks : ℕ) (pages : ℕ → List ℕ) (root : List ℕ) (dir page : ℕ) (es : List NameEntry) → spells_names blocks pages root ≡ Ok es
    → (e : DtError) → FailsWhereBad (page_nodes blocks pages) (root_node blocks root) e → is_open (names_refusal dir page e) ≡ true
find_open blocks pages root dir page es spelled (dt.View e) h = view_open e
find_open blocks pages root dir page es spelled (dt.Bad bad rule) h = absurd (h.1 es spelled)
find_open blocks pages root dir page es spelled dt.Exists h = absurd h
find_open blocks pages root dir page es spelled dt.Missing h = absurd h
find_open blocks pages root dir page es spelled dt.TooDeep h = absurd h

module _ (blocks : ℕ) (pages : ℕ → List ℕ) (area : ℕ → ℕ) (bm : Blocks) (inodes : Inodes) (within : PlacesWithin blocks inodes) (c : IsConsistent (readers blocks) (volume_of pages area bm inodes)) where
  abbrev v : Volume
  v = volume_of pages area bm inodes

  abbrev t : Tree
  t = tree_in blocks pages area bm inodes

  -- an inode of the tree is where the map says, and breaks no rule
  loaded : (above n : ℕ) → IsThere t n → (p : ℕ) × (inode_at blocks pages inodes above n ≡ Ok (held_on pages n p))
  loaded above n some =
      let s = stands blocks v c n some in
      (s.0, ap (inode_on pages above n) (place_is_home blocks inodes n s.0 within (sym (home_is inodes n) ∙ s.1)) ∙ ap (if_whole (held_on pages n s.0)) (unbroken blocks v c n s.0 s.1 some))

  -- so it is refused for faults and want of memory alone
  pub only_open : (above n : ℕ) (why : Refusal) → IsThere t n → Answers (inode_at blocks pages inodes above n) (Err why) → is_open why ≡ true
  only_open above n why some (inl h) = absurd (no (sym (loaded above n some).1 ∙ h))
    where
      no : {o : Held} → Ok o ≡ Err why → ⊥
      no h = cc (h)
  only_open above n why some (inr h) = h

  follows_load : (plain : Result ℕ Refusal) (above n : ℕ) (r : Result Held Refusal) → plain ≡ Ok n → IsThere t n → IfOk r (λ o. o.number ≡ n) → Answers (inode_at blocks pages inodes above n) r → Follows (IsOf t) plain r
  follows_load plain above n (Ok o) is some number meets = (n, is, (sym number, some))
  follows_load plain above n (Err why) is some number meets = inr (only_open above n why some meets)

  module _ (at : Held) (held : IsHeld blocks inodes at) (shown : IsShown pages at) (some : IsThere t at.number) where
    stood : home (map extent_place inodes.extents) at.number ≡ Some at.page
    stood = home_is inodes at.number ∙ held.home

    pub enter_other : has_names at.inode ≡ false → (name : List ℕ) → enter t at.number name ≡ Err NotDir
    enter_other e name = in_other blocks v c at.number at.page stood some (ap has_names (sym shown) ∙ e) name

    enter_dir : has_names at.inode ≡ true → (root : List ℕ) → root ≡ root_of at.inode → (es : List NameEntry) × (spells_names blocks pages root ≡ Ok es)
        × ((name : List ℕ) → enter t at.number name ≡ wanted (named name es)) × ((name : List ℕ) (m : ℕ) → named name es ≡ Some m → MayBeNamed t m)
    enter_dir e root is =
        let d = in_directory blocks v c at.number at.page stood some (ap has_names (sym shown) ∙ e) in
        (d.0, ap (spells_names blocks pages) (is ∙ ap root_of shown) ∙ d.1, d.2, d.3)

    -- a name that is found is loaded
    pub enter_found : (root name : List ℕ) (n : ℕ) (r : Result Held Refusal) → has_names at.inode ≡ true → root ≡ root_of at.inode
        → ((es : List NameEntry) → spells_names blocks pages root ≡ Ok es → Some n ≡ named name es)
        → IfOk r (λ o. o.number ≡ n) → Answers (inode_at blocks pages inodes at.page n) r → Follows (IsOf t) (enter t at.number name) r
    enter_found root name n r dir is found number meets =
        let d = enter_dir dir root is in
        let f = sym (found d.0 d.1) in
        follows_load (enter t at.number name) at.page n r (d.2 name ∙ ap wanted f) (d.3 name n f).1 number meets

    pub enter_none : (root name : List ℕ) → has_names at.inode ≡ true → root ≡ root_of at.inode
        → ((es : List NameEntry) → spells_names blocks pages root ≡ Ok es → None ≡ named name es) → enter t at.number name ≡ Err NotFound
    enter_none root name dir is found = let d = enter_dir dir root is in d.2 name ∙ ap wanted (sym (found d.0 d.1))

    pub enter_fails : (root : List ℕ) (number page : ℕ) (e : DtError) → has_names at.inode ≡ true → root ≡ root_of at.inode
        → FailsWhereBad (page_nodes blocks pages) (root_node blocks root) e → is_open (names_refusal number page e) ≡ true
    enter_fails root number page e dir is bad = let d = enter_dir dir root is in find_open blocks pages root number page d.0 d.1 e bad
