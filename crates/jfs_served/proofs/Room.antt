-- Volumes that are alike where it matters have the same room.
use Rattle.std.proofs.Common.{◌≡◌, ◌<◌, ◌%◌, ◌==◌, ◌&&◌, refl, sym, ap, ap₂, ◌∙◌, ℕ, Bool, true, false, if◌then◌else◌, List, [], Option, Some, None, Ok, arith}
use Rattle.jfs_super.specs.Geometry.{file_limit_of}
use Rattle.jfs_shown.specs.objects.specs.Objects.{Object, IsWhole, objects, object_in, shown, spelled, has_names, is_live, footprint, listed, met}
use Rattle.jfs_shown.specs.objects.specs.Owners.{holds, bit, IsSound}
use Rattle.jfs_shown.specs.objects.specs.Readers.{Readers}
use Rattle.jfs_shown.specs.objects.specs.Volume.{Volume, home, slot_of}
use Rattle.jfs_shown.specs.objects.proofs.Found.{same_shown_on}
use Rattle.jfs_shown.specs.objects.proofs.Homes.{home_counts}
use Rattle.jfs_shown.specs.objects.proofs.Owned.{is_bit, owned_once, whole_holds}
use Rattle.jfs_shown.specs.meaning.specs.Readers.{readers}
use Rattle.jfs_shown.specs.meaning.specs.Room.{is_deep_in, room_on}
use Rattle.jfs_shown.specs.way.specs.dtree.specs.Laws.{order}
use Rattle.jfs_shown.specs.way.specs.dtree.specs.Room.{is_eight, is_tight, is_deep_below}
use Rattle.jfs_shown.specs.way.specs.page_tree.specs.Spells.{no_page, tree_of, spells}
use Rattle.jfs_shown.specs.way.specs.page_tree.specs.Walk.{times}
use Rattle.jfs_alike.specs.Alike.{AreAlike, MeanTheSame}
use Rattle.jfs_served.proofs.Deep.{same_levels, same_path}

some_same : (a b : Object) → Some a ≡ Some b → a ≡ b
some_same a b e = cc

-- an object is what its inode and its trees spell
pub spelled_is : (r : Readers) (v : Volume) (n : ℕ) (o : Object) → objects r v n ≡ Some o → o ≡ spelled r v.page o.inode
unfolding objects spelled
spelled_is r v n o is = by (home v.extents n) is
  where
    by : (x : Option ℕ) → object_in r v.page n x ≡ Some o → o ≡ spelled r v.page o.inode
    by None e = absurd (cc (e))
    by (Some p) e = live (is_live n (slot_of (v.page p) (n % 8))) e
      where
        live : (x : Bool) → (if x then Some (spelled r v.page (slot_of (v.page p) (n % 8))) else None) ≡ Some o → o ≡ spelled r v.page o.inode
        live false e = absurd (cc (e))
        live true e = let same = some_same (spelled r v.page (slot_of (v.page p) (n % 8))) o e in sym same ∙ ap (spelled r v.page) (ap (λ (x : Object). x.inode) same)

module _ (blocks : ℕ) (v w : Volume) (sound : IsSound (readers blocks) v) (alike : AreAlike v w) where
  abbrev r : Readers
  r = readers blocks

  used_of : (x : Bool) → 0 < bit x → x ≡ true
  used_of true more = refl
  used_of false more = absurd (omega (arith, more))

  held : (n b : ℕ) → 0 < holds r (objects r v n) b → w.page b ≡ v.page b
  held n b more = let o = owned_once r v sound.agrees in alike.pages b (o.in_use n b more) (let f = o.apart n b more in omega (arith, f))

  tree_page : (n b : ℕ) (o : Object) → objects r v n ≡ Some o → 0 < footprint o b → w.page b ≡ v.page b
  tree_page n b o is more = held n b (let t = whole_holds r o (sound.whole n o is) b in let h = ap (λ (x : Option Object). holds r x b) is in omega (arith, t, h, more))

  extent_page : (n q : ℕ) → home v.extents n ≡ Some q → w.page q ≡ v.page q
  extent_page n q h =
      let c = home_counts v.extents n q h in
      let e = sound.agrees.blocks q in
      let b = is_bit (v.used q) in
      alike.pages q (used_of (v.used q) (omega (arith, c, e))) (omega (arith, c, e, b))

  same_object : (n : ℕ) → objects r w n ≡ objects r v n
  unfolding objects
  same_object n = ap (λ (es : List (Option ℕ)). object_in r w.page n (home es n)) alike.extents ∙ by_home (home v.extents n) refl
    where
      by_home : (x : Option ℕ) → home v.extents n ≡ x → object_in r w.page n x ≡ object_in r v.page n x
      by_home None h = refl
      by_home (Some q) h = ap (λ (p : List ℕ). shown r w.page n (slot_of p (n % 8))) (extent_page n q h) ∙ same_shown_on r v w n q h (λ b o is more. tree_page n b o is more)

  deep_below : (n : ℕ) (o : Object) (name : List ℕ) → objects r v n ≡ Some o → has_names o.inode ≡ true
      → is_deep_below r.names_order r.names_page w.page (r.names_root o.inode) name ≡ is_deep_below r.names_order r.names_page v.page (r.names_root o.inode) name
  unfolding spells spelled footprint
  deep_below n o name is has =
      let whole : IsWhole r o = sound.whole n o is in
      let names : o.names ≡ tree_of r.names_order (λ b. r.names_page (v.page b)) (r.names_root o.inode) = ap (λ (x : Object). x.names) (spelled_is r v n o is)
      ∙ ap (λ (x : Bool). if x then tree_of r.names_order (λ b. r.names_page (v.page b)) (r.names_root o.inode) else []) has in
      let list : spells r.names_order (λ b. r.names_page (v.page b)) (r.names_root o.inode) ≡ Ok whole.names = ap (λ ms. listed r.names_order ms) (sym names) ∙ whole.names_are in
      let stay : (b : ℕ) → 0 < (if b == no_page then 0 else times b (tree_of r.names_order (λ b. r.names_page (v.page b)) (r.names_root o.inode))) → w.page b ≡ v.page b =
      λ b more. tree_page n b o is (let m = ap (λ ms. met ms b) names in omega (arith, m, more)) in
      ap₂ (λ (levels : Option ℕ) (tight : Bool). is_eight levels && tight)
      (same_levels r.names_order order r.names_page v.page w.page is_tight name (r.names_root o.inode) whole.names list stay)
      (same_path r.names_order order r.names_page v.page w.page is_tight name (r.names_root o.inode) whole.names list stay)

  deep_stays : (n : ℕ) (name : List ℕ) → is_deep_in r w.page (objects r w n) name ≡ is_deep_in r v.page (objects r v n) name
  deep_stays n name = ap (λ (x : Option Object). is_deep_in r w.page x name) (same_object n) ∙ by (objects r v n) refl
    where
      by : (x : Option Object) → objects r v n ≡ x → is_deep_in r w.page x name ≡ is_deep_in r v.page x name
      by None is = refl
      by (Some o) is = names (has_names o.inode) refl
        where
          names : (x : Bool) → has_names o.inode ≡ x → (x && is_deep_below r.names_order r.names_page w.page (r.names_root o.inode) name) ≡ (x && is_deep_below r.names_order r.names_page v.page (r.names_root o.inode) name)
          names false has = refl
          names true has = deep_below n o name is has

  pub same_room : MeanTheSame (readers blocks) v w → (log_pages : ℕ) → room_on (readers blocks) w blocks log_pages ≡ room_on (readers blocks) v blocks log_pages
  same_room means log_pages = λ i. record {
    limit = file_limit_of log_pages;
    free = means.free blocks i;
    deep = λ n name. deep_stays n name i;
    inode = means.inode blocks i;
  }
