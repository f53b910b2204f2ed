-- Objects are read from logged pages alone.
use Rattle.std.proofs.Common.{◌≡◌, refl, ap, ◌∙◌, ℕ, ◌%◌, List, Option, Some, None, arith}
use Rattle.jfs_objects.specs.Readers.{Readers}
use Rattle.jfs_objects.specs.Volume.{Volume, home, slot_of}
use Rattle.jfs_objects.specs.Objects.{Object, IsWhole, objects, object_in, shown, footprint, met}
use Rattle.jfs_objects.specs.Owners.{IsSound, unless_broken}
use Rattle.jfs_objects.proofs.Homes.{home_counts}
use Rattle.jfs_objects.proofs.Found.{same_shown_on}
use Rattle.jfs_kinds.specs.Owner.{has_page, is_logged}
use Rattle.jfs_kinds.specs.Owner.Owner.{Inodes, Tree}
use Rattle.jfs_kinds.specs.Laws.{HasOwners, IsReadFromLogged, HasPlaces, KeepsLogged, HasObjects, LoggedLaw}
use Rattle.jfs_kinds.proofs.Single.{has_owners}
use Rattle.jfs_kinds.proofs.Stay.{same_owners}

-- the pages that whole trees were read from are the object's pages
whole_pages : (r : Readers) (o : Object) → IsWhole r o → (b : ℕ) → has_page r (Some o) b ≡ footprint o b
unfolding has_page footprint
whole_pages r o w b =
    let x = ap (λ l. unless_broken l (met o.names b)) w.names_are in
    let y = ap (λ l. unless_broken l (met o.extents b)) w.extents_are in
    omega (arith, x, y)

pub reads : (r : Readers) (v : Volume) → IsSound r v → IsReadFromLogged r v
reads r v sound = record {
  inodes = λ n page h. owners.alone page Inodes (let c = home_counts v.extents n page h in omega (arith, c));
  trees = λ n b o is f. owners.alone b (Tree n) (let w = whole_pages r o (sound.whole n o is) b in let e = ap (λ (o : Option Object). has_page r o b) is in omega (arith, w, e, f));
}
  where
    owners : HasOwners r v
    owners = has_owners r v sound.agrees

objects_stay : (r : Readers) (v w : Volume) → IsSound r v → HasPlaces v w → KeepsLogged r v w → HasObjects r v w
unfolding objects
objects_stay r v w sound places keeps n = ap (λ (es : List (Option ℕ)). object_in r w.page n (home es n)) places.extents ∙ by_home (home v.extents n) refl
  where
    is : IsReadFromLogged r v
    is = reads r v sound

    by_home : (x : Option ℕ) → home v.extents n ≡ x → object_in r w.page n x ≡ object_in r v.page n x
    by_home None h = refl
    by_home (Some q) h =
        ap (λ (p : List ℕ). shown r w.page n (slot_of p (n % 8))) (keeps q (ap is_logged (is.inodes n q h)))
        ∙ same_shown_on r v w n q h (λ b o there f. keeps b (ap is_logged (is.trees n b o there f)))

pub logged_law : LoggedLaw
logged_law = record {
  reads = reads;
  objects_stay = objects_stay;
  owners_stay = λ r v w sound places keeps. same_owners r v w places (objects_stay r v w sound places keeps);
}
