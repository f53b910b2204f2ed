-- What a rename was asked: the ends of its paths, what stands at the new name, and whether the object may go there.
use Rattle.std.proofs.Common.{◌≡◌, ◌≢◌, ◌<◌, ◌==◌, ◌||◌, ℕ, Bool, true, false, true≢false, if◌then◌else◌, List, [], ◌∷◌, length, Option, Some, None, Result, Ok, Err, refl, sym, ap, ◌∙◌, subst, arith, eq-eqb}
use Rattle.std.proofs.lemmas.Bool.Decides.{nat_tests}
use Rattle.jfs_imap.specs.Inodes.{Inodes}
use Rattle.jfs_name.specs.declared.name.NameEntry.{NameEntry}
use Rattle.jfs_place.specs.Place.{occupant_at}
use Rattle.jfs_tree.specs.Walk.{Node, Leaf, Inner, Broken}
use Rattle.jfs_rename.specs.Asks.{asked, asked_of, asked_at, changes_nothing, room_for, with_room}
use Rattle.jfs_rename.specs.Ends.{is_nameless, moving_of, moving_on, placed_of}
use Rattle.jfs_rename.specs.Permits.{bare_check, free_check, over_check, permitted, unless_barred}
use Rattle.jfs_rename.specs.Through.{inside_of}
use Rattle.jfs_rename.specs.declared.permits.Asked.{Asked}
use Rattle.jfs_rename.specs.declared.permits.Asked.TheVariants.{Same, Free, Over}
use Rattle.jfs_rename.specs.rename_steps.specs.declared.moving.Moving.{Moving}
use Rattle.jfs_rename.specs.unlink.specs.Call.{bare_at, is_last_of_big}
use Rattle.jfs_rename.specs.unlink.specs.loss.specs.bmap.specs.States.{Blocks}
use Rattle.jfs_rename.specs.unlink.specs.loss.specs.lead_steps.specs.dtree.specs.Spells.{root_node}
use Rattle.jfs_rename.specs.unlink.specs.loss.specs.objects.specs.Objects.{has_names}
use Rattle.jfs_rename.specs.unlink.specs.loss.specs.meaning.specs.Readers.{root_of}
use Rattle.jfs_rename.specs.unlink.specs.loss.specs.plain.specs.Step.{why_barred}
use Rattle.jfs_rename.specs.unlink.specs.loss.specs.plain.specs.Tree.{and_then}
use Rattle.jfs_rename.specs.unlink.specs.loss.specs.plain.specs.declared.refusal.Refusal.{Refusal}
use Rattle.jfs_rename.specs.unlink.specs.loss.specs.plain.specs.declared.refusal.Refusal.TheVariants.{Exists, IntoItself, IsDir, NotDir, FileTooBig}
use Rattle.jfs_rename.specs.unlink.specs.loss.specs.steps.specs.Place.{front_of, last_of, if_directory, place_of}
use Rattle.jfs_rename.specs.unlink.specs.loss.specs.way.specs.Way.{path_of}
use Rattle.jfs_rename.specs.unlink.specs.loss.specs.way.specs.declared.object.Held.{Held}

-- ---- results in a row

pub then_ok : {A B : Type 0} (x : Result A Refusal) (f : A → Result B Refusal) (b : B) → and_then x f ≡ Ok b → (a : A) × (x ≡ Ok a) × (f a ≡ Ok b)
then_ok (Ok a) f b h = (a, refl, h)
then_ok (Err why) f b h = absurd (cc (h))

pub ok_is : {A : Type 0} {x y : A} → ◌≡◌ {A = Result A Refusal} (Ok x) (Ok y) → x ≡ y
ok_is h = cc (h)

otherwise : {A : Type 0} (b : Bool) (why : Refusal) (rest : Result A Refusal) (a : A) → (if b then Err why else rest) ≡ Ok a → (b ≡ false) × (rest ≡ Ok a)
otherwise true why rest a h = absurd (cc (h))
otherwise false why rest a h = (refl, h)

bare_same : (at o : Held) (node : Node (List ℕ) NameEntry) → bare_at at node ≡ Ok o → at ≡ o
bare_same at o (Leaf []) h = ok_is h
bare_same at o (Leaf (e ∷ es)) h = absurd (cc (h))
bare_same at o (Inner cs) h = absurd (cc (h))
bare_same at o (Broken rule) h = absurd (cc (h))

-- ---- what was asked

-- the ends of both paths
pub record ArePlaced (blocks : ℕ) (pages : ℕ → List ℕ) (inodes : Inodes) (from to : List (List ℕ)) (moving : Moving) : Type 0 where
  pub object : path_of blocks pages inodes from ≡ Ok moving.object
  pub source : path_of blocks pages inodes (front_of from) ≡ Ok moving.source
  pub target : path_of blocks pages inodes (front_of to) ≡ Ok moving.target
  pub source_dir : has_names moving.source.inode ≡ true
  pub target_dir : has_names moving.target.inode ≡ true
  pub some : 0 < length from

pub record Asks (blocks : ℕ) (pages : ℕ → List ℕ) (inodes : Inodes) (limit : ℕ) (from to : List (List ℕ)) (a : Asked) : Type 0 where
  pub moving : Moving
  pub placed : ArePlaced blocks pages inodes from to moving
  pub inside : Bool
  pub inside_is : inside_of blocks pages inodes moving.object to ≡ Ok inside
  pub found : Option Held
  pub permits : permitted blocks limit moving inside found ≡ Ok a

module _ (blocks : ℕ) (pages : ℕ → List ℕ) (map : Blocks) (inodes : Inodes) (limit : ℕ) (from to : List (List ℕ)) (a : Asked) where
  -- a place is a directory
  of_place : (path : List (List ℕ)) (at : Held) → place_of blocks pages inodes path ≡ Ok at → (path_of blocks pages inodes (front_of path) ≡ Ok at) × (has_names at.inode ≡ true)
  of_place path at h =
      let o = otherwise (length path == 0) Exists _ at h in
      let e = then_ok (path_of blocks pages inodes (front_of path)) if_directory at o.1 in
      let d = is_dir (has_names e.0.inode) refl e.2 in
      (e.1 ∙ ap (λ (x : Held). Ok x) d.1, ap (λ (x : Held). has_names x.inode) (sym d.1) ∙ d.0)
    where
      is_dir : {o : Held} (x : Bool) → has_names o.inode ≡ x → (if x then Ok o else Err NotDir) ≡ Ok at → (has_names o.inode ≡ true) × (o ≡ at)
      is_dir true e h = (e, ok_is h)
      is_dir false e h = absurd (cc (h))

  of_room : (target : Held) (b : Asked) → with_room blocks pages map target (last_of to) b ≡ Ok a → b ≡ a
  of_room target b h = by (changes_nothing b) h
    where
      by : (x : Bool) → (if x then Ok b else and_then (room_for blocks pages map target (last_of to)) (λ it. Ok b)) ≡ Ok a → b ≡ a
      by true h = ok_is h
      by false h = ok_is (then_ok (room_for blocks pages map target (last_of to)) (λ it. Ok b) a h).2

  of_permit : (moving : Moving) (inside : Bool) (found : Option Held) (b : Asked) → permitted blocks limit moving inside found ≡ Ok b → with_room blocks pages map moving.target (last_of to) b ≡ Ok a → permitted blocks limit moving inside found ≡ Ok a
  of_permit moving inside found b h g = h ∙ ap (λ (x : Asked). Ok x) (of_room moving.target b g)

  nonempty : is_nameless from to ≡ false → 0 < length from
  nonempty h = by (length from) (length to) h
    where
      by : (x y : ℕ) → (x == 0 || y == 0) ≡ false → 0 < x
      by x y h = grind (arith, nat_tests, h)

  are_placed : (moving : Moving) → moving_on blocks pages inodes from to ≡ Ok moving → ArePlaced blocks pages inodes from to moving
  are_placed moving h =
      let o = then_ok (path_of blocks pages inodes from) (placed_of blocks pages inodes from to) moving h in
      let n = otherwise (is_nameless from to) IntoItself _ moving o.2 in
      let s = then_ok (place_of blocks pages inodes from) (λ source. and_then (place_of blocks pages inodes to) (λ target. Ok (moving_of o.0 source target))) moving n.1 in
      let t = then_ok (place_of blocks pages inodes to) (λ target. Ok (moving_of o.0 s.0 target)) moving s.2 in
      let source = of_place from s.0 s.1 in
      let target = of_place to t.0 t.1 in
      subst (ArePlaced blocks pages inodes from to) (ok_is t.2) (record { object = o.1; source = source.0; target = target.0; source_dir = source.1; target_dir = target.1; some = nonempty n.0 })

  pub asks : asked blocks pages map inodes limit from to ≡ Ok a → Asks blocks pages inodes limit from to a
  asks h =
      let m = then_ok (moving_on blocks pages inodes from to) (asked_of blocks pages map inodes limit to) a h in
      let i = then_ok (inside_of blocks pages inodes m.0.object to) (λ inside. and_then (occupant_at blocks pages inodes m.0.target (last_of to)) (asked_at blocks pages map limit to m.0 inside)) a m.2 in
      let f = then_ok (occupant_at blocks pages inodes m.0.target (last_of to)) (asked_at blocks pages map limit to m.0 i.0) a i.2 in
      let p = then_ok (permitted blocks limit m.0 i.0 f.0) (with_room blocks pages map m.0.target (last_of to)) a f.2 in
      record {
        moving = m.0;
        placed = are_placed m.0 m.1;
        inside = i.0;
        inside_is = i.1;
        found = f.0;
        permits = of_permit m.0 i.0 f.0 p.0 p.1 p.2;
      }

-- ---- what is permitted

module _ (blocks limit : ℕ) (moving : Moving) (inside : Bool) where
  unbarred : (x : Option Refusal) (it : Unit {0}) → unless_barred x ≡ Ok it → x ≡ None
  unbarred None it h = refl
  unbarred (Some why) it h = absurd (cc (h))

  outside_of : (x stays : Bool) (k : ℕ) → why_barred x inside stays k ≡ None → x ≡ true → inside ≡ false
  outside_of x stays k h e = by x inside h e
    where
      by : (x y : Bool) → why_barred x y stays k ≡ None → x ≡ true → y ≡ false
      by true true h e = absurd (cc (h))
      by true false h e = refl
      by false y h e = absurd (true≢false (sym e))

  -- nothing stands there
  pub free_is : (found : Option Held) (free : Moving) → permitted blocks limit moving inside found ≡ Ok (Free free) → (moving ≡ free) × (has_names moving.object.inode ≡ true → inside ≡ false)
  free_is None free h =
      let e = then_ok (free_check moving inside) (λ it. Ok (Free moving)) (Free free) h in
      (same (ok_is e.2), outside_of (has_names moving.object.inode) (moving.source.number == moving.target.number) moving.target.inode.nlink (unbarred _ e.0 e.1))
    where
      same : {x y : Moving} → Free x ≡ Free y → x ≡ y
      same h = cc (h)
  free_is (Some there) free h = by (there.number == moving.object.number) h
    where
      by : (x : Bool) → (if x then Ok Same else and_then (over_check blocks limit moving.object there inside) (λ it. Ok (Over moving there))) ≡ Ok (Free free) → (moving ≡ free) × (has_names moving.object.inode ≡ true → inside ≡ false)
      by true h = absurd (cc (h))
      by false h = absurd (let e = then_ok (over_check blocks limit moving.object there inside) (λ it. Ok (Over moving there)) (Free free) h in let g = e.2 in cc (g))

  -- another object stands there
  pub record MayTake (there : Held) : Type 0 where
    pub other : there.number ≢ moving.object.number
    pub outside : has_names moving.object.inode ≡ true → inside ≡ false
    pub same_kind : has_names there.inode ≡ has_names moving.object.inode
    pub bare : has_names moving.object.inode ≡ true → bare_at there (root_node blocks (root_of there.inode)) ≡ Ok there

  may_take : (there : Held) (it : Unit {0}) → there.number ≢ moving.object.number → over_check blocks limit moving.object there inside ≡ Ok it → MayTake there
  may_take there it other h = by (has_names moving.object.inode) refl (has_names there.inode) refl inside refl h
    where
      bare_is : bare_check blocks there ≡ Ok it → bare_at there (root_node blocks (root_of there.inode)) ≡ Ok there
      bare_is h = let e = then_ok (bare_at there (root_node blocks (root_of there.inode))) (λ o. Ok tt) it h in e.1 ∙ ap (λ (x : Held). Ok x) (sym (bare_same there e.0 (root_node blocks (root_of there.inode)) e.1))

      by : (x : Bool) → has_names moving.object.inode ≡ x → (y : Bool) → has_names there.inode ≡ y → (z : Bool) → inside ≡ z
          → (if x then (if z then Err IntoItself else (if y then bare_check blocks there else Err NotDir)) else (if y then Err IsDir else (if is_last_of_big limit there.inode then Err FileTooBig else Ok tt))) ≡ Ok it → MayTake there
      by true e true f true g h = absurd (cc (h))
      by true e false f true g h = absurd (cc (h))
      by true e true f false g h = record { other = other; outside = λ d. g; same_kind = f ∙ sym e; bare = λ d. bare_is h }
      by true e false f false g h = absurd (cc (h))
      by false e true f z g h = absurd (cc (h))
      by false e false f z g h = record { other = other; outside = λ d. absurd (true≢false (sym d ∙ e)); same_kind = f ∙ sym e; bare = λ d. absurd (true≢false (sym d ∙ e)) }

  pub over_is : (found : Option Held) (over : Moving) (there : Held) → permitted blocks limit moving inside found ≡ Ok (Over over there) → (moving ≡ over) × (found ≡ Some there) × MayTake there
  over_is None over there h = absurd (let e = then_ok (free_check moving inside) (λ it. Ok (Free moving)) (Over over there) h in let g = e.2 in cc (g))
  over_is (Some k) over there h = by (k.number == moving.object.number) refl h
    where
      by : (x : Bool) → (k.number == moving.object.number) ≡ x → (if x then Ok Same else and_then (over_check blocks limit moving.object k inside) (λ it. Ok (Over moving k))) ≡ Ok (Over over there)
          → (moving ≡ over) × (Some k ≡ Some there) × MayTake there
      by true e h = absurd (cc (h))
      by false e h =
          let c = then_ok (over_check blocks limit moving.object k inside) (λ it. Ok (Over moving k)) (Over over there) h in
          let s = same (ok_is c.2) in
          (s.0, ap (λ (x : Held). Some x) s.1, subst MayTake s.1 (may_take k c.0 (λ same. true≢false (sym (eq-eqb k.number moving.object.number same) ∙ e)) c.1))
        where
          same : {x y : Moving} {p q : Held} → Over x p ≡ Over y q → (x ≡ y) × (p ≡ q)
          same h = (cc (h), cc (h))
