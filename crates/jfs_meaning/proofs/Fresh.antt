-- The number for a new object is free.
use Rattle.std.proofs.Common.{◌≡◌, ◌≤◌, ◌<◌, refl, sym, ap, ◌∙◌, ℕ, zero, suc, ◌*◌, ◌/◌, ◌%◌, Bool, true, false, true≢false, not, ◌&&◌, ◌||◌, ◌==◌, nat_lt, if◌then◌else◌, length, get_or, Option, Some, None, is_some, Result, Ok, inl, inr, arith}
use Rattle.std.proofs.lemmas.Bool.{cases_lt}
use Rattle.std.proofs.lemmas.Bool.Decides.{nat_tests}
use Rattle.jfs_plain.specs.Tree.{root}
use Rattle.jfs_objects.specs.Readers.{Readers}
use Rattle.jfs_objects.specs.Volume.{Volume, home, page_in, slot_of, room}
use Rattle.jfs_objects.specs.Objects.{Object, objects, listed, is_live}
use Rattle.jfs_objects.specs.Owners.{IsSound}
use Rattle.jfs_objects.proofs.Found.{object_at, no_home}
use Rattle.jfs_meaning.specs.Node.{node_in, node_from, target_in}
use Rattle.jfs_meaning.specs.Tree.{node_on, tree_on}
use Rattle.jfs_meaning.specs.Consistent.{IsConsistent}
use Rattle.jfs_meaning.specs.Room.{lowest, or_else, first_of, is_free_inode, is_empty_place, has_run, fresh_inode}
use Rattle.jfs_meaning.specs.Laws.{IsFresh, NodesLaw, FreshLaw}
use Rattle.jfs_meaning.proofs.Makes.{number_is}

-- ---- nodes and inodes in use

node_there : (r : Readers) (v : Volume) (n : ℕ) → IsSound r v → (x : Option Object) → objects r v n ≡ x → is_some (node_in r v.page x) ≡ is_some x
node_there r v n sound None e = refl
node_there r v n sound (Some o) e =
    let w = sound.whole n o e in
    ap (λ (a : Result _ _). is_some (node_from o.inode (target_in r v.page o) a (listed r.extents_order o.extents))) w.names_are
    ∙ ap (λ (b : Result _ _). is_some (node_from o.inode (target_in r v.page o) (Ok w.names) b)) w.extents_are

pub nodes_law : NodesLaw
nodes_law r v n sound = node_there r v n sound (objects r v n) refl ∙ sym (sound.agrees.inodes n)

-- ---- the lowest number that passes a test

record Passes (n : ℕ) (test : ℕ → Bool) (k : ℕ) : Type 0 where
  pub below : k < n
  pub holds : test k ≡ true

lowest_passes : (n : ℕ) (test : ℕ → Bool) (k : ℕ) → lowest n test ≡ Some k → Passes n test k
unfolding lowest
lowest_passes zero test k h = absurd (cc (h))
lowest_passes (suc n) test k h = by (lowest n test) refl (test n) refl h (lowest_passes n test k)
  where
    by : (x : Option ℕ) → lowest n test ≡ x → (y : Bool) → test n ≡ y → or_else x (if y then Some n else None) ≡ Some k → (lowest n test ≡ Some k → Passes n test k) → Passes (suc n) test k
    by (Some m) e y f h g = let p = g (e ∙ h) in record { below = (let b = p.below in omega (arith, b)); holds = p.holds }
    by None e true f h g = let s = number_is h in record { below = omega (arith, s); holds = ap test (sym s) ∙ f }
    by None e false f h g = absurd (cc (h))

-- ---- the number for a new object

module _ (r : Readers) (v : Volume) (c : IsConsistent r v) where
  -- where the first extent is, its inodes 0 to 3 are in use
  not_low : (n : ℕ) (x : Option ℕ) → home v.extents n ≡ x → is_some x ≡ true → is_some (objects r v n) ≡ false → 4 ≤ n
  not_low n None e h g = absurd (cc (h))
  not_low n (Some p) e h g = elim (cases_lt n 4) [
    | inl l ↦ absurd (true≢false (sym (ap is_some (object_at r v n p (slot_of (v.page p) (n % 8)) e refl (live n l))) ∙ g))
    | inr l ↦ l
  ]
    where
      early : (n : ℕ) → n < 4 → nat_lt n 4 ≡ true
      early n l = grind (arith, nat_tests)

      live : (n : ℕ) → n < 4 → is_live n (slot_of (v.page p) (n % 8)) ≡ true
      live n l = ap (λ (x : Bool). x || not ((slot_of (v.page p) (n % 8)).nlink == 0)) (early n l)

  no_node : (n : ℕ) → is_some (objects r v n) ≡ false → node_on r v n ≡ None
  no_node n h = by (objects r v n) h
    where
      by : (x : Option Object) → is_some x ≡ false → node_in r v.page x ≡ None
      by None h = refl
      by (Some o) h = absurd (cc (h))

  both : (a b : Bool) → (a && not b) ≡ true → (a ≡ true) × (b ≡ false)
  both true false h = (refl, refl)
  both true true h = absurd (cc (h))
  both false b h = absurd (cc (h))

  -- the root stands in the first extent
  first_there : is_empty_place v 0 ≡ false
  first_there = by (get_or v.extents 0 None) refl
    where
      by : (x : Option ℕ) → get_or v.extents 0 None ≡ x → not (is_some x) ≡ false
      by (Some p) e = refl
      by None e = absurd (cc (c.tree.top.1.there, ap (node_in r v.page) (no_home r v root (ap (λ (y : Option ℕ). page_in y root) e))))

  of_place : (k : ℕ) → Passes (length v.extents) (is_empty_place v) k → IsFresh (room v) (tree_on r v) (Some (32 * k))
  of_place zero p = absurd (true≢false (sym p.holds ∙ first_there))
  of_place (suc k) p = (omega arith, (let b = p.below in omega (arith, b)), ap (node_in r v.page) (no_home r v (32 * suc k) (ap (λ (y : Option ℕ). page_in y (32 * suc k)) (none_at (32 * suc k / 32) (omega arith)))))
    where
      none_at : (i : ℕ) → i ≡ suc k → get_or v.extents i None ≡ None
      none_at i e = ap (λ (j : ℕ). get_or v.extents j None) e ∙ by (get_or v.extents (suc k) None) p.holds
        where
          by : (x : Option ℕ) → not (is_some x) ≡ true → x ≡ None
          by None h = refl
          by (Some q) h = absurd (cc (h))

  in_extent : (n : ℕ) → Passes (room v) (is_free_inode r v) n → IsFresh (room v) (tree_on r v) (Some n)
  in_extent n p = (let b = both (is_some (home v.extents n)) (is_some (objects r v n)) p.holds in (not_low n (home v.extents n) refl b.0 b.1, p.below, no_node n b.1))

  pub fresh : (blocks : ℕ) → IsFresh (room v) (tree_on r v) (fresh_inode r v blocks)
  fresh blocks = by (lowest (room v) (is_free_inode r v)) refl
    where
      place : (x : Option ℕ) → lowest (length v.extents) (is_empty_place v) ≡ x → IsFresh (room v) (tree_on r v) (first_of x)
      place None e = tt
      place (Some k) e = of_place k (lowest_passes (length v.extents) (is_empty_place v) k e)

      where_room : (x : Bool) → IsFresh (room v) (tree_on r v) (if x then first_of (lowest (length v.extents) (is_empty_place v)) else None)
      where_room true = place (lowest (length v.extents) (is_empty_place v)) refl
      where_room false = tt

      by : (x : Option ℕ) → lowest (room v) (is_free_inode r v) ≡ x → IsFresh (room v) (tree_on r v) (or_else x (if has_run r v blocks then first_of (lowest (length v.extents) (is_empty_place v)) else None))
      by (Some n) e = in_extent n (lowest_passes (room v) (is_free_inode r v) n e)
      by None e = where_room (has_run r v blocks)

pub fresh_law : FreshLaw
fresh_law r v blocks log_pages c = fresh r v c blocks
