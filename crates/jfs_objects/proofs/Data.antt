-- Data is written in place.
use Rattle.std.proofs.Common.{◌≡◌, ◌≢◌, ◌≤◌, ◌<◌, refl, sym, ap, ap₂, ◌∙◌, subst, ℕ, ◌+◌, ◌*◌, ◌%◌, inl, inr, Bool, List, length, is_some, Option, Some, None, arith}
use Rattle.jfs_objects.specs.Readers.{Readers}
use Rattle.jfs_objects.specs.Volume.{Volume, home, slot_of, room}
use Rattle.jfs_objects.specs.Objects.{Object, objects, object_in, shown, footprint}
use Rattle.jfs_objects.specs.Owners.{holds, is_data, bit, extents_have, sum_below, Agrees, IsSound}
use Rattle.jfs_objects.specs.Contents.{contents_of}
use Rattle.jfs_objects.specs.Changes.{WritesData}
use Rattle.jfs_objects.specs.Laws.{DataLaw, ChangesNone}
use Rattle.jfs_objects.proofs.Sums.{sum_same, eq_or_not}
use Rattle.jfs_objects.proofs.Owned.{alone, owned, owned_once, fixed_is_no_objects, whole_trees}
use Rattle.jfs_objects.proofs.Homes.{home_counts}
use Rattle.jfs_objects.proofs.Blocks.{same_contents}
use Rattle.jfs_objects.proofs.Found.{same_shown_on}

data_is_held : (r : Readers) (o : Option Object) (b : ℕ) → is_data r o b ≤ holds r o b
unfolding is_data holds
data_is_held r None b = omega arith
data_is_held r (Some o) b = omega arith

module _ (r : Readers) (v w : Volume) (n : ℕ) (sound : IsSound r v) (s : WritesData r v w n) where
  a : Agrees r v
  a = sound.agrees

  no_data : (b : ℕ) → holds r (objects r v n) b ≡ 0 → is_data r (objects r v n) b ≡ 0
  no_data b h = let d = data_is_held r (objects r v n) b in omega (arith, d, h)

  other_pages : (k b : ℕ) → k ≢ n → 0 < holds r (objects r v k) b → w.page b ≡ v.page b
  other_pages k b apart h = s.keeps b (owned r v a k b h) (no_data b (alone r v a k n b (λ t. apart (sym t)) h))

  -- no tree page is data
  tree_pages : (k b : ℕ) (o : Object) → objects r v k ≡ Some o → 0 < footprint o b → w.page b ≡ v.page b
  tree_pages k b o is f =
      let t = whole_trees r o (sound.whole k o is) b in
      let h = ap (λ o. holds r o b) is in
      let d = ap (λ o. is_data r o b) is in
      elim (eq_or_not k n) [
        | inl e ↦ s.keeps b (owned r v a k b (omega (arith, t, h, f)))
            (subst (λ j. is_data r (objects r v j) b ≡ 0) e (let o = (owned_once r v a).once k b in omega (arith, t, h, f, d, o)))
        | inr apart ↦ other_pages k b apart (omega (arith, t, h, f))
      ]

  same_object : (k : ℕ) → objects r w k ≡ objects r v k
  unfolding objects
  same_object k = ap (λ (es : List (Option ℕ)). object_in r w.page k (home es k)) s.extents ∙ by_home (home v.extents k) refl
    where
      by_home : (x : Option ℕ) → home v.extents k ≡ x → object_in r w.page k x ≡ object_in r v.page k x
      by_home None h = refl
      by_home (Some q) h =
          let c = home_counts v.extents k q h in
          ap (λ (p : List ℕ). shown r w.page k (slot_of p (k % 8))) (s.keeps q (omega (arith, c)) (no_data q (fixed_is_no_objects r v a n q (omega (arith, c)))))
          ∙ same_shown_on r v w k q h (tree_pages k)

  pub changes_none : ChangesNone r v w
  changes_none = record {
    sound = record {
      agrees = record {
        blocks = λ b.
            (let f = ap₂ (λ (es : List (Option ℕ)) (area : ℕ → ℕ). area b + extents_have es b) s.extents s.area in
            let m = ap (λ (es : List (Option ℕ)). sum_below (32 * length es) (λ k. holds r (objects r w k) b)) s.extents in
            let t = sum_same (room v) (λ k. holds r (objects r v k) b) (λ k. holds r (objects r w k) b) (λ k _. ap (λ o. holds r o b) (same_object k)) in
            let u = ap (λ (f : ℕ → Bool). bit (f b)) s.used in let was = a.blocks b in
            omega (arith, f, m, t, u, was));
        inodes = λ k. ap (λ (f : ℕ → Bool). f k) s.in_use ∙ a.inodes k ∙ ap is_some (sym (same_object k));
      };
      whole = λ k o h. sound.whole k o (sym (same_object k) ∙ h);
    };
    objects_stay = same_object;
  }

  pub contents_stay : (m k : ℕ) → m ≢ n → contents_of r w.page (objects r w m) k ≡ contents_of r v.page (objects r v m) k
  contents_stay m k apart = ap (λ o. contents_of r w.page o k) (same_object m) ∙ same_contents r v.page w.page (objects r v m) k (λ b h. other_pages m b apart h)

pub data_law : DataLaw
data_law r v w n sound s = (changes_none r v w n sound s, contents_stay r v w n sound s)
