-- An inode extent is added.
use Rattle.std.proofs.Common.{◌≡◌, ◌≢◌, ◌≤◌, ◌<◌, refl, sym, ap, ap₂, ◌∙◌, ℕ, zero, suc, ◌+◌, ◌*◌, ◌/◌, ◌%◌, inl, inr, Bool, false, not, ◌||◌, ◌==◌, nat_lt, List, [], ◌∷◌, length, get_or, set, is_some, Option, Some, None, arith}
use Rattle.std.proofs.lemmas.Bool.Decides.{nat_tests}
use Rattle.std.proofs.lemmas.List.{get_or-set_same, get_or-set_other}
use Rattle.jfs_inode.specs.declared.fields.Dinode.{Dinode}
use Rattle.jfs_objects.specs.Readers.{Readers}
use Rattle.jfs_objects.specs.Volume.{Volume, home, page_in, slot_of, room}
use Rattle.jfs_objects.specs.Objects.{objects, object_in, shown, is_live}
use Rattle.jfs_objects.specs.Owners.{holds, owners, bit, extent_has, extents_have, sum_below, Agrees, IsSound}
use Rattle.jfs_objects.specs.Contents.{contents_of}
use Rattle.jfs_objects.specs.Changes.{AddsExtent}
use Rattle.jfs_objects.specs.Laws.{ExtentLaw, ChangesNone}
use Rattle.jfs_objects.proofs.Sums.{sum_same, eq_or_not, zero_or_more}
use Rattle.jfs_objects.proofs.Owned.{owned}
use Rattle.jfs_objects.proofs.Homes.{home_counts}
use Rattle.jfs_objects.proofs.Blocks.{same_contents}
use Rattle.jfs_objects.proofs.Found.{no_home, no_object_at, same_shown}

set_counts : (es : List (Option ℕ)) (place first b : ℕ) → place < length es → get_or es place None ≡ None → extents_have (set es place (Some first)) b ≡ extents_have es b + extent_has (Some first) b
set_counts [] place first b l h = absurd (omega (arith, l))
set_counts (e ∷ es) zero first b l h = let t = ap (λ x. extent_has x b) h in omega (arith, t)
set_counts (e ∷ es) (suc place) first b l h = let t = set_counts es place first b (omega (arith, l)) h in omega (arith, t)

set_length : (es : List (Option ℕ)) (place : ℕ) (x : Option ℕ) → length (set es place x) ≡ length es
set_length [] place x = refl
set_length (e ∷ es) zero x = refl
set_length (e ∷ es) (suc place) x = ap suc (set_length es place x)

module _ (r : Readers) (v w : Volume) (place first : ℕ) (sound : IsSound r v) (s : AddsExtent v w place first) where
  a : Agrees r v
  a = sound.agrees

  -- what has an owner isn't in the new extent
  owned_stays : (b : ℕ) → 0 < owners r v b → w.page b ≡ v.page b
  owned_stays b h = s.keeps b (elim (zero_or_more (extent_has (Some first) b))
      [ inl z ↦ z | inr k ↦ absurd (let u = ap bit (s.fresh b k) in let o = a.blocks b in omega (arith, u, o, h)) ])

  held_stays : (n b : ℕ) → 0 < holds r (objects r v n) b → w.page b ≡ v.page b
  held_stays n b h = owned_stays b (owned r v a n b h)

  -- an inode of another extent
  old_home : (n : ℕ) → n / 32 ≢ place → home w.extents n ≡ home v.extents n
  old_home n t = ap (λ (es : List (Option ℕ)). home es n) s.extents ∙ ap (λ (o : Option ℕ). page_in o n) (get_or-set_other v.extents place (n / 32) (Some first) None t)

  old_object : (n : ℕ) → n / 32 ≢ place → objects r w n ≡ objects r v n
  unfolding objects
  old_object n t = ap (object_in r w.page n) (old_home n t) ∙ by_home (home v.extents n) refl
    where
      by_home : (x : Option ℕ) → home v.extents n ≡ x → object_in r w.page n x ≡ object_in r v.page n x
      by_home None h = refl
      by_home (Some q) h =
          ap (λ (p : List ℕ). shown r w.page n (slot_of p (n % 8))) (owned_stays q (let c = home_counts v.extents n q h in omega (arith, c)))
          ∙ same_shown r v w sound n q h (held_stays n)

  -- and one of the new one
  new_object : (n : ℕ) → n / 32 ≡ place → objects r w n ≡ objects r v n
  new_object n t =
      no_object_at r w n (first + n % 32 / 8) (slot_of (w.page (first + n % 32 / 8)) (n % 8)) at refl
      (dead n (slot_of (w.page (first + n % 32 / 8)) (n % 8)) (late n place t s.later) (s.empty (n % 32 / 8) (n % 8) (omega arith) (omega arith)))
      ∙ sym (no_home r v n (ap (λ (o : Option ℕ). page_in o n) (ap (λ (k : ℕ). get_or v.extents k None) t ∙ s.none)))
    where
      at : home w.extents n ≡ Some (first + n % 32 / 8)
      at = ap (λ (es : List (Option ℕ)). home es n) s.extents
          ∙ ap (λ (o : Option ℕ). page_in o n) (ap (λ (k : ℕ). get_or (set v.extents place (Some first)) k None) t ∙ get_or-set_same v.extents place (Some first) None s.within)

      late : (n place : ℕ) → n / 32 ≡ place → 0 < place → 4 ≤ n
      late n place t l = omega (arith, t, l)

      dead : (n : ℕ) (d : Dinode) → 4 ≤ n → d.nlink ≡ 0 → is_live n d ≡ false
      dead n d l z = ap (λ (k : ℕ). nat_lt n 4 || not (k == 0)) z ∙ ap (λ (x : Bool). x || false) (past n l)
        where
          past : (n : ℕ) → 4 ≤ n → nat_lt n 4 ≡ false
          past n l = grind (arith, nat_tests)

  same_object : (n : ℕ) → objects r w n ≡ objects r v n
  same_object n = elim (eq_or_not (n / 32) place) [ inl t ↦ new_object n t | inr t ↦ old_object n t ]

  pub changes_none : ChangesNone r v w
  changes_none = record {
    sound = record {
      agrees = record {
        blocks = λ b.
            (let f = ap₂ (λ (es : List (Option ℕ)) (area : ℕ → ℕ). area b + extents_have es b) s.extents s.area in
            let c = set_counts v.extents place first b s.within s.none in
            let m = ap (λ (es : List (Option ℕ)). sum_below (32 * length es) (λ k. holds r (objects r w k) b)) s.extents in
            let l = ap (λ k. sum_below (32 * k) (λ k. holds r (objects r w k) b)) (set_length v.extents place (Some first)) in
            let t = sum_same (room v) (λ k. holds r (objects r v k) b) (λ k. holds r (objects r w k) b) (λ k _. ap (λ o. holds r o b) (same_object k)) in
            let u = s.used b in let was = a.blocks b in
            omega (arith, f, c, m, l, t, u, was));
        inodes = λ n. ap (λ (f : ℕ → Bool). f n) s.in_use ∙ a.inodes n ∙ ap is_some (sym (same_object n));
      };
      whole = λ n o h. sound.whole n o (sym (same_object n) ∙ h);
    };
    objects_stay = same_object;
  }

  pub contents_stay : (m k : ℕ) → contents_of r w.page (objects r w m) k ≡ contents_of r v.page (objects r v m) k
  contents_stay m k = ap (λ o. contents_of r w.page o k) (same_object m) ∙ same_contents r v.page w.page (objects r v m) k (λ b h. held_stays m b h)

pub extent_law : ExtentLaw
extent_law r v w place first sound s = (changes_none r v w place first sound s, contents_stay r v w place first sound s)
