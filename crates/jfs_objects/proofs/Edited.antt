-- One object's pages and its inode change: all other objects stay, and maps agree again.
use Rattle.std.proofs.Common.{◌≡◌, ◌≢◌, ◌≤◌, ◌<◌, refl, sym, ap, ap₂, ◌∙◌, subst, ℕ, ◌+◌, ◌*◌, ◌%◌, inl, inr, Bool, true, false, ne_eqb, eq-eqb, if◌then◌else◌, List, length, is_some, Option, Some, None, arith}
use Rattle.jfs_inode.specs.declared.fields.Dinode.{Dinode}
use Rattle.jfs_tree.specs.Edit.{count_in}
use Rattle.jfs_objects.specs.Readers.{Readers}
use Rattle.jfs_objects.specs.Volume.{Volume, home, slot_of, room}
use Rattle.jfs_objects.specs.Objects.{Object, IsWhole, objects, object_in, shown}
use Rattle.jfs_objects.specs.Owners.{holds, fixed, owners, bit, extents_have, sum_below, Agrees, IsSound}
use Rattle.jfs_objects.specs.Contents.{contents_of}
use Rattle.jfs_objects.specs.Changes.{PutsInode}
use Rattle.jfs_objects.specs.Laws.{ChangesOne}
use Rattle.jfs_objects.proofs.Sums.{sum_put, put_is, eq_or_not, zero_or_more}
use Rattle.jfs_objects.proofs.Owned.{is_bit, alone, owned, unfixed, fixed_is_no_objects}
use Rattle.jfs_objects.proofs.Homes.{home_counts, one_inode}
use Rattle.jfs_objects.proofs.Blocks.{same_contents}
use Rattle.jfs_objects.proofs.Found.{home_within, same_shown}

-- the parts of an edit of one object, whatever becomes of it
pub record OneEdit (r : Readers) (v w : Volume) (n : ℕ) (d : Dinode) (mid : ℕ → List ℕ) (taken freed : List ℕ) : Type 0 where
  pub puts : PutsInode mid w.page v.extents n d
  pub keeps : (b : ℕ) → holds r (objects r v n) b ≡ 0 → count_in b taken ≡ 0 → mid b ≡ v.page b
  pub fresh : (b : ℕ) → 0 < count_in b taken → v.used b ≡ false
  pub used : (b : ℕ) → bit (w.used b) + count_in b freed ≡ bit (v.used b) + count_in b taken
  pub extents : w.extents ≡ v.extents
  pub area : w.area ≡ v.area
  pub in_use : (k : ℕ) → k ≢ n → w.in_use k ≡ v.in_use k

module _ (r : Readers) (v w : Volume) (n : ℕ) (d : Dinode) (mid : ℕ → List ℕ) (taken freed : List ℕ) (sound : IsSound r v) (e : OneEdit r v w n d mid taken freed) where
  a : Agrees r v
  a = sound.agrees

  -- what has an owner was not free
  not_taken : (b : ℕ) → 0 < owners r v b → count_in b taken ≡ 0
  not_taken b h = elim (zero_or_more (count_in b taken))
      [ inl z ↦ z | inr k ↦ absurd (let u = ap bit (e.fresh b k) in let o = a.blocks b in omega (arith, u, o, h)) ]

  -- the fixed areas and the inode extents stay, before the inode is put
  fixed_stays : (b : ℕ) → 0 < fixed v b → mid b ≡ v.page b
  fixed_stays b h = e.keeps b (fixed_is_no_objects r v a n b h) (not_taken b (omega (arith, h)))

  home_is_fixed : (k q : ℕ) → home v.extents k ≡ Some q → 0 < fixed v q
  home_is_fixed k q h = let c = home_counts v.extents k q h in omega (arith, c)

  -- no page of the object, and none that is taken, is the page of its inode
  pub not_home : (b : ℕ) → 0 < holds r (objects r v n) b + count_in b taken → b ≢ e.puts.page
  not_home b h same =
      let f = subst (λ q. 0 < fixed v q) (sym same) (home_is_fixed n e.puts.page e.puts.at) in
      let x = fixed_is_no_objects r v a n b f in
      let y = not_taken b (omega (arith, f)) in
      omega (arith, x, y, h)

  -- the pages of other objects stay
  other_pages : (k b : ℕ) → k ≢ n → 0 < holds r (objects r v k) b → w.page b ≡ v.page b
  other_pages k b apart h =
      e.puts.others b (λ same. (let f = subst (λ q. 0 < fixed v q) (sym same) (home_is_fixed n e.puts.page e.puts.at) in let u = unfixed r v a k b h in omega (arith, f, u)))
      ∙ e.keeps b (alone r v a k n b (λ s. apart (sym s)) h) (not_taken b (owned r v a k b h))

  extents_once : (b : ℕ) → extents_have v.extents b ≤ 1
  extents_once b = let o = a.blocks b in let s = is_bit (v.used b) in omega (arith, o, s)

  -- and so do their inodes
  other_slot : (k q : ℕ) → k ≢ n → home v.extents k ≡ Some q → slot_of (w.page q) (k % 8) ≡ slot_of (v.page q) (k % 8)
  other_slot k q apart h = elim (eq_or_not q e.puts.page) [
    | inl s ↦ subst (λ p. slot_of (w.page p) (k % 8) ≡ slot_of (v.page p) (k % 8)) (sym s) (
        e.puts.slots (k % 8) (omega arith)
        ∙ ap (λ (x : Bool). if x then d else slot_of (mid e.puts.page) (k % 8)) (ne_eqb (k % 8) (n % 8) (λ t. apart (one_inode v.extents extents_once k n e.puts.page (h ∙ ap Some s) e.puts.at t)))
        ∙ ap (λ (p : List ℕ). slot_of p (k % 8)) (fixed_stays e.puts.page (home_is_fixed n e.puts.page e.puts.at)))
    | inr t ↦ ap (λ (p : List ℕ). slot_of p (k % 8)) (e.puts.others q t ∙ fixed_stays q (home_is_fixed k q h))
  ]

  pub other_objects : (k : ℕ) → k ≢ n → objects r w k ≡ objects r v k
  unfolding objects
  other_objects k apart = ap (λ (es : List (Option ℕ)). object_in r w.page k (home es k)) e.extents ∙ by_home (home v.extents k) refl
    where
      by_home : (x : Option ℕ) → home v.extents k ≡ x → object_in r w.page k x ≡ object_in r v.page k x
      by_home None h = refl
      by_home (Some q) h = ap (shown r w.page k) (other_slot k q apart h) ∙ same_shown r v w sound k q h (λ b. other_pages k b apart)

  pub now_home : home w.extents n ≡ Some e.puts.page
  now_home = ap (λ (es : List (Option ℕ)). home es n) e.extents ∙ e.puts.at

  pub now_slot : slot_of (w.page e.puts.page) (n % 8) ≡ d
  now_slot = e.puts.slots (n % 8) (omega arith) ∙ ap (λ (x : Bool). if x then d else slot_of (mid e.puts.page) (n % 8)) (eq-eqb (n % 8) (n % 8) refl)

  module _ (x : Option Object) (is : objects r w n ≡ x) (blocks : (b : ℕ) → holds r x b + count_in b freed ≡ holds r (objects r v n) b + count_in b taken)
      (set : w.in_use n ≡ is_some x) (whole : (o : Object) → x ≡ Some o → IsWhole r o) where
    agrees : Agrees r w
    agrees = record {
      blocks = λ b.
          (let f = ap₂ (λ (es : List (Option ℕ)) (area : ℕ → ℕ). area b + extents_have es b) e.extents e.area in
          let m = ap (λ (es : List (Option ℕ)). sum_below (32 * length es) (λ k. holds r (objects r w k) b)) e.extents in
          let s = sum_put (room v) (λ k. holds r (objects r v k) b) (λ k. holds r (objects r w k) b) n (home_within v n e.puts.page e.puts.at) (λ k _ t. ap (λ o. holds r o b) (other_objects k t)) in
          let here = ap (λ o. holds r o b) is in let p = blocks b in let q = e.used b in let was = a.blocks b in
          omega (arith, f, m, s, here, p, q, was));
      inodes = λ k. elim (eq_or_not k n) [
        | inl t ↦ ap w.in_use t ∙ set ∙ ap is_some (sym is) ∙ ap (λ j. is_some (objects r w j)) (sym t)
        | inr t ↦ e.in_use k t ∙ a.inodes k ∙ ap is_some (sym (other_objects k t))
      ];
    }

    -- a block that stays in use stays the object's
    kept : (b : ℕ) → v.used b ≡ true → w.used b ≡ true → holds r (objects r w n) b ≡ holds r (objects r v n) b
    kept b was now =
        let one = ap bit was in let two = ap bit now in let o = a.blocks b in
        let t = not_taken b (omega (arith, one, o)) in
        let u = e.used b in let p = blocks b in let here = ap (λ o. holds r o b) is in
        omega (arith, one, two, t, u, p, here)

    pub changes_one : ChangesOne r v w n x
    changes_one = record {
      sound = record {
        agrees = agrees;
        whole = λ k o h. elim (eq_or_not k n) [
          | inl t ↦ whole o (sym is ∙ ap (objects r w) (sym t) ∙ h)
          | inr t ↦ sound.whole k o (sym (other_objects k t) ∙ h)
        ];
      };
      objects_are = put_is (objects r v) (objects r w) n x is other_objects;
      contents_stay = λ m k t. ap (λ o. contents_of r w.page o k) (other_objects m t) ∙ same_contents r v.page w.page (objects r v m) k (λ b h. other_pages m b t h);
      owners_stay = λ b k was now. elim (eq_or_not k n) [
        | inl t ↦ subst (λ j. holds r (objects r w j) b ≡ holds r (objects r v j) b) (sym t) (kept b was now)
        | inr t ↦ ap (λ o. holds r o b) (other_objects k t)
      ];
    }
