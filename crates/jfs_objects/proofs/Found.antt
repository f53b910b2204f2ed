-- What stands at one number.
use Rattle.std.proofs.Common.{◌≡◌, ◌≤◌, ◌<◌, refl, sym, ap, ◌∙◌, ℕ, ◌*◌, ◌/◌, ◌%◌, inl, inr, Bool, true, false, if◌then◌else◌, length, Some, None, arith}
use Rattle.std.proofs.lemmas.Bool.{cases_lt}
use Rattle.jfs_inode.specs.declared.fields.Dinode.{Dinode}
use Rattle.jfs_objects.specs.Readers.{Readers}
use Rattle.jfs_objects.specs.Volume.{Volume, home, page_in, slot_of, room}
use Rattle.jfs_objects.specs.Objects.{Object, objects, object_in, shown, spelled, is_live, footprint}
use Rattle.jfs_objects.specs.Owners.{holds, IsSound}
use Rattle.jfs_objects.proofs.Owned.{get_past, whole_holds}
use Rattle.jfs_objects.proofs.Framed.{same_spelled}

pub home_within : (v : Volume) (n p : ℕ) → home v.extents n ≡ Some p → n < room v
home_within v n p h = elim (cases_lt n (room v)) [
  | inl l ↦ l
  | inr l ↦ absurd (none (sym (ap (λ o. page_in o n) (get_past v.extents (n / 32) (past (length v.extents) n l))) ∙ h))
]
  where
    past : (k n : ℕ) → 32 * k ≤ n → k ≤ n / 32
    past k n h = omega (arith, h)

    none : {p : ℕ} → None ≡ Some p → ⊥
    none h = cc (h)

pub no_home : (r : Readers) (v : Volume) (n : ℕ) → home v.extents n ≡ None → objects r v n ≡ None
unfolding objects
no_home r v n h = ap (object_in r v.page n) h

pub object_at : (r : Readers) (v : Volume) (n p : ℕ) (d : Dinode) → home v.extents n ≡ Some p → slot_of (v.page p) (n % 8) ≡ d → is_live n d ≡ true → objects r v n ≡ Some (spelled r v.page d)
unfolding objects
object_at r v n p d h s l = ap (object_in r v.page n) h ∙ ap (shown r v.page n) s ∙ ap (λ (x : Bool). if x then Some (spelled r v.page d) else None) l

pub no_object_at : (r : Readers) (v : Volume) (n p : ℕ) (d : Dinode) → home v.extents n ≡ Some p → slot_of (v.page p) (n % 8) ≡ d → is_live n d ≡ false → objects r v n ≡ None
unfolding objects
no_object_at r v n p d h s l = ap (object_in r v.page n) h ∙ ap (shown r v.page n) s ∙ ap (λ (x : Bool). if x then Some (spelled r v.page d) else None) l

-- An inode that stays shows the same object, where the object's tree pages stay.
pub same_shown_on : (r : Readers) (v w : Volume) (n q : ℕ) → home v.extents n ≡ Some q → ((b : ℕ) (o : Object) → objects r v n ≡ Some o → 0 < footprint o b → w.page b ≡ v.page b)
    → shown r w.page n (slot_of (v.page q) (n % 8)) ≡ shown r v.page n (slot_of (v.page q) (n % 8))
same_shown_on r v w n q h stays = by_live (is_live n d) refl
  where
    d : Dinode
    d = slot_of (v.page q) (n % 8)

    by_live : (x : Bool) → is_live n d ≡ x → (if x then Some (spelled r w.page d) else None) ≡ (if x then Some (spelled r v.page d) else None)
    by_live false l = refl
    by_live true l = ap Some (same_spelled r v.page w.page d (λ b f. stays b (spelled r v.page d) (object_at r v n q d h refl l) f))

-- A tree page of an object is among its blocks.
pub same_shown : (r : Readers) (v w : Volume) → IsSound r v → (n q : ℕ) → home v.extents n ≡ Some q → ((b : ℕ) → 0 < holds r (objects r v n) b → w.page b ≡ v.page b)
    → shown r w.page n (slot_of (v.page q) (n % 8)) ≡ shown r v.page n (slot_of (v.page q) (n % 8))
same_shown r v w sound n q h stays = same_shown_on r v w n q h (λ b o is f. stays b (
    let c = whole_holds r o (sound.whole n o is) b in let t = ap (λ o. holds r o b) is in omega (arith, c, t, f)))
