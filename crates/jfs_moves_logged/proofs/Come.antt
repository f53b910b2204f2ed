-- A volume as part of a transaction leaves it, and what that part logs.
use Rattle.std.proofs.Common.{◌≡◌, ◌<◌, ◌≤◌, ◌+◌, ℕ, Bool, true, false, List, [], ◌++◌, refl, sym, ap, ◌∙◌, subst, arith}
use Rattle.jfs_ranges.specs.declared.edit.Edit.{Edit}
use Rattle.jfs_ranges.specs.Laid.{put_tx}
use Rattle.jfs_tree.specs.Edit.{count_in}
use Rattle.jfs_tree.specs.Fresh.{LeadsTo}
use Rattle.jfs_rename.specs.unlink.specs.loss.specs.objects.specs.Volume.{Volume}
use Rattle.jfs_rename.specs.unlink.specs.loss.specs.objects.specs.Owners.{IsSound, bit}
use Rattle.jfs_rename.specs.unlink.specs.loss.specs.meaning.specs.Readers.{readers}
use Rattle.jfs_rename.specs.unlink.specs.loss.specs.steps.specs.After.{after_call, used_after, extents_after}
use Rattle.jfs_rename.specs.unlink.specs.loss.specs.steps.specs.Laws.{TakesAndFrees, IsFair}
use Rattle.jfs_rename.specs.unlink.specs.loss.specs.steps.proofs.After.{after_is, counts, same_bits, used_onto, extents_onto}
use Rattle.jfs_rename.specs.unlink.specs.loss.specs.steps.proofs.Puts.{put_within, put_past}
use Rattle.jfs_names_logged.specs.calls_logged.specs.Calls.{ArePages}
use Rattle.jfs_names_logged.specs.calls_logged.specs.logged.specs.Own.{LogsItsOwn}

-- After so many edits of volume v: pages as the edits leave them, and blocks in use too, but for those that are owed: they are freed by the edits, and an object still has them.
pub record Come (blocks : ℕ) (v : Volume) (owed : List ℕ) (tx : List Edit) (w : Volume) : Type 0 where
  pub sound : IsSound (readers blocks) w
  pub page : (b : ℕ) → w.page b ≡ put_tx blocks tx v.page b
  pub extents : w.extents ≡ v.extents
  pub area : w.area ≡ v.area
  pub used : (b : ℕ) → bit (w.used b) ≡ bit (used_after tx v.used b) + count_in b owed
  pub within : (b : ℕ) → w.used b ≡ true → b < blocks
  pub stay : extents_after tx v.extents ≡ v.extents

pub is_true : (s t : Bool) → bit s ≤ bit t → s ≡ true → t ≡ true
is_true true true h e = refl
is_true true false h e = absurd (omega (arith, h))
is_true false t h e = absurd (cc (e))

pub a_bit : (s : Bool) → 0 < bit s → s ≡ true
a_bit true h = refl
a_bit false h = absurd (omega (arith, h))

-- more edits behind them take and free blocks
pub used_more : (tx more later : List Edit) (used : ℕ → Bool) (taken freed : List ℕ) → later ≡ tx ++ more → TakesAndFrees more taken freed → IsFair more (used_after tx used)
    → (b : ℕ) → bit (used_after later used b) + count_in b freed ≡ bit (used_after tx used b) + count_in b taken
used_more tx more later used taken freed is moves fair b =
    let u = ap (λ (all : List Edit). bit (used_after all used b)) is ∙ ap (λ (x : ℕ → Bool). bit (x b)) (used_onto tx more used) in
    let c = counts more (used_after tx used) fair b in let t = moves.taken_are b in let f = moves.freed_are b in omega (arith, u, c, t, f)

pub stay_more : (tx more later : List Edit) (v : Volume) (taken freed : List ℕ) → later ≡ tx ++ more → TakesAndFrees more taken freed → extents_after tx v.extents ≡ v.extents → extents_after later v.extents ≡ v.extents
stay_more tx more later v taken freed is moves stay = ap (λ (all : List Edit). extents_after all v.extents) is ∙ extents_onto tx more v.extents ∙ ap (extents_after more) stay ∙ moves.extents_stay v.extents

module _ (blocks : ℕ) (v : Volume) (are : ArePages blocks v.page) (owed : List ℕ) (tx : List Edit) (w : Volume) (c : Come blocks v owed tx w) where
  pub pages_are : put_tx blocks tx v.page ≡ w.page
  pages_are = λ i b. sym (c.page b) i

  -- the edits lead to its pages
  pub leads_to : LeadsTo blocks v.page tx w.page
  leads_to b l = (are.sizes b l, sym (put_within blocks tx v.page b l) ∙ sym (c.page b))

  pub past : (b : ℕ) → blocks ≤ b → v.page b ≡ w.page b
  past b l = sym (put_past blocks tx v.page b l) ∙ sym (c.page b)

-- the whole transaction
pub come_logged : (blocks : ℕ) (v : Volume) (tx : List Edit) (w : Volume) → Come blocks v [] tx w → LogsItsOwn (readers blocks) v w tx → LogsItsOwn (readers blocks) v (after_call blocks tx v) tx
come_logged blocks v tx w c logs = subst (λ (u : Volume). LogsItsOwn (readers blocks) v u tx) (after_is blocks tx v w (record {
  page = λ i b. c.page b i;
  extents = c.extents ∙ sym c.stay;
  area = c.area;
  used = λ b. same_bits (w.used b) (used_after tx v.used b) (let u = c.used b in omega (arith, u));
  in_use = c.sound.agrees.inodes;
})) logs
