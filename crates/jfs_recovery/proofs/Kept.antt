-- Each allowed step keeps a sound core sound.
use Rattle.std.proofs.Common.{◌≡◌, ◌<◌, ◌≤◌, ◌⊎◌, ◌+◌, ◌-◌, ◌==◌, ◌&&◌, nat_le, not, ℕ, zero, suc, Bool, true, false, if◌then◌else◌, List, [], ◌∷◌, ◌++◌, length, get_or, Option, Some, None, IsSome, refl, sym, ap, ◌∙◌, subst, inl, inr, arith}
use Rattle.std.proofs.lemmas.Bool.{cases_lt, cases_Bool, cond-true, cond-false, eqb-true}
use Rattle.std.proofs.lemmas.List.{length_push, get_or_append_left, get_or_push}
use Rattle.jfs_ranges.specs.declared.edit.Edit.{Edit}
use Rattle.jfs_core.specs.declared.block.Span.{Span}
use Rattle.jfs_core.specs.Core.{Block}
use Rattle.jfs_core.specs.Step.{EndsBy, BeginsPast, IsSynced, spanned, dirtied, joined, synced}
use Rattle.jfs_recovery.specs.Face.{Face, IsFace, Pages, matters, IsStep}
use Rattle.jfs_recovery.specs.Core.{Core, Slot, Step, Done, nothing, entry, count, image, newest, matters_at, owner_at, IsBusy, IsLogged, MayAppend, MayWrite, appended, appended_slot, dropped, put, told_page, IsAllowed, does, AreAllowed, after_steps, data_slot, data_failed_slot, home_slot, home_failed_slot, synced_slot}
use Rattle.jfs_recovery.specs.Core.Step.{Write, WriteFails, Append, Take, GroupWrite, Told, Home, HomeFails, LowSync, SyncPoint}
use Rattle.jfs_recovery.specs.Sound.{HasOneOwner, SlotOk, IsOk, IsSound, Cares}
use Rattle.jfs_recovery.proofs.Images.{size_image}
use Rattle.jfs_recovery.proofs.Owners.{HasOneOwner-grown, nothing_matters}
use Rattle.jfs_recovery.proofs.Slots.{Same, SlotOk-touched, SlotOk-untouched, SlotOk-told, SlotOk-data, SlotOk-data_failed, SlotOk-home, SlotOk-home_failed, SlotOk-synced}

told_count : (f : Face) (core : Core) → IsSound f core → core.told ≤ count core
told_count f core kept = let c = kept.counts in omega (arith, c.told_durable, c.durable_taken, c.taken_appended)

newest_told : (f : Face) (core : Core) → IsSound f core → newest core ≤ core.told
newest_told f core kept =
    let points = kept.points in
    points.acknowledged (length core.syncpoints - 1) (omega (arith, points.mounted, points.stable_taken, points.taken_there))

-- ---- an append

pub longer_image : (f : Face) (core : Core) (tx : List Edit) (t : Pages) (k : ℕ) → k ≤ count core → image (appended f core tx t) k ≡ image core k
longer_image f core tx t zero h = refl
longer_image f core tx t (suc k) h = ap (λ (d : Done). d.image) (get_or_append_left core.history (record { tx = tx; image = t } ∷ []) nothing k (omega arith))

pub last_image : (f : Face) (core : Core) (tx : List Edit) (t : Pages) → image (appended f core tx t) (suc (count core)) ≡ t
last_image f core tx t = ap (λ (d : Done). d.image) (get_or_push core.history (record { tx = tx; image = t }) nothing (count core) refl)

entry_before : (f : Face) (core : Core) (tx : List Edit) (t : Pages) (k : ℕ) → k < count core → entry (appended f core tx t) k ≡ entry core k
entry_before f core tx t k h = ap (λ (d : Done). d.tx) (get_or_append_left core.history (record { tx = tx; image = t } ∷ []) nothing k h)

last_entry : (f : Face) (core : Core) (tx : List Edit) (t : Pages) → entry (appended f core tx t) (count core) ≡ tx
last_entry f core tx t = ap (λ (d : Done). d.tx) (get_or_push core.history (record { tx = tx; image = t }) nothing (count core) refl)

spanned_synced : (c n : ℕ) (block : Block) → c < n → IsSynced c block → IsSynced c (dirtied n block)
spanned_synced c n block h s = (at block.dirty s.0, s.1)
  where
    at : (span : Option Span) → BeginsPast c span → BeginsPast c (Some (spanned n span))
    at None q = h
    at (Some span) q = q

append_slot : (f : Face) → (core : Core) (tx : List Edit) (t : Pages) → MayAppend f core tx t → IsSound f core → (p : ℕ) →
    SlotOk (matters_at f (appended f core tx t) p) (Cares f p) (λ k. image (appended f core tx t) k p) (suc (count core)) core.told (appended_slot f core tx t p)
    × IsSynced (newest core) (appended_slot f core tx t p).block
append_slot f core tx t may kept p = at (cases_Bool (f.touches s tx p))
  where
    n : ℕ
    n = count core

    s : Pages
    s = image core n

    new : Core
    new = appended f core tx t

    m' : ℕ → Bool
    m' = matters_at f new p

    w : ℕ → List ℕ
    w k = image new k p

    old : Slot
    old = core.slots p

    b : Bool
    b = matters f t p

    b_is : m' (suc n) ≡ b
    b_is = ap (λ (x : Pages). matters f x p) (last_image f core tx t)

    of : Bool → Block → Slot
    of x block = record old { block = block; kept = if x then None else old.kept }

    P : Slot → Type 0
    P slot = SlotOk m' (Cares f p) w (suc n) core.told slot × IsSynced (newest core) slot.block

    same : Same (matters_at f core p) m' (λ k. image core k p) w n
    same = record {
      pages = λ k l. ap (λ (x : Pages). x p) (longer_image f core tx t k l);
      matters = λ k l. ap (λ (x : Pages). matters f x p) (longer_image f core tx t k l);
    }

    touched : P (of b (dirtied (suc n) old.block))
    touched = subst (λ (x : Bool). P (of x (dirtied (suc n) old.block))) b_is (
      SlotOk-touched (matters_at f core p) m' (Cares f p) (λ k. image core k p) w n core.told old (told_count f core kept) same (kept.slots p),
      spanned_synced (newest core) (suc n) old.block (omega (arith, newest_told f core kept, told_count f core kept)) (kept.passed p),
    )

    untouched : f.touches s tx p ≡ false → P (of b old.block)
    untouched e =
        let x = (may.marked p).stays e in
        let page : w (suc n) ≡ w n = ap (λ (y : Pages). y p) (last_image f core tx t) ∙ x.0 ∙ sym (same.pages n (omega arith)) in
        let there : m' (suc n) ≡ m' n = b_is ∙ x.1 ∙ sym (same.matters n (omega arith)) in
        subst (λ (y : Bool). P (of y old.block)) b_is (
          SlotOk-untouched (matters_at f core p) m' (Cares f p) (λ k. image core k p) w n core.told old (told_count f core kept) same page there (kept.slots p),
          kept.passed p,
        )

    at : (f.touches s tx p ≡ true) ⊎ (f.touches s tx p ≡ false) → P (of b (if f.touches s tx p then dirtied (suc n) old.block else old.block))
    at (inl e) = subst (λ (x : Block). P (of b x)) (sym (cond-true (f.touches s tx p) (dirtied (suc n) old.block) old.block e)) touched
    at (inr e) = subst (λ (x : Block). P (of b x)) (sym (cond-false (f.touches s tx p) (dirtied (suc n) old.block) old.block e)) (untouched e)

-- a fact of each entry, with the images around it, holds of a longer history
each_entry : (f : Face) (core : Core) (tx : List Edit) (t : Pages) (P : Pages → List Edit → Pages → Type 0) →
    ((k : ℕ) → k < count core → P (image core k) (entry core k) (image core (suc k))) → P (image core (count core)) tx t →
    (k : ℕ) → k < suc (count core) → P (image (appended f core tx t) k) (entry (appended f core tx t) k) (image (appended f core tx t) (suc k))
each_entry f core tx t P old last k l = at (cases_lt k (count core))
  where
    new : Core
    new = appended f core tx t

    moved : (s s' : Pages) (x x' : List Edit) (u u' : Pages) → s' ≡ s → x' ≡ x → u' ≡ u → P s x u → P s' x' u'
    moved s s' x x' u u' a b c h =
        subst (λ (y : Pages). P y x' u') (sym a) (subst (λ (y : List Edit). P s y u') (sym b) (subst (λ (y : Pages). P s x y) (sym c) h))

    at : (k < count core) ⊎ (count core ≤ k) → P (image new k) (entry new k) (image new (suc k))
    at (inl q) = moved (image core k) (image new k) (entry core k) (entry new k) (image core (suc k)) (image new (suc k))
        (longer_image f core tx t k (omega arith)) (entry_before f core tx t k q) (longer_image f core tx t (suc k) (omega arith)) (old k q)
    at (inr q) =
        let e : count core ≡ k = omega arith in
        let Q : ℕ → Type 0 = λ j. P (image new j) (entry new j) (image new (suc j)) in
        subst Q e (moved (image core (count core)) (image new (count core)) tx (entry new (count core)) t (image new (suc (count core)))
        (longer_image f core tx t (count core) (omega arith)) (last_entry f core tx t) (last_image f core tx t) last)

kept_append : (f : Face) (core : Core) (tx : List Edit) (t : Pages) → MayAppend f core tx t → IsSound f core → IsSound f (appended f core tx t)
kept_append f core tx t may kept =
    let size : count (appended f core tx t) ≡ suc (count core) = omega (arith, length_push core.history (record { tx = tx; image = t })) in
    let c = kept.counts in
    record {
      counts = record { told_durable = c.told_durable; durable_taken = c.durable_taken; taken_appended = omega (arith, size, c.taken_appended) };
      points = kept.points;
      rising = kept.rising;
      sizes = kept.sizes;
      canonical = kept.canonical;
      follows = λ k l. each_entry f core tx t (IsStep f) kept.follows may.follows k (omega (arith, l, size));
      logged = λ k p l page. each_entry f core tx t (λ s x u. IsLogged f s x u p) (λ j h. kept.logged j p h page) (may.logged p page) k (omega (arith, l, size));
      owners = λ p. subst (λ (n : ℕ). HasOneOwner (owner_at f (appended f core tx t) p) core.told n) (sym size)
          (HasOneOwner-grown (owner_at f core p) (owner_at f (appended f core tx t) p) core.told (count core) (told_count f core kept)
          (λ k l. ap (λ (s : Pages). f.owner s p) (longer_image f core tx t k l))
          (let P : Pages → Type 0 = λ s. (f.owner s p ≡ owner_at f core p (count core)) ⊎ (f.owner s p ≡ None) ⊎ ((owner_at f core p (count core) ≡ None) × (IsBusy (owner_at f core p) core.told (count core) → ⊥)) in
          subst P (sym (last_image f core tx t)) (may.owners p)) (kept.owners p));
      slots = λ p. subst (λ (n : ℕ). SlotOk (matters_at f (appended f core tx t) p) (Cares f p) (λ k. image (appended f core tx t) k p) n core.told (appended_slot f core tx t p)) (sym size) (append_slot f core tx t may kept p).0;
      passed = λ p. (append_slot f core tx t may kept p).1;
    }

-- ---- one block changes, or each

with_slots : (f : Face) (core : Core) (slots : ℕ → Slot) → IsSound f core → ((p : ℕ) → IsOk f core p (slots p)) → ((p : ℕ) → IsSynced (newest core) (slots p).block) → IsSound f (record core { slots = slots })
with_slots f core slots kept ok passed = record {
  counts = kept.counts;
  points = kept.points;
  rising = kept.rising;
  sizes = kept.sizes;
  canonical = kept.canonical;
  follows = kept.follows;
  logged = kept.logged;
  owners = kept.owners;
  slots = ok;
  passed = passed;
}

with_slot : (f : Face) (core : Core) (p : ℕ) (slot : Slot) → IsSound f core → IsOk f core p slot → IsSynced (newest core) slot.block → IsSound f (record core { slots = put p slot core.slots })
with_slot f core p slot kept ok passed = with_slots f core (put p slot core.slots) kept (λ q. (each q (cases_Bool (q == p))).0) (λ q. (each q (cases_Bool (q == p))).1)
  where
    P : ℕ → Slot → Type 0
    P q x = IsOk f core q x × IsSynced (newest core) x.block

    each : (q : ℕ) → ((q == p) ≡ true) ⊎ ((q == p) ≡ false) → P q (put p slot core.slots q)
    each q (inl e) =
        let same : p ≡ q = sym (eqb-true q p e) in
        subst (λ (x : Slot). P q x) (sym (cond-true (q == p) slot (core.slots q) e)) (subst (λ (r : ℕ). P r slot) same (ok, passed))
    each q (inr e) = subst (λ (x : Slot). P q x) (sym (cond-false (q == p) slot (core.slots q) e)) (kept.slots q, kept.passed q)

joined_synced : (c : ℕ) (unsynced dirty : Option Span) → BeginsPast c unsynced → BeginsPast c dirty → BeginsPast c (joined unsynced dirty)
joined_synced c None dirty u d = d
joined_synced c (Some span) None u d = u
joined_synced c (Some span) (Some other) u d = u

kept_home : (f : Face) → IsFace f → (core : Core) (p : ℕ) → IsSome (core.slots p).block.dirty → EndsBy core.told (core.slots p).block.dirty → IsSound f core → IsSound f (does f core (Home p))
kept_home f laws core p dirty ends kept =
    let s = core.slots p in
    with_slot f core p (home_slot (told_page core p) s) kept
    (SlotOk-home (matters_at f core p) (Cares f p) (λ k. image core k p) (count core) core.told (told_page core p) s.block.pages s.block.dirty s.block.unsynced s.data_at s.kept
    dirty ends refl (size_image f laws core kept core.told (told_count f core kept) p) (kept.slots p))
    (tt, joined_synced (newest core) s.block.unsynced s.block.dirty (kept.passed p).1 (kept.passed p).0)

kept_home_failed : (f : Face) → IsFace f → (core : Core) (p sectors : ℕ) → sectors ≤ 8 → IsSome (core.slots p).block.dirty → EndsBy core.told (core.slots p).block.dirty → IsSound f core → IsSound f (does f core (HomeFails p sectors))
kept_home_failed f laws core p sectors few dirty ends kept =
    let s = core.slots p in
    with_slot f core p (home_failed_slot (told_page core p) sectors s) kept
    (SlotOk-home_failed (matters_at f core p) (Cares f p) (λ k. image core k p) (count core) core.told sectors (told_page core p) s.block.pages s.block.dirty s.block.unsynced s.data_at s.kept
    dirty ends few refl (size_image f laws core kept core.told (told_count f core kept) p) (kept.slots p))
    (kept.passed p)

kept_write : (f : Face) (core : Core) (p : ℕ) (bytes : List ℕ) → length bytes ≡ 4096 → MayWrite (owner_at f core p) core.told (count core) → IsSound f core → IsSound f (does f core (Write p bytes))
kept_write f core p bytes size may kept =
    with_slot f core p (data_slot (count core) bytes (core.slots p)) kept
    (SlotOk-data (matters_at f core p) (Cares f p) (λ k. image core k p) (count core) core.told bytes (core.slots p) (told_count f core kept) size
    (nothing_matters (owner_at f core p) core.told (count core) (told_count f core kept) (kept.owners p) may) (kept.slots p))
    (kept.passed p)

kept_write_failed : (f : Face) (core : Core) (p : ℕ) (bytes : List ℕ) (sectors : ℕ) → sectors ≤ 8 → length bytes ≡ 4096 → MayWrite (owner_at f core p) core.told (count core) → IsSound f core → IsSound f (does f core (WriteFails p bytes sectors))
kept_write_failed f core p bytes sectors few size may kept =
    with_slot f core p (data_failed_slot (count core) bytes sectors (core.slots p)) kept
    (SlotOk-data_failed (matters_at f core p) (Cares f p) (λ k. image core k p) (count core) core.told sectors bytes (core.slots p) (told_count f core kept) few size
    (nothing_matters (owner_at f core p) core.told (count core) (told_count f core kept) (kept.owners p) may) (kept.slots p))
    (kept.passed p)

kept_sync : (f : Face) (core : Core) → IsSound f core → IsSound f (does f core LowSync)
kept_sync f core kept = with_slots f core (synced_slot f core) kept
    (λ p. SlotOk-synced (matters_at f core p) (Cares f p) (λ k. image core k p) (count core) core.told (core.slots p) (kept.slots p))
    (λ p. ((kept.passed p).0, tt))

dropped_past : (m : ℕ → Bool) (told c : ℕ) (dirty : Option Span) → BeginsPast c dirty → BeginsPast c (dropped m told dirty)
dropped_past m told c None h = tt
dropped_past m told c (Some span) h = at (cases_Bool (nat_le span.last told && not (m span.last)))
  where
    test : Bool
    test = nat_le span.last told && not (m span.last)

    at : (test ≡ true) ⊎ (test ≡ false) → BeginsPast c (if test then None else Some span)
    at (inl e) = subst (λ (x : Option Span). BeginsPast c x) (sym (cond-true test None (Some span) e)) tt
    at (inr e) = subst (λ (x : Option Span). BeginsPast c x) (sym (cond-false test None (Some span) e)) h

kept_told : (f : Face) (core : Core) → IsSound f core → IsSound f (does f core Told)
kept_told f core kept =
    let c = kept.counts in
    let points = kept.points in
    record {
      counts = record { told_durable = omega arith; durable_taken = c.durable_taken; taken_appended = c.taken_appended };
      points = record { mounted = points.mounted; stable_taken = points.stable_taken; taken_there = points.taken_there; acknowledged = λ j l. omega (arith, points.acknowledged j l, c.told_durable) };
      rising = kept.rising;
      sizes = kept.sizes;
      canonical = kept.canonical;
      follows = kept.follows;
      logged = kept.logged;
      owners = λ p j k a b d e x y ex ey. kept.owners p j k (omega (arith, a, c.told_durable)) b (omega (arith, d, c.told_durable)) e x y ex ey;
      slots = λ p.
          let s = core.slots p in
          SlotOk-told (matters_at f core p) (Cares f p) (λ k. image core k p) (count core) core.told core.durable s.block.pages s.block.dirty s.block.unsynced s.data_at s.kept
          c.told_durable (omega (arith, c.durable_taken, c.taken_appended)) (kept.slots p);
      passed = λ p. (dropped_past (matters_at f core p) core.durable (newest core) (core.slots p).block.dirty (kept.passed p).0, (kept.passed p).1);
    }

-- ---- counts

kept_take : (f : Face) (core : Core) → IsSound f core → IsSound f (does f core Take)
kept_take f core kept =
    let c = kept.counts in
    let points = kept.points in
    record {
      counts = record { told_durable = c.told_durable; durable_taken = omega (arith, c.durable_taken, c.taken_appended); taken_appended = omega arith };
      points = record { mounted = points.mounted; stable_taken = omega (arith, points.stable_taken, points.taken_there); taken_there = omega arith; acknowledged = points.acknowledged };
      rising = kept.rising;
      sizes = kept.sizes;
      canonical = kept.canonical;
      follows = kept.follows;
      logged = kept.logged;
      owners = kept.owners;
      slots = kept.slots;
      passed = kept.passed;
    }

kept_group : (f : Face) (core : Core) → IsSound f core → IsSound f (does f core GroupWrite)
kept_group f core kept =
    let c = kept.counts in
    let points = kept.points in
    record {
      counts = record { told_durable = omega (arith, c.told_durable, c.durable_taken); durable_taken = omega arith; taken_appended = c.taken_appended };
      points = record { mounted = omega (arith, points.mounted, points.stable_taken); stable_taken = omega arith; taken_there = points.taken_there; acknowledged = points.acknowledged };
      rising = kept.rising;
      sizes = kept.sizes;
      canonical = kept.canonical;
      follows = kept.follows;
      logged = kept.logged;
      owners = kept.owners;
      slots = kept.slots;
      passed = kept.passed;
    }

kept_sync_point : (f : Face) (core : Core) (c : ℕ) → c ≤ core.told → newest core ≤ c → ((p : ℕ) → IsSynced c (core.slots p).block) → IsSound f core → IsSound f (does f core (SyncPoint c))
kept_sync_point f core c told above synced kept =
    let xs = core.syncpoints ++ c ∷ [] in
    let size : length xs ≡ length core.syncpoints + 1 = length_push core.syncpoints c in
    let last : get_or xs (length xs - 1) 0 ≡ c = get_or_push core.syncpoints c 0 (length xs - 1) (omega (arith, size)) in
    let points = kept.points in
    record {
      counts = kept.counts;
      points = record {
        mounted = points.mounted;
        stable_taken = points.stable_taken;
        taken_there = omega (arith, points.taken_there, size);
        acknowledged = λ j l. omega (arith, bound j l (cases_lt j (length core.syncpoints)), told);
      };
      rising = λ j l. omega (arith, bound j l (cases_lt j (length core.syncpoints)), last);
      sizes = kept.sizes;
      canonical = kept.canonical;
      follows = kept.follows;
      logged = kept.logged;
      owners = kept.owners;
      slots = kept.slots;
      passed = λ p. subst (λ (n : ℕ). IsSynced n (core.slots p).block) (sym last) (synced p);
    }
  where
    bound : (j : ℕ) → j < length (core.syncpoints ++ c ∷ []) → (j < length core.syncpoints) ⊎ (length core.syncpoints ≤ j) → get_or (core.syncpoints ++ c ∷ []) j 0 ≤ c
    bound j l (inl q) = omega (arith, get_or_append_left core.syncpoints (c ∷ []) 0 j q, kept.rising j q, above)
    bound j l (inr q) = omega (arith, get_or_push core.syncpoints c 0 j (omega (arith, l, q, length_push core.syncpoints c)))

-- ---- all steps

pub kept_step : (f : Face) → IsFace f → (core : Core) (s : Step) → IsAllowed f core s → IsSound f core → IsSound f (does f core s)
kept_step f laws core (Write p bytes) may kept = kept_write f core p bytes may.0 may.1 kept
kept_step f laws core (WriteFails p bytes sectors) may kept = kept_write_failed f core p bytes sectors may.0 may.1 may.2 kept
kept_step f laws core (Append tx t) may kept = kept_append f core tx t may kept
kept_step f laws core Take may kept = kept_take f core kept
kept_step f laws core GroupWrite may kept = kept_group f core kept
kept_step f laws core Told may kept = kept_told f core kept
kept_step f laws core (Home p) may kept = kept_home f laws core p may.0 may.1 kept
kept_step f laws core (HomeFails p sectors) may kept = kept_home_failed f laws core p sectors may.0 may.1.0 may.1.1 kept
kept_step f laws core LowSync may kept = kept_sync f core kept
kept_step f laws core (SyncPoint c) may kept = kept_sync_point f core c may.0 may.1 may.2 kept

pub kept_steps : (f : Face) → IsFace f → (core : Core) (steps : List Step) → AreAllowed f core steps → IsSound f core → IsSound f (after_steps f core steps)
kept_steps f laws core [] may kept = kept
kept_steps f laws core (s ∷ rest) may kept = kept_steps f laws (does f core s) rest may.1 (kept_step f laws core s may.0 kept)
