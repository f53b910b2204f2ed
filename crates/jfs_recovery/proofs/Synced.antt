-- Bytes that were synced are there after every later crash and redo.
use Rattle.std.proofs.Common.{◌≡◌, ◌<◌, ◌≤◌, ◌⊎◌, ◌+◌, ◌==◌, ℕ, suc, true, false, List, [], ◌∷◌, Some, None, refl, sym, ap, ◌∙◌, inl, inr, arith}
use Rattle.std.proofs.lemmas.Bool.{cases_lt, cases_Bool, cond-true, cond-false, eqb-true, ne_eqb}
use Rattle.std.proofs.lemmas.List.{length_push}
use Rattle.jfs_ranges.specs.declared.edit.Edit.{Edit}
use Rattle.jfs_recovery.specs.Face.{Face, IsFace, Pages, matters, IsRedone}
use Rattle.jfs_kinds.specs.Owner.Owner.{Data, Still}
use Rattle.jfs_recovery.specs.Core.{MayWrite, IsAllowed, owner_at, Core, Slot, Step, count, matters_at, appended, does, AreAllowed, after_steps, put, data_slot, data_failed_slot, home_slot, home_failed_slot, told_page}
use Rattle.jfs_recovery.specs.Core.Step.{Write, WriteFails, Append, Take, GroupWrite, Told, Home, HomeFails, LowSync, SyncPoint}
use Rattle.jfs_recovery.specs.Sound.{IsSound, IsLeft, IsLogImage, window, Leaves, AllLeave}
use Rattle.jfs_recovery.proofs.Redo.{always_recovers}
use Rattle.jfs_recovery.proofs.Kept.{kept_step, kept_steps, longer_image, last_image}
use Rattle.jfs_recovery.proofs.Parts.{kept_bytes}

abbrev Has : Core → ℕ → List ℕ → Type 0
Has core p bytes = (core.slots p).kept ≡ Some bytes

other_slot : (core : Core) (q : ℕ) (slot : Slot) (p : ℕ) (bytes : List ℕ) → (p ≡ q → ⊥) → Has core p bytes → (put q slot core.slots p).kept ≡ Some bytes
other_slot core q slot p bytes apart has = ap (λ (x : Slot). x.kept) (cond-false (p == q) slot (core.slots p) (ne_eqb p q apart)) ∙ has

-- a write that keeps what is kept
same_kept : (core : Core) (q : ℕ) (slot : Slot) (p : ℕ) (bytes : List ℕ) → slot.kept ≡ (core.slots q).kept → Has core p bytes → (put q slot core.slots p).kept ≡ Some bytes
same_kept core q slot p bytes same has = at (cases_Bool (p == q))
  where
    at : ((p == q) ≡ true) ⊎ ((p == q) ≡ false) → (put q slot core.slots p).kept ≡ Some bytes
    at (inl e) =
        ap (λ (x : Slot). x.kept) (cond-true (p == q) slot (core.slots p) e) ∙ same ∙ ap (λ (r : ℕ). (core.slots r).kept) (sym (eqb-true p q e)) ∙ has
    at (inr e) = ap (λ (x : Slot). x.kept) (cond-false (p == q) slot (core.slots p) e) ∙ has

kept_stays : (f : Face) (core : Core) → IsSound f core → (s : Step) → (p : ℕ) (bytes : List ℕ) → Leaves f p s → Has core p bytes → Has (does f core s) p bytes
kept_stays f core kept (Write q other) p bytes leaves has = other_slot core q (data_slot (count core) other (core.slots q)) p bytes leaves has
kept_stays f core kept (WriteFails q other sectors) p bytes leaves has = other_slot core q (data_failed_slot (count core) other sectors (core.slots q)) p bytes leaves has
kept_stays f core kept (Append tx t) p bytes leaves has = cond-false (matters f t p) None (core.slots p).kept leaves ∙ has
kept_stays f core kept Take p bytes leaves has = has
kept_stays f core kept GroupWrite p bytes leaves has = has
kept_stays f core kept Told p bytes leaves has = has
kept_stays f core kept (Home q) p bytes leaves has = same_kept core q (home_slot (told_page core q) (core.slots q)) p bytes refl has
kept_stays f core kept (HomeFails q sectors) p bytes leaves has = same_kept core q (home_failed_slot (told_page core q) sectors (core.slots q)) p bytes refl has
kept_stays f core kept LowSync p bytes leaves has =
    let s = kept.slots p in
    let known = s.kept bytes has in
    let block = (core.slots p).block in
    let readable = s.ok.readable in
    cond-false (matters_at f core p (count core)) (core.slots p).kept (Some block.pages.seen) known.0
    ∙ ap (λ (x : List ℕ). Some x) (readable.2 ∙ known.1 readable.0 readable.1)
kept_stays f core kept (SyncPoint c) p bytes leaves has = has

-- from entry c on, the block doesn't matter
abbrev Quiet : Face → Core → ℕ → ℕ → Type 0
Quiet f core p c = (c ≤ count core) × ((k : ℕ) → c ≤ k → k ≤ count core → matters_at f core p k ≡ false)

quiet_append : (f : Face) (core : Core) (tx : List Edit) (t : Pages) (p c : ℕ) → matters f t p ≡ false → Quiet f core p c → Quiet f (appended f core tx t) p c
quiet_append f core tx t p c gone quiet = (omega (arith, size, quiet.0), λ k l h. at k l h (cases_lt (count core) k))
  where
    size : count (appended f core tx t) ≡ count core + 1
    size = length_push core.history (record { tx = tx; image = t })

    at : (k : ℕ) → c ≤ k → k ≤ count (appended f core tx t) → (count core < k) ⊎ (k ≤ count core) → matters_at f (appended f core tx t) p k ≡ false
    at k l h (inr q) = ap (λ (x : Pages). matters f x p) (longer_image f core tx t k q) ∙ quiet.1 k l q
    at k l h (inl q) =
        let e : k ≡ suc (count core) = omega (arith, size, h, q) in
        ap (λ (j : ℕ). matters_at f (appended f core tx t) p j) e ∙ ap (λ (x : Pages). matters f x p) (last_image f core tx t) ∙ gone

quiet_stays : (f : Face) (core : Core) (s : Step) → (p c : ℕ) → Leaves f p s → Quiet f core p c → Quiet f (does f core s) p c
quiet_stays f core (Write q other) p c leaves quiet = quiet
quiet_stays f core (WriteFails q other sectors) p c leaves quiet = quiet
quiet_stays f core (Append tx t) p c leaves quiet = quiet_append f core tx t p c leaves quiet
quiet_stays f core Take p c leaves quiet = quiet
quiet_stays f core GroupWrite p c leaves quiet = quiet
quiet_stays f core Told p c leaves quiet = quiet
quiet_stays f core (Home q) p c leaves quiet = quiet
quiet_stays f core (HomeFails q sectors) p c leaves quiet = quiet
quiet_stays f core LowSync p c leaves quiet = quiet
quiet_stays f core (SyncPoint x) p c leaves quiet = quiet

all_stay : (f : Face) → IsFace f → (core : Core) (steps : List Step) → AreAllowed f core steps → IsSound f core → (p c : ℕ) (bytes : List ℕ) → AllLeave f p steps → Has core p bytes → Quiet f core p c →
    Has (after_steps f core steps) p bytes × Quiet f (after_steps f core steps) p c
all_stay f laws core [] may kept p c bytes leave has quiet = (has, quiet)
all_stay f laws core (s ∷ rest) may kept p c bytes leave has quiet =
    all_stay f laws (does f core s) rest may.1 (kept_step f laws core s may.0 kept) p c bytes leave.1
    (kept_stays f core kept s p bytes leave.0 has) (quiet_stays f core s p c leave.0 quiet)

-- Bytes kept in a block now are there after any steps that leave it, after any crash, and after redo of what has at least the entries that are there now.
pub synced_bytes : (f : Face) → IsFace f → (core : Core) (steps : List Step) → IsSound f core → AreAllowed f core steps → (p : ℕ) (bytes : List ℕ) → Has core p bytes → AllLeave f p steps →
    (low : Pages) (c n : ℕ) (redone : Pages) → IsLeft (after_steps f core steps) low → IsLogImage (after_steps f core steps) c n → IsRedone f low (window (after_steps f core steps) c n) redone → count core ≤ n →
    redone p ≡ bytes
synced_bytes f laws core steps kept may p bytes has leave low c n redone left log is_redone after =
    let later = after_steps f core steps in
    let later_kept = kept_steps f laws core steps may kept in
    let quiet : Quiet f core p (count core) = (omega arith, λ k l h. let e : k ≡ count core = omega arith in ap (λ (j : ℕ). matters_at f core p j) e ∙ ((kept.slots p).kept bytes has).0) in
    let all = all_stay f laws core steps may kept p (count core) bytes leave has quiet in
    let within : n ≤ count later = omega (arith, log.taken, later_kept.counts.taken_appended) in
    (always_recovers f laws later later_kept low c n redone left log is_redone).leaves p (all.1.1 n after within)
    ∙ kept_bytes f later later_kept low left p bytes all.0

-- No step writes over a block that isn't written in place.
pub still_leaves : (f : Face) (core : Core) (s : Step) (p i : ℕ) → owner_at f core p (count core) ≡ Some (Still i) → IsAllowed f core s →
    ((tx : List Edit) (t : Pages) → s ≡ Append tx t → matters f t p ≡ false) → Leaves f p s
still_leaves f core s p i own may stays = at s may stays
  where
    clash : (q : ℕ) → MayWrite (owner_at f core q) core.told (count core) → p ≡ q → ⊥
    clash q (inl there) e =
        let x : Some (Data there.0) ≡ Some (Still i) = sym there.1 ∙ ap (λ (r : ℕ). owner_at f core r (count core)) (sym e) ∙ own in
        let y : Data there.0 ≡ Still i = cc in
        cc
    clash q (inr free) e =
        let x : None ≡ Some (Still i) = sym free.0 ∙ ap (λ (r : ℕ). owner_at f core r (count core)) (sym e) ∙ own in
        cc

    at : (s : Step) → IsAllowed f core s → ((tx : List Edit) (t : Pages) → s ≡ Append tx t → matters f t p ≡ false) → Leaves f p s
    at (Write q bytes) may stays = clash q may.1
    at (WriteFails q bytes sectors) may stays = clash q may.2
    at (Append tx t) may stays = stays tx t refl
    at Take may stays = tt
    at GroupWrite may stays = tt
    at Told may stays = tt
    at (Home q) may stays = tt
    at (HomeFails q sectors) may stays = tt
    at LowSync may stays = tt
    at (SyncPoint c) may stays = tt
