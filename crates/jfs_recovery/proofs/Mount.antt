-- The core of a volume that was just mounted is sound.
use Rattle.std.proofs.Common.{◌≡◌, ◌<◌, ◌≤◌, ◌⊎◌, ◌*◌, ◌+◌, ℕ, zero, suc, Bool, true, false, if◌then◌else◌, List, [], ◌∷◌, length, get_or, Option, Some, None, refl, sym, ap, ◌∙◌, inl, inr, arith}
use Rattle.std.proofs.lemmas.Bool.{cases_Bool}
use Rattle.jfs_disk.specs.Crash.{content_of, resting}
use Rattle.jfs_core.specs.Sound.{SameCell, IsBetween}
use Rattle.jfs_kinds.specs.Owner.{Owner}
use Rattle.jfs_recovery.specs.Face.{Face, IsFace, Pages, matters, item}
use Rattle.jfs_recovery.specs.Core.{matters_at, owner_at, image as image_of}
use Rattle.jfs_recovery.specs.Sound.{Cares, IsSound, SlotOk}
use Rattle.jfs_recovery.specs.Mount.{fresh, IsMounted}
use Rattle.jfs_recovery.proofs.Images.{size_closed}

same_owner : (o : Option Owner) (a b : Owner) → o ≡ Some a → o ≡ Some b → a ≡ b
same_owner o a b x y = let e : Some a ≡ Some b = sym x ∙ y in cc

kept_at : (b : Bool) (a bytes : List ℕ) → (if b then None else Some a) ≡ Some bytes → (b ≡ false) × (a ≡ bytes)
kept_at true a bytes e = absurd (cc)
kept_at false a bytes e = (refl, cc)

fresh_slot : (f : Face) → (low image : Pages) → IsMounted f low image → (p : ℕ) →
    SlotOk (matters_at f (fresh f low image) p) (Cares f p) (λ k. image_of (fresh f low image) k p) 0 0 ((fresh f low image).slots p)
fresh_slot f low image mounted p = record {
  ok = record {
    seen_size = mounted.sizes p;
    sizes = λ j l. only (λ (a : List ℕ). length a ≡ 4096) (mounted.sizes p) j l;
    readable = (0, omega arith, refl);
    shown = λ m h trees past. between m h;
    pending = λ m h trees past_dirty past_unsynced j l. only (IsBetween (Cares f p) (λ k. image_of (fresh f low image) k p) m 0) (between m h) j l;
    later = λ k l h. absurd (omega arith);
    in_order = tt;
    dirty_within = tt;
    unsynced_within = tt;
  };
  steady = λ k l h. absurd (omega arith);
  worth = λ span e h. absurd (cc);
  written = λ h e. absurd (cc);
  kept = λ bytes e. let x = kept_at (matters f image p) (low p) bytes e in (x.0, λ j l. only (λ (a : List ℕ). a ≡ bytes) x.1 j l);
}
  where
    only : (P : List ℕ → Type 0) → P (low p) → (j : ℕ) → j ≤ 0 → P (content_of (resting (low p)) j)
    only P h zero l = h
    only P h (suc j) l = absurd (omega arith)

    cell_is : (cell : ℕ) → cell < 256 → Cares f p cell → (f.is_map p ≡ true) ⊎ (f.is_map p ≡ false) → SameCell (low p) (image p) cell
    cell_is cell w c (inl e) = mounted.cells p cell w e c
    cell_is cell w c (inr e) = λ i l. ap (λ (a : List ℕ). get_or a (16 * cell + i) 0) (sym (mounted.start.pages p e))

    between : (m : ℕ) → m ≤ 0 → IsBetween (Cares f p) (λ k. image_of (fresh f low image) k p) m 0 (low p)
    between m h = record { each = λ cell w c. (0, omega arith, omega arith, cell_is cell w c (cases_Bool (f.is_map p))) }

pub fresh_kept : (f : Face) → IsFace f → (low image : Pages) → IsMounted f low image → ((p : ℕ) → f.is_map p ≡ true → f.IsMap image (item f image) p (image p)) → IsSound f (fresh f low image)
fresh_kept f laws low image mounted canonical = record {
  counts = record { told_durable = omega arith; durable_taken = omega arith; taken_appended = omega arith };
  points = record { mounted = omega arith; stable_taken = omega arith; taken_there = omega arith; acknowledged = λ j l. one j l };
  rising = λ j l. one j l;
  sizes = λ p. size_closed f laws low (item f low) image mounted.start mounted.sizes p;
  canonical = canonical;
  follows = λ k l. absurd (omega arith);
  logged = λ k p l page. absurd (omega arith);
  owners = λ p j k j1 j2 k1 k2 a b ea eb. owner p j k j2 k2 a b ea eb;
  slots = λ p. fresh_slot f low image mounted p;
  passed = λ p. (tt, tt);
}
  where
    one : (j : ℕ) → j < 1 → get_or (0 ∷ []) j 0 ≤ 0
    one zero l = omega arith
    one (suc j) l = absurd (omega arith)

    owner : (p j k : ℕ) → j ≤ 0 → k ≤ 0 → (a b : Owner) → owner_at f (fresh f low image) p j ≡ Some a → owner_at f (fresh f low image) p k ≡ Some b → a ≡ b
    owner p zero zero jl kl a b ea eb = same_owner (f.owner image p) a b ea eb
    owner p (suc j) k jl kl a b ea eb = absurd (omega arith)
    owner p zero (suc k) jl kl a b ea eb = absurd (omega arith)
