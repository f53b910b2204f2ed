-- Calls that write pages of the maps leave a volume partly redone at each moment.
use Rattle.std.proofs.Common.{◌≡◌, ◌<◌, ◌∷◌, ◌++◌, [], ℕ, List, length, sym, subst, ◌∙◌, arith}
use Rattle.std.specs.Prelude.{Option, Result, Ok, Err, OnOk, OnErr}
use Rattle.jfs_disk.specs.Image.{Image}
use Rattle.jfs_disk.specs.Crash.{DiskState, IsCrashImage, seen_of, last_of, written, settled, LeavesTorn}
use Rattle.jfs_redo.specs.Partly.{Writes, KeepsMixed, PutsPage, PutsFile}
use Rattle.jfs_redo.proofs.Mixing.{write_goes, fail_goes, sync_goes, same_goes}

pub keeps_none : (blocks : ℕ) (Puts : ℕ → List ℕ → Type 0) (past new : List DiskState) → new ≡ past → KeepsMixed blocks Puts past new
keeps_none blocks Puts past new same s txs old t sizes whole writes before = same_goes blocks (Writes s txs old) old whole (λ p low. sizes.sizes p (omega (arith, low, whole))) t past new before same

pub keeps_on : (blocks : ℕ) (Puts : ℕ → List ℕ → Type 0) (past mid new : List DiskState) → KeepsMixed blocks Puts past mid → KeepsMixed blocks Puts mid new → KeepsMixed blocks Puts past new
keeps_on blocks Puts past mid new first second s txs old t sizes whole writes before = second s txs old t sizes whole writes (first s txs old t sizes whole writes before)

pub keeps_more : (blocks : ℕ) (Few Puts : ℕ → List ℕ → Type 0) (past new : List DiskState) → ((p : ℕ) (page : List ℕ) → Few p page → Puts p page) → KeepsMixed blocks Few past new → KeepsMixed blocks Puts past new
keeps_more blocks Few Puts past new more keeps s txs old t sizes whole writes before = keeps s txs old t sizes whole (λ p page is. writes p page (more p page is)) before

pub keeps_write : (blocks p : ℕ) (page : List ℕ) (Puts : ℕ → List ℕ → Type 0) (past new : List DiskState) → p < blocks → length page ≡ 4096 → Puts p page → new ≡ past ++ written p page (last_of past) ∷ [] → KeepsMixed blocks Puts past new
keeps_write blocks p page Puts past new within size puts wrote s txs old t sizes whole writes before =
    write_goes blocks (Writes s txs old) old whole (λ q low. sizes.sizes q (omega (arith, low, whole))) t p page past new within size (writes p page puts) before wrote

pub keeps_fail : (blocks p : ℕ) (page : List ℕ) (Puts : ℕ → List ℕ → Type 0) (image : Image) (past new : List DiskState) → p < blocks → length page ≡ 4096 → Puts p page → image ≡ seen_of (last_of past) → IsCrashImage (last_of past) image → LeavesTorn p page past new → KeepsMixed blocks Puts past new
keeps_fail blocks p page Puts image past new within size puts now crash failed s txs old t sizes whole writes before =
    fail_goes blocks (Writes s txs old) old whole (λ q low. sizes.sizes q (omega (arith, low, whole))) t p page past new within size (writes p page puts) before (subst (λ (i : Image). IsCrashImage (last_of past) i) now crash) failed

pub keeps_sync : (blocks : ℕ) (Puts : ℕ → List ℕ → Type 0) (image : Image) (past new : List DiskState) → image ≡ seen_of (last_of past) → IsCrashImage (last_of past) image → new ≡ past ++ settled (last_of past) ∷ [] → KeepsMixed blocks Puts past new
keeps_sync blocks Puts image past new now crash synced s txs old t sizes whole writes before =
    sync_goes blocks (Writes s txs old) old whole (λ q low. sizes.sizes q (omega (arith, low, whole))) t past new before (subst (λ (i : Image). IsCrashImage (last_of past) i) now crash) synced

-- one page of a file
pub puts_one : (n k : ℕ) (place : ℕ → Option ℕ) (Is : ℕ → List ℕ → Type 0) (o : Option ℕ) → k < n → o ≡ place k → (p : ℕ) (page : List ℕ) → PutsPage o (Is k) p page → PutsFile n place Is p page
puts_one n k place Is o low same p page (at, is) = (k, low, sym same ∙ at, is)

-- a call that was made or failed
pub either_way : {T E : Type 0} (r : Result T E) (A B C : Type 0) → OnOk r A → OnErr r B → (A → C) → (B → C) → C
either_way (Ok x) A B C a b f g = f a
either_way (Err e) A B C a b f g = g b
