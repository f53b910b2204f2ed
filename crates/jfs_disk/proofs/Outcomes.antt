-- What a read gives after a device call.
use Rattle.std.proofs.Common.{◌≡◌, ◌-◌, ℕ, List, [], ◌∷◌, ◌++◌, length, sym, ap, ◌∙◌, ◌⊎◌, inl, inr, arith}
use Rattle.std.proofs.Math.ListN.{set}
use Rattle.std.proofs.lemmas.List.{get_or_push, length-append, set-get_or}
use Rattle.jfs_disk.specs.Image.{Image}
use Rattle.jfs_disk.specs.Crash.{DiskState, seen_of, last_of, written, failed, settled, torn, TearsPage}
use Rattle.jfs_disk.specs.Seen.{seen_of-written, seen_of-settled, seen_of-failed_whole}

pub last_of-push : (past : List DiskState) (state : DiskState) → last_of (past ++ state ∷ []) ≡ state
last_of-push past state = get_or_push past state [] (length (past ++ state ∷ []) - 1) (omega (arith, length-append past (state ∷ [])))

pub image-written : (old new : List DiskState) (n : ℕ) (bytes : List ℕ) → new ≡ old ++ written n bytes (last_of old) ∷ [] → seen_of (last_of new) ≡ set (seen_of (last_of old)) n bytes
image-written old new n bytes e =
    ap (λ (past : List DiskState). seen_of (last_of past)) e ∙ ap seen_of (last_of-push old (written n bytes (last_of old))) ∙ seen_of-written n bytes (last_of old)

pub image-settled : (old new : List DiskState) → new ≡ old ++ settled (last_of old) ∷ [] → seen_of (last_of new) ≡ seen_of (last_of old)
image-settled old new e =
    ap (λ (past : List DiskState). seen_of (last_of past)) e ∙ ap seen_of (last_of-push old (settled (last_of old))) ∙ seen_of-settled (last_of old)

-- a write of no sector
pub tears_nothing : (n : ℕ) (bytes : List ℕ) (old new : Image) → new ≡ old → TearsPage n bytes old new
unfolding torn
tears_nothing n bytes old new e = (0, omega arith, e ∙ sym (set-get_or old n []))

-- a write that fails for want of memory, or as one of the fails says, leaves the page as it was
pub image-failed : (old new : List DiskState) (n : ℕ) (bytes : List ℕ) → (new ≡ old) ⊎ (new ≡ old ++ failed n bytes 0 (last_of old) ∷ []) → seen_of (last_of new) ≡ seen_of (last_of old)
image-failed old new n bytes (inl same) = ap (λ (past : List DiskState). seen_of (last_of past)) same
image-failed old new n bytes (inr e) =
    ap (λ (past : List DiskState). seen_of (last_of past)) e ∙ ap seen_of (last_of-push old (failed n bytes 0 (last_of old))) ∙ seen_of-failed_whole n bytes (last_of old)
