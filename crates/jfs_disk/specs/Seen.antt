-- What a read gives, before and after a call.
use Rattle.std.proofs.Common.{◌≡◌, ℕ, List, [], ◌∷◌, ◌++◌, map, refl, sym, ap, ◌∙◌}
use Rattle.std.proofs.Math.ListN.{set, get_or-map}
use Rattle.std.proofs.lemmas.List.{map-set, set-get_or}
use Rattle.jfs_disk.specs.Image.{page_of}
use Rattle.jfs_disk.specs.Crash.{PageHistory, DiskState, history_of, no_page, seen_of, written, failed, settled, torn}

pub page_of-seen_of : (state : DiskState) (n : ℕ) → page_of (seen_of state) n ≡ (history_of state n).seen
page_of-seen_of state n = get_or-map (λ (page : PageHistory). page.seen) state n no_page

-- a write puts its bytes
pub seen_of-written : (n : ℕ) (bytes : List ℕ) (state : DiskState) → seen_of (written n bytes state) ≡ set (seen_of state) n bytes
unfolding written
seen_of-written n bytes state =
    map-set (λ (page : PageHistory). page.seen) state n
    (record { seen = bytes; stable = (history_of state n).stable; writes = (history_of state n).writes ++ bytes ∷ [] })

-- a failed write puts some front sectors of its bytes
pub seen_of-failed : (n : ℕ) (bytes : List ℕ) (sectors : ℕ) (state : DiskState) → seen_of (failed n bytes sectors state) ≡ set (seen_of state) n (torn sectors bytes (page_of (seen_of state) n))
unfolding failed
seen_of-failed n bytes sectors state =
    let left = torn sectors bytes (history_of state n).seen in
    map-set (λ (page : PageHistory). page.seen) state n
    (record { seen = left; stable = (history_of state n).stable; writes = (history_of state n).writes ++ left ∷ bytes ∷ [] })
    ∙ ap (λ (old : List ℕ). set (seen_of state) n (torn sectors bytes old)) (sym (page_of-seen_of state n))

-- a write that fails with no sector leaves the page as it was
pub seen_of-failed_whole : (n : ℕ) (bytes : List ℕ) (state : DiskState) → seen_of (failed n bytes 0 state) ≡ seen_of state
unfolding torn
seen_of-failed_whole n bytes state = seen_of-failed n bytes 0 state ∙ set-get_or (seen_of state) n []

-- a sync changes nothing that is read
pub seen_of-settled : (state : DiskState) → seen_of (settled state) ≡ seen_of state
unfolding settled
seen_of-settled state = same state
  where
    same : (state : DiskState) → map (λ (page : PageHistory). page.seen) (map (λ (page : PageHistory). let rested : PageHistory = record { seen = page.seen; stable = page.seen; writes = [] } in rested) state) ≡ map (λ (page : PageHistory). page.seen) state
    same [] = refl
    same (page ∷ state) = ap (λ (rest : List (List ℕ)). page.seen ∷ rest) (same state)
