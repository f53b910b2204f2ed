-- A page that is written and synced.
use Rattle.std.proofs.Common.{◌≡◌, ℕ, List, [], ◌∷◌, ◌++◌, ap, ◌∙◌}
use Rattle.std.proofs.lemmas.List.{append_assoc}
use Rattle.jfs_disk.specs.Crash.{DiskState, last_of, written, settled}
use Rattle.jfs_disk.proofs.Outcomes.{last_of-push}

pub written_and_synced : (n : ℕ) (bytes : List ℕ) (old read mid new : List DiskState) → read ≡ old → mid ≡ read ++ written n bytes (last_of read) ∷ [] → new ≡ mid ++ settled (last_of mid) ∷ []
    → new ≡ old ++ (written n bytes (last_of old) ∷ settled (written n bytes (last_of old)) ∷ [])
written_and_synced n bytes old read mid new same wrote synced =
    let after : DiskState = written n bytes (last_of old) in
    let is : mid ≡ old ++ after ∷ [] = wrote ∙ ap (λ (past : List DiskState). past ++ written n bytes (last_of past) ∷ []) same in
    let last : last_of mid ≡ after = ap last_of is ∙ last_of-push old after in
    synced ∙ ap (λ (state : DiskState). mid ++ settled state ∷ []) last ∙ ap (λ (past : List DiskState). past ++ settled after ∷ []) is ∙ append_assoc old (after ∷ []) (settled after ∷ [])
