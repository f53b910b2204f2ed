-- What stands in a window is read.
use Rattle.std.proofs.Common.{◌≡◌, ◌≤◌, ◌+◌, ◌*◌, ℕ, List, [], ◌∷◌, ◌++◌, length, take, refl, ap, ◌∙◌}
use Rattle.jfs_logfmt.specs.declared.log_record.Record.{Record}
use Rattle.jfs_logpages.specs.Records.{size_of, log_text, BeginsAt, AreWhole, first_record_of, IsChain, stand_at}
use Rattle.jfs_records.specs.Entries.{Item, log_records}
use Rattle.jfs_records.specs.Committed.{committed, entries_of}
use Rattle.jfs_records.specs.Laws.{FindsEntries, FrontsAreRead}
use Rattle.jfs_records.proofs.ReadBack.{front_back}
use Rattle.jfs_records.proofs.Chain.{IsAnew, chain_log, chain_front, whole_log, whole_front, log_anew}
use Rattle.jfs_logpages.proofs.WrittenRecords.{records_stand, reads}

found : (ring first blocks : ℕ) (front : List ℕ) (is : List Item) (rs : List Record) → AreWhole blocks rs → IsChain ring (4080 * first + length front) rs → IsAnew (first_record_of rs) → BeginsAt ring (4080 * first + length front) rs
    → (n : ℕ) × (n ≤ length (entries_of is)) × (committed rs ≡ take n (entries_of is)) → FindsEntries ring first blocks (front ++ log_text rs) is
found ring first blocks front is [] gs c anew begins n = absurd begins
found ring first blocks front is (r ∷ rs) gs c anew begins n = record {
  m = record { start = length front; end = length front + size_of r; is = r };
  ms = stand_at (length front + size_of r) rs;
  found = reads ring first blocks (length front) (4080 * first + length front) front r rs gs refl refl c anew begins;
  number = n.0;
  most = n.1;
  are = ap committed (records_stand (length front) (r ∷ rs)) ∙ n.2;
}

pub fronts_are_read : FrontsAreRead
fronts_are_read ring first blocks k front is some most size fits begins =
    let at = 4080 * first + length front in
    let all = log_records ring at is in
    found ring first blocks front is (take k all) (whole_front blocks all k (whole_log ring blocks at some most size is fits)) (chain_front ring at all k (chain_log ring at is)) (log_anew ring at is k) begins (front_back ring at is k)
