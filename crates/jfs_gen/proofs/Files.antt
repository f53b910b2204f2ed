-- The files of a client, and the clients, one after the other.
use Rattle.std.proofs.Common.{◌≡◌, ℕ, suc, ◌+◌, ◌-◌, ◌<◌, List, ap, ◌∙◌, sym, arith}
use Rattle.std.specs.Prelude.{None}
use Rattle.jfs_plain.specs.declared.call.Entry.{Entry}
use Rattle.jfs_gen.specs.declared.summary.Files.{Files}
use Rattle.jfs_gen.specs.Summary.{home_name, file_name, left_after, with_file, files_from, clients_from}

pub one_file : (history : List Entry) (client i n : ℕ) (all : Files) → i < n
    → files_from history client (i + 1) (n - (i + 1)) (with_file all (left_after (home_name client) (file_name i) None history)) ≡ files_from history client i (n - i) all
one_file history client i n all less =
    let left : n - i ≡ suc (n - (i + 1)) = omega (arith, less) in
    let next : i + 1 ≡ suc i = omega arith in
    ap (λ (k : ℕ). files_from history client k (n - (i + 1)) (with_file all (left_after (home_name client) (file_name i) None history))) next
    ∙ sym (ap (λ (k : ℕ). files_from history client i k all) left)

pub one_client : (history : List Entry) (i n : ℕ) (all : Files) → i < n
    → clients_from history (i + 1 + 1) (n - (i + 1)) (files_from history (i + 1) 0 16 all) ≡ clients_from history (i + 1) (n - i) all
one_client history i n all less =
    let left : n - i ≡ suc (n - (i + 1)) = omega (arith, less) in
    let next : i + 1 + 1 ≡ suc (i + 1) = omega arith in
    ap (λ (k : ℕ). clients_from history k (n - (i + 1)) (files_from history (i + 1) 0 16 all)) next
    ∙ sym (ap (λ (k : ℕ). clients_from history (i + 1) k all) left)
