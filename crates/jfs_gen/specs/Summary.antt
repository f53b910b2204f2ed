-- What a history made of the files of the generated scripts.
use Rattle.std.specs.Prelude.{ℕ, zero, suc, ◌+◌, ◌-◌, ◌^◌, min, max, Bool, true, false, ◌&&◌, ◌++◌, if◌then◌else◌, List, [], ◌∷◌, length, codes, Option, Some, None, unwrap_or}
use Rattle.std.specs.Fmt.{decimal}
use Rattle.jfs_name.specs.Directory.{is_same}
use Rattle.jfs_plain.specs.declared.call.Call.{Call}
use Rattle.jfs_plain.specs.declared.call.Call.TheVariants as kinds
use Rattle.jfs_plain.specs.declared.call.Entry.{Entry}
use Rattle.jfs_plain.specs.declared.reply.Reply.{Reply}
use Rattle.jfs_plain.specs.declared.reply.Reply.TheVariants.{Done, Refused}
use Rattle.jfs_gen.specs.declared.summary.Files.{Files}

-- ---- one file

-- the names gC and fN
abbrev pub home_name : ℕ → List ℕ
home_name client = codes "g" ++ decimal client

abbrev pub file_name : ℕ → List ℕ
file_name file = codes "f" ++ decimal file

abbrev pub is_at : List ℕ → List ℕ → List (List ℕ) → Bool
is_at home file [] = false
is_at home file (a ∷ []) = false
is_at home file (a ∷ b ∷ []) = is_same a home && is_same b file
is_at home file (a ∷ b ∷ c ∷ more) = false

-- What a call that was done leaves of a file of its path: no file, or one of this size. The other calls of a generated script leave it as it is.
abbrev pub left_by : List ℕ → List ℕ → Option ℕ → Call → Option ℕ
left_by home file size (kinds.Create path mode) = if is_at home file path then Some 0 else size
left_by home file size (kinds.Unlink path) = if is_at home file path then None else size
left_by home file size (kinds.Fill path offset count byte) = if is_at home file path then Some (max (unwrap_or size 0) (min (offset + count) (2 ^ 64 - 1))) else size
left_by home file size (kinds.Truncate path end) = if is_at home file path then Some end else size
left_by home file size _ = size

abbrev pub left_with : List ℕ → List ℕ → Option ℕ → Call → Reply → Option ℕ
left_with home file size call Done = left_by home file size call
left_with home file size call _ = size

-- and so one call after the other
abbrev pub left_after : List ℕ → List ℕ → Option ℕ → List Entry → Option ℕ
left_after home file size [] = size
left_after home file size (e ∷ es) = left_after home file (left_with home file size e.call e.reply) es

-- ---- all files

-- How many there are, and how many bytes they have together, both up to the last u64 value.
abbrev pub none : Files
none = record { files = 0; bytes = 0 }

abbrev pub with_file : Files → Option ℕ → Files
with_file all None = all
with_file all (Some size) = record { files = min (all.files + 1) (2 ^ 64 - 1); bytes = min (all.bytes + size) (2 ^ 64 - 1) }

-- so many files of a client, from this one on
abbrev pub files_from : List Entry → ℕ → ℕ → ℕ → Files → Files
files_from history client file zero all = all
files_from history client file (suc more) all = files_from history client (suc file) more (with_file all (left_after (home_name client) (file_name file) None history))

-- the sixteen files of each of so many clients, from this one on
abbrev pub clients_from : List Entry → ℕ → ℕ → Files → Files
clients_from history client zero all = all
clients_from history client (suc more) all = clients_from history (suc client) more (files_from history client 0 16 all)

-- ---- the summary

abbrev pub is_refused : Reply → Bool
is_refused (Refused why) = true
is_refused _ = false

abbrev pub refused_in : List Entry → ℕ
refused_in [] = 0
refused_in (e ∷ es) = (if is_refused e.reply then 1 else 0) + refused_in es

abbrev pub files_in : List Entry → ℕ → Files
files_in history clients = clients_from history 1 clients none

-- how many entries there are, how many of them were refused, and how many files stand, with how many bytes
abbrev pub summary_text : List Entry → ℕ → List ℕ
summary_text history clients =
    codes "gen " ++ decimal (length history) ++ codes " entries, " ++ decimal (refused_in history) ++ codes " refused, "
    ++ decimal (files_in history clients).files ++ codes " files, " ++ decimal (files_in history clients).bytes ++ codes " bytes\n"
