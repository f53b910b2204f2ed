-- The text of a history.
use Rattle.std.specs.Prelude.{◌≤◌, ℕ, ◌+◌, ◌==◌, if◌then◌else◌, List, [], ◌∷◌, ◌++◌, codes}
use Rattle.std.specs.List.{list_any}
use Rattle.std.specs.Fmt.{decimal}
use Rattle.jfs_plain.specs.declared.call.Entry.{Entry}
use Rattle.jfs_script.specs.Text.{entry_text}

-- numbers that rise, from this one on
abbrev pub IsRisingFrom : ℕ → List ℕ → Type 0
IsRisingFrom least [] = Unit {0}
IsRisingFrom least (n ∷ ns) = (least ≤ n) × IsRisingFrom (n + 1) ns

-- a line for each entry, numbered from this one on; `told` has the numbers of those that were told durable
abbrev pub history_text : ℕ → List ℕ → List Entry → List ℕ
history_text number told [] = []
history_text number told (e ∷ es) = entry_text e number (list_any (λ n. n == number) told) ++ history_text (number + 1) told es

-- how many entries there are, and how many of them were told durable
abbrev pub done_text : ℕ → ℕ → List ℕ
done_text entries durable = codes "done " ++ decimal entries ++ codes " entries, " ++ decimal durable ++ codes " durable\n"

-- ---- for the prover: what follows a number in a list, where it stands first; else the list
abbrev pub after : List ℕ → ℕ → List ℕ
after [] number = []
after (n ∷ ns) number = if n == number then ns else n ∷ ns
