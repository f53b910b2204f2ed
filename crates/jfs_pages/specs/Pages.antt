-- Pages that were read, by their numbers.
use Rattle.std.specs.Prelude.{ℕ, List, Option, option_map, Box}
use Rattle.std.specs.Global.{Global}
use Rattle.std.specs.Ordering.{nat_cmp}
use Rattle.std.specs.BTreeMap.{BTreeMap, get}
use Rattle.jfs_disk.specs.declared.page.Page.{Page}

-- the bytes of page n, where it was read
abbrev pub bytes_in : BTreeMap ℕ (Box Page Global) → ℕ → Option (List ℕ)
bytes_in pages n = option_map (λ (page : Box Page Global). page.value.0) (get nat_cmp pages n)
