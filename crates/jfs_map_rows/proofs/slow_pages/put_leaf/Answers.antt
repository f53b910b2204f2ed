use Rattle.std.proofs.Common.{ℕ, List, set, inl, inr, ◌<◌, length, arith}
use Rattle.std.specs.Prelude.{ℤ, negsuc}
use Rattle.std.proofs.lemmas.Bool.{cases_eq}
use Rattle.std.proofs.lemmas.List.{get_or-set_same, get_or-set_other}
use Rattle.jfs_dmapctl.specs.Control.{IsValue, value_at}
use Rattle.jfs_dmapctl.proofs.Values.{value-read}
use Rattle.jfs_map_rows.proofs.slow_pages.put_leaf.Goals as goal

put-values : (leaves : List ℤ) (k : ℕ) (value : ℤ) → k < length leaves → IsValue 0 value → ((v : ℕ) → IsValue 0 (value_at leaves v)) → (v : ℕ) → IsValue 0 (value_at (set leaves k value) v)
put-values leaves k value within fits values v = elim (cases_eq v k) [
  | inl e ↦ rw (e, get_or-set_same leaves k value (negsuc 0) within) fits
  | inr n ↦ rw (get_or-set_other leaves k v value (negsuc 0) n) (values v)
]

pub returns : goal.returns
returns c v =
    rw (value-read 0 c.args.value (omega arith) c.requires.value) (put-values c.args.leaves.now c.args.k c.args.value (omega (arith, c.told-leaves, c.requires.place)) c.requires.value c.requires.values v)
