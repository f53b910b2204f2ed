-- A page that is read with its entries.
use Rattle.std.proofs.Common.{◌≡◌, ◌≤◌, ◌<◌, sym, subst, ℕ, Bool, true, false, List, length, arith}
use Rattle.std.specs.List.{All}
use Rattle.std.proofs.lemmas.Bool.{eqb-true, leb-true}
use Rattle.std.specs.Prelude.{nat_le}
use Rattle.jfs_bits.specs.declared.extent.Xad.{Xad}
use Rattle.jfs_bits.specs.Extent.{FitsXad}
use Rattle.jfs_bits.specs.Field.{field_of}
use Rattle.jfs_xtpage.specs.declared.head.XtForm.TheVariants.{Full}
use Rattle.jfs_xtpage.specs.Page.{head_of, entries_of, count_of, IsLaidOut}
use Rattle.jfs_xtpage.proofs.Entries.{length-entries}
use Rattle.jfs_xtree.specs.Node.{IsSound}
use Rattle.jfs_xtree.proofs.Reading.{and_true, leaf_is, inner_is, sound_leaf, sound_inner}
use Rattle.jfs_refill.proofs.Listed.{laid_out}
use Rattle.jfs_put_range.specs.Parts.{IsKind, IsOpened}

kind_sound : (blocks : ℕ) (bytes : List ℕ) (leaf : Bool) → IsKind blocks bytes leaf → IsSound Full blocks (head_of bytes) (entries_of bytes)
kind_sound blocks bytes true (es, is, some) = (leaf_is Full blocks bytes es is).0
kind_sound blocks bytes false (cs, is) = (inner_is Full blocks bytes cs is).0

kind_some : (blocks : ℕ) (bytes : List ℕ) (leaf : Bool) → IsKind blocks bytes leaf → 0 < length (entries_of bytes)
kind_some blocks bytes true (es, is, some) = subst (λ ys. 0 < length ys) (sym (leaf_is Full blocks bytes es is).2) some
kind_some blocks bytes false (cs, is) = (inner_is Full blocks bytes cs is).3

pub kind_laid : (blocks : ℕ) (bytes : List ℕ) (leaf : Bool) → IsKind blocks bytes leaf → length bytes ≡ 4096 → IsLaidOut bytes
kind_laid blocks bytes leaf kind size = laid_out Full blocks bytes size (kind_sound blocks bytes leaf kind)

few_entries : (blocks : ℕ) (bytes : List ℕ) → IsSound Full blocks (head_of bytes) (entries_of bytes) → length (entries_of bytes) ≤ 254
few_entries blocks bytes s =
    let n = length-entries bytes 0 (count_of bytes) in
    let m = eqb-true (head_of bytes).maxentry 256 s.max in
    let c = leb-true (field_of bytes 18 2) (field_of bytes 20 2) (and_true (nat_le 2 (field_of bytes 18 2)) (nat_le (field_of bytes 18 2) (field_of bytes 20 2)) s.count).1 in
    omega (arith, n, m, c)

opened : (blocks : ℕ) (bytes : List ℕ) (leaf : Bool) → IsKind blocks bytes leaf → length bytes ≡ 4096 → All FitsXad (entries_of bytes) → IsOpened blocks bytes (entries_of bytes) leaf
opened blocks bytes true kind size fits =
    let s = kind_sound blocks bytes true kind in
    record {
      laid = kind_laid blocks bytes true kind size;
      slots = eqb-true (head_of bytes).maxentry 256 s.max;
      some = kind_some blocks bytes true kind;
      few = few_entries blocks bytes s;
      fits = fits;
      order = s.order;
      range = s.range;
      node = sound_leaf Full blocks bytes s (leaf_is Full blocks bytes kind.0 kind.1).1;
    }
opened blocks bytes false kind size fits =
    let s = kind_sound blocks bytes false kind in
    record {
      laid = kind_laid blocks bytes false kind size;
      slots = eqb-true (head_of bytes).maxentry 256 s.max;
      some = kind_some blocks bytes false kind;
      few = few_entries blocks bytes s;
      fits = fits;
      order = s.order;
      range = s.range;
      node = sound_inner Full blocks bytes s (inner_is Full blocks bytes kind.0 kind.1).1 (kind_some blocks bytes false kind);
    }

pub kind_opened : (blocks : ℕ) (bytes : List ℕ) (entries : List Xad) (leaf : Bool) → IsKind blocks bytes leaf → length bytes ≡ 4096 → entries ≡ entries_of bytes → All FitsXad entries → IsOpened blocks bytes entries leaf
kind_opened blocks bytes entries leaf kind size is fits = subst (λ es. IsOpened blocks bytes es leaf) (sym is) (opened blocks bytes leaf kind size (subst (All FitsXad) is fits))
