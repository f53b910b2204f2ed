-- A root whose parent was set.
use Rattle.std.proofs.Common.{◌+◌, ◌*◌, ℕ, List, inl, inr, refl, ap, ◌∙◌, arith}
use Rattle.jfs_dtpage.specs.declared.head.DtForm.TheVariants.{Root}
use Rattle.jfs_dtpage.specs.Form.{count_of}
use Rattle.jfs_dtpage.specs.Slots.{slots_at, Kept}
use Rattle.jfs_dtpage.specs.Page.{table_of}
use Rattle.jfs_dtpage.proofs.Lists.{slots_same}
use Rattle.jfs_dtpage.proofs.Pages.{usable_range}
use Rattle.jfs_dtpage.proofs.Same.{Alike}

pub parent_alike : (old new : List ℕ) → Kept 20 4 old new → Alike Root old new
unfolding table_of
parent_alike old new kept =
    let count = kept 17 1 (inl (omega arith)) in
    record {
      flag = kept 16 1 (inl (omega arith));
      count = count;
      free = kept 18 1 (inl (omega arith));
      first = kept 19 1 (inl (omega arith));
      fits = tt;
      usable_is = λ k. refl;
      table = ap (λ (n : ℕ). slots_at new 24 n) count ∙ slots_same old new 24 (count_of old) (λ i l. kept (24 + i) 1 (inr (omega arith)));
      slots = λ k u from width w. let r = (usable_range Root old k u).0 in kept (32 * k + from) width (inr (omega (arith, r)));
    }
