-- What the code of a page's call needs and has.
use Rattle.std.proofs.Common.{◌≡◌, ◌<◌, ap, ◌∙◌, subst, ℕ, suc, ◌+◌, Bool, true, false, List, [], ◌++◌, length, Option, arith}
use Rattle.jfs_bits.specs.declared.extent.Xad.{Xad}
use Rattle.jfs_disk.specs.Image.{Image}
use Rattle.jfs_tree.specs.Form.{IsFront}
use Rattle.jfs_tree.specs.Call.{StaysOff}
use Rattle.jfs_tree.specs.Draft.{shown}
use Rattle.jfs_tree.specs.declared.draft.Drafted.{Drafted}
use Rattle.jfs_tree.specs.declared.form.Sibling.{Sibling}
use Rattle.jfs_tree.specs.declared.form.TreeError.{TreeError}
use Rattle.jfs_xtree.specs.Node.{all_within}
use Rattle.jfs_xtree.specs.Writing.{AllLong}
use Rattle.jfs_written.specs.Range.{with_range}
use Rattle.jfs_written.proofs.Each.{good_long}
use Rattle.jfs_refill.specs.Stored.{Stored}
use Rattle.jfs_put_range.specs.Parts.{IsPart, IsOpened, Pushed, WrotePage, RefutesPage, RefutesChildren, WroteChildren}
use Rattle.jfs_put_range.proofs.LeafPages.{all_good}
use Rattle.jfs_put_range.proofs.InnerPages.{inner_wrote, inner_refuted}
use Rattle.jfs_put_range.proofs.Pushing.{fewer_taken}

pub opened_long : (blocks : ℕ) (bytes : List ℕ) (es : List Xad) (leaf : Bool) → IsOpened blocks bytes es leaf → AllLong es
opened_long blocks bytes es leaf o = good_long blocks es (all_good blocks es o.range o.fits)

pub part_long : (blocks : ℕ) (xs : List Xad) → IsPart blocks xs → AllLong xs
part_long blocks xs p = good_long blocks xs p.range.good

pub list_done : (slice list xs2 es2 xs es : List Xad) → slice ≡ list → list ≡ with_range xs2 es2 → xs2 ≡ xs → es2 ≡ es → slice ≡ with_range xs es
list_done slice list xs2 es2 xs es a b c d = a ∙ b ∙ ap (λ ys. with_range ys es2) c ∙ ap (with_range xs) d

module _ (end full : Bool) (tells : Type 0) (blocks blocks1 : ℕ) (xs : List Xad) (left right : Bool) (d0 : List Drafted) (image image1 : Image) (n : ℕ) (bytes : List ℕ) (es es1 : List Xad) (leaf : Bool) (free : List ℕ)
    (same : image1 ≡ image) (size : blocks1 ≡ blocks) (o : IsOpened blocks bytes es leaf) (inner : leaf ≡ false) (read : bytes ≡ shown d0 image n) (slice : es1 ≡ es) where
  pub inner_done : (d1 d2 : List Drafted) (levels total : ℕ) (l0 l1 list : List Xad) (between rest : List ℕ) (more : Option (Sibling ℕ)) → tells → 0 < length xs → l0 ≡ [] → list ≡ l1 → total ≡ levels + 1 → IsFront between free → IsFront rest between
      → (full ≡ true → end ≡ true) → Pushed tells end blocks1 xs left right true (shown d0 image1) (shown d1 image1) levels es1 l0 l1 free between → Stored list full bytes n d1 d2 between rest more → StaysOff n d1 d2 between rest
      → WrotePage end blocks xs left right (shown d0 image) (shown d2 image) total n more free rest
  inner_done d1 d2 levels total l0 l1 list between rest more t any none is count front back ends p stored keeps =
      let made : list ≡ p.made = is ∙ p.is ∙ ap (λ ys. ys ++ p.made) none in
      let w = subst (λ ys. WroteChildren end blocks xs left right true (shown d0 image) (shown d1 image) levels ys p.made free between) slice
      (subst (λ (i : Image). WroteChildren end blocks xs left right true (shown d0 i) (shown d1 i) levels es1 p.made free between) same
      (subst (λ b. WroteChildren end b xs left right true (shown d0 image1) (shown d1 image1) levels es1 p.made free between) size (p.wrote t))) in
      subst (λ l. WrotePage end blocks xs left right (shown d0 image) (shown d2 image) l n more free rest) (let e : suc levels ≡ total = omega (arith, count) in e)
      (inner_wrote end full blocks xs es p.made left right d0 d1 d2 image n levels bytes free between rest more any (subst (IsOpened blocks bytes es) inner o) read w
      ends p.some (subst (λ b. all_within b p.made ≡ true) size p.within) (λ m. fewer_taken m free between front) (λ m. fewer_taken m between rest back)
      (subst (λ ys. Stored ys full bytes n d1 d2 between rest more) made stored) keeps)

  pub inner_fails : (most less : ℕ) (e : TreeError) → most ≡ suc less → RefutesChildren blocks1 xs left right true (shown d0 image1) less es1 free e → RefutesPage blocks xs left right (shown d0 image) most n free e
  inner_fails most less e more r =
      inner_refuted blocks xs es left right d0 image n most less bytes free e more (subst (IsOpened blocks bytes es) inner o) read
      (subst (λ ys. RefutesChildren blocks xs left right true (shown d0 image) less ys free e) slice
      (subst (λ (i : Image). RefutesChildren blocks xs left right true (shown d0 i) less es1 free e) same
      (subst (λ b. RefutesChildren b xs left right true (shown d0 image1) less es1 free e) size r)))
