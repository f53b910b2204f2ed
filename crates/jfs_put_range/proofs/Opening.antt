-- A root that breaks no rule, as it is opened.
use Rattle.std.proofs.Common.{◌≡◌, ◌≤◌, ◌<◌, sym, ap, ◌∙◌, subst, ◌+◌, ℕ, Bool, true, false, List, length, map, arith}
use Rattle.std.specs.Prelude.{nat_le}
use Rattle.std.specs.List.{All}
use Rattle.std.proofs.lemmas.Bool.{leb-true}
use Rattle.jfs_bits.specs.declared.extent.Xad.{Xad}
use Rattle.jfs_bits.specs.Extent.{FitsXad}
use Rattle.jfs_tree.specs.Walk.{Child, Leaf, Inner}
use Rattle.jfs_xtpage.specs.declared.head.XtForm.{XtForm}
use Rattle.jfs_xtpage.specs.declared.head.XtForm.TheVariants.{Root, Full, Small}
use Rattle.jfs_xtpage.specs.Page.{bytes_of, head_of, entries_of, count_of, slots_of, rises_from, IsLaidOut}
use Rattle.jfs_xtpage.proofs.Entries.{length-entries}
use Rattle.jfs_xtree.specs.Node.{xt_node, all_within, child_of, IsSound, IsRoot}
use Rattle.jfs_xtree.proofs.Pages.{slots}
use Rattle.jfs_xtree.proofs.Reading.{and_true, leaf_is, inner_is}
use Rattle.jfs_refill.proofs.Listed.{laid_out}
use Rattle.jfs_put_range.specs.Tops.{IsOfKind, IsOpenedRoot}

root_slots : (form : XtForm) → IsRoot form → slots_of form ≤ 18
root_slots Root r = omega arith
root_slots Full r = absurd r
root_slots Small r = omega arith

-- the slots of a root that breaks no rule lie within its bytes
pub root_laid : (form : XtForm) (blocks : ℕ) (root : List ℕ) → IsRoot form → length root ≡ bytes_of form → IsSound form blocks (head_of root) (entries_of root)
    → IsLaidOut root × (3 ≤ (head_of root).maxentry) × (length (entries_of root) ≤ 16) × ((head_of root).nextindex ≡ length (entries_of root) + 2)
root_laid form blocks root is size sound =
    let m = slots form (head_of root).maxentry sound.max in
    let c = and_true (nat_le 2 (head_of root).nextindex) (nat_le (head_of root).nextindex (head_of root).maxentry) sound.count in
    let n = leb-true (head_of root).nextindex (head_of root).maxentry c.1 in
    let least = m.0 in
    let most = m.1 in
    let few = root_slots form is in
    let count = length-entries root 0 (count_of root) in
    (laid_out form blocks root size sound, omega (arith, least), omega (arith, count, n, most, few), (let two = leb-true 2 (head_of root).nextindex c.0 in omega (arith, count, two)))

pub opened_leaf : (form : XtForm) (blocks : ℕ) (root : List ℕ) (es entries : List Xad) → IsRoot form → length root ≡ bytes_of form → xt_node form blocks root ≡ Leaf es → entries ≡ entries_of root → All FitsXad entries
    → IsOpenedRoot form blocks root entries true
opened_leaf form blocks root es entries is size node read fits =
    let t = leaf_is form blocks root es node in
    let l = root_laid form blocks root is size t.0 in
    record {
      laid = l.0;
      slots = l.1;
      few = subst (λ xs. length xs ≤ 16) (sym read) l.2;
      count = subst (λ xs. (head_of root).nextindex ≡ length xs + 2) (sym read) l.3;
      some = λ e. cc;
      fits = fits;
      order = ap (rises_from 0) read ∙ t.0.order;
      range = ap (all_within blocks) read ∙ t.0.range;
      node = node ∙ ap (λ xs. Leaf xs) (sym t.2 ∙ sym read);
    }

pub opened_inner : (form : XtForm) (blocks : ℕ) (root : List ℕ) (cs : List (Child ℕ)) (entries : List Xad) → IsRoot form → length root ≡ bytes_of form → xt_node form blocks root ≡ Inner cs → entries ≡ entries_of root → All FitsXad entries
    → IsOpenedRoot form blocks root entries false
opened_inner form blocks root cs entries is size node read fits =
    let t = inner_is form blocks root cs node in
    let l = root_laid form blocks root is size t.0 in
    record {
      laid = l.0;
      slots = l.1;
      few = subst (λ xs. length xs ≤ 16) (sym read) l.2;
      count = subst (λ xs. (head_of root).nextindex ≡ length xs + 2) (sym read) l.3;
      some = λ e. subst (λ xs. 0 < length xs) (sym read) t.3;
      fits = fits;
      order = ap (rises_from 0) read ∙ t.0.order;
      range = ap (all_within blocks) read ∙ t.0.range;
      node = node ∙ ap (λ ds. Inner ds) (sym t.2 ∙ ap (map child_of) (sym read));
    }

pub opened_kind : (form : XtForm) (blocks : ℕ) (root : List ℕ) (leaf : Bool) (entries : List Xad) → IsRoot form → length root ≡ bytes_of form → IsOfKind leaf (xt_node form blocks root) → entries ≡ entries_of root → All FitsXad entries
    → IsOpenedRoot form blocks root entries leaf
opened_kind form blocks root true entries is size kind read fits = opened_leaf form blocks root kind.0 entries is size kind.1 read fits
opened_kind form blocks root false entries is size kind read fits = opened_inner form blocks root kind.0 entries is size kind.1 read fits

pub laid_kind : (form : XtForm) (blocks : ℕ) (root : List ℕ) (leaf : Bool) → IsRoot form → length root ≡ bytes_of form → IsOfKind leaf (xt_node form blocks root) → IsLaidOut root
laid_kind form blocks root true is size kind = (root_laid form blocks root is size (leaf_is form blocks root kind.0 kind.1).0).0
laid_kind form blocks root false is size kind = (root_laid form blocks root is size (inner_is form blocks root kind.0 kind.1).0).0
