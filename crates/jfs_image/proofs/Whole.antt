-- The whole tree of an image.
use Rattle.std.proofs.Common.{◌≡◌, ◌<◌, ◌≤◌, inl, inr, refl, sym, ap, ◌∙◌, subst, ℕ, ◌*◌, Bool, true, false, nat_lt, if◌then◌else◌, length, Option, Some, None, arith}
use Rattle.std.proofs.lemmas.Bool.{cases_lt}
use Rattle.std.proofs.lemmas.Bool.Decides.{nat_tests}
use Rattle.jfs_disk.specs.Image.{Image, page_of}
use Rattle.jfs_super.specs.Rules.{IsAccepted}
use Rattle.jfs_super.specs.declared.fields.Super.{Super}
use Rattle.jfs_plain.specs.declared.plain.PlainTree.{PlainTree}
use Rattle.jfs_reader.specs.objects.specs.Objects.{Object}
use Rattle.jfs_reader.specs.objects.specs.Image.{iags_on}
use Rattle.jfs_reader.specs.meaning.specs.Readers.{readers}
use Rattle.jfs_reader.specs.meaning.specs.Tree.{node_on, byte_on}
use Rattle.jfs_reader.specs.meaning.specs.Node.{node_in}
use Rattle.jfs_reader.specs.meaning.specs.Contents.{byte_in}
use Rattle.jfs_owners.specs.mount_rules.specs.Subject.{object, volume}
use Rattle.jfs_image.specs.Image.{subject_on}
use Rattle.jfs_image.specs.Opened.{IsOpened}
use Rattle.jfs_image.specs.Tree.{IsUpTo, IsTreeOf}
use Rattle.jfs_image.specs.View.{image_of}
use Rattle.jfs_image.specs.declared.opened.Opened.{Opened}
use Rattle.jfs_image.proofs.Grown.{none_past}
use Rattle.jfs_image.proofs.Mounted.{few_iags}

-- the number of inode allocation groups, as it was read
pub iags_are : (image : Image) (opened : Opened) → IsOpened image opened → opened.map.iags ≡ iags_on (subject_on image).readers (page_of image)
iags_are image opened is =
    sym is.ready.map_is.iags
    ∙ ap (λ (b : ℕ). iags_on (readers b) (page_of (image_of opened.view))) (sym is.ready.blocks_are)
    ∙ ap (λ (i : Image). iags_on (subject_on i).readers (page_of i)) is.image_is

pub few_are : (image : Image) (opened : Opened) → IsOpened image opened → opened.map.iags ≤ 65536
few_are image opened is = let e = iags_are image opened is in let few = few_iags (subject_on image) is.mount in omega (arith, e, few)

pub is_tree : (image : Image) (opened : Opened) (m : ℕ) (p : PlainTree) → IsOpened image opened → m ≡ 4096 * opened.map.iags → p.file_limit ≡ opened.limit → IsUpTo image m p → IsTreeOf image p
is_tree image opened m p is end limit upto = record {
  has = record {
    pages = is.super.pages;
    super = subst (λ (s : Super). IsAccepted s (length image)) is.super.is is.super.accepted;
    mount = is.mount;
    inodes = λ n o at. by_place n (λ l. upto.inodes n o l at) (λ none. absurd (nothing o (sym none ∙ at)));
    trees = λ n o at. by_place n (λ l. upto.trees n o l at) (λ none. absurd (nothing o (sym none ∙ at)));
  };
  same = record {
    nodes = λ n. upto.nodes n ∙ by_place n
        (λ l. (let t : nat_lt n m ≡ true = grind (arith, nat_tests) in ap (λ (b : Bool). if b then node_on (subject_on image).readers (volume (subject_on image)) n else None) t))
        (λ none. at_none (nat_lt n m) None (node_on (subject_on image).readers (volume (subject_on image)) n) (sym (ap (node_in (subject_on image).readers (page_of image)) none)));
    bytes = λ n i. upto.bytes n i ∙ by_place n
        (λ l. (let t : nat_lt n m ≡ true = grind (arith, nat_tests) in ap (λ (b : Bool). if b then byte_on (subject_on image).readers (volume (subject_on image)) n i else 0) t))
        (λ none. at_none (nat_lt n m) 0 (byte_on (subject_on image).readers (volume (subject_on image)) n i) (sym (ap (λ (o : Option Object). byte_in (subject_on image).readers (page_of image) o i) none)));
  };
  limit = limit ∙ is.limit_is;
}
  where
    nothing : (o : Object) → (let none : Option Object = None in none ≡ Some o) → ⊥
    nothing o e = cc

    at_none : {X : Type 0} (b : Bool) (none x : X) → none ≡ x → (if b then x else none) ≡ x
    at_none true none x e = refl
    at_none false none x e = e

    by_place : {X : Type 0} (n : ℕ) → (n < m → X) → (object (subject_on image) n ≡ None → X) → X
    by_place n below past = elim (cases_lt n m) [
      | inl l ↦ below l
      | inr l ↦ past (none_past image n m (end ∙ ap (λ (k : ℕ). 4096 * k) (iags_are image opened is)) l)
    ]
