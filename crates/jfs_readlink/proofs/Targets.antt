-- The target of a link is that of its node.
use Rattle.std.proofs.lemmas.Bool.Decides.{nat_tests}
use Rattle.std.proofs.Common.{◌≡◌, ◌≤◌, refl, sym, ap, ◌∙◌, subst, inl, inr, ℕ, ◌/◌, ◌%◌, not, ◌==◌, eqb-true, Bool, true, false, nat_lt, if◌then◌else◌, List, [], Option, Some, Result, Ok, Err, map, arith}
use Rattle.jfs_bits.specs.Field.{range_of}
use Rattle.jfs_bits.specs.declared.extent.Xad.{Xad}
use Rattle.jfs_bits.specs.declared.rule.Rule.{Rule}
use Rattle.jfs_inode.specs.Rules.{type_of}
use Rattle.jfs_inode.specs.declared.fields.Dinode.{Dinode}
use Rattle.jfs_imap.specs.Inodes.{Inodes}
use Rattle.jfs_way.specs.bmap.specs.States.{Blocks}
use Rattle.jfs_xtree.specs.Node.{xt_scale}
use Rattle.jfs_xtree.specs.declared.error.XtError.{XtError}
use Rattle.jfs_xtree.specs.declared.error.XtError.TheVariants as tree
use Rattle.jfs_ranges.specs.declared.view.ViewError.{ViewError}
use Rattle.jfs_ranges.specs.declared.view.ViewError.TheVariants.{Read, Memory}
use Rattle.jfs_plain.specs.Tree.{Tree, Found, walk, found, and_then, root, is_link}
use Rattle.jfs_plain.specs.Step.{Outcome, readlink, refuse, bytes_from}
use Rattle.jfs_plain.specs.declared.node.Node.{Node}
use Rattle.jfs_plain.specs.declared.refusal.Refusal.{Refusal}
use Rattle.jfs_plain.specs.declared.refusal.Refusal.TheVariants.{NotFile}
use Rattle.jfs_plain.specs.declared.reply.Reply.{Reply}
use Rattle.jfs_plain.specs.declared.reply.Reply.TheVariants.{Target}
use Rattle.jfs_plain.specs.declared.reply.NodeKind.TheVariants.{Dir, File, Link, Other}
use Rattle.jfs_way.specs.objects.specs.Image.{extent_place}
use Rattle.jfs_way.specs.objects.specs.Objects.{Object, IsWhole, spelled, extents_of, listed}
use Rattle.jfs_way.specs.objects.specs.Contents.{block_of, bytes_at}
use Rattle.jfs_way.specs.objects.specs.Owners.{entries}
use Rattle.jfs_way.specs.objects.specs.Volume.{Volume, home, slot_of}
use Rattle.jfs_way.specs.meaning.specs.Readers.{readers}
use Rattle.jfs_way.specs.meaning.specs.Contents.{byte_of, stored}
use Rattle.jfs_way.specs.meaning.specs.Node.{kind_of, is_symbolic, target_in}
use Rattle.jfs_way.specs.meaning.specs.Consistent.{IsConsistent}
use Rattle.jfs_way.specs.reader.specs.Reading.{ExtentsAre}
use Rattle.jfs_way.specs.reader.specs.declared.error.ReadError.{ReadError}
use Rattle.jfs_way.specs.reader.specs.declared.error.ReadError.TheVariants as read
use Rattle.jfs_way.specs.Answer.{Answers, Follows, is_open, view_refusal}
use Rattle.jfs_way.specs.Volume.{volume_of}
use Rattle.jfs_way.specs.Walk.{IsHeld, IsShown, IsThere, IsOf, tree_in}
use Rattle.jfs_way.specs.declared.object.Held.{Held}
use Rattle.jfs_way.proofs.Places.{home_is}
use Rattle.jfs_way.proofs.Nodes.{node_is, inode_is, whole}
use Rattle.jfs_readlink.specs.Target.{byte_at, if_spelled, target_from, extents_refusal, read_refusal, SomeOutside, IsTarget}
use Rattle.jfs_readlink.proofs.Within.{none_past, extents_within}

-- ---- on any volume

pub not_short : (n : ℕ) → 256 ≤ n → nat_lt n 256 ≡ false
not_short n l = grind (arith, nat_tests)

view_open : (e : ViewError) → is_open (view_refusal e) ≡ true
view_open (Read fault) = refl
view_open Memory = refl

module _ (blocks : ℕ) (pages : ℕ → List ℕ) (at : Held) where
  abbrev holds : List Xad → List ℕ
  holds extents = bytes_from (byte_at pages extents) 0 at.inode.size

  abbrev given : Result (List Xad) (ℕ × Rule)
  given = listed xt_scale (extents_of (readers blocks) pages at.inode)

  abbrev by_kind : Bool → Bool → Result (List ℕ) Refusal
  by_kind link short = if link then (if short then Ok (range_of at.inode.rest 128 at.inode.size) else if_spelled at.page holds given) else Err NotFile

  target_is : (link short : Bool) → is_symbolic at.inode ≡ link → nat_lt at.inode.size 256 ≡ short → target_from blocks pages at ≡ by_kind link short
  target_is link short e f = ap (λ (l : Bool). by_kind l (nat_lt at.inode.size 256)) e ∙ ap (by_kind link) f

  pub no_link : is_symbolic at.inode ≡ false → target_from blocks pages at ≡ Err NotFile
  no_link e = target_is false (nat_lt at.inode.size 256) e refl

  pub short_link : is_symbolic at.inode ≡ true → nat_lt at.inode.size 256 ≡ true → target_from blocks pages at ≡ Ok (range_of at.inode.rest 128 at.inode.size)
  short_link e f = target_is true true e f

  module _ (e : is_symbolic at.inode ≡ true) (f : nat_lt at.inode.size 256 ≡ false) where
    pub long_link : (es : List Xad) → given ≡ Ok es → target_from blocks pages at ≡ Ok (holds es)
    long_link es g = target_is true false e f ∙ ap (if_spelled at.page holds) g

    pub tree_fails : (why : XtError) → ExtentsAre given (Err why) → Answers {X = List ℕ} (target_from blocks pages at) (Err (extents_refusal at.page why))
    tree_fails (tree.View v) g = inr (view_open v)
    tree_fails (tree.Bad bad rule) g = inl (target_is true false e f ∙ ap (if_spelled at.page holds) g)

    pub read_fails : (es : List Xad) → given ≡ Ok es → (why : ReadError) → SomeOutside blocks es why → Answers {X = List ℕ} (target_from blocks pages at) (Err (read_refusal at.page why))
    read_fails es g (read.View v) past = inr (view_open v)
    read_fails es g read.Outside past = absurd (none_past blocks es (extents_within blocks pages at.inode es g) past.0 past.1)

-- at the end of a path
pub at_end : (blocks : ℕ) (pages : ℕ → List ℕ) (way : Result Held Refusal) (at : Held) → way ≡ Ok at → (r : Result (List ℕ) Refusal) → Answers (target_from blocks pages at) r → Answers (and_then way (target_from blocks pages)) r
at_end blocks pages way at e r h = subst (λ (x : Result Held Refusal). Answers (and_then x (target_from blocks pages)) r) (sym e) h

-- ---- on a consistent volume

is_link_is : (type : ℕ) → is_link (kind_of type) ≡ (type == 0xa000)
is_link_is type = by (type == 0xa000) refl
  where
    not_link : (a b : Bool) → is_link (if a then Dir else (if b then File else Other)) ≡ false
    not_link true b = refl
    not_link false true = refl
    not_link false false = refl

    by : (x : Bool) → (type == 0xa000) ≡ x → is_link (kind_of type) ≡ x
    by true e = let t = eqb-true type 0xa000 e in rw t refl
    by false e = ap (λ (x : Bool). is_link (if type == 0x4000 then Dir else (if type == 0x8000 then File else (if x then Link else Other)))) e ∙ not_link (type == 0x4000) (type == 0x8000)

module _ (blocks : ℕ) (pages : ℕ → List ℕ) (inodes : Inodes) (area : ℕ → ℕ) (bm : Blocks) (con : IsConsistent (readers blocks) (volume_of pages area bm inodes)) (at : Held) (held : IsHeld blocks inodes at) (shown : IsShown pages at) where
  abbrev v : Volume
  v = volume_of pages area bm inodes

  abbrev t : Tree
  t = tree_in blocks pages area bm inodes

  abbrev d : Dinode
  d = slot_of (pages at.page) (at.number % 8)

  abbrev o : Object
  o = spelled (readers blocks) pages d

  stood : home (map extent_place inodes.extents) at.number ≡ Some at.page
  stood = home_is inodes at.number ∙ held.home

  same_inode : o.inode ≡ at.inode
  same_inode = inode_is blocks v con d ∙ sym shown

  its_extents : o.extents ≡ extents_of (readers blocks) pages at.inode
  unfolding spelled
  its_extents = ap (extents_of (readers blocks) pages) (sym shown)

  abbrev told : ℕ → Node → Outcome
  told n node = refuse (not (is_link node.kind)) NotFile (Ok (Target node.target, t))

  abbrev goes : Found → Outcome
  goes o = told o.inode o.node

  abbrev target : List ℕ
  target = target_in (readers blocks) pages o

  module _ (path : List (List ℕ)) (f : Follows {X = ℕ} {Y = Held} (IsOf t) (walk t root path) (Ok at)) where
    there : IsThere t at.number
    there = subst (IsThere t) f.2.0 f.2.1

    w : IsWhole (readers blocks) o
    w = whole blocks v con at.number at.page stood there

    steps : (x : Bool) → is_symbolic at.inode ≡ x → readlink t path ≡ (if not x then Err NotFile else Ok (Target target, t))
    steps x e = ap (λ (y : Result ℕ Refusal). and_then (and_then y (λ n. found n (t.nodes n))) goes) (f.1 ∙ ap (λ (n : ℕ). Ok n) f.2.0)
        ∙ ap (λ (y : Option Node). and_then (found at.number y) goes) (node_is blocks v con at.number at.page stood there)
        ∙ ap (λ (b : Bool). if not b then Err NotFile else Ok (Target target, t)) (is_link_is (type_of o.inode) ∙ ap is_symbolic same_inode ∙ e)

    spelled_is : given blocks pages at ≡ Ok w.extents
    spelled_is = ap (listed xt_scale) (sym its_extents) ∙ w.extents_are

    stored_is : (i : ℕ) → byte_at pages w.extents i ≡ stored (readers blocks) pages (Some o) i
    stored_is i = ap (λ (es : List Xad). byte_of (bytes_at pages (block_of es (i / 4096))) (i % 4096)) (ap entries (sym w.extents_are))

    abbrev target_by : Dinode → Bool → Bool → List ℕ
    target_by d link short = if link then (if short then range_of d.rest 128 d.size else bytes_from (stored (readers blocks) pages (Some o)) 0 d.size) else []

    its_target : (short : Bool) → is_symbolic at.inode ≡ true → nat_lt at.inode.size 256 ≡ short → target_by at.inode true short ≡ target
    its_target short e g = sym (ap (λ (d : Dinode). target_by d (is_symbolic d) (nat_lt d.size 256)) same_inode ∙ ap (λ (l : Bool). target_by at.inode l (nat_lt at.inode.size 256)) e ∙ ap (target_by at.inode true) g)

    target_given : (short : Bool) → is_symbolic at.inode ≡ true → nat_lt at.inode.size 256 ≡ short → target_from blocks pages at ≡ Ok target
    target_given true e g = short_link blocks pages at e g ∙ ap (λ (x : List ℕ). Ok x) (its_target true e g)
    target_given false e g = long_link blocks pages at e g w.extents spelled_is
        ∙ ap (λ (f : ℕ → ℕ). Ok (bytes_from f 0 at.inode.size)) (λ i x. stored_is x i) ∙ ap (λ (x : List ℕ). Ok x) (its_target false e g)

    pub target_follows : (r : Result (List ℕ) Refusal) → Answers (target_from blocks pages at) r → Follows {X = Reply × Tree} {Y = List ℕ} (IsTarget t) (readlink t path) r
    target_follows r h = by (is_symbolic at.inode) refl r h
      where
        same : (given : Result (List ℕ) Refusal) {x y : List ℕ} → given ≡ Ok x → given ≡ Ok y → x ≡ y
        same given h k = cc (h, k)

        refused : (given : Result (List ℕ) Refusal) {x y : Refusal} → given ≡ Err x → given ≡ Err y → x ≡ y
        refused given h k = cc (h, k)

        by : (x : Bool) → is_symbolic at.inode ≡ x → (r : Result (List ℕ) Refusal) → Answers (target_from blocks pages at) r → Follows {X = Reply × Tree} {Y = List ℕ} (IsTarget t) (readlink t path) r
        by true e (Ok told) h = ((Target target, t), steps true e, ap (λ (bs : List ℕ). (Target bs, t)) (same (target_from blocks pages at) (target_given (nat_lt at.inode.size 256) e refl) h))
        by true e (Err why) (inl h) = absurd (cc (target_given (nat_lt at.inode.size 256) e refl, h))
        by true e (Err why) (inr h) = inr h
        by false e (Ok told) h = absurd (cc (no_link blocks pages at e, h))
        by false e (Err why) (inl h) = inl (steps false e ∙ ap (λ (r : Refusal). Err r) (refused (target_from blocks pages at) (no_link blocks pages at e) h))
        by false e (Err why) (inr h) = inr h
