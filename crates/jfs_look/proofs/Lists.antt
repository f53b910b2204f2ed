-- The names of a directory are those of its node.
use Rattle.std.proofs.Common.{◌≡◌, refl, sym, ap, ◌∙◌, subst, inl, inr, ℕ, ◌%◌, not, ◌==◌, Bool, true, false, if◌then◌else◌, List, Option, Some, Result, Ok, Err, map}
use Rattle.jfs_bits.specs.declared.rule.Rule.{Rule}
use Rattle.jfs_inode.specs.Rules.{type_of}
use Rattle.jfs_inode.specs.declared.fields.Dinode.{Dinode}
use Rattle.jfs_name.specs.declared.name.NameEntry.{NameEntry}
use Rattle.jfs_imap.specs.Inodes.{Inodes}
use Rattle.jfs_way.specs.bmap.specs.States.{Blocks}
use Rattle.jfs_tree.specs.Spells.{spells}
use Rattle.jfs_dtree.specs.Spells.{spells_names}
use Rattle.jfs_plain.specs.Tree.{Tree, Found, walk, found, and_then, root, is_dir}
use Rattle.jfs_plain.specs.Step.{Outcome, listed, refuse}
use Rattle.jfs_plain.specs.declared.node.Node.{Node}
use Rattle.jfs_plain.specs.declared.refusal.Refusal.{Refusal}
use Rattle.jfs_plain.specs.declared.refusal.Refusal.TheVariants.{NotDir}
use Rattle.jfs_plain.specs.declared.reply.Reply.{Reply}
use Rattle.jfs_plain.specs.declared.reply.Reply.TheVariants.{Names}
use Rattle.jfs_plain.specs.declared.reply.NodeKind.TheVariants.{Dir, File, Link, Other}
use Rattle.jfs_way.specs.objects.specs.Image.{extent_place}
use Rattle.jfs_way.specs.objects.specs.Objects.{Object, IsWhole, spelled, has_names, listed as listed_in}
use Rattle.jfs_way.specs.objects.specs.Volume.{Volume, home, slot_of}
use Rattle.jfs_way.specs.meaning.specs.Readers.{readers, root_of}
use Rattle.jfs_way.specs.meaning.specs.Consistent.{IsConsistent}
use Rattle.jfs_way.specs.Answer.{Answers, Follows}
use Rattle.jfs_way.specs.Volume.{volume_of}
use Rattle.jfs_way.specs.Walk.{IsHeld, IsShown, IsThere, IsOf, tree_in}
use Rattle.jfs_way.specs.declared.object.Held.{Held}
use Rattle.jfs_way.proofs.Places.{home_is}
use Rattle.jfs_way.proofs.Nodes.{node_is, inode_is, whole}
use Rattle.jfs_look.specs.Look.{names_from, if_spelled, IsNames}

-- ---- on any volume

module _ (blocks : ℕ) (pages : ℕ → List ℕ) (at : Held) where
  pub no_directory : has_names at.inode ≡ false → names_from blocks pages at ≡ Err NotDir
  no_directory e = ap (λ (b : Bool). if b then if_spelled at.page (spells_names blocks pages (root_of at.inode)) else Err NotDir) e

  module _ (bytes : List ℕ) (dir : has_names at.inode ≡ true) (is : bytes ≡ root_of at.inode) where
    in_names : (given : Result (List NameEntry) (ℕ × Rule)) → spells_names blocks pages bytes ≡ given → names_from blocks pages at ≡ if_spelled at.page given
    in_names given e = ap (λ (b : Bool). if b then if_spelled at.page (spells_names blocks pages (root_of at.inode)) else Err NotDir) dir
        ∙ ap (λ (x : List ℕ). if_spelled at.page (spells_names blocks pages x)) (sym is) ∙ ap (if_spelled at.page) e

    pub lists : (names : List NameEntry) → spells_names blocks pages bytes ≡ Ok names → names_from blocks pages at ≡ Ok names
    lists names e = in_names (Ok names) e

-- ---- on a consistent volume

is_dir_is : (a b c : Bool) → is_dir (if a then Dir else (if b then File else (if c then Link else Other))) ≡ a
is_dir_is true b c = refl
is_dir_is false true c = refl
is_dir_is false false true = refl
is_dir_is false false false = refl

module _ (blocks : ℕ) (pages : ℕ → List ℕ) (inodes : Inodes) (area : ℕ → ℕ) (bm : Blocks) (con : IsConsistent (readers blocks) (volume_of pages area bm inodes)) (at : Held) (held : IsHeld blocks inodes at) (shown : IsShown pages at) where
  abbrev v : Volume
  v = volume_of pages area bm inodes

  abbrev t : Tree
  t = tree_in blocks pages area bm inodes

  abbrev d : Dinode
  d = slot_of (pages at.page) (at.number % 8)

  abbrev o : Object
  o = spelled (readers blocks) pages d

  stood : home (map extent_place inodes.extents) at.number ≡ Some at.page
  stood = home_is inodes at.number ∙ held.home

  spelled_names : has_names d ≡ true → spells_names blocks pages (root_of d) ≡ listed_in (readers blocks).names_order o.names
  unfolding spells spelled
  spelled_names e = rw e refl

  abbrev told : ℕ → Node → Outcome
  told n node = refuse (not (is_dir node.kind)) NotDir (Ok (Names node.names, t))

  abbrev goes : Found → Outcome
  goes o = told o.inode o.node

  module _ (path : List (List ℕ)) (f : Follows {X = ℕ} {Y = Held} (IsOf t) (walk t root path) (Ok at)) where
    there : IsThere t at.number
    there = subst (IsThere t) f.2.0 f.2.1

    w : IsWhole (readers blocks) o
    w = whole blocks v con at.number at.page stood there

    steps : (x : Bool) → has_names at.inode ≡ x → listed t path ≡ (if not x then Err NotDir else Ok (Names w.names, t))
    unfolding w
    steps x e = ap (λ (y : Result ℕ Refusal). and_then (and_then y (λ n. found n (t.nodes n))) goes) (f.1 ∙ ap (λ (n : ℕ). Ok n) f.2.0)
        ∙ ap (λ (y : Option Node). and_then (found at.number y) goes) (node_is blocks v con at.number at.page stood there)
        ∙ ap (λ (b : Bool). if not b then Err NotDir else Ok (Names w.names, t)) (is_dir_is (type_of o.inode == 0x4000) (type_of o.inode == 0x8000) (type_of o.inode == 0xa000)
        ∙ ap has_names (inode_is blocks v con d ∙ sym shown) ∙ e)

    given : (x : Bool) → has_names at.inode ≡ x → names_from blocks pages at ≡ (if x then Ok w.names else Err NotDir)
    given true e = lists blocks pages at (root_of d) e (ap root_of (sym shown)) w.names (spelled_names (ap has_names (sym shown) ∙ e) ∙ w.names_are)
    given false e = no_directory blocks pages at e

    pub names_follow : (r : Result (List NameEntry) Refusal) → Answers (names_from blocks pages at) r → Follows {X = Reply × Tree} {Y = List NameEntry} (IsNames t) (listed t path) r
    names_follow r h = by (has_names at.inode) refl r h
      where
        same : (given : Result (List NameEntry) Refusal) {x y : List NameEntry} → given ≡ Ok x → given ≡ Ok y → x ≡ y
        same given h k = cc (h, k)

        refused : (given : Result (List NameEntry) Refusal) {x y : Refusal} → given ≡ Err x → given ≡ Err y → x ≡ y
        refused given h k = cc (h, k)

        by : (x : Bool) → has_names at.inode ≡ x → (r : Result (List NameEntry) Refusal) → Answers (names_from blocks pages at) r → Follows {X = Reply × Tree} {Y = List NameEntry} (IsNames t) (listed t path) r
        by true e (Ok names) h = ((Names w.names, t), steps true e, ap (λ (ns : List NameEntry). (Names ns, t)) (same (names_from blocks pages at) (given true e) h))
        by true e (Err why) (inl h) = absurd (cc (given true e, h))
        by true e (Err why) (inr h) = inr h
        by false e (Ok names) h = absurd (cc (given false e, h))
        by false e (Err why) (inl h) = inl (steps false e ∙ ap (λ (r : Refusal). Err r) (refused (names_from blocks pages at) (given false e) h))
        by false e (Err why) (inr h) = inr h
