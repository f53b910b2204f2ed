-- What a stat tells is what the plain step tells.
use Rattle.std.proofs.Common.{◌≡◌, refl, sym, ap, ◌∙◌, subst, ℕ, ◌%◌, ◌==◌, Bool, true, false, if◌then◌else◌, List, Option, Some, Result, Ok, map}
use Rattle.std.specs.Int.RustNames.{bit_and}
use Rattle.jfs_inode.specs.Rules.{type_of}
use Rattle.jfs_inode.specs.declared.fields.Dinode.{Dinode}
use Rattle.jfs_name.specs.declared.name.NameEntry.{NameEntry}
use Rattle.jfs_imap.specs.Inodes.{Inodes}
use Rattle.jfs_way.specs.bmap.specs.States.{Blocks}
use Rattle.jfs_plain.specs.Tree.{Tree, Found, walk, found, and_then, root, is_dir}
use Rattle.jfs_plain.specs.Step.{Outcome, stat, stat_of}
use Rattle.jfs_plain.specs.declared.node.Node.{Node}
use Rattle.jfs_plain.specs.declared.refusal.Refusal.{Refusal}
use Rattle.jfs_plain.specs.declared.reply.Reply.{Reply}
use Rattle.jfs_plain.specs.declared.reply.Reply.TheVariants.{Attr}
use Rattle.jfs_plain.specs.declared.reply.NodeKind.TheVariants.{Dir, File, Link, Other}
use Rattle.jfs_plain.specs.declared.reply.Stat.{Stat}
use Rattle.jfs_way.specs.objects.specs.Image.{extent_place}
use Rattle.jfs_way.specs.objects.specs.Objects.{Object, spelled}
use Rattle.jfs_way.specs.objects.specs.Volume.{home, slot_of}
use Rattle.jfs_way.specs.meaning.specs.Readers.{readers}
use Rattle.jfs_way.specs.meaning.specs.Consistent.{IsConsistent}
use Rattle.jfs_way.specs.meaning.specs.Node.{kind_of, node_with, target_in}
use Rattle.jfs_way.specs.Answer.{Follows}
use Rattle.jfs_way.specs.Volume.{volume_of}
use Rattle.jfs_way.specs.Walk.{IsHeld, IsShown, IsThere, IsOf, tree_in}
use Rattle.jfs_way.specs.declared.object.Held.{Held}
use Rattle.jfs_way.proofs.Places.{home_is}
use Rattle.jfs_way.proofs.Nodes.{node_is, inode_is, whole}
use Rattle.jfs_look.specs.Look.{stat_in, IsAttr}

-- a directory's size is told by neither
size_once : (a b c : Bool) (size : ℕ) → (if is_dir (if a then Dir else (if b then File else (if c then Link else Other))) then 0 else (if a then 0 else size)) ≡ (if a then 0 else size)
size_once true b c size = refl
size_once false true c size = refl
size_once false false true size = refl
size_once false false false size = refl

told_of : (n page : ℕ) (d : Dinode) (target : List ℕ) (names : List NameEntry) → stat_of n (node_with d target names) ≡ stat_in (record { number = n; page = page; inode = d })
told_of n page d target names = ap with_size (size_once (type_of d == 0x4000) (type_of d == 0x8000) (type_of d == 0xa000) d.size)
  where
    with_size : ℕ → Stat
    with_size size = record { kind = kind_of (type_of d); mode = bit_and d.mode 0xfff; nlink = d.nlink; uid = d.uid; gid = d.gid; size = size; inode = n; mtime = d.mtime }

module _ (blocks : ℕ) (pages : ℕ → List ℕ) (inodes : Inodes) (area : ℕ → ℕ) (bm : Blocks) (con : IsConsistent (readers blocks) (volume_of pages area bm inodes)) (at : Held) (held : IsHeld blocks inodes at) (shown : IsShown pages at) where
  abbrev t : Tree
  t = tree_in blocks pages area bm inodes

  abbrev o : Object
  o = spelled (readers blocks) pages (slot_of (pages at.page) (at.number % 8))

  abbrev goes : Found → Outcome
  goes o = Ok (Attr (stat_of o.inode o.node), t)

  stood : home (map extent_place inodes.extents) at.number ≡ Some at.page
  stood = home_is inodes at.number ∙ held.home

  told : (names : List NameEntry) → stat_of at.number (node_with o.inode (target_in (readers blocks) pages o) names) ≡ stat_in at
  told names = told_of at.number at.page o.inode (target_in (readers blocks) pages o) names
      ∙ ap (λ (d : Dinode). stat_in (record { number = at.number; page = at.page; inode = d }))
      (inode_is blocks (volume_of pages area bm inodes) con (slot_of (pages at.page) (at.number % 8)) ∙ sym shown)

  pub stat_follows : (path : List (List ℕ)) → Follows {X = ℕ} {Y = Held} (IsOf t) (walk t root path) (Ok at) → Follows {X = Reply × Tree} {Y = Stat} (IsAttr t) (stat t path) (Ok (stat_in at))
  stat_follows path f = ((Attr (stat_in at), t), tells, refl)
    where
      there : IsThere t at.number
      there = subst (IsThere t) f.2.0 f.2.1

      tells : stat t path ≡ Ok (Attr (stat_in at), t)
      tells = ap (λ (x : Result ℕ Refusal). and_then (and_then x (λ n. found n (t.nodes n))) goes) (f.1 ∙ ap (λ (n : ℕ). Ok n) f.2.0)
          ∙ ap (λ (y : Option Node). and_then (found at.number y) goes) (node_is blocks (volume_of pages area bm inodes) con at.number at.page stood there)
          ∙ ap (λ (s : Stat). Ok (Attr s, t)) (told (whole blocks (volume_of pages area bm inodes) con at.number at.page stood there).names)
