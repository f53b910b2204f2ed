-- What is told is the plain step's reply; and a change of an inode takes no block.
use Rattle.std.proofs.Common.{arith, ◌≡◌, ◌<◌, refl, sym, ap, ◌∙◌, subst, ℕ, nat_lt, if◌then◌else◌, List, [], Ok}
use Rattle.jfs_name.specs.declared.name.NameEntry.{NameEntry}
use Rattle.jfs_create.specs.bmap.specs.States.{BlockState, Reserved, Blocks, state_of}
use Rattle.jfs_create.specs.bmap.proofs.States.{same_blocks, changed-at, changed-length}
use Rattle.jfs_ranges.specs.declared.edit.Edit.{Edit}
use Rattle.jfs_plain.specs.Tree.{Tree}
use Rattle.jfs_plain.specs.Step.{Outcome}
use Rattle.jfs_plain.specs.declared.reply.Reply.{Reply}
use Rattle.jfs_plain.specs.declared.reply.Reply.TheVariants.{Bytes, Attr, Names, Target}
use Rattle.jfs_plain.specs.declared.reply.Stat.{Stat}
use Rattle.jfs_look.specs.way.specs.Answer.{Follows}
use Rattle.jfs_chmod.specs.steps.specs.After.{takes}
use Rattle.jfs_chmod.specs.steps.specs.Put.{TellsLines}
use Rattle.jfs_chmod.specs.steps.proofs.After.{lines_alone, lines_leave}
use Rattle.jfs_look.specs.Look.{IsAttr, IsNames}
use Rattle.jfs_truncate.specs.read.specs.Read.{IsBytes}
use Rattle.jfs_readlink.specs.Target.{IsTarget}
use Rattle.jfs_files.specs.Outcome.{reserved_by, TakesFree}
use Rattle.jfs_map_files.specs.declared.maps.Maps.{Maps}

module _ (t : Tree) (plain : Outcome) where
  is_ok : (out told : Reply × Tree) → plain ≡ Ok out → out ≡ told → plain ≡ Ok told
  is_ok out told e f = e ∙ ap (λ (x : Reply × Tree). Ok x) f

  pub attr_told : (told : Stat) → Follows {X = Reply × Tree} {Y = Stat} (IsAttr t) plain (Ok told) → plain ≡ Ok (Attr told, t)
  attr_told told f = is_ok f.0 (Attr told, t) f.1 f.2

  pub names_told : (told : List NameEntry) → Follows {X = Reply × Tree} {Y = List NameEntry} (IsNames t) plain (Ok told) → plain ≡ Ok (Names told, t)
  names_told told f = is_ok f.0 (Names told, t) f.1 f.2

  pub bytes_told : (told : List ℕ) → Follows {X = Reply × Tree} {Y = List ℕ} (IsBytes t) plain (Ok told) → plain ≡ Ok (Bytes told, t)
  bytes_told told f = is_ok f.0 (Bytes told, t) f.1 f.2

  pub target_told : (told : List ℕ) → Follows {X = Reply × Tree} {Y = List ℕ} (IsTarget t) plain (Ok told) → plain ≡ Ok (Target told, t)
  target_told told f = is_ok f.0 (Target told, t) f.1 f.2

-- ---- the maps after a change of one inode

pub takes_nothing : (tx : List Edit) (map : Blocks) → ((b : ℕ) → takes tx b ≡ 0) → reserved_by tx map ≡ map
takes_nothing tx map none =
    let change = λ (b : ℕ) (s : BlockState). if nat_lt 0 (takes tx b) then Reserved else s in
    same_blocks (reserved_by tx map) map (changed-length change map)
    (λ b l. changed-at change map b (subst (λ (k : ℕ). b < k) (changed-length change map) l) ∙ ap (λ (k : ℕ). if nat_lt 0 k then Reserved else state_of map b) (none b)) refl refl

pub leaves_maps : (tx : List Edit) (maps : Maps) → ((b : ℕ) → takes tx b ≡ 0) → TakesFree maps maps tx
leaves_maps tx maps none = record {
  free = λ b l. absurd (let k = none b in omega (arith, l, k));
  once = λ b. (let k = none b in omega (arith, k));
  now_is = sym (ap (λ (map : Blocks). record maps { blocks = map }) (takes_nothing tx maps.blocks none));
}

pub lines_take_nothing : (blocks : ℕ) (pages : ℕ → List ℕ) (page : ℕ) (tx : List Edit) (maps : Maps) → TellsLines blocks pages page [] tx → TakesFree maps maps tx
lines_take_nothing blocks pages page tx maps tells = leaves_maps tx maps (lines_alone tx (lines_leave blocks pages page [] tx tt tells)).takes_none
