-- What is looked at before a write reserves anything.
use Rattle.std.proofs.Common.{◌≡◌, ap, ◌∙◌, inl, inr, ℕ, ◌+◌, List, length, Option, Some, None, Result, Ok, Err, IfOk, IfErr}
use Rattle.jfs_bits.specs.declared.descriptor.Moment.{Moment}
use Rattle.jfs_imap.specs.Inodes.{Inodes}
use Rattle.jfs_bmap.specs.States.{Blocks, unowned_count}
use Rattle.jfs_plain.specs.Tree.{walk, root, and_then}
use Rattle.jfs_plain.specs.Step.{need_of_bytes}
use Rattle.jfs_plain.specs.declared.refusal.Refusal.{Refusal}
use Rattle.jfs_file_blocks.specs.claim.specs.Look.{space_for}
use Rattle.jfs_link.specs.meaning.specs.Readers.{readers}
use Rattle.jfs_link.specs.meaning.specs.Room.{room_on}
use Rattle.jfs_read.specs.way.specs.Volume.{volume_of}
use Rattle.jfs_read.specs.way.specs.Answer.{Answers, Follows}
use Rattle.jfs_read.specs.way.specs.Walk.{IsOf, IfConsistent, tree_in}
use Rattle.jfs_read.specs.way.specs.Way.{path_of}
use Rattle.jfs_read.specs.way.specs.declared.object.Held.{Held}
use Rattle.jfs_write.specs.Look.{why_kept, unless}
use Rattle.jfs_write.specs.Call.{if_space, allowed_at, allowed_of, LooksAs, IsWritten, IsStopped, WritesAt, StoppedAt}
use Rattle.jfs_write.specs.declared.answer.Stop.{Stop}
use Rattle.jfs_write.specs.declared.answer.Stop.TheVariants.{Refused, NeedsLog}
use Rattle.jfs_write.specs.declared.make.Written.{Written}
use Rattle.jfs_write.proofs.Calls.{walk_refused}

module _ (blocks : ℕ) (pages : ℕ → List ℕ) (map : Blocks) (inodes : Inodes) (path : List (List ℕ)) (offset count limit : ℕ) where
  abbrev asked : Result Held Refusal → Result Held Refusal
  asked x = and_then x (allowed_at map offset count limit)

  pub not_walked : (why : Refusal) → Answers (path_of blocks pages inodes path) (Err why) → Answers (allowed_of blocks pages map inodes path offset count limit) (Err why)
  not_walked why (inl e) = inl (ap asked e)
  not_walked why (inr o) = inr o

  pub not_followed : (why : Refusal) → IfConsistent blocks pages inodes (λ t. Follows {X = ℕ} {Y = Held} (IsOf t) (walk t root path) (Err why)) → LooksAs blocks pages map inodes path offset count limit (Err why)
  not_followed why h = λ many within area con log_pages is bytes size now. elim (h within area map con) [
    | inl e ↦ inl (walk_refused (room_on (readers blocks) (volume_of pages area map inodes) blocks log_pages) (tree_in blocks pages area map inodes) path offset bytes now why e)
    | inr o ↦ inr o
  ]

  module _ (at : Held) (walked : path_of blocks pages inodes path ≡ Ok at) where
    by_kept : (x : Option Refusal) → why_kept at.inode (offset + count) limit ≡ x → allowed_of blocks pages map inodes path offset count limit ≡ and_then (unless x at) (if_space (space_for (unowned_count map) (need_of_bytes offset count)))
    by_kept x e = ap asked walked ∙ ap (λ (o : Option Refusal). and_then (unless o at) (if_space (space_for (unowned_count map) (need_of_bytes offset count)))) e

    pub not_kept : (why : Refusal) → why_kept at.inode (offset + count) limit ≡ Some why → allowed_of blocks pages map inodes path offset count limit ≡ Err why
    not_kept why e = by_kept (Some why) e

    pub no_space : (why : Refusal) → why_kept at.inode (offset + count) limit ≡ None → space_for (unowned_count map) (need_of_bytes offset count) ≡ Err why → allowed_of blocks pages map inodes path offset count limit ≡ Err why
    no_space why e f = by_kept None e ∙ ap (λ (x : Result (Unit {0}) Refusal). if_space x at) f

    pub allowed : why_kept at.inode (offset + count) limit ≡ None → space_for (unowned_count map) (need_of_bytes offset count) ≡ Ok tt → allowed_of blocks pages map inodes path offset count limit ≡ Ok at
    allowed e f = by_kept None e ∙ ap (λ (x : Result (Unit {0}) Refusal). if_space x at) f

-- ---- the whole call

module _ (blocks : ℕ) (pages : ℕ → List ℕ) (map : Blocks) (inodes : Inodes) (path : List (List ℕ)) (offset : ℕ) (limit : ℕ) (at : Held) where
  pub is_written : (bytes : List ℕ) (now : Moment) (after : Blocks) (result : Result Written Stop) → allowed_of blocks pages map inodes path offset (length bytes) limit ≡ Ok at → IfOk result (WritesAt blocks pages at at.inode.size offset bytes now map after)
      → IfOk result (IsWritten blocks pages inodes path offset bytes limit now map after)
  is_written bytes now after (Ok out) e w = record { at = at; allowed = e; writes = w }
  is_written bytes now after (Err why) e w = tt

  pub is_stopped : (count : ℕ) (result : Result Written Stop) → allowed_of blocks pages map inodes path offset count limit ≡ Ok at → IfErr result (StoppedAt blocks pages at offset count map) → IfErr result (IsStopped blocks pages inodes path offset count limit map)
  is_stopped count (Ok out) e w = tt
  is_stopped count (Err (Refused why)) e w = inr (inr (at, e, w))
  is_stopped count (Err NeedsLog) e w = (at, e, w)
