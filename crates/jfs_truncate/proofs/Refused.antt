-- What a truncate answers, from what the functions below it answer.
use Rattle.std.proofs.Common.{◌≡◌, ◌<◌, ◌⊎◌, refl, sym, ap, ◌∙◌, subst, inl, inr, ℕ, ◌%◌, ◌/◌, ◌==◌, Bool, true, false, if◌then◌else◌, List, length, Option, Some, None, Result, Ok, Err, IfOk}
use Rattle.std.specs.Prelude.{min}
use Rattle.jfs_bits.specs.declared.descriptor.Moment.{Moment}
use Rattle.jfs_bits.specs.declared.rule.Rule.{Rule}
use Rattle.jfs_imap.specs.Inodes.{Inodes}
use Rattle.jfs_read.specs.bmap.specs.States.{Blocks}
use Rattle.jfs_xtree.specs.Spells.{broken_for}
use Rattle.jfs_read.specs.meaning.specs.Readers.{readers, root_of}
use Rattle.jfs_read.specs.meaning.specs.Consistent.{IsConsistent}
use Rattle.jfs_plain.specs.Tree.{walk, root}
use Rattle.jfs_plain.specs.Step.{Room, truncate}
use Rattle.jfs_plain.specs.declared.refusal.Refusal.{Refusal}
use Rattle.jfs_plain.specs.declared.refusal.Refusal.TheVariants.{Damaged}
use Rattle.jfs_read.specs.way.specs.Answer.{is_open, at_root, Answers, Follows}
use Rattle.jfs_read.specs.way.specs.Volume.{volume_of, PlacesWithin}
use Rattle.jfs_read.specs.way.specs.Walk.{IsHeld, IsShown, IsThere, IsOf, IfConsistent, tree_in}
use Rattle.jfs_read.specs.way.specs.declared.object.Held.{Held}
use Rattle.jfs_read.specs.Read.{unless_bad}
use Rattle.jfs_read.proofs.Parts.{way_met}
use Rattle.jfs_data_steps.specs.After.{AreWholePages}
use Rattle.jfs_data_steps.proofs.Held as held_file
use Rattle.jfs_truncate.specs.Tail.{tail_way, tail_block, IsTail}
use Rattle.jfs_truncate.specs.Call.{why_kept, MeetsCut, Resizes, TakesNone, StepsWith, FreesOnceOn, StartsOn}
use Rattle.jfs_truncate.specs.declared.change.Truncated.{Truncated}
use Rattle.jfs_truncate.proofs.Cut.{takes_none, is_fair}
use Rattle.jfs_truncate.proofs.Done.{fits, Fits, refused, truncate_done, truncate_starts}

-- ---- on any volume

-- the way to the last block that stays breaks a rule, or what was answered is open
pub tail_broken : (blocks : ℕ) (pages : ℕ → List ℕ) (at : Held) (kept : ℕ) (x : Option ℕ) (why : Refusal) → (kept % 4096 == 0) ≡ false
    → Answers (unless_bad at.page (broken_for blocks pages (root_of at.inode) (kept / 4096)) x) (Err why)
    → ((bad : ℕ × Rule) × (tail_way blocks pages at.inode kept ≡ Some bad) × (why ≡ Damaged (at_root at.page bad.0) bad.1)) ⊎ (is_open why ≡ true)
tail_broken blocks pages at kept x why odd h = way_met at.page (tail_way blocks pages at.inode kept) x why
    (subst (λ (first : Option (ℕ × Rule)). Answers (unless_bad at.page first x) (Err why)) (sym (ap (λ (b : Bool). if b then None else broken_for blocks pages (root_of at.inode) (kept / 4096)) odd)) h)

pub none_taken : (blocks : ℕ) (pages : ℕ → List ℕ) (at : Held) (size : ℕ) (now : Moment) (r : Result Truncated Refusal) → IfOk r (λ out. Resizes blocks pages at size now out.tx) → IfOk r (λ out. TakesNone out.tx)
none_taken blocks pages at size now (Ok out) resizes = takes_none blocks pages at size now out.tx resizes
none_taken blocks pages at size now (Err why) resizes = tt

-- ---- on a consistent volume

module _ (blocks : ℕ) (pages : ℕ → List ℕ) (whole : (b : ℕ) → b < blocks → length (pages b) ≡ 4096) (inodes : Inodes) (at : Held) (held : IsHeld blocks inodes at) (shown : IsShown pages at) (path : List (List ℕ))
    (follows : IfConsistent blocks pages inodes (λ t. Follows {X = ℕ} {Y = Held} (IsOf t) (walk t root path) (Ok at))) (size limit : ℕ) (now : Moment) where
  module _ (within : PlacesWithin blocks inodes) (area : ℕ → ℕ) (bm : Blocks) (con : IsConsistent (readers blocks) (volume_of pages area bm inodes)) where
    some : IsThere (tree_in blocks pages area bm inodes) at.number
    some = let f = follows within area bm con in subst (IsThere (tree_in blocks pages area bm inodes)) f.2.0 f.2.1

    walked : walk (tree_in blocks pages area bm inodes) root path ≡ Ok at.number
    walked = let f = follows within area bm con in f.1 ∙ ap (λ (n : ℕ). Ok n) f.2.0

  pub steps_none : (room : Room) → room.limit ≡ limit → (why : Refusal) → why_kept at.inode size limit ≡ Some why → StepsWith blocks pages inodes (λ t. truncate room t path size now) (Err why)
  steps_none room same why h within area bm con = inl (refused blocks pages whole area bm inodes con at held shown (some within area bm con) size limit now room same path (walked within area bm con) why h)

  module _ (allowed : why_kept at.inode size limit ≡ None) where
    fit : Fits at.inode size limit
    fit = fits at.inode size limit allowed

    pub steps : (room : Room) → room.limit ≡ limit → (r : Result Truncated Refusal) → MeetsCut blocks pages size at r → IfOk r (λ out. Resizes blocks pages at size now out.tx)
        → IfOk r (λ out. IsTail pages (min at.inode.size size) (tail_block blocks pages at.inode (min at.inode.size size)) out.blocks) → IfOk r (λ out. AreWholePages out.blocks)
        → StepsWith blocks pages inodes (λ t. truncate room t path size now) r
    steps room same (Ok out) m resizes tail full = λ within area bm many con.
        truncate_done blocks pages whole area bm inodes con at held shown (some within area bm con) size limit now room same path (walked within area bm con) many fit out.tx resizes out.blocks tail full
    steps room same (Err why) (inl (is, never)) resizes tail full = λ within area bm con.
        absurd (never (held_file.es blocks pages whole area bm inodes con at held shown (some within area bm con)) (held_file.spelled_es blocks pages whole area bm inodes con at held shown (some within area bm con) fit.regular))
    steps room same (Err why) (inr h) resizes tail full = λ within area bm con. inr h

    pub once : (r : Result Truncated Refusal) → IfOk r (λ out. Resizes blocks pages at size now out.tx) → IfOk r (FreesOnceOn blocks pages inodes)
    once (Ok out) resizes = λ within area bm many con. is_fair blocks pages whole area bm inodes many con at held shown (some within area bm con) fit.regular size now out.tx resizes
    once (Err why) resizes = tt

    pub starts : (r : Result Truncated Refusal) → IfOk r (λ out. Resizes blocks pages at size now out.tx) → IfOk r (λ out. IsTail pages (min at.inode.size size) (tail_block blocks pages at.inode (min at.inode.size size)) out.blocks)
        → IfOk r (λ out. AreWholePages out.blocks) → IfOk r (StartsOn blocks pages inodes path size)
    starts (Ok out) resizes tail full = λ within area bm many con.
        let s = truncate_starts blocks pages whole area bm inodes con at held shown (some within area bm con) size limit now (record { limit = limit; free = 0; deep = λ dir name. false; inode = None }) refl path (walked within area bm con) many fit out.tx resizes out.blocks tail full in
        record { leaves = s.0; consistent = s.1; own = s.2 }
    starts (Err why) resizes tail full = tt
