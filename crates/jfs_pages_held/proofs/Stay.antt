-- Parts that hold the same volume keep their pages as they were.
use Rattle.std.proofs.Common.{◌≡◌, ◌<◌, refl, sym, ap, ◌∙◌, subst, ℕ, Bool, true, length, slice_get, Option, Some, None, is_some, inl, inr, arith}
use Rattle.std.proofs.lemmas.Bool.{or_left, or_right}
use Rattle.jfs_joined_held.specs.held.specs.survival.specs.face.specs.Items.{extent_by}
use Rattle.jfs_joined_held.specs.held.specs.survival.specs.face.specs.Places.{Places, is_block_page, is_inode_page}
use Rattle.jfs_joined_held.specs.held.specs.survival.specs.face.specs.Volume.{items_on}
use Rattle.jfs_joined_held.specs.held.specs.survival.specs.recovery.specs.Core.{count, image}
use Rattle.jfs_joined_held.specs.held.specs.survival.specs.recovery.specs.Face.{Pages}
use Rattle.jfs_joined_held.specs.held.specs.survival.specs.recovery.specs.crash_core.specs.declared.block.Span.{Span}
use Rattle.jfs_joined_held.specs.held.specs.survival.specs.recovery.specs.kinds.proofs.Single.{has_owners as one_owner}
use Rattle.jfs_joined_held.specs.held.specs.survival.specs.recovery.specs.kinds.specs.Laws.{HasOwners}
use Rattle.jfs_joined_held.specs.held.specs.survival.specs.recovery.specs.kinds.specs.Owner.{Owner, owner_of, is_logged}
use Rattle.jfs_joined_held.specs.held.specs.survival.specs.recovery.specs.kinds.specs.Owner.Owner.{Data}
use Rattle.jfs_joined_held.specs.held.specs.survival.proofs.Seen.{seen_law}
use Rattle.jfs_joined_held.specs.held.specs.Held.{Mount, IsImageAt}
use Rattle.jfs_joined_held.specs.Held.{volume_at}
use Rattle.jfs_joined_held.specs.volume.specs.data_steps.specs.objects.specs.Owners.{IsSound}
use Rattle.jfs_joined_held.specs.volume.specs.data_steps.specs.objects.specs.Readers.{Readers}
use Rattle.jfs_joined_held.specs.volume.specs.data_steps.specs.objects.specs.Volume.{Volume}
use Rattle.jfs_joined_held.specs.volume.specs.map_files.specs.declared.map_file.MapFiles.{MapFiles}
use Rattle.jfs_joined_held.specs.volume.specs.map_files.specs.imap.specs.Inodes.{Inodes, extent_at}
use Rattle.jfs_pages_held.specs.Pages.{MayBeDirty, PagesKept}
use Rattle.jfs_pages_held.specs.Beside.{StayLaw}

-- what may be dirty is told by owners and by what is in use
pub by_owners : (r : Readers) (v w : Volume) → IsSound r v → IsSound r w → (q : ℕ) → owner_of r w q ≡ owner_of r v q → w.used q ≡ v.used q → MayBeDirty r v q → MayBeDirty r w q
by_owners r v w sound then q same used (inl logged) = inl (ap (λ (o : Option Owner). is_logged o) same ∙ logged)
by_owners r v w sound then q same used (inr (inr free)) = inr (inr (used ∙ free))
by_owners r v w sound then q same used (inr (inl (n, more))) =
    let one = (one_owner r w then.agrees).has_it q (Data n) (same ∙ (one_owner r v sound.agrees).alone q (Data n) more) in
    inr (inl (n, omega (arith, one)))

-- so two volumes of one image say the same of it
pub moved : (m : Mount) (s : Pages) (v w : Volume) → IsImageAt m s v → IsImageAt m s w → (q : ℕ) → MayBeDirty m.readers v q → MayBeDirty m.readers w q
moved m s v w a b q = by_owners m.readers v w a.sound b.sound q (sym (seen_law m.readers m.places s w b.sound b.shows q) ∙ seen_law m.readers m.places s v a.sound a.shows q) (sym (b.is.same.used q) ∙ a.is.same.used q)

pub stay_law : StayLaw
stay_law m area old new both later core more volumes others held later_held keeps marks dirty kept = record {
  homes = λ q some. moved m (image core (count core)) (volume_at area old) (volume_at area new) held.held.now (subst (λ (s : Pages). IsImageAt m s (volume_at area new)) marks.image_is later_held.held.now) q (kept.homes q (dirty q some));
  stand = record {
    agsize = keeps.agsize ∙ kept.stand.agsize;
    iags = ap (λ (i : Inodes). i.iags) keeps.inodes ∙ kept.stand.iags;
    groups = ap (λ (i : Inodes). i.numag) keeps.inodes ∙ kept.stand.groups;
    group_size = ap (λ (i : Inodes). i.agsize) keeps.inodes ∙ kept.stand.group_size;
    block_map = λ k used. ap (λ (f : MapFiles). slice_get f.blocks.places k) keeps.files ∙ kept.stand.block_map k used;
    inode_map = λ k low. ap (λ (f : MapFiles). slice_get f.inodes.places k) keeps.files ∙ kept.stand.inode_map k low;
    inode_pages = ap (λ (f : MapFiles). length f.inodes.places) keeps.files ∙ kept.stand.inode_pages;
  };
  extents = λ e. ap (λ (s : Pages). extent_by (items_on m.places s) e) marks.image_is ∙ kept.extents e ∙ sym (ap (λ (i : Inodes). extent_at i e) keeps.inodes);
  marked = record {
    block_map = λ runs q is. ap (λ (d : Option Span). is_some d) (marks.marks q (or_left (is_block_page m.places q) (is_inode_page m.places q) is)) ∙ kept.marked.block_map (keeps.halted runs) q is ∙ sym (ap (λ (f : MapFiles). f.blocks.stale) keeps.files);
    inode_map = λ runs q is. ap (λ (d : Option Span). is_some d) (marks.marks q (or_right (is_block_page m.places q) (is_inode_page m.places q) is)) ∙ kept.marked.inode_map (keeps.halted runs) q is ∙ sym (ap (λ (f : MapFiles). f.inodes.stale) keeps.files);
  };
}
