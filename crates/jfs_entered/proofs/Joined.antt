-- Pages and maps are the volume after a call.
use Rattle.std.proofs.Common.{◌≡◌, refl, sym, ap, ◌∙◌, ℕ, suc, zero, ◌+◌, Bool, if◌then◌else◌, List, [], ◌∷◌, get_or, arith}
use Rattle.std.proofs.lemmas.Bool.{lt-ltb}
use Rattle.jfs_disk.specs.Image.{Image, page_of}
use Rattle.jfs_ranges.specs.declared.edit.Edit.{Edit}
use Rattle.jfs_ranges.specs.declared.edit.Edit.TheVariants.{Lines, NoRedo, Alloc, Free}
use Rattle.jfs_ranges.specs.Apply.{apply_tx}
use Rattle.jfs_ranges.specs.Laid.{put_tx}
use Rattle.jfs_halves.specs.crash_core.specs.Image.{pages_after}
use Rattle.jfs_room.specs.way.specs.Volume.{volume_of}
use Rattle.jfs_marks.specs.steps.proofs.After.{same_volume}
use Rattle.jfs_marks.specs.data_steps.specs.After.{put_data, after_writes}
use Rattle.jfs_entered.proofs.InUse.{inodes_law}
use Rattle.jfs_entered.specs.Laws.{PagesLaw, VolumeLaw}
use Rattle.jfs_entered.proofs.Used.{blocks_law}

nothing : (n : ℕ) (tx : List Edit) → apply_tx n tx [] ≡ []
nothing n [] = refl
nothing n (Lines page kind first bytes ∷ tx) = nothing n tx
nothing n (NoRedo page ∷ tx) = nothing n tx
nothing n (Alloc run ∷ tx) = nothing n tx
nothing n (Free run ∷ tx) = nothing n tx

page_at : (tx : List Edit) (image : Image) (n i m : ℕ) → m ≡ n + i → get_or (pages_after n tx image) i [] ≡ apply_tx m tx (get_or image i [])
page_at tx [] n i m e = sym (nothing m tx)
page_at tx (p ∷ ps) n zero m e = ap (λ (k : ℕ). apply_tx k tx p) (omega (arith, e))
page_at tx (p ∷ ps) n (suc i) m e = page_at tx ps (suc n) i m (omega (arith, e))

pub pages_law : PagesLaw
pages_law blocks tx notes image b loggable l = page_at tx image 0 b b (omega arith) ∙ sym (ap (λ (x : Bool). if x then apply_tx b tx (page_of image b) else page_of image b) (lt-ltb b blocks l))

pub volume_law : VolumeLaw
volume_law blocks n pages area old mid new inodes inodes_new ds tx notes marks list has entered marked =
    let m = inodes_law blocks pages area old inodes inodes_new ds tx notes marks has marked in
    let b = blocks_law blocks n tx notes list old mid new entered in
    same_volume (volume_of (put_tx blocks tx (put_data ds pages)) area new inodes_new) (after_writes blocks ds tx (volume_of pages area old inodes))
    refl m.extents refl (λ i k. b.used k i) (λ i k. m.in_use k i)
