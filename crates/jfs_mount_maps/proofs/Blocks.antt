-- The block map of a volume that is to be mounted.
use Rattle.std.proofs.Common.{◌≡◌, ◌⊎◌, refl, sym, ap, ◌∙◌, ℕ, Bool, true, false, if◌then◌else◌, List, inl, inr, arith}
use Rattle.std.proofs.lemmas.Bool.{cases_lt}
use Rattle.std.proofs.lemmas.List.{get_or_past}
use Rattle.jfs_bits.specs.Bits.{is_taken}
use Rattle.jfs_disk.specs.Image.{Image, page_of}
use Rattle.jfs_super.specs.Geometry.{geometry_of}
use Rattle.jfs_super.specs.declared.fields.Geometry.{Geometry}
use Rattle.jfs_super.specs.declared.fields.Super.{Super}
use Rattle.jfs_bmap.specs.Set.{each_below}
use Rattle.jfs_bmap.specs.States.{Blocks, BlockState, Free, Owned, Reserved, state_of, fresh}
use Rattle.jfs_bmap.proofs.Views.{length-each_below, each_below-at, each_below-same}
use Rattle.jfs_sets.specs.mount_rules.specs.Subject.{subject_of, blocks, volume}
use Rattle.jfs_sets.specs.mount_rules.specs.Steps.{AreRead}
use Rattle.jfs_sets.specs.mount_rules.specs.declared.maps.Maps.{Maps}
use Rattle.jfs_claim.specs.room.specs.Laws.{blocks_in, NoneReserved}
use Rattle.jfs_sets.specs.Sets.{AreUsedBlocks}
use Rattle.jfs_mount_maps.specs.Maps.{IsIdle, blocks_on}

by_bit : (x : Bool) → ((if x then Owned else Free) ≡ Free) ⊎ ((if x then Owned else Free) ≡ Owned)
by_bit true = inr refl
by_bit false = inl refl

pub fresh_number : (set : List ℕ) (n agsize : ℕ) → blocks_in (fresh set n agsize) ≡ n
fresh_number set n agsize = length-each_below n (λ b. if is_taken set b then Owned else Free)

pub fresh_idle : (set : List ℕ) (n agsize : ℕ) → IsIdle (fresh set n agsize)
fresh_idle set n agsize b = elim (cases_lt b n) [
  | inl l ↦ rw (each_below-at n (λ b. if is_taken set b then Owned else Free) b Owned l) (by_bit (is_taken set b))
  | inr l ↦ inr (get_or_past (fresh set n agsize).states b Owned (let e = fresh_number set n agsize in omega (arith, e, l)))
]

-- an idle map has no block reserved
pub idle_rests : (m : Blocks) → IsIdle m → NoneReserved m
idle_rests m idle b e = by (state_of m b) (idle b) e
  where
    by : (x : BlockState) → (x ≡ Free) ⊎ (x ≡ Owned) → x ≡ Reserved → ⊥
    by x (inl f) e = absurd (cc (f, e))
    by x (inr o) e = absurd (cc (o, e))

-- the set that was read makes the image's map
pub fresh_is : (s : Super) (layout : Geometry) (image : Image) (maps : Maps) (set : List ℕ) → geometry_of s ≡ layout → AreUsedBlocks image maps set → AreRead (subject_of s (page_of image)) maps
    → fresh set maps.blocks layout.agsize ≡ blocks_on (subject_of s (page_of image))
fresh_is s layout image maps set geo used read =
    let sub = subject_of s (page_of image) in
    let bit = used s read in
    let states : each_below maps.blocks (λ b. if is_taken set b then Owned else Free) ≡ each_below (blocks sub) (λ b. if (volume sub).used b then Owned else Free) =
    each_below-same maps.blocks (λ b. if is_taken set b then Owned else Free) (λ b. if (volume sub).used b then Owned else Free) (λ b l. ap (λ (x : Bool). if x then Owned else Free) (bit b l))
    ∙ ap (λ (n : ℕ). each_below n (λ b. if (volume sub).used b then Owned else Free)) (sym read.blocks) in
    ap (λ (xs : List BlockState). record { states = xs; agsize = layout.agsize; spare = 0 }) states
    ∙ ap (λ (g : Geometry). record { states = each_below (blocks sub) (λ b. if (volume sub).used b then Owned else Free); agsize = g.agsize; spare = 0 }) (sym geo)
