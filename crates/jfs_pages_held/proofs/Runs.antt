-- The file of the block map is marked exactly where an entry takes or frees a run.
use Rattle.std.proofs.Common.{◌≡◌, ◌||◌, ◌==◌, ◌++◌, not, refl, sym, ap, ◌∙◌, Bool, true, false, List, [], ◌∷◌, length, if◌then◌else◌, arith}
use Rattle.std.proofs.lemmas.Bool.{ne_eqb}
use Rattle.jfs_bits.specs.declared.descriptor.Pxd.{Pxd}
use Rattle.jfs_ranges.specs.declared.edit.Edit.{Edit}
use Rattle.jfs_ranges.specs.declared.edit.Edit.TheVariants.{Lines, NoRedo, Alloc, Free}
use Rattle.jfs_joined_held.specs.held.specs.survival.specs.MapMarks.{has_run, block_map_changes}
use Rattle.jfs_joined_held.specs.volume.specs.Runs.{taken_by, freed_by, taken_in, freed_in}
use Rattle.jfs_joined_held.specs.volume.specs.Stale.{changes_blocks}
use Rattle.jfs_joined_held.specs.volume.specs.records.specs.Marks.{is_new_extent}

abbrev some_of : List Pxd → Bool
some_of runs = not (length runs == 0)

some_cons : (x : Pxd) (xs : List Pxd) → some_of (x ∷ xs) ≡ true
some_cons x xs = ap not (ne_eqb (length (x ∷ xs)) 0 (λ e. omega (arith, e)))

joined : (xs ys : List Pxd) → some_of (xs ++ ys) ≡ (some_of xs || some_of ys)
joined [] ys = refl
joined (x ∷ xs) ys = some_cons x (xs ++ ys) ∙ sym (ap (λ (b : Bool). b || some_of ys) (some_cons x xs))

or_true : (a : Bool) → (a || true) ≡ true
or_true true = refl
or_true false = refl

-- the runs of one edit
of_edit : (e : Edit) (t f : Bool) → ((some_of (taken_by e) || t) || (some_of (freed_by e) || f)) ≡ (has_run e || (t || f))
of_edit (Lines page kind first bytes) t f = by (is_new_extent kind bytes)
  where
    by : (b : Bool) → ((some_of (if b then record { len = 4; addr = page } ∷ [] else []) || t) || f) ≡ (b || (t || f))
    by true = refl
    by false = refl
of_edit (NoRedo page) t f = refl
of_edit (Alloc run) t f = refl
of_edit (Free run) t f = or_true t

pub blocks_marked : (tx : List Edit) → changes_blocks (taken_in tx) (freed_in tx) ≡ block_map_changes tx
blocks_marked [] = refl
blocks_marked (e ∷ es) =
    ap (λ (b : Bool). b || some_of (freed_by e ++ freed_in es)) (joined (taken_by e) (taken_in es))
    ∙ ap (λ (b : Bool). (some_of (taken_by e) || some_of (taken_in es)) || b) (joined (freed_by e) (freed_in es))
    ∙ of_edit e (some_of (taken_in es)) (some_of (freed_in es))
    ∙ ap (λ (b : Bool). has_run e || b) (blocks_marked es)
