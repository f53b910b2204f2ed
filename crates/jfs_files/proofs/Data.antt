-- Data that calls write, and blocks that they free.
use Rattle.std.proofs.Common.{refl, sym, subst, inl, ℕ, Bool, List, [], ◌∷◌, ◌++◌, Option, Some, None, arith}
use Rattle.jfs_bits.specs.declared.descriptor.Moment.{Moment}
use Rattle.jfs_bits.specs.declared.descriptor.Pxd.{Pxd}
use Rattle.jfs_bits.specs.declared.rule.PageKind.TheVariants as kinds
use Rattle.jfs_ranges.specs.declared.edit.Edit.{Edit}
use Rattle.jfs_ranges.specs.declared.edit.Edit.TheVariants.{Lines}
use Rattle.jfs_look.specs.page_tree.specs.Fresh.{blocks_of}
use Rattle.jfs_plain.specs.declared.call.Call.{Call}
use Rattle.jfs_truncate.specs.objects.specs.Volume.{Volume}
use Rattle.jfs_look.specs.meaning.specs.Readers.{readers}
use Rattle.jfs_look.specs.meaning.specs.Consistent.{IsConsistent}
use Rattle.jfs_look.specs.way.specs.declared.object.Held.{Held}
use Rattle.jfs_chmod.specs.steps.specs.Laws.{IsFair}
use Rattle.jfs_chmod.specs.steps.specs.Put.{TellsLines}
use Rattle.jfs_chmod.specs.steps.proofs.After.{lines_alone, runs_leave}
use Rattle.jfs_chmod.specs.steps.proofs.Sets.{frees_onto, taken_move}
use Rattle.jfs_ranges.specs.Laid.{put_tx}
use Rattle.jfs_truncate.specs.data_steps.specs.After.{AreWholePages, EachOnce, LieWithin}
use Rattle.jfs_truncate.specs.data_steps.specs.declared.pages.DataPage.{DataPage}
use Rattle.jfs_create.specs.link.specs.Joins.{Joins}
use Rattle.jfs_create.specs.link.proofs.Whole.{joins_move}
use Rattle.jfs_create.specs.Makes.{IsBetween, Makes}
use Rattle.jfs_create.specs.declared.extent.NewExtent.{NewExtent}
use Rattle.jfs_create.specs.declared.make.Plan.{Plan}
use Rattle.jfs_truncate.specs.Tail.{IsTail}
use Rattle.jfs_files.specs.Laws.{NoDataLaw}
use Rattle.jfs_files.specs.Written.{FitsData, WritesNone, WritesOnce, StartsWith, Starts, FreesNone, FreesNothing, FreesOnce, FreesUsed, FreesOrTaken}
use Rattle.jfs_files.specs.declared.outcome.FileOutcome.{FileOutcome}
use Rattle.jfs_files.specs.declared.outcome.FileOutcome.TheVariants.{Changed, Same, NeedsLog}

-- ---- without data

pub no_data : NoDataLaw
no_data blocks tx v = refl

pub fits_none : (blocks : ℕ) (outcome : FileOutcome) → WritesNone outcome → FitsData blocks outcome
fits_none blocks (Changed tx written) e = subst (λ (ds : List DataPage). LieWithin blocks ds × AreWholePages ds) (sym e) (tt, tt)
fits_none blocks (Same reply) e = tt
fits_none blocks NeedsLog e = tt

pub starts_none : (blocks : ℕ) (v : Volume) (call : Call) (outcome : FileOutcome) → IsConsistent (readers blocks) v → WritesNone outcome → Starts blocks v call outcome
starts_none blocks v call (Changed tx written) con e = subst (λ (ds : List DataPage). StartsWith blocks v call ds) (sym e) (record { rest = record { nodes = λ n. refl; bytes = λ n i h. refl }; consistent = con; own = inl refl; once = tt })
starts_none blocks v call (Same reply) con e = tt
starts_none blocks v call NeedsLog con e = tt

pub once_none : (outcome : FileOutcome) → WritesNone outcome → WritesOnce outcome
once_none (Changed tx written) e = subst EachOnce (sym e) tt
once_none (Same reply) e = tt
once_none NeedsLog e = tt

-- the block in which a file's bytes end stands there once
pub tail_once : (pages : ℕ → List ℕ) (kept : ℕ) (block : Option ℕ) (ds : List DataPage) → IsTail pages kept block ds → EachOnce ds
tail_once pages kept None ds e = subst EachOnce (sym e) tt
tail_once pages kept (Some b) ds h = subst EachOnce (sym h.1) (refl, tt)

-- ---- what is freed

pub fair_frees : (used : ℕ → Bool) (tx : List Edit) → IsFair tx used → FreesOnce used tx
fair_frees used tx fair = record { owned = fair.owned; once = λ b. (let o = fair.once b in omega (arith, o)) }

pub none_freed : (used : ℕ → Bool) (tx : List Edit) → FreesNone tx → FreesOnce used tx
none_freed used tx none = record { owned = λ b l. absurd (let z = none b in omega (arith, l, z)); once = λ b. (let z = none b in omega (arith, z)) }

pub nothing_freed : (used : ℕ → Bool) (outcome : FileOutcome) → FreesNothing outcome → FreesUsed used outcome
nothing_freed used (Changed tx written) none = none_freed used tx none
nothing_freed used (Same reply) none = tt
nothing_freed used NeedsLog none = tt

pub used_freed : (used : ℕ → Bool) (outcome : FileOutcome) → FreesUsed used outcome → FreesOrTaken used outcome
used_freed used (Changed tx written) h = record { owned = λ b l. inl (h.owned b l); once = h.once }
used_freed used (Same reply) h = tt
used_freed used NeedsLog h = tt

module _ (blocks : ℕ) (pages : ℕ → List ℕ) where
  -- lines of an inode's page free nothing
  pub lines_free_none : (page : ℕ) (tx later : List Edit) → FreesNone tx → TellsLines blocks pages page tx later → FreesNone later
  lines_free_none page tx later none tells = subst FreesNone (sym tells.1) (λ b. (let s = frees_onto tx tells.0 b in let z = none b in let a = (lines_alone tells.0 (runs_leave page kinds.Inode (put_tx blocks tx pages page) (put_tx blocks later pages page) 0 tells.0 tells.2)).frees_none b in omega (arith, s, z, a)))

  pub joins_free_none : (object dir : Held) (name : List ℕ) (now : Moment) (free left : List Pxd) (tx : List Edit) → Joins blocks pages object dir name now free left tx → FreesNone tx
  joins_free_none object dir name now free left tx j = (joins_move blocks pages object dir name now free left tx j).freed_are

  -- neither does a new inode extent
  between : (extent : Option NewExtent) (tx later : List Edit) → IsBetween extent tx later → FreesNone tx → FreesNone later
  between None tx later e none = subst FreesNone (sym e) none
  between (Some extent) tx later tells none = subst FreesNone (sym tells.told) (λ b. (let s = frees_onto tx (Lines extent.run.addr kinds.Inode 0 (tells.one ++ (tells.two ++ (tells.three ++ tells.four))) ∷ []) b in let z = none b in omega (arith, s, z)))

  pub makes_free_none : (dir : Held) (name : List ℕ) (plan : Plan) (free left : List Pxd) (tx : List Edit) → Makes blocks pages dir name plan free left tx → FreesNone tx
  makes_free_none dir name plan free left tx makes =
      let tree = taken_move blocks kinds.Dtree pages (blocks_of free) (blocks_of left) makes.gains.mid (λ first bytes. refl) makes.gains.edits in
      lines_free_none plan.page makes.more tx (between plan.extent makes.mid makes.more makes.extent (lines_free_none dir.page makes.gains.mid makes.mid tree.freed_are makes.gains.lines)) makes.lines
