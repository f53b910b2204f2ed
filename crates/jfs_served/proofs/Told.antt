-- Clauses of a disk that may tell its contents, where it does.
use Rattle.std.specs.Bool.{⊤}
use Rattle.std.proofs.Common.{ℕ, List, length, ◌⊎◌, inl, inr}
use Rattle.jfs_disk.specs.Image.{Image, page_of}
use Rattle.jfs_ranges.specs.declared.edit.Edit.{Edit}
use Rattle.jfs_super.specs.declared.fields.Super.{Super}
use Rattle.jfs_call.specs.volume.specs.Asked.{IsAskedOf}
use Rattle.jfs_call.specs.volume.specs.Called.{JoinsWith, StopsReading, StopsPutting, GoesOn, IsUnfitBeside, not_logged, frees_early, keeps_gone, not_marked, IsUnfit, takes_unreserved, puts_dirty, puts_astray, unfit_beside, CallIs}
use Rattle.jfs_call.specs.volume.specs.declared.calling.Called.{Called}
use Rattle.jfs_call.specs.volume.specs.declared.calling.Called.TheVariants.{Entered, NoRoom, NoMemory, Failed, Unfit}
use Rattle.jfs_call.specs.volume.specs.Settles.{StaysShown, HomesAlone}
use Rattle.jfs_call.specs.volume.specs.data_steps.specs.declared.pages.DataPage.{DataPage}
use Rattle.jfs_call.specs.volume.specs.map_files.specs.imap.specs.Inodes.{Inodes}
use Rattle.jfs_call.specs.volume_calls.specs.Written.{KeepsPages}
use Rattle.jfs_call.specs.halves.specs.Log.{LogParts}
use Rattle.jfs_call.specs.halves.specs.Parts.{Parts}
use Rattle.jfs_call.specs.plain.specs.declared.call.Entry.{Entry}
use Rattle.jfs_unmount.specs.mounted.specs.Mount.{IsMountOf}
use Rattle.jfs_served.specs.Step.{IsAsked}

module _ (tells crashes : Type 0) (told : tells) where
  pub told_asked : (old mid : Parts) → IsAskedOf tells crashes old mid → IsAsked old mid
  told_asked old mid a = record { parts = a.parts; view = a.view told }

  told_on : (old new : Parts) → GoesOn tells crashes old new → GoesOn ⊤ ⊥ old new
  told_on old new g = record { halted = g.halted; view = λ t. g.view told; faults = g.faults; disk = record { image = λ t. g.disk.image told; states = λ c. absurd c } }

  pub told_joins : (entry : Entry) (tx : List Edit) (put : List DataPage) (number : ℕ) (old new : Parts) → JoinsWith tells entry tx put number old new → JoinsWith ⊤ entry tx put number old new
  told_joins entry tx put number old new j = record {
    notes = j.notes;
    marks = j.marks;
    each = j.each;
    notes_are = λ t. j.notes_are told;
    loggable = j.loggable;
    room = j.room;
    marks_are = λ t. j.marks_are told;
    behind = j.behind;
    gone = j.gone;
    adds = j.adds;
    number_is = j.number_is;
    clean = j.clean;
    whole = λ t. j.whole told;
    shows = λ t. j.shows told;
    faults = j.faults;
  }

  -- why it is unfit
  told_beside : (blocks : ℕ) (pages : ℕ → List ℕ) (inodes : Inodes) (tx : List Edit) (put : List DataPage) → IsUnfitBeside tells blocks pages inodes tx put → IsUnfitBeside ⊤ blocks pages inodes tx put
  told_beside blocks pages inodes tx put (not_logged why) = not_logged (λ t all. why told all)
  told_beside blocks pages inodes tx put (frees_early why) = frees_early why
  told_beside blocks pages inodes tx put (keeps_gone why) = keeps_gone why
  told_beside blocks pages inodes tx put (not_marked why) = not_marked (λ t. why told)

  told_unfit : (tx : List Edit) (put : List DataPage) (old : Parts) → IsUnfit tells tx put old → IsUnfit ⊤ tx put old
  told_unfit tx put old (takes_unreserved why) = takes_unreserved why
  told_unfit tx put old (puts_dirty why) = puts_dirty why
  told_unfit tx put old (puts_astray why) = puts_astray why
  told_unfit tx put old (unfit_beside why) = unfit_beside (told_beside (length old.map.states) (page_of old.view) old.inodes tx put why)

  pub told_called : (entry : Entry) (tx : List Edit) (put : List DataPage) (old new : Parts) (called : Called) → CallIs tells crashes entry tx put old new called → CallIs ⊤ ⊥ entry tx put old new called
  unfolding told_joins
  told_called entry tx put old new (Entered number) j = record { joins = told_joins entry tx put number old new j.joins; writable = j.writable; moves = λ now seen asked t c. j.moves now seen asked (λ e. told) (λ e. absurd (c e)) }
  told_called entry tx put old new NoRoom (back, on, lacks) = (back, told_on old new on, record { notes = lacks.notes; each = lacks.each; notes_are = λ t. lacks.notes_are told; full = lacks.full })
  told_called entry tx put old new NoMemory (back, on) = (back, told_on old new on)
  told_called entry tx put old new Unfit (back, on, why) = (back, told_on old new on, told_unfit tx put old why)
  told_called entry tx put old new (Failed fault) (back, fails) = (back, record { is_fault = fails.is_fault; fails = by fails.fails })
    where
      by : StopsReading tells crashes old new ⊎ StopsPutting tells crashes tx put fault old new → StopsReading ⊤ ⊥ old new ⊎ StopsPutting ⊤ ⊥ tx put fault old new
      by (inl r) = inl (record { halted = r.halted; view = λ t. r.view told; disk = record { image = λ t. r.disk.image told; states = λ c. absurd c } })
      by (inr p) = inr (record { halted = p.halted; view = λ t. p.view told; moves = λ seen asked t c. p.moves seen asked (λ e. told) (λ e. absurd (c e)) })

  pub told_pages : (old new : Parts) → KeepsPages tells old new → KeepsPages ⊤ old new
  told_pages old new k = record { files = k.files; view = λ t. k.view told }

  pub told_shown : (old new : Parts) → StaysShown tells old new → StaysShown ⊤ old new
  told_shown old new s = record { block_places = s.block_places; inode_places = s.inode_places; view = λ t. s.view told }

  pub told_home : (old new : Parts) → HomesAlone tells old new → HomesAlone ⊤ old new
  told_home old new h = record { parts = h.parts; view = λ t. h.view told }

  pub told_mount : (s : Super) (old : Image) (volume : Parts) (log : LogParts) → IsMountOf tells crashes s old volume log → IsMountOf ⊤ ⊥ s old volume log
  told_mount s old volume log m = record {
    pages = m.pages;
    maps = m.maps;
    fresh = λ seen asked t c. m.fresh seen asked (λ e. told) (λ e. absurd (c e));
    log_fresh = λ seen asked t c. m.log_fresh seen asked (λ e. told) (λ e. absurd (c e));
    marked = λ t. m.marked told;
    superblock = λ t. m.superblock told;
    rest = m.rest;
    has_maps = m.has_maps;
    found = λ t. m.found told;
    keeps = λ t. m.keeps told;
  }
