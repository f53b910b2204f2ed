-- What a call answers is what it logs.
use Rattle.std.proofs.Common.{refl, subst, ℕ, List}
use Rattle.jfs_bits.specs.declared.descriptor.Moment.{Moment}
use Rattle.jfs_disk.specs.Image.{page_of}
use Rattle.jfs_ranges.specs.declared.edit.Edit.{Edit}
use Rattle.jfs_plain.specs.declared.call.Call.{Call}
use Rattle.jfs_files_logged.specs.files.specs.data_steps.specs.After.{with_data}
use Rattle.jfs_files_logged.specs.files.specs.data_steps.specs.declared.pages.DataPage.{DataPage}
use Rattle.jfs_files_logged.specs.files.specs.data_steps.specs.meaning.specs.Readers.{readers}
use Rattle.jfs_files_logged.specs.files.specs.data_steps.specs.objects.specs.Readers.{Readers}
use Rattle.jfs_joined_held.specs.volume.specs.Asked.{maps_in}
use Rattle.jfs_joined_held.specs.volume.specs.halves.specs.Parts.{Parts}
use Rattle.jfs_files_logged.proofs.Calls.{files_law}
use Rattle.jfs_joined_held.specs.Held.{blocks_at, volume_at}
use Rattle.jfs_joined_held.specs.Called.{volume_then, LogsCall}
use Rattle.jfs_joined_held.specs.held.specs.Held.{Mount}
use Rattle.jfs_joined_held.specs.held.specs.survival.specs.logged.specs.Own.{LogsItsOwn}
use Rattle.jfs_joined_held.specs.held.specs.survival.specs.logged.proofs.Own.{own_law}
use Rattle.jfs_joined_logged.specs.Answered.{IsAnsweredCall, AnsweredLaw}

abbrev LogsBy : Readers → (ℕ → ℕ) → Parts → List Edit → List DataPage → Type 0
LogsBy r area old tx put = LogsItsOwn r (with_data put (volume_at area old)) (volume_then area old tx put) tx

own : (area : ℕ → ℕ) (old : Parts) (call : Call) (now : Moment) (tx : List Edit) (put : List DataPage) → IsAnsweredCall area old call now tx put → LogsBy (readers (blocks_at old)) area old tx put
own area old call now tx put it = files_law (blocks_at old) (page_of old.view) area (maps_in old) call now tx put (record { are_pages = record { sizes = it.whole }; consistent = it.consistent }) refl it.fits it.put_whole it.meets

logs : (m : Mount) (area : ℕ → ℕ) (old : Parts) (tx : List Edit) (put : List DataPage) → LogsBy m.readers area old tx put → LogsCall m area old tx put
logs m area old tx put it = record { logs = own_law.well m.readers (with_data put (volume_at area old)) (volume_then area old tx put) tx it; untold = it.untold }

pub answered_law : AnsweredLaw
answered_law = record {
  own = own;
  logs = λ m area old call now tx put reads it. logs m area old tx put (subst (λ (r : Readers). LogsBy r area old tx put) reads (own area old call now tx put it));
}
