use Rattle.std.proofs.Common.{◌≡◌, ◌<◌, ◌∙◌, ℕ, List, [], ◌∷◌, ◌++◌, sym, refl}
use Rattle.std.specs.Prelude.{Some}
use Rattle.jfs_disk.specs.Crash.{last_of, written, LeavesTorn}
use Rattle.jfs_redo_steps.specs.objects.specs.Contents.{block_of}
use Rattle.jfs_redo.specs.Partly.{KeepsMixed, PutsPage}
use Rattle.jfs_redo.proofs.Keeps.{keeps_write, keeps_fail, either_way}
use Rattle.jfs_redo.proofs.maps.write_at.Goals as goal

pub returns-in-Ok-Some-clause-moments : goal.returns-in-Ok-Some-clause-moments
returns-in-Ok-Some-clause-moments g c = λ tells crashes.
    let p = c.in-Ok-Some.at in
    let bytes = c.args.page.now.0 in
    let past = g.D.Disk.past c.args.disk.now in
    let new = g.D.Disk.past c.write.new.self in
    let place : block_of c.args.extents.now c.args.k ≡ Some p = sym c.in-Ok-Some.ensures.0 ∙ c.in-Ok-Some.field-0-is in
    let within : p < c.args.blocks = c.requires.lies p place in
    let puts = PutsPage (block_of c.args.extents.now c.args.k) (λ (page : List ℕ). page ≡ bytes) in
    either_way c.write.result (g.D.Disk.tells_crashes → new ≡ past ++ written p bytes (last_of past) ∷ []) (g.D.Disk.tells_crashes → LeavesTorn p bytes past new) (KeepsMixed c.args.blocks puts past new)
    c.write.ensures.past c.write.ensures.past_failed
    (λ wrote. keeps_write c.args.blocks p bytes puts past new within c.note_bytes.ensures.size (place, refl) (wrote crashes))
    (λ failed. keeps_fail c.args.blocks p bytes puts (g.D.Disk.image c.args.disk.now) past new within c.note_bytes.ensures.size (place, refl) (g.met.D.Disk.reads_now c.args.disk.now crashes) (g.met.D.Disk.reads_crash c.args.disk.now crashes) (failed crashes))
