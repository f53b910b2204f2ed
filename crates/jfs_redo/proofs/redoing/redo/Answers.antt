use Rattle.std.proofs.Common.{◌≡◌, ◌∙◌, List, drop, sym, subst, Err, arith}
use Rattle.jfs_disk.specs.Image.{Image, page_of}
use Rattle.jfs_ranges.specs.declared.edit.Edit.{Edit}
use Rattle.jfs_super.specs.Rules.{blocks_of}
use Rattle.jfs_super.specs.declared.fields.Geometry.{Geometry}
use Rattle.jfs_mount_maps.specs.mount_rules.specs.Subject.{subject_of}
use Rattle.jfs_redo.specs.Log.{IsLogOf, AreCommitted}
use Rattle.jfs_redo.specs.Plan.{IsPlan, IsPlanOf}
use Rattle.jfs_redo.specs.Redo.{IsRestored}
use Rattle.jfs_redo.proofs.LogParts.{refusal}
use Rattle.jfs_disk.specs.Moment.{now_of}
use Rattle.jfs_super.proofs.Rules.{accepted_pages}
use Rattle.jfs_redo.specs.Mixed.{AreMixed}
use Rattle.jfs_redo.specs.Partly.{Writes}
use Rattle.jfs_redo.proofs.Meanwhile.{RestoredMoments, restored_moments, meanwhile, meanwhile_marked}
use Rattle.jfs_redo.proofs.Whole.{whole}
use Rattle.jfs_redo.proofs.redoing.redo.Goals as goal

pub returns-in-Err-clause-redone : goal.returns-in-Err-clause-redone
returns-in-Err-clause-redone g c tells =
    let s = c.args.s.now in
    let log = c.in-Err.ensures.log in
    refusal s (g.D.Disk.image c.args.disk.now) (g.D.Disk.image c.committed_in.new.disk) c.in-Err.why
    (subst (λ (i : Image). IsLogOf s.logpxd.len (blocks_of s) (drop s.logpxd.addr i) (Err c.in-Err.why)) (log.1 tells)
    (subst (λ (y : Geometry). IsLogOf y.log.len y.blocks (drop y.log.addr log.0) (Err c.in-Err.why)) c.geometry-layout.ensures.layout log.2))

pub returns-in-Ok-mark_clean-clause-redone : goal.returns-in-Ok-mark_clean-clause-redone
returns-in-Ok-mark_clean-clause-redone g c tells =
    let s = c.args.s.now in
    let txs = c.in-Ok.transactions in
    let plan = c.in-Ok-plan_on.plan in
    let layout = c.geometry-layout.result in
    let fields = c.geometry-layout.ensures.layout in
    let old = g.D.Disk.image c.args.disk.now in
    let mid = g.D.Disk.image c.restore.new.disk in
    let first : g.D.Disk.image c.committed_in.new.disk ≡ old = c.in-Ok.ensures.image tells in
    let second : g.D.Disk.image c.plan_on.new.disk ≡ old = c.in-Ok-plan_on.ensures.image tells ∙ first in
    let log = c.in-Ok.ensures.log in
    let are : AreCommitted s.logpxd.len (blocks_of s) (drop s.logpxd.addr old) txs =
    subst (λ (i : Image). AreCommitted s.logpxd.len (blocks_of s) (drop s.logpxd.addr i) txs) (log.1 tells)
    (subst (λ (y : Geometry). AreCommitted y.log.len y.blocks (drop y.log.addr log.0) txs) fields log.2) in
    let is : IsPlan (blocks_of s) s.agsize plan = subst (λ (y : Geometry). IsPlan y.blocks y.agsize plan) fields c.in-Ok-plan_on.ensures.plan in
    let of : IsPlanOf (subject_of s (page_of old)) txs plan =
    subst (λ (i : Image). IsPlanOf (subject_of s (page_of i)) txs plan) first
    (subst (λ (xs : List (List Edit)). IsPlanOf (subject_of s (page_of (g.D.Disk.image c.committed_in.new.disk))) xs plan) c.as_slice.ensures (c.in-Ok-plan_on.ensures.plans tells s (sym fields))) in
    let restored : IsRestored (blocks_of s) s.agsize txs plan old mid =
    subst (λ (y : Geometry). IsRestored y.blocks y.agsize txs plan old mid) fields
    (subst (λ (i : Image). IsRestored layout.blocks layout.agsize txs plan i mid) second
    (subst (λ (xs : List (List Edit)). IsRestored layout.blocks layout.agsize xs plan (g.D.Disk.image c.plan_on.new.disk) mid) c.as_slice-2.ensures (c.in-Ok-restore.ensures.restored tells))) in (
      txs,
      are,
      c.in-Ok-try_from.ensures.1 ∙ c.len.ensures,
      of.unbroken,
      whole s txs plan old mid (g.D.Disk.image c.mark_clean.new.disk) is of restored (c.in-Ok-mark_clean.ensures.others tells) (c.in-Ok-mark_clean.ensures.fields tells) (c.in-Ok-mark_clean.ensures.superblock tells),
    )

pub returns-in-Ok-mark_clean-clause-marked : goal.returns-in-Ok-mark_clean-clause-marked
returns-in-Ok-mark_clean-clause-marked g c = λ told. (g.D.Disk.past c.restore.new.disk, c.in-Ok-restore.ensures.rests told, c.in-Ok-mark_clean.ensures.marked told)

pub returns-in-Err-restore-clause-moments : goal.returns-in-Err-restore-clause-moments
returns-in-Err-restore-clause-moments g c = λ tells crashes rests.
    let s = c.args.s.now in
    let txs = c.in-Ok.transactions in
    let plan = c.in-Ok-plan_on.plan in
    let layout = c.geometry-layout.result in
    let fields = c.geometry-layout.ensures.layout in
    let old = g.D.Disk.image c.args.disk.now in
    let before = g.D.Disk.past c.args.disk.now in
    let first : g.D.Disk.image c.committed_in.new.disk ≡ old = c.in-Ok.ensures.image tells in
    let second : g.D.Disk.image c.plan_on.new.disk ≡ old = c.in-Ok-plan_on.ensures.image tells ∙ first in
    let same : g.D.Disk.past c.plan_on.new.disk ≡ before = c.in-Ok-plan_on.ensures.past crashes ∙ c.in-Ok.ensures.past crashes in
    let log = c.in-Ok.ensures.log in
    let are : AreCommitted s.logpxd.len (blocks_of s) (drop s.logpxd.addr old) txs =
    subst (λ (i : Image). AreCommitted s.logpxd.len (blocks_of s) (drop s.logpxd.addr i) txs) (log.1 tells)
    (subst (λ (y : Geometry). AreCommitted y.log.len y.blocks (drop y.log.addr log.0) txs) fields log.2) in
    let of : IsPlanOf (subject_of s (page_of old)) txs plan =
    subst (λ (i : Image). IsPlanOf (subject_of s (page_of i)) txs plan) first
    (subst (λ (xs : List (List Edit)). IsPlanOf (subject_of s (page_of (g.D.Disk.image c.committed_in.new.disk))) xs plan) c.as_slice.ensures (c.in-Ok-plan_on.ensures.plans tells s (sym fields))) in
    let mixed : AreMixed (blocks_of s) (Writes s txs old) old (now_of before) (g.D.Disk.past c.restore.new.disk) =
    restored_moments s txs layout (g.D.Disk.image c.plan_on.new.disk) old (g.D.Disk.past c.plan_on.new.disk) before (g.D.Disk.past c.restore.new.disk) plan fields second same of rests
    (subst (λ (xs : List (List Edit)). RestoredMoments s xs layout (g.D.Disk.image c.plan_on.new.disk) (g.D.Disk.past c.plan_on.new.disk) (g.D.Disk.past c.restore.new.disk) plan) c.as_slice-2.ensures (λ still same_layout of_plan. c.restore.ensures.moments tells crashes still s same_layout of_plan)) in
    meanwhile s txs old before are of.unbroken (g.D.Disk.past c.restore.new.disk) mixed

pub returns-in-Ok-mark_clean-clause-moments : goal.returns-in-Ok-mark_clean-clause-moments
returns-in-Ok-mark_clean-clause-moments g c = λ tells crashes rests.
    let s = c.args.s.now in
    let txs = c.in-Ok.transactions in
    let plan = c.in-Ok-plan_on.plan in
    let layout = c.geometry-layout.result in
    let fields = c.geometry-layout.ensures.layout in
    let old = g.D.Disk.image c.args.disk.now in
    let before = g.D.Disk.past c.args.disk.now in
    let first : g.D.Disk.image c.committed_in.new.disk ≡ old = c.in-Ok.ensures.image tells in
    let second : g.D.Disk.image c.plan_on.new.disk ≡ old = c.in-Ok-plan_on.ensures.image tells ∙ first in
    let same : g.D.Disk.past c.plan_on.new.disk ≡ before = c.in-Ok-plan_on.ensures.past crashes ∙ c.in-Ok.ensures.past crashes in
    let log = c.in-Ok.ensures.log in
    let are : AreCommitted s.logpxd.len (blocks_of s) (drop s.logpxd.addr old) txs =
    subst (λ (i : Image). AreCommitted s.logpxd.len (blocks_of s) (drop s.logpxd.addr i) txs) (log.1 tells)
    (subst (λ (y : Geometry). AreCommitted y.log.len y.blocks (drop y.log.addr log.0) txs) fields log.2) in
    let of : IsPlanOf (subject_of s (page_of old)) txs plan =
    subst (λ (i : Image). IsPlanOf (subject_of s (page_of i)) txs plan) first
    (subst (λ (xs : List (List Edit)). IsPlanOf (subject_of s (page_of (g.D.Disk.image c.committed_in.new.disk))) xs plan) c.as_slice.ensures (c.in-Ok-plan_on.ensures.plans tells s (sym fields))) in
    let mixed : AreMixed (blocks_of s) (Writes s txs old) old (now_of before) (g.D.Disk.past c.restore.new.disk) =
    restored_moments s txs layout (g.D.Disk.image c.plan_on.new.disk) old (g.D.Disk.past c.plan_on.new.disk) before (g.D.Disk.past c.restore.new.disk) plan fields second same of rests
    (subst (λ (xs : List (List Edit)). RestoredMoments s xs layout (g.D.Disk.image c.plan_on.new.disk) (g.D.Disk.past c.plan_on.new.disk) (g.D.Disk.past c.restore.new.disk) plan) c.as_slice-2.ensures (λ still same_layout of_plan. c.restore.ensures.moments tells crashes still s same_layout of_plan)) in
    let is : IsPlan (blocks_of s) s.agsize plan = subst (λ (y : Geometry). IsPlan y.blocks y.agsize plan) fields c.in-Ok-plan_on.ensures.plan in
    let mid = c.restore.new.disk in
    let restored : IsRestored (blocks_of s) s.agsize txs plan old (g.D.Disk.image mid) =
    subst (λ (y : Geometry). IsRestored y.blocks y.agsize txs plan old (g.D.Disk.image mid)) fields
    (subst (λ (i : Image). IsRestored layout.blocks layout.agsize txs plan i (g.D.Disk.image mid)) second
    (subst (λ (xs : List (List Edit)). IsRestored layout.blocks layout.agsize xs plan (g.D.Disk.image c.plan_on.new.disk) (g.D.Disk.image mid)) c.as_slice-2.ensures (c.in-Ok-restore.ensures.restored tells))) in
    let nine = accepted_pages s (g.D.Disk.page_count c.args.disk.now) c.requires.accepted in
    let count : g.D.Disk.page_count mid ≡ g.D.Disk.page_count c.args.disk.now = c.in-Ok-restore.ensures.pages ∙ c.in-Ok-plan_on.ensures.pages ∙ c.in-Ok.ensures.pages in
    meanwhile_marked s txs old before are of.unbroken (g.D.Disk.page_count mid) (g.D.Disk.image mid) plan (g.D.Disk.past mid) (g.D.Disk.past c.mark_clean.new.disk) mixed (c.in-Ok-restore.ensures.rests crashes)
    (g.met.D.Disk.has_pages mid tells) (omega (arith, nine, count)) (g.met.D.Disk.reads_now mid crashes) (g.met.D.Disk.reads_crash mid crashes) is of restored (c.mark_clean.ensures.moments tells crashes)

pub returns-clause-moments : goal.returns-clause-moments
returns-clause-moments g c = λ tells crashes rests.
    let s = c.args.s.now in
    let txs = c.in-Ok.transactions in
    let plan = c.in-Ok-plan_on.plan in
    let layout = c.geometry-layout.result in
    let fields = c.geometry-layout.ensures.layout in
    let old = g.D.Disk.image c.args.disk.now in
    let before = g.D.Disk.past c.args.disk.now in
    let first : g.D.Disk.image c.committed_in.new.disk ≡ old = c.in-Ok.ensures.image tells in
    let second : g.D.Disk.image c.plan_on.new.disk ≡ old = c.in-Ok-plan_on.ensures.image tells ∙ first in
    let same : g.D.Disk.past c.plan_on.new.disk ≡ before = c.in-Ok-plan_on.ensures.past crashes ∙ c.in-Ok.ensures.past crashes in
    let log = c.in-Ok.ensures.log in
    let are : AreCommitted s.logpxd.len (blocks_of s) (drop s.logpxd.addr old) txs =
    subst (λ (i : Image). AreCommitted s.logpxd.len (blocks_of s) (drop s.logpxd.addr i) txs) (log.1 tells)
    (subst (λ (y : Geometry). AreCommitted y.log.len y.blocks (drop y.log.addr log.0) txs) fields log.2) in
    let of : IsPlanOf (subject_of s (page_of old)) txs plan =
    subst (λ (i : Image). IsPlanOf (subject_of s (page_of i)) txs plan) first
    (subst (λ (xs : List (List Edit)). IsPlanOf (subject_of s (page_of (g.D.Disk.image c.committed_in.new.disk))) xs plan) c.as_slice.ensures (c.in-Ok-plan_on.ensures.plans tells s (sym fields))) in
    let mixed : AreMixed (blocks_of s) (Writes s txs old) old (now_of before) (g.D.Disk.past c.restore.new.disk) =
    restored_moments s txs layout (g.D.Disk.image c.plan_on.new.disk) old (g.D.Disk.past c.plan_on.new.disk) before (g.D.Disk.past c.restore.new.disk) plan fields second same of rests
    (subst (λ (xs : List (List Edit)). RestoredMoments s xs layout (g.D.Disk.image c.plan_on.new.disk) (g.D.Disk.past c.plan_on.new.disk) (g.D.Disk.past c.restore.new.disk) plan) c.as_slice-2.ensures (λ still same_layout of_plan. c.restore.ensures.moments tells crashes still s same_layout of_plan)) in
    let is : IsPlan (blocks_of s) s.agsize plan = subst (λ (y : Geometry). IsPlan y.blocks y.agsize plan) fields c.in-Ok-plan_on.ensures.plan in
    let mid = c.restore.new.disk in
    let restored : IsRestored (blocks_of s) s.agsize txs plan old (g.D.Disk.image mid) =
    subst (λ (y : Geometry). IsRestored y.blocks y.agsize txs plan old (g.D.Disk.image mid)) fields
    (subst (λ (i : Image). IsRestored layout.blocks layout.agsize txs plan i (g.D.Disk.image mid)) second
    (subst (λ (xs : List (List Edit)). IsRestored layout.blocks layout.agsize xs plan (g.D.Disk.image c.plan_on.new.disk) (g.D.Disk.image mid)) c.as_slice-2.ensures (c.in-Ok-restore.ensures.restored tells))) in
    let nine = accepted_pages s (g.D.Disk.page_count c.args.disk.now) c.requires.accepted in
    let count : g.D.Disk.page_count mid ≡ g.D.Disk.page_count c.args.disk.now = c.in-Ok-restore.ensures.pages ∙ c.in-Ok-plan_on.ensures.pages ∙ c.in-Ok.ensures.pages in
    meanwhile_marked s txs old before are of.unbroken (g.D.Disk.page_count mid) (g.D.Disk.image mid) plan (g.D.Disk.past mid) (g.D.Disk.past c.mark_clean.new.disk) mixed (c.in-Ok-restore.ensures.rests crashes)
    (g.met.D.Disk.has_pages mid tells) (omega (arith, nine, count)) (g.met.D.Disk.reads_now mid crashes) (g.met.D.Disk.reads_crash mid crashes) is of restored (c.mark_clean.ensures.moments tells crashes)
