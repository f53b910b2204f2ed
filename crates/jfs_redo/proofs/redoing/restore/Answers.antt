use Rattle.std.proofs.Common.{◌≡◌, ◌≤◌, ◌+◌, ◌-◌, ◌/◌, ◌∙◌, ℕ, length, map, refl, sym, ap, subst, arith}
use Rattle.jfs_disk.specs.Image.{Image, ArePages}
use Rattle.jfs_disk.specs.Crash.{last_of}
use Rattle.jfs_disk.specs.Moment.{now_of}
use Rattle.jfs_disk.proofs.Flow.{length-seen_of}
use Rattle.jfs_imap.specs.Inodes.{Inodes, inodes_of}
use Rattle.jfs_records.specs.Redo.{all_of}
use Rattle.jfs_super.specs.Rules.{blocks_of}
use Rattle.jfs_super.specs.declared.fields.Geometry.{Geometry}
use Rattle.jfs_mount_maps.specs.Maps.{groups_of}
use Rattle.jfs_mount_maps.specs.sets.specs.Sets.{extent_from}
use Rattle.jfs_redo_steps.specs.Pages.{ArePagesRedone, AreOnTheWay}
use Rattle.jfs_redo.specs.Mixed.{AreMixed}
use Rattle.jfs_redo.specs.Plan.{IsPlan}
use Rattle.jfs_redo.specs.Partly.{Writes, KeepsMixed, PutsMaps}
use Rattle.jfs_redo.proofs.WritesMaps.{way_mixed, maps_written}
use Rattle.jfs_redo.proofs.redoing.restore.Goals as goal

pub returns-in-Err-clause-moments : goal.returns-in-Err-clause-moments
returns-in-Err-clause-moments g c = λ tells crashes rests s layout of.
    let old = g.D.Disk.image c.args.disk.now in
    let before = g.D.Disk.past c.args.disk.now in
    let mid = c.redo_pages.new.disk in
    let blocks : blocks_of s ≡ c.args.layout.blocks = ap (λ (y : Geometry). y.blocks) layout in
    let pages = g.met.D.Disk.has_pages c.args.disk.now tells in
    let sizes : ArePages (length old) old = record { number = refl; sizes = λ p low. pages.sizes p (omega (arith, low, pages.number)) } in
    let whole : blocks_of s ≤ length old = omega (arith, blocks, pages.number, c.requires.within) in
    let number : length (last_of (g.D.Disk.past mid)) ≡ length old =
    sym (length-seen_of (last_of (g.D.Disk.past mid))) ∙ ap (λ (i : Image). length i) (sym (g.met.D.Disk.reads_now mid crashes)) ∙ (g.met.D.Disk.has_pages mid tells).number ∙ c.redo_pages.ensures.pages ∙ sym pages.number in
    let first : AreMixed (blocks_of s) (Writes s c.args.transactions.now old) old (now_of before) (g.D.Disk.past mid) =
    way_mixed s c.args.transactions.now old sizes whole (now_of before) (g.D.Disk.past mid) number
    (subst (λ (n : ℕ). AreOnTheWay n (all_of c.args.transactions.now) old (now_of before) (g.D.Disk.past mid)) (sym blocks) (c.redo_pages.ensures.moments tells crashes rests)) in
    subst (λ (n : ℕ). AreMixed n (Writes s c.args.transactions.now old) old (now_of before) (g.D.Disk.past mid)) blocks
    (first)

pub returns-in-Err-inodes_on-clause-moments : goal.returns-in-Err-inodes_on-clause-moments
returns-in-Err-inodes_on-clause-moments g c = λ tells crashes rests s layout of.
    let old = g.D.Disk.image c.args.disk.now in
    let before = g.D.Disk.past c.args.disk.now in
    let mid = c.redo_pages.new.disk in
    let blocks : blocks_of s ≡ c.args.layout.blocks = ap (λ (y : Geometry). y.blocks) layout in
    let pages = g.met.D.Disk.has_pages c.args.disk.now tells in
    let sizes : ArePages (length old) old = record { number = refl; sizes = λ p low. pages.sizes p (omega (arith, low, pages.number)) } in
    let whole : blocks_of s ≤ length old = omega (arith, blocks, pages.number, c.requires.within) in
    let number : length (last_of (g.D.Disk.past mid)) ≡ length old =
    sym (length-seen_of (last_of (g.D.Disk.past mid))) ∙ ap (λ (i : Image). length i) (sym (g.met.D.Disk.reads_now mid crashes)) ∙ (g.met.D.Disk.has_pages mid tells).number ∙ c.redo_pages.ensures.pages ∙ sym pages.number in
    let first : AreMixed (blocks_of s) (Writes s c.args.transactions.now old) old (now_of before) (g.D.Disk.past mid) =
    way_mixed s c.args.transactions.now old sizes whole (now_of before) (g.D.Disk.past mid) number
    (subst (λ (n : ℕ). AreOnTheWay n (all_of c.args.transactions.now) old (now_of before) (g.D.Disk.past mid)) (sym blocks) (c.redo_pages.ensures.moments tells crashes rests)) in
    subst (λ (n : ℕ). AreMixed n (Writes s c.args.transactions.now old) old (now_of before) (g.D.Disk.past c.inodes_on.new.disk)) blocks
    (subst (AreMixed (blocks_of s) (Writes s c.args.transactions.now old) old (now_of before)) (sym (c.inodes_on.ensures.past crashes)) first)

pub returns-in-Ok-write_maps-clause-moments : goal.returns-in-Ok-write_maps-clause-moments
returns-in-Ok-write_maps-clause-moments g c = λ tells crashes rests s layout of.
    let old = g.D.Disk.image c.args.disk.now in
    let before = g.D.Disk.past c.args.disk.now in
    let mid = c.redo_pages.new.disk in
    let blocks : blocks_of s ≡ c.args.layout.blocks = ap (λ (y : Geometry). y.blocks) layout in
    let pages = g.met.D.Disk.has_pages c.args.disk.now tells in
    let sizes : ArePages (length old) old = record { number = refl; sizes = λ p low. pages.sizes p (omega (arith, low, pages.number)) } in
    let whole : blocks_of s ≤ length old = omega (arith, blocks, pages.number, c.requires.within) in
    let number : length (last_of (g.D.Disk.past mid)) ≡ length old =
    sym (length-seen_of (last_of (g.D.Disk.past mid))) ∙ ap (λ (i : Image). length i) (sym (g.met.D.Disk.reads_now mid crashes)) ∙ (g.met.D.Disk.has_pages mid tells).number ∙ c.redo_pages.ensures.pages ∙ sym pages.number in
    let first : AreMixed (blocks_of s) (Writes s c.args.transactions.now old) old (now_of before) (g.D.Disk.past mid) =
    way_mixed s c.args.transactions.now old sizes whole (now_of before) (g.D.Disk.past mid) number
    (subst (λ (n : ℕ). AreOnTheWay n (all_of c.args.transactions.now) old (now_of before) (g.D.Disk.past mid)) (sym blocks) (c.redo_pages.ensures.moments tells crashes rests)) in
    let plan = c.args.plan.now in
    let same : g.D.Disk.past c.inodes_on.new.disk ≡ g.D.Disk.past mid = c.inodes_on.ensures.past crashes in
    let second : AreMixed (blocks_of s) (Writes s c.args.transactions.now old) old (now_of before) (g.D.Disk.past c.inodes_on.new.disk) = subst (AreMixed (blocks_of s) (Writes s c.args.transactions.now old) old (now_of before)) (sym same) first in
    let is : IsPlan (blocks_of s) s.agsize plan = subst (λ (y : Geometry). IsPlan y.blocks y.agsize plan) (sym layout) c.requires.plan in
    let redone : ArePagesRedone (blocks_of s) (all_of c.args.transactions.now) old (g.D.Disk.image mid) = subst (λ (n : ℕ). ArePagesRedone n (all_of c.args.transactions.now) old (g.D.Disk.image mid)) (sym blocks) (c.in-Ok.ensures.redone tells) in
    let found = c.in-Ok-inodes_on.ensures.inodes tells in
    let kept : KeepsMixed (blocks_of s) (PutsMaps (blocks_of s) plan c.in-Ok-inodes_on.inodes) (g.D.Disk.past c.inodes_on.new.disk) (g.D.Disk.past c.write_maps.new.disk) =
    subst (λ (n : ℕ). KeepsMixed n (PutsMaps n plan c.in-Ok-inodes_on.inodes) (g.D.Disk.past c.inodes_on.new.disk) (g.D.Disk.past c.write_maps.new.disk)) is.blocks_are (c.write_maps.ensures.moments tells crashes) in
    let inodes : c.in-Ok-inodes_on.inodes ≡ inodes_of found.0 (map extent_from plan.places.items) plan.maps.inodes.iags s.agsize ((blocks_of s + s.agsize - 1) / s.agsize) =
    found.2 ∙ ap (λ (y : Geometry). inodes_of found.0 (map extent_from plan.places.items) plan.maps.inodes.iags y.agsize (groups_of y)) (sym layout) in
    let writes = maps_written s c.args.transactions.now plan old (g.D.Disk.image mid) is of redone found.0 found.1 in
    subst (λ (n : ℕ). AreMixed n (Writes s c.args.transactions.now old) old (now_of before) (g.D.Disk.past c.write_maps.new.disk)) blocks
    (kept s c.args.transactions.now old (now_of before) sizes whole (λ p page puts. writes p page (subst (λ (m : Inodes). PutsMaps (blocks_of s) plan m p page) inodes puts)) second)

pub returns-clause-moments : goal.returns-clause-moments
returns-clause-moments g c = λ tells crashes rests s layout of.
    let old = g.D.Disk.image c.args.disk.now in
    let before = g.D.Disk.past c.args.disk.now in
    let mid = c.redo_pages.new.disk in
    let blocks : blocks_of s ≡ c.args.layout.blocks = ap (λ (y : Geometry). y.blocks) layout in
    let pages = g.met.D.Disk.has_pages c.args.disk.now tells in
    let sizes : ArePages (length old) old = record { number = refl; sizes = λ p low. pages.sizes p (omega (arith, low, pages.number)) } in
    let whole : blocks_of s ≤ length old = omega (arith, blocks, pages.number, c.requires.within) in
    let number : length (last_of (g.D.Disk.past mid)) ≡ length old =
    sym (length-seen_of (last_of (g.D.Disk.past mid))) ∙ ap (λ (i : Image). length i) (sym (g.met.D.Disk.reads_now mid crashes)) ∙ (g.met.D.Disk.has_pages mid tells).number ∙ c.redo_pages.ensures.pages ∙ sym pages.number in
    let first : AreMixed (blocks_of s) (Writes s c.args.transactions.now old) old (now_of before) (g.D.Disk.past mid) =
    way_mixed s c.args.transactions.now old sizes whole (now_of before) (g.D.Disk.past mid) number
    (subst (λ (n : ℕ). AreOnTheWay n (all_of c.args.transactions.now) old (now_of before) (g.D.Disk.past mid)) (sym blocks) (c.redo_pages.ensures.moments tells crashes rests)) in
    let plan = c.args.plan.now in
    let same : g.D.Disk.past c.inodes_on.new.disk ≡ g.D.Disk.past mid = c.inodes_on.ensures.past crashes in
    let second : AreMixed (blocks_of s) (Writes s c.args.transactions.now old) old (now_of before) (g.D.Disk.past c.inodes_on.new.disk) = subst (AreMixed (blocks_of s) (Writes s c.args.transactions.now old) old (now_of before)) (sym same) first in
    let is : IsPlan (blocks_of s) s.agsize plan = subst (λ (y : Geometry). IsPlan y.blocks y.agsize plan) (sym layout) c.requires.plan in
    let redone : ArePagesRedone (blocks_of s) (all_of c.args.transactions.now) old (g.D.Disk.image mid) = subst (λ (n : ℕ). ArePagesRedone n (all_of c.args.transactions.now) old (g.D.Disk.image mid)) (sym blocks) (c.in-Ok.ensures.redone tells) in
    let found = c.in-Ok-inodes_on.ensures.inodes tells in
    let kept : KeepsMixed (blocks_of s) (PutsMaps (blocks_of s) plan c.in-Ok-inodes_on.inodes) (g.D.Disk.past c.inodes_on.new.disk) (g.D.Disk.past c.write_maps.new.disk) =
    subst (λ (n : ℕ). KeepsMixed n (PutsMaps n plan c.in-Ok-inodes_on.inodes) (g.D.Disk.past c.inodes_on.new.disk) (g.D.Disk.past c.write_maps.new.disk)) is.blocks_are (c.write_maps.ensures.moments tells crashes) in
    let inodes : c.in-Ok-inodes_on.inodes ≡ inodes_of found.0 (map extent_from plan.places.items) plan.maps.inodes.iags s.agsize ((blocks_of s + s.agsize - 1) / s.agsize) =
    found.2 ∙ ap (λ (y : Geometry). inodes_of found.0 (map extent_from plan.places.items) plan.maps.inodes.iags y.agsize (groups_of y)) (sym layout) in
    let writes = maps_written s c.args.transactions.now plan old (g.D.Disk.image mid) is of redone found.0 found.1 in
    subst (λ (n : ℕ). AreMixed n (Writes s c.args.transactions.now old) old (now_of before) (g.D.Disk.past c.write_maps.new.disk)) blocks
    (kept s c.args.transactions.now old (now_of before) sizes whole (λ p page puts. writes p page (subst (λ (m : Inodes). PutsMaps (blocks_of s) plan m p page) inodes puts)) second)
