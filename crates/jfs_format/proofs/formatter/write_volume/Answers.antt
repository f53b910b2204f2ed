use Rattle.std.proofs.Common.{◌<◌, ◌∙◌, List, length, sym, ap, subst, arith}
use Rattle.jfs_disk.specs.Image.{Image, page_of}
use Rattle.jfs_disk.specs.Crash.{AllSince}
use Rattle.jfs_disk.specs.Moment.{now_of}
use Rattle.jfs_disk.proofs.WriteThenSync.{resting-synced}
use Rattle.jfs_format.specs.Volume.{IsAllButSuper, IsOnTheWay}
use Rattle.jfs_format.specs.Steps.{IsKept}
use Rattle.jfs_format.proofs.Moments.{kept-since, longer, since-synced}
use Rattle.jfs_format.proofs.Ways.{volume-made, way-before, way-after, unnamed-kept, unnamed-outside}
use Rattle.jfs_format.proofs.formatter.write_volume.Goals as goal

pub returns-clause-volume : goal.returns-clause-volume
returns-clause-volume g c = λ t.
    let v = c.args.v in
    let mid = g.D.Disk.image c.sync.new.self in
    volume-made _ v mid (g.D.Disk.image c.write_primary.new.disk) c.requires
    (omega (arith, (g.met.D.Disk.has_pages c.sync.new.self t).number, c.in_ok-sync.ensures.pages, c.in_ok-write_all_but_super.ensures.wrote.pages, c.requires.least, c.requires.work, c.requires.behind, c.requires.end))
    (subst (λ (im : Image). IsAllButSuper v im) (sym (c.in_ok-sync.ensures.image t)) (c.in_ok-write_all_but_super.ensures.all t)) (c.in_ok-write_primary.ensures.image t)

pub returns-in_err-write_all_but_super-clause-unnamed : goal.returns-in_err-write_all_but_super-clause-unnamed
returns-in_err-write_all_but_super-clause-unnamed g c = λ t. unnamed-kept c.args.v (g.D.Disk.image c.args.disk.now) (g.D.Disk.image c.write_all_but_super.new.disk) (c.in_err-write_all_but_super.ensures.wrote.others t)

pub returns-in_err-sync-clause-unnamed : goal.returns-in_err-sync-clause-unnamed
returns-in_err-sync-clause-unnamed g c = λ t n side.
    ap (λ (im : Image). page_of im n) (c.in_err-sync.ensures.image t) ∙ unnamed-kept c.args.v (g.D.Disk.image c.args.disk.now) (g.D.Disk.image c.write_all_but_super.new.disk) (c.in_ok-write_all_but_super.ensures.wrote.others t) n side

pub returns-in_err-write_primary-clause-unnamed : goal.returns-in_err-write_primary-clause-unnamed
returns-in_err-write_primary-clause-unnamed g c = λ t n side.
    c.in_err-write_primary.ensures.others t n (unnamed-outside c.args.v n side) ∙ ap (λ (im : Image). page_of im n) (c.in_ok-sync.ensures.image t)
    ∙ unnamed-kept c.args.v (g.D.Disk.image c.args.disk.now) (g.D.Disk.image c.write_all_but_super.new.disk) (c.in_ok-write_all_but_super.ensures.wrote.others t) n side

pub returns-clause-unnamed : goal.returns-clause-unnamed
returns-clause-unnamed g c = λ t n side.
    c.in_ok-write_primary.ensures.others t n (unnamed-outside c.args.v n side) ∙ ap (λ (im : Image). page_of im n) (c.in_ok-sync.ensures.image t)
    ∙ unnamed-kept c.args.v (g.D.Disk.image c.args.disk.now) (g.D.Disk.image c.write_all_but_super.new.disk) (c.in_ok-write_all_but_super.ensures.wrote.others t) n side

pub returns-in_err-write_all_but_super-clause-moments : goal.returns-in_err-write_all_but_super-clause-moments
returns-in_err-write_all_but_super-clause-moments g c = λ t k rests left since.
    let laws = g.met.D.Disk in
    let old = c.args.disk.now in
    way-before c.args.v (g.D.Disk.image old) left (λ n keeps.
    kept-since (IsKept c.args.v.layout) (g.D.Disk.past old) (g.D.Disk.past c.write_all_but_super.new.disk) (laws.has_state old k) rests (c.in_err-write_all_but_super.ensures.wrote.past k) left since n keeps
    ∙ ap (λ (im : Image). page_of im n) (sym (laws.reads_now old k)))

pub returns-in_err-sync-clause-moments : goal.returns-in_err-sync-clause-moments
returns-in_err-sync-clause-moments g c = λ t k rests.
    let laws = g.met.D.Disk in
    let old = c.args.disk.now in
    subst (λ (past : List _). AllSince (IsOnTheWay c.args.v (g.D.Disk.image old)) past (now_of (g.D.Disk.past old))) (sym (c.in_err-sync.ensures.past_failed k))
    (λ left since.
    way-before c.args.v (g.D.Disk.image old) left (λ n keeps.
    kept-since (IsKept c.args.v.layout) (g.D.Disk.past old) (g.D.Disk.past c.write_all_but_super.new.disk) (laws.has_state old k) rests (c.in_ok-write_all_but_super.ensures.wrote.past k) left since n keeps
    ∙ ap (λ (im : Image). page_of im n) (sym (laws.reads_now old k))))

pub returns-in_err-write_primary-clause-moments : goal.returns-in_err-write_primary-clause-moments
returns-in_err-write_primary-clause-moments g c = λ t k rests.
    let laws = g.met.D.Disk in
    let v = c.args.v in
    let old = c.args.disk.now in
    let one = c.write_all_but_super.new.disk in
    let two = c.sync.new.self in
    let P = IsOnTheWay v (g.D.Disk.image old) in
    let from = now_of (g.D.Disk.past old) in
    let there : from < length (g.D.Disk.past one) = omega (arith, laws.has_state old k, (c.in_ok-write_all_but_super.ensures.wrote.past k).longer) in
    let first : AllSince P (g.D.Disk.past one) from =
    (λ left since. way-before v (g.D.Disk.image old) left (λ n keeps.
    kept-since (IsKept v.layout) (g.D.Disk.past old) (g.D.Disk.past one) (laws.has_state old k) rests (c.in_ok-write_all_but_super.ensures.wrote.past k) left since n keeps
    ∙ ap (λ (im : Image). page_of im n) (sym (laws.reads_now old k)))) in
    let second : AllSince P (g.D.Disk.past two) from = since-synced P (g.D.Disk.image one) (g.D.Disk.past one) (g.D.Disk.past two) from (laws.has_state one k) there (laws.reads_crash one k) (laws.reads_now one k) first (c.in_ok-sync.ensures.past k) in
    c.in_err-write_primary.ensures.moments t k (resting-synced (g.D.Disk.past one) (g.D.Disk.past two) (c.in_ok-sync.ensures.past k)) (g.D.Disk.image old) from
    (longer (g.D.Disk.past one) (g.D.Disk.past two) _ from there (c.in_ok-sync.ensures.past k)) second
    (λ left tears. way-after _ v (g.D.Disk.image old) (g.D.Disk.image two) left c.requires
    (omega (arith, (laws.has_pages two t).number, c.in_ok-sync.ensures.pages, c.in_ok-write_all_but_super.ensures.wrote.pages, c.requires.least, c.requires.work, c.requires.behind, c.requires.end))
    (subst (λ (im : Image). IsAllButSuper v im) (sym (c.in_ok-sync.ensures.image t)) (c.in_ok-write_all_but_super.ensures.all t))
    (λ n keeps. ap (λ (im : Image). page_of im n) (c.in_ok-sync.ensures.image t) ∙ c.in_ok-write_all_but_super.ensures.wrote.others t n keeps) tears)

pub returns-clause-moments : goal.returns-clause-moments
returns-clause-moments g c = λ t k rests.
    let laws = g.met.D.Disk in
    let v = c.args.v in
    let old = c.args.disk.now in
    let one = c.write_all_but_super.new.disk in
    let two = c.sync.new.self in
    let P = IsOnTheWay v (g.D.Disk.image old) in
    let from = now_of (g.D.Disk.past old) in
    let there : from < length (g.D.Disk.past one) = omega (arith, laws.has_state old k, (c.in_ok-write_all_but_super.ensures.wrote.past k).longer) in
    let first : AllSince P (g.D.Disk.past one) from =
    (λ left since. way-before v (g.D.Disk.image old) left (λ n keeps.
    kept-since (IsKept v.layout) (g.D.Disk.past old) (g.D.Disk.past one) (laws.has_state old k) rests (c.in_ok-write_all_but_super.ensures.wrote.past k) left since n keeps
    ∙ ap (λ (im : Image). page_of im n) (sym (laws.reads_now old k)))) in
    let second : AllSince P (g.D.Disk.past two) from = since-synced P (g.D.Disk.image one) (g.D.Disk.past one) (g.D.Disk.past two) from (laws.has_state one k) there (laws.reads_crash one k) (laws.reads_now one k) first (c.in_ok-sync.ensures.past k) in
    c.in_ok-write_primary.ensures.moments t k (resting-synced (g.D.Disk.past one) (g.D.Disk.past two) (c.in_ok-sync.ensures.past k)) (g.D.Disk.image old) from
    (longer (g.D.Disk.past one) (g.D.Disk.past two) _ from there (c.in_ok-sync.ensures.past k)) second
    (λ left tears. way-after _ v (g.D.Disk.image old) (g.D.Disk.image two) left c.requires
    (omega (arith, (laws.has_pages two t).number, c.in_ok-sync.ensures.pages, c.in_ok-write_all_but_super.ensures.wrote.pages, c.requires.least, c.requires.work, c.requires.behind, c.requires.end))
    (subst (λ (im : Image). IsAllButSuper v im) (sym (c.in_ok-sync.ensures.image t)) (c.in_ok-write_all_but_super.ensures.all t))
    (λ n keeps. ap (λ (im : Image). page_of im n) (c.in_ok-sync.ensures.image t) ∙ c.in_ok-write_all_but_super.ensures.wrote.others t n keeps) tears)
