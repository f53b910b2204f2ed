use Rattle.std.proofs.Common.{arith}
use Rattle.jfs_dtpage.specs.Page.{names_of}
use Rattle.jfs_dtpage.proofs.Pages.{names_length}
use Rattle.jfs_dtree.proofs.Leading.{leads_found, leads_behind}
use Rattle.jfs_dtree.proofs.lead.child_place.Goals as goal

pub returns-in-Ok : goal.returns-in-Ok
returns-in-Ok c = leads_found (names_of c.args.form c.args.bytes.now) c.args.name.now c.in-Ok.place c.requires.page.1.1.1.1.0 c.in-Ok.ensures

pub returns-in-Err : goal.returns-in-Err
returns-in-Err c =
    leads_behind (names_of c.args.form c.args.bytes.now) c.args.name.now c.in-Err.place c.saturating_sub.result
    (let n = names_length c.args.form c.args.bytes.now in let s = c.requires.some in omega (arith, n, s)) c.saturating_sub.ensures c.in-Err.ensures
