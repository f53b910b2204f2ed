-- A broken rule is a finding.
use Rattle.std.proofs.Common.{rules, arith}
use Rattle.std.proofs.lemmas.Grind.{common_steps}
use Rattle.jfs_owners.specs.mount_rules.specs.Subject.{page_named}
use Rattle.jfs_owners.specs.findings.specs.Gains.{Gains}
use Rattle.jfs_object_check.specs.Steps.{Only}
use Rattle.jfs_object_check.proofs.Found.{as_named}
use Rattle.jfs_object_check.proofs.trees.settle.Goals as goal

pub returns-in-Ok-note_if-clause-settles : goal.returns-in-Ok-note_if-clause-settles
returns-in-Ok-note_if-clause-settles c =
    let g : Gains (Only c.args.kind (page_named c.args.at c.in-Err-Bad.page) 0 (Unit {0})) c.args.findings.now.items c.note_if.new.findings.items = as_named c.args.kind c.args.at c.in-Err-Bad.page c.page_named.result c.args.findings.now.items c.note_if.new.findings.items c.page_named.ensures c.in-Ok-note_if.ensures.found in
    first_of (search (rules, g), grind (arith, common_steps, g))
