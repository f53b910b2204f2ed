use Rattle.std.proofs.Common.{◌≡◌, ◌++◌, take}
use Rattle.std.specs.List.{flat_map}
use Rattle.jfs_script.specs.Text.{name_text}
use Rattle.jfs_script.proofs.print.push_name_texts.Given as goal

abbrev pub invariant-loop-entry : goal.invariant-loop-entry
invariant-loop-entry l = l.into.items ≡ l.initial.into.items ++ flat_map name_text (take l.entry-index l.names)
