use Rattle.std.proofs.Common.{◌++◌, ◌∙◌, ap, sym, Bool, [], ◌∷◌, if◌then◌else◌}
use Rattle.jfs_redo_steps.specs.ByPage.{edits_at}
use Rattle.jfs_redo_steps.proofs.index.add_edit.Goals as goal

pub returns : goal.returns
returns c p low = c.in_ok-add_range.ensures p low ∙ ap (λ (t : Bool). edits_at p c.args.index.now.items ++ (if t then c.args.edit.now ∷ [] else [])) (sym (c.pages_of-pages.ensures p))
