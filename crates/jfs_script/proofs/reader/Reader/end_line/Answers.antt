use Rattle.std.proofs.Common.{◌≡◌, ◌++◌, ◌∷◌, [], List, ℕ, refl, ap, subst, ◌∙◌}
use Rattle.jfs_script.specs.Lines.{without_return}
use Rattle.jfs_script.specs.Progress.{Judged}
use Rattle.jfs_script.proofs.Reading.{line_ends}
use Rattle.jfs_script.proofs.reader.Reader.end_line.Goals as goal

pub returns-clause-ok : goal.returns-clause-ok
returns-clause-ok c =
    let r = c.args.self.now in
    let bytes = c.args.bytes.now in
    let line : c.without_return-line.result.now ≡ without_return (r.open.items ++ bytes) = c.without_return-line.ensures ∙ ap without_return (c.deref.ensures.value ∙ c.in_ok-extend_from_slice.ensures.items) in
    λ front read. line_ends front bytes r _ read c.requires.few c.requires.no_feed c.clear.ensures.items refl
    (λ ended n judged. subst (λ (z : List ℕ). Judged (ended ++ z ∷ []) c.in_ok-self.field-0 c.judge.new.asked.items) line (c.in_ok-self.ensures.ok ended n judged))
