use Rattle.std.proofs.Common.{◌≡◌, ◌∙◌, ◌-◌, ◌+◌, ℕ, List, Option, ap, ap₂}
use Rattle.std.specs.Prelude.{None}
use Rattle.jfs_gen.specs.declared.summary.Files.{Files}
use Rattle.jfs_gen.specs.Summary.{home_name, file_name, left_after, with_file, files_from}
use Rattle.jfs_gen.proofs.Files.{one_file}
use Rattle.jfs_gen.proofs.summary.files_of.Goals as goal

pub loop-file-preserved : goal.loop-file-preserved
loop-file-preserved c =
    let h = c.args.history.now in
    let client = c.args.client in
    let i = c.loop-file.file in
    let size : c.left_after.result ≡ left_after (home_name client) (file_name i) None h =
    c.left_after.ensures ∙ ap₂ (λ (a b : List ℕ). left_after a b None h) c.in_ok-home.ensures c.in_ok-name.ensures in
    ap (λ (all : Files). files_from h client (i + 1) (16 - (i + 1)) all) (c.with_file-all.ensures ∙ ap (λ (s : Option ℕ). with_file c.loop-file.all s) size)
    ∙ one_file h client i 16 c.loop-file.all c.loop-file-test.true ∙ c.loop-file.invariant
