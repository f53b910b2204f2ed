use Rattle.std.proofs.Common.{◌∙◌, sym}
use Rattle.std.proofs.lemmas.Bool.Decides.{Decides-eqb}
use Rattle.std.proofs.lemmas.Slice.Eq.{slice_eq-Decides}
use Rattle.jfs_redo_steps.proofs.page.redo_page.Goals as goal

pub returns-clause-same : goal.returns-clause-same
returns-clause-same c h = sym c.bytes.ensures.value ∙ (slice_eq-Decides Decides-eqb _ _ _ c.eq.ensures).0 h ∙ c.bytes-2.ensures.value ∙ c.copy.ensures.bytes
