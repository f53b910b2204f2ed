use Rattle.std.proofs.Common.{refl}
use Rattle.jfs_findings.proofs.Compared.{map_page_as, iag_page_as, control_page_as}
use Rattle.jfs_findings.proofs.law.canonical_pages_pass.Goals as goal

pub returns : goal.returns
returns c = record {
  block_map = λ blocks agsize n taken page p. map_page_as blocks agsize taken taken (λ b. refl) n page p;
  iag = λ taken extent number start links page p. iag_page_as taken taken extent extent (λ i _. refl) (λ e _. refl) number start links page p;
  control = λ taken extent iags numag page p. control_page_as taken taken extent extent iags (λ i _. refl) (λ e _. refl) numag page p;
}
