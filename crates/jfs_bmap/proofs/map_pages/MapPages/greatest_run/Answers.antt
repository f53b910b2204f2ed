use Rattle.std.proofs.Common.{◌≡◌, ◌∙◌, ℕ, Bool, sym, ap, w8, arith}
use Rattle.std.proofs.lemmas.Int.{to_z-of_z}
use Rattle.std.proofs.Math.Path.{fun_ext}
use Rattle.jfs_bits.specs.Bits.{greatest_run}
use Rattle.jfs_bmap.specs.Pages.{taken_on}
use Rattle.jfs_bmap.specs.Set.{taken_at}
use Rattle.jfs_bmap.proofs.Views.{taken_at-held}
use Rattle.jfs_bmap.proofs.map_pages.MapPages.greatest_run.Goals as goal

pub returns : goal.returns
returns c =
    let s = c.self.inside in
    let same : taken_on s.blocks s.dmaps.items ≡ taken_at c.args.self.now = fun_ext (λ b. sym (taken_at-held s.blocks s.dmaps.items c.args.self.now b c.self.view_is)) in
    to_z-of_z w8 c.greatest_run_under.result (omega arith)
    ∙ c.greatest_run_under.ensures (taken_on s.blocks s.dmaps.items) c.self.invariant.ranks
    ∙ ap (λ (f : ℕ → Bool). greatest_run f 23 23) same
