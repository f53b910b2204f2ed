-- The pages after parts of a transaction.
use Rattle.std.proofs.Common.{◌≡◌, ◌<◌, sym, ap, ◌∙◌, ℕ, List, ◌++◌}
use Rattle.jfs_ranges.specs.declared.edit.Edit.{Edit}
use Rattle.jfs_ranges.specs.Apply.{apply_tx}
use Rattle.jfs_ranges.specs.Laid.{put_tx}
use Rattle.jfs_ranges.proofs.OnTop.{applied_onto}
use Rattle.jfs_unlink.specs.loss.specs.steps.proofs.Puts.{put_within}
use Rattle.jfs_calls_logged.specs.Calls.{ArePages}
use Rattle.jfs_calls_logged.specs.logged.specs.Logged.{LeavesPage}

-- one part after another
pub put_onto : (blocks : ℕ) (pages : ℕ → List ℕ) (tx more : List Edit) (q : ℕ) → q < blocks → put_tx blocks (tx ++ more) pages q ≡ apply_tx q more (put_tx blocks tx pages q)
put_onto blocks pages tx more q l = put_within blocks (tx ++ more) pages q l ∙ applied_onto q tx more (pages q) ∙ ap (apply_tx q more) (sym (put_within blocks tx pages q l))

module _ (blocks : ℕ) (pages : ℕ → List ℕ) (are : ArePages blocks pages) where
  -- edits that leave whatever page leave these
  pub left_alone : (tx : List Edit) (q : ℕ) → q < blocks → LeavesPage q tx → apply_tx q tx (pages q) ≡ pages q
  left_alone tx q l leaves = leaves (pages q) (are.sizes q l)

  -- after a part that leaves all pages another one finds them as they were
  pub put_after : (first more : List Edit) (q : ℕ) → q < blocks → LeavesPage q first → put_tx blocks (first ++ more) pages q ≡ apply_tx q more (pages q)
  put_after first more q l leaves = put_within blocks (first ++ more) pages q l ∙ applied_onto q first more (pages q) ∙ ap (apply_tx q more) (left_alone first q l leaves)
