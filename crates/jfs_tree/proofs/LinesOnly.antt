-- What a draft tells are lines alone.
use Rattle.std.proofs.Common.{◌≡◌, ap, ◌∙◌, ℕ, List, [], ◌∷◌, ◌++◌, append_assoc}
use Rattle.jfs_bits.specs.declared.rule.PageKind.{PageKind}
use Rattle.jfs_ranges.specs.declared.edit.Edit.{Edit}
use Rattle.jfs_ranges.specs.declared.edit.Edit.TheVariants.{Lines, NoRedo, Alloc, Free}
use Rattle.jfs_tree.specs.Tell.{AllLines, IsRuns, TellsLines, TellsRuns, TellsThen, TellsWhole}

runs_lines : (n : ℕ) (kind : PageKind) (old new : List ℕ) (first : ℕ) (edits : List Edit) → IsRuns n kind old new first edits → AllLines edits
runs_lines n kind old new first [] runs = tt
runs_lines n kind old new first (Lines page own at bytes ∷ edits) (a, b, c, d, (end, e, f, g, h, i, rest)) = runs_lines n kind old new end edits rest
runs_lines n kind old new first (NoRedo page ∷ edits) runs = runs
runs_lines n kind old new first (Alloc blocks ∷ edits) runs = runs
runs_lines n kind old new first (Free blocks ∷ edits) runs = runs

both_lines : (a b : List Edit) → AllLines a → AllLines b → AllLines (a ++ b)
both_lines [] b h i = i
both_lines (Lines page kind first bytes ∷ a) b h i = both_lines a b h i
both_lines (NoRedo page ∷ a) b h i = h
both_lines (Alloc blocks ∷ a) b h i = h
both_lines (Free blocks ∷ a) b h i = h

pub runs_told : (n : ℕ) (kind : PageKind) (old new : List ℕ) (tx later : List Edit) → TellsRuns n kind old new tx later → TellsLines tx later
runs_told n kind old new tx later (edits, is, runs) = (edits, runs_lines n kind old new 0 edits runs, is)

pub whole_told : (n : ℕ) (kind : PageKind) (new : List ℕ) (tx later : List Edit) → TellsWhole n kind new tx later → TellsLines tx later
whole_told n kind new tx later is = (Lines n kind 0 new ∷ [], tt, is)

pub more_told : (tx mid later : List Edit) → TellsLines tx mid → TellsLines mid later → TellsLines tx later
more_told tx mid later (a, all, is) (b, more, e) = (a ++ b, both_lines a b all more, e ∙ ap (λ es. es ++ b) is ∙ append_assoc tx a b)

-- lines that were told, and then these edits
pub lines_then : (tx copy later more last : List Edit) → copy ≡ tx → more ≡ later ++ last → TellsLines copy later → TellsThen last tx more
lines_then tx copy later more last is e (lines, all, told) = (lines, all, e ∙ ap (λ es. es ++ last) (told ∙ ap (λ es. es ++ lines) is) ∙ append_assoc tx lines last)
