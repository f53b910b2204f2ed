-- An append's conditions, edit by edit, give those that the core uses.
use Rattle.std.proofs.Common.{◌≡◌, ◌⊎◌, ℕ, true, false, List, length, sym, ap, ◌∙◌, inl, inr}
use Rattle.jfs_ranges.specs.declared.edit.Edit.{Edit}
use Rattle.jfs_ranges.specs.Apply.{apply_tx}
use Rattle.jfs_core.proofs.Bytes.{apply_tx-untouched}
use Rattle.jfs_recovery.specs.Face.{Face, Pages, byte, matters, IsStep}
use Rattle.jfs_recovery.specs.Core.{IsLogged}
use Rattle.jfs_records.specs.Redo.{closes_in}
use Rattle.jfs_recovery.specs.Lines.{rest_of, ReadsEdits, LogsWell}
use Rattle.jfs_recovery.proofs.Lines.{whole_given}

pub logged_by_edits : (f : Face) → ReadsEdits f → (s : Pages) (tx : List Edit) (t : Pages) (p : ℕ) → length (s p) ≡ 4096 → f.is_map p ≡ false → IsStep f s tx t → LogsWell f s tx t p → IsLogged f s tx t p
logged_by_edits f reads s tx t p size page follows well = record {
  whole = λ there why a i ha small.
      ap (λ (x : List ℕ). byte x i) (reads.redoes tx p a)
      ∙ whole_given tx p (well.whole there (as_edits why)) i small a (s p) ha size
      ∙ ap (λ (x : List ℕ). byte x i) (sym lines_are);
  shut = λ gone a ha. reads.redoes tx p a ∙ apply_tx-untouched p (rest_of p tx) a ha (well.shut gone);
  noted = λ gone was. reads.closes tx p ∙ well.noted gone was;
  fixed = λ e. lines_are ∙ apply_tx-untouched p tx (s p) size (well.fixed e);
}
  where
    lines_are : t p ≡ apply_tx p tx (s p)
    lines_are = follows.pages p page ∙ reads.lines tx p (s p)

    as_edits : (f.closes tx p ≡ true) ⊎ (matters f s p ≡ false) → (closes_in p tx ≡ true) ⊎ (matters f s p ≡ false)
    as_edits (inl e) = inl (sym (reads.closes tx p) ∙ e)
    as_edits (inr e) = inr e
