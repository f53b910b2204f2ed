use Rattle.std.proofs.Common.{◌∷◌, [], ◌++◌, ℕ, List, length, sym, ap, ◌∙◌, append-nil}
use Rattle.jfs_logfmt.specs.declared.log_record.Record.TheVariants.{SyncPt}
use Rattle.jfs_logfmt.specs.Written.{text_of}
use Rattle.jfs_records.specs.Entries.{point}
use Rattle.jfs_records.proofs.ReadBack.{length-items}
use Rattle.jfs_shared.proofs.point_group.PointGroup.new.Goals as goal

pub invariant_of-result : goal.invariant_of-result
invariant_of-result c =
    let bytes = c.in-Ok.ensures.bytes ∙ ap (λ (b : List ℕ). b ++ text_of (SyncPt 0)) c.new-text.ensures.bytes ∙ sym (append-nil (text_of (SyncPt 0))) in
    record {
      bytes = bytes;
      ends = c.in-Ok.ensures.ends
          ∙ ap (λ (l : List ℕ). l ++ length c.push.new.self.bytes.items ∷ []) c.new-text.ensures.ends
          ∙ ap (λ (n : ℕ). n ∷ []) (ap (λ (b : List ℕ). length b) bytes ∙ length-items 0 0 (point 0 ∷ []));
    }
