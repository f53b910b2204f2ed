use Rattle.std.proofs.Common.{◌≡◌, ◌++◌, ◌∷◌, [], ℕ, List, length, sym, ap, ◌∙◌}
use Rattle.std.proofs.lemmas.List.{append-nil}
use Rattle.jfs_logfmt.specs.declared.log_record.Record.TheVariants.{SyncPt}
use Rattle.jfs_logfmt.specs.Written.{text_of}
use Rattle.jfs_logfmt.proofs.Numbers.{length-text}
use Rattle.jfs_volume_calls.proofs.point.PointText.new.Goals as goal

pub invariant_of-result : goal.invariant_of-result
invariant_of-result c =
    let e = c.in-Ok.ensures in
    let bytes : c.push.new.self.bytes.items ≡ text_of (SyncPt 0) = e.bytes ∙ ap (λ (b : List ℕ). b ++ text_of (SyncPt 0)) c.new-text.ensures.bytes in
    record {
      bytes = bytes ∙ sym (append-nil (text_of (SyncPt 0)));
      ends = e.ends ∙ ap (λ (b : List ℕ). b ++ length c.push.new.self.bytes.items ∷ []) c.new-text.ensures.ends ∙ ap (λ (n : ℕ). n ∷ []) (ap (λ (b : List ℕ). length b) bytes ∙ length-text (SyncPt 0));
    }
