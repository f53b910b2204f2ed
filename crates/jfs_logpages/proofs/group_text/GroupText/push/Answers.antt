use Rattle.std.proofs.Common.{◌≡◌, ◌++◌, [], ◌∷◌, ℕ, List, length, ap, arith}
use Rattle.std.proofs.lemmas.List.{length-append}
use Rattle.jfs_logfmt.specs.Written.{text_of}
use Rattle.jfs_logpages.specs.Group.{AreRecords}
use Rattle.jfs_logpages.proofs.Records.{AreRecords-push}
use Rattle.jfs_logpages.proofs.group_text.GroupText.push.Goals as goal

pushed : (bytes ends text new new_ends : List ℕ) (size : ℕ) → new ≡ bytes ++ text → size ≡ length new → new_ends ≡ ends ++ size ∷ [] → AreRecords 0 (bytes ++ text) (ends ++ length (bytes ++ text) ∷ []) → AreRecords 0 new new_ends
pushed bytes ends text new new_ends size e s f are = rw (f, s, e) are

pub invariant_of-self-in-Ok : goal.invariant_of-self-in-Ok
invariant_of-self-in-Ok c =
    let old = c.args.self.now in
    let text = text_of c.args.record.now in
    record {
      records = pushed old.bytes.items old.ends.items text _ _ c.len.result c.in_ok-write_record.ensures.ok (omega (arith, c.len.ensures)) c.in-Ok.ensures.items
          (AreRecords-push 0 old.bytes.items old.ends.items text c.args.record.now c.in_ok-write_record.ensures.spells old.records);
      small = omega (arith, ap (λ (b : List ℕ). length b) c.in_ok-write_record.ensures.ok, length-append old.bytes.items text, c.requires.small);
    }
