-- Records of a group, one after the other.
use Rattle.std.proofs.Common.{◌≡◌, ◌≤◌, ℕ, List, [], ◌∷◌, ◌++◌, length, take, drop, sym, ap, subst, ◌∙◌, arith}
use Rattle.std.proofs.lemmas.List.{length-append, take-append-le, take_all}
use Rattle.std.proofs.Math.Seq.{drop-append_seam}
use Rattle.jfs_logfmt.specs.declared.log_record.Record.{Record}
use Rattle.jfs_logfmt.specs.Text.{Spells}
use Rattle.jfs_logpages.specs.Ring.{AreEnds}
use Rattle.jfs_logpages.specs.Group.{AreRecords, IsRecordText}

length-spelled : (text : List ℕ) (r : Record) → Spells text r → 36 ≤ length text
length-spelled text r spells = omega (arith, ap (λ (b : List ℕ). length b) spells.parts, length-append spells.body spells.tail, spells.size)

pub AreRecords-push : (from : ℕ) (bytes ends text : List ℕ) (r : Record) → Spells text r → AreRecords from bytes ends → AreRecords from (bytes ++ text) (ends ++ length (bytes ++ text) ∷ [])
AreRecords-push from bytes [] text r spells are =
    let more = length-append bytes text in
    let some = length-spelled text r spells in
    let place : from ≡ length bytes = omega (arith, are.0, are.1) in
    let here : drop from (take (length (bytes ++ text)) (bytes ++ text)) ≡ text =
    ap (λ (b : List ℕ). drop from b) (take_all (length (bytes ++ text)) (bytes ++ text) (omega arith))
    ∙ ap (λ (n : ℕ). drop n (bytes ++ text)) place ∙ drop-append_seam bytes text in
    (omega (arith, more, some, are.0), (omega arith, (subst (λ (b : List ℕ). IsRecordText b) (sym here) ∣ (r, spells) ∣₁, (omega arith, omega arith))))
AreRecords-push from bytes (end ∷ ends) text r spells are = (
  are.0,
  (
    omega (arith, are.1.0, length-append bytes text),
    (
      subst (λ (b : List ℕ). IsRecordText (drop from b)) (sym (take-append-le end bytes text are.1.0)) are.1.1.0,
      AreRecords-push end bytes ends text r spells are.1.1.1,
    ),
  ),
)

pub ends-of : (from : ℕ) (bytes ends : List ℕ) → AreRecords from bytes ends → AreEnds from (length bytes) ends
ends-of from bytes [] are = omega (arith, are.0, are.1)
ends-of from bytes (end ∷ ends) are = (are.0, ends-of end bytes ends are.1.1.1)
