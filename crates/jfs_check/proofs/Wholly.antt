-- All inodes in use and the aggregate's files, looked at.
use Rattle.std.proofs.Common.{◌≡◌, ◌<◌, inl, sym, ap, ◌∙◌, subst, ℕ, ◌*◌, Bool, false, ◌&&◌, nat_lt, List, [], length, replicate, is_some, Option, arith}
use Rattle.std.proofs.lemmas.Bool.{lt-ltb}
use Rattle.std.proofs.lemmas.Bool.Decides.{nat_tests}
use Rattle.std.proofs.lemmas.List.{length-replicate}
use Rattle.jfs_bits.specs.Bits.{is_taken}
use Rattle.jfs_disk.specs.Image.{Image, page_of}
use Rattle.jfs_iag.proofs.Maps.{zeros-clear}
use Rattle.jfs_super.specs.Rules.{blocks_of}
use Rattle.jfs_super.specs.declared.fields.Super.{Super}
use Rattle.jfs_findings.specs.meaning.specs.Readers.{readers}
use Rattle.jfs_findings.specs.mount_rules.specs.Subject.{Subject, subject_of, volume, object}
use Rattle.jfs_findings.specs.reader.specs.Map.{IsInodeMap}
use Rattle.jfs_findings.specs.reader.specs.declared.map.InodeMap.{InodeMap}
use Rattle.jfs_findings.specs.Gains.{Gains}
use Rattle.jfs_link_check.specs.object_check.specs.Laws.{IsOfFile}
use Rattle.jfs_link_check.specs.object_check.proofs.Found.{gains_both}
use Rattle.jfs_link_check.specs.owners.specs.Counts.{Counts}
use Rattle.jfs_link_check.specs.owners.specs.Held.{owned_below}
use Rattle.jfs_link_check.specs.owners.proofs.Joined.{counts_all}
use Rattle.jfs_each.specs.Each.{found_at, Visits}
use Rattle.jfs_link_check.specs.Notes.{NotedBelow, AreNoted}
use Rattle.jfs_link_check.specs.Uses.{AreUses}
use Rattle.jfs_link_check.specs.declared.uses.Use.{Use}
use Rattle.jfs_link_check.proofs.Noted.{all_noted}
use Rattle.jfs_check.specs.Look.{Sees}
use Rattle.jfs_check.specs.Looked.{IsOfTrees, Looked}
use Rattle.jfs_check.specs.declared.look.Look.{Look}
use Rattle.jfs_check.proofs.Walked.{LookedBelow, walked, all_first}

module _ (super : Super) (image : Image) (inodes : InodeMap) (is : IsInodeMap (readers (blocks_of super)) (page_of image) inodes) where
  abbrev whole : Subject
  whole = subject_of super (page_of image)

  start : (old : Look) → Counts old.census.owners (owned_below whole.readers (volume whole) 0) → old.used.items ≡ replicate (512 * inodes.iags) 0 → LookedBelow super image (512 * inodes.iags) old.findings.items 0 old
  start old counts zeros = record {
    owners = counts;
    size = ap length zeros ∙ length-replicate (512 * inodes.iags) 0;
    used = λ i l. ap (λ (xs : List ℕ). is_taken xs i) zeros ∙ zeros-clear (512 * inodes.iags) i ∙ none i (is_some (object whole i));
    findings = record { kept = λ f c. c; all = λ f q. absurd (let l = q.1 in omega (arith, l)); only = λ f c. inl c };
  }
    where
      none : (i : ℕ) (b : Bool) → false ≡ (nat_lt i 0 && b)
      none i b = grind (arith, nat_tests)

  pub looked_all : (now : ℕ) (after : Image) (places : List (Option ℕ)) (old new : Look) → now ≡ blocks_of super → after ≡ image → places ≡ (volume whole).extents → length places ≡ 128 * inodes.iags
      → Counts old.census.owners (owned_below whole.readers (volume whole) 0) → old.used.items ≡ replicate (512 * inodes.iags) 0 → Gains (IsOfFile whole) [] old.findings.items
      → Visits (Sees now after) (found_at (page_of after) places) 0 (32 * length places) old new → Looked whole (IsOfTrees whole) new
  looked_all now after places old new same stays at size counts zeros files visits =
      let v = subst (λ (ps : List (Option ℕ)). Visits (Sees (blocks_of super) image) (found_at (page_of image) ps) 0 (32 * length places) old new) at
      (subst (λ (i : Image). Visits (Sees (blocks_of super) i) (found_at (page_of i) places) 0 (32 * length places) old new) stays
      (subst (λ (n : ℕ). Visits (Sees n after) (found_at (page_of after) places) 0 (32 * length places) old new) same visits)) in
      let w = walked super image (512 * inodes.iags) (omega arith) old.findings.items old new (32 * length places) (omega (arith, size)) (start old counts zeros) v in
      let all : 32 * length places ≡ 32 * length (volume whole).extents = ap (λ (ps : List (Option ℕ)). 32 * length ps) at in
      record {
        owners = counts_all whole.readers (volume whole) (32 * length places) new.census.owners all w.owners;
        used = λ n l. (let m = is.iags in w.used n (omega (arith, l, m)) ∙ below n (32 * length places) (is_some (object whole n)) (omega (arith, l, m, size)));
        findings = gains_both files (all_first super image (32 * length places) old.findings.items new.findings.items all w.findings);
      }
    where
      below : (n m : ℕ) (b : Bool) → n < m → (nat_lt n m && b) ≡ b
      below n m b l = ap (λ t. t && b) (lt-ltb n m l)

-- all inodes in use were noted
pub noted_all : (blocks now b0 : ℕ) (image after i0 : Image) (places : List (Option ℕ)) (uses : List Use) (old new : Look) → b0 ≡ blocks → i0 ≡ image → now ≡ b0 → after ≡ i0 → AreUses (page_of image) places uses
    → ((blocks : ℕ) (page : ℕ → List ℕ) (places : List (Option ℕ)) → AreUses page places uses → NotedBelow blocks page (found_at page places) (32 * length places) 0 old.census.names)
    → Visits (Sees now after) (found_at (page_of after) places) 0 (32 * length places) old new → AreNoted blocks (page_of image) places new.census.names
noted_all blocks now b0 image after i0 places uses old new e0 f0 e f are none v =
    let here : after ≡ image = f ∙ f0 in
    let start = none now (page_of after) places (subst (λ (i : Image). AreUses (page_of i) places uses) (sym here) are) in
    let all = all_noted (λ (w : Look). w.census.names) (Sees now after) now (page_of after) (found_at (page_of after) places) (32 * length places) (λ n f w u s. s.trees.names) old new start v in
    subst (λ (n : ℕ). AreNoted n (page_of image) places new.census.names) (e ∙ e0) (subst (λ (i : Image). AreNoted now (page_of i) places new.census.names) here all)
