-- All findings, put in order, are the volume's.
use Rattle.std.proofs.Common.{◌≡◌, inl, inr, sym, ap, ◌∙◌, subst, ℕ, ◌*◌, ◌==◌, List, [], length, is_some, Option, None, arith}
use Rattle.std.proofs.lemmas.List.FromFn.{length-map-range_with_len}
use Rattle.jfs_bits.specs.Bits.{is_taken, count_below}
use Rattle.jfs_bits.proofs.Counts.{count_below-same}
use Rattle.jfs_link_check.specs.objects.specs.Owners.{owners}
use Rattle.jfs_link_check.specs.objects.specs.Image.{extent_on, extents_on}
use Rattle.jfs_link_check.specs.owners.specs.Counts.{Counts}
use Rattle.jfs_findings.specs.mount_rules.specs.Subject.{Subject, volume, object, blocks}
use Rattle.jfs_findings.specs.mount_rules.specs.Mount.{BadMount, broken_mount, iags}
use Rattle.jfs_findings.specs.Gains.{Gains, HasSame}
use Rattle.jfs_findings.specs.Findings.{AreFindings, IsFinding, SaysUnless, Rise}
use Rattle.jfs_findings.specs.declared.finding.Finding.{Finding}
use Rattle.jfs_check.specs.Looked.{IsOfAny, Looked}
use Rattle.jfs_check.specs.Checked.{IsChecked}
use Rattle.jfs_check.specs.declared.checked.Checked.{Checked}
use Rattle.jfs_check.specs.declared.look.Look.{Look}
use Rattle.jfs_check.proofs.Table.{any_says, says_any}

-- ---- the list

module _ (s : Subject) (mounts : broken_mount s ≡ None) where
  is_any : (f : Finding) → IsFinding s f → IsOfAny s f
  is_any f h = says_any s f (subst (λ (o : Option BadMount). SaysUnless o s f) mounts h)

  any_is : (f : Finding) → IsOfAny s f → IsFinding s f
  any_is f h = subst (λ (o : Option BadMount). SaysUnless o s f) (sym mounts) (any_says s f h)

  pub are_findings : (found list : List Finding) → Gains (IsOfAny s) [] found → Rise list → HasSame found list → AreFindings s list
  are_findings found list g order same = record {
    each = λ f c. elim (g.only f (same.only f c)) [ inl none ↦ absurd (let l = none.1 in omega (arith, l)) | inr h ↦ any_is f h ];
    all = λ f h. same.all f (g.all f (is_any f h));
    order = order;
  }

  -- ---- the counts

  places_are : length (volume s).extents ≡ 128 * iags s
  unfolding extents_on
  places_are = length-map-range_with_len (extent_on s.readers s.page) 0 (128 * iags s)

  pub concluded : (look : Look) (number : ℕ) (c : Checked) → look.census.owners.blocks ≡ blocks s → iags s ≡ number → Looked s (IsOfAny s) look → Rise c.findings.items → HasSame look.findings.items c.findings.items
      → ((count : ℕ → ℕ) → Counts look.census.owners count → c.free ≡ count_below look.census.owners.blocks (λ b. count b == 0)) → c.inodes ≡ count_below (4096 * number) (is_taken look.used.items) → IsChecked s c
  concluded look number c size number_is k order same free inodes = record {
    findings = are_findings look.findings.items c.findings.items k.findings order same;
    counts = λ _. (
      free (owners s.readers (volume s)) k.owners ∙ ap (λ n. count_below n (λ b. owners s.readers (volume s) b == 0)) size,
      inodes ∙ ap (λ n. count_below (4096 * n) (is_taken look.used.items)) (sym number_is)
          ∙ count_below-same (4096 * iags s) (is_taken look.used.items) (λ n. is_some (object s n)) (λ n l. k.used n l)
          ∙ ap (λ m. count_below m (λ n. is_some (object s n))) (let e = places_are in let q : 4096 * iags s ≡ 32 * length (volume s).extents = omega (arith, e) in q),
    );
  }
