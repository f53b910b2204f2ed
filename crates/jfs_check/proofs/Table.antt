-- Which part of a check gives the findings of which kind.
use Rattle.std.proofs.Common.{◌⊎◌, inl, inr, refl, sym, subst, ℕ}
use Rattle.jfs_findings.specs.mount_rules.specs.Subject.{Subject}
use Rattle.jfs_findings.specs.Findings.{Says}
use Rattle.jfs_findings.specs.declared.finding.Finding.{Finding}
use Rattle.jfs_findings.specs.declared.finding.FindingKind.{FindingKind}
use Rattle.jfs_findings.specs.declared.finding.FindingKind.TheVariants as kinds
use Rattle.jfs_link_check.specs.object_check.specs.Laws.{IsOfSome, IsOfFile}
use Rattle.jfs_link_check.specs.object_check.proofs.OfObjects.{objects_law}
use Rattle.jfs_link_check.specs.object_check.proofs.OfThin.{thin_law}
use Rattle.jfs_check.specs.Looked.{IsOfAny}

module _ (s : Subject) where
  -- whatever a part finds is wrong
  pub any_says : (f : Finding) → IsOfAny s f → Says s f.kind f.page f.value
  any_says f (inl (inl (inl h))) = objects_law.files s f h
  any_says f (inl (inl (inr (inl h)))) = objects_law.objects s f h
  any_says f (inl (inl (inr (inr h)))) = thin_law.each s f h
  any_says f (inl (inr (inl h))) = subst (λ (k : FindingKind). Says s k f.page f.value) (sym h.kind) (h.is, h.page)
  any_says f (inl (inr (inr (inl h)))) = h.1
  any_says f (inl (inr (inr (inr h)))) = h.1
  any_says f (inr h) = h.1

  Found : FindingKind → ℕ → ℕ → Type 0
  Found kind page value = let f : Finding = record { kind = kind; page = page; value = value } in IsOfAny s f

  objects : (f : Finding) → IsOfSome s f ⊎ IsOfFile s f → IsOfAny s f
  objects f (inl h) = inl (inl (inr (inl h)))
  objects f (inr h) = inl (inl (inl h))

  found : (kind : FindingKind) (page value : ℕ) → Says s kind page value → Found kind page value
  unfolding Found
  found kinds.Aggregate page value h = absurd h
  found kinds.Iag page value h = inl (inr (inr (inr (refl, h))))
  found kinds.Inode page value h = objects (record { kind = kinds.Inode; page = page; value = value }) (objects_law.all s (record { kind = kinds.Inode; page = page; value = value }) refl h)
  found kinds.Xtree page value h = objects (record { kind = kinds.Xtree; page = page; value = value }) (objects_law.all s (record { kind = kinds.Xtree; page = page; value = value }) refl h)
  found kinds.Dtree page value h = objects (record { kind = kinds.Dtree; page = page; value = value }) (objects_law.all s (record { kind = kinds.Dtree; page = page; value = value }) refl h)
  found kinds.Shared page value h = inl (inr (inl (record { kind = refl; is = h.0; page = h.1 })))
  found kinds.Outside page value h = objects (record { kind = kinds.Outside; page = page; value = value }) (objects_law.all s (record { kind = kinds.Outside; page = page; value = value }) refl h)
  found kinds.Name page value h = inr (refl, h)
  found kinds.Links page value h = inr (refl, h)
  found kinds.Parent page value h = inr (refl, h)
  found kinds.Nblocks page value h = objects (record { kind = kinds.Nblocks; page = page; value = value }) (objects_law.all s (record { kind = kinds.Nblocks; page = page; value = value }) refl h)
  found kinds.Past page value h = objects (record { kind = kinds.Past; page = page; value = value }) (objects_law.all s (record { kind = kinds.Past; page = page; value = value }) refl h)
  found kinds.Thin page value h = inl (inl (inr (inr (thin_law.all s (record { kind = kinds.Thin; page = page; value = value }) refl h))))
  found kinds.Map page value h = inl (inr (inr (inl (inl refl, h))))
  found kinds.Bmap page value h = inl (inr (inr (inl (inr refl, h))))

  -- whatever is wrong is found by a part
  pub says_any : (f : Finding) → Says s f.kind f.page f.value → IsOfAny s f
  unfolding Found
  says_any f h = found f.kind f.page f.value h
