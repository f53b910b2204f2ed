-- The findings of objects, kind by kind.
use Rattle.std.proofs.Common.{◌≡◌, ◌⊎◌, inl, inr, refl, sym, subst, ℕ, true, Some}
use Rattle.jfs_bits.specs.Broken.{first_broken}
use Rattle.jfs_inode.specs.declared.read.BadInode.{BadInode}
use Rattle.jfs_inode.specs.Rules.{rows}
use Rattle.jfs_owners.specs.objects.specs.Objects.{Object}
use Rattle.jfs_owners.specs.mount_rules.specs.Subject.{Subject, blocks, IsObject}
use Rattle.jfs_owners.specs.findings.specs.Trees.{BreaksExtents, of_object, of_file}
use Rattle.jfs_owners.specs.findings.specs.Findings.{Says}
use Rattle.jfs_owners.specs.findings.specs.declared.finding.Finding.{Finding}
use Rattle.jfs_owners.specs.findings.specs.declared.finding.FindingKind.{FindingKind}
use Rattle.jfs_owners.specs.findings.specs.declared.finding.FindingKind.TheVariants as kinds
use Rattle.jfs_object_check.specs.Object.{SaysOf}
use Rattle.jfs_object_check.specs.Laws.{IsOfSome, IsOfFile, ObjectsLaw, is_of_objects}

-- the object stands where the finding says
stands : (s : Subject) (n at page value : ℕ) (o : Object) → IsObject s n at o → page ≡ at → value ≡ n → IsObject s value page o
stands s n at page value o is p v = subst (λ m. IsObject s m page o) (sym v) (subst (λ q. IsObject s n q o) (sym p) is)

module _ (s : Subject) where
  says : (kind : FindingKind) (page value n at : ℕ) (o : Object) → IsObject s n at o → SaysOf s.readers (blocks s) s.page n at o kind page value → Says s kind page value
  says kinds.Aggregate page value n at o is h = absurd h
  says kinds.Iag page value n at o is h = absurd h
  says kinds.Inode page value n at o is h = (o, stands s n at page value o is h.0 h.1, subst (λ m. (bad : BadInode) × (first_broken (rows o.inode m) ≡ Some bad)) (sym h.1) h.2)
  says kinds.Xtree page value n at o is h = (of_object n at h.0.tree_page o h.0.rule is h.0.breaks h.0.on, h.1)
  says kinds.Dtree page value n at o is h = (record { n = n; inode_page = at; tree_page = h.0.tree_page; o = o; rule = h.0.rule; is = is; breaks = h.0.breaks; on = h.0.on }, h.1)
  says kinds.Shared page value n at o is h = absurd h
  says kinds.Outside page value n at o is h = (n, o, subst (λ q. IsObject s n q o) (sym h.0) is, h.1, h.2, h.3)
  says kinds.Name page value n at o is h = absurd h
  says kinds.Links page value n at o is h = absurd h
  says kinds.Parent page value n at o is h = absurd h
  says kinds.Nblocks page value n at o is h = (o, stands s n at page value o is h.0 h.1, h.2)
  says kinds.Past page value n at o is h = (o, stands s n at page value o is h.0 h.1, h.2)
  says kinds.Thin page value n at o is h = absurd h
  says kinds.Map page value n at o is h = absurd h
  says kinds.Bmap page value n at o is h = absurd h

  from_file : (f : Finding) → IsOfFile s f → Says s f.kind f.page f.value
  from_file f h = let b = h.2 in subst (λ k. Says s k f.page f.value) (sym b.0) (of_file h.0 b.1.tree_page b.1.rule h.1 b.1.breaks b.1.on, b.2)

  Found : FindingKind → ℕ → ℕ → Type 0
  Found kind page value = let f : Finding = record { kind = kind; page = page; value = value } in IsOfSome s f ⊎ IsOfFile s f

  of_extents : (page value : ℕ) → BreaksExtents s page → value ≡ 0 → Found kinds.Xtree page value
  unfolding Found
  of_extents page value (of_object n at tree_page o rule is e on) v = inl (n, at, o, is, (record { tree_page = tree_page; rule = rule; breaks = e; on = on }, v))
  of_extents page value (of_file k tree_page rule among e on) v = inr (k, among, (refl, record { tree_page = tree_page; rule = rule; breaks = e; on = on }, v))

  found : (kind : FindingKind) (page value : ℕ) → is_of_objects kind ≡ true → Says s kind page value → Found kind page value
  unfolding Found
  found kinds.Aggregate page value k h = absurd h
  found kinds.Iag page value k h = absurd (cc k)
  found kinds.Inode page value k h = inl (value, page, h.0, h.1, (refl, refl, h.2))
  found kinds.Xtree page value k h = of_extents page value h.0 h.1
  found kinds.Dtree page value k h = let b = h.0 in inl (b.n, b.inode_page, b.o, b.is, (record { tree_page = b.tree_page; rule = b.rule; breaks = b.breaks; on = b.on }, h.1))
  found kinds.Shared page value k h = absurd (cc k)
  found kinds.Outside page value k h = inl (h.0, page, h.1, h.2, (refl, h.3, h.4, h.5))
  found kinds.Name page value k h = absurd (cc k)
  found kinds.Links page value k h = absurd (cc k)
  found kinds.Parent page value k h = absurd (cc k)
  found kinds.Nblocks page value k h = inl (value, page, h.0, h.1, (refl, refl, h.2))
  found kinds.Past page value k h = inl (value, page, h.0, h.1, (refl, refl, h.2))
  found kinds.Thin page value k h = absurd (cc k)
  found kinds.Map page value k h = absurd (cc k)
  found kinds.Bmap page value k h = absurd (cc k)

  back : (f : Finding) → is_of_objects f.kind ≡ true → Says s f.kind f.page f.value → IsOfSome s f ⊎ IsOfFile s f
  unfolding Found
  back f k h = found f.kind f.page f.value k h

pub objects_law : ObjectsLaw
objects_law = record {
  objects = λ s f h. says s f.kind f.page f.value h.0 h.1 h.2 h.3 h.4;
  files = from_file;
  all = back;
}
