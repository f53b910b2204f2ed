-- The findings of this kind, over all objects.
use Rattle.std.proofs.Common.{◌≡◌, refl, sym, subst, ℕ}
use Rattle.jfs_owners.specs.objects.specs.Objects.{Object}
use Rattle.jfs_owners.specs.mount_rules.specs.Subject.{Subject, IsObject}
use Rattle.jfs_owners.specs.findings.specs.Trees.{IsThin}
use Rattle.jfs_owners.specs.findings.specs.Findings.{Says}
use Rattle.jfs_owners.specs.findings.specs.declared.finding.Finding.{Finding}
use Rattle.jfs_owners.specs.findings.specs.declared.finding.FindingKind.TheVariants as kinds
use Rattle.jfs_object_check.specs.Thin.{HasThin, IsThinOfSome, ThinLaw}

thin_is : (s : Subject) (n at : ℕ) (o : Object) (page : ℕ) → IsObject s n at o → HasThin s.readers s.page at o page → IsThin s page n
thin_is s n at o page is h = record { inode_page = at; o = o; is = is; has = h.has; extents = h.extents; sound = h.sound; tree_page = h.tree_page; thin = h.thin; on = h.on }

thin_says : (s : Subject) (f : Finding) → IsThinOfSome s f → Says s f.kind f.page f.value
thin_says s f h = let e = h.4 in subst (λ k. Says s k f.page f.value) (sym e.0) (subst (λ n. IsThin s f.page n) (sym e.1) (thin_is s h.0 h.1 h.2 f.page h.3 e.2))

said_of : (s : Subject) (f : Finding) → f.kind ≡ kinds.Thin → Says s f.kind f.page f.value → IsThinOfSome s f
said_of s f k says =
    let t : IsThin s f.page f.value = subst (λ k. Says s k f.page f.value) k says in
    (f.value, t.inode_page, t.o, t.is, (k, refl, record { has = t.has; extents = t.extents; sound = t.sound; tree_page = t.tree_page; thin = t.thin; on = t.on }))

pub thin_law : ThinLaw
thin_law = record { each = thin_says; all = said_of }
