-- A volume without findings is sound.
use Rattle.std.proofs.Common.{◌≡◌, ◌≤◌, ◌<◌, inl, inr, refl, sym, ap, ◌∙◌, subst, ℕ, zero, suc, ◌+◌, ◌/◌, true, nat_lt, max, List, Option, Some, None, is_some, arith}
use Rattle.std.specs.List.{Contains}
use Rattle.std.specs.declared.result.Result.{Result}
use Rattle.std.specs.declared.result.Result.TheVariants.{Ok, Err}
use Rattle.std.proofs.lemmas.Bool.{cases_lt, true_from_ne_false, false_from_ne_true}
use Rattle.std.proofs.lemmas.Bool.Decides.{nat_tests}
use Rattle.jfs_bits.specs.declared.extent.Xad.{Xad}
use Rattle.jfs_bits.specs.declared.rule.Rule.{Rule}
use Rattle.jfs_bits.specs.Broken.{first_broken}
use Rattle.jfs_inode.specs.Rules.{rows}
use Rattle.jfs_mount.specs.bmap.specs.MapFile.{is_in_use, pages_of}
use Rattle.jfs_mount.specs.plain.specs.Tree.{root}
use Rattle.jfs_mount.specs.plain.specs.declared.node.Node.{Node}
use Rattle.jfs_mount.specs.objects.specs.Volume.{home, room}
use Rattle.jfs_mount.specs.objects.specs.Objects.{Object, IsWhole, listed}
use Rattle.jfs_mount.specs.objects.specs.Owners.{owners, fixed, holds, bit, Agrees}
use Rattle.jfs_mount.specs.objects.specs.Image.{file_page, file_walk}
use Rattle.jfs_mount.specs.objects.proofs.Owned.{holds_none}
use Rattle.jfs_mount.specs.objects.proofs.Found.{no_home}
use Rattle.jfs_mount.specs.objects.proofs.Sums.{sum_zero}
use Rattle.jfs_mount.specs.meaning.specs.Consistent.{leading_to, names_in, names_to, links_due}
use Rattle.jfs_mount.specs.Subject.{Subject, blocks, volume, object, IsObject, IsFilePage, page_named}
use Rattle.jfs_mount.specs.Mount.{BadMount, broken_mount, iags, extent_at}
use Rattle.jfs_findings.specs.Inodes.{blocks_owned, is_past}
use Rattle.jfs_findings.specs.Names.{readable, readable_node, most, leads, IsPlaced}
use Rattle.jfs_findings.specs.Trees.{files, of_object, of_file}
use Rattle.jfs_findings.specs.Blocks.{is_owned}
use Rattle.jfs_findings.proofs.Runs.{owned_in_run, first_past}
use Rattle.jfs_findings.specs.Maps.{has_to_be_taken, IsBlockMapPage, IsInodeMapPage}
use Rattle.jfs_findings.specs.Findings.{Says, SaysUnless}
use Rattle.jfs_findings.specs.Clean.{HasNoFinding, IsSoundVolume}
use Rattle.jfs_findings.specs.declared.finding.Finding.{Finding}
use Rattle.jfs_findings.specs.declared.finding.FindingKind.{FindingKind}
use Rattle.jfs_findings.specs.declared.finding.FindingKind.TheVariants as kinds
use Rattle.jfs_findings.proofs.Stable.{nat_stable, bool_stable}
use Rattle.jfs_findings.proofs.Canonical.{map_page_stable, inode_page_stable}
use Rattle.jfs_findings.proofs.Mounted.{IsMounted, mounted, on_block}
use Rattle.jfs_findings.proofs.Clean.{unused_block}
use Rattle.jfs_findings.proofs.InUse.{in_use_is}

abbrev finding : FindingKind → ℕ → ℕ → Finding
finding kind page value = record { kind = kind; page = page; value = value }

bit_of : (n : ℕ) → n ≤ 1 → n ≡ bit (nat_lt 0 n)
bit_of zero l = refl
bit_of (suc zero) l = refl
bit_of (suc (suc n)) l = absurd (omega (arith, l))

-- a walk that breaks no rule spells a list
spelled_list : {E : Type 0} (r : Result (List E) (ℕ × Rule)) → ((page : ℕ) (rule : Rule) → r ≡ Err (page, rule) → ⊥) → (es : List E) × (r ≡ Ok es)
spelled_list (Ok es) h = (es, refl)
spelled_list (Err (page, rule)) h = absurd (h page rule refl)

none_is : {A : Type 0} (o : Option A) → ((a : A) → o ≡ Some a → ⊥) → o ≡ None
none_is None h = refl
none_is (Some a) h = absurd (h a refl)

module _ (s : Subject) (none : HasNoFinding s) where
  mounts : broken_mount s ≡ None
  mounts = none_is (broken_mount s) (λ bad e. none (finding kinds.Aggregate bad.page bad.value) (subst (λ (o : Option BadMount). SaysUnless o s (finding kinds.Aggregate bad.page bad.value)) (sym e) refl))

  pub mounted_is : IsMounted s
  mounted_is = mounted s mounts

  says : (kind : FindingKind) (page value : ℕ) → Says s kind page value → ⊥
  says kind page value h = none (finding kind page value) (subst (λ (o : Option BadMount). SaysUnless o s (finding kind page value)) (sym mounts) h)

  -- an object stands on a page
  stands : (n : ℕ) (o : Object) → object s n ≡ Some o → (page : ℕ) × IsObject s n page o
  stands n o e = by (home (volume s).extents n) refl
    where
      never : (o : Object) → (let x : Option Object = None in x) ≡ Some o → ⊥
      never o e = cc e

      by : (h : Option ℕ) → home (volume s).extents n ≡ h → (page : ℕ) × IsObject s n page o
      by (Some page) h = (page, record { is = e; stands = h })
      by None h = absurd (never o (sym (no_home s.readers (volume s) n h) ∙ e))

  whole : (n : ℕ) (o : Object) → object s n ≡ Some o → IsWhole s.readers o
  whole n o e =
      let at = stands n o e in
      let names = spelled_list (listed s.readers.names_order o.names) (λ page rule b. says kinds.Dtree (page_named at.0 page) 0 (record { n = n; inode_page = at.0; tree_page = page; o = o; rule = rule; is = at.1; breaks = b; on = refl }, refl)) in
      let extents = spelled_list (listed s.readers.extents_order o.extents) (λ page rule b. says kinds.Xtree (page_named at.0 page) 0 (of_object n at.0 page o rule at.1 b refl, refl)) in
      record { names = names.0; extents = extents.0; names_are = names.1; extents_are = extents.1 }

  whole_files : (k : ℕ) → Contains files k → (es : List Xad) × (listed s.readers.extents_order (file_walk s.readers s.page k) ≡ Ok es)
  whole_files k h = spelled_list (listed s.readers.extents_order (file_walk s.readers s.page k)) (λ page rule b. says kinds.Xtree (page_named (11 + k / 8) page) 0 (of_file k page rule h b refl, refl))

  -- ---- the maps

  block_map : (j : ℕ) → is_in_use (blocks s) j ≡ true → IsBlockMapPage s j
  block_map j u = map_page_stable (blocks s) s.super.agsize (has_to_be_taken s) j (file_page s.readers s.page 2 j) (λ d. by (on_block s 2 (pages_of (blocks s)) j mounted_is.map_covered (used_within (blocks s) j u)) d)
    where
      used_within : (blocks j : ℕ) → is_in_use blocks j ≡ true → j < pages_of blocks
      used_within blocks zero u = omega arith
      used_within blocks (suc j) u = grind (arith, nat_tests)

      by : (page : ℕ) × IsFilePage s 2 j page → (IsBlockMapPage s j → ⊥) → ⊥
      by at d = says kinds.Bmap at.0 0 ((j, u, at.1, d), refl)

  inode_map : (j : ℕ) → j < suc (iags s) → IsInodeMapPage s j
  inode_map j l = inode_page_stable (λ n. is_some (object s n)) (extent_at s) (iags s) j (file_page s.readers s.page 16 j) (λ d. by (on_block s 16 (suc (iags s)) j mounted_is.inodes_covered l) d)
    where
      by : (page : ℕ) × IsFilePage s 16 j page → (IsInodeMapPage s j → ⊥) → ⊥
      by at d = says kinds.Iag at.0 0 ((j, l, at.1, d), refl)

  -- ---- owners

  used_is : (b : ℕ) → b < blocks s → (volume s).used b ≡ is_owned s b
  used_is b l = bool_stable ((volume s).used b) (is_owned s b) (λ d. by (on_block s 2 (pages_of (blocks s)) (4 + b / 8192) mounted_is.map_covered (omega (arith, l))) d)
    where
      by : (page : ℕ) × IsFilePage s 2 (4 + b / 8192) page → ((volume s).used b ≡ is_owned s b → ⊥) → ⊥
      by at d = says kinds.Map at.0 b (l, at.1, d)

  one_owner : (b : ℕ) → b < blocks s → owners s.readers (volume s) b ≤ 1
  one_owner b l = elim (cases_lt 1 (owners s.readers (volume s) b)) [ inl two ↦ absurd (says kinds.Shared b b ((l, two), refl)) | inr w ↦ w ]

  holds_nothing : (b : ℕ) → blocks s ≤ b → (n : ℕ) → holds s.readers (object s n) b ≡ 0
  holds_nothing b l n = by (object s n) refl
    where
      by : (o : Option Object) → object s n ≡ o → holds s.readers (object s n) b ≡ 0
      by None e = ap (λ o. holds s.readers o b) e ∙ holds_none s.readers b
      by (Some o) e = elim (cases_lt 0 (holds s.readers (Some o) b)) [
        | inl some ↦ (let at = stands n o e in let run = owned_in_run s.readers o b some in absurd (says kinds.Outside at.0 (max (blocks s) run.0.addr) (n, o, at.1, run.0, run.1, first_past (blocks s) run.0 b l run.2)))
        | inr zero_is ↦ ap (λ o. holds s.readers o b) e ∙ omega (arith, zero_is)
      ]

  module _ (ends : (b : ℕ) → blocks s ≤ b → fixed (volume s) b ≡ 0) where
    agrees : Agrees s.readers (volume s)
    agrees = record {
      blocks = λ b. elim (cases_lt b (blocks s)) [
        | inl l ↦ bit_of (owners s.readers (volume s) b) (one_owner b l) ∙ ap bit (sym (used_is b l))
        | inr l ↦ none_there b l ∙ ap bit (sym (unused_block s b l))
      ];
      inodes = in_use_is s inode_map;
    }
      where
        none_there : (b : ℕ) → blocks s ≤ b → owners s.readers (volume s) b ≡ 0
        none_there b l =
            let a = ends b l in
            let sum = sum_zero (room (volume s)) (λ n. holds s.readers (object s n) b) (holds_nothing b l) in
            omega (arith, a, sum)

    pub sound : IsSoundVolume s
    sound = record {
      mounts = mounts;
      sound = record { agrees = agrees; whole = whole };
      files = whole_files;
      inodes = λ n o e. none_is (first_broken (rows o.inode n)) (λ bad b. let at = stands n o e in says kinds.Inode at.0 n (o, at.1, (bad, b)));
      names = λ dir o e page x at. true_from_ne_false (leads s x.inode) (λ f. let here = stands dir o e in let w = whole dir o e in says kinds.Name (page_named here.0 page) x.inode
          (record { directory = dir; inode_page = here.0; o = o; is = here.1; names = w.names; sound = w.names_are; e = x; tree_page = page; stands = at; on = refl; to = refl; nothing = f }));
      links = λ n o e r. nat_stable o.inode.nlink (links_due (most s) (readable s) n (readable_node s o)) (λ d. let at = stands n o e in says kinds.Links at.0 n (o, at.1, r, d));
      parents = λ n o e d. placed n (readable_node s o) (λ lost. let at = stands n o e in says kinds.Parent at.0 n (o, at.1, d, lost));
      nblocks = λ n o e. nat_stable o.inode.nblocks (blocks_owned s.readers o) (λ d. let at = stands n o e in says kinds.Nblocks at.0 n (o, at.1, d));
      ends = λ n o e. false_from_ne_true (is_past s.readers o) (λ t. let at = stands n o e in says kinds.Past at.0 n (o, at.1, t));
      full = λ n o e has page thin. let at = stands n o e in let w = whole n o e in says kinds.Thin (page_named at.0 page) n
          (record { inode_page = at.0; o = o; is = at.1; has = has; extents = w.extents; sound = w.extents_are; tree_page = page; thin = thin; on = refl });
      block_map = block_map;
      inode_map = inode_map;
    }
      where
        placed : (n : ℕ) (node : Node) → ((IsPlaced s n node → ⊥) → ⊥) → IsPlaced s n node
        placed n node h = record {
          top = λ e. (nat_stable node.parent root (λ d. h (λ p. d (p.top e).0)), nat_stable (names_to (most s) (readable s) root) 0 (λ d. h (λ p. d (p.top e).1)));
          below = λ e. record {
            one = nat_stable (names_to (most s) (readable s) n) 1 (λ d. h (λ p. d (p.below e).one));
            by_parent = nat_stable (leading_to n (names_in ((readable s).nodes node.parent))) 1 (λ d. h (λ p. d (p.below e).by_parent));
          };
        }
