-- A sound volume has no finding.
use Rattle.std.proofs.Common.{◌≡◌, ◌≤◌, ◌<◌, refl, sym, ap, ◌∙◌, subst, ℕ, Bool, true, false, ◌&&◌, nat_lt, List, Option, Some, None, arith}
use Rattle.std.specs.declared.result.Result.{Result}
use Rattle.std.specs.declared.result.Result.TheVariants.{Ok, Err}
use Rattle.std.proofs.lemmas.Bool.{ltb-true, true≢false}
use Rattle.jfs_bits.specs.declared.rule.Rule.{Rule}
use Rattle.jfs_mount.specs.objects.specs.Objects.{listed}
use Rattle.jfs_mount.specs.objects.specs.Owners.{owners, holds, bit, Agrees}
use Rattle.jfs_mount.specs.objects.specs.Image.{is_block_used}
use Rattle.jfs_mount.specs.objects.proofs.Owned.{owned, is_bit}
use Rattle.jfs_mount.specs.Subject.{Subject, blocks, volume}
use Rattle.jfs_findings.specs.Names.{leads}
use Rattle.jfs_findings.proofs.Runs.{past_first, run_is_owned}
use Rattle.jfs_findings.specs.Trees.{BreaksExtents, of_object, of_file}
use Rattle.jfs_findings.specs.Findings.{Says, SaysUnless}
use Rattle.jfs_findings.specs.Clean.{HasNoFinding, IsSoundVolume}
use Rattle.jfs_findings.specs.declared.finding.FindingKind.{FindingKind}
use Rattle.jfs_findings.specs.declared.finding.FindingKind.TheVariants as kinds

-- what a walk spells isn't at once an answer and a broken rule
pub never_both : {E : Type 0} (r : Result (List E) (ℕ × Rule)) (es : List E) (fault : ℕ × Rule) → r ≡ Ok es → r ≡ Err fault → ⊥
never_both (Ok fs) es fault e f = cc f
never_both (Err g) es fault e f = cc e

never_some : {A : Type 0} (o : Option A) (a : A) → o ≡ None → o ≡ Some a → ⊥
never_some None a e f = cc f
never_some (Some b) a e f = cc e

bit_owned : (x : Bool) (n : ℕ) → n ≡ bit x → nat_lt 0 n ≡ x
bit_owned true n e = ap (nat_lt 0) e ∙ refl
bit_owned false n e = ap (nat_lt 0) e ∙ refl

past_end : (blocks b : ℕ) (x : Bool) → blocks ≤ b → (nat_lt b blocks && x) ≡ false
past_end blocks b x l = by (nat_lt b blocks) refl
  where
    by : (y : Bool) → nat_lt b blocks ≡ y → (y && x) ≡ false
    by true e = absurd (let t = ltb-true b blocks e in omega (arith, t, l))
    by false e = refl

-- behind the end no block is in use
pub unused_block : (s : Subject) (b : ℕ) → blocks s ≤ b → (volume s).used b ≡ false
unfolding is_block_used
unused_block s b l = past_end (blocks s) b _ l

module _ (s : Subject) (is : IsSoundVolume s) where
  agrees : Agrees s.readers (volume s)
  agrees = is.sound.agrees

  says : (kind : FindingKind) (page value : ℕ) → Says s kind page value → ⊥
  says kinds.Aggregate page value h = h
  says kinds.Iag page value h = let bad = h.0 in bad.3 (is.inode_map bad.0 bad.1)
  says kinds.Inode page value h = never_some _ h.2.0 (is.inodes value h.0 h.1.is) h.2.1
  says kinds.Xtree page value h = by h.0
    where
      by : BreaksExtents s page → ⊥
      by (of_object n inode_page tree_page o rule at e on) = let w = is.sound.whole n o at.is in never_both (listed s.readers.extents_order o.extents) w.extents (tree_page, rule) w.extents_are e
      by (of_file k tree_page rule in_files e on) = let w = is.files k in_files in never_both _ w.0 (tree_page, rule) w.1 e
  says kinds.Dtree page value h = let b = h.0 in let w = is.sound.whole b.n b.o b.is.is in never_both (listed s.readers.names_order b.o.names) w.names (b.tree_page, b.rule) w.names_are b.breaks
  says kinds.Shared page value h = let two = h.0.1 in let e = agrees.blocks value in let o = is_bit ((volume s).used value) in omega (arith, two, e, o)
  says kinds.Outside page value h =
      let past = past_first (blocks s) h.3 value h.5 in
      let held = run_is_owned s.readers h.1 value h.3 h.4 past.1 in
      let some = owned s.readers (volume s) agrees h.0 value (subst (λ o. 0 < holds s.readers o value) (sym h.2.is) held) in
      let e = agrees.blocks value ∙ ap bit (unused_block s value past.0) in
      omega (arith, some, e)
  says kinds.Name page value h = true≢false (sym (is.names h.directory h.o h.is.is h.tree_page h.e h.stands) ∙ sym (ap (leads s) h.to) ∙ h.nothing)
  says kinds.Links page value h = h.3 (is.links value h.0 h.1.is h.2)
  says kinds.Parent page value h = h.3 (is.parents value h.0 h.1.is h.2)
  says kinds.Nblocks page value h = h.2 (is.nblocks value h.0 h.1.is)
  says kinds.Past page value h = true≢false (sym h.2 ∙ is.ends value h.0 h.1.is)
  says kinds.Thin page value h = is.full value h.o h.is.is h.has h.tree_page h.thin
  says kinds.Map page value h = h.2 (sym (bit_owned ((volume s).used value) (owners s.readers (volume s) value) (agrees.blocks value)))
  says kinds.Bmap page value h = let bad = h.0 in bad.3 (is.block_map bad.0 bad.1)

  pub clean : HasNoFinding s
  clean f h = says f.kind f.page f.value (subst (λ o. SaysUnless o s f) is.mounts h)
