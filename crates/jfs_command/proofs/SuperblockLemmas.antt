-- What two disks say of their superblocks where page 8 is the same.
use Rattle.std.proofs.Common.{◌≡◌, ◌<◌, ◌≤◌, ℕ, Bool, true, false, cond, Option, Some, None, refl, sym, ap, subst, ◌∙◌, arith}
use Rattle.std.specs.Prelude.{nat_le}
use Rattle.std.proofs.lemmas.Bool.{leb-true}
use Rattle.jfs_bits.specs.Broken.{first_broken}
use Rattle.jfs_bits.specs.declared.rule.Rule.TheVariants as rules
use Rattle.jfs_disk.specs.Image.{page_of}
use Rattle.jfs_super.specs.declared.fields.Super.{Super}
use Rattle.jfs_super.specs.declared.read.BadSuper.{BadSuper}
use Rattle.jfs_super.specs.Super.{super_of}
use Rattle.jfs_super.specs.Rules.{rows, shape_rows, IsAccepted}
use Rattle.jfs_super.proofs.Rules.{accepted_pages}
use Rattle.jfs_command.specs.Held.{Held}
use Rattle.jfs_command.specs.Meaning.{Answer}
use Rattle.jfs_command.specs.Superblock.{superblock_of, AfterRules, AfterSuperblock, AfterState}

fails : {A : Type 0} (b : Bool) (x y : A) → b ≡ false → cond b x y ≡ y
fails b x y e = rw e refl

-- fewer than 9 pages are refused whatever superblock is thought of
short : (s : Super) (pages : ℕ) → nat_le 9 pages ≡ false → first_broken (rows s pages) ≡ Some (record { rule = rules.Short; value = pages })
unfolding rows shape_rows
short s pages e = fails (nat_le 9 pages) _ _ e

-- the first broken rule is the same where the superblocks are, which counts only on a disk that has page 8
pub same_first : (s t : Super) (pages : ℕ) → (9 ≤ pages → s ≡ t) → first_broken (rows s pages) ≡ first_broken (rows t pages)
same_first s t pages same = chosen (nat_le 9 pages) refl
  where
    chosen : (b : Bool) → nat_le 9 pages ≡ b → first_broken (rows s pages) ≡ first_broken (rows t pages)
    chosen true e = ap (λ (u : Super). first_broken (rows u pages)) (same (leb-true 9 pages e))
    chosen false e = short s pages e ∙ sym (short t pages e)

-- two disks with as many pages and the same page 8, where there is one
pub record SamePage8 (a b : Held) : Type 0 where
  pub pages : b.pages ≡ a.pages
  pub page : 8 < a.pages → page_of b.image 8 ≡ page_of a.image 8

pub same_rules : (a b : Held) → SamePage8 a b → first_broken (rows (superblock_of b) b.pages) ≡ first_broken (rows (superblock_of a) a.pages)
same_rules a b same =
    ap (λ (n : ℕ). first_broken (rows (superblock_of b) n)) same.pages
    ∙ same_first (superblock_of b) (superblock_of a) a.pages (λ there. ap super_of (same.page (omega (arith, there))))

pub same_superblock : (a b : Held) → SamePage8 a b → IsAccepted (superblock_of a) a.pages → superblock_of b ≡ superblock_of a
same_superblock a b same accepted = ap super_of (same.page (let there = accepted_pages (superblock_of a) a.pages accepted in omega (arith, there)))

-- what is said of one of them is said of the other, where that is so of what follows an accepted superblock
pub same_after : (a b : Held) (says_a says_b : Super → Answer → Type 0) (answer : Answer) → SamePage8 a b
    → (IsAccepted (superblock_of a) a.pages → says_a (superblock_of a) answer → says_b (superblock_of a) answer)
    → AfterSuperblock a says_a answer → AfterSuperblock b says_b answer
same_after a b says_a says_b answer same next said =
    subst (λ (o : Option BadSuper). AfterRules o (says_b (superblock_of b)) answer) (sym (same_rules a b same)) (by (first_broken (rows (superblock_of a) a.pages)) refl said)
  where
    by : (o : Option BadSuper) → first_broken (rows (superblock_of a) a.pages) ≡ o → AfterRules o (says_a (superblock_of a)) answer → AfterRules o (says_b (superblock_of b)) answer
    by None e said = subst (λ (s : Super). says_b s answer) (sym (same_superblock a b same e)) (next e said)
    by (Some bad) e said = said

-- one status is said, where that is so of what follows an accepted superblock
pub one_after : (a : Held) (says : Super → Answer → Type 0) (x y : Answer)
    → (IsAccepted (superblock_of a) a.pages → says (superblock_of a) x → says (superblock_of a) y → x.status ≡ y.status)
    → AfterSuperblock a says x → AfterSuperblock a says y → x.status ≡ y.status
one_after a says x y next said also = by (first_broken (rows (superblock_of a) a.pages)) refl said also
  where
    by : (o : Option BadSuper) → first_broken (rows (superblock_of a) a.pages) ≡ o → AfterRules o (says (superblock_of a)) x → AfterRules o (says (superblock_of a)) y → x.status ≡ y.status
    by None e said also = next e said also
    by (Some bad) e said also = ap (λ (z : Answer). z.status) (said ∙ sym also)

-- what is said where the state is taken is what counts
pub next_after : (taken : Bool) (state : ℕ) (says said : Answer → Type 0) (answer : Answer) → (taken ≡ true → says answer → said answer) → AfterState taken state says answer → AfterState taken state said answer
next_after true state says said answer next it = next refl it
next_after false state says said answer next it = it

pub one_after_state : (taken : Bool) (state : ℕ) (says : Answer → Type 0) (x y : Answer) → (says x → says y → x.status ≡ y.status) → AfterState taken state says x → AfterState taken state says y → x.status ≡ y.status
one_after_state true state says x y one a b = one a b
one_after_state false state says x y one a b = ap (λ (z : Answer). z.status) (a ∙ sym b)
