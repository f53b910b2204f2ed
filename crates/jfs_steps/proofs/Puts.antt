-- An inode that is put into its slot by lines.
use Rattle.std.proofs.Common.{◌≡◌, ◌≢◌, ◌<◌, ◌≤◌, sym, ap, ◌∙◌, subst, ℕ, ◌%◌, Bool, ◌==◌, if◌then◌else◌, List, length, inl, inr, eq-eqb, ne_eqb}
use Rattle.std.proofs.lemmas.Bool.{cases_lt, lt-ltb, le-ltb}
use Rattle.jfs_inode.specs.Inode.{inode_at, dinode_of}
use Rattle.jfs_inode.specs.declared.fields.Dinode.{Dinode}
use Rattle.jfs_ranges.specs.declared.edit.Edit.{Edit}
use Rattle.jfs_ranges.specs.Apply.{apply_tx}
use Rattle.jfs_bits.specs.declared.rule.PageKind.TheVariants as kinds
use Rattle.jfs_way.specs.page_tree.specs.Tell.{LeavesOthers, TellsRuns}
use Rattle.jfs_way.specs.objects.specs.Volume.{slot_of}
use Rattle.jfs_way.specs.objects.proofs.Sums.{eq_or_not}
use Rattle.jfs_ranges.specs.Laid.{put_tx}
use Rattle.jfs_steps.specs.Put.{AddsInode, TellsLines}

pub put_within : (blocks : ℕ) (tx : List Edit) (pages : ℕ → List ℕ) (b : ℕ) → b < blocks → put_tx blocks tx pages b ≡ apply_tx b tx (pages b)
put_within blocks tx pages b l = ap (λ (x : Bool). if x then apply_tx b tx (pages b) else pages b) (lt-ltb b blocks l)

pub put_past : (blocks : ℕ) (tx : List Edit) (pages : ℕ → List ℕ) (b : ℕ) → blocks ≤ b → put_tx blocks tx pages b ≡ pages b
put_past blocks tx pages b l = ap (λ (x : Bool). if x then apply_tx b tx (pages b) else pages b) (le-ltb b blocks l)

pub tells_lines : (blocks : ℕ) (pages : ℕ → List ℕ) (page : ℕ) (tx later : List Edit) (old new : List ℕ) → page < blocks → old ≡ apply_tx page tx (pages page)
    → ((content : List ℕ) → apply_tx page tx content ≡ old → apply_tx page later content ≡ new) → TellsRuns page kinds.Inode old new tx later → TellsLines blocks pages page tx later
tells_lines blocks pages page tx later old new l was told runs =
    subst (λ (x : List ℕ). TellsRuns page kinds.Inode x (put_tx blocks later pages page) tx later) (was ∙ sym (put_within blocks tx pages page l))
    (subst (λ (x : List ℕ). TellsRuns page kinds.Inode old x tx later) (sym (put_within blocks later pages page l ∙ told (pages page) (sym was))) runs)

module _ (blocks : ℕ) (pages : ℕ → List ℕ) (page n : ℕ) (d : Dinode) (tx later : List Edit) (old new : List ℕ) (l : page < blocks)
    (whole : (b : ℕ) → b < blocks → length (pages b) ≡ 4096) (was : old ≡ apply_tx page tx (pages page))
    (told : (content : List ℕ) → apply_tx page tx content ≡ old → apply_tx page later content ≡ new) (others : LeavesOthers page tx later)
    (back : dinode_of (inode_at new (n % 8)) ≡ d) (rest : (k : ℕ) → k < 8 → k ≢ n % 8 → inode_at new k ≡ inode_at old k) where
  before : put_tx blocks tx pages page ≡ old
  before = put_within blocks tx pages page l ∙ sym was

  after : put_tx blocks later pages page ≡ new
  after = put_within blocks later pages page l ∙ told (pages page) (sym was)

  other : (b : ℕ) → b ≢ page → put_tx blocks later pages b ≡ put_tx blocks tx pages b
  other b apart = elim (cases_lt b blocks) [
    | inl w ↦ put_within blocks later pages b w ∙ others b apart (pages b) (whole b w) ∙ sym (put_within blocks tx pages b w)
    | inr w ↦ put_past blocks later pages b w ∙ sym (put_past blocks tx pages b w)
  ]

  slot : (k : ℕ) → k < 8 → slot_of new k ≡ (if k == n % 8 then d else slot_of old k)
  slot k w = elim (eq_or_not k (n % 8)) [
    | inl e ↦ ap (slot_of new) e ∙ back ∙ sym (ap (λ (x : Bool). if x then d else slot_of old k) (eq-eqb k (n % 8) e))
    | inr e ↦ ap dinode_of (rest k w e) ∙ sym (ap (λ (x : Bool). if x then d else slot_of old k) (ne_eqb k (n % 8) e))
  ]

  pub adds_inode : AddsInode blocks pages page n d tx later
  adds_inode extents at = record {
    page = page;
    at = at;
    slots = λ k w. (ap (λ (p : List ℕ). slot_of p k) after ∙ slot k w ∙ sym (ap (λ (p : List ℕ). if k == n % 8 then d else slot_of p k) before));
    others = other;
  }
