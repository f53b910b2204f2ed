-- Findings gained block by block.
use Rattle.std.proofs.Common.{◌≡◌, ◌<◌, ◌≤◌, ◌⊎◌, inl, inr, refl, sym, ap, ◌∙◌, subst, ℕ, ◌+◌, ◌-◌, ◌*◌, ◌/◌, ◌%◌, true, false, List, [], ◌∷◌, ◌++◌, arith}
use Rattle.std.specs.Prelude.{min, Result, Ok, Err, IfOk}
use Rattle.std.specs.List.{Contains}
use Rattle.std.proofs.lemmas.List.Elements.{Contains-append_left, Contains-push, Contains-push_cases}
use Rattle.std.proofs.lemmas.Bool.{cases_lt, ltb-true, lt-ltb, true≢false}
use Rattle.std.proofs.lemmas.Nat.Bits.{bit_at-zero}
use Rattle.jfs_bits.specs.Field.{field_of}
use Rattle.jfs_bits.specs.Bits.{is_taken, is_taken_in}
use Rattle.jfs_findings.specs.objects.specs.Owners.{owners}
use Rattle.jfs_findings.specs.mount_rules.specs.Subject.{Subject, blocks, volume}
use Rattle.jfs_findings.specs.Gains.{Gains}
use Rattle.jfs_findings.specs.declared.finding.Finding.{Finding}
use Rattle.jfs_findings.specs.declared.finding.FindingKind.{FindingKind}
use Rattle.jfs_findings.specs.declared.finding.FindingKind.TheVariants as kinds
use Rattle.jfs_owners.specs.Counts.{OwnerSets, Counts}
use Rattle.jfs_owners.specs.Shared.{IsMarked, SaysShared}

module _ (is : Finding → Type 0) where
  pub gains_none : (fs : List Finding) → ((f : Finding) → is f → ⊥) → Gains is fs fs
  gains_none fs none = record { kept = λ f h. h; all = λ f h. absurd (none f h); only = λ f h. inl h }

  pub gains_as : (other : Finding → Type 0) (old new : List Finding) → ((f : Finding) → is f → other f) → ((f : Finding) → other f → is f) → Gains is old new → Gains other old new
  gains_as other old new to from g = record { kept = g.kept; all = λ f h. g.all f (from f h); only = λ f h. elim (g.only f h) [ inl o ↦ inl o | inr i ↦ inr (to f i) ] }

  pub gains_both : (more all : Finding → Type 0) (a b c : List Finding) → ((f : Finding) → is f → all f) → ((f : Finding) → more f → all f) → ((f : Finding) → all f → is f ⊎ more f)
      → Gains is a b → Gains more b c → Gains all a c
  gains_both more all a b c one two split g h = record {
    kept = λ f x. h.kept f (g.kept f x);
    all = λ f x. elim (split f x) [ inl i ↦ h.kept f (g.all f i) | inr m ↦ h.all f m ];
    only = λ f x. elim (h.only f x) [ inl y ↦ elim (g.only f y) [ inl o ↦ inl o | inr i ↦ inr (one f i) ] | inr m ↦ inr (two f m) ];
  }

gains_one : (x : Finding) (fs : List Finding) → Gains (λ f. x ≡ f) fs (fs ++ x ∷ [])
gains_one x fs = record {
  kept = λ f h. Contains-append_left fs (x ∷ []) f h;
  all = λ f h. subst (λ (y : Finding). Contains (fs ++ x ∷ []) y) h (Contains-push fs x);
  only = λ f h. Contains-push_cases fs x f h;
}

-- ---- the blocks whose bits are set

module _ (set : List ℕ) where
  pub marked_parts : (from mid to : ℕ) (a b c : List Finding) → from ≤ mid → mid ≤ to → Gains (IsMarked set from mid) a b → Gains (IsMarked set mid to) b c → Gains (IsMarked set from to) a c
  marked_parts from mid to a b c h k =
      gains_both (IsMarked set from mid) (IsMarked set mid to) (IsMarked set from to) a b c
      (λ f m. record { kind = m.kind; first = m.first; last = (let l = m.last in omega (arith, l, k)); bit = m.bit; page = m.page })
      (λ f m. record { kind = m.kind; first = (let l = m.first in omega (arith, l, h)); last = m.last; bit = m.bit; page = m.page })
      (λ f m. elim (cases_lt f.value mid) [
        | inl l ↦ inl (record { kind = m.kind; first = m.first; last = l; bit = m.bit; page = m.page })
        | inr l ↦ inr (record { kind = m.kind; first = l; last = m.last; bit = m.bit; page = m.page })
      ])

  -- one block
  pub marked_here : (b : ℕ) (fs : List Finding) → is_taken set b ≡ true → Gains (IsMarked set b (b + 1)) fs (fs ++ record { kind = kinds.Shared; page = b; value = b } ∷ [])
  marked_here b fs h =
      let x : Finding = record { kind = kinds.Shared; page = b; value = b } in
      gains_as (λ f. x ≡ f) (IsMarked set b (b + 1)) fs (fs ++ x ∷ [])
      (λ f e. subst (IsMarked set b (b + 1)) e (record { kind = refl; first = omega arith; last = omega arith; bit = h; page = refl }))
      (λ f m. same f.kind f.page f.value b m.kind m.page (let l = m.first in let u = m.last in omega (arith, l, u)))
      (gains_one x fs)
    where
      same : (k : FindingKind) (p v b : ℕ) → k ≡ kinds.Shared → p ≡ v → v ≡ b → (let x : Finding = record { kind = kinds.Shared; page = b; value = b } in x) ≡ record { kind = k; page = p; value = v }
      same k p v b e f g = rw (e, f, g) refl

  pub marked_nowhere : (b : ℕ) (fs : List Finding) → is_taken set b ≡ false → Gains (IsMarked set b (b + 1)) fs fs
  marked_nowhere b fs h = gains_none (IsMarked set b (b + 1)) fs (λ f m.
      (let v : f.value ≡ b = (let l = m.first in let u = m.last in omega (arith, l, u)) in true≢false (sym m.bit ∙ ap (is_taken set) v ∙ h)))

  clear : (b w : ℕ) → b / 32 ≡ w → field_of set (4 * w) 4 ≡ 0 → is_taken set b ≡ false
  unfolding is_taken is_taken_in
  clear b w q z = rw (q, z, bit_at-zero (31 - b % 32)) refl

  -- a word without bits
  pub no_word : (w from to : ℕ) (fs : List Finding) → from ≡ 32 * w → to ≤ from + 32 → field_of set (4 * w) 4 ≡ 0 → Gains (IsMarked set from to) fs fs
  no_word w from to fs e h z = gains_none (IsMarked set from to) fs (λ f m. true≢false (sym m.bit ∙ clear f.value w (word f.value w (let l = m.first in omega (arith, e, l)) (let u = m.last in omega (arith, e, h, u))) z))
    where
      word : (b w : ℕ) → 32 * w ≤ b → b < 32 * w + 32 → b / 32 ≡ w
      word b w l u = omega arith

  -- block by block
  pub with_block : (from b : ℕ) (a fs : List Finding) → from ≤ b → is_taken set b ≡ true → Gains (IsMarked set from b) a fs → Gains (IsMarked set from (b + 1)) a (fs ++ record { kind = kinds.Shared; page = b; value = b } ∷ [])
  with_block from b a fs h t g = marked_parts from b (b + 1) a fs (fs ++ record { kind = kinds.Shared; page = b; value = b } ∷ []) h (omega arith) g (marked_here b fs t)

  pub past_block : (from b : ℕ) (a fs : List Finding) → from ≤ b → is_taken set b ≡ false → Gains (IsMarked set from b) a fs → Gains (IsMarked set from (b + 1)) a fs
  past_block from b a fs h t g = marked_parts from b (b + 1) a fs fs h (omega arith) g (marked_nowhere b fs t)

  -- word by word, of so many blocks
  pub with_word : (w blocks : ℕ) (a b c : List Finding) → 32 * w < blocks → Gains (IsMarked set 0 (min (32 * w) blocks)) a b → Gains (IsMarked set (32 * w) (32 * w + min (blocks - 32 * w) 32)) b c
      → Gains (IsMarked set 0 (min (32 * (w + 1)) blocks)) a c
  with_word w blocks a b c l g h =
      let here : min (32 * w) blocks ≡ 32 * w = omega arith in
      let there : 32 * w + min (blocks - 32 * w) 32 ≡ min (32 * (w + 1)) blocks = omega arith in
      marked_parts 0 (32 * w) (min (32 * (w + 1)) blocks) a b c (omega arith) (omega arith) (subst (λ n. Gains (IsMarked set 0 n) a b) here g) (subst (λ n. Gains (IsMarked set (32 * w) n) b c) there h)

-- bits that tell which blocks are shared
pub shared_told : (o : OwnerSets) (old new : List Finding) → Gains (IsMarked o.shared 0 o.blocks) old new → (s : Subject) → o.blocks ≡ blocks s → Counts o (owners s.readers (volume s)) → Gains (SaysShared s) old new
shared_told o old new g s e c =
    gains_as (IsMarked o.shared 0 o.blocks) (SaysShared s) old new
    (λ f m. record { kind = m.kind; is = ((let l = m.last in omega (arith, l, e)), ltb-true 1 (owners s.readers (volume s) f.value) (sym (c.shared f.value m.last) ∙ m.bit)); page = m.page })
    (λ f m. (let l : f.value < o.blocks = (let i = m.is.0 in omega (arith, i, e)) in
    record { kind = m.kind; first = omega arith; last = l; bit = c.shared f.value l ∙ lt-ltb 1 (owners s.readers (volume s) f.value) m.is.1; page = m.page }))
    g

pub shared_found : {T E : Type 0} (r : Result T E) (v o : OwnerSets) (set : List ℕ) (n : ℕ) (old new : List Finding) → v ≡ o → set ≡ v.shared → n ≡ v.blocks → IfOk r (λ it. Gains (IsMarked set 0 n) old new)
    → IfOk r (λ it. (s : Subject) → o.blocks ≡ blocks s → Counts o (owners s.readers (volume s)) → Gains (SaysShared s) old new)
shared_found (Ok it) v o set n old new e f h g =
    shared_told o old new (subst (λ (x : OwnerSets). Gains (IsMarked x.shared 0 x.blocks) old new) e (subst (λ m. Gains (IsMarked v.shared 0 m) old new) h (subst (λ (z : List ℕ). Gains (IsMarked z 0 n) old new) f g)))
shared_found (Err x) v o set n old new e f h g = tt
