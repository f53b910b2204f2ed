-- How a list of findings grows, step by step.
use Rattle.std.proofs.Common.{◌≡◌, ◌⊎◌, inl, inr, refl, sym, ap, ◌∙◌, subst, ℕ, Bool, true, false, List, [], Result, Ok, Err}
use Rattle.std.specs.Prelude.{OnOk, IfErr, IfOk}
use Rattle.jfs_bits.specs.declared.rule.Rule.{Rule}
use Rattle.jfs_ranges.specs.declared.view.ViewError.{ViewError}
use Rattle.jfs_tree.specs.Walk.{Node, Marks, Scale, rows_of}
use Rattle.jfs_tree.specs.Spells.{tree_of, spells}
use Rattle.jfs_tree.specs.Walking.{NamesFirst}
use Rattle.jfs_tree.specs.declared.form.TreeError.{TreeError}
use Rattle.jfs_tree.specs.declared.form.TreeError.TheVariants.{View, Bad, Memory}
use Rattle.jfs_owners.specs.objects.specs.Objects.{listed}
use Rattle.jfs_owners.specs.mount_rules.specs.Subject.{page_named}
use Rattle.jfs_owners.specs.findings.specs.Gains.{Gains}
use Rattle.jfs_owners.specs.findings.specs.declared.finding.Finding.{Finding}
use Rattle.jfs_owners.specs.findings.specs.declared.finding.FindingKind.{FindingKind}
use Rattle.jfs_object_check.specs.Steps.{Only, IsBroken, EndsAs, Settles, IsSound}

-- ---- growing lists

pub gains_none : (is : Finding → Type 0) (fs : List Finding) → ((f : Finding) → is f → ⊥) → Gains is fs fs
gains_none is fs never = record { kept = λ f h. h; all = λ f h. absurd (never f h); only = λ f h. inl h }

pub gains_both : {p q : Finding → Type 0} {a b c : List Finding} → Gains p a b → Gains q b c → Gains (λ f. p f ⊎ q f) a c
gains_both {p} {q} {a} {b} {c} g h = record {
  kept = λ f w. h.kept f (g.kept f w);
  all = λ f w. elim w [ inl x ↦ h.kept f (g.all f x) | inr x ↦ h.all f x ];
  only = λ f w. elim (h.only f w) [ inl x ↦ (elim (g.only f x) [ inl y ↦ inl y | inr y ↦ inr (inl y) ]) | inr x ↦ inr (inr x) ];
}

pub gains_as : {p q : Finding → Type 0} {a b : List Finding} → ((f : Finding) → p f → q f) → ((f : Finding) → q f → p f) → Gains p a b → Gains q a b
gains_as to from g = record {
  kept = g.kept;
  all = λ f w. g.all f (from f w);
  only = λ f w. elim (g.only f w) [ inl x ↦ inl x | inr x ↦ inr (to f x) ];
}

-- ---- trees

-- the end of a walk, as the root spells
pub ends_as : {P E T : Type 0} (s : Scale P E) (pages : ℕ → Node P E) (root : Node P E) (r : Result T TreeError)
    → OnOk r (spells s pages root ≡ Ok (rows_of (tree_of s pages root))) → IfErr r (NamesFirst s pages root) → EndsAs s (tree_of s pages root) r
unfolding spells
ends_as s pages root (Ok it) good bad = good
ends_as s pages root (Err (View e)) good bad = tt
ends_as s pages root (Err (Bad page rule)) good bad = bad
ends_as s pages root (Err Memory) good bad = tt

err_is : {E : Type 0} (a b : ℕ) (r t : Rule) (es : List E) → (let x : Result (List E) (ℕ × Rule) = Err (a, r) in x) ≡ Err (b, t) → a ≡ b
err_is a b r t es e = ap first e
  where
    first : {E : Type 0} → Result (List E) (ℕ × Rule) → ℕ
    first (Ok es) = 0
    first (Err f) = f.0

ok_err : {E : Type 0} (es : List E) (f : ℕ × Rule) → (let x : Result (List E) (ℕ × Rule) = Ok es in x) ≡ Err f → ⊥
ok_err es f e = cc

sound_is : {E : Type 0} (l : Result (List E) (ℕ × Rule)) (es : List E) → l ≡ Ok es → IsSound l true
sound_is l es e = subst (λ l. IsSound l true) (sym e) refl

broken_is : {E : Type 0} (l : Result (List E) (ℕ × Rule)) (f : ℕ × Rule) → l ≡ Err f → IsSound l false
broken_is l f e = subst (λ l. IsSound l false) (sym e) refl

module _ {P E : Type 0} (s : Scale P E) (ms : Marks P E) (kind : FindingKind) (at : ℕ) (old new : List Finding) where
  broken_found : (page : ℕ) (rule : Rule) → listed s ms ≡ Err (page, rule) → Gains (Only kind (page_named at page) 0 (Unit {0})) old new → Gains (IsBroken kind s ms at) old new
  broken_found page rule e g = gains_as
      (λ f h. (h.0, record { tree_page = page; rule = rule; breaks = e; on = h.1 }, h.2))
      (λ f h. (h.0, h.1.on ∙ ap (page_named at) (err_is h.1.tree_page page h.1.rule rule [] (sym h.1.breaks ∙ e)), h.2, tt)) g

  none_found : (es : List E) → listed s ms ≡ Ok es → new ≡ old → Gains (IsBroken kind s ms at) old new
  none_found es e same = subst (Gains (IsBroken kind s ms at) old) (sym same) (gains_none (IsBroken kind s ms at) old (λ f h. ok_err es (h.1.tree_page, h.1.rule) (sym e ∙ h.1.breaks)))

  -- what a walk's end gives
  pub settled : {T : Type 0} (answer : Result T TreeError) (r : Result Bool ViewError) → EndsAs s ms answer → Settles kind at answer r old new → OnOk r (Gains (IsBroken kind s ms at) old new)
  settled (Ok it) (Ok sound) e h = none_found (rows_of ms) e h.1
  settled (Ok it) (Err d) e h = tt
  settled (Err (View d)) (Ok sound) e h = absurd h
  settled (Err (View d)) (Err c) e h = tt
  settled (Err (Bad page rule)) (Ok sound) e h = broken_found page rule e h.1
  settled (Err (Bad page rule)) (Err d) e h = tt
  settled (Err Memory) (Ok sound) e h = absurd h
  settled (Err Memory) (Err d) e h = tt

  pub told_sound : {T : Type 0} (answer : Result T TreeError) (r : Result Bool ViewError) → EndsAs s ms answer → Settles kind at answer r old new → IfOk r (IsSound (listed s ms))
  told_sound (Ok it) (Ok sound) e h = subst (IsSound (listed s ms)) (sym h.0) (sound_is (listed s ms) (rows_of ms) e)
  told_sound (Ok it) (Err d) e h = tt
  told_sound (Err (View d)) (Ok sound) e h = absurd h
  told_sound (Err (View d)) (Err c) e h = tt
  told_sound (Err (Bad page rule)) (Ok sound) e h = subst (IsSound (listed s ms)) (sym h.0) (broken_is (listed s ms) (page, rule) e)
  told_sound (Err (Bad page rule)) (Err d) e h = tt
  told_sound (Err Memory) (Ok sound) e h = absurd h
  told_sound (Err Memory) (Err d) e h = tt

pub as_named : (kind : FindingKind) (at page p : ℕ) (old new : List Finding) → p ≡ page_named at page → Gains (Only kind p 0 (true ≡ true)) old new → Gains (Only kind (page_named at page) 0 (Unit {0})) old new
as_named kind at page p old new named g = gains_as (λ f h. (h.0, h.1 ∙ named, h.2, tt)) (λ f h. (h.0, h.1 ∙ sym named, h.2, refl)) g
