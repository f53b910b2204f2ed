-- What the plain step lets in the place of another object.
use Rattle.std.proofs.Common.{◌≡◌, ◌≢◌, ◌≤◌, refl, sym, ap, ◌∙◌, ℕ, suc, ◌-◌, Bool, true, false, true≢false, not, ◌||◌, ◌==◌, eq-eqb, nat_le, nat_lt, if◌then◌else◌, List, [], ◌∷◌, length, Option, Some, None, arith}
use Rattle.std.proofs.lemmas.Bool.Decides.{nat_tests}
use Rattle.jfs_name.specs.declared.name.NameEntry.{NameEntry}
use Rattle.jfs_link.specs.objects.specs.Owners.{bit}
use Rattle.jfs_plain.specs.Tree.{is_dir}
use Rattle.jfs_plain.specs.Step.{why_kept, is_last_of_big, has_names as has_entries}
use Rattle.jfs_plain.specs.declared.node.Node.{Node}
use Rattle.jfs_plain.specs.declared.refusal.Refusal.TheVariants.{IsDir, NotDir, NotEmpty, FileTooBig}

-- an object of the same kind, and an empty one
pub kept_kind : (limit : ℕ) (x inside : Bool) (old : Node) → why_kept limit x inside old ≡ None → is_dir old.kind ≡ x
kept_kind limit true true old h = absurd (cc (h))
kept_kind limit true false old h = by (is_dir old.kind) h
  where
    by : (z : Bool) → (if not z then Some NotDir else (if has_entries old then Some NotEmpty else (if is_last_of_big limit old then Some FileTooBig else None))) ≡ None → z ≡ true
    by true h = refl
    by false h = absurd (cc (h))
kept_kind limit false inside old h = by (is_dir old.kind) h
  where
    by : (z : Bool) → (if z then Some IsDir else (if is_last_of_big limit old then Some FileTooBig else None)) ≡ None → z ≡ false
    by true h = absurd (cc (h))
    by false h = refl

pub kept_empty : (limit : ℕ) (x inside : Bool) (old : Node) → why_kept limit x inside old ≡ None → x ≡ true → has_entries old ≡ false
kept_empty limit true true old h e = absurd (cc (h))
kept_empty limit true false old h e = by (is_dir old.kind) (has_entries old) h
  where
    by : (z y : Bool) → (if not z then Some NotDir else (if y then Some NotEmpty else (if is_last_of_big limit old then Some FileTooBig else None))) ≡ None → y ≡ false
    by true true h = absurd (cc (h))
    by true false h = refl
    by false y h = absurd (cc (h))
kept_empty limit false inside old h e = absurd (true≢false (sym e))

pub kept_outside : (limit : ℕ) (x inside : Bool) (old : Node) → why_kept limit x inside old ≡ None → x ≡ true → inside ≡ false
kept_outside limit true true old h e = absurd (cc (h))
kept_outside limit true false old h e = refl
kept_outside limit false inside old h e = absurd (true≢false (sym e))

pub no_entries : (es : List NameEntry) → not (length es == 0) ≡ false → es ≡ []
no_entries [] h = refl
no_entries (x ∷ es) h = absurd (true≢false (sym (some (length es)) ∙ h))
  where
    some : (k : ℕ) → not (suc k == 0) ≡ true
    some k = grind (arith, nat_tests)

pub not_first : (k m : ℕ) → (k == m) ≡ false → k ≢ m
not_first k m h e = true≢false (sym (eq-eqb k m e) ∙ h)

pub dead_late : (k : ℕ) → 4 ≤ k → (nat_lt k 4 || not (0 == 0)) ≡ false
dead_late k l = grind (arith, nat_tests, l)

pub more_live : (k n : ℕ) → nat_le n 1 ≡ false → (nat_lt k 4 || not (n - 1 == 0)) ≡ true
more_live k n h = grind (arith, nat_tests, h)

pub one_node : {a b : Node} → (x : Option Node) → x ≡ Some a → x ≡ Some b → a ≡ b
one_node x h k = cc (h, k)

pub or_left : (x y : Bool) → (x || y) ≡ false → y ≡ false
or_left true y h = absurd (true≢false h)
or_left false y h = h

pub bit_most : (x : Bool) → bit x ≤ 1
bit_most true = omega arith
bit_most false = omega arith
