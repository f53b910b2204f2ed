-- An entry that goes into a part of a tree.
use Rattle.std.proofs.Common.{◌≡◌, refl, sym, ap, ◌∙◌, subst, ℕ, ◌+◌, true, List, [], ◌∷◌, ◌++◌, Option, Some, arith, append_assoc}
use Rattle.jfs_tree.specs.Walk.{Page, Key, Row, Fault, Marks, Scale, UpTo, Rises, IsOrder, rows_of, times}
use Rattle.jfs_tree.specs.Edit.{Clear, Added, Ready, Took, bound, Tail, StartsWithKey}
use Rattle.jfs_tree.proofs.Frame.{times-append, rows-append}
use Rattle.jfs_tree.proofs.Rising.{rises_higher, rises_join, rises_cut}

pub clear_left : {P E : Type 0} (s : Scale P E) (x : E) (a b : Marks P E) → Clear s x (a ++ b) → Clear s x a
clear_left s x [] b h = tt
clear_left s x (Page n ∷ ms) b h = clear_left s x ms b h
clear_left s x (Key n k ∷ ms) b h = (h.0, clear_left s x ms b h.1)
clear_left s x (Row n e ∷ ms) b h = (h.0, clear_left s x ms b h.1)
clear_left s x (Fault n f ∷ ms) b h = clear_left s x ms b h

pub clear_right : {P E : Type 0} (s : Scale P E) (x : E) (a b : Marks P E) → Clear s x (a ++ b) → Clear s x b
clear_right s x [] b h = h
clear_right s x (Page n ∷ ms) b h = clear_right s x ms b h
clear_right s x (Key n k ∷ ms) b h = clear_right s x ms b h.1
clear_right s x (Row n e ∷ ms) b h = clear_right s x ms b h.1
clear_right s x (Fault n f ∷ ms) b h = clear_right s x ms b h

pub cut_at_key : {P E : Type 0} (s : Scale P E) → IsOrder s → (low : P) (a b : Marks P E) (high : Option P) → StartsWithKey b → Rises s low (a ++ b) high → Rises s low a (bound b high) × Tail s b high
cut_at_key s o low a [] high h r = let t = rises_cut s o low a [] high r in (rises_higher s o low a t.0 high t.2 t.1, tt)
cut_at_key s o low a (Key n k ∷ ms) high h r = let t = rises_cut s o low a (Key n k ∷ ms) high r in (rises_higher s o low a t.0 (Some k) t.2.0 t.1, t.2.1)
cut_at_key s o low a (Page n ∷ ms) high h r = absurd h
cut_at_key s o low a (Row n e ∷ ms) high h r = absurd h
cut_at_key s o low a (Fault n f ∷ ms) high h r = absurd h

pub append_nil : {X : Type 0} (a : List X) → a ++ [] ≡ a
append_nil [] = refl
append_nil (x ∷ a) = ap (λ t. x ∷ t) (append_nil a)

pub join_at_key : {P E : Type 0} (s : Scale P E) → IsOrder s → (low : P) (a b : Marks P E) (high : Option P) → Rises s low a (bound b high) → Tail s b high → Rises s low (a ++ b) high
join_at_key s o low a [] high r t = subst (λ ms. Rises s low ms high) (sym (append_nil a)) r
join_at_key s o low a (Key n k ∷ ms) high r t = rises_join s o low k a (Key n k ∷ ms) high r (o.refl_le k, t)
join_at_key s o low a (Page n ∷ ms) high r t = absurd t
join_at_key s o low a (Row n e ∷ ms) high r t = absurd t
join_at_key s o low a (Fault n f ∷ ms) high r t = absurd t

-- an entry added to a part is added to the whole
pub added_between : {E : Type 0} (x : E) (a old new b : List E) → Added x old new → Added x (a ++ (old ++ b)) (a ++ (new ++ b))
added_between x a old new b h = record {
  front = a ++ h.front;
  back = h.back ++ b;
  before = ap (λ t. a ++ (t ++ b)) h.before ∙ ap (λ t. a ++ t) (append_assoc h.front h.back b) ∙ sym (append_assoc a h.front (h.back ++ b));
  after = ap (λ t. a ++ (t ++ b)) h.after ∙ ap (λ t. a ++ t) (append_assoc h.front (x ∷ h.back) b) ∙ sym (append_assoc a h.front (x ∷ (h.back ++ b)));
}

pub rows_three : {P E : Type 0} (a ms b : Marks P E) → rows_of (a ++ (ms ++ b)) ≡ rows_of a ++ (rows_of ms ++ rows_of b)
rows_three a ms b = rows-append a (ms ++ b) ∙ ap (λ t. rows_of a ++ t) (rows-append ms b)

pub times_three : {P E : Type 0} (n : ℕ) (a ms b : Marks P E) → times n (a ++ (ms ++ b)) ≡ times n a + (times n ms + times n b)
times_three n a ms b = times-append n a (ms ++ b) ∙ ap (λ t. times n a + t) (times-append n ms b)

-- what is ready for an entry has a part that is, behind `a` and before `b`
pub record Between {P E : Type 0} (s : Scale P E) (x : E) (key low : P) (a ms b : Marks P E) (high : Option P) (free : List ℕ) : Type 0 where
  pub mid : P
  pub left : Rises s low a (Some mid)
  pub part : Ready s x key mid ms (bound b high) free
  pub right : Tail s b high

pub ready_between : {P E : Type 0} (s : Scale P E) → IsOrder s → (x : E) (key own low : P) (a ms b : Marks P E) (high : Option P) (free : List ℕ)
    → Ready s x own low (a ++ (ms ++ b)) high free → s.le key (s.from x) ≡ true → UpTo s (s.to x) (bound b high) → StartsWithKey b → Between s x key low a ms b high free
ready_between s o x key own low a ms b high free r above below starts =
    let t = rises_cut s o low a (ms ++ b) high r.rises in
    let u = cut_at_key s o t.0 ms b high starts t.2 in
    record {
      mid = t.0;
      left = t.1;
      part = record {
        rises = u.0;
        above = above;
        below = below;
        clear = clear_left s x ms b (clear_right s x a (ms ++ b) r.clear);
        once = λ n. let e = times_three n a ms b in let h = r.once n in omega (arith, e, h);
      };
      right = u.1;
    }

-- an entry that went into a part went into the whole
pub took_between : {P E : Type 0} (s : Scale P E) → IsOrder s → (x : E) (low mid : P) (a old new b : Marks P E) (high : Option P) (free left : List ℕ)
    → Rises s low a (Some mid) → Tail s b high → Took s x mid old new (bound b high) free left → Took s x low (a ++ (old ++ b)) (a ++ (new ++ b)) high free left
took_between s o x low mid a old new b high free left ra rb t = record {
  rows = subst (λ p. Added x p (rows_of (a ++ (new ++ b)))) (sym (rows_three a old b))
      (subst (λ p. Added x (rows_of a ++ (rows_of old ++ rows_of b)) p) (sym (rows_three a new b)) (added_between x (rows_of a) (rows_of old) (rows_of new) (rows_of b) t.rows));
  rises = rises_join s o low mid a (new ++ b) high ra (join_at_key s o mid new b high t.rises rb);
  pages = λ n. let e = times_three n a old b in let f = times_three n a new b in let h = t.pages n in omega (arith, e, f, h);
}
