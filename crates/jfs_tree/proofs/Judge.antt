-- The first broken rule, and what rises.
use Rattle.std.proofs.Common.{◌≡◌, refl, sym, ap, ◌∙◌, Bool, true, false, List, [], ◌∷◌, if◌then◌else◌, None}
use Rattle.std.specs.declared.result.Result.{Result}
use Rattle.std.specs.declared.result.Result.TheVariants.{Ok, Err}
use Rattle.jfs_tree.specs.Walk.{Page, Key, Row, Fault, Marks, Scale, Rises, rows_of}
use Rattle.jfs_tree.specs.Spells.{judge, with_row}

abbrev as_ok : (A F : Type 0) → A → Result A F
as_ok A F a = Ok a

ok_is : (A F : Type 0) (a b : A) → as_ok A F a ≡ as_ok A F b → a ≡ b
ok_is A F a b h = cc

with_ok : {E F : Type 0} (e : E) (r : Result (List E) F) (es : List E) → with_row e r ≡ Ok es → (rest : List E) × (r ≡ Ok rest) × (es ≡ e ∷ rest)
with_ok {E} {F} e (Ok rest) es h = (rest, refl, ok_is (List E) F es (e ∷ rest) (sym h))
with_ok e (Err f) es h = cc

ok_or : {E F : Type 0} (b : Bool) (r : Result (List E) F) (f : F) (es : List E) → (if b then r else Err f) ≡ Ok es → (b ≡ true) × (r ≡ Ok es)
ok_or true r f es h = (refl, h)
ok_or false r f es h = cc

pub judged : {P E : Type 0} (s : Scale P E) (low : P) (ms : Marks P E) (es : List E) → judge s low ms ≡ Ok es → Rises s low ms None × (rows_of ms ≡ es)
judged s low [] es h = (tt, cc)
judged s low (Page n ∷ ms) es h = judged s low ms es h
judged s low (Key n k ∷ ms) es h = let a = ok_or (s.le low k) (judge s k ms) _ es h in let b = judged s k ms es a.1 in ((a.0, b.0), b.1)
judged s low (Row n e ∷ ms) es h =
    let a = ok_or (s.le low (s.from e)) (with_row e (judge s (s.to e) ms)) _ es h in
    let c = with_ok e (judge s (s.to e) ms) es a.1 in
    let b = judged s (s.to e) ms c.0 c.1 in ((a.0, b.0), ap (λ t. e ∷ t) b.1 ∙ sym c.2)
judged s low (Fault n f ∷ ms) es h = cc

chosen : {A : Type 0} (b : Bool) (x y : A) → b ≡ true → (if b then x else y) ≡ x
chosen true x y h = refl
chosen false x y h = cc

pub judges : {P E : Type 0} (s : Scale P E) (low : P) (ms : Marks P E) → Rises s low ms None → judge s low ms ≡ Ok (rows_of ms)
judges s low [] r = refl
judges s low (Page n ∷ ms) r = judges s low ms r
judges s low (Key n k ∷ ms) r = chosen (s.le low k) (judge s k ms) _ r.0 ∙ judges s k ms r.1
judges s low (Row n e ∷ ms) r = chosen (s.le low (s.from e)) (with_row e (judge s (s.to e) ms)) _ r.0 ∙ ap (with_row e) (judges s (s.to e) ms r.1)
judges s low (Fault n f ∷ ms) r = absurd r
