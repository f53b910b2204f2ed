-- Lines that end, and the line that is open.
use Rattle.std.proofs.Common.{◌≡◌, ◌<◌, ℕ, suc, Bool, true, false, ◌&&◌, cond, eqb, List, [], ◌∷◌, ◌++◌, length, get_or, refl, sym, ap, ◌∙◌, arith}
use Rattle.std.proofs.lemmas.Bool.{ne_eqb, and_right, false≢true}
use Rattle.std.specs.List.{onto_first}
use Rattle.jfs_script.specs.Lines.{begins_with, lines_of, without_return}
use Rattle.jfs_script.specs.Progress.{NoFeed}

pub NoFeed-append : (a b : List ℕ) → NoFeed a → NoFeed b → NoFeed (a ++ b)
NoFeed-append [] b ha hb = hb
NoFeed-append (x ∷ a) b ha hb = (ha.0, NoFeed-append a b ha.1 hb)

pub NoFeed-from_places : (bytes : List ℕ) → ((k : ℕ) → k < length bytes → get_or bytes k 0 ≡ 10 → ⊥) → NoFeed bytes
NoFeed-from_places [] none = tt
NoFeed-from_places (b ∷ bs) none = (none 0 (omega arith), NoFeed-from_places bs (λ k h. none (suc k) (omega arith)))

last_byte : (b : ℕ) (more : List ℕ) (v : Bool) → eqb b 13 ≡ v → eqb b 10 ≡ false → lines_of (b ∷ 10 ∷ more) ≡ without_return (b ∷ []) ∷ lines_of more
unfolding lines_of without_return
last_byte b more true e f = rw (f, e) refl
last_byte b more false e f = rw (f, e) refl

inner_byte : (b c : ℕ) (bs : List ℕ) → eqb b 10 ≡ false → eqb c 10 ≡ false → lines_of (b ∷ c ∷ bs) ≡ onto_first b (lines_of (c ∷ bs))
unfolding lines_of
inner_byte b c bs f g = rw (f, g, and_right (eqb b 13) false refl) refl

open_byte : (b : ℕ) → eqb b 10 ≡ false → lines_of (b ∷ []) ≡ (b ∷ []) ∷ []
unfolding lines_of
open_byte b f = rw (f, and_right (eqb b 13) false refl) refl

-- a line that ends, without a carriage return before its line feed
pub lines_of-ended : (line more : List ℕ) → NoFeed line → lines_of (line ++ 10 ∷ more) ≡ without_return line ∷ lines_of more
unfolding lines_of without_return
lines_of-ended [] more none = refl
lines_of-ended (b ∷ []) more none = last_byte b more (eqb b 13) refl (ne_eqb b 10 none.0)
lines_of-ended (b ∷ c ∷ bs) more none =
    inner_byte b c (bs ++ 10 ∷ more) (ne_eqb b 10 none.0) (ne_eqb c 10 none.1.0) ∙ ap (onto_first b) (lines_of-ended (c ∷ bs) more none.1)

-- the line that the script's end leaves open
pub lines_of-open : (line : List ℕ) → NoFeed line → 0 < length line → lines_of line ≡ line ∷ []
lines_of-open [] none some = absurd (omega arith)
lines_of-open (b ∷ []) none some = open_byte b (ne_eqb b 10 none.0)
lines_of-open (b ∷ c ∷ bs) none some =
    inner_byte b c bs (ne_eqb b 10 none.0) (ne_eqb c 10 none.1.0) ∙ ap (onto_first b) (lines_of-open (c ∷ bs) none.1 (omega arith))

some_onto : (b : ℕ) (lines : List (List ℕ)) → 0 < length (onto_first b lines)
some_onto b [] = omega arith
some_onto b (line ∷ lines) = omega arith

some_at : (b : ℕ) (bs : List ℕ) (v w : Bool) → eqb b 10 ≡ v → (eqb b 13 && begins_with 10 bs) ≡ w → (0 < length bs → 0 < length (lines_of bs)) → 0 < length (lines_of (b ∷ bs))
unfolding lines_of
some_at b bs true w e f more = rw e (omega arith)
some_at b bs false false e f more = rw (e, f) (some_onto b (lines_of bs))
some_at b [] false true e f more = rw (e, f) (absurd (false≢true (sym (and_right (eqb b 13) false refl) ∙ f)))
some_at b (c ∷ bs) false true e f more = rw (e, f) (more (omega arith))

-- a byte begins a line
pub lines_of-some : (text : List ℕ) → 0 < length text → 0 < length (lines_of text)
unfolding lines_of
lines_of-some [] some = some
lines_of-some (b ∷ bs) some = some_at b bs (eqb b 10) (eqb b 13 && begins_with 10 bs) refl refl (lines_of-some bs)

step_yes : (v : Bool) (c : ℕ) (rest front whole : List ℕ) → rest ≡ cond v front whole → c ∷ rest ≡ cond v (c ∷ front) (c ∷ whole)
step_yes true c rest front whole e = ap (λ (z : List ℕ). c ∷ z) e
step_yes false c rest front whole e = ap (λ (z : List ℕ). c ∷ z) e

return_at : (b : ℕ) (v : Bool) → eqb b 13 ≡ v → (front : List ℕ) → without_return (front ++ b ∷ []) ≡ cond v front (front ++ b ∷ [])
unfolding without_return
return_at b true e [] = rw e refl
return_at b false e [] = rw e refl
return_at b v e (c ∷ []) = step_yes v c (without_return (b ∷ [])) [] (b ∷ []) (return_at b v e [])
return_at b v e (c ∷ d ∷ front) = step_yes v c (without_return (d ∷ front ++ b ∷ [])) (d ∷ front) (d ∷ front ++ b ∷ []) (return_at b v e (d ∷ front))

-- the last byte alone decides
pub without_return-yes : (front : List ℕ) → without_return (front ++ 13 ∷ []) ≡ front
without_return-yes front = return_at 13 true refl front

pub without_return-no : (front : List ℕ) (b : ℕ) → (b ≡ 13 → ⊥) → without_return (front ++ b ∷ []) ≡ front ++ b ∷ []
without_return-no front b no_return = return_at b false (ne_eqb b 13 no_return) front
