-- Steps of the loop that puts a text piece by piece, and of two texts in a row.
use Rattle.std.proofs.Common.{◌≡◌, ℕ, List, ◌++◌, take, drop, sym, ap, ◌∙◌, append_assoc}
use Rattle.std.proofs.lemmas.List.{take-append-drop}
use Rattle.jfs_command.specs.Print.{Puts, PutsFront}

-- a front of the text was put, the rest is left, and the sink's count is as before
pub record Progress (tells : Type 0) (old new : List ℕ) (before now : ℕ) (text rest : List ℕ) : Type 0 where
  pub front : List ℕ
  pub split : text ≡ front ++ rest
  pub put : Puts tells old new front
  pub same : now ≡ before

pub goes_on : (tells : Type 0) (old mid new : List ℕ) (before now after : ℕ) (text rest : List ℕ) (n : ℕ) → Progress tells old mid before now text rest → (tells → new ≡ mid ++ take n rest) → after ≡ now → Progress tells old new before after text (drop n rest)
goes_on tells old mid new before now after text rest n p put same = record {
  front = p.front ++ take n rest;
  split = p.split ∙ ap (λ (z : List ℕ). p.front ++ z) (sym (take-append-drop n rest)) ∙ sym (append_assoc p.front (take n rest) (drop n rest));
  put = λ t. put t ∙ ap (λ (z : List ℕ). z ++ take n rest) (p.put t) ∙ append_assoc old p.front (take n rest);
  same = same ∙ p.same;
}

-- a front of a text is one of the text with a line after it
pub front_before : (tells : Type 0) (old new text line : List ℕ) → PutsFront tells old new text → PutsFront tells old new (text ++ line)
front_before tells old new text line (front, (rest, split), put) =
    (front, (rest ++ line, ap (λ (z : List ℕ). z ++ line) split ∙ append_assoc front rest line), put)

-- after a whole text, a front of the line
pub front_after : (tells : Type 0) (old mid new text line : List ℕ) → Puts tells old mid text → PutsFront tells mid new line → PutsFront tells old new (text ++ line)
front_after tells old mid new text line put (front, (rest, split), more) =
    (text ++ front, (rest, ap (λ (z : List ℕ). text ++ z) split ∙ sym (append_assoc text front rest)), λ t. more t ∙ ap (λ (z : List ℕ). z ++ front) (put t) ∙ append_assoc old text front)
