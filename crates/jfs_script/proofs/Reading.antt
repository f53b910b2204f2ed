-- A script, piece by piece.
use Rattle.std.proofs.Common.{◌≡◌, ◌<◌, ◌≤◌, ℕ, ◌+◌, ◌-◌, List, [], ◌∷◌, ◌++◌, length, take, drop, refl, sym, ap, subst, ◌∙◌, arith, append_assoc, length-append, ◌⊎◌, inl, inr}
use Rattle.std.specs.Prelude.{Option, Some, None, Result, Ok, Err}
use Rattle.std.specs.Result.{IsErrAnd}
use Rattle.std.specs.Global.{Vec}
use Rattle.std.proofs.lemmas.List.{append-nil, nil_from_length, take-append-le, take-append-drop, length-take-le, length-drop}
use Rattle.std.proofs.lemmas.Bool.{cases_lt}
use Rattle.jfs_bits.specs.declared.rule.Rule.{Rule}
use Rattle.jfs_plain.specs.declared.call.Line.{Line}
use Rattle.jfs_plain.specs.declared.call.Request.{Request}
use Rattle.jfs_script.specs.declared.reader.BadLine.{BadLine}
use Rattle.jfs_script.specs.declared.reader.Reader.{Reader}
use Rattle.jfs_script.specs.declared.error.ScriptError.{ScriptError}
use Rattle.jfs_script.specs.declared.error.ScriptError.TheVariants as errors
use Rattle.jfs_script.specs.Lines.{lines_of, without_return}
use Rattle.jfs_script.specs.Line.{LineIs}
use Rattle.std.proofs.Math.Seq.{take-append-add, take-append_seam}
use Rattle.jfs_script.specs.Script.{most_lines, most_bytes, Asks, no_lines, skips, calls, FirstBad, Means, LeavesNone}
use Rattle.jfs_script.specs.Progress.{NoFeed, Judged, IsRead, IsFull, IsStopped, IsFinished}
use Rattle.jfs_script.proofs.Lines.{NoFeed-append, lines_of-ended, lines_of-open, lines_of-some}

-- ---- one line judged

pub still_bad : (ended : List (List ℕ)) (line : List ℕ) (bad : BadLine) (asked : List Line) → Judged ended (Some bad) asked → Judged (ended ++ line ∷ []) (Some bad) asked
still_bad ended line bad asked f = record {
  before = f.before;
  line = f.line;
  after = f.after ++ line ∷ [];
  parts = ap (λ (z : List (List ℕ)). z ++ line ∷ []) f.parts ∙ append_assoc f.before (f.line ∷ f.after) (line ∷ []);
  asked = f.asked;
  good = f.good;
  bad = f.bad;
  number_is = f.number_is;
}

pub skipped : (ended : List (List ℕ)) (line : List ℕ) (asked : List Line) → Asks ended asked → LineIs line (Ok None) → Asks (ended ++ line ∷ []) asked
skipped ended line asked good is = skips (ended ++ line ∷ []) asked ended line good is refl

pub asked_more : (ended : List (List ℕ)) (line : List ℕ) (asked : List Line) (number : ℕ) (q : Request) → number ≡ length ended + 1 → Asks ended asked → LineIs line (Ok (Some q)) → Asks (ended ++ line ∷ []) (asked ++ record { number = number; request = q } ∷ [])
asked_more ended line asked number q e good is =
    calls (ended ++ line ∷ []) (asked ++ record { number = number; request = q } ∷ []) ended line asked q good is refl (ap (λ (n : ℕ). asked ++ record { number = n; request = q } ∷ []) e)

pub turns_bad : (ended : List (List ℕ)) (line : List ℕ) (asked : List Line) (number : ℕ) (rule : Rule) → number ≡ length ended + 1 → Asks ended asked → LineIs line (Err rule) → FirstBad (ended ++ line ∷ []) number rule
turns_bad ended line asked number rule e good is = record { before = ended; line = line; after = []; parts = refl; asked = asked; good = good; bad = is; number_is = e }

-- ---- the reader

pub nothing_read : (r : Reader) → r.asked.items ≡ [] → r.open.items ≡ [] → r.ended ≡ 0 → r.bad ≡ None → IsRead [] r
nothing_read r a o n b = record {
  ended = [];
  lines = λ more. rw o refl;
  count = n;
  few = omega arith;
  room = λ h. absurd (let e = ap length o in omega arith);
  one = rw o tt;
  judged = rw (a, b) (no_lines [] [] refl refl);
}

pub line_ends : (front bytes : List ℕ) (r s : Reader) → IsRead front r → r.ended < 4096 → NoFeed bytes → s.open.items ≡ [] → s.ended ≡ r.ended + 1
    → ((ended : List (List ℕ)) → r.ended + 1 ≡ length ended + 1 → Judged ended r.bad r.asked.items → Judged (ended ++ without_return (r.open.items ++ bytes) ∷ []) s.bad s.asked.items)
    → IsRead (front ++ (bytes ++ 10 ∷ [])) s
line_ends front bytes r s read room none o n judge =
    let line : List ℕ = without_return (r.open.items ++ bytes) in
    let count = read.count in
    record {
      ended = read.ended ++ line ∷ [];
      lines = λ more.
          ap lines_of (append_assoc front (bytes ++ 10 ∷ []) more ∙ ap (λ (z : List ℕ). front ++ z) (append_assoc bytes (10 ∷ []) more))
          ∙ read.lines (bytes ++ 10 ∷ more)
          ∙ ap (λ (z : List (List ℕ)). read.ended ++ z) (ap lines_of (sym (append_assoc r.open.items bytes (10 ∷ more))) ∙ lines_of-ended (r.open.items ++ bytes) more (NoFeed-append r.open.items bytes read.one none))
          ∙ sym (append_assoc read.ended (line ∷ []) (lines_of more))
          ∙ ap (λ (z : List ℕ). (read.ended ++ line ∷ []) ++ lines_of (z ++ more)) (sym o);
      count = omega (arith, length-append read.ended (line ∷ []));
      few = omega (arith, length-append read.ended (line ∷ []));
      room = λ h. absurd (let e = ap length o in omega arith);
      one = rw o tt;
      judged = judge read.ended (ap (λ (k : ℕ). k + 1) count) read.judged;
    }

pub stays_open : (front bytes : List ℕ) (r s : Reader) → IsRead front r → r.ended < 4096 → NoFeed bytes → s.open.items ≡ r.open.items ++ bytes → s.ended ≡ r.ended → s.bad ≡ r.bad → s.asked.items ≡ r.asked.items → IsRead (front ++ bytes) s
stays_open front bytes r s read room none o n b a =
    let count = read.count in
    record {
      ended = read.ended;
      lines = λ more.
          ap lines_of (append_assoc front bytes more) ∙ read.lines (bytes ++ more)
          ∙ ap (λ (z : List ℕ). read.ended ++ lines_of z) (sym (append_assoc r.open.items bytes more) ∙ ap (λ (z : List ℕ). z ++ more) (sym o));
      count = n ∙ count;
      few = read.few;
      room = λ h. omega arith;
      one = rw o (NoFeed-append r.open.items bytes read.one none);
      judged = rw (b, a) read.judged;
    }

-- with all lines that there may be, a further byte is too much
pub overflows : (front rest : List ℕ) (r : Reader) → IsRead front r → r.ended ≡ 4096 → 0 < length rest → IsFull (front ++ rest)
overflows front rest r read full some more =
    let count = read.count in
    let e : lines_of ((front ++ rest) ++ more) ≡ read.ended ++ lines_of (r.open.items ++ (rest ++ more)) = ap lines_of (append_assoc front rest more) ∙ read.lines (rest ++ more) in
    let longer : 0 < length (lines_of (r.open.items ++ (rest ++ more))) = lines_of-some (r.open.items ++ (rest ++ more)) (omega (arith, length-append r.open.items (rest ++ more), length-append rest more)) in
    rw e (omega (arith, length-append read.ended (lines_of (r.open.items ++ (rest ++ more))), longer))

-- ---- the end of a script

pub lines_at_end : (front : List ℕ) (r : Reader) → (read : IsRead front r) → lines_of front ≡ read.ended ++ lines_of r.open.items
lines_at_end front r read = ap lines_of (sym (append-nil front)) ∙ read.lines [] ∙ ap (λ (z : List ℕ). read.ended ++ lines_of z) (append-nil r.open.items)

few_at_end : (front : List ℕ) (r : Reader) → IsRead front r → (0 < length r.open.items) ⊎ (length r.open.items ≤ 0) → length (lines_of front) ≤ most_lines
unfolding lines_of
few_at_end front r read (inl some) =
    let e : lines_of front ≡ read.ended ++ r.open.items ∷ [] = lines_at_end front r read ∙ ap (λ (z : List (List ℕ)). read.ended ++ z) (lines_of-open r.open.items read.one some) in
    rw e (omega (arith, length-append read.ended (r.open.items ∷ []), read.room some))
few_at_end front r read (inr none) =
    let o : r.open.items ≡ [] = nil_from_length r.open.items (omega arith) in
    let e : lines_of front ≡ read.ended = lines_at_end front r read ∙ ap (λ (z : List ℕ). read.ended ++ lines_of z) o ∙ append-nil read.ended in
    rw e read.few

pub few_lines : (front : List ℕ) (r : Reader) → IsRead front r → length (lines_of front) ≤ most_lines
few_lines front r read = few_at_end front r read (cases_lt 0 (length r.open.items))

-- what all lines ask for, where none is open
pub judged_none : (front : List ℕ) (r : Reader) → IsRead front r → length r.open.items ≡ 0 → Judged (lines_of front) r.bad r.asked.items
unfolding lines_of
judged_none front r read none =
    let o : r.open.items ≡ [] = nil_from_length r.open.items none in
    let e : lines_of front ≡ read.ended = lines_at_end front r read ∙ ap (λ (z : List ℕ). read.ended ++ lines_of z) o ∙ append-nil read.ended in
    rw e read.judged

-- and where the last one is
pub judged_open : (front : List ℕ) (r : Reader) (bad : Option BadLine) (asked : List Line) → IsRead front r → 0 < length r.open.items
    → ((ended : List (List ℕ)) → r.ended + 1 ≡ length ended + 1 → Judged ended r.bad r.asked.items → Judged (ended ++ r.open.items ∷ []) bad asked) → Judged (lines_of front) bad asked
judged_open front r bad asked read some judge =
    let count = read.count in
    let e : lines_of front ≡ read.ended ++ r.open.items ∷ [] = lines_at_end front r read ∙ ap (λ (z : List (List ℕ)). read.ended ++ z) (lines_of-open r.open.items read.one some) in
    rw e (judge read.ended (ap (λ (k : ℕ). k + 1) count) read.judged)

-- ---- pieces of the source

-- what was taken so far
pub record IsTaken (tells : Type 0) (old now : List ℕ) (before count : ℕ) (r : Reader) (taken : ℕ) : Type 0 where
  pub front : List ℕ
  pub read : IsRead front r
  pub few : r.ended ≤ 4096
  pub size : length front ≡ taken
  pub within : taken ≤ 16777217
  pub left : tells → old ≡ front ++ now
  pub same : count ≡ before

pub finished : (text : List ℕ) (before now : ℕ) (result : Result (Vec Line) ScriptError) → length text ≤ most_bytes → IsFinished text result → Means text before now result
finished text before now (Ok asked) small h = (record { lines = h.0; bytes = small }, h.1)
finished text before now (Err errors.Fault) small h = absurd h
finished text before now (Err (errors.TooMuch count)) small h = absurd h
finished text before now (Err (errors.BadScript line rule)) small h = (record { lines = h.0; bytes = small }, h.1)
finished text before now (Err errors.Memory) small h = tt

pub none_left : (rest : List ℕ) (result : Result (Vec Line) ScriptError) → rest ≡ [] → LeavesNone rest result
none_left rest (Ok asked) e = e
none_left rest (Err errors.Fault) e = tt
none_left rest (Err (errors.TooMuch count)) e = tt
none_left rest (Err (errors.BadScript line rule)) e = e
none_left rest (Err errors.Memory) e = tt

front_of : (n : ℕ) (front rest : List ℕ) → length front ≤ n → take n (front ++ rest) ≡ front ++ take (n - length front) rest
front_of n front rest h =
    let e : n ≡ length front + (n - length front) = omega arith in
    ap (λ (k : ℕ). take k (front ++ rest)) e ∙ take-append-add front rest (n - length front)

pub stopped : (front rest : List ℕ) (before now : ℕ) (e : ScriptError) → length front ≤ 16777217 → IsStopped e front → Means (front ++ rest) before now (Err e)
stopped front rest before now errors.Memory small h = tt
stopped front rest before now errors.Fault small h = absurd h
stopped front rest before now (errors.BadScript line rule) small h = absurd h
stopped front rest before now (errors.TooMuch count) small h =
    inl (h.0, subst (λ (z : List ℕ). most_lines < length (lines_of z)) (sym (front_of 16777217 front rest small)) (h.1 (take (16777217 - length front) rest)))

-- a script that stopped isn't judged as a whole
pub leaves_any : (front rest : List ℕ) (e : ScriptError) → IsStopped e front → LeavesNone rest (Err e)
leaves_any front rest errors.Memory h = tt
leaves_any front rest errors.Fault h = absurd h
leaves_any front rest (errors.BadScript line rule) h = absurd h
leaves_any front rest (errors.TooMuch count) h = tt

pub too_long : (front rest : List ℕ) (before now : ℕ) (r : Reader) → length front ≡ 16777217 → IsRead front r → Means (front ++ rest) before now (Err (errors.TooMuch 16777217))
too_long front rest before now r size read =
    let whole : take 16777217 (front ++ rest) ≡ front = ap (λ (k : ℕ). take k (front ++ rest)) (sym size) ∙ take-append_seam front rest in
    inr (refl, subst (λ (z : List ℕ). length (lines_of z) ≤ most_lines) (sym whole) (few_lines front r read), omega (arith, length-append front rest))

pub means_err : (text : List ℕ) (before now : ℕ) (r : Result (Vec Line) ScriptError) (e : ScriptError) → IsErrAnd r (λ f. f ≡ e) → Means text before now (Err e) → Means text before now r
means_err text before now (Ok asked) e h m = absurd h
means_err text before now (Err f) e h m = subst (λ (f : ScriptError). Means text before now (Err f)) (sym h) m

-- what a piece of the source is: the bytes that it took
pub record IsPiece (tells : Type 0) (now after piece : List ℕ) (n : ℕ) : Type 0 where
  pub long : length piece ≡ n
  pub parts : tells → now ≡ piece ++ after

pub piece_of : (tells : Type 0) (now after into buffer : List ℕ) (n room : ℕ) → length buffer ≡ 4096 → room ≤ 4096 → n ≤ length (take room buffer) → length into ≡ length (take room buffer)
    → (tells → into ≡ take n now ++ drop n (take room buffer)) → (tells → after ≡ drop n now) → IsPiece tells now after (take n (into ++ drop room buffer)) n
piece_of tells now after into buffer n room size small within same bytes rest =
    let reach : n ≤ length into = omega arith in
    let front : take n (into ++ drop room buffer) ≡ take n into = take-append-le n into (drop room buffer) reach in
    record {
      long = ap length front ∙ length-take-le n into reach;
      parts = λ t.
          let is = bytes t in
          let long : length into ≡ length (take n now) + (length (take room buffer) - n) = ap length is ∙ length-append (take n now) (drop n (take room buffer)) ∙ ap (λ (k : ℕ). length (take n now) + k) (length-drop n (take room buffer)) in
          let whole : n ≡ length (take n now) = omega arith in
          let piece : take n into ≡ take n now = ap (λ (z : List ℕ). take n z) is ∙ ap (λ (k : ℕ). take k (take n now ++ drop n (take room buffer))) whole ∙ take-append_seam (take n now) (drop n (take room buffer)) in
          sym (take-append-drop n now) ∙ ap (λ (z : List ℕ). z ++ drop n now) (sym (front ∙ piece)) ∙ ap (λ (z : List ℕ). take n (into ++ drop room buffer) ++ z) (sym (rest t));
    }

pub parts_after : (tells : Type 0) (old now after piece : List ℕ) (before count : ℕ) (r : Reader) (taken n : ℕ) → (so_far : IsTaken tells old now before count r taken) → IsPiece tells now after piece n → tells → old ≡ (so_far.front ++ piece) ++ after
parts_after tells old now after piece before count r taken n so_far is t =
    so_far.left t ∙ ap (λ (z : List ℕ). so_far.front ++ z) (is.parts t) ∙ sym (append_assoc so_far.front piece after)

pub more_taken : (tells : Type 0) (old now after piece : List ℕ) (before count later : ℕ) (r s : Reader) (taken n : ℕ) → (so_far : IsTaken tells old now before count r taken) → IsPiece tells now after piece n
    → taken + n ≤ 16777217 → later ≡ count → IsRead (so_far.front ++ piece) s → s.ended ≤ 4096 → IsTaken tells old after before later s (taken + n)
more_taken tells old now after piece before count later r s taken n so_far is within same read few = record {
  front = so_far.front ++ piece;
  read = read;
  few = few;
  size = length-append so_far.front piece ∙ (let a = so_far.size in let b = is.long in omega arith);
  within = within;
  left = parts_after tells old now after piece before count r taken n so_far is;
  same = same ∙ so_far.same;
}
