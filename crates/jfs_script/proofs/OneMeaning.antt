-- What a word, a line and a script mean is one thing.
use Rattle.std.proofs.Common.{◌≡◌, ◌<◌, ◌≤◌, ◌+◌, ℕ, Bool, true, false, List, [], ◌∷◌, ◌++◌, length, get_or, codes, Option, Some, None, Result, Ok, Err, ◌⊎◌, inl, inr, refl, sym, ap, ◌∙◌, subst, length-append, arith}
use Rattle.std.specs.Str.{bytes_eq}
use Rattle.std.proofs.lemmas.Bool.{cases_lt}
use Rattle.std.proofs.lemmas.List.{take_all, get_or_push, get_or_append_left}
use Rattle.hex.specs.Hex.{hex_digit_value}
use Rattle.jfs_bits.specs.declared.rule.Rule.{Rule}
use Rattle.jfs_bits.specs.declared.rule.Rule.TheVariants as rules
use Rattle.jfs_plain.specs.declared.call.Line.{Line}
use Rattle.jfs_plain.specs.declared.call.Request.{Request}
use Rattle.jfs_script.specs.declared.verb.Verb.{Verb}
use Rattle.jfs_script.specs.declared.verb.Verb.TheVariants as verbs
use Rattle.jfs_script.specs.Lines.{lines_of, is_skipped, is_text, words_of}
use Rattle.jfs_script.specs.Number.{number_of, count_of, mode_of, hex_of, byte_of}
use Rattle.jfs_script.specs.Target.{escaped_byte, IsBadEscape, Spells, no_bytes, plain, escaped, broken, TargetIs}
use Rattle.jfs_script.specs.Words.{Then, PathIs, Miscounted, OneWord, TwoWords, ThreeWords, FourWords}
use Rattle.jfs_script.specs.Line.{verb_of, may_be_lazy, Makes, NoWords, CallIs, FittingCallIs, NamedCallIs, LazyCallIs, CallAfter, RequestIs, TextIs, UnlessSkipped, LineIs}
use Rattle.jfs_script.specs.Script.{most_bytes, Asks, no_lines, skips, calls, FirstBad, IsWithin, TooMuchIs}
use Rattle.jfs_script.specs.Laws.{asks, is_bad, is_too_much, ScriptsMeanOneThing}
use Rattle.jfs_script.proofs.OnePath.{one_way}

-- it means one thing at most
abbrev One : {A : Type 0} → (Result A Rule → Type 0) → Type 0
One {A} means = (x y : Result A Rule) → means x → means y → x ≡ y

ok_is_no_err : {A : Type 0} (a : A) (rule : Rule) → Ok a ≡ Err rule → ⊥
ok_is_no_err a rule e = cc

same_ok : {A : Type 0} {E : Type 0} (a b : A) → ◌≡◌ {A = Result A E} (Ok a) (Ok b) → a ≡ b
same_ok a b e = cc

same_err : {A : Type 0} (r s : Rule) → ◌≡◌ {A = Result A Rule} (Err r) (Err s) → r ≡ s
same_err r s e = cc

equal_one : {A : Type 0} (v : Result A Rule) → One (λ (r : Result A Rule). r ≡ v)
equal_one v x y a b = a ∙ sym b

then_one : {A C : Type 0} (first : Result A Rule → Type 0) (next : A → Result C Rule → Type 0) → One first → ((a : A) → One (next a)) → One (Then first next)
then_one first next one each x y (inl (a, is, then)) (inl (b, is', then')) =
    each b x y (subst (λ (v : _). next v x) (same_ok a b (one (Ok a) (Ok b) is is')) then) then'
then_one first next one each x y (inl (a, is, then)) (inr (rule, is', e)) = absurd (ok_is_no_err a rule (one (Ok a) (Err rule) is is'))
then_one first next one each x y (inr (rule, is, e)) (inl (a, is', then)) = absurd (ok_is_no_err a rule (one (Ok a) (Err rule) is' is))
then_one first next one each x y (inr (rule, is, e)) (inr (rule', is', e')) = e ∙ ap (λ (r : Rule). Err r) (same_err rule rule' (one (Err rule) (Err rule') is is')) ∙ sym e'

makes_one : {A C : Type 0} (make : A → C) (means : Result A Rule → Type 0) → One means → One (Makes make means)
makes_one make means one = then_one means (λ a r. r ≡ Ok (make a)) one (λ a. equal_one (Ok (make a)))

-- ---- words

path_one : (word : List ℕ) → One (PathIs word)
path_one word (Ok a) (Ok b) x y = ap (λ (p : List (List ℕ)). Ok p) ((one_way word).one a b x y)
path_one word (Ok a) (Err rule) x (inl (is, place, breaks)) = absurd ((one_way word).no_break a place x breaks)
path_one word (Ok a) (Err rule) x (inr (is, place, long)) = absurd ((one_way word).not_long a place x long)
path_one word (Err rule) (Ok a) (inl (is, place, breaks)) x = absurd ((one_way word).no_break a place x breaks)
path_one word (Err rule) (Ok a) (inr (is, place, long)) x = absurd ((one_way word).not_long a place x long)
path_one word (Err rule) (Err rule') (inl (is, place, breaks)) (inl (is', place', breaks')) = ap (λ (r : Rule). Err r) (is ∙ sym is')
path_one word (Err rule) (Err rule') (inl (is, place, breaks)) (inr (is', place', long)) = absurd ((one_way word).not_both place place' breaks long)
path_one word (Err rule) (Err rule') (inr (is, place, long)) (inl (is', place', breaks)) = absurd ((one_way word).not_both place' place breaks long)
path_one word (Err rule) (Err rule') (inr (is, place, long)) (inr (is', place', long')) = ap (λ (r : Rule). Err r) (is ∙ sym is')

empty_or_not : (text : List ℕ) (b : ℕ) (bs : List ℕ) → text ≡ [] → text ≡ b ∷ bs → ⊥
empty_or_not text b bs e f = cc

same_first : (text : List ℕ) (a b : ℕ) (xs bs : List ℕ) → text ≡ a ∷ xs → text ≡ b ∷ bs → (a ≡ b) × (xs ≡ bs)
same_first text a b xs bs e f = (cc, cc)

some_or_none : (o : Option ℕ) (x : ℕ) → o ≡ Some x → o ≡ None → ⊥
some_or_none o x e f = cc

bad_or_not : (rest high_low : List ℕ) (high low byte : ℕ) (after : List ℕ) → rest ≡ high ∷ low ∷ after → escaped_byte (hex_digit_value high) (hex_digit_value low) ≡ Some byte → IsBadEscape rest → ⊥
bad_or_not rest high_low high low byte after e is bad = some_or_none (escaped_byte (hex_digit_value high) (hex_digit_value low)) byte is (subst IsBadEscape e bad)

spells_one : (text : List ℕ) (x y : Option (List ℕ)) → Spells text x → Spells text y → x ≡ y
spells_one text x y (no_bytes t o e is) (no_bytes t' o' e' is') = is ∙ sym is'
spells_one text x y (no_bytes t o e is) (plain t' o' byte rest more e' other s is') = absurd (empty_or_not text byte rest e e')
spells_one text x y (no_bytes t o e is) (escaped t' o' byte high low rest more e' esc s is') = absurd (empty_or_not text 37 (high ∷ low ∷ rest) e e')
spells_one text x y (no_bytes t o e is) (broken t' o' rest e' bad is') = absurd (empty_or_not text 37 rest e e')
spells_one text x y (plain t o byte rest more e other s is) (no_bytes t' o' e' is') = absurd (empty_or_not text byte rest e' e)
spells_one text x y (plain t o byte rest more e other s is) (plain t' o' byte' rest' more' e' other' s' is') =
    let same = same_first text byte byte' rest rest' e e' in
    let behind = spells_one rest more more' s (subst (λ (r : List ℕ). Spells r more') (sym same.1) s') in
    is ∙ rw (same.0, behind) refl ∙ sym is'
spells_one text x y (plain t o byte rest more e other s is) (escaped t' o' byte' high low rest' more' e' esc s' is') = absurd (other (same_first text byte 37 rest (high ∷ low ∷ rest') e e').0)
spells_one text x y (plain t o byte rest more e other s is) (broken t' o' rest' e' bad is') = absurd (other (same_first text byte 37 rest rest' e e').0)
spells_one text x y (escaped t o byte high low rest more e esc s is) (no_bytes t' o' e' is') = absurd (empty_or_not text 37 (high ∷ low ∷ rest) e' e)
spells_one text x y (escaped t o byte high low rest more e esc s is) (plain t' o' byte' rest' more' e' other s' is') = absurd (other (same_first text byte' 37 rest' (high ∷ low ∷ rest) e' e).0)
spells_one text x y (escaped t o byte high low rest more e esc s is) (escaped t' o' byte' high' low' rest' more' e' esc' s' is') =
    let behind = (same_first text 37 37 (high ∷ low ∷ rest) (high' ∷ low' ∷ rest') e e').1 in
    let first = same_first (high ∷ low ∷ rest) high high' (low ∷ rest) (low' ∷ rest') refl behind in
    let second = same_first (low ∷ rest) low low' rest rest' refl first.1 in
    let same : byte ≡ byte' = one_byte first.0 second.0 in
    let more_same = spells_one rest more more' s (subst (λ (r : List ℕ). Spells r more') (sym second.1) s') in
    is ∙ rw (same, more_same) refl ∙ sym is'
  where
    same_some : (o : Option ℕ) (x y : ℕ) → o ≡ Some x → o ≡ Some y → x ≡ y
    same_some o x y e f = cc

    one_byte : high ≡ high' → low ≡ low' → byte ≡ byte'
    one_byte h l = same_some (escaped_byte (hex_digit_value high) (hex_digit_value low)) byte byte' esc (rw (h, l) esc')
spells_one text x y (escaped t o byte high low rest more e esc s is) (broken t' o' rest' e' bad is') =
    absurd (bad_or_not rest' [] high low byte rest (same_first text 37 37 rest' (high ∷ low ∷ rest) e' e).1 esc bad)
spells_one text x y (broken t o rest e bad is) (no_bytes t' o' e' is') = absurd (empty_or_not text 37 rest e' e)
spells_one text x y (broken t o rest e bad is) (plain t' o' byte' rest' more' e' other s' is') = absurd (other (same_first text byte' 37 rest' rest e' e).0)
spells_one text x y (broken t o rest e bad is) (escaped t' o' byte' high low rest' more' e' esc s' is') =
    absurd (bad_or_not rest [] high low byte' rest' (same_first text 37 37 rest (high ∷ low ∷ rest') e e').1 esc bad)
spells_one text x y (broken t o rest e bad is) (broken t' o' rest' e' bad' is') = is ∙ sym is'

same_bytes : (a b : List ℕ) → ◌≡◌ {A = Option (List ℕ)} (Some a) (Some b) → a ≡ b
same_bytes a b e = cc

bytes_or_none : (a : List ℕ) → ◌≡◌ {A = Option (List ℕ)} (Some a) None → ⊥
bytes_or_none a e = cc

wrong_size : (a b : List ℕ) → a ≡ b → 0 < length a → length a ≤ 255 → (length b ≡ 0) ⊎ (255 < length b) → ⊥
wrong_size a b e some most (inl none) = let n = ap length e in omega (arith, n, some, none)
wrong_size a b e some most (inr many) = let n = ap length e in omega (arith, n, most, many)

target_fits : (word bytes : List ℕ) → TargetIs word (Ok bytes) → (Spells word None ⊎ ((b : List ℕ) × Spells word (Some b) × ((length b ≡ 0) ⊎ (255 < length b)))) → ⊥
target_fits word bytes x (inl none) = bytes_or_none bytes (spells_one word (Some bytes) None x.0 none)
target_fits word bytes x (inr (b, s, size)) = wrong_size bytes b (same_bytes bytes b (spells_one word (Some bytes) (Some b) x.0 s)) x.1 x.2 size

target_one : (word : List ℕ) → One (TargetIs word)
target_one word (Ok a) (Ok b) x y = ap (λ (p : List ℕ). Ok p) (same_bytes a b (spells_one word (Some a) (Some b) x.0 y.0))
target_one word (Ok a) (Err rule) x (is, why) = absurd (target_fits word a x why)
target_one word (Err rule) (Ok a) (is, why) x = absurd (target_fits word a x why)
target_one word (Err rule) (Err rule') (is, why) (is', why') = ap (λ (r : Rule). Err r) (is ∙ sym is')

-- ---- so many words

same_count : {C : Type 0} (n : ℕ) (words : List (List ℕ)) (x y : Result C Rule) → Miscounted n words x → Miscounted n words y → x ≡ y
same_count n words x y a b = a.1 ∙ sym b.1

counted : {C : Type 0} (n : ℕ) (words these : List (List ℕ)) (x : Result C Rule) → words ≡ these → length these ≡ n → Miscounted n words x → ⊥
counted n words these x e size m = m.0 (ap length e ∙ size)

same_head : (words : List (List ℕ)) (a b : List ℕ) (xs bs : List (List ℕ)) → words ≡ a ∷ xs → words ≡ b ∷ bs → (a ≡ b) × (xs ≡ bs)
same_head words a b xs bs e f = (cc, cc)

word_one : {C : Type 0} (f : List ℕ → Result C Rule → Type 0) → ((a : List ℕ) → One (f a)) → (words : List (List ℕ)) → One (OneWord f words)
word_one f each words x y (inl (a, e, is)) (inl (b, e', is')) = each b x y (subst (λ (w : List ℕ). f w x) (same_head words a b [] [] e e').0 is) is'
word_one f each words x y (inl (a, e, is)) (inr m) = absurd (counted 1 words (a ∷ []) y e refl m)
word_one f each words x y (inr m) (inl (a, e, is)) = absurd (counted 1 words (a ∷ []) x e refl m)
word_one f each words x y (inr m) (inr m') = same_count 1 words x y m m'

two_one : {C : Type 0} (f : List ℕ → List ℕ → Result C Rule → Type 0) → ((a b : List ℕ) → One (f a b)) → (words : List (List ℕ)) → One (TwoWords f words)
two_one f each words x y (inl (a, b, e, is)) (inl (a', b', e', is')) =
    let first = same_head words a a' (b ∷ []) (b' ∷ []) e e' in
    let second = same_head (b ∷ []) b b' [] [] refl first.1 in
    each a' b' x y (rw (← first.0, ← second.0) is) is'
two_one f each words x y (inl (a, b, e, is)) (inr m) = absurd (counted 2 words (a ∷ b ∷ []) y e refl m)
two_one f each words x y (inr m) (inl (a, b, e, is)) = absurd (counted 2 words (a ∷ b ∷ []) x e refl m)
two_one f each words x y (inr m) (inr m') = same_count 2 words x y m m'

three_one : {C : Type 0} (f : List ℕ → List ℕ → List ℕ → Result C Rule → Type 0) → ((a b c : List ℕ) → One (f a b c)) → (words : List (List ℕ)) → One (ThreeWords f words)
three_one f each words x y (inl (a, b, c, e, is)) (inl (a', b', c', e', is')) =
    let first = same_head words a a' (b ∷ c ∷ []) (b' ∷ c' ∷ []) e e' in
    let second = same_head (b ∷ c ∷ []) b b' (c ∷ []) (c' ∷ []) refl first.1 in
    let third = same_head (c ∷ []) c c' [] [] refl second.1 in
    each a' b' c' x y (rw (← first.0, ← second.0, ← third.0) is) is'
three_one f each words x y (inl (a, b, c, e, is)) (inr m) = absurd (counted 3 words (a ∷ b ∷ c ∷ []) y e refl m)
three_one f each words x y (inr m) (inl (a, b, c, e, is)) = absurd (counted 3 words (a ∷ b ∷ c ∷ []) x e refl m)
three_one f each words x y (inr m) (inr m') = same_count 3 words x y m m'

four_one : {C : Type 0} (f : List ℕ → List ℕ → List ℕ → List ℕ → Result C Rule → Type 0) → ((a b c d : List ℕ) → One (f a b c d)) → (words : List (List ℕ)) → One (FourWords f words)
four_one f each words x y (inl (a, b, c, d, e, is)) (inl (a', b', c', d', e', is')) =
    let first = same_head words a a' (b ∷ c ∷ d ∷ []) (b' ∷ c' ∷ d' ∷ []) e e' in
    let second = same_head (b ∷ c ∷ d ∷ []) b b' (c ∷ d ∷ []) (c' ∷ d' ∷ []) refl first.1 in
    let third = same_head (c ∷ d ∷ []) c c' (d ∷ []) (d' ∷ []) refl second.1 in
    let fourth = same_head (d ∷ []) d d' [] [] refl third.1 in
    each a' b' c' d' x y (rw (← first.0, ← second.0, ← third.0, ← fourth.0) is) is'
four_one f each words x y (inl (a, b, c, d, e, is)) (inr m) = absurd (counted 4 words (a ∷ b ∷ c ∷ d ∷ []) y e refl m)
four_one f each words x y (inr m) (inl (a, b, c, d, e, is)) = absurd (counted 4 words (a ∷ b ∷ c ∷ d ∷ []) x e refl m)
four_one f each words x y (inr m) (inr m') = same_count 4 words x y m m'

-- ---- a call

call_one : (verb : Verb) (words : List (List ℕ)) → One (CallIs verb words)
call_one verbs.Mkdir words = makes_one _ _ (two_one _ (λ path mode. then_one _ _ (path_one path) (λ p. then_one _ _ (equal_one (mode_of mode)) (λ m. equal_one (Ok (p, m))))) words)
call_one verbs.Create words = makes_one _ _ (two_one _ (λ path mode. then_one _ _ (path_one path) (λ p. then_one _ _ (equal_one (mode_of mode)) (λ m. equal_one (Ok (p, m))))) words)
call_one verbs.Symlink words = makes_one _ _ (two_one _ (λ path target. then_one _ _ (path_one path) (λ p. then_one _ _ (target_one target) (λ t. equal_one (Ok (p, t))))) words)
call_one verbs.Link words = makes_one _ _ (two_one _ (λ old new. then_one _ _ (path_one old) (λ p. then_one _ _ (path_one new) (λ q. equal_one (Ok (p, q))))) words)
call_one verbs.Unlink words = makes_one _ _ (word_one _ (λ path. path_one path) words)
call_one verbs.Rmdir words = makes_one _ _ (word_one _ (λ path. path_one path) words)
call_one verbs.Rename words = makes_one _ _ (two_one _ (λ old new. then_one _ _ (path_one old) (λ p. then_one _ _ (path_one new) (λ q. equal_one (Ok (p, q))))) words)
call_one verbs.Chmod words = makes_one _ _ (two_one _ (λ path mode. then_one _ _ (path_one path) (λ p. then_one _ _ (equal_one (mode_of mode)) (λ m. equal_one (Ok (p, m))))) words)
call_one verbs.Write words = makes_one _ _ (three_one _ (λ path offset hex. then_one _ _ (path_one path) (λ p. then_one _ _ (equal_one (number_of offset)) (λ n. then_one _ _ (equal_one (hex_of hex)) (λ bs. equal_one (Ok (p, n, bs)))))) words)
call_one verbs.Fill words = makes_one _ _ (four_one _ (λ path offset count byte. then_one _ _ (path_one path) (λ p. then_one _ _ (equal_one (number_of offset)) (λ n. then_one _ _ (equal_one (count_of 65536 n count)) (λ c. then_one _ _ (equal_one (byte_of byte)) (λ b. equal_one (Ok (p, n, c, b))))))) words)
call_one verbs.Truncate words = makes_one _ _ (two_one _ (λ path size. then_one _ _ (path_one path) (λ p. then_one _ _ (equal_one (number_of size)) (λ n. equal_one (Ok (p, n))))) words)
call_one verbs.Read words = makes_one _ _ (three_one _ (λ path offset count. then_one _ _ (path_one path) (λ p. then_one _ _ (equal_one (number_of offset)) (λ n. then_one _ _ (equal_one (count_of 4096 n count)) (λ c. equal_one (Ok (p, n, c)))))) words)
call_one verbs.Stat words = makes_one _ _ (word_one _ (λ path. path_one path) words)
call_one verbs.List words = makes_one _ _ (word_one _ (λ path. path_one path) words)
call_one verbs.Readlink words = makes_one _ _ (word_one _ (λ path. path_one path) words)
call_one verbs.Sync words = makes_one _ _ (none_one words)
  where
    none_one : (words : List (List ℕ)) → One (NoWords words)
    none_one [] = equal_one (Ok tt)
    none_one (word ∷ words) = equal_one (Err rules.Count)

fitting_one : (fits : Bool) (verb : Verb) (words : List (List ℕ)) → One (FittingCallIs fits verb words)
fitting_one true verb words = call_one verb words
fitting_one false verb words = equal_one (Err rules.Lazy)

named_one : (fits : Verb → Bool) (verb : Option Verb) (words : List (List ℕ)) → One (NamedCallIs fits verb words)
named_one fits None words = equal_one (Err rules.Word)
named_one fits (Some verb) words = fitting_one (fits verb) verb words

lazy_one : (words : List (List ℕ)) → One (LazyCallIs words)
lazy_one [] = equal_one (Err rules.Count)
lazy_one (word ∷ words) = named_one may_be_lazy (verb_of word) words

after_one : (is_lazy : Bool) (word : List ℕ) (words : List (List ℕ)) → One (CallAfter is_lazy word words)
after_one true word words = makes_one _ _ (lazy_one words)
after_one false word words = makes_one _ _ (named_one (λ _. true) (verb_of word) words)

request_one : (words : List (List ℕ)) → One (RequestIs words)
request_one [] = equal_one (Err rules.Count)
request_one (word ∷ words) = after_one (bytes_eq word (codes "lazy")) word words

text_one : (is_text : Bool) (line : List ℕ) → One (TextIs is_text line)
text_one true line = makes_one _ _ (request_one (words_of line))
text_one false line = equal_one (Err rules.Text)

skipped_one : (is_skipped : Bool) (line : List ℕ) → One (UnlessSkipped is_skipped line)
skipped_one true line = equal_one (Ok None)
skipped_one false line = text_one (is_text line) line

line_one : (line : List ℕ) → One (LineIs line)
line_one line = skipped_one (is_skipped line) line

-- ---- a script

same_last : (xs ys : List (List ℕ)) (a b : List ℕ) → xs ++ a ∷ [] ≡ ys ++ b ∷ [] → (xs ≡ ys) × (a ≡ b)
same_last [] [] a b e = (refl, (same_head (a ∷ []) a b [] [] refl e).0)
same_last [] (y ∷ ys) a b e = absurd (let n = ap length e in let m = length-append ys (b ∷ []) in omega (arith, n, m))
same_last (x ∷ xs) [] a b e = absurd (let n = ap length e in let m = length-append xs (a ∷ []) in omega (arith, n, m))
same_last (x ∷ xs) (y ∷ ys) a b e =
    let head = same_head (x ∷ (xs ++ a ∷ [])) x y (xs ++ a ∷ []) (ys ++ b ∷ []) refl e in
    let rest = same_last xs ys a b head.1 in
    (rw (head.0, rest.0) refl, rest.1)

none_pushed : (lines before : List (List ℕ)) (line : List ℕ) → lines ≡ [] → lines ≡ before ++ line ∷ [] → ⊥
none_pushed lines before line e f = let n = ap length (sym e ∙ f) in let m = length-append before (line ∷ []) in omega (arith, n, m)

skipped_or_not : (line : List ℕ) (request : Request) → LineIs line (Ok None) → LineIs line (Ok (Some request)) → ⊥
skipped_or_not line request a b = differ (line_one line (Ok None) (Ok (Some request)) a b)
  where
    differ : ◌≡◌ {A = Result (Option Request) Rule} (Ok None) (Ok (Some request)) → ⊥
    differ e = cc

same_request : (line : List ℕ) (a b : Request) → LineIs line (Ok (Some a)) → LineIs line (Ok (Some b)) → a ≡ b
same_request line a b x y = same (line_one line (Ok (Some a)) (Ok (Some b)) x y)
  where
    same : ◌≡◌ {A = Result (Option Request) Rule} (Ok (Some a)) (Ok (Some b)) → a ≡ b
    same e = cc

asks_one : (lines : List (List ℕ)) (a b : List Line) → Asks lines a → Asks lines b → a ≡ b
asks_one lines a b (no_lines l x e is) (no_lines l' y e' is') = is ∙ sym is'
asks_one lines a b (no_lines l x e is) (skips l' y before line good skip e') = absurd (none_pushed lines before line e e')
asks_one lines a b (no_lines l x e is) (calls l' y before line sooner request good call e' is') = absurd (none_pushed lines before line e e')
asks_one lines a b (skips l x before line good skip e) (no_lines l' y e' is') = absurd (none_pushed lines before line e' e)
asks_one lines a b (skips l x before line good skip e) (skips l' y before' line' good' skip' e') =
    let same = same_last before before' line line' (sym e ∙ e') in
    asks_one before a b good (subst (λ (ls : List (List ℕ)). Asks ls b) (sym same.0) good')
asks_one lines a b (skips l x before line good skip e) (calls l' y before' line' sooner request good' call e' is') =
    let same = same_last before before' line line' (sym e ∙ e') in
    absurd (skipped_or_not line request skip (subst (λ (w : List ℕ). LineIs w (Ok (Some request))) (sym same.1) call))
asks_one lines a b (calls l x before line sooner request good call e is) (no_lines l' y e' is') = absurd (none_pushed lines before line e' e)
asks_one lines a b (calls l x before line sooner request good call e is) (skips l' y before' line' good' skip e') =
    let same = same_last before before' line line' (sym e ∙ e') in
    absurd (skipped_or_not line request (subst (λ (w : List ℕ). LineIs w (Ok None)) (sym same.1) skip) call)
asks_one lines a b (calls l x before line sooner request good call e is) (calls l' y before' line' sooner' request' good' call' e' is') =
    let same = same_last before before' line line' (sym e ∙ e') in
    let earlier = asks_one before sooner sooner' good (subst (λ (ls : List (List ℕ)). Asks ls sooner') (sym same.0) good') in
    let this = same_request line request request' call (subst (λ (w : List ℕ). LineIs w (Ok (Some request'))) (sym same.1) call') in
    is ∙ rw (earlier, this, same.0) refl ∙ sym is'

-- each line of a script that asks for calls is good
abbrev IsGood : List ℕ → Type 0
IsGood line = (asked : Option Request) × LineIs line (Ok asked)

pushed_good : (lines before : List (List ℕ)) (line : List ℕ) (i : ℕ) → lines ≡ before ++ line ∷ [] → i < length lines → (i < length before → IsGood (get_or before i [])) → IsGood line → IsGood (get_or lines i [])
pushed_good lines before line i e h sooner last = elim (cases_lt i (length before)) [
  | inl less ↦ subst IsGood (sym (ap (λ (ls : List (List ℕ)). get_or ls i []) e ∙ get_or_append_left before (line ∷ []) [] i less)) (sooner less)
  | inr most ↦ subst IsGood (sym (ap (λ (ls : List (List ℕ)). get_or ls i []) e ∙ get_or_push before line [] i (let n = ap length e in let m = length-append before (line ∷ []) in omega (arith, n, m, h, most)))) last
]

good_lines : (lines : List (List ℕ)) (a : List Line) → Asks lines a → (i : ℕ) → i < length lines → IsGood (get_or lines i [])
good_lines lines a (no_lines l x e is) i h = absurd (let n = ap length e in omega (arith, n, h))
good_lines lines a (skips l x before line good skip e) i h = pushed_good lines before line i e h (good_lines before a good i) (None, skip)
good_lines lines a (calls l x before line sooner request good call e is) i h = pushed_good lines before line i e h (good_lines before sooner good i) (Some request, call)

-- the line at its place
at_place : (before after : List (List ℕ)) (line : List ℕ) → get_or (before ++ line ∷ after) (length before) [] ≡ line
at_place [] after line = refl
at_place (b ∷ before) after line = at_place before after line

good_or_bad : (line : List ℕ) (rule : Rule) → IsGood line → LineIs line (Err rule) → ⊥
good_or_bad line rule (asked, good) bad = ok_is_no_err asked rule (line_one line (Ok asked) (Err rule) good bad)

-- a script that asks for calls has no bad line
asks_or_bad : (lines : List (List ℕ)) (a : List Line) (n : ℕ) (rule : Rule) → Asks lines a → FirstBad lines n rule → ⊥
asks_or_bad lines a n rule good b =
    let within : length b.before < length lines = let n = ap length b.parts in let m = length-append b.before (b.line ∷ b.after) in omega (arith, n, m) in
    let found = good_lines lines a good (length b.before) within in
    good_or_bad b.line rule (subst IsGood (ap (λ (ls : List (List ℕ)). get_or ls (length b.before) []) b.parts ∙ at_place b.before b.after b.line) found) b.bad

-- a line of those before another's bad one is good
earlier_good : (lines : List (List ℕ)) (n m : ℕ) (rule other : Rule) (a : FirstBad lines n rule) (b : FirstBad lines m other) → length a.before < length b.before → ⊥
earlier_good lines n m rule other a b less =
    let found = good_lines b.before b.asked b.good (length a.before) less in
    let same = sym (get_or_append_left b.before (b.line ∷ b.after) [] (length a.before) less) ∙ ap (λ (ls : List (List ℕ)). get_or ls (length a.before) []) (sym b.parts ∙ a.parts) ∙ at_place a.before a.after a.line in
    good_or_bad a.line rule (subst IsGood same found) a.bad

same_bad : (line line' : List ℕ) (rule other : Rule) → line ≡ line' → LineIs line (Err rule) → LineIs line' (Err other) → rule ≡ other
same_bad line line' rule other e a b = same_err rule other (line_one line' (Err rule) (Err other) (subst (λ (w : List ℕ). LineIs w (Err rule)) e a) b)

one_bad : (lines : List (List ℕ)) (n m : ℕ) (rule other : Rule) → FirstBad lines n rule → FirstBad lines m other → (n ≡ m) × (rule ≡ other)
one_bad lines n m rule other a b = elim (cases_lt (length a.before) (length b.before)) [
  | inl less ↦ absurd (earlier_good lines n m rule other a b less)
  | inr most ↦ elim (cases_lt (length b.before) (length a.before)) [
    | inl less ↦ absurd (earlier_good lines m n other rule b a less)
    | inr least ↦
        let same : length a.before ≡ length b.before = omega (arith, most, least) in
        let x = a.number_is in
        let y = b.number_is in (
          omega (arith, same, x, y),
          same_bad a.line b.line rule other
              (sym (at_place a.before a.after a.line) ∙ ap (λ (ls : List (List ℕ)). get_or ls (length a.before) []) (sym a.parts ∙ b.parts) ∙ ap (λ (i : ℕ). get_or (b.before ++ b.line ∷ b.after) i []) same ∙ at_place b.before b.after b.line)
              a.bad b.bad,
        )
  ]
]

few_or_much : (text : List ℕ) (count : ℕ) → IsWithin text → TooMuchIs text count → ⊥
few_or_much text count w (inl (is, many)) =
    let few = w.bytes in
    let lines = w.lines in
    let same = ap (λ (t : List ℕ). length (lines_of t)) (take_all (most_bytes + 1) text (omega (arith, few))) in
    omega (arith, lines, many, same)
few_or_much text count w (inr (is, lines, many)) = let few = w.bytes in omega (arith, few, many)

one_much : (text : List ℕ) (n m : ℕ) → TooMuchIs text n → TooMuchIs text m → n ≡ m
one_much text n m (inl (is, many)) (inl (is', many')) = is ∙ sym is'
one_much text n m (inl (is, many)) (inr (is', few, long)) = absurd (omega (arith, many, few))
one_much text n m (inr (is, few, long)) (inl (is', many)) = absurd (omega (arith, many, few))
one_much text n m (inr (is, few, long)) (inr (is', few', long')) = is ∙ sym is'

pub one_thing : ScriptsMeanOneThing
one_thing text (asks a) (asks b) x y = ap (λ (ls : List Line). asks ls) (asks_one (lines_of text) a b x.1 y.1)
one_thing text (asks a) (is_bad n rule) x y = absurd (asks_or_bad (lines_of text) a n rule x.1 y.1)
one_thing text (asks a) (is_too_much count) x y = absurd (few_or_much text count x.0 y)
one_thing text (is_bad n rule) (asks a) x y = absurd (asks_or_bad (lines_of text) a n rule y.1 x.1)
one_thing text (is_bad n rule) (is_bad m other) x y = let same = one_bad (lines_of text) n m rule other x.1 y.1 in rw (same.0, same.1) refl
one_thing text (is_bad n rule) (is_too_much count) x y = absurd (few_or_much text count x.0 y)
one_thing text (is_too_much n) (asks a) x y = absurd (few_or_much text n y.0 x)
one_thing text (is_too_much n) (is_bad m other) x y = absurd (few_or_much text n y.0 x)
one_thing text (is_too_much n) (is_too_much m) x y = ap (λ (c : ℕ). is_too_much c) (one_much text n m x y)
