-- The lines of a script, and the words of a line.
use Rattle.std.specs.Prelude.{ℕ, Bool, true, false, ◌&&◌, ◌==◌, nat_le, if◌then◌else◌, List, [], ◌∷◌}
use Rattle.std.specs.List.{onto_first, list_all}

abbrev pub begins_with : ℕ → List ℕ → Bool
begins_with byte [] = false
begins_with byte (b ∷ bs) = b == byte

-- A line ends with a line feed, or with a carriage return and a line feed; the last one may lack its end.
unfoldable pub lines_of : List ℕ → List (List ℕ)
lines_of [] = []
lines_of (b ∷ bs) = if b == 10 then [] ∷ lines_of bs else if (b == 13) && begins_with 10 bs then lines_of bs else onto_first b (lines_of bs)

-- what a line has before its line feed, without a carriage return at the end
unfoldable pub without_return : List ℕ → List ℕ
without_return [] = []
without_return (b ∷ []) = if b == 13 then [] else b ∷ []
without_return (b ∷ c ∷ bs) = b ∷ without_return (c ∷ bs)

unfoldable pub after_spaces : List ℕ → List ℕ
after_spaces [] = []
after_spaces (b ∷ bs) = if b == 32 then after_spaces bs else b ∷ bs

abbrev is_empty_or_note : List ℕ → Bool
is_empty_or_note [] = true
is_empty_or_note (b ∷ bs) = b == 35

-- nothing but spaces, or a `#` after spaces alone
abbrev pub is_skipped : List ℕ → Bool
is_skipped line = is_empty_or_note (after_spaces line)

-- printed bytes and spaces
abbrev pub is_text : List ℕ → Bool
is_text line = list_all (λ b. nat_le 0x20 b && nat_le b 0x7E) line

abbrev pub ends_word : List ℕ → Bool
ends_word [] = true
ends_word (b ∷ bs) = b == 32

-- words are what stands between spaces
unfoldable pub words_of : List ℕ → List (List ℕ)
words_of [] = []
words_of (b ∷ bs) = if b == 32 then words_of bs else if ends_word bs then (b ∷ []) ∷ words_of bs else onto_first b (words_of bs)
