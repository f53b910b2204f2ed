-- The words after a call's name, read from the left. What they break is the first rule that is broken from the left.
use Rattle.std.specs.Prelude.{◌≡◌, ◌≢◌, ◌⊎◌, ℕ, List, [], ◌∷◌, length, Result, Ok, Err}
use Rattle.jfs_bits.specs.declared.rule.Rule.{Rule}
use Rattle.jfs_bits.specs.declared.rule.Rule.TheVariants as rules
use Rattle.jfs_name.specs.Text.{IsPath, BreaksAt, IsTooLongAt}
use Rattle.jfs_script.specs.declared.error.LineError.{LineError}
use Rattle.jfs_script.specs.declared.error.LineError.TheVariants as errors
use Rattle.jfs_script.specs.Number.{number_of, count_of, mode_of, hex_of, byte_of}
use Rattle.jfs_script.specs.Target.{TargetIs}

abbrev pub Path : Type 0
Path = List (List ℕ)

-- one thing is read and then another; or the first one breaks a rule
abbrev pub Then : {A C : Type 0} → (Result A Rule → Type 0) → (A → Result C Rule → Type 0) → Result C Rule → Type 0
Then {A} first next r = ((a : A) × first (Ok a) × next a r) ⊎ ((rule : Rule) × first (Err rule) × (r ≡ Err rule))

-- a word is a path, or leaves the spelling of paths, or has a name with a 256th unit
abbrev pub PathIs : List ℕ → Result Path Rule → Type 0
PathIs word (Ok names) = IsPath word names
PathIs word (Err rule) = ((rule ≡ rules.Path) × (place : ℕ) × BreaksAt word place) ⊎ ((rule ≡ rules.Name) × (place : ℕ) × IsTooLongAt word place)

-- ---- so many words, and no more

abbrev pub Miscounted : {C : Type 0} → ℕ → List (List ℕ) → Result C Rule → Type 0
Miscounted n words r = (length words ≢ n) × (r ≡ Err rules.Count)

abbrev pub OneWord : {C : Type 0} → (List ℕ → Result C Rule → Type 0) → List (List ℕ) → Result C Rule → Type 0
OneWord f words r = ((a : List ℕ) × (words ≡ a ∷ []) × f a r) ⊎ Miscounted 1 words r

abbrev pub TwoWords : {C : Type 0} → (List ℕ → List ℕ → Result C Rule → Type 0) → List (List ℕ) → Result C Rule → Type 0
TwoWords f words r = ((a : List ℕ) × (b : List ℕ) × (words ≡ a ∷ b ∷ []) × f a b r) ⊎ Miscounted 2 words r

abbrev pub ThreeWords : {C : Type 0} → (List ℕ → List ℕ → List ℕ → Result C Rule → Type 0) → List (List ℕ) → Result C Rule → Type 0
ThreeWords f words r = ((a : List ℕ) × (b : List ℕ) × (c : List ℕ) × (words ≡ a ∷ b ∷ c ∷ []) × f a b c r) ⊎ Miscounted 3 words r

abbrev pub FourWords : {C : Type 0} → (List ℕ → List ℕ → List ℕ → List ℕ → Result C Rule → Type 0) → List (List ℕ) → Result C Rule → Type 0
FourWords f words r = ((a : List ℕ) × (b : List ℕ) × (c : List ℕ) × (d : List ℕ) × (words ≡ a ∷ b ∷ c ∷ d ∷ []) × f a b c d r) ⊎ Miscounted 4 words r

-- ---- what calls take

abbrev pub PathAlone : List (List ℕ) → Result Path Rule → Type 0
PathAlone = OneWord (λ path. PathIs path)

abbrev pub PathAndMode : List (List ℕ) → Result (Path × ℕ) Rule → Type 0
PathAndMode = TwoWords (λ path mode. Then (PathIs path) (λ p. Then (λ m. m ≡ mode_of mode) (λ m r. r ≡ Ok (p, m))))

abbrev pub TwoPaths : List (List ℕ) → Result (Path × Path) Rule → Type 0
TwoPaths = TwoWords (λ old new. Then (PathIs old) (λ p. Then (PathIs new) (λ q r. r ≡ Ok (p, q))))

abbrev pub PathAndTarget : List (List ℕ) → Result (Path × List ℕ) Rule → Type 0
PathAndTarget = TwoWords (λ path target. Then (PathIs path) (λ p. Then (TargetIs target) (λ t r. r ≡ Ok (p, t))))

abbrev pub PathAndSize : List (List ℕ) → Result (Path × ℕ) Rule → Type 0
PathAndSize = TwoWords (λ path size. Then (PathIs path) (λ p. Then (λ n. n ≡ number_of size) (λ n r. r ≡ Ok (p, n))))

-- a path, an offset and bytes
abbrev pub PathAndBytes : List (List ℕ) → Result (Path × ℕ × List ℕ) Rule → Type 0
PathAndBytes = ThreeWords (λ path offset hex. Then (PathIs path) (λ p. Then (λ n. n ≡ number_of offset) (λ n. Then (λ bs. bs ≡ hex_of hex) (λ bs r. r ≡ Ok (p, n, bs)))))

-- a path, an offset and a count
abbrev pub PathAndRange : ℕ → List (List ℕ) → Result (Path × ℕ × ℕ) Rule → Type 0
PathAndRange most = ThreeWords (λ path offset count. Then (PathIs path) (λ p. Then (λ n. n ≡ number_of offset) (λ n. Then (λ c. c ≡ count_of most n count) (λ c r. r ≡ Ok (p, n, c)))))

-- a path, an offset, a count and a byte
abbrev pub PathAndFill : ℕ → List (List ℕ) → Result (Path × ℕ × ℕ × ℕ) Rule → Type 0
PathAndFill most = FourWords (λ path offset count byte. Then (PathIs path) (λ p. Then (λ n. n ≡ number_of offset) (λ n. Then (λ c. c ≡ count_of most n count) (λ c. Then (λ b. b ≡ byte_of byte) (λ b r. r ≡ Ok (p, n, c, b))))))

-- what was read of some words is one of what they mean; only want of memory is free
abbrev pub Gives : {A : Type 0} → Result A LineError → (Result A Rule → Type 0) → Type 0
Gives (Ok a) means = means (Ok a)
Gives (Err (errors.Broken rule)) means = means (Err rule)
Gives (Err errors.Memory) means = Unit {0}
