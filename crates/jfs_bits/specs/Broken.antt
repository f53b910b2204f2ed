-- The first broken rule of a list, in the order in which its rules are looked at.
use Rattle.std.specs.Prelude.{◌≡◌, ◌⊎◌, Bool, IsTrue, List, [], ◌∷◌, Option, Some, None, if◌then◌else◌, Result, Ok, Err}
use Rattle.std.specs.List.{AllByRecursion}

-- every rule of the list holds
abbrev pub AllHold : {Name : Type 0} → (Name → Type 0) → List Name → Type 0
AllHold holds rules = AllByRecursion holds rules

-- this rule of the list doesn't hold, and those before it do
abbrev pub IsFirstBroken : {Name : Type 0} → (Name → Type 0) → List Name → Name → Type 0
IsFirstBroken holds [] broken = ⊥
IsFirstBroken holds (rule ∷ rules) broken = ((broken ≡ rule) × ¬ (holds rule)) ⊎ (holds rule × IsFirstBroken holds rules broken)

-- ---- rules that a test decides

-- what is answered where a rule is broken, and whether it holds
pub record Row (Answer : Type 0) : Type 0 where
  pub answer : Answer
  pub holds : Bool

abbrev pub Holds : {Answer : Type 0} → Row Answer → Type 0
Holds row = IsTrue row.holds

-- the answer of the first row that is broken
abbrev pub first_broken : {Answer : Type 0} → List (Row Answer) → Option Answer
first_broken [] = None
first_broken (row ∷ rows) = if row.holds then first_broken rows else Some row.answer

-- a rule that answers its own name
abbrev pub row_of : {Name : Type 0} → (Name → Bool) → Name → Row Name
row_of test rule = record { answer = rule; holds = test rule }

-- a check is content where no row is broken, and answers for the first one that is
abbrev pub Answers : {Answer : Type 0} → Result (Unit {0}) Answer → List (Row Answer) → Type 0
Answers (Ok _) rows = first_broken rows ≡ None
Answers (Err answer) rows = first_broken rows ≡ Some answer
