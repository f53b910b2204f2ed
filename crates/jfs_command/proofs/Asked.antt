-- What words ask for is within its limits, and how many scripts it names.
use Rattle.std.proofs.Common.{◌≡◌, ◌≤◌, ◌<◌, ◌+◌, ◌-◌, ◌^◌, ℕ, zero, suc, Bool, true, false, if◌then◌else◌, List, [], ◌∷◌, length, codes, Option, Some, None, Result, Ok, Err, refl, sym, ap, subst, ◌∙◌, arith}
use Rattle.std.specs.Prelude.{nat_le, nat_lt, not, ◌==◌, ◌&&◌}
use Rattle.std.specs.List.{range_with_len}
use Rattle.std.specs.Str.{bytes_eq}
use Rattle.std.proofs.lemmas.Bool.{leb-true, ltb-true}
use Rattle.uuid.specs.Text.{parsed}
use Rattle.jfs_script.specs.Number.{numeral}
use Rattle.jfs_command.specs.declared.words.Usage.{Usage}
use Rattle.jfs_command.specs.declared.words.Command.{Command}
use Rattle.jfs_command.specs.declared.words.Job.{Job}
use Rattle.jfs_command.specs.declared.words.Job.TheVariants.{Super, Log, Check, Redo}
use Rattle.jfs_command.specs.Words.{is_name, is_label, on_image, run_at, names_in_front, image_alone, with_label, after_uuid, with_uuid, image_and_uuid, with_scripts, image_and_scripts, leave_and_rest, begins_well, at_most, number_up_to, generate, after_clients, with_clients, after_calls, with_calls, after_number, with_number, image_and_numbers, command_of, script_words, scripts_asked, place, is_alone, has_clients, HasScripts, IsWithin}

abbrev usage : ℕ → Result Command Usage
usage word = Err (record { word = word })

-- how many scripts a command names
abbrev scripts_of : Command → ℕ
scripts_of command = command.scripts.end - command.scripts.first

-- its numbers are within their limits, the places of its scripts have 32 bits, and there are as many as its job takes
abbrev pub AreWithin : Result Command Usage → Type 0
AreWithin (Ok command) = IsWithin command.job × (command.scripts.end < 2 ^ 32) × HasScripts command.job (scripts_of command)
AreWithin (Err usage) = Unit {0}

-- whichever is chosen of two
either : (b : Bool) (x y : Result Command Usage) → AreWithin x → AreWithin y → AreWithin (if b then x else y)
either true x y one other = one
either false x y one other = other

alone : (job : Job) (words : List (List ℕ)) → IsWithin job → HasScripts job 0 → AreWithin (image_alone job words)
alone job [] is none = tt
alone job (image ∷ []) is none = either (is_name image) (Ok (on_image job)) (usage 2) (is, omega arith, none) tt
alone job (image ∷ more ∷ rest) is none = either (is_name image) (usage 3) (usage 2) tt tt

labelled : (uuid : List ℕ) (words : List (List ℕ)) → AreWithin (with_label uuid words)
labelled uuid [] = (tt, omega arith, tt)
labelled uuid (label ∷ []) = either (is_label label) _ (usage 4) (tt, omega arith, tt) tt
labelled uuid (label ∷ more ∷ rest) = either (is_label label) (usage 5) (usage 4) tt tt

after : (uuid : Option (List ℕ)) (words : List (List ℕ)) → AreWithin (after_uuid uuid words)
after None words = tt
after (Some uuid) words = labelled uuid words

named : (words : List (List ℕ)) → AreWithin (with_uuid words)
named [] = tt
named (uuid ∷ rest) = after (parsed uuid) rest

formats : (words : List (List ℕ)) → AreWithin (image_and_uuid words)
formats [] = tt
formats (image ∷ rest) = either (is_name image) (with_uuid rest) (usage 2) (named rest) tt

-- a run names one script at least
by_count : (is_left : Bool) (at count names : ℕ) (some good : Bool) → at ≤ 3 → nat_lt 0 count ≡ some → AreWithin (if some && good then Ok (run_at is_left at count) else usage (place (suc at + names)))
by_count is_left at count names true true near some = let more = ltb-true 0 count some in (tt, omega arith, omega (arith, more, near))
by_count is_left at count names true false near some = tt
by_count is_left at count names false good near some = tt

scripted : (is_left : Bool) (at count names : ℕ) → at ≤ 3 → AreWithin (with_scripts is_left at count names)
scripted is_left at count names near = by_count is_left at count names (nat_lt 0 count) (names == count) near refl

runs : (is_left : Bool) (at : ℕ) (words : List (List ℕ)) → at ≤ 3 → AreWithin (image_and_scripts is_left at words)
runs is_left at [] near = tt
runs is_left at (image ∷ scripts) near = either (is_name image) (with_scripts is_left at (length scripts) (names_in_front scripts)) (usage at) (scripted is_left at (length scripts) (names_in_front scripts) near) tt

leaves : (words : List (List ℕ)) → AreWithin (leave_and_rest words)
leaves [] = tt
leaves (first ∷ rest) = either (bytes_eq first (codes "--leave")) (image_and_scripts true 3 rest) (image_and_scripts false 2 (first ∷ rest)) (runs true 3 rest (omega arith)) (runs false 2 (first ∷ rest) (omega arith))

-- ---- numbers

-- what a number may be
abbrev IsUpTo : ℕ → Option ℕ → Type 0
IsUpTo most None = Unit {0}
IsUpTo most (Some n) = n ≤ most

by_limit : (most n : ℕ) (b : Bool) → nat_le n most ≡ b → IsUpTo most (if b then Some n else None)
by_limit most n true is = leb-true n most is
by_limit most n false is = tt

up_to : (most : ℕ) (o : Option ℕ) → IsUpTo most (at_most most o)
up_to most None = tt
up_to most (Some n) = by_limit most n (nat_le n most) refl

by_front : (most : ℕ) (b : Bool) (o : Option ℕ) → IsUpTo most (if b then at_most most o else None)
by_front most true o = up_to most o
by_front most false o = tt

is_up_to : (most : ℕ) (word : List ℕ) → IsUpTo most (number_up_to most word)
is_up_to most word = by_front most (begins_well word) (numeral 10 word)

generates : (number calls clients : ℕ) (words : List (List ℕ)) → calls ≤ 4094 → 1 ≤ clients → clients ≤ 16 → AreWithin (generate number calls clients words)
generates number calls clients [] few one most = ((few, one, most), omega arith, tt)
generates number calls clients (more ∷ rest) few one most = tt

by_one : (number calls clients : ℕ) (words : List (List ℕ)) (b : Bool) → nat_le 1 clients ≡ b → calls ≤ 4094 → clients ≤ 16 → AreWithin (if b then generate number calls clients words else usage 5)
by_one number calls clients words true is few most = generates number calls clients words few (leb-true 1 clients is) most
by_one number calls clients words false is few most = tt

some_clients : (number calls : ℕ) (o : Option ℕ) (words : List (List ℕ)) → calls ≤ 4094 → IsUpTo 16 o → AreWithin (after_clients number calls o words)
some_clients number calls None words few most = tt
some_clients number calls (Some clients) words few most = by_one number calls clients words (nat_le 1 clients) refl few most

clients : (number calls : ℕ) (words : List (List ℕ)) → calls ≤ 4094 → AreWithin (with_clients number calls words)
clients number calls [] few = tt
clients number calls (word ∷ rest) few = some_clients number calls (number_up_to 16 word) rest few (is_up_to 16 word)

some_calls : (number : ℕ) (o : Option ℕ) (words : List (List ℕ)) → IsUpTo 4094 o → AreWithin (after_calls number o words)
some_calls number None words few = tt
some_calls number (Some calls) words few = clients number calls words few

calls : (number : ℕ) (words : List (List ℕ)) → AreWithin (with_calls number words)
calls number [] = tt
calls number (word ∷ rest) = some_calls number (number_up_to 4094 word) rest (is_up_to 4094 word)

some_number : (o : Option ℕ) (words : List (List ℕ)) → AreWithin (after_number o words)
some_number None words = tt
some_number (Some number) words = calls number words

numbers : (words : List (List ℕ)) → AreWithin (with_number words)
numbers [] = tt
numbers (word ∷ rest) = some_number (number_up_to (2 ^ 64 - 1) word) rest

generated : (words : List (List ℕ)) → AreWithin (image_and_numbers words)
generated [] = tt
generated (image ∷ rest) = either (is_name image) (with_number rest) (usage 2) (numbers rest) tt

all_within : (words : List (List ℕ)) → AreWithin (command_of words)
all_within [] = tt
all_within (first ∷ rest) =
    either (bytes_eq first (codes "super")) _ _ (alone Super rest tt tt)
    (either (bytes_eq first (codes "log")) _ _ (alone Log rest tt tt)
    (either (bytes_eq first (codes "check")) _ _ (alone Check rest tt tt)
    (either (bytes_eq first (codes "redo")) _ _ (alone Redo rest tt tt)
    (either (bytes_eq first (codes "format")) _ _ (formats rest)
    (either (bytes_eq first (codes "run")) _ _ (leaves rest)
    (either (bytes_eq first (codes "gen")) _ _ (generated rest) tt))))))

all_of : (words : List (List ℕ)) (command : Command) → Ok command ≡ command_of words → IsWithin command.job × (command.scripts.end < 2 ^ 32) × HasScripts command.job (scripts_of command)
all_of words command is = subst (λ (r : Result Command Usage). AreWithin r) (sym is) (all_within words)

-- the numbers of what the words ask for are within their limits
pub is_within : (words : List (List ℕ)) (command : Command) → Ok command ≡ command_of words → IsWithin command.job
is_within words command is = (all_of words command is).0

as_many : (first count : ℕ) → length (range_with_len first count) ≡ count
as_many first zero = refl
as_many first (suc count) = ap suc (as_many (first + 1) count)

-- there are as many sources as the command names scripts
number_is : (words : List (List ℕ)) (command : Command) (n : ℕ) → Ok command ≡ command_of words → n ≡ length (scripts_asked (command_of words)) → n ≡ scripts_of command
number_is words command n is number =
    number ∙ subst (λ (r : Result Command Usage). length (scripts_asked r) ≡ length (script_words command)) is refl ∙ as_many command.scripts.first (scripts_of command)

-- no more than a number of 32 bits can tell
pub few_scripts : (words : List (List ℕ)) (command : Command) (n : ℕ) → Ok command ≡ command_of words → n ≡ length (scripts_asked (command_of words)) → n < 2 ^ 32
few_scripts words command n is number =
    let few = (all_of words command is).1 in
    let many = number_is words command n is number in
    omega (arith, many, few)

-- and enough for its job
pub some_scripts : (words : List (List ℕ)) (command : Command) (n : ℕ) → Ok command ≡ command_of words → n ≡ length (scripts_asked (command_of words)) → HasScripts command.job n
some_scripts words command n is number = subst (HasScripts command.job) (sym (number_is words command n is number)) (all_of words command is).2

-- ---- with clients or without

not_not : (b : Bool) → not b ≡ false → b ≡ true
not_not true is = refl
not_not false is = sym is

not_is : (b : Bool) → not b ≡ true → b ≡ false
not_is true is = sym is
not_is false is = refl

pub is_alone_by : (words : List (List ℕ)) (command : Command) → Ok command ≡ command_of words → has_clients (command_of words) ≡ false → is_alone command.job ≡ true
is_alone_by words command is none = not_not (is_alone command.job) (subst (λ (r : Result Command Usage). has_clients r ≡ false) (sym is) none)

pub has_clients_by : (words : List (List ℕ)) (command : Command) → Ok command ≡ command_of words → has_clients (command_of words) ≡ true → is_alone command.job ≡ false
has_clients_by words command is has = not_is (is_alone command.job) (subst (λ (r : Result Command Usage). has_clients r ≡ true) (sym is) has)
