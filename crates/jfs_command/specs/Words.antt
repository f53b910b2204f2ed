-- The grammar of the words of a command.
use Rattle.std.specs.Prelude.{◌≡◌, ◌≤◌, ◌<◌, ℕ, suc, ◌+◌, ◌-◌, ◌^◌, min, Bool, true, false, not, nat_le, nat_lt, ◌&&◌, ◌==◌, if◌then◌else◌, List, [], ◌∷◌, length, map, codes, Option, Some, None, Result, Ok, Err}
use Rattle.std.specs.List.{list_all, range_with_len}
use Rattle.std.specs.Str.{is_utf8, bytes_eq}
use Rattle.std.specs.Global.{Vec}
use Rattle.uuid.specs.Text.{parsed}
use Rattle.jfs_format.specs.Superblock.{label_field}
use Rattle.jfs_script.specs.Number.{numeral}
use Rattle.jfs_command.specs.declared.words.Usage.{Usage}
use Rattle.jfs_command.specs.declared.words.Command.{Command}
use Rattle.jfs_command.specs.declared.words.Scripts.{Scripts}
use Rattle.jfs_command.specs.declared.words.Job.{Job}
use Rattle.jfs_command.specs.declared.words.Job.TheVariants.{Super, Log, Check, Redo, Format, Run, Generate}
use Rattle.jfs_command.specs.declared.words.PathsError.{PathsError}
use Rattle.jfs_command.specs.declared.words.PathsError.TheVariants as errors

-- the words as bytes
abbrev pub texts : List (Vec ℕ) → List (List ℕ)
texts words = map (λ w. w.items) words

abbrev pub begins_with_dash : List ℕ → Bool
begins_with_dash [] = false
begins_with_dash (b ∷ bs) = b == 45

-- a word that may name a file: UTF-8 that doesn't begin with a dash
abbrev pub is_name : List ℕ → Bool
is_name word = is_utf8 word && not (begins_with_dash word)

-- a visible byte
abbrev pub is_visible : ℕ → Bool
is_visible b = nat_le 0x21 b && nat_le b 0x7E

-- a label: 1 to 16 visible bytes, the first of them no dash
abbrev pub is_label : List ℕ → Bool
is_label word = nat_le 1 (length word) && (nat_le (length word) 16 && (list_all is_visible word && not (begins_with_dash word)))

abbrev usage : ℕ → Result Command Usage
usage word = Err (record { word = word })

-- no word names a script
abbrev pub no_scripts : Scripts
no_scripts = record { first = 0; end = 0 }

-- the places of the words that name scripts, which stand one behind the other
abbrev pub places_of : Scripts → List ℕ
places_of scripts = range_with_len scripts.first (scripts.end - scripts.first)

-- a job on the image that the second word names, without scripts
abbrev pub on_image : Job → Command
on_image job = record { job = job; image = 2; scripts = no_scripts }

-- after a command that takes an image and nothing else, one name
abbrev pub image_alone : Job → List (List ℕ) → Result Command Usage
image_alone job [] = usage 2
image_alone job (image ∷ []) = if is_name image then Ok (on_image job) else usage 2
image_alone job (image ∷ more ∷ rest) = if is_name image then usage 3 else usage 2

-- after an image and a UUID, a label or nothing
abbrev pub with_label : List ℕ → List (List ℕ) → Result Command Usage
with_label uuid [] = Ok (on_image (Format uuid (label_field [])))
with_label uuid (label ∷ []) = if is_label label then Ok (on_image (Format uuid (label_field label))) else usage 4
with_label uuid (label ∷ more ∷ rest) = if is_label label then usage 5 else usage 4

abbrev pub after_uuid : Option (List ℕ) → List (List ℕ) → Result Command Usage
after_uuid None rest = usage 3
after_uuid (Some uuid) rest = with_label uuid rest

-- after an image, a UUID in any of its four forms
abbrev pub with_uuid : List (List ℕ) → Result Command Usage
with_uuid [] = usage 3
with_uuid (uuid ∷ rest) = after_uuid (parsed uuid) rest

-- the words of `format`: an image, a UUID, and perhaps a label
abbrev pub image_and_uuid : List (List ℕ) → Result Command Usage
image_and_uuid [] = usage 2
image_and_uuid (image ∷ rest) = if is_name image then with_uuid rest else usage 2

-- a place that a number of 32 bits can tell
abbrev pub place : ℕ → ℕ
place n = min n (2 ^ 32 - 1)

-- a run of so many scripts, which the words behind the image name; the image is the word at this place
abbrev pub run_at : Bool → ℕ → ℕ → Command
run_at is_left image count = record { job = Run is_left; image = image; scripts = record { first = suc image; end = place (suc image + count) } }

-- how many words at the front may name files
abbrev pub names_in_front : List (List ℕ) → ℕ
names_in_front [] = 0
names_in_front (word ∷ words) = if is_name word then suc (names_in_front words) else 0

-- one script at least, and names alone
abbrev pub with_scripts : Bool → ℕ → ℕ → ℕ → Result Command Usage
with_scripts is_left image count names = if nat_lt 0 count && names == count then Ok (run_at is_left image count) else usage (place (suc image + names))

-- an image and scripts, and nothing else; the first of these words stands at this place
abbrev pub image_and_scripts : Bool → ℕ → List (List ℕ) → Result Command Usage
image_and_scripts is_left at [] = usage at
image_and_scripts is_left at (image ∷ scripts) = if is_name image then with_scripts is_left at (length scripts) (names_in_front scripts) else usage at

-- the words of `run`: perhaps `--leave`, then an image and a script
abbrev pub leave_and_rest : List (List ℕ) → Result Command Usage
leave_and_rest [] = usage 2
leave_and_rest (first ∷ rest) = if bytes_eq first (codes "--leave") then image_and_scripts true 3 rest else image_and_scripts false 2 (first ∷ rest)

-- ---- the words of `gen`

-- without a zero in front
abbrev pub begins_well : List ℕ → Bool
begins_well [] = false
begins_well (b ∷ []) = true
begins_well (b ∷ c ∷ rest) = not (b == 48)

abbrev pub at_most : ℕ → Option ℕ → Option ℕ
at_most most None = None
at_most most (Some n) = if nat_le n most then Some n else None

-- a number in decimal digits, up to this one
abbrev pub number_up_to : ℕ → List ℕ → Option ℕ
number_up_to most word = if begins_well word then at_most most (numeral 10 word) else None

abbrev pub generate : ℕ → ℕ → ℕ → List (List ℕ) → Result Command Usage
generate number calls clients [] = Ok (on_image (Generate number calls clients))
generate number calls clients (more ∷ rest) = usage 6

-- 1 to 16 clients
abbrev pub after_clients : ℕ → ℕ → Option ℕ → List (List ℕ) → Result Command Usage
after_clients number calls None rest = usage 5
after_clients number calls (Some clients) rest = if nat_le 1 clients then generate number calls clients rest else usage 5

abbrev pub with_clients : ℕ → ℕ → List (List ℕ) → Result Command Usage
with_clients number calls [] = usage 5
with_clients number calls (word ∷ rest) = after_clients number calls (number_up_to 16 word) rest

-- up to 4,094 calls of each
abbrev pub after_calls : ℕ → Option ℕ → List (List ℕ) → Result Command Usage
after_calls number None rest = usage 4
after_calls number (Some calls) rest = with_clients number calls rest

abbrev pub with_calls : ℕ → List (List ℕ) → Result Command Usage
with_calls number [] = usage 4
with_calls number (word ∷ rest) = after_calls number (number_up_to 4094 word) rest

-- a number of 64 bits
abbrev pub after_number : Option ℕ → List (List ℕ) → Result Command Usage
after_number None rest = usage 3
after_number (Some number) rest = with_calls number rest

abbrev pub with_number : List (List ℕ) → Result Command Usage
with_number [] = usage 3
with_number (word ∷ rest) = after_number (number_up_to (2 ^ 64 - 1) word) rest

-- an image, a number, how many calls a client has, and how many clients there are
abbrev pub image_and_numbers : List (List ℕ) → Result Command Usage
image_and_numbers [] = usage 2
image_and_numbers (image ∷ rest) = if is_name image then with_number rest else usage 2

-- What the words ask for; else the first word that leaves the grammar, or the place after the last where one is missing.
abbrev pub command_of : List (List ℕ) → Result Command Usage
command_of [] = usage 1
command_of (first ∷ rest) =
    if bytes_eq first (codes "super") then image_alone Super rest
    else if bytes_eq first (codes "log") then image_alone Log rest
    else if bytes_eq first (codes "check") then image_alone Check rest
    else if bytes_eq first (codes "redo") then image_alone Redo rest
    else if bytes_eq first (codes "format") then image_and_uuid rest
    else if bytes_eq first (codes "run") then leave_and_rest rest
    else if bytes_eq first (codes "gen") then image_and_numbers rest
    else usage 1

-- the words leave the grammar where it says, or memory ran out
abbrev pub UsageIs : PathsError → Result Command Usage → Type 0
UsageIs (errors.Usage u) asked = asked ≡ Err u
UsageIs errors.Memory asked = Unit {0}

-- the places of the words that name the command's scripts
abbrev pub script_words : Command → List ℕ
script_words command = places_of command.scripts

-- its numbers are within their limits
abbrev pub IsWithin : Job → Type 0
IsWithin (Generate number calls clients) = (calls ≤ 4094) × (1 ≤ clients) × (clients ≤ 16)
IsWithin _ = Unit {0}

-- a job without clients
abbrev pub is_alone : Job → Bool
is_alone (Run is_left) = false
is_alone (Generate number calls clients) = false
is_alone _ = true

-- so many scripts serve its job: a run has one at least
abbrev pub HasScripts : Job → ℕ → Type 0
HasScripts (Run is_left) count = 0 < count
HasScripts _ count = Unit {0}

-- the words ask for a command with clients
abbrev pub has_clients : Result Command Usage → Bool
has_clients (Ok command) = not (is_alone command.job)
has_clients (Err usage) = false

-- the scripts that the words name, none where they leave the grammar
abbrev pub scripts_asked : Result Command Usage → List ℕ
scripts_asked (Ok command) = script_words command
scripts_asked (Err usage) = []
