-- The generated scripts: each client works in a directory of its own, on sixteen files, as a sequence of pseudorandom numbers asks.
use Rattle.std.specs.Prelude.{ℕ, zero, suc, ◌+◌, ◌*◌, ◌/◌, ◌%◌, ◌^◌, ◌==◌, nat_lt, false, if◌then◌else◌, List, [], ◌∷◌, ◌++◌, codes, bit_xor}
use Rattle.std.specs.Fmt.{decimal}
use Rattle.jfs_plain.specs.declared.call.Call.{Call}
use Rattle.jfs_plain.specs.declared.call.Call.TheVariants as kinds
use Rattle.jfs_plain.specs.declared.call.Line.{Line}

-- What follows a number of the sequence. (Knuth's linear congruential generator of 64 bits, MMIX.)
unfoldable pub next : ℕ → ℕ
next x = (x * 6364136223846793005 + 1442695040888963407) % 2 ^ 64

-- /gC and /gC/fN, with decimal C and N
abbrev pub home_path : ℕ → List (List ℕ)
home_path client = (codes "g" ++ decimal client) ∷ []

abbrev pub file_path : ℕ → ℕ → List (List ℕ)
file_path client file = (codes "g" ++ decimal client) ∷ (codes "f" ++ decimal file) ∷ []

-- Of eight kinds of calls on a file two create it, one unlinks it, three fill a block of it with a byte, one asks for its attributes, and one truncates it.
abbrev pub call_by : ℕ → List (List ℕ) → ℕ → ℕ → Call
call_by kind path byte block =
    if nat_lt kind 2 then kinds.Create path 420 else
    if kind == 2 then kinds.Unlink path else
    if nat_lt kind 6 then kinds.Fill path (4096 * block) 4096 byte else
    if kind == 6 then kinds.Stat path else kinds.Truncate path (4096 * block)

-- The call that a number of 31 bits asks for: its lowest three bits are the kind, the next four the file and the byte, the next three the block.
unfoldable pub call_of : ℕ → ℕ → Call
call_of client r = call_by (r % 8) (file_path client (r / 8 % 16)) (r / 8 % 16) (r / 128 % 8)

-- the calls that the numbers behind x ask for by their highest 31 bits
abbrev pub calls_after : ℕ → ℕ → ℕ → List Call
calls_after client zero x = []
calls_after client (suc more) x = call_of client (next x / 2 ^ 33) ∷ calls_after client more (next x)

-- a line whose caller waits until the call is durable
abbrev pub line_of : ℕ → Call → Line
line_of number call = record { number = number; request = record { call = call; lazy = false } }

abbrev pub numbered : ℕ → List Call → List Line
numbered n [] = []
numbered n (c ∷ cs) = line_of n c ∷ numbered (suc n) cs

-- the script of a client: its directory, so many calls, and `sync`
abbrev pub lines_of : ℕ → ℕ → ℕ → List Line
lines_of number client calls = numbered 1 (kinds.Mkdir (home_path client) 493 ∷ (calls_after client calls (bit_xor number client) ++ kinds.Sync ∷ []))
