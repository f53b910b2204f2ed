-- What reaches the sink.
use Rattle.std.specs.Prelude.{◌≡◌, ◌⊎◌, ℕ, List, ◌++◌}
use Rattle.jfs_command.specs.declared.status.Status.{Status}
use Rattle.jfs_command.specs.declared.status.Status.TheVariants.{OutOfMemory}
use Rattle.jfs_command.specs.Status.{line_of, after_sink_fault}
use Rattle.jfs_command.specs.Count.{Count, Stays, HasRisen}

-- the whole text or some of its first bytes
abbrev pub IsFront : List ℕ → List ℕ → Type 0
IsFront front text = (rest : List ℕ) × (text ≡ front ++ rest)

-- a sink that tells what it took has taken this text, and nothing else
abbrev pub Puts : Type 0 → List ℕ → List ℕ → List ℕ → Type 0
Puts tells old new text = tells → new ≡ old ++ text

-- a sink that tells what it took has taken some first bytes of the text
abbrev pub PutsFront : Type 0 → List ℕ → List ℕ → List ℕ → Type 0
PutsFront tells old new text = (front : List ℕ) × IsFront front text × Puts tells old new front

-- The text and the status's line were put; or the sink's count rose, and a front of them was put; or memory ran out, and a
-- front was put, with the line of the status or the one on memory.
abbrev pub Concludes : Type 0 → List ℕ → List ℕ → Count → List ℕ → Status → Status → Type 0
Concludes tells old new sink text status result =
    ((result ≡ status) × Stays sink × Puts tells old new (text ++ line_of status))
    ⊎ (((result ≡ after_sink_fault status) × HasRisen sink × PutsFront tells old new (text ++ line_of status))
    ⊎ ((result ≡ OutOfMemory) × (PutsFront tells old new (text ++ line_of status) ⊎ PutsFront tells old new (text ++ line_of OutOfMemory))))
