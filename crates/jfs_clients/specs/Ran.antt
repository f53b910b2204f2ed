-- What clients do with their scripts.
use Rattle.std.specs.Prelude.{◌≡◌, ◌≤◌, ◌<◌, ℕ, Bool, true, false, List, [], ◌∷◌, length, Some, slice_get}
use Rattle.std.specs.Global.{Vec}
use Rattle.std.specs.Bool.{MatchBool}
use Rattle.std.specs.List.{AllByRecursion}
use Rattle.jfs_plain.specs.declared.call.Ack.{Ack}
use Rattle.jfs_plain.specs.declared.call.Line.{Line}
use Rattle.jfs_plain.specs.declared.call.Request.{Request}
use Rattle.jfs_plain.specs.declared.refusal.Refusal.TheVariants.{OutOfMemory}
use Rattle.jfs_plain.specs.declared.reply.Reply.{Reply}
use Rattle.jfs_plain.specs.declared.reply.Reply.TheVariants.{Refused}
use Rattle.jfs_plain.specs.Limits.{FitsRequest}

-- whether a call found no memory
abbrev pub wants_memory : Reply → Bool
wants_memory (Refused OutOfMemory) = true
wants_memory _ = false

-- all calls are within the limits of calls
abbrev pub AllFit : List Line → Type 0
AllFit lines = AllByRecursion (λ line. FitsRequest line.request) lines

module _ {C : Type 0} (left : C → ℕ) where
  -- the caller has a call left for each line
  abbrev pub MayRun : List Line → C → Type 0
  MayRun lines c = AllFit lines × (length lines ≤ left c)

  -- each caller has a call left for each line of the script at its place
  abbrev pub AllMayRun : List (Vec Line) → List C → Type 0
  AllMayRun [] [] = Unit {0}
  AllMayRun (script ∷ scripts) (c ∷ cs) = MayRun script.items c × AllMayRun scripts cs
  AllMayRun _ _ = ⊥

  -- the same of the caller at one place
  abbrev pub MayRunAt : List (Vec Line) → ℕ → C → Type 0
  MayRunAt scripts i c = (i < length scripts) × ((script : Vec Line) → slice_get scripts i ≡ Some script → MayRun script.items c)

module _ {C : Type 0} (did : C → ℕ → Request → Reply → Ack → C → Type 0) where
  -- The lines were done by this caller in order, each once, up to the first that found no memory; no line behind that one was done.
  abbrev pub Ran : List Line → C → C → Type 0
  Ran [] c d = d ≡ c
  Ran (l ∷ ls) c d = (reply : Reply) × (ack : Ack) × (m : C) × did c l.number l.request reply ack m × MatchBool (wants_memory reply) (d ≡ m) (Ran ls m d)

  -- each caller did the lines of the script at its place
  abbrev pub EachRan : List (Vec Line) → List C → List C → Type 0
  EachRan [] [] [] = Unit {0}
  EachRan (script ∷ scripts) (c ∷ cs) (d ∷ ds) = Ran script.items c d × EachRan scripts cs ds
  EachRan _ _ _ = ⊥

  -- the same of the caller at one place
  abbrev pub RanAt : List (Vec Line) → ℕ → C → C → Type 0
  RanAt scripts i c d = (script : Vec Line) → slice_get scripts i ≡ Some script → Ran script.items c d
