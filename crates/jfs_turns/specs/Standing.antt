-- What the two values stand for, beside what a seat knows.
use Rattle.std.specs.Prelude.{◌≡◌, ℕ, ◌≤◌, List, [], ◌∷◌, ◌++◌, length}
use Rattle.jfs_turns.specs.Lists.{Base, IsPrefix}
use Rattle.jfs_turns.specs.declared.view.View.{View}

-- the value stands for a base, a list of entries, how many are taken and durable, syncpoints, and how many of these are stable
abbrev pub Standing : Type 0 → Type 0 → Type 1
Standing X E = X → Base → List E → ℕ → ℕ → List ℕ → ℕ → Type 0

-- The volume stands for what its seat has, with acknowledged entries and stable syncpoints that the seat's bounds cover.
abbrev pub VolumeStands : {V E : Type 0} → Standing V E → V → View E → Type 0
VolumeStands of_volume x v = (told : ℕ) × (known : ℕ) × of_volume x v.base v.list v.taken told v.points known × (told ≤ v.durable) × (known ≤ v.stable)

-- The log side stands for what its seat has, with just the seat's counts durable and stable.
abbrev pub LogStands : {L E : Type 0} → Standing L E → L → View E → Type 0
LogStands of_log y v = of_log y v.base v.log_list v.taken v.log_durable v.log_points v.log_stable

-- The volume stands for its seat's list and one entry more.
abbrev pub VolumeStandsWith : {V E : Type 0} → Standing V E → V → View E → E → Type 0
VolumeStandsWith of_volume x v e = (taken : ℕ) × (told : ℕ) × (points : List ℕ) × (known : ℕ) × of_volume x v.base (v.list ++ e ∷ []) taken told points known

-- Either value stands for these syncpoints.
abbrev pub VolumeHasPoints : {V E : Type 0} → Standing V E → V → View E → List ℕ → Type 0
VolumeHasPoints {V} {E} of_volume x v ps = (list : List E) × (taken : ℕ) × (told : ℕ) × (known : ℕ) × of_volume x v.base list taken told ps known

abbrev pub LogHasPoints : {L E : Type 0} → Standing L E → L → View E → List ℕ → ℕ → Type 0
LogHasPoints {L} {E} of_log y v ps stable = (list : List E) × (taken : ℕ) × (durable : ℕ) × of_log y v.base list taken durable ps stable

-- The volume stands for the seat's syncpoints and none or more after them, as many as it counts. The log side stands for the
-- same with as many stable as it counts, which is no fewer than its seat's number.
abbrev pub ArePoints : {V L E : Type 0} → Standing V E → Standing L E → (V → ℕ) → (L → ℕ) → V → L → View E → View E → List ℕ → Type 0
ArePoints of_volume of_log many solid x y a m ps = IsPrefix m.points ps × (length ps ≡ many x) × (solid y ≤ many x) × (m.log_stable ≤ solid y) × VolumeHasPoints of_volume x a ps × LogHasPoints of_log y m ps (solid y)
