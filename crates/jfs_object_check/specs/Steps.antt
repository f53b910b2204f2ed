-- What a step of looking at an object answers, and which findings a list gains by it.
use Rattle.std.specs.Int.RustNames.{bit_and}
use Rattle.std.specs.Prelude.{◌≡◌, ℕ, Bool, true, false, Result, Ok, Err, List}
use Rattle.jfs_bits.specs.declared.extent.Dxd.{Dxd}
use Rattle.jfs_bits.specs.declared.rule.Rule.{Rule}
use Rattle.jfs_ranges.specs.declared.view.ViewError.{ViewError}
use Rattle.jfs_ranges.specs.declared.view.ViewError.TheVariants as view
use Rattle.jfs_tree.specs.Walk.{Marks, Scale, rows_of}
use Rattle.jfs_tree.specs.declared.form.TreeError.{TreeError}
use Rattle.jfs_tree.specs.declared.form.TreeError.TheVariants.{View, Bad, Memory}
use Rattle.jfs_owners.specs.objects.specs.Objects.{listed}
use Rattle.jfs_owners.specs.mount_rules.specs.Subject.{page_named}
use Rattle.jfs_owners.specs.findings.specs.Blocks.{IsFirstPast}
use Rattle.jfs_owners.specs.findings.specs.Gains.{Gains}
use Rattle.jfs_owners.specs.findings.specs.declared.finding.Finding.{Finding}
use Rattle.jfs_owners.specs.findings.specs.declared.finding.FindingKind.{FindingKind}
use Rattle.jfs_owners.specs.findings.specs.declared.finding.FindingKind.TheVariants as kinds
use Rattle.jfs_object_check.specs.Object.{BreaksOn}

-- this finding, where something is so
abbrev pub Only : FindingKind → ℕ → ℕ → Type 0 → Finding → Type 0
Only kind page value fact f = (f.kind ≡ kind) × (f.page ≡ page) × (f.value ≡ value) × fact

-- the first broken rule of a tree
abbrev pub IsBroken : {P E : Type 0} → FindingKind → Scale P E → Marks P E → ℕ → Finding → Type 0
IsBroken kind order marks at f = (f.kind ≡ kind) × BreaksOn order marks at f.page × (f.value ≡ 0)

-- the first block of a run of attributes that lies behind so many blocks
abbrev pub IsBehind : ℕ → ℕ → Dxd → Finding → Type 0
IsBehind blocks at d f = (f.kind ≡ kinds.Outside) × (f.page ≡ at) × (bit_and d.flag 0x20 ≡ 0x20) × IsFirstPast blocks d.at f.value

-- A walk comes to its end exactly where the tree breaks no rule; else it names the first broken one, unless a page wasn't given.
abbrev pub EndsAs : {P E T : Type 0} → Scale P E → Marks P E → Result T TreeError → Type 0
EndsAs s ms (Ok it) = listed s ms ≡ Ok (rows_of ms)
EndsAs s ms (Err (View e)) = Unit {0}
EndsAs s ms (Err (Bad page rule)) = listed s ms ≡ Err (page, rule)
EndsAs s ms (Err Memory) = Unit {0}

-- a broken rule is a finding, on the inode's page where the root breaks it
abbrev pub Settles : {T : Type 0} → FindingKind → ℕ → Result T TreeError → Result Bool ViewError → List Finding → List Finding → Type 0
Settles kind at (Ok it) (Ok sound) old new = (sound ≡ true) × (new ≡ old)
Settles kind at (Ok it) (Err e) old new = ⊥
Settles kind at (Err (Bad page rule)) (Ok sound) old new = (sound ≡ false) × Gains (Only kind (page_named at page) 0 (Unit {0})) old new
Settles kind at (Err (Bad page rule)) (Err e) old new = e ≡ view.Memory
Settles kind at (Err (View e)) (Ok sound) old new = ⊥
Settles kind at (Err (View e)) (Err d) old new = d ≡ e
Settles kind at (Err Memory) (Ok sound) old new = ⊥
Settles kind at (Err Memory) (Err e) old new = e ≡ view.Memory

-- whether a tree spells a list
abbrev pub IsSound : {E : Type 0} → Result (List E) (ℕ × Rule) → Bool → Type 0
IsSound (Ok es) sound = sound ≡ true
IsSound (Err fault) sound = sound ≡ false
