-- The plan of a new object, once blocks are reserved for it.
use Rattle.std.specs.Prelude.{◌≡◌, ◌≤◌, ◌+◌, Option, Some, None}
use Rattle.jfs_bits.specs.declared.descriptor.Pxd.{Pxd}
use Rattle.jfs_create.specs.Seat.{seat_at}
use Rattle.jfs_create.specs.declared.extent.NewExtent.{NewExtent}
use Rattle.jfs_create.specs.declared.make.Plan.{Plan}
use Rattle.jfs_create.specs.declared.plan.Draft.{Draft}
use Rattle.jfs_create.specs.declared.seats.Founded.{Founded}
use Rattle.jfs_create.specs.declared.seats.Seated.{Seated}
use Rattle.jfs_create.specs.declared.seats.Site.{Site}
use Rattle.jfs_create.specs.declared.seats.Site.TheVariants.{There, Founding}

-- a run of four blocks is there exactly where an extent is to be made
abbrev pub SuitsRun : Site → Option Pxd → Type 0
SuitsRun (There seated) None = Unit {0}
SuitsRun (There seated) (Some run) = ⊥
SuitsRun (Founding founded) None = ⊥
SuitsRun (Founding founded) (Some run) = (run.len ≡ 4) × (run.addr + 4 ≤ 4294967296)

-- the extent that is to be made on a run, and the seat of its first inode: a slot of a new extent has generation 0
abbrev pub extent_on : Founded → Pxd → NewExtent
extent_on founded run = record { run = run; first = founded.number; stamp = founded.stamp }

abbrev pub first_seat : Founded → Pxd → Seated
first_seat founded run = seat_at founded.stamp 0 founded.parent founded.number run.addr

abbrev pub plan_at : Draft → Seated → Option NewExtent → Plan
plan_at draft seated extent = record { object = draft.object; seat = seated.seat; page = seated.page; extent = extent; now = draft.now }

-- The inode stands where it was seen to; or on the first page of an extent that is made on the run.
abbrev pub IsPlannedAt : Draft → Site → Option Pxd → Plan → Type 0
IsPlannedAt draft (There seated) None plan = plan ≡ plan_at draft seated None
IsPlannedAt draft (There seated) (Some run) plan = ⊥
IsPlannedAt draft (Founding founded) None plan = ⊥
IsPlannedAt draft (Founding founded) (Some run) plan = plan ≡ plan_at draft (first_seat founded run) (Some (extent_on founded run))

abbrev pub IsPlanned : Draft → Option Pxd → Plan → Type 0
IsPlanned draft run plan = IsPlannedAt draft draft.site run plan
