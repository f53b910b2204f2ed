-- The clients of a run: what each begins with, and what it comes back with.
use Rattle.std.specs.Prelude.{◌≡◌, ◌≤◌, Bool, true, false, List, [], ◌∷◌, length, Some, vec_capacity}
use Rattle.std.specs.Global.{Vec}
use Rattle.std.specs.List.{AllByRecursion}
use Rattle.atomic_table.specs.Seated.{TableId}
use Rattle.jfs_bits.specs.declared.descriptor.Moment.{Moment}
use Rattle.jfs_disk.specs.declared.disk.Disk.{Ghosts}
use Rattle.jfs_plain.specs.declared.call.Line.{Line}
use Rattle.jfs_script.specs.Script.{AllFit}
use Rattle.jfs_server.specs.Client.{Did}
use Rattle.jfs_server.specs.clients.specs.Ran.{Ran}
use Rattle.jfs_server.specs.declared.client.Client.{Client}
use Rattle.jfs_server.specs.declared.served.ServedVolume.{ServedVolume}
use Rattle.jfs_server.specs.groups.specs.declared.log.SharedLog.{SharedLog}
use Rattle.jfs_server.specs.shared.specs.Entries.{Recorded}
use Rattle.jfs_server.specs.turns.specs.declared.turns.Pass.{Pass}

module _ {D : Type 0} (d : Ghosts D) where
  abbrev pub ServerPass : Type 0
  ServerPass = Pass (ServedVolume D) (SharedLog D d) Recorded

  -- ---- before the first call

  -- A script, the pass of its client, and the place for its marks: there is a call left and room for a mark for each line.
  pub record IsReady (table : TableId) (lines : List Line) (p : ServerPass) (marks : Vec Bool) : Type 0 where
    pub table_is : p.seat.table_id ≡ table
    pub fits : AllFit lines
    pub calls : length lines ≤ p.calls_left
    pub none : marks.items ≡ []
    pub room : length lines ≤ vec_capacity marks

  abbrev pub AreReady : TableId → List (Vec Line) → List ServerPass → List (Vec Bool) → Type 0
  AreReady table [] [] [] = Unit {0}
  AreReady table (script ∷ scripts) (p ∷ ps) (marks ∷ more) = IsReady table script.items p marks × AreReady table scripts ps more
  AreReady table _ _ _ = ⊥

  -- a client of this pass, with this place for its marks
  pub record IsClientOf {G : Type 0} (now : Moment) (p : ServerPass) (marks : Vec Bool) (c : Client D G d) : Type 0 where
    pub pass : c.pass ≡ Some p
    pub moment : c.now ≡ now
    pub waits : c.waits ≡ marks
    pub failed : c.failed ≡ false

  abbrev pub AreClientsOf : {G : Type 0} → Moment → List ServerPass → List (Vec Bool) → List (Client D G d) → Type 0
  AreClientsOf now [] [] [] = Unit {0}
  AreClientsOf now (p ∷ ps) (marks ∷ more) (c ∷ cs) = IsClientOf now p marks c × AreClientsOf now ps more cs
  AreClientsOf now _ _ _ = ⊥

  -- ---- behind the last one

  abbrev pub HavePasses : {G : Type 0} → List (Client D G d) → Type 0
  HavePasses {G} cs = AllByRecursion (λ (c : Client D G d). (p : ServerPass) × (c.pass ≡ Some p)) cs

  -- the client's pass and its marks; where one of its entries couldn't be made durable, that is told
  pub record IsBack {G : Type 0} (failed : Bool) (c : Client D G d) (p : ServerPass) (marks : Vec Bool) : Type 0 where
    pub pass : c.pass ≡ Some p
    pub waits : marks ≡ c.waits
    pub told : c.failed ≡ true → failed ≡ true

  abbrev pub AreBack : {G : Type 0} → Bool → List (Client D G d) → List ServerPass → List (Vec Bool) → Type 0
  AreBack failed [] [] [] = Unit {0}
  AreBack failed (c ∷ cs) (p ∷ ps) (marks ∷ more) = IsBack failed c p marks × AreBack failed cs ps more
  AreBack failed _ _ _ = ⊥

  -- A client that had this pass did its script's lines, up to the first that found no memory, and came back with that pass and these marks.
  pub record Came (now : Moment) (failed : Bool) (lines : List Line) (before after : ServerPass) (marks : List Bool) : Type 0 where
    pub its : Bool
    pub told : its ≡ true → failed ≡ true
    pub ran : Ran (Did d) lines (record { pass = Some before; now = now; waits = []; failed = false }) (record { pass = Some after; now = now; waits = marks; failed = its })

  abbrev pub EachCame : Moment → Bool → List (Vec Line) → List ServerPass → List ServerPass → List (Vec Bool) → Type 0
  EachCame now failed [] [] [] [] = Unit {0}
  EachCame now failed (script ∷ scripts) (p ∷ ps) (q ∷ qs) (marks ∷ more) = Came now failed script.items p q marks.items × EachCame now failed scripts ps qs more
  EachCame now failed _ _ _ _ = ⊥
