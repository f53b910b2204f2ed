-- An entry that logs what matters is an append.
use Rattle.std.proofs.Common.{◌≡◌, ◌||◌, ◌&&◌, Bool, true, false, refl}
use Rattle.jfs_ranges.specs.Apply.{touches_tx}
use Rattle.jfs_logged.specs.halves.specs.Entry.{edits}
use Rattle.jfs_face.specs.recovery.specs.records.specs.Redo.{closes_in}
use Rattle.jfs_face.specs.recovery.specs.Core.{count, image}
use Rattle.jfs_face.specs.Places.{is_map_page}
use Rattle.jfs_survival.specs.MapMarks.{map_marks}
use Rattle.jfs_survival.specs.Enters.{EntersLaw}
use Rattle.jfs_survival.proofs.Busy.{free_law}
use Rattle.jfs_survival.proofs.Entry.{may_append}
use Rattle.jfs_survival.proofs.MapsMarked.{marked_law}

not_touched : (a b c d : Bool) → a ≡ false → b ≡ false → c ≡ false → (a || b || (c && d)) ≡ false
not_touched false false false d x y z = refl
not_touched true b c d x y z = absurd (cc (x))
not_touched false true c d x y z = absurd (cc (y))
not_touched false false true d x y z = absurd (cc (z))

pub enters_law : EntersLaw
enters_law r pl both core h t v w areas is states fits entry = (
  t,
  record {
    may = may_append r pl (map_marks pl) core (edits h) t v w areas is.sound (record {
      follows = entry.follows;
      before = entry.before;
      after = entry.after;
      agrees = entry.agrees;
      agrees_then = entry.agrees_then;
      logs = entry.logs;
      fresh = λ b free used busy. free_law.takes_none r pl (map_marks pl) both core h b states fits (entry.takes_them b free used) busy;
      fixed = entry.fixed;
      marked = λ p this none. marked_law r pl core (edits h) t p areas is.sound entry.follows this none;
    });
    within = λ p far. (let x = entry.within p far in not_touched (touches_tx p (edits h)) (closes_in p (edits h)) (is_map_page pl p) (map_marks pl (image core (count core)) (edits h) p) x.0 x.1 x.2);
    no_maps = entry.no_maps;
  },
  refl,
)
