-- An object moves where nothing stood: what the transaction logs.
use Rattle.std.proofs.Common.{◌≡◌, ◌≢◌, ◌<◌, ◌+◌, ◌&&◌, ◌||◌, ◌==◌, not, nat_lt, if◌then◌else◌, ℕ, Bool, true, false, List, [], ◌++◌, length, Some, refl, sym, ap, ◌∙◌, subst, arith, eq-eqb}
use Rattle.std.proofs.lemmas.Bool.Decides.{nat_tests}
use Rattle.jfs_bits.specs.declared.descriptor.Moment.{Moment}
use Rattle.jfs_imap.specs.Inodes.{Inodes}
use Rattle.jfs_inode.specs.declared.fields.Dinode.{Dinode}
use Rattle.jfs_ranges.specs.declared.edit.Edit.{Edit}
use Rattle.jfs_tree.specs.Form.{AllBelow}
use Rattle.jfs_tree.specs.Fresh.{blocks_of}
use Rattle.jfs_rename.specs.Renames.{MovesFresh}
use Rattle.jfs_rename.proofs.Moved.{less_lives}
use Rattle.jfs_rename.specs.rename_steps.specs.Moves.{gain_of, leaving_free, less_if, passes_over, source_after}
use Rattle.jfs_rename.specs.rename_steps.specs.declared.leaving.Leaving.{Leaving}
use Rattle.jfs_rename.specs.rename_steps.specs.declared.moving.Moving.{Moving}
use Rattle.jfs_rename.specs.unlink.proofs.Ended.{used_within}
use Rattle.jfs_rename.specs.unlink.specs.loss.specs.bmap.specs.States.{Blocks, is_owned}
use Rattle.jfs_rename.specs.unlink.specs.loss.specs.objects.specs.Readers.{Readers}
use Rattle.jfs_rename.specs.unlink.specs.loss.specs.objects.specs.Volume.{Volume}
use Rattle.jfs_rename.specs.unlink.specs.loss.specs.objects.specs.Objects.{objects, spelled, is_live, has_names}
use Rattle.jfs_rename.specs.unlink.specs.loss.specs.meaning.specs.Readers.{readers}
use Rattle.jfs_rename.specs.unlink.specs.loss.specs.steps.specs.declared.gain.Gain.{Gain}
use Rattle.jfs_rename.specs.unlink.specs.loss.specs.way.specs.Volume.{volume_of}
use Rattle.jfs_names_logged.specs.calls_logged.specs.Calls.{IsReady, IsLogged}
use Rattle.jfs_names_logged.specs.calls_logged.specs.logged.specs.Own.{LogsItsOwn, LogsPart}
use Rattle.jfs_names_logged.specs.calls_logged.specs.logged.proofs.Joined.{join_law}
use Rattle.jfs_moves_logged.proofs.Apart.{Ground, is_living, two_links}
use Rattle.jfs_moves_logged.proofs.Come.{Come, come_logged}
use Rattle.jfs_moves_logged.proofs.Gained.{AreFree, gained_edits, gained_inode, gained_is, gained_volume, gained_logged, gained_come, gained_here, gained_other}
use Rattle.jfs_moves_logged.proofs.Leaving.{left_edits, left_is, left_volume, left_come, left_logged, left_none}
use Rattle.jfs_moves_logged.proofs.Stands.{StandsThen, stands_then}

module _ (blocks : ℕ) (pages : ℕ → List ℕ) (area : ℕ → ℕ) (bm : Blocks) (inodes : Inodes) (ready : IsReady blocks pages area bm inodes) (many : length bm.states ≡ blocks) (moving : Moving) (g : Ground blocks pages area bm inodes ready moving)
    (old new : List ℕ) (now : Moment) (tx : List Edit) (j : MovesFresh blocks pages moving old new now bm tx) where
  abbrev r : Readers
  r = readers blocks

  abbrev v : Volume
  v = volume_of pages area bm inodes

  abbrev gain : Gain
  gain = gain_of moving now

  abbrev over : Bool
  over = passes_over moving

  within : (b : ℕ) → v.used b ≡ true → b < blocks
  within = used_within blocks pages area bm inodes ready.consistent many

  can : AreFree blocks v (blocks_of j.free)
  can = record {
    once = j.fresh.once;
    within = subst (λ (k : ℕ). AllBelow k (blocks_of j.free)) many j.fresh.within;
    unused = λ b l. unowned (nat_lt b (length bm.states)) b (j.fresh.unowned b l);
  }
    where
      unowned : (x : Bool) (b : ℕ) → is_owned bm b ≡ false → (x && is_owned bm b) ≡ false
      unowned true b e = e
      unowned false b e = refl

  -- ---- the target gains the name

  live_q : is_live moving.target.number (record moving.target.inode { nlink = gain.links }) ≡ true
  live_q = by over (is_living blocks pages area bm inodes ready moving.target g.target)
    where
      more : (n k : ℕ) → (nat_lt n 4 || not (k + 1 == 0)) ≡ true
      more n k = grind (arith, nat_tests)

      by : (x : Bool) → is_live moving.target.number moving.target.inode ≡ true → (nat_lt moving.target.number 4 || not ((if x then moving.target.inode.nlink + 1 else moving.target.inode.nlink) == 0)) ≡ true
      by true live = more moving.target.number moving.target.inode.nlink
      by false live = live

  abbrev own : List Edit
  own = gained_edits blocks v ready.are_pages ready.consistent.sound within moving.target g.target.home_is g.target.was g.target_dir new gain j.free j.left can live_q j.moves.after j.moves.gains

  abbrev set_q : Dinode
  set_q = gained_inode blocks v ready.are_pages ready.consistent.sound within moving.target g.target.home_is g.target.was g.target_dir new gain j.free j.left can live_q j.moves.after j.moves.gains

  abbrev w1 : Volume
  w1 = gained_volume blocks v ready.are_pages ready.consistent.sound within moving.target g.target.home_is g.target.was g.target_dir new gain j.free j.left can live_q j.moves.after j.moves.gains

  c1 : Come blocks v [] j.moves.after.tx w1
  c1 = gained_come blocks v ready.are_pages ready.consistent.sound within moving.target g.target.home_is g.target.was g.target_dir new gain j.free j.left can live_q j.moves.after j.moves.gains

  own_logged : LogsPart r v w1 own
  own_logged = gained_logged blocks v ready.are_pages ready.consistent.sound within moving.target g.target.home_is g.target.was g.target_dir new gain j.free j.left can live_q j.moves.after j.moves.gains

  own_is : j.moves.after.tx ≡ own
  own_is = gained_is blocks v ready.are_pages ready.consistent.sound within moving.target g.target.home_is g.target.was g.target_dir new gain j.free j.left can live_q j.moves.after j.moves.gains

  here_q : objects r w1 moving.target.number ≡ Some (spelled r w1.page set_q)
  here_q = gained_here blocks v ready.are_pages ready.consistent.sound within moving.target g.target.home_is g.target.was g.target_dir new gain j.free j.left can live_q j.moves.after j.moves.gains

  other : (k : ℕ) (e : Dinode) → k ≢ moving.target.number → objects r v k ≡ Some (spelled r v.page e) → objects r w1 k ≡ Some (spelled r w1.page e)
  other = gained_other blocks v ready.are_pages ready.consistent.sound within moving.target g.target.home_is g.target.was g.target_dir new gain j.free j.left can live_q j.moves.after j.moves.gains

  -- ---- the object leaves

  here_m : objects r w1 moving.object.number ≡ Some (spelled r w1.page moving.object.inode)
  here_m = other moving.object.number moving.object.inode g.object_target g.object.was

  -- in one directory no link goes
  stays : moving.source.number ≡ moving.target.number → over ≡ false
  stays e = ap (λ (x : Bool). has_names moving.object.inode && not x) (eq-eqb moving.source.number moving.target.number e) ∙ none (has_names moving.object.inode)
    where
      none : (x : Bool) → (x && false) ≡ false
      none true = refl
      none false = refl

  stands : StandsThen blocks v w1 moving.object.number over (source_after moving j.moves.after.inode)
  stands = stands_then blocks v w1 moving.object.number over moving j.moves.after.inode set_q j.moves.gains.inode_is
      (λ e. record {
        home_is = g.target.home_is;
        here = here_q;
        dir = g.target_dir;
        live = ap (λ (x : Bool). is_live moving.target.number (record set_q { nlink = less_if x set_q.nlink })) (stays e) ∙ live_q;
        apart = λ h. g.object_target (sym h);
      })
      (λ far. record {
        home_is = g.source.home_is;
        here = other moving.source.number moving.source.inode far g.source.was;
        dir = g.source_dir;
        live = less_lives moving.source.number moving.source.inode over (is_living blocks pages area bm inodes ready moving.source g.source) (two_links blocks pages area bm inodes ready moving.source g.source g.source_dir);
        apart = λ h. g.object_source (sym h);
      })

  abbrev leaving : Leaving
  leaving = leaving_free moving j.moves.after.inode

  abbrev rest : List Edit
  rest = left_edits blocks v ready.are_pages j.moves.after.tx w1 c1 leaving old now tx j.moves.leaves g.object.home_is here_m (is_living blocks pages area bm inodes ready moving.object g.object) stands.home_is stands.here stands.dir stands.live stands.apart

  abbrev w : Volume
  w = left_volume blocks v ready.are_pages j.moves.after.tx w1 c1 leaving old now tx j.moves.leaves g.object.home_is here_m (is_living blocks pages area bm inodes ready moving.object g.object) stands.home_is stands.here stands.dir stands.live stands.apart

  c : Come blocks v [] tx w
  c = left_come blocks v ready.are_pages j.moves.after.tx w1 c1 leaving old now tx j.moves.leaves g.object.home_is here_m (is_living blocks pages area bm inodes ready moving.object g.object) stands.home_is stands.here stands.dir stands.live stands.apart

  rest_logged : LogsPart r w1 w rest
  rest_logged = left_logged blocks v ready.are_pages j.moves.after.tx w1 c1 leaving old now tx j.moves.leaves g.object.home_is here_m (is_living blocks pages area bm inodes ready moving.object g.object) stands.home_is stands.here stands.dir stands.live stands.apart

  tx_is : tx ≡ own ++ rest
  tx_is = left_is blocks v ready.are_pages j.moves.after.tx w1 c1 leaving old now tx j.moves.leaves g.object.home_is here_m (is_living blocks pages area bm inodes ready moving.object g.object) stands.home_is stands.here stands.dir stands.live stands.apart
      ∙ ap (λ (all : List Edit). all ++ rest) own_is

  none_comes : (b : ℕ) → w.used b ≡ true → w1.used b ≡ true
  none_comes b h = left_none blocks v ready.are_pages j.moves.after.tx w1 c1 leaving old now tx j.moves.leaves g.object.home_is here_m (is_living blocks pages area bm inodes ready moving.object g.object) stands.home_is stands.here stands.dir stands.live stands.apart b h

  pub free_logged : IsLogged blocks pages area bm inodes tx
  free_logged = come_logged blocks v tx w c (subst (LogsItsOwn r v w) (sym tx_is) (join_law.all r v w1 w own rest own_logged rest_logged (λ b was now. none_comes b now)))
