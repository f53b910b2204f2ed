-- A rename logs what matters.
use Rattle.std.proofs.Common.{◌≡◌, ◌≢◌, ℕ, Bool, true, false, true≢false, List, [], length, Some, None, Result, Ok, refl, sym, ap, ◌∙◌, subst}
use Rattle.jfs_bits.specs.declared.descriptor.Moment.{Moment}
use Rattle.jfs_imap.specs.Inodes.{Inodes}
use Rattle.jfs_name.specs.Directory.{named}
use Rattle.jfs_ranges.specs.declared.edit.Edit.{Edit}
use Rattle.jfs_dtree.specs.Spells.{spells_names}
use Rattle.jfs_rename.specs.Asks.{asked}
use Rattle.jfs_rename.specs.Renames.{DoesAs, MovesFresh}
use Rattle.jfs_rename.specs.declared.permits.Asked.{Asked}
use Rattle.jfs_rename.specs.declared.permits.Asked.TheVariants.{Same, Free, Over}
use Rattle.jfs_rename.proofs.Taking.{over_found}
use Rattle.jfs_rename.specs.rename_steps.specs.Moves.{MovesOver}
use Rattle.jfs_rename.specs.rename_steps.specs.declared.moving.Moving.{Moving}
use Rattle.jfs_rename.specs.unlink.proofs.NoNames.{bare_spelled}
use Rattle.jfs_rename.specs.unlink.specs.loss.specs.bmap.specs.States.{Blocks}
use Rattle.jfs_rename.specs.unlink.specs.loss.specs.objects.specs.Objects.{has_names}
use Rattle.jfs_rename.specs.unlink.specs.loss.specs.meaning.specs.Readers.{root_of}
use Rattle.jfs_rename.specs.unlink.specs.loss.specs.steps.specs.Place.{front_of, last_of}
use Rattle.jfs_rename.specs.unlink.specs.loss.specs.way.specs.declared.object.Held.{Held}
use Rattle.jfs_names_logged.specs.calls_logged.specs.Calls.{IsReady, IsLogged}
use Rattle.jfs_names_logged.specs.calls_logged.specs.Found.{IsFound, IsNamed}
use Rattle.jfs_names_logged.specs.calls_logged.proofs.Found.{next_found}
use Rattle.jfs_moves_logged.specs.Calls.{RenameLaw}
use Rattle.jfs_moves_logged.proofs.Apart.{Ground, ground, old_name, named_apart, same_inode}
use Rattle.jfs_moves_logged.proofs.Ends.{Asks, asks, MayTake, free_is, over_is}
use Rattle.jfs_moves_logged.proofs.Free.{free_logged}
use Rattle.jfs_moves_logged.proofs.Over.{over_logged}

module _ (blocks : ℕ) (pages : ℕ → List ℕ) (area : ℕ → ℕ) (bm : Blocks) (inodes : Inodes) (ready : IsReady blocks pages area bm inodes) (many : length bm.states ≡ blocks) (from to : List (List ℕ)) (limit : ℕ) (now : Moment) (tx : List Edit) where
  moved : (moving : Moving) → asked blocks pages bm inodes limit from to ≡ Ok (Free moving) → MovesFresh blocks pages moving (last_of from) (last_of to) now bm tx → IsLogged blocks pages area bm inodes tx
  moved moving e j =
      let x = asks blocks pages bm inodes limit from to (Free moving) e in
      let f = free_is blocks limit x.moving x.inside x.found moving x.permits in
      free_logged blocks pages area bm inodes ready many moving (subst (Ground blocks pages area bm inodes ready) f.0 (ground blocks pages area bm inodes ready limit from to (Free moving) x f.1)) (last_of from) (last_of to) now tx j

  module _ (moving : Moving) (there : Held) (e : asked blocks pages bm inodes limit from to ≡ Ok (Over moving there)) where
    abbrev a : Asked
    a = Over moving there

    x : Asks blocks pages inodes limit from to a
    x = asks blocks pages bm inodes limit from to a e

    f : (x.moving ≡ moving) × (x.found ≡ Some there) × MayTake blocks limit x.moving x.inside there
    f = over_is blocks limit x.moving x.inside x.found moving there x.permits

    g : Ground blocks pages area bm inodes ready moving
    g = subst (Ground blocks pages area bm inodes ready) f.0 (ground blocks pages area bm inodes ready limit from to a x f.2.outside)

    old_is : IsNamed blocks pages area bm inodes moving.source moving.object (last_of from)
    old_is = subst (λ (m : Moving). IsNamed blocks pages area bm inodes m.source m.object (last_of from)) f.0 (old_name blocks pages area bm inodes ready limit from to a x f.2.outside)

    new_is : IsFound blocks pages area bm inodes there × IsNamed blocks pages area bm inodes moving.target there (last_of to)
    new_is = next_found blocks pages area bm inodes ready.consistent moving.target g.target (last_of to) there (over_found blocks pages bm inodes from to limit now moving there e)

    same_kind : has_names there.inode ≡ has_names moving.object.inode
    same_kind = f.2.same_kind ∙ ap (λ (m : Moving). has_names m.object.inode) f.0

    bare : has_names there.inode ≡ true → spells_names blocks pages (root_of there.inode) ≡ Ok []
    bare d = bare_spelled blocks pages there (root_of there.inode) (f.2.bare (sym f.2.same_kind ∙ d))

    -- the directory that has the old name has that one, and what goes has none or is no directory
    other_source : moving.source.number ≢ there.number
    other_source h = by (has_names there.inode) refl
      where
        same : moving.source.inode ≡ there.inode
        same = same_inode blocks pages area bm inodes ready moving.source there g.source new_is.0 h

        no : None ≡ Some moving.object.number → ⊥
        no h = cc (h)

        same_list : {E F : Type 0} {xs ys : List E} (x : Result (List E) F) → x ≡ Ok xs → x ≡ Ok ys → xs ≡ ys
        same_list x h k = cc (h, k)

        by : (b : Bool) → has_names there.inode ≡ b → ⊥
        by true d = no (ap (named (last_of from)) (same_list (spells_names blocks pages (root_of moving.source.inode)) (ap (λ i. spells_names blocks pages (root_of i)) same ∙ bare d) old_is.spelled_names) ∙ old_is.names_it)
        by false d = true≢false (sym g.source_dir ∙ ap has_names same ∙ d)

    replaced : MovesOver blocks pages moving there (last_of from) (last_of to) now tx → IsLogged blocks pages area bm inodes tx
    replaced j = over_logged blocks pages area bm inodes ready many moving g there (last_of from) (last_of to) (record {
      found = new_is.0;
      names = new_is.1;
      other_object = λ h. f.2.other (h ∙ ap (λ (m : Moving). m.object.number) (sym f.0));
      other_target = named_apart blocks pages area bm inodes ready (front_of to) moving.target there (last_of to) (x.placed.target ∙ ap (λ (m : Moving). Ok m.target) f.0) g.target new_is.1;
      other_source = other_source;
      bare = bare;
    }) now tx j

  rename_logged : (a : Asked) → asked blocks pages bm inodes limit from to ≡ Ok a → DoesAs a blocks pages (last_of from) (last_of to) now bm tx → IsLogged blocks pages area bm inodes tx
  rename_logged Same e j = absurd j
  rename_logged (Free moving) e j = moved moving e j
  rename_logged (Over moving there) e j = replaced moving there e j

pub rename_law : RenameLaw
rename_law blocks pages area map after inodes from to limit now tx ready many ((a, e, does), taken) = rename_logged blocks pages area map inodes ready many from to limit now tx a e does
