-- Parts that each change one object log what matters.
use Rattle.std.proofs.Common.{◌≡◌, ◌≢◌, ◌⊎◌, ◌<◌, ℕ, Bool, true, false, List, [], Option, Some, refl, sym, ap, ◌∙◌, subst, inl, inr, arith}
use Rattle.std.proofs.lemmas.Bool.{cases_Bool}
use Rattle.jfs_bits.specs.declared.rule.PageKind.TheVariants as kinds
use Rattle.jfs_inode.specs.declared.fields.Dinode.{Dinode}
use Rattle.jfs_ranges.specs.declared.edit.Edit.{Edit}
use Rattle.jfs_recovery.specs.records.specs.Redo.{closes_in}
use Rattle.jfs_recovery.specs.objects.specs.Readers.{Readers}
use Rattle.jfs_recovery.specs.objects.specs.Volume.{Volume}
use Rattle.jfs_recovery.specs.objects.specs.Objects.{Object, objects, spelled}
use Rattle.jfs_recovery.specs.objects.specs.Owners.{Agrees, IsSound, bit}
use Rattle.jfs_recovery.specs.objects.proofs.Set.{object_is_set}
use Rattle.jfs_recovery.specs.objects.proofs.Drop.{object_goes}
use Rattle.jfs_recovery.specs.objects.proofs.Extent.{extent_law}
use Rattle.jfs_recovery.specs.kinds.specs.Owner.{Owner, owner_of, is_logged}
use Rattle.jfs_recovery.specs.kinds.specs.Owner.Owner.{Area, Inodes}
use Rattle.jfs_recovery.specs.kinds.specs.Laws.{KeepsKinds, OwnersStay}
use Rattle.jfs_recovery.specs.kinds.proofs.Edits.{edit_law}
use Rattle.jfs_recovery.specs.kinds.proofs.Logged.{logged_law}
use Rattle.jfs_recovery.specs.kinds.proofs.Single.{has_owners}
use Rattle.jfs_recovery.specs.kinds.proofs.Stay.{is_free}
use Rattle.jfs_logged.specs.Logged.{logged_in}
use Rattle.jfs_logged.specs.Own.{LogsPart}
use Rattle.jfs_logged.specs.Stages.{TellsStage, ArePageRuns}
use Rattle.jfs_logged.specs.Edits.{EditsLaw, WritesInode, InodeLaw}
use Rattle.jfs_logged.proofs.Joined.{never}
use Rattle.jfs_logged.proofs.OneObject.{kinds_law}
use Rattle.jfs_logged.proofs.Staged.{staged, runs_law}

pub edits_law : EditsLaw
edits_law = record {
  sets = λ r v w n after mid taken freed tx sound s kinds tells. staged r v w tx sound.agrees (object_is_set r v w n after mid taken freed sound s).0.sound.agrees (edit_law.sets r v w n after mid taken freed sound s kinds) tells;
  drops = λ r v w n left freed tx sound s tells. staged r v w tx sound.agrees (object_goes r v w n left freed sound s).sound.agrees (edit_law.drops r v w n left freed sound s) tells;
  adds = λ r v w place first tx sound s tells. staged r v w tx sound.agrees (extent_law r v w place first sound s).0.sound.agrees (edit_law.adds r v w place first sound s) tells;
}

same_bit : (x y : Bool) → bit x ≡ bit y → x ≡ y
same_bit true true h = refl
same_bit false false h = refl
same_bit true false h = absurd (omega (arith, h))
same_bit false true h = absurd (omega (arith, h))

module _ (r : Readers) (v w : Volume) (n p : ℕ) (d set : Dinode) (old new : List ℕ) (tx : List Edit) (sound : IsSound r v) (writes : WritesInode r v w n p d set old new tx) where
  after : Agrees r w
  after = (object_is_set r v w n set v.page [] [] sound writes.sets).0.sound.agrees

  keeps : KeepsKinds r v w (objects r v n) (Some (spelled r v.page set))
  keeps = subst (λ (o : Option Object). KeepsKinds r v w o (Some (spelled r v.page set))) (sym writes.was) (kinds_law.trees r v w (spelled r v.page d) (spelled r v.page set) writes.trees)

  stay : OwnersStay r v w
  stay = edit_law.sets r v w n set v.page [] [] sound writes.sets keeps

  used_same : (q : ℕ) → w.used q ≡ v.used q
  used_same q = same_bit (w.used q) (v.used q) (let u = writes.sets.takes.used q in omega (arith, u))

  -- all blocks keep their owners
  owner_same : (q : ℕ) → owner_of r w q ≡ owner_of r v q
  owner_same q = at (cases_Bool (v.used q))
    where
      at : (v.used q ≡ true) ⊎ (v.used q ≡ false) → owner_of r w q ≡ owner_of r v q
      at (inl used) = stay q used (used_same q ∙ used)
      at (inr free) = is_free r w after q (used_same q ∙ free) ∙ sym (is_free r v sound.agrees q free)

  logged_same : (q : ℕ) → logged_in r w q ≡ logged_in r v q
  logged_same q = ap (λ (o : Option Owner). is_logged o) (owner_same q)

  runs : ArePageRuns p tx
  runs = runs_law p kinds.Inode old new 0 tx writes.runs

  page_owner : owner_of r v p ≡ Some Inodes
  page_owner = (logged_law.reads r v sound).inodes n p writes.at

  page_logged : logged_in r w p ≡ true
  page_logged = ap (λ (o : Option Owner). is_logged o) (owner_same p ∙ page_owner)

  not_it : (q : ℕ) → logged_in r w q ≡ false → q ≢ p
  not_it q gone e = never (logged_in r w p) page_logged (ap (logged_in r w) (sym e) ∙ gone)

  -- nor is it a page of a fixed area
  no_area : (q : ℕ) → 0 < v.area q → q ≢ p
  no_area q area e = different (sym ((has_owners r v sound.agrees).alone q Area area) ∙ ap (owner_of r v) e ∙ page_owner)
    where
      different : Some Area ≡ Some Inodes → ⊥
      different h = cc (h)

  tells : TellsStage r v w tx
  tells = record {
    areas = λ q. ap (λ (f : ℕ → ℕ). f q) writes.sets.area;
    pages = writes.pages;
    freed = λ q some. never (closes_in q tx) some (runs.closes_none q);
    others = λ q none gone. (runs.others q (not_it q gone), sym (logged_same q) ∙ gone);
    whole = λ q free used. never (w.used q) used (used_same q ∙ free);
    untold = λ q area. runs.others q (no_area q area);
    comes = λ q free used. never (w.used q) used (used_same q ∙ free);
  }

  pub inode_logged : LogsPart r v w tx
  inode_logged = staged r v w tx sound.agrees after stay tells

pub inode_law : InodeLaw
inode_law r v w n p d set old new tx sound writes = inode_logged r v w n p d set old new tx sound writes
