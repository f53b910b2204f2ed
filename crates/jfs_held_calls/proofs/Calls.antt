-- A file call that is done is a run of changes.
use Rattle.std.proofs.Common.{◌≡◌, ◌⊎◌, ◌<◌, ◌==◌, ℕ, Bool, true, false, true≢false, if◌then◌else◌, List, [], ◌∷◌, length, Option, Some, refl, sym, ap, ◌∙◌, subst, inl, inr, arith}
use Rattle.std.proofs.lemmas.Bool.{or_left, or_right, eq-eqb}
use Rattle.jfs_data_steps.specs.After.{is_put}
use Rattle.jfs_data_steps.specs.declared.pages.DataPage.{DataPage}
use Rattle.jfs_data_steps.specs.meaning.specs.Readers.{readers}
use Rattle.jfs_data_steps.specs.objects.specs.Readers.{Readers}
use Rattle.jfs_data_steps.specs.objects.specs.Volume.{Volume}
use Rattle.jfs_data_steps.specs.objects.specs.Objects.{Object, objects}
use Rattle.jfs_data_steps.specs.objects.specs.Owners.{is_data, data_held}
use Rattle.jfs_data_steps.specs.kinds.specs.Owner.{is_regular_file, has_data}
use Rattle.jfs_held_volumes.specs.survival.specs.halves.specs.Entry.{Happened}
use Rattle.jfs_held_volumes.specs.survival.specs.halves.specs.Change.{Writes}
use Rattle.jfs_held_volumes.specs.survival.specs.halves.specs.Both.{Changes, FitAll}
use Rattle.jfs_held_volumes.specs.Held.{Mount, Held, IsHeld, newest_image}
use Rattle.jfs_held_volumes.specs.Changes.{TakesData, with_page, next, AllMay}
use Rattle.jfs_held_volumes.proofs.Data.{fixed_stay, objects_stay}
use Rattle.jfs_held_volumes.proofs.Kept.{one, part_size}
use Rattle.jfs_held_calls.specs.Calls.{made_by, changes_of, IsCall, CallLaw, OwnLaw}

-- ---- one block less

-- data may go where it might before other data was put
pub still_takes : (r : Readers) (v w : Volume) (b : ℕ) → w.used b ≡ v.used b → ((n : ℕ) → objects r w n ≡ objects r v n) → TakesData r v b → TakesData r w b
still_takes r v w b used same (inl free) = inl (used ∙ free)
still_takes r v w b used same (inr (n, more)) = inr (n, subst (λ (o : Option Object). 0 < has_data r o b) (sym (same n)) more)

module _ (m : Mount) (x : Held) (d : DataPage) (put : List DataPage) (h : Happened) (w : Volume) (held : IsHeld m x) (call : IsCall m x (d ∷ put) h w) where
  abbrev v : Volume
  v = with_page d.block d.page.0 x.volume

  abbrev later : Held
  later = next m x (Changes (Writes d.block d.page.0)) v

  first : TakesData m.readers x.volume d.block
  first = call.takes d.block (or_left (d.block == d.block) (is_put d.block put) (eq-eqb d.block d.block refl))

  same : length later.both.volume.blocks ≡ length x.both.volume.blocks
  same = part_size x.both (Changes (Writes d.block d.page.0))

  rest : IsCall m later put h w
  rest = record {
    takes = λ b is. still_takes m.readers x.volume v b refl (objects_stay m (newest_image x) x.volume d.block d.page.0 held.now first) (call.takes b (or_right (d.block == b) (is_put b put) is));
    whole = call.whole.1;
    after = call.after;
    sound = call.sound;
    used = call.used;
    within = call.within;
    fixed = λ p e. call.fixed p e ∙ sym (fixed_stay m (newest_image x) x.volume d.block d.page.0 held.now first p e);
    keeps = record { no_maps = call.keeps.no_maps; within = λ p far. call.keeps.within p (let s = same in omega (arith, far, s)) };
    owned = call.owned;
  }

-- ---- all of it

call_may : (m : Mount) (put : List DataPage) (x : Held) (h : Happened) (w : Volume) → IsHeld m x → FitAll x.both (changes_of (made_by x.volume put h w)) → IsCall m x put h w → AllMay m x (made_by x.volume put h w)
call_may m [] x h w held fits call = (
  fits.0,
  record {
    follows = record { after = call.after; sound = call.sound; used = call.used; within = call.within; fixed = call.fixed };
    keeps = call.keeps;
    owned = call.owned;
  },
  tt,
)
call_may m (d ∷ ds) x h w held fits call =
    let takes = first m x d ds h w held call in
    let v = with_page d.block d.page.0 x.volume in
    let may = inl (call.whole.0, takes, refl) in (
      fits.0,
      may,
      call_may m ds (next m x (Changes (Writes d.block d.page.0)) v) h w (one m x held (Changes (Writes d.block d.page.0)) v fits.0 may) fits.1 (rest m x d ds h w held call),
    )

pub call_law : CallLaw
call_law m x put h w held fits call = call_may m put x h w held fits call

-- ---- data of a file call

its_data : (r : Readers) (o : Object) (b : ℕ) → is_regular_file o ≡ true → 0 < is_data r (Some o) b → 0 < has_data r (Some o) b
unfolding has_data is_data
its_data r o b regular more = subst (λ (x : Bool). 0 < (if x then data_held r o b else 0)) (sym regular) more

pub own_law : OwnLaw
own_law blocks v put (inl none) b is = absurd (true≢false (sym is ∙ ap (λ (ds : List DataPage). is_put b ds) none))
own_law blocks v put (inr own) b is = at (own.may b is)
  where
    at : (v.used b ≡ false) ⊎ (0 < is_data (readers blocks) (objects (readers blocks) v own.inode) b) → TakesData (readers blocks) v b
    at (inl free) = inl free
    at (inr more) = inr (
      own.inode,
      subst (λ (o : Option Object). 0 < has_data (readers blocks) o b) (sym own.there)
          (its_data (readers blocks) own.file b own.regular (subst (λ (o : Option Object). 0 < is_data (readers blocks) o b) own.there more)),
    )
