-- Pages of the maps that go home, one after the other.
use Rattle.std.proofs.Common.{◌≡◌, ◌≢◌, ◌⊎◌, ◌==◌, refl, sym, ap, ◌∙◌, subst, ℕ, Bool, true, false, true≢false, if◌then◌else◌, List, [], ◌∷◌, None, IsSome, inl, inr}
use Rattle.std.proofs.lemmas.Bool.{or_parts, or_cases, eq-eqb, eqb-true}
use Rattle.jfs_joined_held.specs.held.specs.survival.proofs.Changes.{put_same, put_other}
use Rattle.jfs_joined_held.specs.held.specs.survival.specs.Played.{IsMapHome}
use Rattle.jfs_joined_held.specs.held.specs.survival.specs.face.specs.Places.{is_map_page}
use Rattle.jfs_joined_held.specs.held.specs.survival.specs.recovery.specs.Core.{Core, Slot, count, image, does, home_slot, told_page, after_steps}
use Rattle.jfs_joined_held.specs.held.specs.survival.specs.recovery.specs.Core.Step.{Write, Home}
use Rattle.jfs_joined_held.specs.held.specs.survival.specs.recovery.specs.crash_core.specs.Step.{EndsBy}
use Rattle.jfs_joined_held.specs.held.specs.Changes.{HasTheSame, next, leaving, after}
use Rattle.jfs_joined_held.specs.held.specs.Held.{Mount, Held, face_at}
use Rattle.jfs_joined_held.specs.held.proofs.Kept.{one}
use Rattle.jfs_joined_held.specs.volume.specs.data_steps.specs.After.{is_put, EachOnce}
use Rattle.jfs_joined_held.specs.volume.specs.data_steps.specs.declared.pages.DataPage.{DataPage}
use Rattle.jfs_joined_held.specs.volume.specs.data_steps.specs.objects.specs.Volume.{Volume}
use Rattle.jfs_joined_held.specs.volume.specs.halves.specs.Both.{BothChange, Changes, Fits}
use Rattle.jfs_joined_held.specs.volume.specs.halves.specs.Change.{Writes}
use Rattle.jfs_pages_held.specs.Homes.{homing, AreMapHomes, GoesHomeAlong, HomingLaw, TearLaw}

pub itself : (v : Volume) → HasTheSame v v
itself v = record { extents = refl; area = λ b. refl; used = λ b. refl; in_use = λ n. refl; pages = λ b used. refl }

-- ---- one page

-- another page of a map is as it was
still_home : (m : Mount) (core : Core) (p q : ℕ) (bytes : List ℕ) → q ≢ p → IsMapHome (face_at m) core q bytes → IsMapHome (face_at m) (does (face_at m) core (Home p)) q bytes
still_home m core p q bytes ne h = record {
  is_map = h.is_map;
  dirty = subst (λ (x : Slot). IsSome x.block.dirty) (sym same) h.dirty;
  told = subst (λ (x : Slot). EndsBy core.told x.block.dirty) (sym same) h.told;
  bytes_are = h.bytes_are;
}
  where
    same : (does (face_at m) core (Home p)).slots q ≡ core.slots q
    same = put_other p q (home_slot (told_page core p) (core.slots p)) core.slots ne

still_all : (m : Mount) (core : Core) (p : ℕ) (ds : List DataPage) → is_put p ds ≡ false → AreMapHomes m core ds → AreMapHomes m (does (face_at m) core (Home p)) ds
still_all m core p [] none h = tt
still_all m core p (d ∷ ds) none h =
    let parts = or_parts (d.block == p) (is_put p ds) none in
    (still_home m core p d.block d.page.0 (λ e. true≢false (sym (eq-eqb d.block p e) ∙ parts.0)) h.0, still_all m core p ds parts.1 h.1)

-- the core has the page written home
core_then : (m : Mount) (x : Held) (p : ℕ) (bytes : List ℕ) (w : Volume) → is_map_page m.places p ≡ true → (next m x (Changes (Writes p bytes)) w).core ≡ does (face_at m) x.core (Home p)
core_then m x p bytes w is = ap (λ (b : Bool). after_steps (face_at m) x.core (if b then Home p ∷ [] else Write p bytes ∷ [])) is

clean_there : (m : Mount) (core : Core) (p : ℕ) → ((does (face_at m) core (Home p)).slots p).block.dirty ≡ None
clean_there m core p = ap (λ (x : Slot). x.block.dirty) (put_same p (home_slot (told_page core p) (core.slots p)) core.slots)

as_before : (m : Mount) (core : Core) (p q : ℕ) → q ≢ p → ((does (face_at m) core (Home p)).slots q).block.dirty ≡ (core.slots q).block.dirty
as_before m core p q ne = ap (λ (x : Slot). x.block.dirty) (put_other p q (home_slot (told_page core p) (core.slots p)) core.slots ne)

same_image : (m : Mount) (core : Core) (p : ℕ) → image (does (face_at m) core (Home p)) (count (does (face_at m) core (Home p))) ≡ image core (count core)
same_image m core p = refl

-- ---- one after the other

-- one page, and then the others
one_more : (m : Mount) (x : Held) (d : DataPage) (ds : List DataPage) → IsMapHome (face_at m) x.core d.block d.page.0 → is_put d.block ds ≡ false → Fits x.both (Changes (Writes d.block d.page.0))
    → (next m x (Changes (Writes d.block d.page.0)) x.volume).core ≡ does (face_at m) x.core (Home d.block) → GoesHomeAlong m (next m x (Changes (Writes d.block d.page.0)) x.volume) ds → GoesHomeAlong m x (d ∷ ds)
one_more m x d ds home once fits is more = record {
  may = (fits, inr (home, itself x.volume), more.may);
  image_is = more.image_is ∙ ap (λ (c : Core). image c (count c)) is ∙ same_image m x.core d.block;
  gone = λ q put. gone q (or_cases (d.block == q) (is_put q ds) put);
  others = λ q none. (let parts = or_parts (d.block == q) (is_put q ds) none in more.others q parts.1 ∙ ap (λ (c : Core). (c.slots q).block.dirty) is ∙ as_before m x.core d.block q (λ e. true≢false (sym (eq-eqb d.block q (sym e)) ∙ parts.0)));
}
  where
    last : Held
    last = after m (next m x (Changes (Writes d.block d.page.0)) x.volume) (leaving x.volume (homing ds))

    gone : (q : ℕ) → (d.block == q ≡ true) ⊎ (is_put q ds ≡ true) → (last.core.slots q).block.dirty ≡ None
    gone q (inr put) = more.gone q put
    gone q (inl e) = subst (λ (k : ℕ). (last.core.slots k).block.dirty ≡ None) (eqb-true d.block q e)
        (more.others d.block once ∙ ap (λ (k : Core). (k.slots d.block).block.dirty) is ∙ clean_there m x.core d.block)

pub homing_law : HomingLaw
homing_law m x [] held homes once fits = record { may = tt; image_is = refl; gone = λ q is. absurd (true≢false (sym is)); others = λ q is. refl }
homing_law m x (d ∷ ds) held homes once fits =
    let c : BothChange = Changes (Writes d.block d.page.0) in
    let is = core_then m x d.block d.page.0 x.volume homes.0.is_map in
    let more = homing_law m (next m x c x.volume) ds (one m x held c x.volume fits.0 (inr (homes.0, itself x.volume))) (subst (λ (k : Core). AreMapHomes m k ds) (sym is) (still_all m x.core d.block ds once.0 homes.1)) once.1 fits.1 in
    one_more m x d ds homes.0 once.0 fits.0 is more

-- ---- and the next one

-- a page that isn't among these waits as before
waits : (m : Mount) (x : Held) (ds : List DataPage) (d : DataPage) → AreMapHomes m x.core ds → EachOnce ds → is_put d.block ds ≡ false → IsMapHome (face_at m) x.core d.block d.page.0
    → IsMapHome (face_at m) (after m x (leaving x.volume (homing ds))).core d.block d.page.0
waits m x [] d homes once none home = home
waits m x (e ∷ es) d homes once none home =
    let parts = or_parts (e.block == d.block) (is_put d.block es) none in
    let is = core_then m x e.block e.page.0 x.volume homes.0.is_map in
    waits m (next m x (Changes (Writes e.block e.page.0)) x.volume) es d (subst (λ (k : Core). AreMapHomes m k es) (sym is) (still_all m x.core e.block es once.0 homes.1)) once.1 parts.1
    (subst (λ (k : Core). IsMapHome (face_at m) k d.block d.page.0) (sym is) (still_home m x.core e.block d.block d.page.0 (λ same. true≢false (sym (eq-eqb e.block d.block (sym same)) ∙ parts.0)) home))

-- changes that leave the volume lead to it
pub same_volume : (m : Mount) (x : Held) (v : Volume) (list : List BothChange) → x.volume ≡ v → (after m x (leaving v list)).volume ≡ v
same_volume m x v [] e = e
same_volume m x v (c ∷ cs) e = same_volume m (next m x c v) v cs refl

pub tear_law : TearLaw
tear_law m x ds d sectors fault held homes once fits home none = ([], inr (waits m x ds d homes once none home, subst (λ (v : Volume). HasTheSame v x.volume) (sym (same_volume m x x.volume (homing ds) refl)) (itself x.volume)))
