-- Lists of changes that are steps of the core.
use Rattle.std.proofs.Common.{◌≡◌, ◌≢◌, ◌⊎◌, ◌==◌, ℕ, true, false, List, [], ◌∷◌, ◌++◌, Option, None, IsSome, refl, sym, ap, ◌∙◌, subst, append_assoc, inl, inr}
use Rattle.std.proofs.lemmas.Bool.{cases_eq, eq-eqb, ne_eqb, or_parts}
use Rattle.jfs_face.specs.recovery.specs.crash_core.specs.declared.block.Span.{Span}
use Rattle.jfs_face.specs.recovery.specs.crash_core.specs.Step.{EndsBy, BeginsPast}
use Rattle.jfs_logged.specs.halves.specs.Half.{Halves, is_open}
use Rattle.jfs_logged.specs.halves.specs.Change.{Enters, Takes, Tells, HandsOut, GoesHome, Tears, Drops, Writes, WriteTears, Stops, LogStops, Syncs, Points, Knows}
use Rattle.jfs_logged.specs.halves.specs.Both.{BothChange, Changes, GroupIsWritten, GroupFails, changed, after}
use Rattle.jfs_face.specs.recovery.specs.Face.{Face}
use Rattle.jfs_face.specs.recovery.specs.Core.{Core, Slot, Step, count, told_page, home_slot, does, after_steps}
use Rattle.jfs_face.specs.recovery.specs.Core.Step.{Take, GroupWrite, Told, Home, LowSync}
use Rattle.jfs_face.specs.Volume.{face_of}
use Rattle.jfs_survival.specs.Played.{IsMapHome, MapsAreSynced, step_if, IsPlayed, ArePlayed}
use Rattle.jfs_survival.specs.Lists.{IsPlain, ArePlain, PlainLaw, is_among, AreMapsHome, AllMapsHome, MapsSettle, MapsLaw, TogetherLaw}
use Rattle.jfs_survival.proofs.Blocks.{never}
use Rattle.jfs_survival.proofs.Changes.{put_same, put_other}
use Rattle.jfs_survival.proofs.Runs.{after-join, run_law}

-- ---- plain changes

abbrev plain_steps : Halves → BothChange → List Step
plain_steps both (Changes Takes) = step_if (is_open (changed both (Changes Takes))) Take
plain_steps both (Changes (Tells n)) = Told ∷ []
plain_steps both (Changes Syncs) = LowSync ∷ []
plain_steps both GroupIsWritten = GroupWrite ∷ []
plain_steps both _ = []

plays : (f : Face) (both : Halves) (core : Core) (c : BothChange) → IsPlain c → IsPlayed f both core c (plain_steps both c)
plays f both core (Changes (Enters h)) p = absurd p
plays f both core (Changes Takes) p = refl
plays f both core (Changes (Tells n)) p = refl
plays f both core (Changes HandsOut) p = refl
plays f both core (Changes (GoesHome q)) p = absurd p
plays f both core (Changes (Tears q sectors fault)) p = absurd p
plays f both core (Changes (Drops q)) p = refl
plays f both core (Changes (Writes q bytes)) p = absurd p
plays f both core (Changes (WriteTears q bytes sectors fault)) p = absurd p
plays f both core (Changes (Stops fault)) p = refl
plays f both core (Changes (LogStops fault)) p = refl
plays f both core (Changes Syncs) p = refl
plays f both core (Changes Points) p = absurd p
plays f both core (Changes Knows) p = refl
plays f both core GroupIsWritten p = refl
plays f both core (GroupFails fault) p = refl

plain : (f : Face) (both : Halves) (core : Core) (list : List BothChange) → ArePlain list → (steps : List Step) × ArePlayed f both core list steps
plain f both core [] p = ([], refl)
plain f both core (c ∷ cs) p =
    let own = plain_steps both c in
    let rest = plain f (changed both c) (after_steps f core own) cs p.1 in
    (own ++ rest.0, (own, rest.0, refl, plays f both core c p.0, rest.1))

pub plain_law : PlainLaw
plain_law r pl changes both core list areas is fit p =
    let played = plain (face_of r pl changes) both core list p in
    (played.0, played.1, run_law r pl changes both core list played.0 areas is fit played.1)

-- ---- pages of the maps

-- another page of a map is as it was
still_home : (f : Face) (core : Core) (p q : ℕ) (bytes : List ℕ) → q ≢ p → IsMapHome f core q bytes → IsMapHome f (does f core (Home p)) q bytes
still_home f core p q bytes ne h = record {
  is_map = h.is_map;
  dirty = subst (λ (x : Slot). IsSome x.block.dirty) (sym same) h.dirty;
  told = subst (λ (x : Slot). EndsBy core.told x.block.dirty) (sym same) h.told;
  bytes_are = h.bytes_are;
}
  where
    same : (does f core (Home p)).slots q ≡ core.slots q
    same = put_other p q (home_slot (told_page core p) (core.slots p)) core.slots ne

still_all : (f : Face) (core : Core) (p : ℕ) (ds : List (ℕ × List ℕ)) → is_among p ds ≡ false → AreMapsHome f core ds → AreMapsHome f (does f core (Home p)) ds
still_all f core p [] none h = tt
still_all f core p (d ∷ ds) none h =
    let parts = or_parts (d.0 == p) (is_among p ds) none in
    (still_home f core p d.0 d.1 (λ e. never (d.0 == p) (eq-eqb d.0 p e) parts.0) h.0, still_all f core p ds parts.1 h.1)

synced_now : (f : Face) (core : Core) → ((p : ℕ) → f.is_map p ≡ true → (core.slots p).block.dirty ≡ None) → MapsAreSynced f (does f core LowSync)
synced_now f core clean p this = (subst (λ (d : Option Span). BeginsPast (count core) d) (sym (clean p this)) tt, tt)

pub settle : (f : Face) (both : Halves) (core : Core) (ds : List (ℕ × List ℕ)) → AllMapsHome f core ds → MapsSettle f both core ds
settle f both core [] all = record { steps = LowSync ∷ []; played = (LowSync ∷ [], [], refl, refl, refl); synced = synced_now f core (λ p this. all.others p this refl) }
settle f both core (d ∷ ds) all =
    let later = settle f (changed both (Changes (Writes d.0 d.1))) (does f core (Home d.0)) ds (record {
      each = still_all f core d.0 ds all.once.0 all.each.1;
      once = all.once.1;
      others = λ p this none. others p this none (cases_eq p d.0);
    }) in
    record { steps = Home d.0 ∷ later.steps; played = (Home d.0 ∷ [], later.steps, refl, inr (all.each.0, refl), later.played); synced = later.synced }
  where
    others : (p : ℕ) → f.is_map p ≡ true → is_among p ds ≡ false → (p ≡ d.0) ⊎ (p ≡ d.0 → ⊥) → ((does f core (Home d.0)).slots p).block.dirty ≡ None
    others p this none (inl e) = subst (λ (q : ℕ). ((does f core (Home d.0)).slots q).block.dirty ≡ None) (sym e) (ap (λ (x : Slot). x.block.dirty) (put_same d.0 (home_slot (told_page core d.0) (core.slots d.0)) core.slots))
    others p this none (inr ne) = ap (λ (x : Slot). x.block.dirty) (put_other d.0 p (home_slot (told_page core d.0) (core.slots d.0)) core.slots ne)
        ∙ all.others p this (rw (ne_eqb d.0 p (λ e. ne (sym e))) none)

pub maps_law : MapsLaw
maps_law r pl changes both core ds all = settle (face_of r pl changes) both core ds all

-- ---- lists

join : (f : Face) (both : Halves) (core : Core) (xs ys : List BothChange) (steps more : List Step) → ArePlayed f both core xs steps → ArePlayed f (after both xs) (after_steps f core steps) ys more → ArePlayed f both core (xs ++ ys) (steps ++ more)
join f both core [] ys steps more e b = subst (λ (x : List Step). ArePlayed f both core ys (x ++ more)) (sym e) (subst (λ (x : List Step). ArePlayed f both (after_steps f core x) ys more) e b)
join f both core (c ∷ cs) ys steps more (own, rest, e, p, others) b = (
  own,
  rest ++ more,
  ap (λ (x : List Step). x ++ more) e ∙ append_assoc own rest more,
  p,
  join f (changed both c) (after_steps f core own) cs ys rest more others (subst (λ (x : Core). ArePlayed f (after (changed both c) cs) x ys more) (ap (after_steps f core) e ∙ after-join f core own rest) b),
)

pub together_law : TogetherLaw
together_law r pl changes both core xs ys steps more a b = join (face_of r pl changes) both core xs ys steps more a b
