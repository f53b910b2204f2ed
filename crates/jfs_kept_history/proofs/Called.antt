-- A call of a volume that is kept.
use Rattle.std.proofs.Common.{◌≡◌, ◌⊎◌, ◌≤◌, ◌<◌, ◌∷◌, [], ◌++◌, ℕ, zero, suc, List, length, map, take, refl, sym, ap, subst, ◌∙◌, append-nil, Option, inl, inr, arith}
use Rattle.std.proofs.lemmas.Bool.{cases_lt}
use Rattle.std.proofs.lemmas.List.{length-map, length-append, map-append, take_all}
use Rattle.jfs_super.specs.Rules.{blocks_of}
use Rattle.jfs_super.specs.Super.{super_of}
use Rattle.jfs_super.specs.declared.fields.Super.{Super}
use Rattle.jfs_records.specs.Records.{Noted}
use Rattle.jfs_legal.specs.History.{at, GoOn}
use Rattle.jfs_legal.proofs.Going.{call_law}
use Rattle.jfs_legal.specs.served.specs.call.specs.DoesLent.{Asking}
use Rattle.jfs_legal.specs.served.specs.call.specs.declared.outcome.Outcome.TheVariants.{Replied, NeedsLog, NoMemory}
use Rattle.jfs_legal.specs.served.specs.halves.specs.Entry.{Happened}
use Rattle.jfs_legal.specs.served.specs.halves.specs.Parts.{Parts}
use Rattle.jfs_legal.specs.served.specs.plain.specs.declared.reply.Reply.{Reply}
use Rattle.jfs_legal.specs.served.specs.volume.specs.Join.{entry_with}
use Rattle.jfs_legal.specs.served.specs.shown.specs.meaning.specs.Consistent.{IsConsistent}
use Rattle.jfs_legal.specs.served.specs.shown.specs.meaning.specs.Image as meaning
use Rattle.jfs_legal.specs.served.specs.shown.specs.objects.specs.Readers.{Readers}
use Rattle.jfs_legal.specs.served.specs.shown.specs.objects.specs.Volume.{Volume}
use Rattle.jfs_legal.specs.served.specs.shown.specs.kinds.specs.Images.{IsSameVolume}
use Rattle.jfs_legal.specs.served.specs.shown.specs.meaning.specs.Readers.{readers}
use Rattle.jfs_legal.specs.served.specs.Holds.{volume_at}
use Rattle.jfs_legal.specs.served.specs.Legal.{Timed}
use Rattle.jfs_calls_kept.specs.Calls.{Joins}
use Rattle.jfs_calls_kept.proofs.Does.{does_law}
use Rattle.jfs_calls_kept.specs.entries_kept.proofs.Newest.{newest_law}
use Rattle.jfs_mounted_maps.specs.mounted_held.specs.mounted_places.specs.Mounted.{mount_of}
use Rattle.jfs_mounted_maps.specs.mounted_held.specs.mounted_places.specs.held.specs.survival.specs.recovery.specs.Face.{Pages}
use Rattle.jfs_kept_history.specs.Kept.{Lasting, lasting, noted_of, timed_in, Reaches, IsKeptSince}
use Rattle.jfs_kept_history.specs.Laws.{CallLaw}
use Rattle.jfs_kept_history.proofs.Same.{as_many, few, stepped}

-- a front of a list with one more
front_of : {X : Type 0} (xs : List X) (x : X) (n : ℕ) → n ≤ length xs → take n (xs ++ x ∷ []) ≡ take n xs
front_of xs x zero within = refl
front_of [] x (suc n) within = absurd (let none : ⊥ = omega (arith, within) in none)
front_of (y ∷ ys) x (suc n) within = ap (λ (l : List _). y ∷ l) (front_of ys x n (omega (arith, within)))

module _ (s : Super) (page : ℕ → List ℕ) (start : Parts) (list : List Lasting) (points : List ℕ) (a : Asking) (old new : Parts) (k : IsKeptSince s page start list points old) (reply : Reply) (noted : Option (List Noted)) where
  abbrev entry : Timed
  entry = at a.now (entry_with a.caller.client a.caller.line a.request reply)

  abbrev more : Lasting
  more = record { timed = entry; noted = noted }

  timed_more : timed_in (list ++ more ∷ []) ≡ timed_in list ++ entry ∷ []
  timed_more = map-append (λ (e : Lasting). e.timed) list (more ∷ [])

  many : length (timed_in list) ≡ length list
  many = length-map list (λ (e : Lasting). e.timed)

  module _ (goes : GoOn (meaning.volume_of s page).area s.logpxd.len start (timed_in list ++ entry ∷ []) new) (j : Joins (mount_of s k.low) (meaning.volume_of s page).area a.caller a.request a.now reply noted new k.keeper) where
    lasts : lasting j.h ≡ more
    lasts = ap (λ e. record { timed = record { entry = e; now = j.h.now }; noted = noted_of j.h }) j.entry_is
        ∙ ap (λ now. record { timed = at now (entry_with a.caller.client a.caller.line a.request reply); noted = noted_of j.h }) j.now_is
        ∙ ap (λ (logged : Option (List Noted)). record { timed = entry; noted = logged }) j.logged_is

    history : map lasting j.steps.keeper.both.volume.history ≡ list ++ more ∷ []
    history = ap (λ (hs : List Happened). map lasting hs) j.steps.grows.history
        ∙ map-append lasting k.keeper.both.volume.history (j.h ∷ [])
        ∙ ap (λ (l : List Lasting). l ++ lasting j.h ∷ []) k.history
        ∙ ap (λ (e : Lasting). list ++ e ∷ []) lasts

    number : length j.steps.keeper.both.volume.history ≡ suc (length list)
    number = ap (λ (hs : List Happened). length hs) j.steps.grows.history ∙ length-append k.keeper.both.volume.history (j.h ∷ []) ∙ (let n = as_many s page start list points old k in omega (arith, n))

    before : (n : ℕ) → n ≤ length list → Reaches s page start (take n (timed_in (list ++ more ∷ []))) (j.steps.keeper.volumes n)
    before n within = subst (λ (es : List Timed). Reaches s page start es (j.steps.keeper.volumes n))
        (sym (ap (λ (es : List Timed). take n es) timed_more ∙ front_of (timed_in list) entry n (omega (arith, within, many))))
        (subst (λ (v : Volume). Reaches s page start (take n (timed_in list)) v) (sym (j.steps.grows.volumes n (few s page start list points old k n within))) (k.reached n within))

    last : Reaches s page start (take (suc (length list)) (timed_in (list ++ more ∷ []))) (j.steps.keeper.volumes (suc (length list)))
    last = subst (λ (es : List Timed). Reaches s page start es (j.steps.keeper.volumes (suc (length list))))
        (sym (ap (λ (es : List Timed). take (suc (length list)) es) timed_more ∙ take_all (suc (length list)) (timed_in list ++ entry ∷ []) (let n = length-append (timed_in list) (entry ∷ []) in omega (arith, n, many))))
        (record {
          last = new;
          legal = goes.legal;
          blocks = sym j.steps.kept.rests.held.blocks;
          same = subst (λ (n : ℕ). IsSame n) number (newest_law (mount_of s k.low) (meaning.volume_of s page).area new j.steps.keeper j.steps.kept.rests);
          consistent = subst (λ (r : Readers). IsConsistent r (volume_at (meaning.volume_of s page).area new)) j.steps.kept.rests.held.readers_are goes.serves.holds.consistent;
        })
      where
        IsSame : ℕ → Type 0
        IsSame n = IsSameVolume (readers (blocks_of s)) (j.steps.keeper.volumes n) (volume_at (meaning.volume_of s page).area new)

    joined : IsKeptSince s page start (list ++ more ∷ []) points new
    joined = record {
      low = k.low;
      keeper = j.steps.keeper;
      superblock = ap (λ (image : Pages). super_of (image 8)) j.steps.grows.mounted ∙ k.superblock;
      kept = j.steps.kept;
      history = history;
      points_are = j.steps.grows.points_are ∙ append-nil k.keeper.both.volume.points ∙ k.points_are;
      reached = λ n within. by n within (cases_lt (length list) n);
    }
      where
        by : (n : ℕ) → n ≤ length (list ++ more ∷ []) → (length list < n) ⊎ (n ≤ length list) → Reaches s page start (take n (timed_in (list ++ more ∷ []))) (j.steps.keeper.volumes n)
        by n within (inr below) = before n below
        by n within (inl past) = subst (λ (i : ℕ). Reaches s page start (take i (timed_in (list ++ more ∷ []))) (j.steps.keeper.volumes i))
            (let e : suc (length list) ≡ n = omega (arith, past, within, length-append list (more ∷ [])) in e) last

pub kept_call : (tells crashes : Type 0) → CallLaw tells crashes
kept_call tells crashes t c s page start list points a old new (Replied reply number waits) k goes fits low d =
    joined s page start list points a old new k reply _ (call_law tells crashes t (meaning.volume_of s page).area s.logpxd.len start (timed_in list) a old new (Replied reply number waits) goes d)
    (does_law tells crashes t c (mount_of s k.low) (meaning.volume_of s page).area s.logpxd.len a.caller a.request a.now old new (Replied reply number waits) k.keeper k.kept goes.serves fits low d)
kept_call tells crashes t c s page start list points a old new NeedsLog k goes fits low d =
    stepped s page start list points old k new (does_law tells crashes t c (mount_of s k.low) (meaning.volume_of s page).area s.logpxd.len a.caller a.request a.now old new NeedsLog k.keeper k.kept goes.serves fits low d)
kept_call tells crashes t c s page start list points a old new NoMemory k goes fits low d =
    stepped s page start list points old k new (does_law tells crashes t c (mount_of s k.low) (meaning.volume_of s page).area s.logpxd.len a.caller a.request a.now old new NoMemory k.keeper k.kept goes.serves fits low d)
