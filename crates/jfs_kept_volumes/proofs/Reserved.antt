-- Blocks that are reserved, or given back.
use Rattle.std.proofs.Common.{◌≡◌, ◌⊎◌, ◌&&◌, nat_lt, ℕ, Bool, false, true≢false, List, length, refl, sym, ap, ◌∙◌, subst, inl, inr, arith}
use Rattle.jfs_commits_held.specs.volume_calls.specs.volume.specs.bmap.specs.States.{Blocks, BlockState, Free, Owned, Reserved, Busy, state_of, is_owned, is_owned_state}
use Rattle.jfs_commits_held.specs.volume_calls.specs.halves.specs.Parts.{Parts}
use Rattle.jfs_commits_held.specs.volume_calls.specs.volume.specs.data_steps.specs.meaning.specs.Readers.{readers}
use Rattle.jfs_commits_held.specs.joined_held.specs.held.specs.Held.{Mount, IsHeld}
use Rattle.jfs_commits_held.specs.joined_held.specs.held.specs.Changes.{HasTheSame}
use Rattle.jfs_commits_held.specs.joined_held.specs.held.proofs.Kept.{replaced}
use Rattle.jfs_commits_held.specs.joined_held.specs.Held.{blocks_at, volume_at}
use Rattle.jfs_kept_volumes.specs.Keeper.{Keeper, held_by}
use Rattle.jfs_kept_volumes.specs.Kept.{IsHeldAtRest}
use Rattle.jfs_kept_volumes.specs.Rest.{IsAtRest}
use Rattle.jfs_kept_volumes.proofs.Maps.{of_volume, of_shown}
use Rattle.jfs_kept_volumes.specs.Reserved.{IsSpare, SameButReserved, shown_with, ReservedLaw}

not_owned : (s : BlockState) → IsSpare s → is_owned_state s ≡ false
not_owned s (inl e) = ap is_owned_state e
not_owned s (inr e) = ap is_owned_state e

no_owner : {A : Type 0} (s : BlockState) → IsSpare s → s ≡ Owned → A
no_owner s spare e = absurd (true≢false (sym (ap is_owned_state e) ∙ not_owned s spare))

no_entry : {A : Type 0} (s : BlockState) (k : ℕ) → IsSpare s → s ≡ Busy k → A
no_entry s k (inl e) b = absurd (let z : Free ≡ Busy k = sym e ∙ b in cc)
no_entry s k (inr e) b = absurd (let z : Reserved ≡ Busy k = sym e ∙ b in cc)

module _ (m : Mount) (area : ℕ → ℕ) (old : Parts) (map : Blocks) (x : Keeper) (is : IsHeldAtRest m area old x) (same : SameButReserved old.map map) where
  abbrev y : Keeper
  y = shown_with map x

  abbrev new : Parts
  new = record old { map = map }

  shown : (b : ℕ) → state_of x.both.volume.shown.map b ≡ state_of old.map b
  shown b = ap (λ (ss : List BlockState). state_of (record old.map { states = ss }) b) (sym is.stands.block_map.states)

  states_size : length x.both.volume.shown.map.states ≡ length map.states
  states_size = ap (λ (ss : List BlockState). length ss) (sym is.stands.block_map.states) ∙ sym same.size

  owned_then : (b : ℕ) → state_of old.map b ≡ Owned → state_of map b ≡ Owned
  owned_then b e = by (same.each b)
    where
      by : (state_of map b ≡ state_of old.map b) ⊎ (IsSpare (state_of old.map b) × IsSpare (state_of map b)) → state_of map b ≡ Owned
      by (inl s) = s ∙ e
      by (inr spare) = no_owner (state_of old.map b) spare.0 e

  busy_then : (b k : ℕ) → state_of old.map b ≡ Busy k → state_of map b ≡ Busy k
  busy_then b k e = by (same.each b)
    where
      by : (state_of map b ≡ state_of old.map b) ⊎ (IsSpare (state_of old.map b) × IsSpare (state_of map b)) → state_of map b ≡ Busy k
      by (inl s) = s ∙ e
      by (inr spare) = no_entry (state_of old.map b) k spare.0 e

  is_owned_then : (b : ℕ) → is_owned map b ≡ is_owned old.map b
  is_owned_then b = by (same.each b)
    where
      by : (state_of map b ≡ state_of old.map b) ⊎ (IsSpare (state_of old.map b) × IsSpare (state_of map b)) → is_owned map b ≡ is_owned old.map b
      by (inl s) = ap is_owned_state s
      by (inr spare) = not_owned (state_of map b) spare.1 ∙ sym (not_owned (state_of old.map b) spare.0)

  same_now : HasTheSame (volume_at area old) (volume_at area new)
  same_now = record {
    extents = refl;
    area = λ b. refl;
    used = λ b. ap (λ (n : ℕ). nat_lt b n && is_owned map b) same.size ∙ ap (λ (o : Bool). nat_lt b (blocks_at old) && o) (is_owned_then b);
    in_use = λ n. refl;
    pages = λ b used. refl;
  }

  held_then : IsHeld m (held_by y (volume_at area old))
  held_then =
      let h = is.held.held in
      record {
        fits = h.fits;
        core_is = record {
          sound = h.core_is.sound;
          history = h.core_is.history;
          taken = h.core_is.taken;
          durable = h.core_is.durable;
          told = h.core_is.told;
          grouped = h.core_is.grouped;
          syncpoints = h.core_is.syncpoints;
          points_taken = h.core_is.points_taken;
          points_stable = h.core_is.points_stable;
          number = h.core_is.number;
          each = h.core_is.each;
          past = h.core_is.past;
        };
        states = record {
          owned = λ b some. owned_then b (sym (shown b) ∙ h.states.owned b some);
          busy = λ b z. (let was = h.states.busy b z in (was.0, was.1, busy_then b was.0 (sym (shown b) ∙ was.2)));
        };
        images = h.images;
        now = h.now;
        mapped = λ b some. (let there = h.mapped b some in let size = states_size in omega (arith, there, size));
        maps_within = h.maps_within;
      }

  pub reserved : IsHeldAtRest m area new y
  reserved = record {
    held = record {
      held = replaced m (held_by y (volume_at area old)) (volume_at area new) held_then same_now;
      readers_are = ap readers same.size ∙ is.held.readers_are;
      blocks = is.held.blocks ∙ sym same.size;
      extents = is.held.extents;
      within = (let low = is.held.within in let a = same.size in omega (arith, low, a));
    };
    stands = record {
      appended = is.stands.appended;
      taken = is.stands.taken;
      told = is.stands.told;
      points = is.stands.points;
      known = is.stands.known;
      number = is.stands.number;
      halted = is.stands.halted;
      dirty = is.stands.dirty;
      block_map = record { states = refl; agsize = refl };
      inodes = is.stands.inodes;
      handed = is.stands.handed;
      entries = is.stands.entries;
      text = is.stands.text;
      freed = is.stands.freed;
      view = is.stands.view;
      disk = is.stands.disk;
      low = is.stands.low;
    };
    rest = subst (λ (n : ℕ). IsAtRest n y.both) (sym same.size) (record {
      none = record { durable = is.rest.none.durable; points = is.rest.none.points; stable = is.rest.none.stable; group = is.rest.none.group };
      runs = is.rest.runs;
      events = (let e = is.rest.events in (
        e.0,
        e.1,
        e.2,
        record {
          begins = e.3.begins;
          history = e.3.history;
          quiet = e.3.quiet;
          points = e.3.points;
          items = e.3.items;
          group = e.3.group;
          waits = e.3.waits;
          durable = e.3.durable;
          taken = e.3.taken;
          points_stable = e.3.points_stable;
          points_taken = e.3.points_taken;
        },
      ));
      size = is.rest.size;
      some = is.rest.some;
      most = is.rest.most;
      fit = is.rest.fit;
      waits = is.rest.waits;
      half = is.rest.half;
      place = is.rest.place;
    });
    maps = of_volume m (held_by y (volume_at area old)) (volume_at area new) y.volumes (of_shown m x (volume_at area old) map is.maps);
  }

pub reserved_law : ReservedLaw
reserved_law m area old map x is same = reserved m area old map x is same
