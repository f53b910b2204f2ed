-- What is acknowledged leaves the volume.
use Rattle.std.specs.Bool.{⊤}
use Rattle.std.proofs.Common.{◌≡◌, ◌⊎◌, ◌<◌, ◌≤◌, ◌==◌, ◌&&◌, nat_le, nat_lt, refl, sym, ap, ◌∙◌, ℕ, Bool, true, false, true≢false, if◌then◌else◌, List, [], ◌∷◌, length, map, inl, inr, arith}
use Rattle.std.specs.List.{AllByRecursion}
use Rattle.std.proofs.lemmas.Bool.{cases_Bool, cases_lt, and_parts, ltb-true, ne_eqb, or_from}
use Rattle.jfs_disk.specs.Image.{page_of}
use Rattle.jfs_volume_calls.specs.volume.specs.bmap.specs.States.{Blocks, BlockState, Free, Owned, Reserved, Busy, state_of, is_owned, is_owned_state, settled_state}
use Rattle.jfs_volume_calls.specs.volume.specs.bmap.proofs.States.{changed-at, changed-length}
use Rattle.jfs_volume_calls.specs.volume.specs.map_files.specs.imap.specs.Inodes.{Inodes}
use Rattle.jfs_volume_calls.specs.volume.specs.data_steps.specs.objects.specs.Image.{extent_place}
use Rattle.jfs_volume_calls.specs.volume.specs.data_steps.specs.objects.specs.Volume.{Volume}
use Rattle.jfs_volume_calls.specs.volume.specs.data_steps.specs.way.specs.Volume.{volume_of}
use Rattle.jfs_volume_calls.specs.volume.specs.Settles.{Settles, KeepsMap, SettlesTo, is_freed}
use Rattle.jfs_volume_calls.specs.halves.specs.Parts.{Parts}
use Rattle.jfs_volume_calls.specs.halves.specs.declared.freed.FreedPage.{FreedPage}
use Rattle.jfs_volume_calls.specs.Written.{KeepsPages}
use Rattle.jfs_joined_held.specs.held.specs.Changes.{HasTheSame}
use Rattle.jfs_joined_held.specs.Held.{blocks_at, volume_at}
use Rattle.jfs_commits_held.specs.Committed.{AreBusy}

-- ---- what stays

settled_owned : (n : ℕ) (s : BlockState) → is_owned_state (settled_state n s) ≡ is_owned_state s
settled_owned n Free = refl
settled_owned n Owned = refl
settled_owned n Reserved = refl
settled_owned n (Busy entry) = by (nat_le entry n)
  where
    by : (x : Bool) → is_owned_state (if x then Free else Busy entry) ≡ false
    by true = refl
    by false = refl

not_busy : (s : BlockState) (k : ℕ) → is_owned_state s ≡ true → s ≡ Busy k → ⊥
not_busy s k owned busy = true≢false (sym owned ∙ ap is_owned_state busy)

not_freed : (m : Blocks) (fs : List FreedPage) (q : ℕ) → AllByRecursion (λ (f : FreedPage). state_of m f.page ≡ Busy f.by_entry) fs → is_owned m q ≡ true → is_freed fs q ≡ false
not_freed m [] q all owned = refl
not_freed m (f ∷ fs) q all owned = or_from (f.page == q) (is_freed fs q) (ne_eqb f.page q (λ e. not_busy (state_of m q) f.by_entry owned (ap (state_of m) (sym e) ∙ all.0))) (not_freed m fs q all.1 owned)

module _ (area : ℕ → ℕ) (old new : Parts) (busy : AreBusy old) (settles : Settles old new) (keeps : KeepsPages ⊤ old new) where
  abbrev v : Volume
  v = volume_at area old

  pub size : blocks_at new ≡ blocks_at old
  size = by settles.map
    where
      by : KeepsMap old new ⊎ ((n : ℕ) × SettlesTo n old new) → blocks_at new ≡ blocks_at old
      by (inl same) = ap (λ (k : Blocks). length k.states) same.map
      by (inr (n, to)) = ap (λ (k : Blocks). length k.states) to.map ∙ changed-length (λ (b : ℕ) (s : BlockState). settled_state n s) old.map

  owned : (b : ℕ) → b < blocks_at old → is_owned new.map b ≡ is_owned old.map b
  owned b l = by settles.map
    where
      by : KeepsMap old new ⊎ ((n : ℕ) × SettlesTo n old new) → is_owned new.map b ≡ is_owned old.map b
      by (inl same) = ap (λ (k : Blocks). is_owned k b) same.map
      by (inr (n, to)) = ap (λ (k : Blocks). is_owned k b) to.map ∙ ap is_owned_state (changed-at (λ (c : ℕ) (s : BlockState). settled_state n s) old.map b l) ∙ settled_owned n (state_of old.map b)

  used : (b : ℕ) → (nat_lt b (blocks_at new) && is_owned new.map b) ≡ (nat_lt b (blocks_at old) && is_owned old.map b)
  used b = ap (λ (k : ℕ). nat_lt b k && is_owned new.map b) size ∙ by (cases_lt b (blocks_at old))
    where
      by : (b < blocks_at old) ⊎ (blocks_at old ≤ b) → (nat_lt b (blocks_at old) && is_owned new.map b) ≡ (nat_lt b (blocks_at old) && is_owned old.map b)
      by (inl l) = ap (λ (o : Bool). nat_lt b (blocks_at old) && o) (owned b l)
      by (inr past) = none (nat_lt b (blocks_at old)) (is_owned new.map b) (is_owned old.map b) (outside (cases_Bool (nat_lt b (blocks_at old))))
        where
          outside : (nat_lt b (blocks_at old) ≡ true) ⊎ (nat_lt b (blocks_at old) ≡ false) → nat_lt b (blocks_at old) ≡ false
          outside (inr e) = e
          outside (inl e) = absurd (let l = ltb-true b (blocks_at old) e in omega (arith, l, past))

          none : (z p q : Bool) → z ≡ false → (z && p) ≡ (z && q)
          none false p q e = refl
          none true p q e = absurd (true≢false e)

  pub same_now : HasTheSame v (volume_at area new)
  same_now = record {
    extents = ap (λ (i : Inodes). map extent_place i.extents) settles.inodes;
    area = λ b. refl;
    used = used;
    in_use = λ n. ap (λ (i : Inodes). (volume_of (page_of old.view) area old.map i).in_use n) settles.inodes;
    pages = λ b is. keeps.view tt b (not_freed old.map old.freed b busy (and_parts (nat_lt b (blocks_at old)) (is_owned old.map b) is).1);
  }
