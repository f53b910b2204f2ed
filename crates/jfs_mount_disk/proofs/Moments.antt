-- What a crash leaves at each moment of a disk whose parts were joined again.
use Rattle.std.proofs.Common.{◌≡◌, ◌⊎◌, ◌<◌, ◌≤◌, ◌-◌, ◌+◌, ◌++◌, ℕ, List, [], length, map, get_or, take, inl, inr, refl, sym, subst, ◌∙◌, arith}
use Rattle.std.proofs.lemmas.Bool.{cases_lt}
use Rattle.std.proofs.lemmas.List.{length-map, length-set, get_or-map, get_or_append_left, get_or-append_right}
use Rattle.jfs_disk.specs.Image.{Image, page_of}
use Rattle.jfs_disk.specs.Crash.{DiskState, PageHistory, IsCrashImage, IsCrashPage, AllSince, TearsPage, history_of, last_of, no_page}
use Rattle.jfs_disk.specs.Cut.{joined}
use Rattle.jfs_disk.specs.Moment.{now_of}
use Rattle.jfs_disk.proofs.Cuts.{length-joined}
use Rattle.jfs_disk.proofs.Tearing.{torn-none}
use Rattle.jfs_mount_disk.proofs.Left.{crash_low}

-- ---- how many pages a state has

-- what was stable is one of the images that a crash may leave
abbrev stable_of : DiskState → Image
stable_of state = map (λ (page : PageHistory). page.stable) state

stable_left : (state : DiskState) → IsCrashImage state (stable_of state)
stable_left state = record {
  number = length-map state (λ (page : PageHistory). page.stable);
  each = λ n h.
      subst (λ (left : List ℕ). IsCrashPage (history_of state n) left) (sym (get_or-map (λ (page : PageHistory). page.stable) state n no_page [] h))
      (let page = history_of state n in record { base = 0; top = 0; sectors = 0; older = omega arith; there = omega arith; within = omega arith; content = sym (torn-none page.stable page.stable) });
}

-- so many pages, where each image that a crash since a moment leaves has them
has_pages : (P : Image → Type 0) (at : ℕ) (past : List DiskState) (t m : ℕ) → ((left : Image) → P left → length left ≡ at) → AllSince P past t → t ≤ m → m < length past → length (get_or past m []) ≡ at
has_pages P at past t m long all since there =
    let state = get_or past m [] in
    sym (stable_left state).number ∙ long (stable_of state) (all (stable_of state) (record { moment = m; since = since; reached = there; crash = stable_left state }))

-- a page that is torn is one of as many
pub torn_pages : (n at : ℕ) (bytes : List ℕ) (old left : Image) → length old ≡ at → TearsPage n bytes old left → length left ≡ at
torn_pages n at bytes old left size (sectors, few, is) = rw is (length-set old n _ ∙ size)

-- ---- the states of both parts

module _ (low high : List DiskState) where
  joined_low : (m : ℕ) → m < length low → get_or (joined low high) m [] ≡ get_or low m [] ++ get_or high 0 []
  joined_low m here =
      get_or_append_left (map (λ (state : DiskState). state ++ get_or high 0 []) low) (map (λ (state : DiskState). last_of low ++ state) high) [] m
      (omega (arith, here, length-map low (λ (state : DiskState). state ++ get_or high 0 [])))
      ∙ get_or-map (λ (state : DiskState). state ++ get_or high 0 []) low m [] [] here

  joined_high : (m : ℕ) → length low ≤ m → m < length low + length high → get_or (joined low high) m [] ≡ last_of low ++ get_or high (m - length low) []
  joined_high m past there =
      get_or-append_right (map (λ (state : DiskState). state ++ get_or high 0 []) low) (map (λ (state : DiskState). last_of low ++ state) high) (length low) m []
      (length-map low (λ (state : DiskState). state ++ get_or high 0 [])) past
      ∙ get_or-map (λ (state : DiskState). last_of low ++ state) high (m - length low) [] [] (omega (arith, past, there))

  -- What holds of the low part at each moment holds of the front of the disk.
  pub low_moments : (P : Image → Type 0) (at t : ℕ) → ((left : Image) → P left → length left ≡ at) → 0 < length low → t ≤ now_of low → AllSince P low t → AllSince (λ left. P (take at left)) (joined low high) t
  low_moments P at t long some since all left gone = by (cases_lt gone.moment (length low))
    where
      by : (gone.moment < length low) ⊎ (length low ≤ gone.moment) → P (take at left)
      by (inl here) =
          all (take at left) (record {
            moment = gone.moment;
            since = gone.since;
            reached = here;
            crash = crash_low (get_or low gone.moment []) (get_or high 0 []) left (subst (λ (state : DiskState). IsCrashImage state left) (joined_low gone.moment here) gone.crash) at
                (has_pages P at low t gone.moment long all gone.since here);
          })
      by (inr past) =
          all (take at left) (record {
            moment = now_of low;
            since = since;
            reached = omega (arith, some);
            crash = crash_low (last_of low) (get_or high (gone.moment - length low) []) left
                (subst (λ (state : DiskState). IsCrashImage state left) (joined_high gone.moment past (omega (arith, gone.reached, length-joined low high))) gone.crash) at
                (has_pages P at low t (now_of low) long all since (omega (arith, some)));
          })
