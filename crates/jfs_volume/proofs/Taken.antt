-- What a transaction takes and frees: by its runs, and by each block.
use Rattle.std.proofs.Common.{◌≡◌, ◌<◌, ◌≤◌, ◌⊎◌, ◌+◌, ◌-◌, ◌*◌, ◌&&◌, ◌||◌, ℕ, Bool, true, false, not, nat_le, nat_lt, if◌then◌else◌, List, [], ◌∷◌, ◌++◌, length, drop, get_or, Some, None, slice_get, refl, sym, ap, ◌∙◌, inl, inr, arith}
use Rattle.std.specs.List.{AllByRecursion}
use Rattle.std.proofs.lemmas.Bool.{cases_Bool, cases_lt, lt-ltb, le-ltb, leb-true, or_right, eq-eqb}
use Rattle.std.proofs.lemmas.List.{get_or_past, ext_get_or, length-append, drop_more}
use Rattle.jfs_bits.specs.declared.descriptor.Pxd.{Pxd}
use Rattle.jfs_bits.specs.Bits.{is_in_run}
use Rattle.jfs_ranges.specs.declared.edit.Edit.{Edit}
use Rattle.jfs_ranges.specs.declared.edit.Edit.TheVariants.{Lines, NoRedo, Alloc, Free as FreeRun}
use Rattle.jfs_ranges.specs.Apply.{touches_edit, touches_tx}
use Rattle.jfs_bmap.specs.States.{Blocks, BlockState, Free, Owned, Reserved, state_of, is_in_list, put_state, released, released_state, AreReserved}
use Rattle.jfs_bmap.proofs.States.{changed-at, changed-length}
use Rattle.jfs_records.specs.Marks.{has_block, mark_of, is_new_extent}
use Rattle.jfs_records.specs.Redo.{is_noredo}
use Rattle.jfs_records.specs.Sizes.{edit_bytes, bytes_of}
use Rattle.jfs_halves.specs.declared.freed.FreedPage.{FreedPage}
use Rattle.jfs_halves.specs.Marks.{is_taking, is_freeing, takes, frees, entered_state, map_after, frees_page}
use Rattle.jfs_halves.specs.Change.{SameStates}
use Rattle.jfs_volume.specs.Runs.{taken_by, taken_in, freed_by, freed_in, page_freed, pages_freed}

-- ---- blocks

in_run : (run : Pxd) (b : ℕ) → has_block run b ≡ is_in_run run.addr run.len b
in_run run b = by (cases_Bool (nat_le run.addr b))
  where
    by : (nat_le run.addr b ≡ true) ⊎ (nat_le run.addr b ≡ false) → (nat_le run.addr b && nat_lt (b - run.addr) run.len) ≡ (nat_le run.addr b && nat_lt b (run.addr + run.len))
    by (inr e) = rw e refl
    by (inl e) = rw e (side (cases_lt (b - run.addr) run.len))
      where
        low : run.addr ≤ b
        low = leb-true run.addr b e

        side : (b - run.addr < run.len) ⊎ (run.len ≤ b - run.addr) → nat_lt (b - run.addr) run.len ≡ nat_lt b (run.addr + run.len)
        side (inl h) = lt-ltb (b - run.addr) run.len h ∙ sym (lt-ltb b (run.addr + run.len) (omega (arith, h, low)))
        side (inr h) = le-ltb (b - run.addr) run.len h ∙ sym (le-ltb b (run.addr + run.len) (omega (arith, h, low)))

pub in_list-append : (xs ys : List Pxd) (b : ℕ) → is_in_list (xs ++ ys) b ≡ (is_in_list xs b || is_in_list ys b)
unfolding is_in_list
in_list-append [] ys b = refl
in_list-append (x ∷ xs) ys b = rw (in_list-append xs ys b) (assoc (is_in_run x.addr x.len b) (is_in_list xs b) (is_in_list ys b))
  where
    assoc : (p q r : Bool) → (p || (q || r)) ≡ ((p || q) || r)
    assoc true q r = refl
    assoc false q r = refl

or-false : (b : Bool) → (b || false) ≡ b
or-false true = refl
or-false false = refl

taking_one : (b : ℕ) (e : Edit) → is_taking (mark_of b e) ≡ is_in_list (taken_by e) b
unfolding is_in_list
taking_one b (Lines page kind first bytes) = by (is_new_extent kind bytes)
  where
    run : Pxd
    run = record { len = 4; addr = page }

    by : (new : Bool) → is_taking (if new && has_block run b then Some true else None) ≡ is_in_list (if new then run ∷ [] else []) b
    by false = refl
    by true = taken (has_block run b) ∙ in_run run b ∙ sym (or-false (is_in_run run.addr run.len b))
      where
        taken : (h : Bool) → is_taking (if h then Some true else None) ≡ h
        taken true = refl
        taken false = refl
taking_one b (NoRedo page) = refl
taking_one b (Alloc run) = taken (has_block run b) ∙ in_run run b ∙ sym (or-false (is_in_run run.addr run.len b))
  where
    taken : (h : Bool) → is_taking (if h then Some true else None) ≡ h
    taken true = refl
    taken false = refl
taking_one b (FreeRun run) = never (has_block run b)
  where
    never : (h : Bool) → is_taking (if h then Some false else None) ≡ false
    never true = refl
    never false = refl

freeing_one : (b : ℕ) (e : Edit) → is_freeing (mark_of b e) ≡ is_in_list (freed_by e) b
unfolding is_in_list
freeing_one b (Lines page kind first bytes) = never (is_new_extent kind bytes && has_block (record { len = 4; addr = page }) b)
  where
    never : (h : Bool) → is_freeing (if h then Some true else None) ≡ false
    never true = refl
    never false = refl
freeing_one b (NoRedo page) = refl
freeing_one b (Alloc run) = never (has_block run b)
  where
    never : (h : Bool) → is_freeing (if h then Some true else None) ≡ false
    never true = refl
    never false = refl
freeing_one b (FreeRun run) = freed (has_block run b) ∙ in_run run b ∙ sym (or-false (is_in_run run.addr run.len b))
  where
    freed : (h : Bool) → is_freeing (if h then Some false else None) ≡ h
    freed true = refl
    freed false = refl

pub takes_runs : (b : ℕ) (tx : List Edit) → takes b tx ≡ is_in_list (taken_in tx) b
unfolding is_in_list
takes_runs b [] = refl
takes_runs b (e ∷ es) = rw (taking_one b e, takes_runs b es) (sym (in_list-append (taken_by e) (taken_in es) b))

pub frees_runs : (b : ℕ) (tx : List Edit) → frees b tx ≡ is_in_list (freed_in tx) b
unfolding is_in_list
frees_runs b [] = refl
frees_runs b (e ∷ es) = rw (freeing_one b e, frees_runs b es) (sym (in_list-append (freed_by e) (freed_in es) b))

-- ---- the map

-- a reserved block is there
reserved_there : (m : Blocks) (b : ℕ) → state_of m b ≡ Reserved → b < length m.states
reserved_there m b e = at (cases_lt b (length m.states))
  where
    at : (b < length m.states) ⊎ (length m.states ≤ b) → b < length m.states
    at (inl h) = h
    at (inr h) = let past : Owned ≡ Reserved = sym (get_or_past m.states b Owned h) ∙ e in absurd (cc)

-- where what a transaction takes is reserved, it is free before
pub taken_free : (m : Blocks) (tx : List Edit) (b : ℕ) → AreReserved m (taken_in tx) → takes b tx ≡ true → state_of (put_state Free (taken_in tx) m) b ≡ Free
taken_free m tx b reserved t =
    let in_list : is_in_list (taken_in tx) b ≡ true = sym (takes_runs b tx) ∙ t in
    changed-at (λ (c : ℕ) (s : BlockState). if is_in_list (taken_in tx) c then Free else s) m b (reserved_there m b (reserved.reserved b in_list)) ∙ rw in_list refl

-- the map as the code makes it
abbrev map_made : ℕ → List Edit → Blocks → Blocks
map_made n tx m = released (freed_in tx) n (put_state Owned (taken_in tx) m)

pub runs_length : (freed taken : List Pxd) (n : ℕ) (m : Blocks) → length (released freed n (put_state Owned taken m)).states ≡ length m.states
runs_length freed taken n m =
    changed-length (λ (b : ℕ) (s : BlockState). if is_in_list freed b then released_state n s else s) (put_state Owned taken m)
    ∙ changed-length (λ (b : ℕ) (s : BlockState). if is_in_list taken b then Owned else s) m

made_length : (n : ℕ) (tx : List Edit) (m : Blocks) → length (map_made n tx m).states ≡ length m.states
made_length n tx m = runs_length (freed_in tx) (taken_in tx) n m

pub after_length : (n : ℕ) (tx : List Edit) (m : Blocks) → length (map_after n tx (put_state Free (taken_in tx) m)).states ≡ length m.states
after_length n tx m =
    changed-length (λ (b : ℕ) (s : BlockState). entered_state n tx b s) (put_state Free (taken_in tx) m)
    ∙ changed-length (λ (b : ℕ) (s : BlockState). if is_in_list (taken_in tx) b then Free else s) m

pub map_made_is : (n : ℕ) (tx : List Edit) (m : Blocks) → SameStates (map_made n tx m) (map_after n tx (put_state Free (taken_in tx) m))
map_made_is n tx m = record {
  states = ext_get_or Owned (map_made n tx m).states (map_after n tx (put_state Free (taken_in tx) m)).states (made_length n tx m ∙ sym (after_length n tx m))
      (λ b h. at b (omega (arith, h, made_length n tx m)) (cases_Bool (is_in_list (taken_in tx) b)));
  agsize = refl;
}
  where
    own : ℕ → BlockState → BlockState
    own b s = if is_in_list (taken_in tx) b then Owned else s

    free : ℕ → BlockState → BlockState
    free b s = if is_in_list (taken_in tx) b then Free else s

    release : ℕ → BlockState → BlockState
    release b s = if is_in_list (freed_in tx) b then released_state n s else s

    left : (b : ℕ) → b < length m.states → state_of (map_made n tx m) b ≡ release b (own b (state_of m b))
    left b h = changed-at release (put_state Owned (taken_in tx) m) b (omega (arith, h, changed-length own m)) ∙ ap (release b) (changed-at own m b h)

    right : (b : ℕ) → b < length m.states → state_of (map_after n tx (put_state Free (taken_in tx) m)) b ≡ entered_state n tx b (free b (state_of m b))
    right b h = changed-at (λ (c : ℕ) (s : BlockState). entered_state n tx c s) (put_state Free (taken_in tx) m) b (omega (arith, h, changed-length free m)) ∙ ap (λ (s : BlockState). entered_state n tx b s) (changed-at free m b h)

    middle : (b : ℕ) (s : BlockState) → (is_in_list (taken_in tx) b ≡ true) ⊎ (is_in_list (taken_in tx) b ≡ false) → release b (own b s) ≡ entered_state n tx b (free b s)
    middle b s (inl t) = rw (takes_runs b tx, frees_runs b tx, t) refl
    middle b s (inr t) = rw (takes_runs b tx, frees_runs b tx, t) refl

    at : (b : ℕ) → b < length m.states → (is_in_list (taken_in tx) b ≡ true) ⊎ (is_in_list (taken_in tx) b ≡ false) → state_of (map_made n tx m) b ≡ state_of (map_after n tx (put_state Free (taken_in tx) m)) b
    at b h t = left b h ∙ middle b (state_of m b) t ∙ sym (right b h)

pub same_after : (n : ℕ) (tx : List Edit) (a b : Blocks) → SameStates a b → SameStates (map_after n tx a) (map_after n tx b)
same_after n tx a b same = record { states = ap (λ (states : List BlockState). (map_after n tx (record a { states = states })).states) same.states; agsize = same.agsize }

-- ---- pages

pub all_append : {A : Type 0} (P : A → Type 0) (xs ys : List A) → AllByRecursion P xs → AllByRecursion P ys → AllByRecursion P (xs ++ ys)
all_append P [] ys a b = b
all_append P (x ∷ xs) ys a b = (a.0, all_append P xs ys a.1 b)

pub all_freed : (P : FreedPage → Type 0) (n : ℕ) (tx : List Edit) → ((page : ℕ) → frees_page page tx ≡ true → P (record { page = page; by_entry = n })) → AllByRecursion P (pages_freed n tx)
all_freed P n [] each = tt
all_freed P n (e ∷ es) each = all_append P (page_freed n es e) (pages_freed n es) (first e (λ page f. each page f)) (all_freed P n es (λ page f. each page (or_right (is_noredo page e && not (touches_tx page es)) (frees_page page es) f)))
  where
    first : (x : Edit) → ((page : ℕ) → frees_page page (x ∷ es) ≡ true → P (record { page = page; by_entry = n })) → AllByRecursion P (page_freed n es x)
    first (Lines page kind line bytes) known = tt
    first (NoRedo page) known = by (touches_tx page es) refl
      where
        by : (t : Bool) → touches_tx page es ≡ t → AllByRecursion P (if t then [] else record { page = page; by_entry = n } ∷ [])
        by true f = tt
        by false f = (known page (rw (eq-eqb page page refl, f) refl), tt)
    first (Alloc run) known = tt
    first (FreeRun run) known = tt

pub last_of_list : {A : Type 0} (xs : List A) (x : A) → slice_get (xs ++ x ∷ []) (length xs) ≡ Some x
last_of_list [] x = refl
last_of_list (y ∷ ys) x = last_of_list ys x

-- ---- sizes

pub few_freed : (tx : List Edit) → 8 * length (freed_in tx) ≤ bytes_of tx
few_freed [] = omega arith
few_freed (e ∷ es) = omega (arith, one e, few_freed es, length-append (freed_by e) (freed_in es))
  where
    one : (x : Edit) → 8 * length (freed_by x) ≤ edit_bytes x
    one (Lines page kind first bytes) = omega arith
    one (NoRedo page) = omega arith
    one (Alloc run) = omega arith
    one (FreeRun run) = omega arith

-- ---- edits from a place on

pub touches_next : (n : ℕ) (es : List Edit) (i : ℕ) (x : Edit) → i < length es → x ≡ get_or es i x → touches_tx n (drop i es) ≡ (touches_edit n x || touches_tx n (drop (i + 1) es))
touches_next n es i x h is = ap (touches_tx n) (drop_more es i x h) ∙ ap (λ (y : Edit). touches_edit n y || touches_tx n (drop (i + 1) es)) (sym is)

pub freed_next : (n : ℕ) (es : List Edit) (i : ℕ) (x : Edit) → i < length es → x ≡ get_or es i x → pages_freed n (drop i es) ≡ page_freed n (drop (i + 1) es) x ++ pages_freed n (drop (i + 1) es)
freed_next n es i x h is = ap (pages_freed n) (drop_more es i x h) ∙ ap (λ (y : Edit). page_freed n (drop (i + 1) es) y ++ pages_freed n (drop (i + 1) es)) (sym is)
