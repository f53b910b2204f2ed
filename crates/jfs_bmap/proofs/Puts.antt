-- Runs of blocks put in another state.
use Rattle.std.proofs.Common.{◌≡◌, ◌<◌, ◌≤◌, ◌+◌, ℕ, Bool, true, false, ◌||◌, inl, inr, List, [], ◌∷◌, ◌++◌, length, get_or, drop, add-one, refl, sym, ap, subst, ◌∙◌, arith}
use Rattle.std.specs.Prelude.{if◌then◌else◌, slice_get, Some, None}
use Rattle.std.proofs.Math.Seq.{drop-cons}
use Rattle.std.proofs.lemmas.Option.{none-some, slice_get_within, slice_get-get_or, get_or_from_slice_get}
use Rattle.std.proofs.lemmas.Bool.{cases_lt, both_ways, or_left, or_right, false_from_ne_true}
use Rattle.std.proofs.lemmas.List.{get_or_past, drop_all}
use Rattle.jfs_bits.specs.Bits.{is_in_run}
use Rattle.jfs_bits.specs.declared.descriptor.Pxd.{Pxd}
use Rattle.jfs_bmap.specs.States.{BlockState, Free, Owned, Reserved, Blocks, state_of, is_in_list, AreApart, AreReserved, put_state}
use Rattle.jfs_bmap.proofs.States.{same_blocks, changed-at, changed-length, in_list-one}

-- ---- lists of runs

pub in_list-append : (xs ys : List Pxd) (b : ℕ) → is_in_list (xs ++ ys) b ≡ (is_in_list xs b || is_in_list ys b)
unfolding is_in_list
in_list-append [] ys b = refl
in_list-append (run ∷ runs) ys b = ap (λ (t : Bool). is_in_run run.addr run.len b || t) (in_list-append runs ys b) ∙ assoc (is_in_run run.addr run.len b) (is_in_list runs b) (is_in_list ys b)
  where
    assoc : (x y z : Bool) → (x || (y || z)) ≡ (x || y || z)
    assoc true y z = refl
    assoc false y z = refl

pub in_list-none : (b : ℕ) → is_in_list [] b ≡ false
unfolding is_in_list
in_list-none b = refl

-- ---- states

-- a block past the end is owned
pub state-past : (m : Blocks) (b : ℕ) → length m.states ≤ b → state_of m b ≡ Owned
state-past m b h = get_or_past m.states b Owned h

pub free-there : (m : Blocks) (b : ℕ) → state_of m b ≡ Free → b < length m.states
free-there m b h = elim (cases_lt b (length m.states)) [ inl k ↦ k | inr k ↦ absurd (apart (sym (state-past m b k) ∙ h)) ]
  where
    apart : Owned ≡ Free → ⊥
    apart e = cc

pub put-length : (state : BlockState) (list : List Pxd) (m : Blocks) → length (put_state state list m).states ≡ length m.states
put-length state list m = changed-length (λ b s. if is_in_list list b then state else s) m

pub put-at : (state : BlockState) (list : List Pxd) (m : Blocks) (b : ℕ) → b < length m.states → state_of (put_state state list m) b ≡ (if is_in_list list b then state else state_of m b)
put-at state list m b h = changed-at (λ b s. if is_in_list list b then state else s) m b h

pub put-here : (state : BlockState) (list : List Pxd) (m : Blocks) (b : ℕ) → b < length m.states → is_in_list list b ≡ true → state_of (put_state state list m) b ≡ state
put-here state list m b h there = put-at state list m b h ∙ rw there refl

pub put-other : (state : BlockState) (list : List Pxd) (m : Blocks) (b : ℕ) → is_in_list list b ≡ false → state_of (put_state state list m) b ≡ state_of m b
put-other state list m b out = elim (cases_lt b (length m.states)) [
  | inl h ↦ put-at state list m b h ∙ rw out refl
  | inr h ↦ state-past (put_state state list m) b (omega (arith, put-length state list m)) ∙ sym (state-past m b h)
]

-- runs without a block change nothing
pub put-nowhere : (state : BlockState) (list : List Pxd) (m : Blocks) → ((b : ℕ) → is_in_list list b ≡ false) → put_state state list m ≡ m
put-nowhere state list m out = same_blocks (put_state state list m) m (put-length state list m) (λ b h. put-other state list m b (out b)) refl refl

-- runs put one after another
pub put-append : (state : BlockState) (xs ys : List Pxd) (m : Blocks) → put_state state ys (put_state state xs m) ≡ put_state state (xs ++ ys) m
put-append state xs ys m =
    let first = put_state state xs m in
    let size = put-length state xs m in
    let sizes : length (put_state state ys first).states ≡ length m.states = put-length state ys first ∙ size in
    same_blocks (put_state state ys first) (put_state state (xs ++ ys) m) (sizes ∙ sym (put-length state (xs ++ ys) m)) (λ b h.
    let within : b < length m.states = omega (arith, sizes) in
    rw (put-at state ys first b (omega (arith, size)), put-at state xs m b within, put-at state (xs ++ ys) m b within, in_list-append xs ys b) (either (is_in_list xs b) (is_in_list ys b) (state_of m b)))
    refl refl
  where
    either : (x y : Bool) (other : BlockState) → (if y then state else (if x then state else other)) ≡ (if x || y then state else other)
    either true true other = refl
    either true false other = refl
    either false true other = refl
    either false false other = refl

-- what was put in another state and back
pub put-back : (list : List Pxd) (m : Blocks) → ((b : ℕ) → is_in_list list b ≡ true → state_of m b ≡ Free) → put_state Free list (put_state Reserved list m) ≡ m
put-back list m free =
    let there = put_state Reserved list m in
    let size = put-length Reserved list m in
    let sizes : length (put_state Free list there).states ≡ length m.states = put-length Free list there ∙ size in
    same_blocks (put_state Free list there) m sizes (λ b h.
    let within : b < length m.states = omega (arith, sizes) in
    rw (put-at Free list there b (omega (arith, size)), put-at Reserved list m b within) (back (is_in_list list b) (state_of m b) (free b)))
    refl refl
  where
    back : (x : Bool) (s : BlockState) → (x ≡ true → s ≡ Free) → (if x then Free else (if x then Reserved else s)) ≡ s
    back true s h = sym (h refl)
    back false s h = refl

-- ---- reserved runs

-- the first of these runs
pub reserved-first : (m : Blocks) (run : Pxd) (rest : List Pxd) → AreReserved m (run ∷ rest) → (b : ℕ) → is_in_run run.addr run.len b ≡ true → state_of m b ≡ Reserved
unfolding is_in_list
reserved-first m run rest r b h = r.reserved b (or_left (is_in_run run.addr run.len b) (is_in_list rest b) h)

-- the others stay reserved when the first is put in another state
pub reserved-rest : (state : BlockState) (m : Blocks) (run : Pxd) (rest : List Pxd) → AreReserved m (run ∷ rest) → AreReserved (put_state state (run ∷ []) m) rest
unfolding is_in_list AreApart
reserved-rest state m run rest r = record {
  reserved = λ b h.
      let out : is_in_run run.addr run.len b ≡ false = false_from_ne_true (is_in_run run.addr run.len b) (λ t. both_ways (is_in_list rest b) (r.once.0 b t) h) in
      put-other state (run ∷ []) m b (in_list-one run b ∙ out) ∙ r.reserved b (or_right (is_in_run run.addr run.len b) (is_in_list rest b) h);
  once = r.once.1;
}

-- free runs are reserved once they are put so
pub reserved-put : (list : List Pxd) (m : Blocks) → AreApart list → ((b : ℕ) → is_in_list list b ≡ true → state_of m b ≡ Free) → AreReserved (put_state Reserved list m) list
reserved-put list m once free = record {
  reserved = λ b h. put-here Reserved list m b (free-there m b (free b h)) h;
  once = once;
}

-- reserved blocks stay so where others are reserved too
pub free-not_reserved : (m : Blocks) (b : ℕ) → state_of m b ≡ Free → state_of m b ≡ Reserved → ⊥
free-not_reserved m b free reserved = apart (sym free ∙ reserved)
  where
    apart : Free ≡ Reserved → ⊥
    apart e = cc

pub reserved-more : (list other : List Pxd) (m : Blocks) → AreReserved m list → AreReserved (put_state Reserved other m) list
reserved-more list other m r = record { reserved = λ b h. stays b (r.reserved b h); once = r.once }
  where
    stays : (b : ℕ) → state_of m b ≡ Reserved → state_of (put_state Reserved other m) b ≡ Reserved
    stays b here = elim (cases_lt b (length m.states)) [
      | inl k ↦ put-at Reserved other m b k ∙ either (is_in_list other b) (state_of m b) here
      | inr k ↦ absurd (owned-not_reserved (sym (state-past m b k) ∙ here))
    ]
      where
        either : (t : Bool) (s : BlockState) → s ≡ Reserved → (if t then Reserved else s) ≡ Reserved
        either true s e = refl
        either false s e = e

        owned-not_reserved : Owned ≡ Reserved → ⊥
        owned-not_reserved e = cc

-- and where other runs get another state
pub reserved-beside : (state : BlockState) (list other : List Pxd) (m : Blocks) → AreReserved m list → ((b : ℕ) → is_in_list list b ≡ true → is_in_list other b ≡ false) → AreReserved (put_state state other m) list
reserved-beside state list other m r beside = record { reserved = λ b h. put-other state other m b (beside b h) ∙ r.reserved b h; once = r.once }

-- ---- a loop over runs

-- from place `i` on
pub rest-here : (list : List Pxd) (i : ℕ) (run : Pxd) → slice_get list i ≡ Some run → drop i list ≡ run ∷ drop (i + 1) list
rest-here list i run h = rw (add-one, drop-cons list i run (slice_get_within list i run h), get_or_from_slice_get list i run run h) refl

-- a run that is next among reserved ones
pub next-reserved : (list : List Pxd) (i : ℕ) (run : Pxd) (now : Blocks) → slice_get list i ≡ Some run → AreReserved now (drop i list) → (b : ℕ) → is_in_run run.addr run.len b ≡ true → state_of now b ≡ Reserved
next-reserved list i run now here r = reserved-first now run (drop (i + 1) list) (subst (λ (xs : List Pxd). AreReserved now xs) (rest-here list i run here) r)

-- what is left once it was put in another state
pub rest-left : (state : BlockState) (list : List Pxd) (i : ℕ) (run : Pxd) (now : Blocks) → slice_get list i ≡ Some run → put_state state (drop (i + 1) list) (put_state state (run ∷ []) now) ≡ put_state state (drop i list) now
rest-left state list i run now here = put-append state (run ∷ []) (drop (i + 1) list) now ∙ ap (λ (xs : List Pxd). put_state state xs now) (sym (rest-here list i run here))

pub rest-reserved : (state : BlockState) (list : List Pxd) (i : ℕ) (run : Pxd) (now : Blocks) → slice_get list i ≡ Some run → AreReserved now (drop i list) → AreReserved (put_state state (run ∷ []) now) (drop (i + 1) list)
rest-reserved state list i run now here r = reserved-rest state now run (drop (i + 1) list) (subst (λ (xs : List Pxd). AreReserved now xs) (rest-here list i run here) r)

-- no run is left
pub none-left : (state : BlockState) (list : List Pxd) (i : ℕ) (now : Blocks) → length list ≤ i → put_state state (drop i list) now ≡ now
none-left state list i now h = rw (drop_all i list h) (put-nowhere state [] now in_list-none)

-- a list has a run at each place within
pub some-there : (list : List Pxd) (i : ℕ) → i < length list → None ≡ slice_get list i → ⊥
some-there list i h none =
    let d : Pxd = record { len = 0; addr = 0 } in
    none-some (get_or list i d) (none ∙ slice_get-get_or list i d h)

-- ---- no runs

pub put-none : (state : BlockState) (m : Blocks) → put_state state [] m ≡ m
put-none state m = put-nowhere state [] m in_list-none

pub none-apart : AreApart []
unfolding AreApart
none-apart = tt

pub none-free_before : (m : Blocks) (b : ℕ) → is_in_list [] b ≡ true → state_of m b ≡ Free
none-free_before m b h = absurd (both_ways (is_in_list [] b) (in_list-none b) h)
