-- What the maps keep fits their pages: as it is read, and after edits.
use Rattle.std.proofs.Common.{◌≡◌, ◌⊎◌, ◌<◌, ◌≤◌, ◌+◌, ◌*◌, ◌%◌, ◌==◌, ◌&&◌, ◌||◌, nat_lt, nat_le, ℕ, zero, suc, Bool, true, false, true≢false, if◌then◌else◌, List, [], ◌∷◌, ◌++◌, inl, inr, refl, sym, ap, subst, arith}
use Rattle.std.specs.List.{AllByRecursion}
use Rattle.std.proofs.lemmas.Bool.{cond-true, and_parts, eqb-true, eq-eqb, lt-ltb, le-leb, and_from, or_left, or_right, or_cases}
use Rattle.jfs_bits.specs.Bits.{is_taken, is_in_run}
use Rattle.jfs_bits.specs.Field.{AreBytes, range_of}
use Rattle.jfs_bits.specs.Descriptor.{pxd_of, FitsPxd}
use Rattle.jfs_bits.specs.declared.descriptor.Pxd.{Pxd}
use Rattle.jfs_bits.proofs.SameMaps.{word-below}
use Rattle.jfs_iag.specs.Iag.{no_run}
use Rattle.jfs_ranges.specs.declared.edit.Edit.{Edit}
use Rattle.jfs_ranges.specs.declared.edit.Edit.TheVariants.{Lines, NoRedo, Alloc, Free}
use Rattle.jfs_face.specs.steps.specs.After.{is_extent, place_in, four_from, takes}
use Rattle.jfs_face.specs.steps.specs.objects.specs.Owners.{run_has}
use Rattle.jfs_face.specs.recovery.specs.records.specs.Redo.{all_of}
use Rattle.jfs_face.specs.recovery.specs.Face.{Pages, Item, Value}
use Rattle.jfs_face.specs.recovery.specs.Face.Item.{BlockBit, ExtentPlace}
use Rattle.jfs_face.specs.recovery.specs.Face.Value.{InUse, At}
use Rattle.jfs_face.specs.Places.{Places}
use Rattle.jfs_face.specs.Items.{bit_of, place_of, places, home, set_item, set_by}
use Rattle.jfs_face.specs.Marks.{puts, any_puts}
use Rattle.jfs_face.specs.Volume.{items_on}
use Rattle.jfs_face.proofs.Reading.{at_home}
use Rattle.jfs_canonical_maps.specs.Places.{FitMaps}
use Rattle.jfs_canonical_maps.specs.Laws.{FitItems, HasMapBytes, StaysWithin}

-- ---- as it is read

and-twice : (a b : Bool) → InUse (a && b) ≡ InUse (a && (a && b))
and-twice true b = refl
and-twice false b = refl

if-twice : (a : Bool) (x y : Pxd) → At (if a then x else y) ≡ At (if a then (if a then x else y) else y)
if-twice true x y = refl
if-twice false x y = refl

pxd-fits : (at : ℕ) (page : List ℕ) → AreBytes page → FitsPxd (pxd_of page at)
pxd-fits at page bytes =
    let first = word-below page at bytes in
    let second = word-below page (at + 4) bytes in
    record { len = omega arith; addr = omega (arith, first, second) }

pub read-fit : (pl : Places) (s : Pages) → HasMapBytes pl s → FitItems pl (items_on pl s)
read-fit pl s bytes = record {
  kept = record {
    blocks = λ b. and-twice (nat_lt b pl.blocks) (is_taken (range_of (s (home pl (BlockBit b))) 3072 1024) (b % 8192));
    extents = λ e. if-twice (nat_lt e (places pl)) (pxd_of (s (home pl (ExtentPlace e))) (3072 + 8 * (e % 128))) no_run;
  };
  extents = λ e within.
      let p = pxd_of (s (home pl (ExtentPlace e))) (3072 + 8 * (e % 128)) in
      subst FitsPxd (sym (cond-true (nat_lt e (places pl)) p no_run (lt-ltb e (places pl) within))) (pxd-fits (3072 + 8 * (e % 128)) (s (home pl (ExtentPlace e))) (bytes (home pl (ExtentPlace e)) (at_home pl (ExtentPlace e))));
}

-- ---- edits that stay within

-- the blocks of a run are the volume's
abbrev IsWithin : Places → ℕ → ℕ → Type 0
IsWithin pl first len = (b : ℕ) → is_in_run first len b ≡ true → b < pl.blocks

abbrev EditWithin : Places → Edit → Type 0
EditWithin pl (Lines page kind first bytes) = is_extent kind first bytes ≡ true → IsWithin pl page 4 × (place_in bytes < places pl)
EditWithin pl (NoRedo page) = Unit {0}
EditWithin pl (Alloc run) = IsWithin pl run.addr run.len
EditWithin pl (Free run) = Unit {0}

has-one : (first len b : ℕ) → is_in_run first len b ≡ true → 1 ≤ run_has (record { len = len; addr = first }) b
has-one first len b e = let one : ℕ = 1 in let none : ℕ = 0 in omega (arith, cond-true (is_in_run first len b) one none e)

extent-taken : (extent : Bool) (run b rest : ℕ) → extent ≡ true → 1 ≤ run → 0 < (if extent then run else 0) + rest
extent-taken true run b rest e h = omega arith
extent-taken false run b rest e h = absurd (true≢false (sym e))

first-within : (pl : Places) (edit : Edit) (edits : List Edit) → StaysWithin pl (edit ∷ edits) → EditWithin pl edit
first-within pl (Lines page kind first bytes) edits h = λ extent. (
  λ b inside. h.blocks b (extent-taken (is_extent kind first bytes) (run_has (four_from page) b) b (takes edits b) extent (has-one page 4 b inside)),
  h.places (place_in bytes) (or_left (is_extent kind first bytes && place_in bytes == place_in bytes) (any_puts edits (place_in bytes)) (and_from (is_extent kind first bytes) (place_in bytes == place_in bytes) extent (eq-eqb (place_in bytes) (place_in bytes) refl))),
)
first-within pl (NoRedo page) edits h = tt
first-within pl (Alloc run) edits h = λ b inside. let one = has-one run.addr run.len b inside in h.blocks b (omega (arith, one))
first-within pl (Free run) edits h = tt

more-taken : (edit : Edit) (edits : List Edit) (b : ℕ) → takes edits b ≤ takes (edit ∷ edits) b
more-taken (Lines page kind first bytes) edits b = omega arith
more-taken (NoRedo page) edits b = omega arith
more-taken (Alloc run) edits b = omega arith
more-taken (Free run) edits b = omega arith

rest-within : (pl : Places) (edit : Edit) (edits : List Edit) → StaysWithin pl (edit ∷ edits) → StaysWithin pl edits
rest-within pl edit edits h = record {
  blocks = λ b some. let more = more-taken edit edits b in h.blocks b (omega (arith, some, more));
  places = λ e some. h.places e (or_right (puts edit e) (any_puts edits e) some);
}

-- one transaction behind another
first_or : (one some all more : ℕ) → 0 < one + all → (0 < all → (0 < some) ⊎ (0 < more)) → (0 < one + some) ⊎ (0 < more)
first_or zero some all more h rest = elim (rest (omega arith)) [ inl a ↦ inl (omega arith) | inr b ↦ inr b ]
first_or (suc one) some all more h rest = inl (omega arith)

taken-apart : (tx more : List Edit) (b : ℕ) → 0 < takes (tx ++ more) b → (0 < takes tx b) ⊎ (0 < takes more b)
taken-apart [] more b h = inr h
taken-apart (Lines page kind first bytes ∷ edits) more b h = first_or (if is_extent kind first bytes then run_has (four_from page) b else 0) (takes edits b) (takes (edits ++ more) b) (takes more b) h (taken-apart edits more b)
taken-apart (NoRedo page ∷ edits) more b h = taken-apart edits more b h
taken-apart (Alloc run ∷ edits) more b h = first_or (run_has run b) (takes edits b) (takes (edits ++ more) b) (takes more b) h (taken-apart edits more b)
taken-apart (Free run ∷ edits) more b h = taken-apart edits more b h

put-apart : (tx more : List Edit) (e : ℕ) → any_puts (tx ++ more) e ≡ true → (any_puts tx e ≡ true) ⊎ (any_puts more e ≡ true)
put-apart [] more e h = inr h
put-apart (edit ∷ edits) more e h = at (or_cases (puts edit e) (any_puts (edits ++ more) e) h) (put-apart edits more e)
  where
    at : (puts edit e ≡ true) ⊎ (any_puts (edits ++ more) e ≡ true) → (any_puts (edits ++ more) e ≡ true → (any_puts edits e ≡ true) ⊎ (any_puts more e ≡ true)) → ((puts edit e || any_puts edits e) ≡ true) ⊎ (any_puts more e ≡ true)
    at (inl this) rest = inl (or_left (puts edit e) (any_puts edits e) this)
    at (inr later) rest = elim (rest later) [ inl a ↦ inl (or_right (puts edit e) (any_puts edits e) a) | inr b ↦ inr b ]

both-within : (pl : Places) (tx more : List Edit) → StaysWithin pl tx → StaysWithin pl more → StaysWithin pl (tx ++ more)
both-within pl tx more a b = record {
  blocks = λ c h. elim (taken-apart tx more c h) [ inl x ↦ a.blocks c x | inr y ↦ b.blocks c y ];
  places = λ e h. elim (put-apart tx more e h) [ inl x ↦ a.places e x | inr y ↦ b.places e y ];
}

pub all-within : (pl : Places) (txs : List (List Edit)) → AllByRecursion (StaysWithin pl) txs → StaysWithin pl (all_of txs)
all-within pl [] h = record { blocks = λ b some. absurd (omega arith); places = λ e some. absurd (true≢false (sym some)) }
all-within pl (tx ∷ txs) h = both-within pl tx (all_of txs) h.0 (all-within pl txs h.1)

-- ---- after an edit

abbrev IsBlock : Places → ℕ → Value → Type 0
IsBlock pl b x = x ≡ InUse (nat_lt b pl.blocks && bit_of x)

abbrev IsExtent : Places → ℕ → Value → Type 0
IsExtent pl e x = x ≡ At (if nat_lt e (places pl) then place_of x else no_run)

-- where a test passes it is set, else it stays
by_test : (P : Value → Type 0) (test : Bool) (new x : Value) → (test ≡ true → P new) → P x → P (if test then new else x)
by_test P true new x set stays = set refl
by_test P false new x set stays = stays

taken-block : (pl : Places) (b : ℕ) → b < pl.blocks → IsBlock pl b (InUse true)
taken-block pl b h = ap (λ (t : Bool). InUse (t && true)) (sym (lt-ltb b pl.blocks h))

free-block : (pl : Places) (b : ℕ) → IsBlock pl b (InUse false)
free-block pl b = none (nat_lt b pl.blocks)
  where
    none : (t : Bool) → InUse false ≡ InUse (t && false)
    none true = refl
    none false = refl

put-extent : (pl : Places) (e : ℕ) (p : Pxd) → e < places pl → IsExtent pl e (At p)
put-extent pl e p h = ap At (sym (cond-true (nat_lt e (places pl)) p no_run (lt-ltb e (places pl) h)))

blocks-kept : (pl : Places) (items : Item → Value) → FitItems pl items → (edit : Edit) → EditWithin pl edit → (b : ℕ) → IsBlock pl b (set_item edit (BlockBit b) (items (BlockBit b)))
blocks-kept pl items fit (Lines page kind first bytes) within b =
    by_test (IsBlock pl b) (is_extent kind first bytes && is_in_run page 4 b) (InUse true) (items (BlockBit b))
    (λ e. let both = and_parts (is_extent kind first bytes) (is_in_run page 4 b) e in taken-block pl b ((within both.0).0 b both.1)) (fit.kept.blocks b)
blocks-kept pl items fit (NoRedo page) within b = fit.kept.blocks b
blocks-kept pl items fit (Alloc run) within b = by_test (IsBlock pl b) (is_in_run run.addr run.len b) (InUse true) (items (BlockBit b)) (λ e. taken-block pl b (within b e)) (fit.kept.blocks b)
blocks-kept pl items fit (Free run) within b = by_test (IsBlock pl b) (is_in_run run.addr run.len b) (InUse false) (items (BlockBit b)) (λ e. free-block pl b) (fit.kept.blocks b)

extents-kept : (pl : Places) (items : Item → Value) → FitItems pl items → (edit : Edit) → EditWithin pl edit → (e : ℕ) → IsExtent pl e (set_item edit (ExtentPlace e) (items (ExtentPlace e)))
extents-kept pl items fit (Lines page kind first bytes) within e =
    by_test (IsExtent pl e) (is_extent kind first bytes && place_in bytes == e) (At (four_from page)) (items (ExtentPlace e))
    (λ t. let both = and_parts (is_extent kind first bytes) (place_in bytes == e) t in put-extent pl e (four_from page) (subst (λ (k : ℕ). k < places pl) (eqb-true (place_in bytes) e both.1) (within both.0).1)) (fit.kept.extents e)
extents-kept pl items fit (NoRedo page) within e = fit.kept.extents e
extents-kept pl items fit (Alloc run) within e = fit.kept.extents e
extents-kept pl items fit (Free run) within e = fit.kept.extents e

four-fit : (pl : Places) (page : ℕ) → FitMaps pl → IsWithin pl page 4 → FitsPxd (four_from page)
four-fit pl page fits within =
    let most = fits.block_map.most in
    let low = within page (and_from (nat_le page page) (nat_lt page (page + 4)) (le-leb page page (omega arith)) (lt-ltb page (page + 4) (omega arith))) in
    record { len = omega arith; addr = omega (arith, low, most) }

extents-fit : (pl : Places) (items : Item → Value) → FitMaps pl → FitItems pl items → (edit : Edit) → EditWithin pl edit → (e : ℕ) → e < places pl → FitsPxd (place_of (set_item edit (ExtentPlace e) (items (ExtentPlace e))))
extents-fit pl items fits fit (Lines page kind first bytes) within e h =
    by_test (λ x. FitsPxd (place_of x)) (is_extent kind first bytes && place_in bytes == e) (At (four_from page)) (items (ExtentPlace e))
    (λ t. four-fit pl page fits (within (and_parts (is_extent kind first bytes) (place_in bytes == e) t).0).0) (fit.extents e h)
extents-fit pl items fits fit (NoRedo page) within e h = fit.extents e h
extents-fit pl items fits fit (Alloc run) within e h = fit.extents e h
extents-fit pl items fits fit (Free run) within e h = fit.extents e h

edit-fit : (pl : Places) (items : Item → Value) (edit : Edit) → FitMaps pl → FitItems pl items → EditWithin pl edit → FitItems pl (λ i. set_item edit i (items i))
edit-fit pl items edit fits fit within = record {
  kept = record { blocks = blocks-kept pl items fit edit within; extents = extents-kept pl items fit edit within };
  extents = extents-fit pl items fits fit edit within;
}

pub edits-fit : (pl : Places) (items : Item → Value) (tx : List Edit) → FitMaps pl → FitItems pl items → StaysWithin pl tx → FitItems pl (λ i. set_by tx i (items i))
edits-fit pl items [] fits fit within = fit
edits-fit pl items (edit ∷ edits) fits fit within = edits-fit pl (λ i. set_item edit i (items i)) edits fits (edit-fit pl items edit fits fit (first-within pl edit edits within)) (rest-within pl edit edits within)
