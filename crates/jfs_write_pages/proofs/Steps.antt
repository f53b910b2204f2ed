-- One step of the loops over extents, runs and blocks.
use Rattle.std.proofs.Common.{◌≡◌, ◌≤◌, ◌<◌, inl, inr, refl, sym, ap, ap₂, ◌∙◌, subst, ℕ, zero, suc, ◌+◌, ◌-◌, ◌*◌, ◌^◌, Bool, true, false, true≢false, if◌then◌else◌, List, [], ◌∷◌, ◌++◌, length, take, drop, replicate, get_or, append_assoc, arith}
use Rattle.std.specs.Prelude.{min}
use Rattle.std.proofs.lemmas.Bool.{cases_lt}
use Rattle.std.proofs.lemmas.Bool.Decides.{nat_tests}
use Rattle.std.proofs.lemmas.List.{append-nil, length-drop, take_all, take_min, drop_all, drop_min}
use Rattle.jfs_bits.specs.Field.{put_bytes}
use Rattle.jfs_bits.specs.declared.descriptor.Pxd.{Pxd}
use Rattle.jfs_bits.specs.declared.extent.Xad.{Xad}
use Rattle.jfs_data_steps.specs.page_tree.specs.Form.{AllBelow}
use Rattle.jfs_data_steps.specs.page_tree.specs.Fresh.{run_from, blocks_of}
use Rattle.jfs_data_steps.specs.xtree.specs.Writing.{is_recorded}
use Rattle.jfs_write_pages.specs.declared.spot.Spot.{Spot}
use Rattle.jfs_data_steps.specs.declared.pages.DataPage.{DataPage}
use Rattle.jfs_data_steps.specs.After.{AreWholePages}
use Rattle.jfs_write_pages.specs.Pages.{told, kept, patched, old_page, page_for}
use Rattle.jfs_write_pages.specs.Spots.{spot_at, spots_from, run_spots, recorded_spot, spots_in, AllSpots}

-- ---- counted loops

succ : (n k : ℕ) → k < n → n - k ≡ suc (n - (k + 1))
succ n k l = omega (arith, l)

next : (a k : ℕ) → suc (a + k) ≡ a + (k + 1)
next a k = omega arith

done : (n k : ℕ) → n ≤ k → n - k ≡ 0
done n k l = omega (arith, l)

pub run_step : (a n k : ℕ) → k < n → run_from (a + k) (n - k) ≡ (a + k) ∷ run_from (a + (k + 1)) (n - (k + 1))
run_step a n k l = ap (run_from (a + k)) (succ n k l) ∙ ap (λ (x : ℕ). (a + k) ∷ run_from x (n - (k + 1))) (next a k)

pub run_done : (a n k : ℕ) → n ≤ k → run_from (a + k) (n - k) ≡ []
run_done a n k l = ap (run_from (a + k)) (done n k l)

pub spots_step : (es : List Xad) (a n k : ℕ) → k < n → spots_from es (a + k) (n - k) ≡ spot_at es (a + k) ∷ spots_from es (a + (k + 1)) (n - (k + 1))
unfolding spots_from
spots_step es a n k l = ap (spots_from es (a + k)) (succ n k l) ∙ ap (λ (x : ℕ). spot_at es (a + k) ∷ spots_from es x (n - (k + 1))) (next a k)

pub spots_done : (es : List Xad) (a n k : ℕ) → n ≤ k → spots_from es (a + k) (n - k) ≡ []
unfolding spots_from
spots_done es a n k l = ap (spots_from es (a + k)) (done n k l)

pub recorded_step : (a b n k : ℕ) → k < n → run_spots (a + k) (b + k) (n - k) ≡ recorded_spot (a + k) (b + k) ∷ run_spots (a + (k + 1)) (b + (k + 1)) (n - (k + 1))
unfolding run_spots
recorded_step a b n k l = ap (run_spots (a + k) (b + k)) (succ n k l) ∙ ap₂ (λ (x y : ℕ). recorded_spot (a + k) (b + k) ∷ run_spots x y (n - (k + 1))) (next a k) (next b k)

pub recorded_done : (a b n k : ℕ) → n ≤ k → run_spots (a + k) (b + k) (n - k) ≡ []
unfolding run_spots
recorded_done a b n k l = ap (run_spots (a + k) (b + k)) (done n k l)

-- pushed at the end, and before what is left
pub pushed : {A : Type 0} (now old rest : List A) (x : A) → now ≡ old ++ x ∷ [] → now ++ rest ≡ old ++ x ∷ rest
pushed now old rest x h = ap (λ xs. xs ++ rest) h ∙ append_assoc old (x ∷ []) rest

pub ended : {A : Type 0} (now rest whole : List A) → rest ≡ [] → now ++ rest ≡ whole → now ≡ whole
ended now rest whole h e = sym (append-nil now) ∙ ap (λ xs. now ++ xs) (sym h) ∙ e

-- ---- blocks below a bound

pub below_here : (b a n k : ℕ) → k < n → AllBelow b (run_from (a + k) (n - k)) → a + k < b
below_here b a n k l h = first (run_step a n k l) h
  where
    first : {xs : List ℕ} {y : ℕ} {ys : List ℕ} → xs ≡ y ∷ ys → AllBelow b xs → y < b
    first e h = (subst (AllBelow b) e h).0

pub below_next : (b a n k : ℕ) → k < n → AllBelow b (run_from (a + k) (n - k)) → AllBelow b (run_from (a + (k + 1)) (n - (k + 1)))
below_next b a n k l h = (subst (AllBelow b) (run_step a n k l) h).1

below_parts : (b : ℕ) (xs ys : List ℕ) → AllBelow b (xs ++ ys) → AllBelow b xs × AllBelow b ys
below_parts b [] ys h = (tt, h)
below_parts b (x ∷ xs) ys h = let t = below_parts b xs ys h.1 in ((h.0, t.0), t.1)

pub runs_step : (ps : List Pxd) (i : ℕ) (d : Pxd) → i < length ps → blocks_of (drop i ps) ≡ run_from (get_or ps i d).addr (get_or ps i d).len ++ blocks_of (drop (i + 1) ps)
runs_step [] i d l = absurd (omega (arith, l))
runs_step (p ∷ ps) zero d l = refl
runs_step (p ∷ ps) (suc i) d l = subst (λ n. blocks_of (drop i ps) ≡ run_from (get_or ps i d).addr (get_or ps i d).len ++ blocks_of (drop n (p ∷ ps))) next (runs_step ps i d (omega (arith, l)))
  where
    next : suc (i + 1) ≡ suc i + 1
    next = omega arith

pub runs_below : (b : ℕ) (ps : List Pxd) (i : ℕ) (d : Pxd) → i < length ps → AllBelow b (blocks_of (drop i ps)) → AllBelow b (run_from (get_or ps i d).addr (get_or ps i d).len) × AllBelow b (blocks_of (drop (i + 1) ps))
runs_below b ps i d l h = below_parts b (run_from (get_or ps i d).addr (get_or ps i d).len) (blocks_of (drop (i + 1) ps)) (subst (AllBelow b) (runs_step ps i d l) h)

pub appended : {A : Type 0} (now old part rest : List A) → now ≡ old ++ part → now ++ rest ≡ old ++ (part ++ rest)
appended now old part rest h = ap (λ xs. xs ++ rest) h ∙ append_assoc old part rest

-- ---- extents and spots at a place

pub spot_fits : (blocks : ℕ) (ss : List Spot) (i : ℕ) (d : Spot) → AllSpots blocks ss → i < length ss → ((get_or ss i d).block < blocks) × ((get_or ss i d).index < 2 ^ 40)
spot_fits blocks [] i d h l = absurd (omega (arith, l))
spot_fits blocks (s ∷ ss) zero d h l = (h.0, h.1)
spot_fits blocks (s ∷ ss) (suc i) d h l = spot_fits blocks ss i d h.2 (omega (arith, l))

-- an extent that has nothing between the bounds
pub none_in : (from to : ℕ) (e : Xad) → min (to - e.offset) e.at.len ≤ from - e.offset → spots_in from to e ≡ []
unfolding run_spots
none_in from to e l = by (is_recorded e) (zero_left (min (to - e.offset) e.at.len) (from - e.offset) l)
  where
    zero_left : (a b : ℕ) → a ≤ b → a - b ≡ 0
    zero_left a b l = omega (arith, l)

    by : (x : Bool) → min (to - e.offset) e.at.len - (from - e.offset) ≡ 0
        → (if x then run_spots (e.offset + (from - e.offset)) (e.at.addr + (from - e.offset)) (min (to - e.offset) e.at.len - (from - e.offset)) else []) ≡ []
    by true h = ap (run_spots (e.offset + (from - e.offset)) (e.at.addr + (from - e.offset))) h
    by false h = refl

-- ---- pages that are pushed

pub told_more : (ds : List DataPage) (d : DataPage) → told (ds ++ d ∷ []) ≡ told ds ++ (d.block, d.page.0) ∷ []
told_more [] d = refl
told_more (x ∷ ds) d = ap (λ (ps : List (ℕ × List ℕ)). (x.block, x.page.0) ∷ ps) (told_more ds d)

pub whole_more : (ds : List DataPage) (d : DataPage) → AreWholePages ds → length d.page.0 ≡ 4096 → AreWholePages (ds ++ d ∷ [])
whole_more [] d h size = (size, tt)
whole_more (x ∷ ds) d h size = (h.0, whole_more ds d h.1 size)

-- what stays of a page where nothing of it is asked for
pub kept_none : (n : ℕ) (page : List ℕ) → n ≡ 0 → length page ≡ 4096 → kept n page ≡ replicate 4096 0
kept_none n page e size = ap (λ (k : ℕ). take k page ++ replicate (length page - k) 0) e ∙ ap (λ (k : ℕ). replicate k 0) (let s : length page - 0 ≡ 4096 = omega (arith, size) in s)

-- as many bytes as fit
pub kept_min : (n : ℕ) (page : List ℕ) → length page ≡ 4096 → kept (min n 4096) page ≡ kept n page
kept_min n page size = elim (cases_lt n 4096) [
  | inl l ↦ ap (λ (k : ℕ). kept k page) (less n l)
  | inr l ↦ ap (λ (k : ℕ). kept k page) (more n l) ∙ all 4096 (omega (arith, size)) ∙ sym (all n (omega (arith, size, l)))
]
  where
    less : (n : ℕ) → n < 4096 → min n 4096 ≡ n
    less n l = grind (arith, nat_tests)

    more : (n : ℕ) → 4096 ≤ n → min n 4096 ≡ 4096
    more n l = grind (arith, nat_tests)

    all : (k : ℕ) → length page ≤ k → kept k page ≡ page
    all k l = ap₂ (λ (xs ys : List ℕ). xs ++ ys) (take_all k page l) (ap (λ (m : ℕ). replicate m 0) (let z : length page - k ≡ 0 = omega (arith, l) in z)) ∙ append-nil page

-- ---- the bytes that go into a page

-- No bytes go behind a page's end.
none_behind : (f : ℕ) (ys page : List ℕ) → length page ≡ 4096 → 4096 ≤ f → put_bytes f (take (4096 - f) ys) page ≡ page
unfolding put_bytes
none_behind f ys page size l =
    ap (λ (z : ℕ). take f page ++ (take z ys ++ drop (f + length (take z ys)) page)) (let z : 4096 - f ≡ 0 = omega (arith, l) in z)
    ∙ ap₂ (λ (xs zs : List ℕ). xs ++ zs) (take_all f page (omega (arith, size, l))) (drop_all (f + 0) page (omega (arith, size, l)))
    ∙ append-nil page

pub part_put : (offset start from done width : ℕ) (bytes page : List ℕ) → length page ≡ 4096 → from ≡ min (offset - start) 4096 → done ≡ min (start - offset) (length bytes)
    → width ≡ min (4096 - from) (length bytes - done) → put_bytes from (take width (drop done bytes)) page ≡ patched offset bytes start page
part_put offset start from done width bytes page size hf hd hw =
    ap (λ (n : ℕ). put_bytes from (take n (drop done bytes)) page) (hw ∙ ap (λ (n : ℕ). min (4096 - from) n) (sym (length-drop done bytes)))
    ∙ ap (λ (xs : List ℕ). put_bytes from xs page) (take_min (4096 - from) (drop done bytes))
    ∙ ap (λ (xs : List ℕ). put_bytes from (take (4096 - from) xs) page) (ap (λ (n : ℕ). drop n bytes) hd ∙ drop_min (start - offset) bytes)
    ∙ elim (cases_lt (offset - start) 4096) [
      | inl l ↦ ap (λ (f : ℕ). put_bytes f (take (4096 - f) (drop (start - offset) bytes)) page) (hf ∙ less (offset - start) l)
      | inr l ↦ none_behind from (drop (start - offset) bytes) page size (omega (arith, hf ∙ more (offset - start) l)) ∙ sym (none_behind (offset - start) (drop (start - offset) bytes) page size l)
    ]
  where
    less : (n : ℕ) → n < 4096 → min n 4096 ≡ n
    less n l = grind (arith, nat_tests)

    more : (n : ℕ) → 4096 ≤ n → min n 4096 ≡ 4096
    more n l = grind (arith, nat_tests)

-- a block that is pushed with what it is to hold
pub page_pushed : (olds news : List DataPage) (d : DataPage) (pages : ℕ → List ℕ) (size offset : ℕ) (bytes : List ℕ) (s : Spot) (stays : ℕ) (old front : List ℕ)
    → news ≡ olds ++ d ∷ [] → d.block ≡ s.block → d.page.0 ≡ patched offset bytes (4096 * s.index) front → front ≡ kept stays old → stays ≡ min (size - 4096 * s.index) 4096
    → length old ≡ 4096 → old ≡ old_page pages s → told news ≡ told olds ++ page_for pages size offset bytes s ∷ []
page_pushed olds news d pages size offset bytes s stays old front hn hb hp hf hs len ho =
    ap told hn ∙ told_more olds d
    ∙ ap₂ (λ (b : ℕ) (p : List ℕ). told olds ++ (b, p) ∷ []) hb
    (hp ∙ ap (λ (p : List ℕ). patched offset bytes (4096 * s.index) p) (hf ∙ ap (λ (n : ℕ). kept n old) hs ∙ kept_min (size - 4096 * s.index) old len ∙ ap (λ (p : List ℕ). kept (size - 4096 * s.index) p) ho))

-- a block that isn't recorded
pub unrecorded : (pages : ℕ → List ℕ) (s : Spot) (zeros : List ℕ) → zeros ≡ replicate 4096 0 → s.recorded ≡ false → zeros ≡ old_page pages s
unrecorded pages s zeros hz hr = hz ∙ by s.recorded hr
  where
    by : (t : Bool) → t ≡ false → replicate {A = ℕ} 4096 0 ≡ (if t then pages s.block else replicate 4096 0)
    by true h = absurd (true≢false h)
    by false h = refl
