-- Lines that bring one page to another.
use Rattle.std.specs.Result.{OnOk}
use Rattle.std.specs.declared.result.Result.{Result}
use Rattle.std.specs.declared.result.Result.TheVariants.{Ok, Err}
use Rattle.std.proofs.Math.Nat.{mul-le-mul_left}
use Rattle.std.proofs.Common.{◌≡◌, ◌≤◌, ◌<◌, ◌⊎◌, inl, inr, refl, sym, ap, ◌∙◌, ℕ, zero, suc, ◌+◌, ◌-◌, ◌*◌, true, List, [], ◌∷◌, ◌++◌, length, take, drop, get_or, if◌then◌else◌, arith, append_assoc}
use Rattle.std.specs.Prelude.{nat_le}
use Rattle.std.proofs.lemmas.List.{take_all, drop_all, append-nil, drop_more, get_or_past, length-take-le, length-drop}
use Rattle.std.proofs.lemmas.Bool.Decides.{nat_tests}
use Rattle.jfs_ranges.specs.declared.edit.Edit.{Edit}
use Rattle.jfs_ranges.specs.declared.edit.Edit.TheVariants.{Lines}
use Rattle.jfs_bits.specs.declared.rule.PageKind.{PageKind}
use Rattle.jfs_bits.specs.Line.{line_size}
use Rattle.jfs_ranges.specs.Apply.{place_of_line, byte_after, overlaid, apply_edit, apply_tx}
use Rattle.jfs_ranges.specs.declared.edit.Edit.TheVariants.{NoRedo, Alloc, Free}
use Rattle.jfs_tree.specs.Tell.{LeavesOthers, Turns}
use Rattle.std.specs.Prelude.{◌≢◌}

zero_more : (p : ℕ) → p ≡ p + 0
zero_more p = omega arith

one_more : (p n : ℕ) → suc p + n ≡ p + suc n
one_more p n = omega arith

suc_is : (a j : ℕ) → suc (a + j) ≡ a + (j + 1)
suc_is a j = omega arith

at_most : (a j : ℕ) → nat_le a (a + j) ≡ true
at_most a j = grind (arith, nat_tests)

minus : (a j : ℕ) → a + j - a ≡ j
minus a j = omega arith

byte_here : (at j : ℕ) (new : List ℕ) (x : ℕ) → byte_after at new (at + j) x ≡ get_or new j x
byte_here at j new x = ap (λ b. if b then get_or new (at + j - at) x else x) (at_most at j) ∙ ap (λ i. get_or new i x) (minus at j)

byte_low : (at place : ℕ) (new : List ℕ) (x : ℕ) → place < at → byte_after at new place x ≡ x
byte_low at place new x h = grind (arith, nat_tests)

byte_high : (at place : ℕ) (new : List ℕ) (x : ℕ) → at + length new ≤ place → byte_after at new place x ≡ x
byte_high at place new x h = let past = get_or_past new (place - at) x (omega (arith, h)) in grind (arith, nat_tests)

overlaid_append : (at : ℕ) (new : List ℕ) (place : ℕ) (xs ys : List ℕ) → overlaid at new place (xs ++ ys) ≡ overlaid at new place xs ++ overlaid at new (place + length xs) ys
overlaid_append at new place [] ys = ap (λ p. overlaid at new p ys) (zero_more place)
overlaid_append at new place (x ∷ xs) ys = ap (λ t. byte_after at new place x ∷ t) (overlaid_append at new (suc place) xs ys ∙ ap (λ p. overlaid at new (suc place) xs ++ overlaid at new p ys) (one_more place (length xs)))

overlaid_whole : (at j : ℕ) (new mid : List ℕ) → length mid + j ≡ length new → overlaid at new (at + j) mid ≡ drop j new
overlaid_whole at j new [] h = sym (drop_all j new (omega (arith, h)))
overlaid_whole at j new (x ∷ mid) h =
    let within : j < length new = omega (arith, h) in
    ap (λ t. t ∷ overlaid at new (suc (at + j)) mid) (byte_here at j new x)
    ∙ ap (λ p. get_or new j x ∷ overlaid at new p mid) (suc_is at j)
    ∙ ap (λ t. get_or new j x ∷ t) (overlaid_whole at (j + 1) new mid (omega (arith, h)))
    ∙ sym (drop_more new j x within)

-- nothing before or behind
overlaid_before : (at : ℕ) (new : List ℕ) (place : ℕ) (xs : List ℕ) → place + length xs ≤ at → overlaid at new place xs ≡ xs
overlaid_before at new place [] h = refl
overlaid_before at new place (x ∷ xs) h = ap (λ t. t ∷ overlaid at new (suc place) xs) (byte_low at place new x (omega (arith, h))) ∙ ap (λ t. x ∷ t) (overlaid_before at new (suc place) xs (omega (arith, h)))

overlaid_behind : (at : ℕ) (new : List ℕ) (place : ℕ) (xs : List ℕ) → at + length new ≤ place → overlaid at new place xs ≡ xs
overlaid_behind at new place [] h = refl
overlaid_behind at new place (x ∷ xs) h = ap (λ t. t ∷ overlaid at new (suc place) xs) (byte_high at place new x h) ∙ ap (λ t. x ∷ t) (overlaid_behind at new (suc place) xs (omega (arith, h)))

-- new bytes in the place of as many old ones
pub overlaid_run : (start : ℕ) (new xs mid rest : List ℕ) → length mid ≡ length new → overlaid (start + length xs) new start (xs ++ (mid ++ rest)) ≡ xs ++ (new ++ rest)
overlaid_run start new xs mid rest h =
    let at = start + length xs in
    overlaid_append at new start xs (mid ++ rest)
    ∙ ap (λ t. t ++ overlaid at new at (mid ++ rest)) (overlaid_before at new start xs (omega arith))
    ∙ ap (λ t. xs ++ t) (overlaid_append at new at mid rest)
    ∙ ap (λ t. xs ++ (t ++ overlaid at new (at + length mid) rest)) (ap (λ p. overlaid at new p mid) (zero_more at) ∙ overlaid_whole at 0 new mid (omega (arith, h)))
    ∙ ap (λ t. xs ++ (new ++ t)) (overlaid_behind at new (at + length mid) rest (omega (arith, h)))

pub apply_tx_append : (n : ℕ) (tx : List Edit) (edit : Edit) (content : List ℕ) → apply_tx n (tx ++ edit ∷ []) content ≡ apply_edit n edit (apply_tx n tx content)
apply_tx_append n [] edit content = refl
apply_tx_append n (e ∷ tx) edit content = apply_tx_append n tx edit (apply_edit n e content)

zero_is : (d : ℕ) → 0 + d ≡ d
zero_is d = omega arith

next_is : (a d : ℕ) → suc a + d ≡ suc (a + d)
next_is a d = omega arith

take_two : (a d : ℕ) (xs : List ℕ) → take (a + d) xs ≡ take a xs ++ take d (drop a xs)
take_two zero d xs = ap (λ k. take k xs) (zero_is d)
take_two (suc a) zero [] = ap (λ k. take k []) (next_is a zero)
take_two (suc a) (suc d) [] = ap (λ k. take k []) (next_is a (suc d))
take_two (suc a) d (x ∷ xs) = ap (λ k. take k (x ∷ xs)) (next_is a d) ∙ ap (λ t. x ∷ t) (take_two a d xs)

drop_two : (a d : ℕ) (xs : List ℕ) → drop a xs ≡ take d (drop a xs) ++ drop (a + d) xs
drop_two zero zero xs = ap (λ k. drop k xs) (sym (zero_is zero))
drop_two zero (suc d) [] = ap (λ k. drop k []) (sym (zero_is (suc d)))
drop_two zero (suc d) (x ∷ xs) = ap (λ t. x ∷ t) (drop_two zero d xs ∙ ap (λ k. take d xs ++ drop k xs) (zero_is d)) ∙ ap (λ k. (x ∷ take d xs) ++ drop k (x ∷ xs)) (sym (zero_is (suc d)))
drop_two (suc a) zero [] = ap (λ k. drop k []) (sym (next_is a zero))
drop_two (suc a) (suc d) [] = ap (λ k. drop k []) (sym (next_is a (suc d)))
drop_two (suc a) d (x ∷ xs) = drop_two a d xs ∙ ap (λ k. take d (drop a xs) ++ drop k (x ∷ xs)) (sym (next_is a d))

part_length : (a b : ℕ) (xs : List ℕ) → a < b → b ≤ 4096 → length xs ≡ 4096 → length (take (b - a) (drop a xs)) ≡ b - a
part_length a b xs order within size = let d = length-drop a xs in length-take-le (b - a) (drop a xs) (omega (arith, order, within, size, d))

same_length : (a b : ℕ) (new old : List ℕ) → a < b → b ≤ 4096 → length new ≡ 4096 → length old ≡ 4096 → length (take (b - a) (drop a old)) ≡ length (take (b - a) (drop a new))
same_length a b new old order within sn so = part_length a b old order within so ∙ sym (part_length a b new order within sn)

-- a run of lines is told
pub run_told : (n : ℕ) (kind : PageKind) (tx later : List Edit) (first a b : ℕ) (bytes new old content : List ℕ)
    → a ≡ line_size kind * first → a < b → b ≤ 4096 → length new ≡ 4096 → length old ≡ 4096
    → later ≡ tx ++ Lines n kind first bytes ∷ [] → bytes ≡ take (b - a) (drop a new)
    → apply_tx n tx content ≡ take a new ++ drop a old → apply_tx n later content ≡ take b new ++ drop b old
unfolding place_of_line
run_told n kind tx later first a b bytes new old content at order within size_new size_old told is h =
    let sum : a + (b - a) ≡ b = omega (arith, order) in
    let run = take (b - a) (drop a new) in
    let mid = take (b - a) (drop a old) in
    let front = length-take-le a new (omega (arith, order, within, size_new)) in
    ap (λ t. apply_tx n t content) told
    ∙ apply_tx_append n tx (Lines n kind first bytes) content
    ∙ ap (apply_edit n (Lines n kind first bytes)) h
    ∙ ap (λ t. overlaid (4096 * n + line_size kind * first) t (4096 * n) (take a new ++ drop a old)) is
    ∙ ap (λ p. overlaid (4096 * n + p) run (4096 * n) (take a new ++ drop a old)) (sym at ∙ sym front)
    ∙ ap (λ t. overlaid (4096 * n + length (take a new)) run (4096 * n) (take a new ++ t)) (drop_two a (b - a) old ∙ ap (λ k. mid ++ drop k old) sum)
    ∙ overlaid_run (4096 * n) run (take a new) mid (drop b old) (same_length a b new old order within size_new size_old)
    ∙ sym (append_assoc (take a new) run (drop b old))
    ∙ ap (λ t. t ++ drop b old) (sym (take_two a (b - a) new) ∙ ap (λ k. take k new) sum)

more_lines : (size a b : ℕ) → 0 < size → a < b → size * a < size * b
more_lines size a b h l = let m = mul-le-mul_left size l in omega (arith, m, h)

pub run_pushed : {F : Type 0} (n : ℕ) (kind : PageKind) (tx later : List Edit) (size first end : ℕ) (bytes new : List ℕ) (r : Result (Unit {0}) F)
    → size ≡ line_size kind → 0 < size → first < end → size * end ≤ 4096
    → OnOk r (later ≡ tx ++ Lines n kind first bytes ∷ []) → (length new ≡ 4096) × (bytes ≡ take (size * end - size * first) (drop (size * first) new))
    → OnOk r (Turns n size first end new tx later)
run_pushed n kind tx later size first end bytes new (Ok u) is some order within pushed b =
    λ content old size_old h. run_told n kind tx later first (size * first) (size * end) bytes new old content (ap (λ k. k * first) is) (more_lines size first end some order) within b.0 size_old pushed b.1 h
run_pushed n kind tx later size first end bytes new (Err f) is some order within pushed b = pushed

times_next : (size i : ℕ) → size * i + size ≡ size * (i + 1)
times_next size i = omega arith

no_less : (a : ℕ) → suc a ≤ zero → ⊥
no_less a h = omega (arith, h)

pub less_or : (a b : ℕ) → a ≤ b → (a < b) ⊎ (a ≡ b)
less_or zero zero h = inr refl
less_or zero (suc b) h = inl (omega arith)
less_or (suc a) zero h = absurd (no_less a h)
less_or (suc a) (suc b) h = elim (less_or a b (omega (arith, h))) [ inl l ↦ inl (omega (arith, l)) | inr e ↦ inr (ap (λ k. suc k) e) ]

whole_past : (k : ℕ) (new old : List ℕ) → 4096 ≤ k → length new ≡ 4096 → length old ≡ 4096 → take k new ++ drop k old ≡ new
whole_past k new old h sn so =
    ap (λ t. t ++ drop k old) (take_all k new (omega (arith, sn, h))) ∙ ap (λ t. new ++ t) (drop_all k old (omega (arith, so, h))) ∙ append-nil new

length-overlaid : (at : ℕ) (new : List ℕ) (place : ℕ) (xs : List ℕ) → length (overlaid at new place xs) ≡ length xs
length-overlaid at new place [] = refl
length-overlaid at new place (x ∷ xs) = ap (λ k. suc k) (length-overlaid at new (suc place) xs)

length-apply_edit : (n : ℕ) (edit : Edit) (xs : List ℕ) → length (apply_edit n edit xs) ≡ length xs
length-apply_edit n (Lines page kind first bytes) xs = length-overlaid (place_of_line page kind first) bytes (4096 * n) xs
length-apply_edit n (NoRedo page) xs = refl
length-apply_edit n (Alloc run) xs = refl
length-apply_edit n (Free run) xs = refl

length-apply_tx : (n : ℕ) (tx : List Edit) (xs : List ℕ) → length (apply_tx n tx xs) ≡ length xs
length-apply_tx n [] xs = refl
length-apply_tx n (e ∷ tx) xs = length-apply_tx n tx (apply_edit n e xs) ∙ length-apply_edit n e xs

apart_by : (n m at len : ℕ) → m ≢ n → at + len ≤ 4096 → (4096 * m + 4096 ≤ 4096 * n + at) ⊎ (4096 * n + at + len ≤ 4096 * m)
apart_by n m at len ne within = elim (less_or_more m n ne) [
  | inl l ↦ inl (omega (arith, l))
  | inr l ↦ inr (omega (arith, l, within))
]
  where
    less_or_more : (a b : ℕ) → a ≢ b → (a < b) ⊎ (b < a)
    less_or_more a b ne = grind (arith, ne)

-- lines of one page leave the others
other_page : (n m : ℕ) (kind : PageKind) (first : ℕ) (bytes xs : List ℕ) → m ≢ n → line_size kind * first + length bytes ≤ 4096 → length xs ≡ 4096 → apply_edit m (Lines n kind first bytes) xs ≡ xs
unfolding place_of_line
other_page n m kind first bytes xs ne within size = elim (apart_by n m (line_size kind * first) (length bytes) ne within) [
  | inl l ↦ overlaid_before (4096 * n + line_size kind * first) bytes (4096 * m) xs (omega (arith, l, size))
  | inr l ↦ overlaid_behind (4096 * n + line_size kind * first) bytes (4096 * m) xs (omega (arith, l))
]

lines_length : (size first end : ℕ) (new : List ℕ) → size * first < size * end → size * end ≤ 4096 → length new ≡ 4096 → size * first + length (take (size * end - size * first) (drop (size * first) new)) ≤ 4096
lines_length size first end new order within sn = let h = part_length (size * first) (size * end) new order within sn in omega (arith, h, order, within)

pub others_pushed : {F : Type 0} (n : ℕ) (kind : PageKind) (tx later : List Edit) (size first end : ℕ) (bytes new : List ℕ) (r : Result (Unit {0}) F)
    → size ≡ line_size kind → 0 < size → first < end → size * end ≤ 4096
    → OnOk r (later ≡ tx ++ Lines n kind first bytes ∷ []) → (length new ≡ 4096) × (bytes ≡ take (size * end - size * first) (drop (size * first) new))
    → OnOk r (LeavesOthers n tx later)
others_pushed n kind tx later size first end bytes new (Ok u) is some order within pushed b = λ m ne content sized.
    ap (λ t. apply_tx m t content) pushed ∙ apply_tx_append m tx (Lines n kind first bytes) content
    ∙ other_page n m kind first bytes (apply_tx m tx content) ne
    (let l = lines_length size first end new (more_lines size first end some order) within b.0 in let e = ap length b.1 in let k = ap (λ s. s * first) is in omega (arith, l, e, k))
    (length-apply_tx m tx content ∙ sized)
others_pushed n kind tx later size first end bytes new (Err f) is some order within pushed b = pushed

pub others_more : (n : ℕ) (before tx later : List Edit) → LeavesOthers n before tx → LeavesOthers n tx later → LeavesOthers n before later
others_more n before tx later a b m ne content sized = b m ne content sized ∙ a m ne content sized

pub others_none : (n : ℕ) (tx : List Edit) → LeavesOthers n tx tx
others_none n tx m ne content sized = refl

-- a page that is told whole
pub whole_told : {F : Type 0} (n size lines : ℕ) (new : List ℕ) (tx later : List Edit) (r : Result (Unit {0}) F) → size * lines ≡ 4096 → length new ≡ 4096
    → OnOk r (Turns n size 0 lines new tx later) → OnOk r ((content : List ℕ) → length content ≡ 4096 → apply_tx n later content ≡ new)
whole_told n size lines new tx later (Ok u) all sn turns = λ content sized.
    let old = apply_tx n tx content in
    let so : length old ≡ 4096 = length-apply_tx n tx content ∙ sized in
    let none : 0 ≡ size * 0 = omega arith in
    turns content old so (ap (λ k. take k new ++ drop k old) none) ∙ whole_past (size * lines) new old (omega (arith, all)) sn so
whole_told n size lines new tx later (Err f) all sn turns = turns

-- a line that did not change is passed over
pub line_passed : (size end lines : ℕ) (new old : List ℕ) → size * lines ≡ 4096 → length new ≡ 4096 → length old ≡ 4096 → end ≤ lines
    → (end < lines → take size (drop (size * end) new) ≡ take size (drop (size * end) old))
    → take (size * end) new ++ drop (size * end) old ≡ take (size * (end + 1)) new ++ drop (size * (end + 1)) old
line_passed size end lines new old all sn so within same = elim (less_or end lines within) [
  | inl l ↦
      ap (λ t. take (size * end) new ++ t) (drop_two (size * end) size old ∙ ap (λ t. t ++ drop (size * end + size) old) (sym (same l)))
      ∙ sym (append_assoc (take (size * end) new) (take size (drop (size * end) new)) (drop (size * end + size) old))
      ∙ ap (λ t. t ++ drop (size * end + size) old) (sym (take_two (size * end) size new))
      ∙ ap (λ k. take k new ++ drop k old) (times_next size end)
  | inr e ↦
      let a : 4096 ≤ size * end = let m = ap (λ k. size * k) e in omega (arith, m, all) in
      let b : 4096 ≤ size * (end + 1) = let m = times_next size end in omega (arith, m, a) in
      whole_past (size * end) new old a sn so ∙ sym (whole_past (size * (end + 1)) new old b sn so)
]

pub loop_on : (n : ℕ) (before : List Edit) (size first end lines : ℕ) (new old : List ℕ) (tx later : List Edit)
    → size * lines ≡ 4096 → length new ≡ 4096 → length old ≡ 4096 → end ≤ lines
    → (end < lines → take size (drop (size * end) new) ≡ take size (drop (size * end) old))
    → ((content : List ℕ) → apply_tx n before content ≡ old → apply_tx n tx content ≡ take (size * first) new ++ drop (size * first) old)
    → Turns n size first end new tx later
    → LeavesOthers n before tx → LeavesOthers n tx later
    → (end + 1 ≤ lines + 1) × ((content : List ℕ) → apply_tx n before content ≡ old → apply_tx n later content ≡ take (size * (end + 1)) new ++ drop (size * (end + 1)) old) × LeavesOthers n before later
loop_on n before size first end lines new old tx later all sn so within same inv step others more =
    (omega (arith, within), (λ content h. step content old so (inv content h) ∙ line_passed size end lines new old all sn so within same), others_more n before tx later others more)

pub turn_none : (n size first end : ℕ) (new : List ℕ) (tx : List Edit) → first ≡ end → Turns n size first end new tx tx
turn_none n size first end new tx e content o so h = h ∙ ap (λ k. take (size * k) new ++ drop (size * k) o) e
