-- A new inode extent: from its edit to the step that adds it.
use Rattle.std.proofs.Common.{◌≡◌, ◌≤◌, ◌<◌, ◌⊎◌, refl, sym, ap, ◌∙◌, inl, inr, ℕ, zero, suc, ◌+◌, ◌-◌, ◌*◌, ◌/◌, Bool, true, false, true≢false, ◌&&◌, ◌||◌, eq-eqb, nat_le, nat_lt, if◌then◌else◌, List, [], ◌∷◌, ◌++◌, length, length-append, append_assoc, take, drop, get_or, set, Option, Some, None, arith}
use Rattle.std.proofs.lemmas.Bool.{cases_lt, lt-ltb}
use Rattle.std.proofs.lemmas.Bool.Decides.{nat_tests}
use Rattle.std.proofs.lemmas.List.{drop_more, take-append-le, append-nil}
use Rattle.std.proofs.Math.Seq.{drop-append_seam, take-append_seam}
use Rattle.jfs_bits.specs.Field.{field_of, range_of}
use Rattle.jfs_bits.proofs.Parts.{field-in_part, part-is}
use Rattle.jfs_bits.specs.declared.rule.PageKind.TheVariants as kinds
use Rattle.jfs_ranges.specs.declared.edit.Edit.{Edit}
use Rattle.jfs_ranges.specs.declared.edit.Edit.TheVariants.{Lines}
use Rattle.jfs_ranges.specs.Apply.{overlaid, byte_after, place_of_line, apply_tx}
use Rattle.jfs_ranges.specs.Laid.{put_tx}
use Rattle.jfs_ranges.proofs.OnTop.{put_onto}
use Rattle.jfs_ranges.proofs.Overlaid.{overlaid-none}
use Rattle.jfs_link.specs.objects.specs.Volume.{Volume, slot_of}
use Rattle.jfs_link.specs.objects.specs.Owners.{bit, extent_has, run_has}
use Rattle.jfs_link.specs.objects.specs.Changes.{AddsExtent}
use Rattle.jfs_link.specs.steps.specs.After.{is_extent, place_in, four_from, with_run, used_after, extents_after, takes}
use Rattle.jfs_link.specs.steps.proofs.After.{used_onto, extents_onto}
use Rattle.jfs_link.specs.steps.proofs.Sets.{takes_onto}
use Rattle.jfs_link.specs.steps.proofs.Puts.{put_past}
use Rattle.jfs_create.specs.Extent.{IsFreePage}
use Rattle.jfs_create.specs.declared.extent.NewExtent.{NewExtent}

abbrev one_if : Bool → ℕ
one_if x = if x then 1 else 0

-- ---- bytes over pages

-- where new bytes lie all over a part, they are there
overlaid_whole : (at : ℕ) (new : List ℕ) (place : ℕ) (xs : List ℕ) → at ≤ place → (place - at) + length xs ≤ length new → overlaid at new place xs ≡ take (length xs) (drop (place - at) new)
overlaid_whole at new place [] h w = refl
overlaid_whole at new place (x ∷ xs) h w =
    let k = place - at in
    let here : byte_after at new place x ≡ get_or new k x = grind (arith, nat_tests) in
    let next : suc place - at ≡ k + 1 = omega arith in
    let rest : overlaid at new (suc place) xs ≡ take (length xs) (drop (k + 1) new) =
    overlaid_whole at new (suc place) xs (omega arith) (omega arith) ∙ ap (λ (j : ℕ). take (length xs) (drop j new)) next in
    rw (here, rest) (sym (ap (λ (ys : List ℕ). take (suc (length xs)) ys) (drop_more new k x (omega arith))))

-- a page among others
part_of : (before page after : List ℕ) (at : ℕ) → at ≡ length before → take (length page) (drop at (before ++ (page ++ after))) ≡ page
part_of before page after at e = ap (λ (k : ℕ). take (length page) (drop k (before ++ (page ++ after)))) e ∙ ap (take (length page)) (drop-append_seam before (page ++ after)) ∙ take-append_seam page after

over_page : (start number : ℕ) (before page after content : List ℕ) → 4096 * number ≡ start + length before → length page ≡ 4096 → length content ≡ 4096 → overlaid start (before ++ (page ++ after)) (4096 * number) content ≡ page
over_page start number before page after content at size whole =
    overlaid_whole start (before ++ (page ++ after)) (4096 * number) content (omega (arith, at)) (let l = length-append before (page ++ after) in let m = length-append page after in omega (arith, l, m, at, size, whole))
    ∙ ap (λ (k : ℕ). take k (drop (4096 * number - start) (before ++ (page ++ after)))) (whole ∙ sym size) ∙ part_of before page after (4096 * number - start) (omega (arith, at))

module _ (extent : NewExtent) (one two three four : List ℕ) (first : IsFreePage extent 0 one) (second : IsFreePage extent 8 two) (third : IsFreePage extent 16 three) (fourth : IsFreePage extent 24 four) where
  abbrev addr : ℕ
  addr = extent.run.addr

  abbrev bytes : List ℕ
  bytes = one ++ (two ++ (three ++ four))

  size : length bytes ≡ 16384
  size = let a = length-append one (two ++ (three ++ four)) in let b = length-append two (three ++ four) in let c = length-append three four in let w = first.size in let x = second.size in let y = third.size in let z = fourth.size in omega (arith, a, b, c, w, x, y, z)

  -- none of its inodes has a name
  free_slots : (from : ℕ) (page : List ℕ) → IsFreePage extent from page → (k : ℕ) → k < 8 → (slot_of page k).nlink ≡ 0
  free_slots from page free k l = ap (λ d. d.nlink) (free.slots k l)

  second_at : bytes ≡ one ++ (two ++ (three ++ four))
  second_at = refl

  third_at : bytes ≡ (one ++ two) ++ (three ++ four)
  third_at = sym (append_assoc one two (three ++ four))

  fourth_at : bytes ≡ ((one ++ two) ++ three) ++ (four ++ [])
  fourth_at = third_at ∙ sym (append_assoc (one ++ two) three four) ∙ ap (λ (x : List ℕ). ((one ++ two) ++ three) ++ x) (sym (append-nil four))

  -- its pages, as they are laid over what stood there
  page_of_four : (d : ℕ) → d < 4 → (content : List ℕ) → length content ≡ 4096 → (from : ℕ) × (page : List ℕ) × IsFreePage extent from page × (overlaid (4096 * addr) bytes (4096 * (addr + d)) content ≡ page)
  page_of_four zero l content whole = (0, one, first, over_page (4096 * addr) (addr + 0) [] one (two ++ (three ++ four)) content (omega arith) first.size whole)
  page_of_four (suc zero) l content whole = (8, two, second, over_page (4096 * addr) (addr + 1) one two (three ++ four) content (let w = first.size in omega (arith, w)) second.size whole)
  page_of_four (suc (suc zero)) l content whole = (
    16,
    three,
    third,
    ap (λ (x : List ℕ). overlaid (4096 * addr) x (4096 * (addr + 2)) content) third_at
        ∙ over_page (4096 * addr) (addr + 2) (one ++ two) three four content (let a = length-append one two in let w = first.size in let x = second.size in omega (arith, a, w, x)) third.size whole,
  )
  page_of_four (suc (suc (suc zero))) l content whole = (
    24,
    four,
    fourth,
    ap (λ (x : List ℕ). overlaid (4096 * addr) x (4096 * (addr + 3)) content) fourth_at
        ∙ over_page (4096 * addr) (addr + 3) ((one ++ two) ++ three) four [] content (let a = length-append one two in let b = length-append (one ++ two) three in let w = first.size in let x = second.size in let y = third.size in omega (arith, a, b, w, x, y)) fourth.size whole,
  )
  page_of_four (suc (suc (suc (suc d)))) l content whole = absurd (omega (arith, l))

  -- ---- the number that the first inode has

  number_at : field_of bytes 8 4 ≡ extent.first
  number_at = sym (field-in_part bytes 0 512 8 4 (omega arith)) ∙ ap (λ (part : List ℕ). field_of part 8 4) same_front ∙ ap (λ d. d.number) (first.slots 0 (omega arith)) ∙ (omega arith)
    where
      same_front : range_of bytes 0 512 ≡ range_of one (512 * 0) 512
      same_front = sym (part-is bytes 0 512) ∙ (let w = first.size in take-append-le 512 one (two ++ (three ++ four)) (omega (arith, w))) ∙ part-is one 0 512

  is_one : is_extent kinds.Inode 0 bytes ≡ true
  is_one = eq-eqb (length bytes) 16384 size

  -- ---- the step

  module _ (blocks : ℕ) (base : ℕ → List ℕ) (tx later : List Edit) (told : later ≡ tx ++ Lines addr kinds.Inode 0 bytes ∷ []) (v w : Volume) (here : v.page ≡ put_tx blocks tx base) (page : w.page ≡ put_tx blocks later base)
      (place : ℕ) (numbers : extent.first ≡ 32 * place) (inside : addr + 4 ≤ blocks) (whole : (b : ℕ) → b < blocks → length (v.page b) ≡ 4096) (behind : 0 < place) (few : place < length v.extents) (none : get_or v.extents place None ≡ None)
      (fresh : (b : ℕ) → 0 < extent_has (Some addr) b → v.used b ≡ false) (extents : w.extents ≡ set v.extents place (Some addr)) (used : w.used ≡ used_after (Lines addr kinds.Inode 0 bytes ∷ []) v.used) (area : w.area ≡ v.area)
      (in_use : w.in_use ≡ v.in_use) where
    abbrev edit : List Edit
    edit = Lines addr kinds.Inode 0 bytes ∷ []

    pages_are : w.page ≡ put_tx blocks edit v.page
    pages_are = page ∙ ap (λ (all : List Edit). put_tx blocks all base) told ∙ put_onto blocks tx edit base ∙ ap (put_tx blocks edit) (sym here)

    laid_at : (b : ℕ) → b < blocks → w.page b ≡ overlaid (4096 * addr) bytes (4096 * b) (v.page b)
    unfolding place_of_line
    laid_at b l = ap (λ (pages : ℕ → List ℕ). pages b) pages_are ∙ ap (λ (x : Bool). if x then apply_tx b edit (v.page b) else v.page b) (lt-ltb b blocks l)
        ∙ ap (λ (at : ℕ). overlaid at bytes (4096 * b) (v.page b)) same
      where
        same : 4096 * addr + 128 * 0 ≡ 4096 * addr
        same = omega arith

    outside : (b : ℕ) → extent_has (Some addr) b ≡ 0 → (b < addr) ⊎ (addr + 4 ≤ b)
    outside b h = by (nat_le addr b && nat_lt b (addr + 4)) refl h
      where
        by : (x : Bool) → (nat_le addr b && nat_lt b (addr + 4)) ≡ x → one_if x ≡ 0 → (b < addr) ⊎ (addr + 4 ≤ b)
        by true e h = absurd (omega (arith, h))
        by false e h = grind (arith, nat_tests, e)

    keeps : (b : ℕ) → extent_has (Some addr) b ≡ 0 → w.page b ≡ v.page b
    keeps b h = elim (cases_lt b blocks) [
      | inr past ↦ ap (λ (pages : ℕ → List ℕ). pages b) pages_are ∙ put_past blocks edit v.page b past
      | inl l ↦ laid_at b l ∙ overlaid-none (4096 * addr) bytes (4096 * b) (v.page b) (elim (outside b h) [
        | inl before ↦ inl (let s = whole b l in omega (arith, s, before))
        | inr after ↦ inr (let s = size in omega (arith, s, after))
      ])
    ]

    empty : (d k : ℕ) → d < 4 → k < 8 → (slot_of (w.page (addr + d)) k).nlink ≡ 0
    empty d k l m = let p = page_of_four d l (v.page (addr + d)) (whole (addr + d) (omega (arith, inside, l))) in
        ap (λ (page : List ℕ). (slot_of page k).nlink) (laid_at (addr + d) (omega (arith, inside, l)) ∙ p.3) ∙ free_slots p.0 p.1 p.2 k m

    counted : (b : ℕ) → bit (w.used b) ≡ bit (v.used b) + extent_has (Some addr) b
    counted b = ap (λ (f : ℕ → Bool). bit (f b)) used ∙ ap (λ (x : Bool). bit ((if x then with_run (four_from addr) v.used else v.used) b)) is_one
        ∙ by (nat_le addr b && nat_lt b (addr + 4)) (v.used b) (fresh b)
      where
        by : (x y : Bool) → (0 < (if x then 1 else 0) → y ≡ false) → bit (x || y) ≡ bit y + (if x then 1 else 0)
        by true true h = absurd (true≢false (h (omega arith)))
        by true false h = refl
        by false true h = refl
        by false false h = refl

    pub adds : AddsExtent v w place addr
    adds = record {
      later = behind;
      within = few;
      none = none;
      fresh = fresh;
      used = counted;
      keeps = keeps;
      empty = empty;
      extents = extents;
      area = area;
      in_use = in_use;
    }

  -- it enters the extent at its place
  pub extents_are : (tx later : List Edit) → later ≡ tx ++ Lines addr kinds.Inode 0 bytes ∷ [] → (place : ℕ) → extent.first ≡ 32 * place → (extents : List (Option ℕ)) → extents_after later extents ≡ set (extents_after tx extents) place (Some addr)
  extents_are tx later told place numbers extents = ap (λ (all : List Edit). extents_after all extents) told ∙ extents_onto tx (Lines addr kinds.Inode 0 bytes ∷ []) extents
      ∙ ap (λ (x : Bool). if x then set (extents_after tx extents) (place_in bytes) (Some addr) else extents_after tx extents) is_one
      ∙ ap (λ (k : ℕ). set (extents_after tx extents) k (Some addr)) (ap (λ (n : ℕ). n / 32) (number_at ∙ numbers) ∙ placed place)
    where
      placed : (k : ℕ) → 32 * k / 32 ≡ k
      placed k = omega arith

  -- it takes its four blocks
  pub takes_are : (tx later : List Edit) → later ≡ tx ++ Lines addr kinds.Inode 0 bytes ∷ [] → (b : ℕ) → takes later b ≡ run_has (four_from addr) b + takes tx b
  takes_are tx later told b = ap (λ (all : List Edit). takes all b) told ∙ takes_onto tx (Lines addr kinds.Inode 0 bytes ∷ []) b ∙ (let e = ap (λ (x : Bool). if x then run_has (four_from addr) b else 0) is_one in omega (arith, e))

  pub used_are : (tx later : List Edit) → later ≡ tx ++ Lines addr kinds.Inode 0 bytes ∷ [] → (used : ℕ → Bool) → used_after later used ≡ used_after (Lines addr kinds.Inode 0 bytes ∷ []) (used_after tx used)
  used_are tx later told used = ap (λ (all : List Edit). used_after all used) told ∙ used_onto tx (Lines addr kinds.Inode 0 bytes ∷ []) used
