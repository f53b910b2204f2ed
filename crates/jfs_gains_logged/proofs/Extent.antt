-- A new inode extent is told whole.
use Rattle.std.proofs.Common.{◌≡◌, ◌⊎◌, ◌<◌, ◌≤◌, ◌+◌, ◌-◌, ◌*◌, ◌&&◌, ◌||◌, nat_le, nat_lt, if◌then◌else◌, ℕ, Bool, true, false, List, [], ◌∷◌, length, get_or, Option, Some, refl, sym, ap, ◌∙◌, inl, inr, arith}
use Rattle.std.proofs.lemmas.Bool.{cases_Bool, and_parts, and_from, ltb-true, leb-true, lt-ltb, le-leb}
use Rattle.std.proofs.lemmas.List.{ext_get_or}
use Rattle.jfs_bits.specs.declared.rule.PageKind.TheVariants as kinds
use Rattle.jfs_ranges.specs.declared.edit.Edit.{Edit}
use Rattle.jfs_ranges.specs.declared.edit.Edit.TheVariants.{Lines}
use Rattle.jfs_ranges.specs.Apply.{apply_tx, place_of_line, touches_tx}
use Rattle.jfs_ranges.specs.Laid.{applied_length}
use Rattle.jfs_create.specs.link.specs.objects.specs.Readers.{Readers}
use Rattle.jfs_create.specs.link.specs.objects.specs.Volume.{Volume}
use Rattle.jfs_create.specs.link.specs.objects.specs.Owners.{IsSound, bit, extent_has}
use Rattle.jfs_create.specs.link.specs.objects.specs.Changes.{AddsExtent}
use Rattle.jfs_create.specs.link.specs.objects.proofs.Sums.{zero_or_more}
use Rattle.jfs_names_logged.specs.calls_logged.specs.logged.specs.recovery.specs.Lines.{rest_of, LogsWhole}
use Rattle.jfs_names_logged.specs.calls_logged.specs.logged.specs.recovery.proofs.Lines.{whole_given}
use Rattle.jfs_names_logged.specs.calls_logged.specs.logged.specs.recovery.specs.crash_core.proofs.Bytes.{apply_tx-untouched}
use Rattle.jfs_names_logged.specs.calls_logged.specs.logged.specs.recovery.specs.kinds.specs.Owner.{Owner, is_logged}
use Rattle.jfs_names_logged.specs.calls_logged.specs.logged.specs.recovery.specs.kinds.proofs.Edits.{edit_law}
use Rattle.jfs_names_logged.specs.calls_logged.specs.logged.specs.recovery.specs.kinds.proofs.Stay.{is_free}
use Rattle.jfs_names_logged.specs.calls_logged.specs.logged.specs.Logged.{logged_in, LeavesPage}
use Rattle.jfs_names_logged.specs.calls_logged.specs.logged.specs.Own.{LogsPart}
use Rattle.jfs_names_logged.specs.calls_logged.specs.logged.proofs.Edited.{edits_law}
use Rattle.jfs_names_logged.specs.calls_logged.specs.logged.proofs.Joined.{never}
use Rattle.jfs_names_logged.specs.calls_logged.specs.logged.proofs.Written.{area_used}

abbrev one_if : Bool → ℕ
one_if x = if x then 1 else 0

module _ (addr : ℕ) (bytes : List ℕ) (size : length bytes ≡ 16384) where
  abbrev pub edit : List Edit
  edit = Lines addr kinds.Inode 0 bytes ∷ []

  -- where its first byte goes
  abbrev place : ℕ
  place = 4096 * addr + 128 * 0

  -- it puts no byte into another page
  outside : (q : ℕ) → extent_has (Some addr) q ≡ 0 → touches_tx q edit ≡ false
  unfolding place_of_line
  outside q none = by (cases_Bool (nat_lt place (4096 * q + 4096) && nat_lt (4096 * q - place) (length bytes)))
    where
      false_or : (a : Bool) → a ≡ false → (a || false) ≡ false
      false_or false e = refl
      false_or true e = absurd (cc (e))

      here : (x : Bool) → one_if x ≡ 0 → x ≡ false
      here true h = absurd (omega (arith, h))
      here false h = refl

      far : nat_lt place (4096 * q + 4096) ≡ true → nat_lt (4096 * q - place) (length bytes) ≡ true → (nat_le addr q && nat_lt q (addr + 4)) ≡ true
      far a b = let low = ltb-true place (4096 * q + 4096) a in let high = ltb-true (4096 * q - place) (length bytes) b in both (omega (arith, low)) (omega (arith, low, high, size))
        where
          both : addr ≤ q → q < addr + 4 → (nat_le addr q && nat_lt q (addr + 4)) ≡ true
          both l h = and_from (nat_le addr q) (nat_lt q (addr + 4)) (le-leb addr q l) (lt-ltb q (addr + 4) h)

      by : ((nat_lt place (4096 * q + 4096) && nat_lt (4096 * q - place) (length bytes)) ≡ true) ⊎ ((nat_lt place (4096 * q + 4096) && nat_lt (4096 * q - place) (length bytes)) ≡ false)
          → ((nat_lt place (4096 * q + 4096) && nat_lt (4096 * q - place) (length bytes)) || false) ≡ false
      by (inr e) = false_or (nat_lt place (4096 * q + 4096) && nat_lt (4096 * q - place) (length bytes)) e
      by (inl e) =
          let parts = and_parts (nat_lt place (4096 * q + 4096)) (nat_lt (4096 * q - place) (length bytes)) e in
          never (nat_le addr q && nat_lt q (addr + 4)) (far parts.0 parts.1) (here (nat_le addr q && nat_lt q (addr + 4)) none)

  -- and gives all of its own
  module _ (q : ℕ) (inside : 0 < extent_has (Some addr) q) where
    bounds : (addr ≤ q) × (q < addr + 4)
    bounds = by (nat_le addr q && nat_lt q (addr + 4)) refl inside
      where
        by : (x : Bool) → (nat_le addr q && nat_lt q (addr + 4)) ≡ x → 0 < (if x then 1 else 0) → (addr ≤ q) × (q < addr + 4)
        by true e l = let parts = and_parts (nat_le addr q) (nat_lt q (addr + 4)) e in (leb-true addr q parts.0, ltb-true q (addr + 4) parts.1)
        by false e l = absurd (omega (arith, l))

    from_here : place ≤ 4096 * q
    from_here = let b = bounds.0 in omega (arith, b)

    to_here : 4096 * q + 4096 ≤ place + length bytes
    to_here = let b = bounds.1 in omega (arith, b, size)

    whole : LogsWhole q edit
    unfolding place_of_line rest_of
    whole = record {
      front = [];
      back = [];
      page = addr;
      kind = kinds.Inode;
      first = 0;
      bytes = bytes;
      rest = refl;
      begins = from_here;
      ends = to_here;
    }

    rest_is : rest_of q edit ≡ edit
    unfolding rest_of
    rest_is = refl

    over : (a b : List ℕ) → length a ≡ 4096 → length b ≡ 4096 → apply_tx q edit a ≡ apply_tx q edit b
    over a b s t = ext_get_or 0 (apply_tx q edit a) (apply_tx q edit b) (applied_length q edit a ∙ s ∙ sym (applied_length q edit b ∙ t)) (λ i l.
        ap (λ (e : List Edit). get_or (apply_tx q e a) i 0) (sym rest_is) ∙ whole_given edit q whole i (let n = applied_length q edit a in omega (arith, l, n, s)) a b s t)

  -- ---- the step

  module _ (r : Readers) (v w : Volume) (sound : IsSound r v) (place : ℕ) (added : AddsExtent v w place addr) (pages : (q : ℕ) → w.used q ≡ true → w.page q ≡ apply_tx q edit (v.page q)) (sizes : (q : ℕ) → 0 < extent_has (Some addr) q → length (v.page q) ≡ 4096) where
    others : (q : ℕ) → logged_in r w q ≡ false → LeavesPage q edit × (logged_in r v q ≡ false)
    others q out = ((λ a s. apply_tx-untouched q edit a s (outside q none)), before (cases_Bool (v.used q)) (cases_Bool (w.used q)))
      where
        none : extent_has (Some addr) q ≡ 0
        none = elim (zero_or_more (extent_has (Some addr) q)) [
          | inl z ↦ z
          | inr l ↦ never (logged_in r w q) (ap (λ (o : Option Owner). is_logged o) (edit_law.comes r v w place addr sound added q l)) out
        ]

        before : (v.used q ≡ true) ⊎ (v.used q ≡ false) → (w.used q ≡ true) ⊎ (w.used q ≡ false) → logged_in r v q ≡ false
        before (inr free) k = ap (λ (o : Option Owner). is_logged o) (is_free r v sound.agrees q free)
        before (inl used) (inl still) = ap (λ (o : Option Owner). is_logged o) (sym (edit_law.adds r v w place addr sound added q used still)) ∙ out
        before (inl used) (inr free) = absurd (let u = added.used q in let a = ap bit used in let b = ap bit free in omega (arith, u, a, b))

    -- what comes into use is the extent's, and none of it is a fixed area's
    in_extent : (q : ℕ) → v.used q ≡ false → w.used q ≡ true → 0 < extent_has (Some addr) q
    in_extent q free used = let u = added.used q in let f = ap bit free in let b = ap bit used in omega (arith, u, f, b)

    no_area : (q : ℕ) → 0 < v.area q → extent_has (Some addr) q ≡ 0
    no_area q area = elim (zero_or_more (extent_has (Some addr) q)) [
      | inl z ↦ z
      | inr l ↦ never (v.used q) (area_used r v sound.agrees q area) (added.fresh q l)
    ]

    told : (q : ℕ) → v.used q ≡ false → w.used q ≡ true → (a : List ℕ) → length a ≡ 4096 → apply_tx q edit a ≡ w.page q
    told q free used a s = let inside = in_extent q free used in over q inside a (v.page q) s (sizes q inside) ∙ sym (pages q used)

    pub extent_logged : LogsPart r v w edit
    extent_logged = edits_law.adds r v w place addr edit sound added (record {
      areas = λ q. ap (λ (f : ℕ → ℕ). f q) added.area;
      pages = λ q was now. pages q now;
      freed = λ q some. absurd (cc (some));
      others = λ q none out. others q out;
      whole = λ q free used in_log a s. told q free used a s;
      untold = λ q area a s. apply_tx-untouched q edit a s (outside q (no_area q area));
      comes = λ q free used. inl (ap (λ (o : Option Owner). is_logged o) (edit_law.comes r v w place addr sound added q (in_extent q free used)));
    })
