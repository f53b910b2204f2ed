-- The file of the inode map is marked exactly where an entry changes a page of it, as the core counts it.
use Rattle.std.proofs.Common.{◌≡◌, ◌⊎◌, ◌<◌, ◌+◌, ◌*◌, ◌/◌, ◌%◌, ◌==◌, ◌||◌, ◌&&◌, not, refl, sym, ap, ◌∙◌, subst, ℕ, zero, suc, Bool, true, false, true≢false, if◌then◌else◌, List, length, get_or, set, Option, Some, None, is_some, inl, inr, arith, eqb-true}
use Rattle.std.proofs.Math.Path.{fun_ext}
use Rattle.std.proofs.lemmas.Bool.{cases_Bool, cases_eq, or_left, or_right, or_from, eq-eqb, ne_eqb}
use Rattle.std.proofs.lemmas.List.{get_or-set_same, get_or-set_other}
use Rattle.jfs_bits.specs.Bits.{any_below}
use Rattle.jfs_bits.specs.declared.descriptor.Pxd.{Pxd}
use Rattle.jfs_bits.proofs.Buds.{any_below-from, any_below-none}
use Rattle.jfs_iag.specs.Canonical.{has_free_inode, has_free_place}
use Rattle.jfs_iag.specs.Iag.{no_run}
use Rattle.jfs_ranges.specs.declared.edit.Edit.{Edit}
use Rattle.jfs_joined_held.specs.entered.proofs.InUse.{taken_fresh, taken_live, freed_live, freed_dead, inodes_law}
use Rattle.jfs_joined_held.specs.entered.proofs.Small.{last_extents}
use Rattle.jfs_joined_held.specs.entered.specs.Marked.{HasMarks, IsMapAfter}
use Rattle.jfs_joined_held.specs.entered.specs.marks.proofs.Fitted.{IsFoundedAs, says, lowest_is}
use Rattle.jfs_joined_held.specs.entered.specs.marks.specs.Changes.{tx_changes}
use Rattle.jfs_joined_held.specs.entered.specs.marks.specs.Founded.{founded_in}
use Rattle.jfs_joined_held.specs.entered.specs.marks.specs.Marks.{IsExtended, AreMarked, with_taken_if, with_freed_if}
use Rattle.jfs_joined_held.specs.entered.specs.marks.specs.declared.changes.Changes.{Changes}
use Rattle.jfs_joined_held.specs.entered.specs.marks.specs.declared.founded.Founded.{Founded}
use Rattle.jfs_joined_held.specs.entered.specs.marks.specs.declared.founded.NewExtent.{NewExtent}
use Rattle.jfs_joined_held.specs.entered.specs.marks.specs.declared.founded.Founded.TheVariants as founded
use Rattle.jfs_joined_held.specs.entered.specs.marks.specs.declared.marks.InodeMarks.{InodeMarks}
use Rattle.jfs_joined_held.specs.entered.specs.marks.specs.data_steps.specs.After.{after_writes}
use Rattle.jfs_joined_held.specs.entered.specs.marks.specs.data_steps.specs.declared.pages.DataPage.{DataPage}
use Rattle.jfs_joined_held.specs.entered.specs.marks.specs.imap.specs.Inodes.{Inodes, is_used, extent_at}
use Rattle.jfs_joined_held.specs.entered.specs.marks.specs.objects.specs.Objects.{Object, objects}
use Rattle.jfs_joined_held.specs.entered.specs.marks.specs.objects.specs.Volume.{Volume}
use Rattle.jfs_joined_held.specs.entered.specs.marks.specs.records.specs.declared.note.Note.{Note}
use Rattle.jfs_joined_held.specs.entered.specs.marks.specs.steps.specs.After.{four_from}
use Rattle.jfs_room.specs.bmap.specs.States.{Blocks}
use Rattle.jfs_room.specs.meaning.specs.Readers.{readers}
use Rattle.jfs_room.specs.way.specs.Volume.{volume_of}
use Rattle.jfs_joined_held.specs.held.specs.survival.specs.MapMarks.{inode_map_changes}
use Rattle.jfs_joined_held.specs.held.specs.survival.specs.face.specs.Items.{places, extent_by, place_of, set_by}
use Rattle.jfs_joined_held.specs.held.specs.survival.specs.face.specs.Marks.{any_puts, differ, used_before, used_after, extent_before, extent_after, iag_changes, lists_change, inode_page_changes}
use Rattle.jfs_joined_held.specs.held.specs.survival.specs.face.specs.Places.{Places}
use Rattle.jfs_joined_held.specs.held.specs.survival.specs.face.specs.Volume.{items_on}
use Rattle.jfs_joined_held.specs.held.specs.survival.specs.recovery.specs.Face.{Pages, Item, Value, IsStep}
use Rattle.jfs_joined_held.specs.held.specs.survival.specs.recovery.specs.Face.Item.{ExtentPlace}
use Rattle.jfs_joined_held.specs.held.specs.survival.specs.recovery.specs.Face.Value.{At}
use Rattle.jfs_joined_held.specs.held.specs.Held.{Mount, IsImageAt, face_at}
use Rattle.jfs_joined_held.specs.volume.specs.Stale.{changes_inodes}
use Rattle.jfs_pages_held.specs.Pages.{HasExtents}
use Rattle.jfs_pages_held.proofs.Founded.{placed, none_put, puts_one}
use Rattle.jfs_pages_held.proofs.Inodes.{own_used, item_then, used_then, then_in_room, before_in_room}

-- ---- small facts

same_differ : (a b : Bool) → a ≡ b → differ a b ≡ false
same_differ true true e = refl
same_differ false false e = refl
same_differ true false e = absurd (true≢false e)
same_differ false true e = absurd (true≢false (sym e))

differs : (a b : Bool) → a ≡ not b → differ a b ≡ true
differs true true e = absurd (true≢false e)
differs true false e = refl
differs false true e = refl
differs false false e = absurd (true≢false (sym e))

same_tests : (a b : Bool) → (a ≡ true → b ≡ true) → (a ≡ false → b ≡ false) → a ≡ b
same_tests true b up down = sym (up refl)
same_tests false b up down = sym (down refl)

module _ (m : Mount) (s t : Pages) (pages : ℕ → List ℕ) (area : ℕ → ℕ) (bm : Blocks) (inodes new : Inodes) (ds : List DataPage) (tx : List Edit) (notes : List Note) (marks : InodeMarks) (blocks : ℕ)
    (has : HasMarks blocks pages area bm inodes ds tx notes marks) (marked : AreMarked inodes marks new) (size : length inodes.extents ≡ places m.places)
    (before : IsImageAt m s (volume_of pages area bm inodes)) (follows : IsStep (face_at m) s tx t) (after : IsImageAt m t (after_writes blocks ds tx (volume_of pages area bm inodes)))
    (has_extents : HasExtents m.places s inodes) where
  abbrev pl : Places
  pl = m.places

  abbrev v : Volume
  v = volume_of pages area bm inodes

  abbrev w : Volume
  w = after_writes blocks ds tx v

  map_after : IsMapAfter blocks inodes new tx w
  map_after = inodes_law blocks pages area bm inodes new ds tx notes marks has marked

  founded_as : IsFoundedAs inodes (founded_in tx) marks.extent
  founded_as = let f = founded_in tx in let c = tx_changes blocks pages inodes f tx ds in (says inodes has.are.0 f c.taken c.freed marks has.are.1 (sym has.are.2)).extent_is

  -- ---- extents

  set_is : (e place : ℕ) (at : Pxd) → place < length inodes.extents → get_or (set inodes.extents place at) e no_run ≡ (if place == e then at else extent_at inodes e)
  set_is e place at l = by (cases_eq e place)
    where
      by : (e ≡ place) ⊎ (e ≡ place → ⊥) → get_or (set inodes.extents place at) e no_run ≡ (if place == e then at else extent_at inodes e)
      by (inl same) = ap (λ (k : ℕ). get_or (set inodes.extents place at) k no_run) same ∙ get_or-set_same inodes.extents place at no_run l ∙ sym (ap (λ (b : Bool). if b then at else extent_at inodes e) (eq-eqb place e (sym same)))
      by (inr ne) = get_or-set_other inodes.extents place e at no_run ne ∙ sym (ap (λ (b : Bool). if b then at else extent_at inodes e) (ne_eqb place e (λ same. ne (sym same))))

  placed_is : (y : NewExtent) (e : ℕ) (x : Value) → place_of (placed y e x) ≡ (if y.place == e then four_from y.first else place_of x)
  placed_is y e x = by (y.place == e)
    where
      by : (b : Bool) → place_of (if b then At (four_from y.first) else x) ≡ (if b then four_from y.first else place_of x)
      by true = refl
      by false = refl

  then_has : (e : ℕ) → extent_by (items_on pl t) e ≡ place_of (set_by tx (ExtentPlace e) (items_on pl s (ExtentPlace e)))
  then_has e = ap place_of (item_then m s t tx w follows after (ExtentPlace e))

  pub extents_then : HasExtents pl t new
  extents_then e = then_has e ∙ by (founded_in tx) refl founded_as ∙ sym (ap (λ (es : List Pxd). get_or es e no_run) (ap (λ (i : Inodes). i.extents) marked.is ∙ last_extents marks.taken marks.freed marked.mid))
    where
      by : (g : Founded) → founded_in tx ≡ g → IsFoundedAs inodes g marks.extent → place_of (set_by tx (ExtentPlace e) (items_on pl s (ExtentPlace e))) ≡ extent_at marked.mid e
      by founded.Nothing is said = ap place_of ((none_put tx founded.Nothing is).leaves e (items_on pl s (ExtentPlace e))) ∙ has_extents e
          ∙ sym (ap (λ (i : Inodes). extent_at i e) (subst (λ (x : Option Pxd). IsExtended inodes x marked.mid) said marked.extended))
      by (founded.One y) is said =
          let it : IsExtended inodes (Some (four_from y.first)) marked.mid = subst (λ (x : Option Pxd). IsExtended inodes x marked.mid) said.0 marked.extended in
          ap place_of ((puts_one tx y is).sets e (items_on pl s (ExtentPlace e))) ∙ placed_is y e (items_on pl s (ExtentPlace e))
          ∙ ap (λ (p : Pxd). if y.place == e then four_from y.first else p) (has_extents e)
          ∙ sym (set_is e y.place (four_from y.first) said.1.0)
          ∙ ap (λ (k : ℕ). get_or (set inodes.extents k (four_from y.first)) e no_run) (lowest_is inodes y.place it.0 said.1 it.1)
          ∙ sym (ap (λ (i : Inodes). extent_at i e) it.2)
      by founded.Several is said = absurd said

  -- ---- no marks

  used_is : (n : ℕ) → used_before pl s n ≡ is_used inodes n
  used_is n = own_used m s v before n

  used_now : (n : ℕ) → used_after pl s tx n ≡ is_used new n
  used_now n = used_then m s t tx w follows after n ∙ sym (map_after.in_use n)

  none_marked : changes_inodes marks ≡ false → (marks.extent ≡ None) × (marks.taken ≡ None) × (marks.freed ≡ None)
  none_marked e = by marks.extent marks.taken marks.freed refl refl refl e
    where
      by : (x : Option Pxd) (a b : Option ℕ) → marks.extent ≡ x → marks.taken ≡ a → marks.freed ≡ b → (is_some x || (is_some a || is_some b)) ≡ false → (marks.extent ≡ None) × (marks.taken ≡ None) × (marks.freed ≡ None)
      by None None None p q r e = (p, q, r)
      by None None (Some b) p q r e = absurd (true≢false e)
      by None (Some a) b p q r e = absurd (true≢false e)
      by (Some x) a b p q r e = absurd (true≢false e)

  module _ (quiet : changes_inodes marks ≡ false) where
    same_map : new ≡ inodes
    same_map = marked.is ∙ ap (λ (f : Option ℕ). with_freed_if f (with_taken_if marks.taken marked.mid)) (none_marked quiet).2 ∙ ap (λ (f : Option ℕ). with_taken_if f marked.mid) (none_marked quiet).1
        ∙ subst (λ (x : Option Pxd). IsExtended inodes x marked.mid) (none_marked quiet).0 marked.extended

    none_founded : founded_in tx ≡ founded.Nothing
    none_founded = by (founded_in tx) refl founded_as
      where
        by : (g : Founded) → founded_in tx ≡ g → IsFoundedAs inodes g marks.extent → founded_in tx ≡ founded.Nothing
        by founded.Nothing is said = is
        by (founded.One y) is said = absurd (let no = sym said.0 ∙ (none_marked quiet).0 in cc (no))
        by founded.Several is said = absurd said

    same_used : used_before pl s ≡ used_after pl s tx
    same_used = fun_ext (λ n. used_is n ∙ ap (λ (i : Inodes). is_used i n) (sym same_map) ∙ sym (used_now n))

    same_extents : extent_by (items_on pl s) ≡ extent_by (λ i. set_by tx i (items_on pl s i))
    same_extents = fun_ext (λ e. sym (ap place_of ((none_put tx founded.Nothing none_founded).leaves e (items_on pl s (ExtentPlace e)))))

    no_iag : (k : ℕ) → iag_changes pl s tx k ≡ false
    no_iag k = or_from (any_below 4096 (λ i. differ (used_before pl s (4096 * k + i)) (used_after pl s tx (4096 * k + i)))) (any_below 128 (λ e. any_puts tx (128 * k + e)))
        (any_below-none 4096 (λ i. differ (used_before pl s (4096 * k + i)) (used_after pl s tx (4096 * k + i))) (λ i l. same_differ (used_before pl s (4096 * k + i)) (used_after pl s tx (4096 * k + i)) (ap (λ (u : ℕ → Bool). u (4096 * k + i)) same_used)))
        (any_below-none 128 (λ e. any_puts tx (128 * k + e)) (λ e l. (none_put tx founded.Nothing none_founded).puts_none (128 * k + e)))

    no_lists : lists_change pl s tx ≡ false
    no_lists = any_below-none pl.iags (λ k.
        differ (has_free_inode (used_before pl s) (extent_by (items_on pl s)) k) (has_free_inode (used_after pl s tx) (extent_by (λ i. set_by tx i (items_on pl s i))) k)
        || differ (extent_before pl s k) (extent_after pl s tx k))
        (λ k l. or_from (differ (has_free_inode (used_before pl s) (extent_by (items_on pl s)) k) (has_free_inode (used_after pl s tx) (extent_by (λ i. set_by tx i (items_on pl s i))) k)) (differ (extent_before pl s k) (extent_after pl s tx k))
        (same_differ (has_free_inode (used_before pl s) (extent_by (items_on pl s)) k) (has_free_inode (used_after pl s tx) (extent_by (λ i. set_by tx i (items_on pl s i))) k)
        (ap (λ (u : ℕ → Bool). has_free_inode u (extent_by (items_on pl s)) k) same_used ∙ ap (λ (x : ℕ → Pxd). has_free_inode (used_after pl s tx) x k) same_extents))
        (same_differ (extent_before pl s k) (extent_after pl s tx k) (ap (λ (x : ℕ → Pxd). has_free_place x k) same_extents)))

    no_page : (k : ℕ) → inode_page_changes pl s tx k ≡ false
    no_page zero = any_below-none pl.iags (λ k. iag_changes pl s tx k) (λ k l. no_iag k)
    no_page (suc k) = or_from (iag_changes pl s tx k) (lists_change pl s tx) (no_iag k) no_lists

    no_change : inode_map_changes pl s tx ≡ false
    no_change = any_below-none (suc pl.iags) (λ k. inode_page_changes pl s tx k) (λ k l. no_page k)

  -- ---- marks

  some_iag : (k : ℕ) → k < pl.iags → iag_changes pl s tx k ≡ true → inode_map_changes pl s tx ≡ true
  some_iag k l e = any_below-from (suc pl.iags) (λ j. inode_page_changes pl s tx j) 0 (omega (arith, l)) (any_below-from pl.iags (λ j. iag_changes pl s tx j) k l e)

  at_inode : (n : ℕ) → n < 4096 * pl.iags → used_before pl s n ≡ not (used_after pl s tx n) → inode_map_changes pl s tx ≡ true
  at_inode n l e = some_iag (n / 4096) (omega (arith, l)) (or_left (any_below 4096 (λ i. differ (used_before pl s (4096 * (n / 4096) + i)) (used_after pl s tx (4096 * (n / 4096) + i)))) (any_below 128 (λ i. any_puts tx (128 * (n / 4096) + i)))
      (any_below-from 4096 (λ i. differ (used_before pl s (4096 * (n / 4096) + i)) (used_after pl s tx (4096 * (n / 4096) + i))) (n % 4096) (omega arith)
      (subst (λ (j : ℕ). differ (used_before pl s j) (used_after pl s tx j) ≡ true) (let here : n ≡ 4096 * (n / 4096) + n % 4096 = omega arith in here) (differs (used_before pl s n) (used_after pl s tx n) e))))

  at_place : (e : ℕ) → e < places pl → any_puts tx e ≡ true → inode_map_changes pl s tx ≡ true
  at_place e l put = some_iag (e / 128) (omega (arith, l)) (or_right (any_below 4096 (λ i. differ (used_before pl s (4096 * (e / 128) + i)) (used_after pl s tx (4096 * (e / 128) + i)))) (any_below 128 (λ i. any_puts tx (128 * (e / 128) + i)))
      (any_below-from 128 (λ i. any_puts tx (128 * (e / 128) + i)) (e % 128) (omega arith)
      (subst (λ (j : ℕ). any_puts tx j ≡ true) (let here : e ≡ 128 * (e / 128) + e % 128 = omega arith in here) put)))

  objects_before : (n : ℕ) → used_before pl s n ≡ is_some (objects (readers blocks) v n)
  objects_before n = used_is n ∙ has.before.sound.agrees.inodes n

  objects_after : (n : ℕ) → used_after pl s tx n ≡ is_some (objects (readers blocks) w n)
  objects_after n = used_then m s t tx w follows after n ∙ has.after.sound.agrees.inodes n

  with_extent : (at : Pxd) → marks.extent ≡ Some at → inode_map_changes pl s tx ≡ true
  with_extent at e = by (founded_in tx) refl founded_as
    where
      by : (g : Founded) → founded_in tx ≡ g → IsFoundedAs inodes g marks.extent → inode_map_changes pl s tx ≡ true
      by founded.Nothing is said = absurd (let no = sym said ∙ e in cc (no))
      by (founded.One y) is said = at_place y.place (let low = said.1.0 in omega (arith, low, size)) (puts_one tx y is).puts_it
      by founded.Several is said = absurd said

  with_taken : (n : ℕ) → marks.taken ≡ Some n → inode_map_changes pl s tx ≡ true
  with_taken n e =
      let was = objects_before n ∙ taken_fresh blocks pages area bm inodes ds tx notes marks has n e in
      let now = objects_after n ∙ taken_live blocks pages area bm inodes ds tx notes marks has n e in
      at_inode n (then_in_room m s t tx w follows after n now) (was ∙ sym (ap not now))

  with_freed : (n : ℕ) → marks.freed ≡ Some n → inode_map_changes pl s tx ≡ true
  with_freed n e =
      let was = objects_before n ∙ freed_live blocks pages area bm inodes ds tx notes marks has n e in
      let now = objects_after n ∙ freed_dead blocks pages area bm inodes ds tx notes marks has n e in
      at_inode n (before_in_room m s n was) (was ∙ sym (ap not now))

  some_marked : changes_inodes marks ≡ true → inode_map_changes pl s tx ≡ true
  some_marked e = by marks.extent marks.taken marks.freed refl refl refl e
    where
      by : (x : Option Pxd) (a b : Option ℕ) → marks.extent ≡ x → marks.taken ≡ a → marks.freed ≡ b → (is_some x || (is_some a || is_some b)) ≡ true → inode_map_changes pl s tx ≡ true
      by (Some x) a b p q r e = with_extent x p
      by None (Some a) b p q r e = with_taken a q
      by None None (Some b) p q r e = with_freed b r
      by None None None p q r e = absurd (true≢false (sym e))

  pub inodes_marked : changes_inodes marks ≡ inode_map_changes pl s tx
  inodes_marked = same_tests (changes_inodes marks) (inode_map_changes pl s tx) some_marked no_change
