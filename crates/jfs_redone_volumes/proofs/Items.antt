-- What the maps keep after redo: bit by bit, and place by place.
use Rattle.std.proofs.Common.{◌≡◌, ◌⊎◌, ◌<◌, ◌≤◌, ◌*◌, ◌/◌, ◌%◌, ◌&&◌, ◌||◌, not, nat_lt, ℕ, Bool, true, false, if◌then◌else◌, List, length, map, get_or, refl, sym, ap, ◌∙◌, inl, inr, arith}
use Rattle.std.specs.Prelude.{Option, Some, None, is_some}
use Rattle.std.proofs.Math.Path.{fun_ext}
use Rattle.std.proofs.lemmas.Bool.{cases_Bool, cases_lt, cond-true, lt-ltb, le-ltb}
use Rattle.std.proofs.lemmas.List.{get_or-map, get_or_past, length-map}
use Rattle.std.proofs.lemmas.List.FromFn.{get_or-map-range_with_len, length-map-range_with_len}
use Rattle.jfs_bits.specs.Bits.{is_taken}
use Rattle.jfs_bits.specs.declared.descriptor.Pxd.{Pxd}
use Rattle.jfs_disk.specs.Image.{Image, page_of}
use Rattle.jfs_ranges.specs.declared.edit.Edit.{Edit}
use Rattle.jfs_iag.specs.Iag.{no_run}
use Rattle.jfs_imap.specs.Inodes.{bits_of}
use Rattle.jfs_super.specs.Rules.{blocks_of}
use Rattle.jfs_super.specs.declared.fields.Super.{Super}
use Rattle.jfs_recovery.specs.records.specs.Redo.{all_of, redone}
use Rattle.jfs_recovery.specs.objects.specs.Volume.{home, page_in, slot_of}
use Rattle.jfs_recovery.specs.objects.specs.Objects.{is_live}
use Rattle.jfs_recovery.specs.objects.specs.Image.{extent_place}
use Rattle.jfs_recovery.specs.Face.{Item, Value, Pages}
use Rattle.jfs_recovery.specs.Face.Item.{BlockBit, ExtentPlace}
use Rattle.jfs_recovery.specs.Face.Value.{At}
use Rattle.jfs_face.specs.Places.{Places, is_map_page}
use Rattle.jfs_face.specs.Items.{bit_of, place_of, used_by, extent_by, places, set_by}
use Rattle.jfs_face.specs.MapPages.{taken_by, inode_used_by, is_used_on, home_by}
use Rattle.jfs_face.specs.Redo.{items_redone, pages_redone}
use Rattle.jfs_face.specs.Volume.{items_on, volume_with}
use Rattle.jfs_face.proofs.InRow.{redo_law}
use Rattle.jfs_image_volumes.proofs.Read.{used_is, extents_are}
use Rattle.jfs_redo.specs.mount_rules.specs.Subject.{Subject, subject_of, volume}
use Rattle.jfs_redo.specs.mount_rules.specs.meaning.specs.Readers.{readers}
use Rattle.jfs_redo.specs.redo_steps.specs.Inodes.{AreInodesInUse}
use Rattle.jfs_redo.specs.redo_steps.specs.Pages.{ArePagesRedone}
use Rattle.jfs_redo.specs.redo_steps.specs.each.specs.Each.{Found, found_at, live_in}
use Rattle.jfs_redo.specs.redo_steps.specs.steps.specs.After.{used_after, extents_after}
use Rattle.jfs_redo.specs.Partly.{extents_then}
use Rattle.jfs_redo.proofs.Places.{extents-number}
use Rattle.jfs_mount_maps.specs.sets.specs.Sets.{extent_from}
use Rattle.jfs_redone_volumes.specs.Redone.{found_places, CanBeRedone}
use Rattle.jfs_redone_volumes.proofs.Places.{has_place}

module _ (s : Super) (txs : List (List Edit)) (old : Image) (can : CanBeRedone s txs old) where
  abbrev sub : Subject
  sub = subject_of s (page_of old)

  abbrev pl : Places
  pl = found_places s old

  abbrev items : Item → Value
  items = items_redone pl (page_of old) txs

  abbrev tx : List Edit
  tx = all_of txs

  -- ---- blocks

  used_then : (b : ℕ) → used_by items b ≡ used_after tx (volume sub).used b
  used_then b = ap bit_of (ap (set_by tx (BlockBit b)) (used_is (readers (blocks_of s)) (blocks_of s) s.agsize pl.numag s.ait2 s.aim2 (page_of old) can.pages b) ∙ redo_law.blocks tx (volume sub).used b)

  pub taken_same : (taken : ℕ → Bool) → ((b : ℕ) → b < blocks_of s → taken b ≡ used_after tx (volume sub).used b) → ((b : ℕ) → blocks_of s ≤ b → taken b ≡ true) → taken ≡ taken_by pl items
  taken_same taken are past = fun_ext (λ b. at b (cases_lt b (blocks_of s)))
    where
      at : (b : ℕ) → (b < blocks_of s) ⊎ (blocks_of s ≤ b) → taken b ≡ taken_by pl items b
      at b (inl low) = are b low ∙ sym (ap (λ (t : Bool). not t || used_by items b) (lt-ltb b (blocks_of s) low) ∙ used_then b)
      at b (inr high) = past b high ∙ sym (ap (λ (t : Bool). not t || used_by items b) (le-ltb b (blocks_of s) high))

  -- ---- inode extents

  abbrev were : List (Option ℕ)
  were = (volume sub).extents

  abbrev now : List (Option ℕ)
  now = extents_then s txs old

  extents_found : were ≡ (volume_with pl (page_of old)).extents
  extents_found = extents_are (readers (blocks_of s)) (blocks_of s) s.agsize pl.numag s.ait2 s.aim2 (page_of old) can.pages

  number_were : length were ≡ places pl
  number_were = ap length extents_found ∙ length-map-range_with_len (λ e. extent_place (extent_by (items_on pl (page_of old)) e)) 0 (places pl)

  was : (e : ℕ) → e < places pl → extent_place (extent_by (items_on pl (page_of old)) e) ≡ get_or were e None
  was e low = sym (ap (λ (es : List (Option ℕ)). get_or es e None) extents_found ∙ get_or-map-range_with_len (λ e. extent_place (extent_by (items_on pl (page_of old)) e)) 0 (places pl) e e None low (omega arith))

  length_after : (tx : List Edit) (es : List (Option ℕ)) → length (extents_after tx es) ≡ length es
  length_after tx es = extents-number tx es

  pub number_now : length now ≡ places pl
  number_now = length_after tx were ∙ number_were

  is_now : (e : ℕ) → e < places pl → extent_place (extent_by items e) ≡ get_or now e None
  is_now e low = redo_law.extents tx were e (items_on pl (page_of old) (ExtentPlace e)) (omega (arith, low, number_were)) (was e low)

  past_now : (e : ℕ) → places pl ≤ e → extent_by items e ≡ no_run
  past_now e high = ap place_of (can.items.extents e ∙ ap (λ (t : Bool). At (if t then extent_by items e else no_run)) (le-ltb e (places pl) high))

  pub extents_same : (λ e. get_or (map extent_from now) e no_run) ≡ extent_by items
  extents_same = fun_ext (λ e. at e (cases_lt e (places pl)))
    where
      at : (e : ℕ) → (e < places pl) ⊎ (places pl ≤ e) → get_or (map extent_from now) e no_run ≡ extent_by items e
      at e (inl low) = get_or-map extent_from now e None no_run (omega (arith, low, number_now)) ∙ ap extent_from (sym (is_now e low)) ∙ sym (can.extents e low)
      at e (inr high) = get_or_past (map extent_from now) e no_run (omega (arith, high, number_now, length-map now extent_from)) ∙ sym (past_now e high)

  -- ---- inodes

  homes_same : (n : ℕ) → home now n ≡ home_by items n
  homes_same n = at (cases_lt (n / 32) (places pl))
    where
      at : (n / 32 < places pl) ⊎ (places pl ≤ n / 32) → home now n ≡ home_by items n
      at (inl low) = ap (λ (o : Option ℕ). page_in o n) (sym (is_now (n / 32) low))
      at (inr high) = ap (λ (o : Option ℕ). page_in o n) (get_or_past now (n / 32) None (omega (arith, high, number_now)) ∙ sym (ap extent_place (past_now (n / 32) high)))

  module _ (redone_image : Image) (left : Pages) (pages : ArePagesRedone (blocks_of s) tx old redone_image) (same : (p : ℕ) → p < blocks_of s → left p ≡ page_of old p) where
    pub page_is : (p : ℕ) → p < blocks_of s → page_of redone_image p ≡ pages_redone left txs p
    page_is p low = pages.pages p ∙ cond-true (nat_lt p (blocks_of s)) (redone p (page_of old p) (page_of old p) tx) (page_of old p) (lt-ltb p (blocks_of s) low) ∙ ap (λ (a : List ℕ). redone p a a tx) (sym (same p low))

    live_same : (n : ℕ) (o : Option ℕ) → home now n ≡ o → is_some (live_in (page_of redone_image) n o) ≡ is_used_on pl (pages_redone left txs) n o
    live_same n None at = refl
    live_same n (Some p) at =
        some (is_live n (slot_of (page_of redone_image p) (n % 8))) (record { page = p; inode = slot_of (page_of redone_image p) (n % 8) })
        ∙ ap (λ (a : List ℕ). is_live n (slot_of a (n % 8))) (page_is p (can.homes n p at))
        ∙ sym (ap (λ (t : Bool). not t && is_live n (slot_of (pages_redone left txs p) (n % 8))) apart)
      where
        some : (t : Bool) (f : Found) → is_some (if t then Some f else None) ≡ t
        some true f = refl
        some false f = refl

        apart : is_map_page pl p ≡ false
        apart = by (cases_Bool (is_map_page pl p))
          where
            by : (is_map_page pl p ≡ true) ⊎ (is_map_page pl p ≡ false) → is_map_page pl p ≡ false
            by (inl e) = absurd (can.apart.homes n p at (has_place s txs old can p e))
            by (inr e) = e

    pub inodes_same : (set : List ℕ) → AreInodesInUse (page_of redone_image) now set → (λ i. get_or (bits_of (4096 * pl.iags) set) i false) ≡ inode_used_by pl (pages_redone left txs) items
    inodes_same set in_use = fun_ext (λ i. at i (cases_lt i (4096 * pl.iags)))
      where
        used : (i : ℕ) → is_some (found_at (page_of redone_image) now i) ≡ inode_used_by pl (pages_redone left txs) items i
        used i = live_same i (home now i) refl ∙ ap (is_used_on pl (pages_redone left txs) i) (homes_same i)

        at : (i : ℕ) → (i < 4096 * pl.iags) ⊎ (4096 * pl.iags ≤ i) → get_or (bits_of (4096 * pl.iags) set) i false ≡ inode_used_by pl (pages_redone left txs) items i
        at i (inl low) = get_or-map-range_with_len (is_taken set) 0 (4096 * pl.iags) i i false low (omega arith) ∙ in_use.bits i (omega (arith, low, number_now)) ∙ used i
        at i (inr high) =
            get_or_past (bits_of (4096 * pl.iags) set) i false (omega (arith, high, length-map-range_with_len (is_taken set) 0 (4096 * pl.iags)))
            ∙ sym (ap (λ (x : Pxd). is_used_on pl (pages_redone left txs) i (page_in (extent_place x) i)) (past_now (i / 32) (omega (arith, high))))
