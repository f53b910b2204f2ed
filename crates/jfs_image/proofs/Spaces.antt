-- Free runs of blocks, and the room of an image.
use Rattle.std.proofs.Common.{◌≡◌, ◌<◌, inl, inr, refl, sym, ap, ◌∙◌, subst, ℕ, zero, suc, ◌+◌, ◌*◌, ◌/◌, ◌==◌, Bool, true, false, not, ◌&&◌, nat_lt, if◌then◌else◌, length, Option, Some, None, is_some, arith}
use Rattle.std.proofs.lemmas.Bool.{cases_lt}
use Rattle.std.proofs.lemmas.List.FromFn.{length-map-range_with_len, get_or-map-range_with_len}
use Rattle.jfs_bits.specs.Bits.{all_below, any_below, count_below, is_free, is_free_run}
use Rattle.jfs_disk.specs.Image.{Image, page_of}
use Rattle.jfs_super.specs.Rules.{IsAccepted}
use Rattle.jfs_super.specs.declared.fields.Super.{Super}
use Rattle.jfs_reader.specs.objects.specs.Volume.{room}
use Rattle.jfs_reader.specs.objects.specs.Objects.{Object}
use Rattle.jfs_reader.specs.objects.specs.Image.{extent_on, extents_on, iags_on}
use Rattle.jfs_reader.specs.meaning.specs.Image.{room_of}
use Rattle.jfs_reader.specs.meaning.specs.Room.{or_else, lowest, is_free_inode, is_empty_place, first_of, has_run}
use Rattle.jfs_owners.specs.Counts.{Counts}
use Rattle.jfs_owners.specs.Held.{owned_below}
use Rattle.jfs_owners.proofs.SetBits.{tested}
use Rattle.jfs_owners.specs.mount_rules.specs.Subject.{object, volume, blocks}
use Rattle.jfs_image.specs.Image.{HasTree, super_on, subject_on}
use Rattle.jfs_image.specs.View.{image_of}
use Rattle.jfs_image.specs.Opened.{IsOpened}
use Rattle.jfs_image.specs.Tallied.{IsTallied}
use Rattle.jfs_image.specs.Room.{FreshIs, IsRoomOf}
use Rattle.jfs_image.specs.declared.room.Room.{Room}
use Rattle.jfs_image.specs.declared.tallied.Tally.{Tally}
use Rattle.jfs_image.specs.declared.opened.Opened.{Opened}
use Rattle.jfs_image.proofs.Grown.{none_past}
use Rattle.jfs_image.proofs.Lowest.{lowest_same}
use Rattle.jfs_image.proofs.Whole.{iags_are}

-- ---- four blocks

pub all_next : (n m : ℕ) (f : ℕ → Bool) → m ≡ n + 1 → all_below n f ≡ true → f n ≡ true → all_below m f ≡ true
unfolding all_below
all_next n m f e all here = let k : m ≡ suc n = omega (arith, e) in subst (λ (j : ℕ). all_below j f ≡ true) (sym k) (rw (all, here) refl)

all_fails : (n i : ℕ) (f : ℕ → Bool) → i < n → f i ≡ false → all_below n f ≡ false
unfolding all_below
all_fails zero i f l no_one = absurd (omega (arith, l))
all_fails (suc n) i f l isnt = elim (cases_lt i n) [
  | inl h ↦ ap (λ (b : Bool). b && f n) (all_fails n i f h isnt)
  | inr h ↦ (let same : n ≡ i = omega (arith, l, h) in ap (λ (b : Bool). all_below n f && b) (ap f same ∙ isnt) ∙ never (all_below n f))
]
  where
    never : (b : Bool) → (b && false) ≡ false
    never true = refl
    never false = refl

-- the blocks of run `j`
abbrev pub free_in : (ℕ → ℕ) → ℕ → ℕ → Bool
free_in count j i = not (not (count (j * 4 + i) == 0))

pub free_run : (count : ℕ → ℕ) (j : ℕ) → all_below 4 (free_in count j) ≡ true → is_free_run (λ b. not (count b == 0)) 2 j ≡ true
unfolding is_free
free_run count j e = e

pub owned_run : (count : ℕ → ℕ) (j i : ℕ) → i < 4 → free_in count j i ≡ false → is_free_run (λ b. not (count b == 0)) 2 j ≡ false
unfolding is_free
owned_run count j i l e = all_fails 4 i (free_in count j) l e

pub all_none : (f : ℕ → Bool) → all_below 0 f ≡ true
unfolding all_below
all_none f = refl

pub owned_in : (count : ℕ → ℕ) (j i b : ℕ) (r : Bool) → b ≡ j * 4 + i → r ≡ nat_lt 0 (count b) → r ≡ true → free_in count j i ≡ false
owned_in count j i b r at told it = ap (λ (k : ℕ). not (not (count k == 0))) (sym at) ∙ ap not (sym (tested (count b)) ∙ sym told ∙ it)

pub unowned_in : (count : ℕ → ℕ) (j i b : ℕ) (r : Bool) → b ≡ j * 4 + i → r ≡ nat_lt 0 (count b) → r ≡ false → free_in count j i ≡ true
unowned_in count j i b r at told isnt = ap (λ (k : ℕ). not (not (count k == 0))) (sym at) ∙ ap not (sym (tested (count b)) ∙ sym told ∙ isnt)

-- a place with an extent, and one without
pub empty_there : (o x : Option ℕ) (r : Bool) → o ≡ x → is_some o ≡ not r → r ≡ true → not (is_some x) ≡ true
empty_there o x r e told it = ap (λ (y : Option ℕ). not (is_some y)) (sym e) ∙ ap not (told ∙ ap not it)

pub empty_not : (o x : Option ℕ) (r : Bool) → o ≡ x → is_some o ≡ not r → r ≡ false → not (is_some x) ≡ false
empty_not o x r e told isnt = ap (λ (y : Option ℕ). not (is_some y)) (sym e) ∙ ap not (told ∙ ap not isnt)

-- ---- the room

module _ (image : Image) (opened : Opened) (is : IsOpened image opened) where
  pub room_is : 4096 * opened.map.iags ≡ room (volume (subject_on image))
  unfolding extents_on
  room_is = let e = iags_are image opened is in let l = length-map-range_with_len (extent_on (subject_on image).readers (page_of image)) 0 (128 * iags_on (subject_on image).readers (page_of image)) in omega (arith, e, l)

  places_are : 128 * opened.map.iags ≡ length (volume (subject_on image)).extents
  places_are = let e = room_is in omega (arith, e)

  pub has_tree : (t : Tally) → IsTallied image (4096 * opened.map.iags) t → HasTree image
  has_tree t told = record {
    pages = is.super.pages;
    super = subst (λ (s : Super). IsAccepted s (length image)) is.super.is is.super.accepted;
    mount = is.mount;
    inodes = λ n o at. by_place n (λ l. told.inodes n o l at) (λ none. absurd (nothing o (sym none ∙ at)));
    trees = λ n o at. by_place n (λ l. told.trees n o l at) (λ none. absurd (nothing o (sym none ∙ at)));
  }
    where
      nothing : (o : Object) → (let none : Option Object = None in none ≡ Some o) → ⊥
      nothing o e = cc

      by_place : {X : Type 0} (n : ℕ) → (n < 4096 * opened.map.iags → X) → (object (subject_on image) n ≡ None → X) → X
      by_place n below past = elim (cases_lt n (4096 * opened.map.iags)) [
        | inl l ↦ below l
        | inr l ↦ past (none_past image n (4096 * opened.map.iags) (ap (λ (k : ℕ). 4096 * k) (iags_are image opened is)) l)
      ]

  pub whole_counts : (t : Tally) → IsTallied image (4096 * opened.map.iags) t → Counts t.owners (owned_below (subject_on image).readers (volume (subject_on image)) (room (volume (subject_on image))))
  whole_counts t told = subst (λ (m : ℕ). Counts t.owners (owned_below (subject_on image).readers (volume (subject_on image)) m)) room_is told.counts

  pub free_are : (t : Tally) (n : ℕ) → IsTallied image (4096 * opened.map.iags) t → ((count : ℕ → ℕ) → Counts t.owners count → n ≡ count_below t.owners.blocks (λ b. count b == 0)) → n ≡ (room_of (super_on image) (page_of image)).free
  free_are t n told counted =
      counted (owned_below (subject_on image).readers (volume (subject_on image)) (room (volume (subject_on image)))) (whole_counts t told)
      ∙ ap (λ (k : ℕ). count_below k (λ b. owned_below (subject_on image).readers (volume (subject_on image)) (room (volume (subject_on image))) b == 0)) told.blocks_are

  or_there : (o other : Option ℕ) → is_some o ≡ true → o ≡ or_else o other
  or_there None other e = absurd cc
  or_there (Some n) other e = refl

  lowest_is : (t : Tally) → IsTallied image (4096 * opened.map.iags) t → t.free ≡ lowest (room (volume (subject_on image))) (is_free_inode (subject_on image).readers (volume (subject_on image)))
  lowest_is t told = told.free_is ∙ ap (λ (m : ℕ). lowest m (is_free_inode (subject_on image).readers (volume (subject_on image)))) room_is

  pub fresh_free : (t : Tally) → IsTallied image (4096 * opened.map.iags) t → is_some t.free ≡ true → FreshIs image t.free
  fresh_free t told some =
      or_there t.free (if has_run (subject_on image).readers (volume (subject_on image)) (blocks (subject_on image)) then first_of (lowest (length (volume (subject_on image)).extents) (is_empty_place (volume (subject_on image)))) else None) some
      ∙ ap (λ (o : Option ℕ). or_else o (if has_run (subject_on image).readers (volume (subject_on image)) (blocks (subject_on image)) then first_of (lowest (length (volume (subject_on image)).extents) (is_empty_place (volume (subject_on image)))) else None)) (lowest_is t told)

  no_free : (o : Option ℕ) → is_some o ≡ false → o ≡ None
  no_free None e = refl
  no_free (Some n) e = absurd cc

  run_is : (t : Tally) (run : Bool) → IsTallied image (4096 * opened.map.iags) t → ((count : ℕ → ℕ) → Counts t.owners count → run ≡ any_below (t.owners.blocks / 4) (is_free_run (λ b. not (count b == 0)) 2))
      → run ≡ has_run (subject_on image).readers (volume (subject_on image)) (blocks (subject_on image))
  run_is t run told counted =
      counted (owned_below (subject_on image).readers (volume (subject_on image)) (room (volume (subject_on image)))) (whole_counts t told)
      ∙ ap (λ (k : ℕ). any_below (k / 4) (is_free_run (λ b. not (owned_below (subject_on image).readers (volume (subject_on image)) (room (volume (subject_on image))) b == 0)) 2)) told.blocks_are

  pub fresh_none : (t : Tally) (run : Bool) → IsTallied image (4096 * opened.map.iags) t → is_some t.free ≡ false
      → ((count : ℕ → ℕ) → Counts t.owners count → run ≡ any_below (t.owners.blocks / 4) (is_free_run (λ b. not (count b == 0)) 2)) → run ≡ false → FreshIs image None
  fresh_none t run told full counted isnt =
      ap (λ (b : Bool). or_else None (if b then first_of (lowest (length (volume (subject_on image)).extents) (is_empty_place (volume (subject_on image)))) else None)) (sym isnt ∙ run_is t run told counted)
      ∙ ap (λ (o : Option ℕ). or_else o (if has_run (subject_on image).readers (volume (subject_on image)) (blocks (subject_on image)) then first_of (lowest (length (volume (subject_on image)).extents) (is_empty_place (volume (subject_on image)))) else None))
      (sym (no_free t.free full) ∙ lowest_is t told)

  place_is : lowest (128 * opened.map.iags) (λ e. not (is_some (extent_on (subject_on image).readers (page_of image) e))) ≡ lowest (length (volume (subject_on image)).extents) (is_empty_place (volume (subject_on image)))
  unfolding extents_on
  place_is =
      lowest_same (128 * opened.map.iags) (λ e. not (is_some (extent_on (subject_on image).readers (page_of image) e))) (is_empty_place (volume (subject_on image)))
      (λ e l. ap (λ (o : Option ℕ). not (is_some o)) (sym (get_or-map-range_with_len (extent_on (subject_on image).readers (page_of image)) 0 (128 * iags_on (subject_on image).readers (page_of image)) e e None (let k = iags_are image opened is in omega (arith, l, k)) (omega arith))))
      ∙ ap (λ (n : ℕ). lowest n (is_empty_place (volume (subject_on image)))) places_are

  pub fresh_place : (t : Tally) (run : Bool) (place : Option ℕ) → IsTallied image (4096 * opened.map.iags) t → is_some t.free ≡ false
      → ((count : ℕ → ℕ) → Counts t.owners count → run ≡ any_below (t.owners.blocks / 4) (is_free_run (λ b. not (count b == 0)) 2)) → run ≡ true
      → place ≡ lowest (128 * opened.map.iags) (λ e. not (is_some (extent_on (subject_on image).readers (page_of image) e))) → FreshIs image (first_of place)
  fresh_place t run place told full counted there low =
      ap first_of (low ∙ place_is)
      ∙ ap (λ (b : Bool). or_else None (if b then first_of (lowest (length (volume (subject_on image)).extents) (is_empty_place (volume (subject_on image)))) else None)) (sym there ∙ run_is t run told counted)
      ∙ ap (λ (o : Option ℕ). or_else o (if has_run (subject_on image).readers (volume (subject_on image)) (blocks (subject_on image)) then first_of (lowest (length (volume (subject_on image)).extents) (is_empty_place (volume (subject_on image)))) else None))
      (sym (no_free t.free full) ∙ lowest_is t told)

pub reopened : (image : Image) (opened : Opened) → IsOpened image opened → IsOpened (image_of opened.view) opened
reopened image opened is = subst (λ (i : Image). IsOpened i opened) (sym is.image_is) is

-- what was told of the view's pages is the image's room
pub room_told : (image : Image) (opened : Opened) → IsOpened image opened → (t : Tally) (told : Room) → IsTallied (image_of opened.view) (4096 * opened.map.iags) t
    → ((count : ℕ → ℕ) → Counts t.owners count → told.free ≡ count_below t.owners.blocks (λ b. count b == 0)) → FreshIs (image_of opened.view) told.inode → IsRoomOf image told
room_told image opened is t told counted free inode = subst (λ (i : Image). IsRoomOf i told) is.image_is (record {
  has = has_tree (image_of opened.view) opened (reopened image opened is) t counted;
  free_are = free_are (image_of opened.view) opened (reopened image opened is) t told.free counted free;
  inode_is = inode;
})
