-- Where inodes stand after a transaction, and what stands in a slot.
use Rattle.std.proofs.Common.{◌≡◌, ◌<◌, inl, inr, refl, sym, ap, ◌∙◌, subst, ℕ, ◌+◌, ◌/◌, ◌%◌, Bool, true, false, true≢false, ◌&&◌, ◌==◌, if◌then◌else◌, List, length, get_or, set, map, Option, Some, None, is_some, arith, eqb-true}
use Rattle.std.proofs.lemmas.Bool.{and_parts, eq-eqb}
use Rattle.std.proofs.lemmas.List.{get_or-set_same, get_or-set_other, length-map}
use Rattle.jfs_bits.specs.Broken.{first_broken}
use Rattle.jfs_bits.proofs.Broken.{each_holds}
use Rattle.jfs_bits.specs.declared.rule.Rule.TheVariants as rules
use Rattle.jfs_inode.specs.Rules.{rows}
use Rattle.jfs_inode.specs.declared.fields.Dinode.{Dinode}
use Rattle.jfs_marks.specs.imap.specs.Inodes.{Inodes, home_of}
use Rattle.jfs_ranges.specs.declared.edit.Edit.{Edit}
use Rattle.jfs_marks.specs.objects.specs.Image.{extent_place}
use Rattle.jfs_marks.specs.objects.specs.Readers.{Readers}
use Rattle.jfs_marks.specs.objects.specs.Volume.{Volume, home, page_in, slot_of}
use Rattle.jfs_marks.specs.objects.specs.Objects.{objects, spelled, is_live}
use Rattle.jfs_marks.specs.objects.proofs.Found.{object_at, no_object_at}
use Rattle.jfs_room.specs.meaning.specs.Consistent.{IsConsistent}
use Rattle.jfs_room.specs.way.proofs.Places.{home_is}
use Rattle.jfs_marks.specs.steps.specs.After.{extents_after}
use Rattle.jfs_marks.specs.declared.founded.Founded.{Founded}
use Rattle.jfs_marks.specs.declared.founded.NewExtent.{NewExtent}
use Rattle.jfs_marks.specs.declared.founded.Founded.TheVariants.{Nothing, One, Several}
use Rattle.jfs_marks.specs.Founded.{founded_in}
use Rattle.jfs_marks.specs.Standing.{home_with, is_page, standing_as}
use Rattle.jfs_entered.proofs.Extents.{none_founded, one_founded, FoundedBy, OneFounded}

-- ---- where inodes stand

-- one extent at the most is added, at a place of the map
abbrev pub InPlace : Inodes → Founded → Type 0
InPlace inodes Nothing = Unit {0}
InPlace inodes (One x) = x.place < length inodes.extents
InPlace inodes Several = ⊥

abbrev pub places : Inodes → List (Option ℕ)
places inodes = map extent_place inodes.extents

pub extents_one : (tx : List Edit) (x : NewExtent) → founded_in tx ≡ One x → FoundedBy tx x
extents_one tx x e = by (one_founded tx Nothing x e)
  where
    by : OneFounded tx Nothing x → FoundedBy tx x
    by (inl h) = h.1
    by (inr h) = let g = h.0 in absurd (cc (g))

pub home_after : (inodes : Inodes) (tx : List Edit) (f : Founded) → founded_in tx ≡ f → InPlace inodes f → (n : ℕ) → home (extents_after tx (places inodes)) n ≡ home_with inodes f n
home_after inodes tx Nothing e at n = ap (λ (extents : List (Option ℕ)). home extents n) ((none_founded tx Nothing e).1 (places inodes)) ∙ home_is inodes n
home_after inodes tx Several e at n = absurd at
home_after inodes tx (One x) e at n = ap (λ (extents : List (Option ℕ)). home extents n) ((extents_one tx x e).extents (places inodes)) ∙ by (n / 32 == x.place) refl
  where
    within : x.place < length (places inodes)
    within = let l = length-map inodes.extents extent_place in omega (arith, at, l)

    by : (b : Bool) → (n / 32 == x.place) ≡ b → home (set (places inodes) x.place (Some x.first)) n ≡ (if b then Some (x.first + n % 32 / 8) else home_of inodes n)
    by true h = ap (λ (k : ℕ). page_in (get_or (set (places inodes) x.place (Some x.first)) k None) n) (eqb-true (n / 32) x.place h)
        ∙ ap (λ (o : Option ℕ). page_in o n) (get_or-set_same (places inodes) x.place (Some x.first) None within)
    by false h = ap (λ (o : Option ℕ). page_in o n) (get_or-set_other (places inodes) x.place (n / 32) (Some x.first) None (λ same. true≢false (sym (eq-eqb (n / 32) x.place same) ∙ h))) ∙ home_is inodes n

-- ---- what stands in a slot

pub record Stands (inodes : Inodes) (f : Founded) (p slot : ℕ) (d : Dinode) (n : ℕ) : Type 0 where
  pub slot_is : n % 8 ≡ slot
  pub at : home_with inodes f n ≡ Some p
  pub number : d.number ≡ n
  pub live : is_live n d ≡ true

is_page_of : (p : ℕ) (x : Option ℕ) → is_page p x ≡ true → x ≡ Some p
is_page_of p None h = absurd (true≢false (sym h))
is_page_of p (Some q) h = ap Some (eqb-true q p h)

pub stands_out : (inodes : Inodes) (f : Founded) (p slot : ℕ) (d : Dinode) (n : ℕ) → standing_as inodes f p slot d ≡ Some n → Stands inodes f p slot d n
stands_out inodes f p slot d n h = by (d.number % 8 == slot && (is_page p (home_with inodes f d.number) && is_live d.number d)) refl h
  where
    number : {a b : ℕ} → Some a ≡ Some b → a ≡ b
    number h = cc (h)

    by : (b : Bool) → (d.number % 8 == slot && (is_page p (home_with inodes f d.number) && is_live d.number d)) ≡ b → (if b then Some d.number else None) ≡ Some n → Stands inodes f p slot d n
    by false e h = absurd (cc (h))
    by true e h =
        let parts = and_parts (d.number % 8 == slot) (is_page p (home_with inodes f d.number) && is_live d.number d) e in
        let more = and_parts (is_page p (home_with inodes f d.number)) (is_live d.number d) parts.1 in
        subst (λ (m : ℕ). Stands inodes f p slot d m) (number h)
        (record { slot_is = eqb-true (d.number % 8) slot parts.0; at = is_page_of p (home_with inodes f d.number) more.0; number = refl; live = more.1 })

pub stands_in : (inodes : Inodes) (f : Founded) (p slot : ℕ) (d : Dinode) (n : ℕ) → Stands inodes f p slot d n → standing_as inodes f p slot d ≡ Some n
stands_in inodes f p slot d n s = subst (λ (m : ℕ). (if m % 8 == slot && (is_page p (home_with inodes f m) && is_live m d) then Some m else None) ≡ Some n) (sym s.number)
    (rw (eq-eqb (n % 8) slot s.slot_is, s.at, eq-eqb p p refl, s.live) refl)

-- ---- objects and slots

pub live_at : (r : Readers) (v : Volume) (n p : ℕ) → home v.extents n ≡ Some p → is_some (objects r v n) ≡ is_live n (slot_of (v.page p) (n % 8))
live_at r v n p h = by (is_live n (slot_of (v.page p) (n % 8))) refl
  where
    by : (x : Bool) → is_live n (slot_of (v.page p) (n % 8)) ≡ x → is_some (objects r v n) ≡ x
    by true l = ap is_some (object_at r v n p (slot_of (v.page p) (n % 8)) h refl l)
    by false l = ap is_some (no_object_at r v n p (slot_of (v.page p) (n % 8)) h refl l)

first_row : (d : Dinode) (n : ℕ) → first_broken (rows d n) ≡ None → (d.number == n) ≡ true
unfolding rows
first_row d n h = each_holds (rows d n) 0 (record { answer = record { rule = rules.Fields; value = 0 }; holds = true }) h refl

inode_is : (r : Readers) (page : ℕ → List ℕ) (d : Dinode) → (spelled r page d).inode ≡ d
unfolding spelled
inode_is r page d = refl

-- an inode that is in use has its number
pub number_at : (r : Readers) (v : Volume) (n p : ℕ) → IsConsistent r v → home v.extents n ≡ Some p → is_live n (slot_of (v.page p) (n % 8)) ≡ true → (slot_of (v.page p) (n % 8)).number ≡ n
number_at r v n p c h l = let d = slot_of (v.page p) (n % 8) in eqb-true d.number n (first_row d n
    (ap (λ (x : Dinode). first_broken (rows x n)) (sym (inode_is r v.page d)) ∙ c.inodes n (spelled r v.page d) (object_at r v n p d h refl l)))
