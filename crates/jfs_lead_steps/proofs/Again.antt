-- What an inode is in a volume, and still is after steps on other objects.
use Rattle.std.proofs.Common.{◌≡◌, ◌≤◌, ◌<◌, refl, sym, ap, ◌∙◌, inl, inr, ℕ, ◌*◌, ◌%◌, Bool, true, false, ◌==◌, nat_le, if◌then◌else◌, List, length, Option, Some, None, is_some, Ok, arith}
use Rattle.std.proofs.lemmas.Bool.Decides.{nat_tests}
use Rattle.std.specs.Int.RustNames.{bit_and}
use Rattle.std.specs.List.{list_any}
use Rattle.jfs_bits.specs.Broken.{first_broken}
use Rattle.jfs_bits.proofs.Parts.{length-range_of}
use Rattle.jfs_inode.specs.Inode.{inode_at}
use Rattle.jfs_inode.specs.Rules.{known_types, rows}
use Rattle.jfs_inode.specs.declared.fields.Dinode.{Dinode}
use Rattle.jfs_inode.specs.declared.read.BadInode.{BadInode}
use Rattle.jfs_name.specs.declared.name.NameEntry.{NameEntry}
use Rattle.jfs_meaning.specs.dtree.specs.Spells.{spells_names}
use Rattle.jfs_meaning.specs.objects.specs.Readers.{Readers}
use Rattle.jfs_meaning.specs.objects.specs.Volume.{Volume, home, slot_of}
use Rattle.jfs_meaning.specs.objects.specs.Objects.{Object, objects, spelled, is_live, has_names, listed}
use Rattle.jfs_meaning.specs.objects.specs.Owners.{IsSound}
use Rattle.jfs_meaning.specs.objects.specs.Changes.{put}
use Rattle.jfs_meaning.specs.objects.proofs.Found.{object_at, no_object_at, no_home}
use Rattle.jfs_meaning.specs.objects.proofs.Sums.{put_here, put_other, eq_or_not}
use Rattle.jfs_meaning.specs.Readers.{readers, root_of}
use Rattle.jfs_lead_steps.proofs.Chain.{some_is}
use Rattle.jfs_lead_steps.proofs.Turned.{names_listed}

-- an object tells its inode
pub inode_same : (r : Readers) (page other : ℕ → List ℕ) (d e : Dinode) → spelled r page d ≡ spelled r other e → d ≡ e
unfolding spelled
inode_same r page other d e h = ap (λ (o : Object). o.inode) h

-- an object that pages spelled is spelled by the volume's own
pub again : (r : Readers) (v : Volume) (page : ℕ → List ℕ) (n : ℕ) (d : Dinode) → objects r v n ≡ Some (spelled r page d) → (objects r v n ≡ Some (spelled r v.page d)) × (spelled r v.page d ≡ spelled r page d)
again r v page n d h = by_home (home v.extents n) refl
  where
    none : None ≡ Some (spelled r page d) → ⊥
    none e = cc (e)

    by_live : (p : ℕ) → home v.extents n ≡ Some p → (x : Bool) → is_live n (slot_of (v.page p) (n % 8)) ≡ x → (objects r v n ≡ Some (spelled r v.page d)) × (spelled r v.page d ≡ spelled r page d)
    by_live p e true l = (there, some_is (sym there ∙ h))
      where
        found : objects r v n ≡ Some (spelled r v.page (slot_of (v.page p) (n % 8)))
        found = object_at r v n p (slot_of (v.page p) (n % 8)) e refl l

        is : slot_of (v.page p) (n % 8) ≡ d
        is = inode_same r v.page page (slot_of (v.page p) (n % 8)) d (some_is (sym found ∙ h))

        there : objects r v n ≡ Some (spelled r v.page d)
        there = found ∙ ap (λ (x : Dinode). Some (spelled r v.page x)) is
    by_live p e false l = absurd (none (sym (no_object_at r v n p (slot_of (v.page p) (n % 8)) e refl l) ∙ h))

    by_home : (x : Option ℕ) → home v.extents n ≡ x → (objects r v n ≡ Some (spelled r v.page d)) × (spelled r v.page d ≡ spelled r page d)
    by_home None e = absurd (none (sym (no_home r v n e) ∙ h))
    by_home (Some p) e = by_live p e (is_live n (slot_of (v.page p) (n % 8))) refl

-- a directory whose object is the same spells the same names
pub same_names : (blocks : ℕ) (page later : ℕ → List ℕ) (d : Dinode) (es : List NameEntry) → has_names d ≡ true → spelled (readers blocks) later d ≡ spelled (readers blocks) page d
    → spells_names blocks page (root_of d) ≡ Ok es → spells_names blocks later (root_of d) ≡ Ok es
same_names blocks page later d es dir same is = sym (names_listed blocks later d dir) ∙ ap (λ (o : Object). listed (readers blocks).names_order o.names) same ∙ names_listed blocks page d dir ∙ is

-- the number of an object is in use, and stays so
pub stays_in_use : (r : Readers) (v : Volume) (n : ℕ) (o : Object) → IsSound r v → objects r v n ≡ Some o → (k : ℕ) → v.in_use k ≡ put n true v.in_use k
stays_in_use r v n o sound was k = elim (eq_or_not k n) [
  | inl e ↦ ap v.in_use e ∙ here ∙ sym (put_here n true v.in_use) ∙ ap (put n true v.in_use) (sym e)
  | inr e ↦ sym (put_other n true v.in_use k e)
]
  where
    here : v.in_use n ≡ true
    here = sound.agrees.inodes n ∙ ap (λ (x : Option Object). is_some x) was

-- what the rules of an inode say of its links
pub few_links : (d : Dinode) (n : ℕ) → first_broken (rows d n) ≡ None → d.nlink ≤ 65535
unfolding rows
few_links d n h = by (d.number == n) (list_any (λ type. type == bit_and d.mode 0xf000) known_types) (nat_le d.nlink 65535) refl _ _ _ h
  where
    below : (k : ℕ) → nat_le k 65535 ≡ true → k ≤ 65535
    below k e = grind (arith, nat_tests)

    by : (a b c : Bool) → nat_le d.nlink 65535 ≡ c → (x y z : BadInode) → (if a then (if b then (if c then None else Some x) else Some y) else Some z) ≡ None → d.nlink ≤ 65535
    by true true true e x y z h = below d.nlink e
    by true true false e x y z h = absurd (cc (h))
    by true false c e x y z h = absurd (cc (h))
    by false b c e x y z h = absurd (cc (h))

-- the bytes behind an inode's fields
pub rest_size : (page : List ℕ) (slot : ℕ) (d : Dinode) → length page ≡ 4096 → slot < 8 → d ≡ slot_of page slot → length d.rest ≡ 384
rest_size page slot d whole l shown = ap (λ (x : Dinode). length x.rest) shown ∙ length-range_of (inode_at page slot) 128 384 (let e = length-range_of page (512 * slot) 512 (omega (arith, whole, l)) in omega (arith, e))

pub spelled_inode : (r : Readers) (page : ℕ → List ℕ) (d : Dinode) → (spelled r page d).inode ≡ d
unfolding spelled
spelled_inode r page d = refl
