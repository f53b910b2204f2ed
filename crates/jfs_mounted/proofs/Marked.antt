-- No object of a consistent volume is read from the superblock's page.
use Rattle.std.proofs.Common.{◌≡◌, ◌≢◌, ◌⊎◌, ◌<◌, ◌≤◌, refl, sym, ap, ◌∙◌, subst, ℕ, ◌+◌, ◌/◌, ◌%◌, ◌==◌, Bool, true, false, not, ◌&&◌, nat_le, nat_lt, if◌then◌else◌, List, inl, inr, Option, is_some, arith}
use Rattle.std.proofs.lemmas.Bool.{cases_eq, cases_lt, le-ltb, eq-eqb, ne_eqb, both_ways}
use Rattle.std.proofs.lemmas.Bool.Decides.{nat_tests}
use Rattle.jfs_bits.specs.Bits.{is_taken}
use Rattle.jfs_bits.specs.Field.{range_of}
use Rattle.jfs_bits.specs.declared.descriptor.Pxd.{Pxd}
use Rattle.jfs_super.specs.Rules.{blocks_of}
use Rattle.jfs_volume.specs.plain.specs.Moves.{Same}
use Rattle.jfs_findings.specs.objects.specs.Readers.{Readers}
use Rattle.jfs_findings.specs.objects.specs.Volume.{Volume, room}
use Rattle.jfs_findings.specs.objects.specs.Image.{area_on, file_page, is_block_used}
use Rattle.jfs_findings.specs.objects.specs.Objects.{Object, objects}
use Rattle.jfs_findings.specs.objects.specs.Owners.{owners, holds, run_has, extents_have, sum_below, bit, IsSound}
use Rattle.jfs_findings.specs.objects.specs.Changes.{WritesData}
use Rattle.jfs_findings.specs.objects.proofs.Data.{data_law}
use Rattle.jfs_findings.specs.objects.proofs.Sums.{sum_same}
use Rattle.jfs_findings.specs.meaning.specs.Readers.{readers}
use Rattle.jfs_findings.specs.meaning.specs.Contents.{byte_in}
use Rattle.jfs_findings.specs.meaning.specs.Node.{node_in}
use Rattle.jfs_findings.specs.meaning.specs.Tree.{node_on, byte_on, tree_on}
use Rattle.jfs_findings.specs.meaning.specs.Consistent.{IsConsistent}
use Rattle.jfs_findings.specs.meaning.specs.Image as meaning
use Rattle.jfs_findings.specs.meaning.proofs.Changed.{data_tree}
use Rattle.jfs_findings.specs.meaning.proofs.Same.{same_consistent}
use Rattle.jfs_findings.specs.mount_rules.specs.Subject.{subject_of}
use Rattle.jfs_mount_maps.specs.way.specs.Volume.{volume_of}
use Rattle.jfs_mount_maps.specs.Maps.{blocks_on, inodes_on}
use Rattle.jfs_mount_maps.proofs.Joined.{volume_is}
use Rattle.jfs_mounted.specs.Laws.{MarkedLaw}

-- a volume without page 8: neither an area has it, nor is it in use
abbrev without : Volume → Volume
without v = record v { area = λ b. if b == 8 then 0 else v.area b; used = λ b. not (b == 8) && v.used b }

same_objects : (r : Readers) (v : Volume) (n : ℕ) → objects r (without v) n ≡ objects r v n
unfolding objects
same_objects r v n = refl

module _ (r : Readers) (v : Volume) (sound : IsSound r v) (first : 0 < v.area 8) where
  -- page 8 has no owner but the area
  alone : extents_have v.extents 8 + sum_below (room v) (λ n. holds r (objects r v n) 8) ≡ 0
  alone = by (v.used 8) (sound.agrees.blocks 8)
    where
      by : (x : Bool) → owners r v 8 ≡ bit x → extents_have v.extents 8 + sum_below (room v) (λ n. holds r (objects r v n) 8) ≡ 0
      by true e = omega (arith, e, first)
      by false e = omega (arith, e, first)

  same_sum : (b : ℕ) → sum_below (room v) (λ n. holds r (objects r (without v) n) b) ≡ sum_below (room v) (λ n. holds r (objects r v n) b)
  same_sum b = sum_same (room v) (λ n. holds r (objects r v n) b) (λ n. holds r (objects r (without v) n) b) (λ n _. ap (λ (o : Option Object). holds r o b) (same_objects r v n))

  agrees : (b : ℕ) → owners r (without v) b ≡ bit ((without v).used b)
  agrees b = by (cases_eq b 8)
    where
      by : (b ≡ 8) ⊎ (b ≢ 8) → owners r (without v) b ≡ bit ((without v).used b)
      by (inl e) = rw e (let s = same_sum 8 in omega (arith, s, alone))
      by (inr other) =
          let no : (b == 8) ≡ false = ne_eqb b 8 other in
          let s = same_sum b in let was = sound.agrees.blocks b in
          rw no (omega (arith, s, was))

  sound_without : IsSound r (without v)
  sound_without = record {
    agrees = record { blocks = agrees; inodes = λ n. sound.agrees.inodes n ∙ ap (λ (o : Option Object). is_some o) (sym (same_objects r v n)) };
    whole = λ n o h. sound.whole n o (sym (same_objects r v n) ∙ h);
  }

  -- pages that have an owner stay, but for page 8
  module _ (new : ℕ → List ℕ) (keeps : (b : ℕ) → b ≢ 8 → v.used b ≡ true → new b ≡ v.page b) where
    abbrev w : Volume
    w = record v { page = new }

    owned_is : (b : ℕ) → 0 < owners r (without v) b → (b ≢ 8) × (v.used b ≡ true)
    owned_is b more = by (b == 8) refl (v.used b) refl (agrees b)
      where
        by : (x : Bool) → (b == 8) ≡ x → (y : Bool) → v.used b ≡ y → owners r (without v) b ≡ bit (not x && y) → (b ≢ 8) × (v.used b ≡ true)
        by true e y u o = absurd (omega (arith, o, more))
        by false e true u o = ((λ is. both_ways (b == 8) e (eq-eqb b 8 is)), u)
        by false e false u o = absurd (omega (arith, o, more))

    writes : (n : ℕ) → WritesData r (without v) (without w) n
    writes n = record {
      keeps = λ b more _. (let h = owned_is b more in keeps b h.0 h.1);
      extents = refl;
      area = refl;
      used = refl;
      in_use = refl;
    }

    objects_stay : (n : ℕ) → objects r w n ≡ objects r v n
    objects_stay n = sym (same_objects r w n) ∙ (data_law r (without v) (without w) 0 sound_without (writes 0)).0.objects_stay n ∙ same_objects r v n

    -- Data of object 0 that is written leaves all other nodes; so does data of object 1.
    node_kept : (k : ℕ) → node_on r (without w) k ≡ node_on r (without v) k
    node_kept k = elim (cases_eq k 0) [
      | inl e ↦ (data_tree r (without v) (without w) 1 sound_without (writes 1)).others k (λ f. absurd (omega (arith, e, f)))
      | inr other ↦ (data_tree r (without v) (without w) 0 sound_without (writes 0)).others k other
    ]

    byte_kept : (k i : ℕ) → byte_on r (without w) k i ≡ byte_on r (without v) k i
    byte_kept k i = elim (cases_eq k 0) [
      | inl e ↦ (data_tree r (without v) (without w) 1 sound_without (writes 1)).contents k i (λ f. absurd (omega (arith, e, f)))
      | inr other ↦ (data_tree r (without v) (without w) 0 sound_without (writes 0)).contents k i other
    ]

    node_stays : (k : ℕ) → node_on r w k ≡ node_on r v k
    node_stays k = sym (ap (λ (o : Option Object). node_in r new o) (same_objects r w k)) ∙ node_kept k ∙ ap (λ (o : Option Object). node_in r v.page o) (same_objects r v k)

    byte_stays : (k i : ℕ) → byte_on r w k i ≡ byte_on r v k i
    byte_stays k i = sym (ap (λ (o : Option Object). byte_in r new o i) (same_objects r w k)) ∙ byte_kept k i ∙ ap (λ (o : Option Object). byte_in r v.page o i) (same_objects r v k)

    pub same_tree : Same (tree_on r v) (tree_on r w)
    same_tree = record { nodes = node_stays; bytes = byte_stays }

    pub still_consistent : IsConsistent r v → IsConsistent r w
    still_consistent c = record {
      sound = record {
        agrees = record {
          blocks = λ b. (let t = sum_same (room v) (λ n. holds r (objects r v n) b) (λ n. holds r (objects r w n) b) (λ n _. ap (λ (o : Option Object). holds r o b) (objects_stay n)) in
              let was = sound.agrees.blocks b in omega (arith, t, was));
          inodes = λ n. sound.agrees.inodes n ∙ ap (λ (o : Option Object). is_some o) (sym (objects_stay n));
        };
        whole = λ n o h. sound.whole n o (sym (objects_stay n) ∙ h);
      };
      inodes = λ n o h. c.inodes n o (sym (objects_stay n) ∙ h);
      tree = same_consistent (room v) (tree_on r v) (tree_on r w) node_stays c.tree;
    }

-- the first pages are an area
pub in_first : (x : Bool) → x ≡ true → 1 ≤ (if x then 1 else 0)
in_first true h = omega arith
in_first false h = absurd (cc (h))

pub area_there : (r : Readers) (table map : Pxd) (page : ℕ → List ℕ) → 0 < area_on r table map page 8
unfolding area_on
area_there r table map page = let f : 1 ≤ run_has (record { len = 16; addr = 0 }) 8 = in_first (nat_le 0 8 && nat_lt 8 (0 + 16)) (grind (arith, nat_tests)) in omega (arith, f)

pub used_below : (r : Readers) (page : ℕ → List ℕ) (blocks b : ℕ) → is_block_used r page blocks b ≡ true → b < blocks
unfolding is_block_used
used_below r page blocks b h = by (cases_lt b blocks)
  where
    by : (b < blocks) ⊎ (blocks ≤ b) → b < blocks
    by (inl l) = l
    by (inr past) = absurd (cc (h, ap (λ (x : Bool). x && is_taken (range_of (file_page r page 2 (4 + b / 8192)) 3072 1024) (b % 8192)) (le-ltb b blocks past)))

pub marked_law : MarkedLaw
marked_law s old new consistent same =
    let r = readers (blocks_of s) in
    let v = meaning.volume_of s old in
    let sub = subject_of s old in
    let first = area_there r s.ait2 s.aim2 old in
    let keeps = λ (b : ℕ) (other : b ≢ 8) (used : v.used b ≡ true). same b other (used_below r old (blocks_of s) b used) in
    let is : volume_of new v.area (blocks_on sub) (inodes_on sub) ≡ record v { page = new } = ap (λ (x : Volume). record x { page = new }) (volume_is sub) in
    record {
      consistent = subst (λ (x : Volume). IsConsistent r x) (sym is) (still_consistent r v consistent.sound first new keeps consistent);
      tree = subst (λ (x : Volume). Same (tree_on r v) (tree_on r x)) (sym is) (same_tree r v consistent.sound first new keeps);
    }
