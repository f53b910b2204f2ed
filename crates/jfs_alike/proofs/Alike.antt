-- No object of a consistent volume is read from a page that isn't in use, or that lies in a fixed area.
use Rattle.std.proofs.Common.{◌≡◌, ◌≢◌, ◌⊎◌, ◌<◌, refl, sym, ap, ap₂, ◌∙◌, subst, ℕ, ◌+◌, ◌/◌, ◌==◌, Bool, true, false, not, ◌&&◌, if◌then◌else◌, List, length, inl, inr, Option, None, is_some, arith}
use Rattle.std.proofs.lemmas.Bool.{cases_eq, eq-eqb, ne_eqb}
use Rattle.std.proofs.Math.Path.{fun_ext}
use Rattle.jfs_bits.specs.Bits.{any_below, count_below, is_free_run}
use Rattle.jfs_meaning.specs.objects.specs.Readers.{Readers}
use Rattle.jfs_meaning.specs.objects.specs.Volume.{Volume, room, home}
use Rattle.jfs_meaning.specs.objects.specs.Objects.{Object, objects}
use Rattle.jfs_meaning.specs.objects.specs.Owners.{owners, holds, extents_have, sum_below, bit, IsSound}
use Rattle.jfs_meaning.specs.objects.specs.Changes.{WritesData}
use Rattle.jfs_meaning.specs.objects.proofs.Data.{data_law}
use Rattle.jfs_meaning.specs.objects.proofs.Sums.{sum_same}
use Rattle.jfs_meaning.specs.Contents.{byte_in}
use Rattle.jfs_meaning.specs.Node.{node_in}
use Rattle.jfs_meaning.specs.Tree.{node_on, byte_on, tree_on}
use Rattle.jfs_meaning.specs.Room.{free_blocks, fresh_inode, lowest, or_else, first_of, is_empty_place}
use Rattle.jfs_meaning.specs.Consistent.{IsConsistent}
use Rattle.jfs_meaning.proofs.Changed.{data_tree}
use Rattle.jfs_meaning.proofs.Same.{same_consistent}
use Rattle.jfs_alike.specs.Alike.{AreAlike, MeanTheSame, AlikeLaw}

-- a volume without its fixed areas: their blocks aren't in use
abbrev without : Volume → Volume
without v = record v { area = λ b. 0; used = λ b. v.used b && (v.area b == 0) }

same_objects : (r : Readers) (v : Volume) (n : ℕ) → objects r (without v) n ≡ objects r v n
unfolding objects
same_objects r v n = refl

module _ (r : Readers) (v : Volume) (sound : IsSound r v) where
  same_sum : (b : ℕ) → sum_below (room v) (λ n. holds r (objects r (without v) n) b) ≡ sum_below (room v) (λ n. holds r (objects r v n) b)
  same_sum b = sum_same (room v) (λ n. holds r (objects r v n) b) (λ n. holds r (objects r (without v) n) b) (λ n _. ap (λ (o : Option Object). holds r o b) (same_objects r v n))

  agrees : (b : ℕ) → owners r (without v) b ≡ bit ((without v).used b)
  agrees b = by (v.used b) refl (cases_eq (v.area b) 0)
    where
      by : (x : Bool) → v.used b ≡ x → (v.area b ≡ 0) ⊎ (v.area b ≢ 0) → owners r (without v) b ≡ bit (v.used b && (v.area b == 0))
      by true u (inl zero) = rw u (rw (eq-eqb (v.area b) 0 zero) (let s = same_sum b in let was : owners r v b ≡ 1 = sound.agrees.blocks b ∙ ap bit u in omega (arith, s, was, zero)))
      by true u (inr more) = rw u (rw (ne_eqb (v.area b) 0 more) (let s = same_sum b in let was : owners r v b ≡ 1 = sound.agrees.blocks b ∙ ap bit u in omega (arith, s, was, more)))
      by false u e = rw u (let s = same_sum b in let was : owners r v b ≡ 0 = sound.agrees.blocks b ∙ ap bit u in omega (arith, s, was))

  sound_without : IsSound r (without v)
  sound_without = record {
    agrees = record { blocks = agrees; inodes = λ n. sound.agrees.inodes n ∙ ap (λ (o : Option Object). is_some o) (sym (same_objects r v n)) };
    whole = λ n o h. sound.whole n o (sym (same_objects r v n) ∙ h);
  }

  -- pages that are in use outside of the areas stay
  module _ (new : ℕ → List ℕ) (keeps : (b : ℕ) → v.used b ≡ true → v.area b ≡ 0 → new b ≡ v.page b) where
    abbrev w : Volume
    w = record v { page = new }

    owned_is : (b : ℕ) → 0 < owners r (without v) b → (v.used b ≡ true) × (v.area b ≡ 0)
    owned_is b more = by (v.used b) refl (cases_eq (v.area b) 0) (agrees b)
      where
        by : (x : Bool) → v.used b ≡ x → (v.area b ≡ 0) ⊎ (v.area b ≢ 0) → owners r (without v) b ≡ bit (v.used b && (v.area b == 0)) → (v.used b ≡ true) × (v.area b ≡ 0)
        by true u (inl zero) o = (u, zero)
        by true u (inr some) o = let none : owners r (without v) b ≡ 0 = o ∙ ap₂ (λ (x y : Bool). bit (x && y)) u (ne_eqb (v.area b) 0 some) in absurd (omega (arith, none, more))
        by false u e o = let none : owners r (without v) b ≡ 0 = o ∙ ap (λ (x : Bool). bit (x && (v.area b == 0))) u in absurd (omega (arith, none, more))

    writes : (n : ℕ) → WritesData r (without v) (without w) n
    writes n = record {
      keeps = λ b more _. (let h = owned_is b more in keeps b h.0 h.1);
      extents = refl;
      area = refl;
      used = refl;
      in_use = refl;
    }

    objects_stay : (n : ℕ) → objects r w n ≡ objects r v n
    objects_stay n = sym (same_objects r w n) ∙ (data_law r (without v) (without w) 0 sound_without (writes 0)).0.objects_stay n ∙ same_objects r v n

    -- Data of object 0 that is written leaves all other nodes; so does data of object 1.
    node_kept : (k : ℕ) → node_on r (without w) k ≡ node_on r (without v) k
    node_kept k = elim (cases_eq k 0) [
      | inl e ↦ (data_tree r (without v) (without w) 1 sound_without (writes 1)).others k (λ f. absurd (omega (arith, e, f)))
      | inr other ↦ (data_tree r (without v) (without w) 0 sound_without (writes 0)).others k other
    ]

    byte_kept : (k i : ℕ) → byte_on r (without w) k i ≡ byte_on r (without v) k i
    byte_kept k i = elim (cases_eq k 0) [
      | inl e ↦ (data_tree r (without v) (without w) 1 sound_without (writes 1)).contents k i (λ f. absurd (omega (arith, e, f)))
      | inr other ↦ (data_tree r (without v) (without w) 0 sound_without (writes 0)).contents k i other
    ]

    node_stays : (k : ℕ) → node_on r w k ≡ node_on r v k
    node_stays k = sym (ap (λ (o : Option Object). node_in r new o) (same_objects r w k)) ∙ node_kept k ∙ ap (λ (o : Option Object). node_in r v.page o) (same_objects r v k)

    byte_stays : (k i : ℕ) → byte_on r w k i ≡ byte_on r v k i
    byte_stays k i = sym (ap (λ (o : Option Object). byte_in r new o i) (same_objects r w k)) ∙ byte_kept k i ∙ ap (λ (o : Option Object). byte_in r v.page o i) (same_objects r v k)

    owners_stay : (b : ℕ) → owners r w b ≡ owners r v b
    owners_stay b = ap (λ (k : ℕ). v.area b + extents_have v.extents b + k) (sum_same (room v) (λ n. holds r (objects r v n) b) (λ n. holds r (objects r w n) b) (λ n _. ap (λ (o : Option Object). holds r o b) (objects_stay n)))

    still_consistent : IsConsistent r v → IsConsistent r w
    still_consistent c = record {
      sound = record {
        agrees = record {
          blocks = λ b. owners_stay b ∙ sound.agrees.blocks b;
          inodes = λ n. sound.agrees.inodes n ∙ ap (λ (o : Option Object). is_some o) (sym (objects_stay n));
        };
        whole = λ n o h. sound.whole n o (sym (objects_stay n) ∙ h);
      };
      inodes = λ n o h. c.inodes n o (sym (objects_stay n) ∙ h);
      tree = same_consistent (room v) (tree_on r v) (tree_on r w) node_stays c.tree;
    }

    free_stays : (blocks : ℕ) → free_blocks r w blocks ≡ free_blocks r v blocks
    free_stays blocks = ap (λ (f : ℕ → ℕ). count_below blocks (λ b. f b == 0)) (fun_ext owners_stay)

    -- the inode for a new object, by what the objects and the numbers of owners are
    abbrev fresh_by : ℕ → (ℕ → Option Object) → (ℕ → ℕ) → Option ℕ
    fresh_by blocks os own = or_else (lowest (room v) (λ n. is_some (home v.extents n) && not (is_some (os n))))
        (if any_below (blocks / 4) (is_free_run (λ b. not (own b == 0)) 2) then first_of (lowest (length v.extents) (is_empty_place v)) else None)

    inode_stays : (blocks : ℕ) → fresh_inode r w blocks ≡ fresh_inode r v blocks
    inode_stays blocks = ap₂ (λ (os : ℕ → Option Object) (own : ℕ → ℕ). fresh_by blocks os own) (fun_ext objects_stay) (fun_ext owners_stay)

    means : IsConsistent r v → MeanTheSame r v w
    means c = record {
      consistent = still_consistent c;
      tree = record { nodes = node_stays; bytes = byte_stays };
      free = free_stays;
      inode = inode_stays;
    }

-- the second is the first with its pages
with_pages : (v w : Volume) → AreAlike v w → w ≡ record v { page = w.page }
with_pages v w a =
    ap (λ (x : List (Option ℕ)). record w { extents = x }) a.extents
    ∙ ap (λ (f : ℕ → ℕ). record v { page = w.page; area = f; used = w.used; in_use = w.in_use }) (fun_ext a.area)
    ∙ ap₂ (λ (f g : ℕ → Bool). record v { page = w.page; used = f; in_use = g }) (fun_ext a.used) (fun_ext a.in_use)

pub alike_law : AlikeLaw
alike_law r v w c a = subst (λ (x : Volume). MeanTheSame r v x) (sym (with_pages v w a)) (means r v c.sound w.page a.pages c)
