-- What a new object is on a volume: it has no names, no extents, no blocks and no bytes, and it is the plain tree's new node.
use Rattle.std.proofs.Common.{◌≡◌, ◌≤◌, ◌<◌, refl, sym, ap, ◌∙◌, ℕ, ◌+◌, ◌*◌, ◌/◌, ◌%◌, Bool, Bor, true, false, true≢false, not, ◌||◌, ◌==◌, nat_le, nat_lt, if◌then◌else◌, eqb-true, eq-eqb, List, [], length, Some, None, Ok, arith}
use Rattle.std.specs.Int.RustNames.{bit_and}
use Rattle.std.specs.Int.Bits.{and_zero_r}
use Rattle.std.proofs.lemmas.Nat.{and_block, and_mask}
use Rattle.std.proofs.lemmas.Bool.Decides.{nat_tests}
use Rattle.jfs_bits.specs.Broken.{first_broken}
use Rattle.jfs_bits.specs.Field.{range_of}
use Rattle.jfs_bits.specs.declared.descriptor.Moment.{Moment}
use Rattle.jfs_inode.specs.Rules.{rows}
use Rattle.jfs_inode.specs.declared.fields.Dinode.{Dinode}
use Rattle.jfs_dtree.specs.Parent.{parent_of}
use Rattle.jfs_tree.specs.Walk.{Leaf}
use Rattle.jfs_tree.specs.Spells.{no_page}
use Rattle.jfs_plain.specs.declared.node.Node.{Node}
use Rattle.jfs_link.specs.objects.specs.Readers.{Readers}
use Rattle.jfs_link.specs.objects.specs.Objects.{spelled, listed, is_live}
use Rattle.jfs_link.specs.objects.specs.Owners.{holds}
use Rattle.jfs_link.specs.meaning.specs.Contents.{byte_in}
use Rattle.jfs_link.specs.meaning.specs.Node.{node_of, node_with, node_from, target_in}
use Rattle.jfs_link.specs.meaning.specs.Readers.{readers}
use Rattle.jfs_create.specs.New.{FitsNew, IsRest, inode_with, node_for}
use Rattle.jfs_create.specs.declared.new.NewObject.{NewObject}
use Rattle.jfs_create.specs.declared.new.NewObject.TheVariants.{File, Directory, Link}
use Rattle.jfs_create.specs.declared.new.Seat.{Seat}

-- ---- types

type_at : (x : ℕ) → bit_and x 0xf000 ≡ bit_and (x / 4096) 15 * 4096
type_at x = ap (λ (k : ℕ). bit_and k 61440) (halves x) ∙ and_block 12 (x / 4096) 15 (x % 4096) 0 (omega arith) (omega arith) ∙ (let z = and_zero_r (x % 4096) in omega (arith, z))
  where
    halves : (x : ℕ) → x ≡ x / 4096 * 4096 + x % 4096
    halves x = omega arith

file_type : (mode : ℕ) → mode < 4096 → bit_and (0x38000 + mode) 0xf000 ≡ 0x8000
file_type mode l = type_at (0x38000 + mode) ∙ ap (λ (k : ℕ). bit_and k 15 * 4096) (high mode l)
  where
    high : (mode : ℕ) → mode < 4096 → (0x38000 + mode) / 4096 ≡ 56
    high mode l = omega (arith, l)

directory_type : (mode : ℕ) → mode < 4096 → bit_and (0x14000 + mode) 0xf000 ≡ 0x4000
directory_type mode l = type_at (0x14000 + mode) ∙ ap (λ (k : ℕ). bit_and k 15 * 4096) (high mode l)
  where
    high : (mode : ℕ) → mode < 4096 → (0x14000 + mode) / 4096 ≡ 20
    high mode l = omega (arith, l)

file_bits : (mode : ℕ) → mode < 4096 → bit_and (0x38000 + mode) 0xfff ≡ mode
file_bits mode l = and_mask (0x38000 + mode) 12 ∙ low mode l
  where
    low : (mode : ℕ) → mode < 4096 → (0x38000 + mode) % 4096 ≡ mode
    low mode l = omega (arith, l)

directory_bits : (mode : ℕ) → mode < 4096 → bit_and (0x14000 + mode) 0xfff ≡ mode
directory_bits mode l = and_mask (0x14000 + mode) 12 ∙ low mode l
  where
    low : (mode : ℕ) → mode < 4096 → (0x14000 + mode) % 4096 ≡ mode
    low mode l = omega (arith, l)

-- whether attributes may stand in a link's inode or not
link_type : (free : Bool) → bit_and (if free then 0x5a1ff else 0x1a1ff) 0xf000 ≡ 0xa000
link_type true = refl
link_type false = refl

link_bits : (free : Bool) → bit_and (if free then 0x5a1ff else 0x1a1ff) 0xfff ≡ 0x1ff
link_bits true = refl
link_bits false = refl

short_size : (n : ℕ) → n ≤ 255 → nat_le 256 n ≡ false
short_size n l = grind (arith, nat_tests)

short_target : (n : ℕ) → n ≤ 255 → nat_lt n 256 ≡ true
short_target n l = grind (arith, nat_tests)

none_before : (i : ℕ) → nat_lt i 0 ≡ false
none_before i = grind (arith, nat_tests)

-- ---- what it spells

either : (x : Bool) (k : ℕ) → (if x then k else k) ≡ k
either true k = refl
either false k = refl

root_alone : (b : ℕ) → (if b == no_page then 0 else (if no_page == b then 1 else 0) + 0) ≡ 0
root_alone b = by (b == no_page) refl
  where
    by : (x : Bool) → (b == no_page) ≡ x → (if x then 0 else (if no_page == b then 1 else 0) + 0) ≡ 0
    by true e = refl
    by false e = other (no_page == b) refl e
      where
        other : (y : Bool) → (no_page == b) ≡ y → (b == no_page) ≡ false → (if y then 1 else 0) + 0 ≡ 0
        other true f e = absurd (cc (sym (eq-eqb b no_page (sym (eqb-true no_page b f))), e))
        other false f e = refl

-- no names, no extents, no blocks and no bytes
pub record HasNothing (r : Readers) (page : ℕ → List ℕ) (d : Dinode) : Type 0 where
  pub names : listed r.names_order (spelled r page d).names ≡ Ok []
  pub extents : listed r.extents_order (spelled r page d).extents ≡ Ok []
  pub blocks : (b : ℕ) → holds r (Some (spelled r page d)) b ≡ 0
  pub bytes : (i : ℕ) → byte_in r page (Some (spelled r page d)) i ≡ 0

module _ (blocks : ℕ) (page : ℕ → List ℕ) (seat : Seat) (now : Moment) (rest : List ℕ) where
  abbrev r : Readers
  r = readers blocks

  file_nothing : (mode : ℕ) → mode < 4096 → r.extents_root (inode_with (File mode) seat now rest) ≡ Leaf [] → HasNothing r page (inode_with (File mode) seat now rest)
  unfolding holds spelled
  file_nothing mode few root = let t = file_type mode few in record {
    names = rw t refl;
    extents = rw (t, root) refl;
    blocks = λ b. rw (t, root) (let a = root_alone b in let z = either (b == no_page) 0 in omega (arith, a, z));
    bytes = λ i. rw (t, none_before i) refl;
  }

  directory_nothing : (mode : ℕ) → mode < 4096 → r.names_root (inode_with (Directory mode) seat now rest) ≡ Leaf [] → HasNothing r page (inode_with (Directory mode) seat now rest)
  unfolding holds spelled
  directory_nothing mode few root = let t = directory_type mode few in record {
    names = rw (t, root) refl;
    extents = rw t refl;
    blocks = λ b. rw (t, root) (let a = root_alone b in let z = either (b == no_page) 0 in omega (arith, a, z));
    bytes = λ i. rw t refl;
  }

  link_nothing : (target : Bor (List ℕ)) → length target.now ≤ 255 → HasNothing r page (inode_with (Link target) seat now rest)
  unfolding holds spelled
  link_nothing target few = let t = link_type (nat_le (length target.now) 127) in let s = short_size (length target.now) few in record {
    names = rw t refl;
    extents = rw (t, s) refl;
    blocks = λ b. rw (t, s) (let z = either (b == no_page) 0 in omega (arith, z));
    bytes = λ i. rw t refl;
  }

  pub nothing : (object : NewObject) → FitsNew object → IsRest object seat.parent rest → HasNothing r page (inode_with object seat now rest)
  nothing (File mode) few root = file_nothing mode few (root blocks)
  nothing (Directory mode) few root = directory_nothing mode few (root.0 blocks)
  nothing (Link target) few root = link_nothing target few.1

  -- ---- its node

  opened : (d : Dinode) → HasNothing r page d → node_of r page (spelled r page d) ≡ Some (node_with (spelled r page d).inode (target_in r page (spelled r page d)) [])
  opened d none = ap (λ x. node_from (spelled r page d).inode (target_in r page (spelled r page d)) x (listed r.extents_order (spelled r page d).extents)) none.names
      ∙ ap (λ y. node_from (spelled r page d).inode (target_in r page (spelled r page d)) (Ok []) y) none.extents

  made_file : (mode : ℕ) → mode < 4096 → let d = inode_with (File mode) seat now rest in node_with (spelled r page d).inode (target_in r page (spelled r page d)) [] ≡ node_for (File mode) seat.parent now
  unfolding spelled
  made_file mode few = rw (file_type mode few, file_bits mode few) refl

  made_directory : (mode : ℕ) → mode < 4096 → parent_of (range_of rest 96 288) ≡ seat.parent
      → let d = inode_with (Directory mode) seat now rest in node_with (spelled r page d).inode (target_in r page (spelled r page d)) [] ≡ node_for (Directory mode) seat.parent now
  unfolding spelled
  made_directory mode few parent = rw (directory_type mode few, directory_bits mode few, parent) refl

  made_link : (target : Bor (List ℕ)) → length target.now ≤ 255 → range_of rest 128 (length target.now) ≡ target.now
      → let d = inode_with (Link target) seat now rest in node_with (spelled r page d).inode (target_in r page (spelled r page d)) [] ≡ node_for (Link target) seat.parent now
  unfolding spelled
  made_link target few is = rw (link_type (nat_le (length target.now) 127), link_bits (nat_le (length target.now) 127), short_target (length target.now) few, is) refl

  made : (object : NewObject) → FitsNew object → IsRest object seat.parent rest
      → let d = inode_with object seat now rest in node_with (spelled r page d).inode (target_in r page (spelled r page d)) [] ≡ node_for object seat.parent now
  made (File mode) few root = made_file mode few
  made (Directory mode) few root = made_directory mode few root.1
  made (Link target) few root = made_link target few.1 root

  pub node_is : (object : NewObject) → FitsNew object → IsRest object seat.parent rest → node_of r page (spelled r page (inode_with object seat now rest)) ≡ Some (node_for object seat.parent now)
  node_is object few root = opened (inode_with object seat now rest) (nothing object few root) ∙ ap (λ (o : Node). Some o) (made object few root)

-- ---- its inode breaks no rule, and is live

live_with : (n : ℕ) (x : Bool) → x ≡ false → (nat_lt n 4 || not x) ≡ true
live_with n x e = by (nat_lt n 4) x e
  where
    by : (y x : Bool) → x ≡ false → (y || not x) ≡ true
    by true x e = refl
    by false true e = absurd (true≢false e)
    by false false e = refl

pub is_live_new : (object : NewObject) (seat : Seat) (now : Moment) (rest : List ℕ) → is_live seat.number (inode_with object seat now rest) ≡ true
is_live_new (File mode) seat now rest = live_with seat.number false refl
is_live_new (Directory mode) seat now rest = live_with seat.number false refl
is_live_new (Link target) seat now rest = live_with seat.number false refl

number_is : (n : ℕ) → (n == n) ≡ true
number_is n = eq-eqb n n refl

pub rules_new : (object : NewObject) (seat : Seat) (now : Moment) (rest : List ℕ) → FitsNew object → first_broken (rows (inode_with object seat now rest) seat.number) ≡ None
unfolding rows
rules_new (File mode) seat now rest few = rw (file_type mode few, number_is seat.number) refl
rules_new (Directory mode) seat now rest few = rw (directory_type mode few, number_is seat.number) refl
rules_new (Link target) seat now rest few = rw (link_type (nat_le (length target.now) 127), number_is seat.number) refl
