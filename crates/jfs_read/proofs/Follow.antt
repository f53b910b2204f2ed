-- What a read gives is what the plain step gives.
use Rattle.std.proofs.Common.{◌≡◌, refl, sym, ap, ap₂, ◌∙◌, subst, inl, inr, ℕ, ◌+◌, ◌-◌, ◌<◌, ◌/◌, ◌%◌, ◌==◌, ◌&&◌, Bool, true, false, if◌then◌else◌, List, length, Option, Some, None, Result, Ok, Err, map, arith}
use Rattle.std.specs.Prelude.{min, nat_lt, IfErr}
use Rattle.std.proofs.lemmas.Bool.{lt-ltb}
use Rattle.jfs_bits.specs.declared.extent.Xad.{Xad}
use Rattle.jfs_inode.specs.Rules.{type_of}
use Rattle.jfs_inode.specs.declared.fields.Dinode.{Dinode}
use Rattle.jfs_imap.specs.Inodes.{Inodes}
use Rattle.jfs_way.specs.bmap.specs.States.{Blocks}
use Rattle.jfs_tree.specs.Spells.{spells}
use Rattle.jfs_xtree.specs.Node.{xt_scale}
use Rattle.jfs_bits.specs.declared.rule.Rule.{Rule}
use Rattle.jfs_xtpage.specs.declared.head.XtForm.TheVariants.{Root}
use Rattle.jfs_xtree.specs.Spells.{spells_extents, found_for, root_form}
use Rattle.jfs_plain.specs.Tree.{Tree, Found, walk, found, found_at, and_then, root}
use Rattle.jfs_plain.specs.Step.{Outcome, read, if_file, bytes_from}
use Rattle.jfs_plain.specs.declared.node.Node.{Node}
use Rattle.jfs_plain.specs.declared.refusal.Refusal.{Refusal}
use Rattle.jfs_plain.specs.declared.refusal.Refusal.TheVariants.{IsDir, NotFile}
use Rattle.jfs_plain.specs.declared.reply.Reply.{Reply}
use Rattle.jfs_plain.specs.declared.reply.Reply.TheVariants.{Bytes}
use Rattle.jfs_plain.specs.declared.reply.NodeKind.TheVariants.{Dir, File, Link, Other}
use Rattle.jfs_way.specs.objects.specs.Image.{extent_place}
use Rattle.jfs_way.specs.objects.specs.Objects.{Object, IsWhole, objects, spelled, has_names, listed as listed_in}
use Rattle.jfs_way.specs.objects.specs.Contents.{block_of, bytes_at}
use Rattle.jfs_way.specs.objects.specs.Owners.{entries}
use Rattle.jfs_way.specs.objects.specs.Volume.{Volume, home, slot_of}
use Rattle.jfs_way.specs.meaning.specs.Readers.{readers, root_of}
use Rattle.jfs_way.specs.meaning.specs.Contents.{byte_of, byte_in, stored, is_regular}
use Rattle.jfs_way.specs.meaning.specs.Node.{node_with, target_in, size_of}
use Rattle.jfs_way.specs.meaning.specs.Consistent.{IsConsistent}
use Rattle.jfs_way.specs.Answer.{Answers, Follows}
use Rattle.jfs_way.specs.Volume.{volume_of}
use Rattle.jfs_way.specs.Walk.{IsHeld, IsShown, IsThere, IsOf, tree_in}
use Rattle.jfs_way.specs.declared.object.Held.{Held}
use Rattle.jfs_way.proofs.Places.{home_is}
use Rattle.jfs_way.proofs.Nodes.{there, node_is, inode_is, whole}
use Rattle.jfs_read.specs.Read.{block_by, byte_on_way, broken_in, touched, unless_bad, stored_on, bytes_in, IsBytes, OpenWhereSpelled}
use Rattle.jfs_read.proofs.Found.{block_found, found_is}
use Rattle.jfs_read.proofs.Parts.{same_bytes}

-- ---- what stands in a regular file

module _ (blocks : ℕ) (pages : ℕ → List ℕ) (at : Held) (offset count : ℕ) where
  pub no_file : has_names at.inode ≡ true → bytes_in blocks pages at offset count ≡ Err IsDir
  no_file e = ap (λ (b : Bool). if b then Err IsDir else if is_regular at.inode then stored_on blocks pages at offset (min count (at.inode.size - offset)) else Err NotFile) e

  pub other_kind : has_names at.inode ≡ false → is_regular at.inode ≡ false → bytes_in blocks pages at offset count ≡ Err NotFile
  other_kind e f = ap₂ (λ (a b : Bool). if a then Err IsDir else if b then stored_on blocks pages at offset (min count (at.inode.size - offset)) else Err NotFile) e f

  pub regular : has_names at.inode ≡ false → is_regular at.inode ≡ true → bytes_in blocks pages at offset count ≡ stored_on blocks pages at offset (min count (at.inode.size - offset))
  regular e f = ap₂ (λ (a b : Bool). if a then Err IsDir else if b then stored_on blocks pages at offset (min count (at.inode.size - offset)) else Err NotFile) e f

-- ---- on a consistent volume

-- a file is wanted, by the kind of what is found
by_kind : (a b c : Bool) (f : Found) (told : Found → Outcome) → f.node.kind ≡ (if a then Dir else (if b then File else (if c then Link else Other))) → and_then (if_file f) told ≡ (if a then Err IsDir else if b then told f else Err NotFile)
by_kind true b c f told e = rw e refl
by_kind false true c f told e = rw e refl
by_kind false false true f told e = rw e refl
by_kind false false false f told e = rw e refl

-- what was read is what stands there
stored_value : (page : ℕ) (first : Option (ℕ × Rule)) (is bytes : List ℕ) → unless_bad page first is ≡ Ok bytes → is ≡ bytes
stored_value page None is bytes h = cc
stored_value page (Some bad) is bytes h = absurd cc

err_same : {X : Type 0} {a b : Refusal} (r : Result X Refusal) → r ≡ Err a → r ≡ Err b → a ≡ b
err_same r e h = cc (e, h)

module _ (blocks : ℕ) (pages : ℕ → List ℕ) (inodes : Inodes) (area : ℕ → ℕ) (bm : Blocks) (con : IsConsistent (readers blocks) (volume_of pages area bm inodes)) (at : Held) (held : IsHeld blocks inodes at) (shown : IsShown pages at)
    (width : length (root_of at.inode) ≡ 288) where
  abbrev v : Volume
  v = volume_of pages area bm inodes

  abbrev t : Tree
  t = tree_in blocks pages area bm inodes

  abbrev d : Dinode
  d = slot_of (pages at.page) (at.number % 8)

  abbrev o : Object
  o = spelled (readers blocks) pages d

  stood : home (map extent_place inodes.extents) at.number ≡ Some at.page
  stood = home_is inodes at.number ∙ held.home

  wide : root_form (length (root_of d)) ≡ Root
  wide = ap (λ (e : Dinode). root_form (length (root_of e))) (sym shown) ∙ ap root_form width

  same_list : is_regular d ≡ true → spells_extents blocks pages (root_of d) ≡ listed_in xt_scale o.extents
  unfolding spells spelled
  same_list e = rw (e, wide) refl

  module _ (offset count : ℕ) where
    abbrev told : Found → Outcome
    told f = Ok (Bytes (bytes_from (t.bytes f.inode) offset (min count (f.node.size - offset))), t)

    module _ (path : List (List ℕ)) (f : Follows {X = ℕ} {Y = Held} (IsOf t) (walk t root path) (Ok at)) where
      there_is : IsThere t at.number
      there_is = subst (IsThere t) f.2.0 f.2.1

      w : IsWhole (readers blocks) o
      w = whole blocks v con at.number at.page stood there_is

      was : objects (readers blocks) v at.number ≡ Some o
      was = there blocks v con at.number at.page stood there_is

      is_d : o.inode ≡ at.inode
      is_d = inode_is blocks v con d ∙ sym shown

      -- ---- the bytes

      block_same : is_regular at.inode ≡ true → (k : ℕ) → block_of (entries (listed_in xt_scale o.extents)) k ≡ block_by (found_for blocks pages (root_of at.inode) k) k
      block_same e k =
          let listed : listed_in xt_scale o.extents ≡ Ok w.extents = w.extents_are in
          let spelled_here : spells_extents blocks pages (root_of d) ≡ Ok w.extents = same_list (ap is_regular (sym shown) ∙ e) ∙ listed in
          ap (λ (r : Result (List Xad) (ℕ × Rule)). block_of (entries r) k) listed
          ∙ sym (block_found k 0 o.extents w.extents listed)
          ∙ ap (λ (x : Option Xad). block_by x k) (sym (found_is blocks pages (root_of d) k w.extents spelled_here) ∙ ap (λ (e : Dinode). found_for blocks pages (root_of e) k) (sym shown))

      same_byte : is_regular at.inode ≡ true → (i : ℕ) → i < at.inode.size → t.bytes at.number i ≡ byte_on_way blocks pages at.inode i
      same_byte e i l =
          ap (λ (x : Option Object). byte_in (readers blocks) pages x i) was
          ∙ ap (λ (b : Bool). if b then stored (readers blocks) pages (Some o) i else 0) (both (ap is_regular is_d ∙ e) (ap (λ (e : Dinode). nat_lt i e.size) is_d ∙ lt-ltb i at.inode.size l))
          ∙ ap (λ (x : Option ℕ). byte_of (bytes_at pages x) (i % 4096)) (block_same e (i / 4096))
        where
          both : {a b : Bool} → a ≡ true → b ≡ true → (a && b) ≡ true
          both e h = rw (e, h) refl

      same_read : is_regular at.inode ≡ true → (n : ℕ) → n ≡ min count (at.inode.size - offset) → bytes_from (t.bytes at.number) offset n ≡ bytes_from (byte_on_way blocks pages at.inode) offset n
      same_read e n m = same_bytes (t.bytes at.number) (byte_on_way blocks pages at.inode) offset n (λ j l. same_byte e (offset + j) (omega (arith, l, m)))

      -- ---- the plain step

      abbrev node : Dinode → Node
      node e = node_with e (target_in (readers blocks) pages o) w.names

      steps : read t path offset count ≡ (if has_names at.inode then Err IsDir else if is_regular at.inode then told (found_at at.number (node at.inode)) else Err NotFile)
      unfolding w
      steps = ap (λ (y : Result ℕ Refusal). and_then (and_then (and_then y (λ n. found n (t.nodes n))) if_file) told) (f.1 ∙ ap (λ (n : ℕ). Ok n) f.2.0)
          ∙ ap (λ (y : Option Node). and_then (and_then (found at.number y) if_file) told) (node_is blocks v con at.number at.page stood there_is)
          ∙ by_kind (type_of o.inode == 0x4000) (type_of o.inode == 0x8000) (type_of o.inode == 0xa000) (found_at at.number (node o.inode)) told refl
          ∙ ap (λ (e : Dinode). if has_names e then Err IsDir else if is_regular e then told (found_at at.number (node e)) else Err NotFile) is_d

      in_case : (a b : Bool) → has_names at.inode ≡ a → is_regular at.inode ≡ b → read t path offset count ≡ (if a then Err IsDir else if b then told (found_at at.number (node at.inode)) else Err NotFile)
      in_case a b e h = steps ∙ ap₂ (λ (x y : Bool). if x then Err IsDir else if y then told (found_at at.number (node at.inode)) else Err NotFile) e h

      size_is : has_names at.inode ≡ false → size_of at.inode ≡ at.inode.size
      size_is e = ap (λ (x : Bool). if x then 0 else at.inode.size) e

      pub bytes_follow : (r : Result (List ℕ) Refusal) → Answers (bytes_in blocks pages at offset count) r → (is_regular at.inode ≡ true → IfErr r (OpenWhereSpelled blocks pages at.inode))
          → Follows {X = Reply × Tree} {Y = List ℕ} (IsBytes t) (read t path offset count) r
      bytes_follow r h sound = by (has_names at.inode) refl (is_regular at.inode) refl r h sound
        where
          refuses : (given : Result (List ℕ) Refusal) (plain : Outcome) (why : Refusal) (r : Result (List ℕ) Refusal) → given ≡ Err why → plain ≡ Err why → Answers given r → Follows {X = Reply × Tree} {Y = List ℕ} (IsBytes t) plain r
          refuses given plain why (Ok bytes) e p h = absurd (cc (e, h))
          refuses given plain why (Err other) e p (inl h) = inl (p ∙ ap (λ (x : Refusal). Err x) (err_same given e h))
          refuses given plain why (Err other) e p (inr h) = inr h

          by : (a : Bool) → has_names at.inode ≡ a → (b : Bool) → is_regular at.inode ≡ b → (r : Result (List ℕ) Refusal) → Answers (bytes_in blocks pages at offset count) r
              → (is_regular at.inode ≡ true → IfErr r (OpenWhereSpelled blocks pages at.inode)) → Follows {X = Reply × Tree} {Y = List ℕ} (IsBytes t) (read t path offset count) r
          by true e b g r h sound = refuses (bytes_in blocks pages at offset count) (read t path offset count) IsDir r (no_file blocks pages at offset count e) (in_case true b e g) h
          by false e false g r h sound = refuses (bytes_in blocks pages at offset count) (read t path offset count) NotFile r (other_kind blocks pages at offset count e g) (in_case false false e g) h
          by false e true g (Ok bytes) h sound =
              let n = min count (at.inode.size - offset) in (
                (Bytes (bytes_from (t.bytes at.number) offset n), t),
                in_case false true e g ∙ ap (λ (s : ℕ). Ok (Bytes (bytes_from (t.bytes at.number) offset (min count (s - offset))), t)) (size_is e),
                ap (λ (bs : List ℕ). (Bytes bs, t)) (same_read g n refl ∙ stored_value at.page (broken_in blocks pages at.inode (offset / 4096) (touched offset n)) (bytes_from (byte_on_way blocks pages at.inode) offset n) bytes (sym (regular blocks pages at offset count e g) ∙ h)),
              )
          by false e true g (Err why) h sound = inr (sound g w.extents (ap (λ (x : Dinode). spells_extents blocks pages (root_of x)) shown ∙ same_list (ap is_regular (sym shown) ∙ g) ∙ w.extents_are))
