-- What unlink and rmdir meet, on any volume.
use Rattle.std.proofs.Common.{◌≡◌, ◌≤◌, refl, sym, ap, ◌∙◌, inl, inr, ℕ, Bool, true, false, nat_le, if◌then◌else◌, List, length, Option, Some, None, Result, Ok, Err, arith, ne_eqb, eq-eqb}
use Rattle.jfs_bits.specs.declared.rule.Rule.{Rule}
use Rattle.jfs_imap.specs.Inodes.{Inodes}
use Rattle.jfs_dtree.specs.Spells.{root_node, broken_for, found_for}
use Rattle.jfs_loss.specs.objects.specs.Objects.{has_names}
use Rattle.jfs_loss.specs.meaning.specs.Readers.{root_of}
use Rattle.jfs_plain.specs.Tree.{and_then}
use Rattle.jfs_plain.specs.declared.refusal.Refusal.{Refusal}
use Rattle.jfs_plain.specs.declared.refusal.Refusal.TheVariants.{IsDir, NotDir, FileTooBig, IntoItself}
use Rattle.jfs_loss.specs.way.specs.Answer.{is_open, Answers}
use Rattle.jfs_loss.specs.way.specs.Way.{inode_named, if_unbroken, name_from, path_of}
use Rattle.jfs_loss.specs.way.specs.declared.object.Held.{Held}
use Rattle.jfs_loss.specs.Causes.{freed_from, if_named, lost_from}
use Rattle.jfs_unlink.specs.Call.{is_last_of_big, unlink_at, unlink_of, bare_at, rmdir_at, rmdir_of}

-- ---- the name

-- what was found under a name is there to be lost
module _ (blocks : ℕ) (pages : ℕ → List ℕ) (inodes : Inodes) (dir at : Held) (name : List ℕ) (found : name_from blocks pages inodes dir name ≡ Ok at) where
  pub has_it : (n : ℕ) × (lost_from blocks pages dir name ≡ Ok n)
  has_it = by (has_names dir.inode) (broken_for blocks pages (root_of dir.inode) name) (found_for blocks pages (root_of dir.inode) name) found
    where
      by : (x : Bool) (first : Option (ℕ × Rule)) (there : Option ℕ) → (if x then if_unbroken dir.page first (inode_named blocks pages inodes dir.page there) else Err NotDir) ≡ Ok at → (n : ℕ) × (if_named dir.page first there ≡ Ok n)
      by true None (Some n) h = (n, refl)
      by true None None h = absurd (cc (h))
      by true (Some bad) there h = absurd (cc (h))
      by false first there h = absurd (cc (h))

  pub only_open : (why : Refusal) → Answers (lost_from blocks pages dir name) (Err why) → is_open why ≡ true
  only_open why (inl h) = absurd (no (sym has_it.1 ∙ h))
    where
      no : {n : ℕ} → Ok n ≡ Err why → ⊥
      no h = cc (h)
  only_open why (inr h) = h

-- ---- unlink

module _ (blocks : ℕ) (pages : ℕ → List ℕ) (inodes : Inodes) (path : List (List ℕ)) (limit : ℕ) where
  pub unlink_root : length path ≡ 0 → unlink_of blocks pages inodes path limit ≡ Err IsDir
  unlink_root h = ap (λ (x : Bool). if x then Err IsDir else and_then (path_of blocks pages inodes path) (unlink_at blocks pages limit)) (eq-eqb (length path) 0 h)

  module _ (some : 1 ≤ length path) where
    on_path : unlink_of blocks pages inodes path limit ≡ and_then (path_of blocks pages inodes path) (unlink_at blocks pages limit)
    on_path = ap (λ (x : Bool). if x then Err IsDir else and_then (path_of blocks pages inodes path) (unlink_at blocks pages limit)) (ne_eqb (length path) 0 (λ e. absurd (omega (arith, some, e))))

    pub unlink_fails : (why : Refusal) → Answers (path_of blocks pages inodes path) (Err why) → Answers (unlink_of blocks pages inodes path limit) (Err why)
    unlink_fails why (inl h) = inl (on_path ∙ ap (λ x. and_then x (unlink_at blocks pages limit)) h)
    unlink_fails why (inr h) = inr h

    module _ (at : Held) (met : path_of blocks pages inodes path ≡ Ok at) where
      at_end : unlink_of blocks pages inodes path limit ≡ unlink_at blocks pages limit at
      at_end = on_path ∙ ap (λ x. and_then x (unlink_at blocks pages limit)) met

      abbrev rest : Result Held Refusal
      rest = if nat_le at.inode.nlink 1 then freed_from blocks pages at else Ok at

      pub unlink_dir : has_names at.inode ≡ true → unlink_of blocks pages inodes path limit ≡ Err IsDir
      unlink_dir h = at_end ∙ ap (λ (x : Bool). if x then Err IsDir else (if is_last_of_big limit at.inode then Err FileTooBig else rest)) h

      module _ (file : has_names at.inode ≡ false) where
        past_dir : unlink_of blocks pages inodes path limit ≡ (if is_last_of_big limit at.inode then Err FileTooBig else rest)
        past_dir = at_end ∙ ap (λ (x : Bool). if x then Err IsDir else (if is_last_of_big limit at.inode then Err FileTooBig else rest)) file

        pub unlink_big : is_last_of_big limit at.inode ≡ true → unlink_of blocks pages inodes path limit ≡ Err FileTooBig
        unlink_big h = past_dir ∙ ap (λ (x : Bool). if x then Err FileTooBig else rest) h

        module _ (small : is_last_of_big limit at.inode ≡ false) where
          past_big : unlink_of blocks pages inodes path limit ≡ rest
          past_big = past_dir ∙ ap (λ (x : Bool). if x then Err FileTooBig else rest) small

          pub unlink_other : nat_le at.inode.nlink 1 ≡ false → unlink_of blocks pages inodes path limit ≡ Ok at
          unlink_other h = past_big ∙ ap (λ (x : Bool). if x then freed_from blocks pages at else Ok at) h

          pub unlink_last : nat_le at.inode.nlink 1 ≡ true → unlink_of blocks pages inodes path limit ≡ freed_from blocks pages at
          unlink_last h = past_big ∙ ap (λ (x : Bool). if x then freed_from blocks pages at else Ok at) h

          pub unlink_stays : nat_le at.inode.nlink 1 ≡ true → (why : Refusal) → Answers (freed_from blocks pages at) (Err why) → Answers (unlink_of blocks pages inodes path limit) (Err why)
          unlink_stays h why (inl e) = inl (unlink_last h ∙ e)
          unlink_stays h why (inr e) = inr e

-- ---- rmdir

module _ (blocks : ℕ) (pages : ℕ → List ℕ) (inodes : Inodes) (path : List (List ℕ)) where
  pub rmdir_root : length path ≡ 0 → rmdir_of blocks pages inodes path ≡ Err IntoItself
  rmdir_root h = ap (λ (x : Bool). if x then Err IntoItself else and_then (path_of blocks pages inodes path) (rmdir_at blocks)) (eq-eqb (length path) 0 h)

  module _ (some : 1 ≤ length path) where
    on_way : rmdir_of blocks pages inodes path ≡ and_then (path_of blocks pages inodes path) (rmdir_at blocks)
    on_way = ap (λ (x : Bool). if x then Err IntoItself else and_then (path_of blocks pages inodes path) (rmdir_at blocks)) (ne_eqb (length path) 0 (λ e. absurd (omega (arith, some, e))))

    pub rmdir_fails : (why : Refusal) → Answers (path_of blocks pages inodes path) (Err why) → Answers (rmdir_of blocks pages inodes path) (Err why)
    rmdir_fails why (inl h) = inl (on_way ∙ ap (λ x. and_then x (rmdir_at blocks)) h)
    rmdir_fails why (inr h) = inr h

    module _ (at : Held) (met : path_of blocks pages inodes path ≡ Ok at) where
      end_is : rmdir_of blocks pages inodes path ≡ (if has_names at.inode then bare_at at (root_node blocks (root_of at.inode)) else Err NotDir)
      end_is = on_way ∙ ap (λ x. and_then x (rmdir_at blocks)) met

      pub rmdir_file : has_names at.inode ≡ false → rmdir_of blocks pages inodes path ≡ Err NotDir
      rmdir_file h = end_is ∙ ap (λ (x : Bool). if x then bare_at at (root_node blocks (root_of at.inode)) else Err NotDir) h

      pub rmdir_dir : has_names at.inode ≡ true → rmdir_of blocks pages inodes path ≡ bare_at at (root_node blocks (root_of at.inode))
      rmdir_dir h = end_is ∙ ap (λ (x : Bool). if x then bare_at at (root_node blocks (root_of at.inode)) else Err NotDir) h
