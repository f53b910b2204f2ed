-- A truncate on a consistent volume takes the plain step.
use Rattle.std.proofs.Common.{◌≡◌, ◌≢◌, ◌≤◌, ◌<◌, ◌⊎◌, refl, sym, ap, ◌∙◌, inl, inr, ℕ, ◌/◌, ◌%◌, ◌&&◌, ◌==◌, Bool, true, false, nat_lt, if◌then◌else◌, List, length, Option, Some, None, Result, Ok, Err, arith, eq-eqb, ne_eqb}
use Rattle.std.specs.Prelude.{min, max, nat_le}
use Rattle.std.proofs.lemmas.Bool.{cases_lt, lt-ltb, le-ltb, le-leb}
use Rattle.jfs_bits.specs.declared.descriptor.Moment.{Moment}
use Rattle.jfs_bits.specs.declared.extent.Xad.{Xad}
use Rattle.jfs_inode.specs.declared.fields.Dinode.{Dinode}
use Rattle.jfs_imap.specs.Inodes.{Inodes}
use Rattle.jfs_read.specs.bmap.specs.States.{Blocks}
use Rattle.jfs_ranges.specs.declared.edit.Edit.{Edit}
use Rattle.jfs_xtree.specs.Cutting.{kept_below}
use Rattle.jfs_data_steps.specs.objects.specs.Readers.{Readers}
use Rattle.jfs_data_steps.specs.objects.specs.Volume.{Volume}
use Rattle.jfs_data_steps.specs.objects.specs.Objects.{Object, objects, spelled, has_names}
use Rattle.jfs_data_steps.specs.objects.specs.Contents.{block_of, bytes_at}
use Rattle.jfs_data_steps.specs.objects.specs.Changes.{put}
use Rattle.jfs_data_steps.specs.objects.specs.Owners.{covers}
use Rattle.jfs_data_steps.specs.objects.proofs.Sums.{put_here, put_other, eq_or_not}
use Rattle.jfs_read.specs.meaning.specs.Contents.{byte_of, byte_in, is_regular}
use Rattle.jfs_read.specs.meaning.specs.Readers.{readers}
use Rattle.jfs_read.specs.meaning.specs.Tree.{tree_on}
use Rattle.jfs_read.specs.meaning.specs.Consistent.{IsConsistent}
use Rattle.jfs_plain.specs.Tree.{Tree, Found, found_at, walk, root, and_then}
use Rattle.jfs_plain.specs.CallStep.{LeavesRest, writes_over_in}
use Rattle.jfs_plain.specs.declared.call.Call.TheVariants as calls
use Rattle.jfs_plain.specs.Moves.{Same, sized, changed, cut}
use Rattle.jfs_plain.specs.Step.{Room, Outcome, refuse, file, truncate}
use Rattle.jfs_plain.specs.declared.node.Node.{Node}
use Rattle.jfs_plain.specs.declared.refusal.Refusal.{Refusal}
use Rattle.jfs_plain.specs.declared.refusal.Refusal.TheVariants.{IsDir, NotFile, FileTooBig}
use Rattle.jfs_plain.specs.declared.reply.Reply.TheVariants.{Done}
use Rattle.jfs_read.specs.way.specs.Volume.{volume_of}
use Rattle.jfs_read.specs.way.specs.Walk.{IsHeld, IsShown, IsThere, tree_in}
use Rattle.jfs_read.specs.way.specs.declared.object.Held.{Held}
use Rattle.jfs_data_steps.specs.steps.specs.Call.{IsDone}
use Rattle.jfs_data_steps.specs.declared.pages.DataPage.{DataPage}
use Rattle.jfs_data_steps.specs.After.{AreWholePages, put_data, with_data, after_writes}
use Rattle.jfs_data_steps.specs.Laws.{IsFilePut, PutsOwn}
use Rattle.jfs_data_steps.specs.File.{bytes_held, refilled}
use Rattle.jfs_data_steps.proofs.Extents.{file_type, had_once, had_below}
use Rattle.jfs_data_steps.proofs.Files.{file_bytes, file_before}
use Rattle.jfs_data_steps.proofs.Held as held_file
use Rattle.jfs_truncate.specs.Tail.{blocks_for, tail_block, IsTail}
use Rattle.jfs_truncate.specs.Call.{why_kept, Resizes}
use Rattle.jfs_truncate.proofs.Bytes.{held_now, held_early}
use Rattle.jfs_truncate.proofs.Cut.{tail_is, before, file_set}

-- ---- what is allowed

pub record Fits (d : Dinode) (size limit : ℕ) : Type 0 where
  pub no_names : has_names d ≡ false
  pub regular : is_regular d ≡ true
  pub small : nat_lt limit (max d.size size) ≡ false

pub fits : (d : Dinode) (size limit : ℕ) → why_kept d size limit ≡ None → Fits d size limit
fits d size limit h = by (has_names d) refl (is_regular d) refl (nat_lt limit (max d.size size)) refl h
  where
    by : (a : Bool) → has_names d ≡ a → (b : Bool) → is_regular d ≡ b → (c : Bool) → nat_lt limit (max d.size size) ≡ c
        → (if a then Some IsDir else (if b then (if c then Some FileTooBig else None) else Some NotFile)) ≡ None → Fits d size limit
    by true e b f c g h = absurd (cc (h))
    by false e true f true g h = absurd (cc (h))
    by false e true f false g h = record { no_names = e; regular = f; small = g }
    by false e false f c g h = absurd (cc (h))

module _ (blocks : ℕ) (pages : ℕ → List ℕ) (whole : (b : ℕ) → b < blocks → length (pages b) ≡ 4096) (area : ℕ → ℕ) (bm : Blocks) (inodes : Inodes)
    (con : IsConsistent (readers blocks) (volume_of pages area bm inodes)) (at : Held) (held : IsHeld blocks inodes at) (shown : IsShown pages at) (some : IsThere (tree_in blocks pages area bm inodes) at.number)
    (size limit : ℕ) (now : Moment) (room : Room) (same_limit : room.limit ≡ limit) (path : List (List ℕ)) (walked : walk (tree_in blocks pages area bm inodes) root path ≡ Ok at.number) where
  abbrev r : Readers
  r = readers blocks

  abbrev v : Volume
  v = volume_of pages area bm inodes

  abbrev t : Tree
  t = tree_in blocks pages area bm inodes

  abbrev n : ℕ
  n = at.number

  abbrev d : Dinode
  d = at.inode

  -- ---- the plain step

  abbrev told : Found → Outcome
  told f = refuse (nat_lt room.limit (max f.node.size size)) FileTooBig (Ok (Done, changed f.inode (sized size now) (cut f.inode size t)))

  abbrev node : Node
  node = held_file.node blocks pages whole area bm inodes con at held shown some

  by_file : (a b : Bool) → has_names d ≡ a → is_regular d ≡ b → truncate room t path size now ≡ and_then (if a then Err IsDir else if b then Ok (found_at n node) else Err NotFile) told
  by_file a b e f = ap (λ (x : Result Found Refusal). and_then x told) (held_file.file_is blocks pages whole area bm inodes con at held shown some path walked)
      ∙ ap (λ (x : Bool). and_then (if x then Err IsDir else if is_regular d then Ok (found_at n node) else Err NotFile) told) e
      ∙ ap (λ (x : Bool). and_then (if a then Err IsDir else if x then Ok (found_at n node) else Err NotFile) told) f

  by_size : has_names d ≡ false → is_regular d ≡ true → (c : Bool) → nat_lt limit (max d.size size) ≡ c → truncate room t path size now ≡ refuse c FileTooBig (Ok (Done, changed n (sized size now) (cut n size t)))
  by_size e f c g = by_file false true e f ∙ ap (λ (k : ℕ). refuse (nat_lt room.limit (max k size)) FileTooBig (Ok (Done, changed n (sized size now) (cut n size t)))) (held_file.node_size blocks pages whole area bm inodes con at held shown some e)
      ∙ ap (λ (k : ℕ). refuse (nat_lt k (max d.size size)) FileTooBig (Ok (Done, changed n (sized size now) (cut n size t)))) same_limit
      ∙ ap (λ (x : Bool). refuse x FileTooBig (Ok (Done, changed n (sized size now) (cut n size t)))) g

  -- a file that isn't given the size
  pub refused : (why : Refusal) → why_kept d size limit ≡ Some why → truncate room t path size now ≡ Err why
  refused why h = by (has_names d) refl (is_regular d) refl (nat_lt limit (max d.size size)) refl h
    where
      why_is : {x : Refusal} → Some x ≡ Some why → x ≡ why
      why_is h = cc (h)

      by : (a : Bool) → has_names d ≡ a → (b : Bool) → is_regular d ≡ b → (c : Bool) → nat_lt limit (max d.size size) ≡ c
          → (if a then Some IsDir else (if b then (if c then Some FileTooBig else None) else Some NotFile)) ≡ Some why → truncate room t path size now ≡ Err why
      by true e b f c g h = by_file true b e f ∙ ap (λ (x : Refusal). Err x) (why_is h)
      by false e true f true g h = by_size e f true g ∙ ap (λ (x : Refusal). Err x) (why_is h)
      by false e true f false g h = absurd (cc (h))
      by false e false f c g h = by_file false false e f ∙ ap (λ (x : Refusal). Err x) (why_is h)

  -- ---- the file

  module _ (many : length bm.states ≡ blocks) (fit : Fits d size limit) (tx : List Edit) (z : Resizes blocks pages at size now tx) (ds : List DataPage) (tail : IsTail pages (min d.size size) (tail_block blocks pages d (min d.size size)) ds) (full : AreWholePages ds) where
    abbrev es : List Xad
    es = held_file.es blocks pages whole area bm inodes con at held shown some

    abbrev held_bytes : ℕ → ℕ
    held_bytes = bytes_held (put_data ds pages) (kept_below (blocks_for (min d.size size)) es) size

    was : objects r v n ≡ Some (spelled r pages d)
    was = held_file.was blocks pages whole area bm inodes con at held shown some

    once : (b : ℕ) → covers b es ≤ 1
    once b = let h = had_once blocks v con (held_file.used_below blocks pages area bm inodes many) whole n d was (held_file.is_living blocks pages whole area bm inodes con at held shown some) fit.regular z.rest es
        (held_file.spelled_es blocks pages whole area bm inodes con at held shown some fit.regular) b in omega (arith, h)

    low : (b : ℕ) → 0 < covers b es → b < blocks
    low b l = had_below blocks v con (held_file.used_below blocks pages area bm inodes many) whole n d was (held_file.is_living blocks pages whole area bm inodes con at held shown some) fit.regular z.rest es
        (held_file.spelled_es blocks pages whole area bm inodes con at held shown some fit.regular) b (omega (arith, l))

    byte_was : (i : ℕ) → t.bytes n i ≡ bytes_held pages es d.size i
    byte_was i = ap (λ (x : Option Object). byte_in r pages x i) was ∙ file_bytes r pages d (file_type d fit.regular) pages es (held_file.listed_es blocks pages whole area bm inodes con at held shown some) i

    byte_now : (i : ℕ) → held_bytes i ≡ (if nat_lt i size then t.bytes n i else 0)
    byte_now i = held_now pages es d.size size (min d.size size) refl ds (tail_block blocks pages d (min d.size size)) tail
        (tail_is blocks pages whole area bm inodes many con at held shown some fit.regular size now tx z) once (λ b l. whole b (low b l)) i
        ∙ ap (λ (x : ℕ). if nat_lt i size then x else 0) (sym (byte_was i))

    abbrev u : Tree
    u = changed n (sized size now) (cut n size t)

    same : Same u (refilled n size held_bytes now t)
    same = record { nodes = λ k. refl; bytes = bytes }
      where
        bytes : (k i : ℕ) → put n held_bytes t.bytes k i ≡ u.bytes k i
        bytes k i = elim (eq_or_not k n) [
          | inl e ↦ ap (λ (j : ℕ). put n held_bytes t.bytes j i) e ∙ ap (λ (f : ℕ → ℕ). f i) (put_here n held_bytes t.bytes) ∙ byte_now i
              ∙ sym (ap (λ (x : Bool). if x then (if nat_lt i size then t.bytes n i else 0) else t.bytes k i) (eq-eqb n k (sym e)))
          | inr a ↦ ap (λ (f : ℕ → ℕ). f i) (put_other n held_bytes t.bytes k a)
              ∙ sym (ap (λ (x : Bool). if x then (if nat_lt i size then t.bytes n i else 0) else t.bytes k i) (ne_eqb n k (λ s. a (sym s))))
        ]

    pub truncate_done : IsDone blocks v (after_writes blocks ds tx v) (λ t. truncate room t path size now)
    truncate_done = held_file.file_done blocks v (after_writes blocks ds tx v) n size held_bytes now (λ t. truncate room t path size now) u (by_size fit.no_names fit.regular false fit.small) same
        (file_set blocks pages whole area bm inodes many con at held shown some fit.regular size now tx z ds tail full)

    -- ---- before the transaction

    abbrev e_bytes : ℕ → ℕ
    e_bytes = bytes_held (put_data ds pages) es d.size

    put_early : IsFilePut blocks v (with_data ds v) n e_bytes
    put_early = file_before blocks v n d es ds con was fit.regular (held_file.listed_es blocks pages whole area bm inodes con at held shown some)
        (before blocks pages whole area bm inodes many con at held shown some fit.regular size now tx z ds tail full)

    file_is : file t path ≡ Ok (found_at n node)
    file_is = held_file.file_is blocks pages whole area bm inodes con at held shown some path walked
        ∙ ap (λ (x : Bool). if x then Err IsDir else if is_regular d then Ok (found_at n node) else Err NotFile) fit.no_names
        ∙ ap (λ (x : Bool). if x then Ok (found_at n node) else Err NotFile) fit.regular

    choose : (i old end : ℕ) → i < old → (nat_lt i old && (nat_le end i && (i / 4096 == end / 4096))) ≡ false → (i < min old end) ⊎ (i / 4096 ≢ min old end / 4096)
    choose i old end l h = elim (cases_lt i end) [
      | inl m ↦ inl (omega (arith, l, m))
      | inr m ↦ inr (λ e. no (sym (both (lt-ltb i old l) (le-leb end i m) (eq-eqb (i / 4096) (end / 4096) (e ∙ (let k : min old end ≡ end = omega (arith, l, m) in ap (λ (x : ℕ). x / 4096) k)))) ∙ h))
    ]
      where
        no : true ≡ false → ⊥
        no h = cc (h)

        both : {a b c : Bool} → a ≡ true → b ≡ true → c ≡ true → (a && (b && c)) ≡ true
        both x y w = rw (x, y, w) refl

    early_here : (i : ℕ) → (nat_lt i node.size && (nat_le size i && (i / 4096 == size / 4096))) ≡ false → e_bytes i ≡ t.bytes n i
    early_here i h = elim (cases_lt i d.size) [
      | inl l ↦ held_early pages es d.size size (min d.size size) refl ds (tail_block blocks pages d (min d.size size)) tail
          (tail_is blocks pages whole area bm inodes many con at held shown some fit.regular size now tx z) once (λ b l. whole b (low b l)) i
          (choose i d.size size l (ap (λ (k : ℕ). nat_lt i k && (nat_le size i && (i / 4096 == size / 4096))) (sym (held_file.node_size blocks pages whole area bm inodes con at held shown some fit.no_names)) ∙ h)) ∙ sym (byte_was i)
      | inr l ↦ ap (λ (x : Bool). if x then byte_of (bytes_at (put_data ds pages) (block_of es (i / 4096))) (i % 4096) else 0) (le-ltb i d.size l)
          ∙ sym (byte_was i ∙ ap (λ (x : Bool). if x then byte_of (bytes_at pages (block_of es (i / 4096))) (i % 4096) else 0) (le-ltb i d.size l))
    ]

    abbrev early_tree : Tree
    early_tree = tree_on r (with_data ds v)

    early_bytes : (m i : ℕ) → writes_over_in (file t path) (calls.Truncate path size) m i ≡ false → early_tree.bytes m i ≡ t.bytes m i
    early_bytes m i h = put_early.same.bytes m i ∙ elim (eq_or_not m n) [
      | inl e ↦ ap (λ (j : ℕ). put n e_bytes t.bytes j i) e ∙ ap (λ (f : ℕ → ℕ). f i) (put_here n e_bytes t.bytes) ∙ early_here i (sym (over e) ∙ h) ∙ ap (λ (j : ℕ). t.bytes j i) (sym e)
      | inr a ↦ ap (λ (f : ℕ → ℕ). f i) (put_other n e_bytes t.bytes m a)
    ]
      where
        over : m ≡ n → writes_over_in (file t path) (calls.Truncate path size) m i ≡ (nat_lt i node.size && (nat_le size i && (i / 4096 == size / 4096)))
        over e = ap (λ (x : Result Found Refusal). writes_over_in x (calls.Truncate path size) m i) file_is
            ∙ ap (λ (x : Bool). x && (nat_lt i node.size && (nat_le size i && (i / 4096 == size / 4096)))) (eq-eqb n m (sym e))

    puts_own : PutsOwn blocks v ds
    unfolding spelled
    puts_own = record {
      inode = n;
      file = spelled r pages d;
      there = was;
      regular = fit.regular;
      may = before blocks pages whole area bm inodes many con at held shown some fit.regular size now tx z ds tail full;
    }

    pub truncate_starts : LeavesRest t (calls.Truncate path size) early_tree × IsConsistent r (with_data ds v) × PutsOwn blocks v ds
    truncate_starts = (record { nodes = put_early.same.nodes; bytes = early_bytes }, put_early.consistent, puts_own)
