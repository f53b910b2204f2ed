-- A write on a consistent volume takes the plain step.
use Rattle.std.proofs.Common.{◌≡◌, ◌≤◌, ◌<◌, refl, sym, ap, ◌∙◌, inl, inr, ℕ, ◌+◌, ◌-◌, ◌/◌, ◌%◌, ◌&&◌, Bool, true, false, nat_lt, if◌then◌else◌, List, length, Option, Some, None, Result, Ok, Err, arith, eq-eqb, ne_eqb}
use Rattle.std.specs.Prelude.{min, max, nat_le, get_or}
use Rattle.std.proofs.lemmas.Bool.{cases_lt, lt-ltb, le-ltb}
use Rattle.jfs_bits.specs.declared.descriptor.Moment.{Moment}
use Rattle.jfs_bits.specs.declared.descriptor.Pxd.{Pxd}
use Rattle.jfs_bits.specs.declared.extent.Xad.{Xad}
use Rattle.jfs_inode.specs.declared.fields.Dinode.{Dinode}
use Rattle.jfs_imap.specs.Inodes.{Inodes}
use Rattle.jfs_bmap.specs.States.{Blocks}
use Rattle.jfs_xtree.specs.Spells.{spells_extents}
use Rattle.jfs_write_pages.specs.objects.specs.Readers.{Readers}
use Rattle.jfs_write_pages.specs.objects.specs.Volume.{Volume}
use Rattle.jfs_write_pages.specs.objects.specs.Objects.{Object, objects, spelled, has_names, listed}
use Rattle.jfs_write_pages.specs.objects.specs.Contents.{block_of, bytes_at}
use Rattle.jfs_write_pages.specs.objects.specs.Changes.{put}
use Rattle.jfs_write_pages.specs.objects.proofs.Sums.{put_here, put_other, eq_or_not}
use Rattle.jfs_link.specs.meaning.specs.Contents.{byte_of, byte_in, is_regular}
use Rattle.jfs_link.specs.meaning.specs.Readers.{readers, root_of}
use Rattle.jfs_link.specs.meaning.specs.Tree.{tree_on}
use Rattle.jfs_link.specs.meaning.specs.Consistent.{IsConsistent}
use Rattle.jfs_plain.specs.Tree.{Tree, Found, found_at, walk, root, and_then}
use Rattle.jfs_plain.specs.CallStep.{writes_over_in}
use Rattle.jfs_plain.specs.declared.call.Call.TheVariants as calls
use Rattle.jfs_plain.specs.Moves.{Same, sized, changed, filled, byte_after}
use Rattle.jfs_plain.specs.Step.{Room, Outcome, refuse, is_short, need_of_bytes, size_after, within_limit, file, write}
use Rattle.jfs_plain.specs.declared.node.Node.{Node}
use Rattle.jfs_plain.specs.declared.refusal.Refusal.{Refusal}
use Rattle.jfs_plain.specs.declared.refusal.Refusal.TheVariants.{IsDir, NotFile, FileTooBig, NoSpace}
use Rattle.jfs_plain.specs.declared.reply.Reply.TheVariants.{Done}
use Rattle.jfs_read.specs.way.specs.Volume.{volume_of}
use Rattle.jfs_read.specs.way.specs.Walk.{IsHeld, IsShown, IsThere, tree_in}
use Rattle.jfs_read.specs.way.specs.declared.object.Held.{Held}
use Rattle.jfs_link.specs.steps.specs.Call.{IsDone}
use Rattle.jfs_write_pages.specs.data_steps.specs.declared.pages.DataPage.{DataPage}
use Rattle.jfs_write_pages.specs.data_steps.specs.After.{AreWholePages, put_data, with_data, after_writes}
use Rattle.jfs_write_pages.specs.data_steps.specs.Laws.{IsFilePut, PutsOwn}
use Rattle.jfs_write_pages.specs.data_steps.specs.File.{bytes_held, refilled}
use Rattle.jfs_write_pages.specs.data_steps.proofs.Extents.{file_type}
use Rattle.jfs_write_pages.specs.data_steps.proofs.Files.{file_bytes, file_before}
use Rattle.jfs_write_pages.specs.data_steps.proofs.Held as held_file
use Rattle.jfs_write.specs.Look.{most_bytes, why_kept, FitsBytes, spots_at, want_for}
use Rattle.jfs_write.specs.Make.{Makes}
use Rattle.jfs_write.specs.Call.{MayTake, StartsIn}
use Rattle.jfs_write.specs.declared.make.Written.{Written}
use Rattle.jfs_write.proofs.Grown.{listed_es, later_es, is_fair, before, put_once, file_set, bytes_now, stays_block}

-- ---- what is allowed

pub record Fits (d : Dinode) (end limit : ℕ) : Type 0 where
  pub no_names : has_names d ≡ false
  pub regular : is_regular d ≡ true
  pub small : nat_lt (min limit most_bytes) (max d.size end) ≡ false

pub allowed_fits : (d : Dinode) (end limit : ℕ) → why_kept d end limit ≡ None → Fits d end limit
allowed_fits d end limit h = by (has_names d) refl (is_regular d) refl (nat_lt (min limit most_bytes) (max d.size end)) refl h
  where
    by : (a : Bool) → has_names d ≡ a → (b : Bool) → is_regular d ≡ b → (c : Bool) → nat_lt (min limit most_bytes) (max d.size end) ≡ c
        → (if a then Some IsDir else (if b then (if c then Some FileTooBig else None) else Some NotFile)) ≡ None → Fits d end limit
    by true e b f c g h = absurd (cc (h))
    by false e true f true g h = absurd (cc (h))
    by false e true f false g h = record { no_names = e; regular = f; small = g }
    by false e false f c g h = absurd (cc (h))

module _ (blocks : ℕ) (pages : ℕ → List ℕ) (whole : (b : ℕ) → b < blocks → length (pages b) ≡ 4096) (area : ℕ → ℕ) (bm : Blocks) (inodes : Inodes)
    (con : IsConsistent (readers blocks) (volume_of pages area bm inodes)) (at : Held) (held : IsHeld blocks inodes at) (shown : IsShown pages at) (some : IsThere (tree_in blocks pages area bm inodes) at.number)
    (offset : ℕ) (bytes : List ℕ) (now : Moment) (path : List (List ℕ)) (walked : walk (tree_in blocks pages area bm inodes) root path ≡ Ok at.number) where
  abbrev r : Readers
  r = readers blocks

  abbrev v : Volume
  v = volume_of pages area bm inodes

  abbrev t : Tree
  t = tree_in blocks pages area bm inodes

  abbrev n : ℕ
  n = at.number

  abbrev d : Dinode
  d = at.inode

  abbrev end : ℕ
  end = offset + length bytes

  abbrev size : ℕ
  size = max d.size end

  -- ---- the plain step

  abbrev pub set_to : ℕ → Tree
  set_to k = changed n (sized k now) (filled n offset bytes t)

  abbrev node : Node
  node = held_file.node blocks pages whole area bm inodes con at held shown some

  module _ (limit : ℕ) (room : Room) (same_limit : room.limit ≡ limit) (small : limit ≤ 268435456) where
    abbrev spaced : ℕ → Outcome
    spaced k = refuse (is_short room (need_of_bytes offset (length bytes))) (NoSpace room.free) (Ok (Done, set_to k))

    abbrev told : Found → Outcome
    told f = within_limit (size_after room.limit f.node.size end) (λ (k : ℕ). refuse (is_short room (need_of_bytes offset (length bytes))) (NoSpace room.free) (Ok (Done, changed f.inode (sized k now) (filled f.inode offset bytes t))))

    by_file : (a b : Bool) → has_names d ≡ a → is_regular d ≡ b → write room t path offset bytes now ≡ and_then (if a then Err IsDir else if b then Ok (found_at n node) else Err NotFile) told
    by_file a b e f = ap (λ (x : Result Found Refusal). and_then x told) (held_file.file_is blocks pages whole area bm inodes con at held shown some path walked)
        ∙ ap (λ (x : Bool). and_then (if x then Err IsDir else if is_regular d then Ok (found_at n node) else Err NotFile) told) e
        ∙ ap (λ (x : Bool). and_then (if a then Err IsDir else if x then Ok (found_at n node) else Err NotFile) told) f

    limit_is : room.limit ≡ min limit most_bytes
    limit_is = same_limit ∙ (let e : limit ≡ min limit most_bytes = omega (arith, small) in e)

    by_size : has_names d ≡ false → is_regular d ≡ true → (c : Bool) → nat_lt (min limit most_bytes) (max d.size end) ≡ c → write room t path offset bytes now ≡ within_limit (if c then None else Some size) spaced
    by_size e f c g = by_file false true e f ∙ ap (λ (k : ℕ). within_limit (size_after room.limit k end) spaced) (held_file.node_size blocks pages whole area bm inodes con at held shown some e)
        ∙ ap (λ (k : ℕ). within_limit (if nat_lt k size then None else Some size) spaced) limit_is
        ∙ ap (λ (x : Bool). within_limit (if x then None else Some size) spaced) g

    -- why bytes aren't put into it
    pub refused : (why : Refusal) → why_kept d end limit ≡ Some why → write room t path offset bytes now ≡ Err why
    refused why h = by (has_names d) refl (is_regular d) refl (nat_lt (min limit most_bytes) (max d.size end)) refl h
      where
        why_is : {x : Refusal} → Some x ≡ Some why → x ≡ why
        why_is h = cc (h)

        by : (a : Bool) → has_names d ≡ a → (b : Bool) → is_regular d ≡ b → (c : Bool) → nat_lt (min limit most_bytes) (max d.size end) ≡ c
            → (if a then Some IsDir else (if b then (if c then Some FileTooBig else None) else Some NotFile)) ≡ Some why → write room t path offset bytes now ≡ Err why
        by true e b f c g h = by_file true b e f ∙ ap (λ (x : Refusal). Err x) (why_is h)
        by false e true f true g h = by_size e f true g ∙ ap (λ (x : Refusal). Err x) (why_is h)
        by false e true f false g h = absurd (cc (h))
        by false e false f c g h = by_file false false e f ∙ ap (λ (x : Refusal). Err x) (why_is h)

    module _ (fit : Fits d end limit) where
      by_space : (c : Bool) → is_short room (need_of_bytes offset (length bytes)) ≡ c → write room t path offset bytes now ≡ refuse c (NoSpace room.free) (Ok (Done, set_to size))
      by_space c h = by_size fit.no_names fit.regular false fit.small ∙ ap (λ (x : Bool). refuse x (NoSpace room.free) (Ok (Done, set_to size))) h

      pub short : is_short room (need_of_bytes offset (length bytes)) ≡ true → write room t path offset bytes now ≡ Err (NoSpace room.free)
      short h = by_space true h

      pub goes : is_short room (need_of_bytes offset (length bytes)) ≡ false → write room t path offset bytes now ≡ Ok (Done, set_to size)
      goes h = by_space false h

  -- ---- the file

  module _ (no_names : has_names d ≡ false) (regular : is_regular d ≡ true) (many : length bm.states ≡ blocks) (es : List Xad) (spelled_es : spells_extents blocks pages (root_of d) ≡ Ok es) (fits : FitsBytes offset (length bytes)) (runs free : List Pxd)
      (may : MayTake bm (want_for es (spots_at es offset (length bytes))) runs free) (left : List Pxd) (out : Written) (z : Makes blocks pages at d.size offset bytes es (spots_at es offset (length bytes)) runs free left now out) (full : AreWholePages out.blocks) where
    abbrev ds : List DataPage
    ds = out.blocks

    abbrev then_es : List Xad
    then_es = later_es blocks pages whole area bm inodes many con at held shown some regular es spelled_es offset bytes fits runs free may left now out z full

    abbrev held_bytes : ℕ → ℕ
    held_bytes = bytes_held (put_data ds pages) then_es size

    was : objects r v n ≡ Some (spelled r pages d)
    was = held_file.was blocks pages whole area bm inodes con at held shown some

    listed_now : listed r.extents_order (spelled r pages d).extents ≡ Ok es
    listed_now = listed_es blocks pages whole area bm inodes many con at held shown some regular es spelled_es offset bytes fits runs free may

    byte_was : (i : ℕ) → t.bytes n i ≡ bytes_held pages es d.size i
    byte_was i = ap (λ (x : Option Object). byte_in r pages x i) was ∙ file_bytes r pages d (file_type d regular) pages es listed_now i

    new_bytes : (i : ℕ) → held_bytes i ≡ byte_after (bytes_held pages es d.size) offset bytes i
    new_bytes i = bytes_now blocks pages whole area bm inodes many con at held shown some regular es spelled_es offset bytes fits runs free may left now out z full i

    byte_now : (i : ℕ) → held_bytes i ≡ byte_after (t.bytes n) offset bytes i
    byte_now i = new_bytes i ∙ ap (λ (x : ℕ). if nat_le offset i && nat_lt i end then get_or bytes (i - offset) 0 else x) (sym (byte_was i))

    abbrev u : Tree
    u = set_to size

    same : Same u (refilled n size held_bytes now t)
    same = record { nodes = λ k. refl; bytes = bytes_are }
      where
        bytes_are : (k i : ℕ) → put n held_bytes t.bytes k i ≡ u.bytes k i
        bytes_are k i = elim (eq_or_not k n) [
          | inl e ↦ ap (λ (j : ℕ). put n held_bytes t.bytes j i) e ∙ ap (λ (f : ℕ → ℕ). f i) (put_here n held_bytes t.bytes) ∙ byte_now i
              ∙ sym (ap (λ (x : Bool). if x then byte_after (t.bytes n) offset bytes i else t.bytes k i) (eq-eqb n k (sym e)))
          | inr a ↦ ap (λ (f : ℕ → ℕ). f i) (put_other n held_bytes t.bytes k a)
              ∙ sym (ap (λ (x : Bool). if x then byte_after (t.bytes n) offset bytes i else t.bytes k i) (ne_eqb n k (λ s. a (sym s))))
        ]

    pub write_done : (room : Room) → write room t path offset bytes now ≡ Ok (Done, set_to size) → IsDone blocks v (after_writes blocks ds out.tx v) (λ t. write room t path offset bytes now)
    write_done room outcome = held_file.file_done blocks v (after_writes blocks ds out.tx v) n size held_bytes now (λ t. write room t path offset bytes now) u outcome same
        (file_set blocks pages whole area bm inodes many con at held shown some regular es spelled_es offset bytes fits runs free may left now out z full)

    -- ---- before the transaction

    abbrev e_bytes : ℕ → ℕ
    e_bytes = bytes_held (put_data ds pages) es d.size

    put_early : IsFilePut blocks v (with_data ds v) n e_bytes
    put_early = file_before blocks v n d es ds con was regular listed_now
        (before blocks pages whole area bm inodes many con at held shown some regular es spelled_es offset bytes fits runs free may left now out z full)

    file_is : file t path ≡ Ok (found_at n node)
    file_is = held_file.file_is blocks pages whole area bm inodes con at held shown some path walked
        ∙ ap (λ (x : Bool). if x then Err IsDir else if is_regular d then Ok (found_at n node) else Err NotFile) no_names
        ∙ ap (λ (x : Bool). if x then Ok (found_at n node) else Err NotFile) regular

    abbrev now_at : Option ℕ → ℕ → ℕ
    now_at o i = byte_of (bytes_at (put_data ds pages) o) (i % 4096)

    early_some : (i b : ℕ) → i < d.size → block_of es (i / 4096) ≡ Some b → (nat_le offset i && nat_lt i end) ≡ false → e_bytes i ≡ bytes_held pages es d.size i
    early_some i b l e out_of =
        ap (λ (x : Bool). if x then now_at (block_of es (i / 4096)) i else 0) (lt-ltb i d.size l) ∙ ap (λ (o : Option ℕ). now_at o i) e
        ∙ sym (ap (λ (x : Bool). if x then now_at (block_of then_es (i / 4096)) i else 0) (lt-ltb i size (omega (arith, l)))
        ∙ ap (λ (o : Option ℕ). now_at o i) (stays_block blocks pages whole area bm inodes many con at held shown some regular es spelled_es offset bytes fits runs free may left now out z full (i / 4096) b e))
        ∙ new_bytes i ∙ ap (λ (x : Bool). if x then get_or bytes (i - offset) 0 else bytes_held pages es d.size i) out_of

    early_hole : (i : ℕ) → block_of es (i / 4096) ≡ None → e_bytes i ≡ bytes_held pages es d.size i
    early_hole i e = ap (λ (o : Option ℕ). if nat_lt i d.size then byte_of (bytes_at (put_data ds pages) o) (i % 4096) else 0) e
        ∙ sym (ap (λ (o : Option ℕ). if nat_lt i d.size then byte_of (bytes_at pages o) (i % 4096) else 0) e)

    early_here : (i : ℕ) → (nat_lt i node.size && (nat_le offset i && nat_lt i end)) ≡ false → e_bytes i ≡ t.bytes n i
    early_here i h = elim (cases_lt i d.size) [
      | inl l ↦ by l (block_of es (i / 4096)) refl ∙ sym (byte_was i)
      | inr l ↦ ap (λ (x : Bool). if x then now_at (block_of es (i / 4096)) i else 0) (le-ltb i d.size l)
          ∙ sym (byte_was i ∙ ap (λ (x : Bool). if x then byte_of (bytes_at pages (block_of es (i / 4096))) (i % 4096) else 0) (le-ltb i d.size l))
    ]
      where
        out_of : i < d.size → (nat_le offset i && nat_lt i end) ≡ false
        out_of l = sym (ap (λ (x : Bool). x && (nat_le offset i && nat_lt i end)) (ap (nat_lt i) (held_file.node_size blocks pages whole area bm inodes con at held shown some no_names) ∙ lt-ltb i d.size l)) ∙ h

        by : i < d.size → (o : Option ℕ) → block_of es (i / 4096) ≡ o → e_bytes i ≡ bytes_held pages es d.size i
        by l None e = early_hole i e
        by l (Some b) e = early_some i b l e (out_of l)

    abbrev early_tree : Tree
    early_tree = tree_on r (with_data ds v)

    early_bytes : (m i : ℕ) → writes_over_in (file t path) (calls.Write path offset bytes) m i ≡ false → early_tree.bytes m i ≡ t.bytes m i
    early_bytes m i h = put_early.same.bytes m i ∙ elim (eq_or_not m n) [
      | inl e ↦ ap (λ (j : ℕ). put n e_bytes t.bytes j i) e ∙ ap (λ (f : ℕ → ℕ). f i) (put_here n e_bytes t.bytes) ∙ early_here i (sym (over e) ∙ h) ∙ ap (λ (j : ℕ). t.bytes j i) (sym e)
      | inr a ↦ ap (λ (f : ℕ → ℕ). f i) (put_other n e_bytes t.bytes m a)
    ]
      where
        over : m ≡ n → writes_over_in (file t path) (calls.Write path offset bytes) m i ≡ (nat_lt i node.size && (nat_le offset i && nat_lt i end))
        over e = ap (λ (x : Result Found Refusal). writes_over_in x (calls.Write path offset bytes) m i) file_is
            ∙ ap (λ (x : Bool). x && (nat_lt i node.size && (nat_le offset i && nat_lt i end))) (eq-eqb n m (sym e))

    puts_own : PutsOwn blocks v ds
    unfolding spelled
    puts_own = record {
      inode = n;
      file = spelled r pages d;
      there = was;
      regular = regular;
      may = before blocks pages whole area bm inodes many con at held shown some regular es spelled_es offset bytes fits runs free may left now out z full;
    }

    pub write_starts : StartsIn blocks pages area bm inodes (calls.Write path offset bytes) out
    write_starts = record {
      leaves = record { nodes = put_early.same.nodes; bytes = early_bytes };
      consistent = put_early.consistent;
      own = puts_own;
      once = put_once blocks pages whole area bm inodes many con at held shown some regular es spelled_es offset bytes fits runs free may left now out z full;
      fair = is_fair blocks pages whole area bm inodes many con at held shown some regular es spelled_es offset bytes fits runs free may left now out z full;
    }
