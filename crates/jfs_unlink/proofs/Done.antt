-- Unlink and rmdir on a consistent volume: from what the calls' transactions do to the plain step.
use Rattle.std.proofs.Common.{◌≡◌, ◌≢◌, ◌≤◌, ◌<◌, refl, sym, ap, ◌∙◌, ℕ, ◌-◌, ◌+◌, ◌*◌, ◌==◌, Bool, true, false, true≢false, nat_le, nat_lt, not, ◌||◌, if◌then◌else◌, List, [], length, map, Option, Some, None, Result, Ok, arith, ne_eqb}
use Rattle.std.proofs.lemmas.Bool.Decides.{nat_tests}
use Rattle.jfs_bits.specs.declared.descriptor.Moment.{Moment}
use Rattle.jfs_inode.specs.declared.fields.Dinode.{Dinode}
use Rattle.jfs_imap.specs.Inodes.{Inodes}
use Rattle.jfs_loss.specs.bmap.specs.States.{Blocks}
use Rattle.jfs_name.specs.declared.name.NameEntry.{NameEntry}
use Rattle.jfs_name.specs.Directory.{named, without_name}
use Rattle.jfs_ranges.specs.declared.edit.Edit.{Edit}
use Rattle.jfs_ranges.specs.Apply.{apply_tx}
use Rattle.jfs_ranges.specs.Laid.{put_tx}
use Rattle.jfs_tree.specs.Edit.{count_in}
use Rattle.jfs_dtree.specs.Spells.{spells_names}
use Rattle.jfs_plain.specs.Tree.{Tree}
use Rattle.jfs_plain.specs.Moves.{stamped, falls, changed, dropped}
use Rattle.jfs_plain.specs.Step.{Room, outcome, unlink, rmdir, is_last_of_big}
use Rattle.jfs_plain.specs.declared.call.Call.{Call}
use Rattle.jfs_plain.specs.declared.call.Call.TheVariants as calls
use Rattle.jfs_plain.specs.declared.reply.Reply.TheVariants.{Done}
use Rattle.jfs_loss.specs.objects.specs.Image.{extent_place}
use Rattle.jfs_loss.specs.objects.specs.Readers.{Readers}
use Rattle.jfs_loss.specs.objects.specs.Volume.{Volume, room}
use Rattle.jfs_loss.specs.objects.specs.Objects.{objects, spelled, is_live, has_names}
use Rattle.jfs_loss.specs.objects.specs.Owners.{holds}
use Rattle.jfs_loss.specs.objects.specs.Changes.{put}
use Rattle.jfs_loss.specs.meaning.specs.Readers.{readers, root_of}
use Rattle.jfs_loss.specs.meaning.specs.Consistent.{IsConsistent, subdirectories, names_to}
use Rattle.jfs_loss.specs.meaning.proofs.Reached.{not_reserved}
use Rattle.jfs_loss.specs.way.specs.Volume.{volume_of}
use Rattle.jfs_loss.specs.way.specs.Walk.{tree_in}
use Rattle.jfs_loss.specs.lead_steps.specs.Reached.{HasTree}
use Rattle.jfs_loss.specs.lead_steps.proofs.Turned.{turns}
use Rattle.jfs_loss.specs.steps.specs.Put.{AddsInode, TellsLines}
use Rattle.jfs_loss.specs.steps.specs.Place.{last_of}
use Rattle.jfs_loss.specs.steps.specs.After.{used_after, extents_after, after_call}
use Rattle.jfs_loss.specs.steps.specs.Laws.{TakesAndFrees, IsFair}
use Rattle.jfs_loss.specs.steps.specs.Call.{IsDone, LeavesAreas}
use Rattle.jfs_loss.specs.steps.proofs.After.{done_after}
use Rattle.jfs_loss.specs.steps.proofs.Sets.{lines_move}
use Rattle.jfs_loss.specs.steps.proofs.LastNames.{stood, object_is}
use Rattle.jfs_loss.specs.Inodes.{frees_in, fallen, gone}
use Rattle.jfs_loss.specs.Frees.{FreesObject}
use Rattle.jfs_loss.specs.Loses.{LosesName}
use Rattle.jfs_loss.proofs.Freeing.{IsFreed, object_freed}
use Rattle.jfs_unlink.specs.Call as call
use Rattle.jfs_unlink.specs.Ends.{AreHeld, AreShown, AreEnds}
use Rattle.jfs_unlink.specs.Gone.{DropsNamed, LeavesNamed}
use Rattle.jfs_unlink.specs.declared.ends.Ends.{Ends}
use Rattle.jfs_unlink.proofs.Ended.{used_within, is_living, few, root_is, dir_is, directory, names_it, may, node_m, object_found, placed, same_inode, reached, IsNodeOf}
use Rattle.jfs_unlink.proofs.PlainTree.{begins, same_after, still_consistent, unlink_last, unlink_other, rmdir_is}
use Rattle.jfs_unlink.proofs.Unnamed.{fair, has_dropped, fallen_volume, has_fallen, used_fallen, extents_stay, areas_stay}

-- a call that looks at the limit alone
abbrev space : ℕ → Room
space limit = record { limit = limit; free = 0; deep = λ dir name. false; inode = None }

module _ (blocks : ℕ) (pages : ℕ → List ℕ) (whole : (b : ℕ) → b < blocks → length (pages b) ≡ 4096) (area : ℕ → ℕ) (bm : Blocks) (inodes : Inodes) (many : length bm.states ≡ blocks)
    (con : IsConsistent (readers blocks) (volume_of pages area bm inodes)) (path : List (List ℕ)) (some : 1 ≤ length path) (e : Ends) (held : AreHeld blocks inodes e) (shown : AreShown pages e)
    (ends : AreEnds (tree_in blocks pages area bm inodes) path e) (now : Moment) where
  abbrev r : Readers
  r = readers blocks

  abbrev v : Volume
  v = volume_of pages area bm inodes

  abbrev t : Tree
  t = tree_in blocks pages area bm inodes

  abbrev n : ℕ
  n = e.dir.number

  abbrev m : ℕ
  m = e.at.number

  abbrev dd : Dinode
  dd = e.dir.inode

  abbrev md : Dinode
  md = e.at.inode

  -- ---- the volume after a transaction, where it has the tree of a plain step

  done_on : (w : Volume) (tx : List Edit) (limit : ℕ) (call : Call) (u : Tree) → outcome (space limit) t call now ≡ Ok (Done, u) → HasTree r w u → LeavesAreas v w → w.page ≡ put_tx blocks tx pages → w.extents ≡ v.extents → w.area ≡ v.area
      → extents_after tx v.extents ≡ v.extents → ((b : ℕ) → w.used b ≡ used_after tx v.used b) → IsDone blocks v (after_call blocks tx v) (λ t. outcome (space limit) t call now)
  done_on w tx limit call u is has leaves page extents area stay used = done_after blocks tx v w (λ t. outcome (space limit) t call now) page (extents ∙ sym stay) area used (record {
    tree = u;
    outcome = is;
    same = same_after blocks v w con (space limit) call now tt u is has same_room;
    consistent = still_consistent blocks v w con (space limit) call now tt u is has same_room;
    areas = leaves;
  })
    where
      same_room : room w ≡ room v
      same_room = ap (λ (x : List (Option ℕ)). 32 * length x) extents

  -- ---- the two steps

  module _ (other : m ≢ n) (links : ℕ → ℕ) (few_left : links dd.nlink ≤ 65535) (live : is_live n (record dd { nlink = links dd.nlink }) ≡ true)
      (first lost tx : List Edit) (loses : LosesName blocks pages e.dir (last_of path) (links dd.nlink) now first lost) (after_m : Dinode) (puts : AddsInode blocks pages e.at.page m after_m lost tx) (lines : TellsLines blocks pages e.at.page lost tx)
      (stays : (b : ℕ) → b < blocks → apply_tx b first (pages b) ≡ pages b) (before : List ℕ) (moves : TakesAndFrees first [] before) (held_m : (b : ℕ) → count_in b before ≤ holds r (objects r v m) b) where
    abbrev t1 : Tree
    t1 = changed n (turns (without_name (last_of path)) links now) t

    abbrev fewer : ℕ
    fewer = frees_in loses.mid - frees_in first

    start : HasTree r v t
    start = begins blocks v con

    was_n : objects r v n ≡ Some (spelled r pages dd)
    was_n = object_is blocks pages area bm inodes con e.dir held.0 shown.0 ends.in_tree

    was_m : objects r v m ≡ Some (spelled r pages md)
    was_m = object_is blocks pages area bm inodes con e.at held.1 shown.1 ends.there

    dir_n : has_names dd ≡ true
    dir_n = dir_is blocks pages area bm inodes con path some e held shown ends

    abbrev es : List NameEntry
    es = (directory blocks pages area bm inodes con path some e held shown ends).names

    es_are : spells_names blocks pages (root_of dd) ≡ Ok es
    es_are = (directory blocks pages area bm inodes con path some e held shown ends).spelled

    extents_are : extents_after tx v.extents ≡ v.extents
    extents_are = extents_stay blocks v t start (used_within blocks pages area bm inodes con many) whole n e.dir.page dd was_n dir_n loses.size es es_are m e.at.page md after_m was_m other (last_of path) links fewer few_left live now
        first loses.mid lost tx stays before moves held_m loses.root loses.inode loses.width loses.parent loses.removes loses.tells (loses.puts (map extent_place inodes.extents) (stood blocks pages area bm inodes con e.dir held.0 shown.0 ends.in_tree)) loses.lines
        (puts (map extent_place inodes.extents) (stood blocks pages area bm inodes con e.at held.1 shown.1 ends.there)) lines

    is_fair : IsFair tx v.used
    is_fair = fair blocks v t start (used_within blocks pages area bm inodes con many) whole n e.dir.page dd was_n dir_n loses.size es es_are m e.at.page md after_m was_m other (last_of path) links fewer few_left live now
        first loses.mid lost tx stays before moves held_m loses.root loses.inode loses.width loses.parent loses.removes loses.tells (loses.puts (map extent_place inodes.extents) (stood blocks pages area bm inodes con e.dir held.0 shown.0 ends.in_tree)) loses.lines
        (puts (map extent_place inodes.extents) (stood blocks pages area bm inodes con e.at held.1 shown.1 ends.there)) lines

    areas : (b : ℕ) → 0 < v.area b → put_tx blocks tx pages b ≡ pages b
    areas = areas_stay blocks v t start (used_within blocks pages area bm inodes con many) whole n e.dir.page dd was_n dir_n loses.size es es_are m e.at.page md after_m was_m other (last_of path) links fewer few_left live now
        first loses.mid lost tx stays before moves held_m loses.root loses.inode loses.width loses.parent loses.removes loses.tells (loses.puts (map extent_place inodes.extents) (stood blocks pages area bm inodes con e.dir held.0 shown.0 ends.in_tree)) loses.lines
        (puts (map extent_place inodes.extents) (stood blocks pages area bm inodes con e.at held.1 shown.1 ends.there)) lines

    -- the object goes
    goes : after_m ≡ gone md → ((b : ℕ) → count_in b before ≡ holds r (objects r v m) b) → (limit : ℕ) (call : Call) → outcome (space limit) t call now ≡ Ok (Done, dropped m t1) → IsDone blocks v (after_call blocks tx v) (λ t. outcome (space limit) t call now) × IsFair tx v.used
    goes dead all limit call is = (done_on w tx limit call (dropped m t1) is has areas refl refl refl extents_are (λ b. refl), is_fair)
      where
        w : Volume
        w = record v { page = put_tx blocks tx pages; used = used_after tx v.used; in_use = put m false (put n true v.in_use) }

        has : HasTree r w (dropped m t1)
        has = has_dropped blocks v t start (used_within blocks pages area bm inodes con many) whole n e.dir.page dd was_n dir_n loses.size es es_are m e.at.page md after_m was_m other (last_of path) links fewer few_left live now
            first loses.mid lost tx stays before moves held_m loses.root loses.inode loses.width loses.parent loses.removes loses.tells (loses.puts (map extent_place inodes.extents) (stood blocks pages area bm inodes con e.dir held.0 shown.0 ends.in_tree)) loses.lines
            (puts (map extent_place inodes.extents) (stood blocks pages area bm inodes con e.at held.1 shown.1 ends.there)) lines (may blocks pages area bm inodes con path some e held shown ends).0 dead all

    -- it stays, with one link less
    falls_one : after_m ≡ fallen md now → is_live m (fallen md now) ≡ true → before ≡ [] → (limit : ℕ) (call : Call) → outcome (space limit) t call now ≡ Ok (Done, changed m (λ o. stamped now (falls o)) t1)
        → IsDone blocks v (after_call blocks tx v) (λ t. outcome (space limit) t call now) × IsFair tx v.used
    falls_one fall live_m none limit call is = (done_on w tx limit call (changed m (λ o. stamped now (falls o)) t1) is has areas refl refl refl extents_are used, is_fair)
      where
        few_m : md.nlink - 1 ≤ 65535
        few_m = let f = few blocks pages area bm inodes con e.at held.1 shown.1 ends.there in omega (arith, f)

        w : Volume
        w = fallen_volume blocks v t start (used_within blocks pages area bm inodes con many) whole n e.dir.page dd was_n dir_n loses.size es es_are m e.at.page md after_m was_m other (last_of path) links fewer few_left live now
            first loses.mid lost tx stays before moves held_m loses.root loses.inode loses.width loses.parent loses.removes loses.tells (loses.puts (map extent_place inodes.extents) (stood blocks pages area bm inodes con e.dir held.0 shown.0 ends.in_tree)) loses.lines
            (puts (map extent_place inodes.extents) (stood blocks pages area bm inodes con e.at held.1 shown.1 ends.there)) lines fall live_m few_m held.1.rules none

        has : HasTree r w (changed m (λ o. stamped now (falls o)) t1)
        has = has_fallen blocks v t start (used_within blocks pages area bm inodes con many) whole n e.dir.page dd was_n dir_n loses.size es es_are m e.at.page md after_m was_m other (last_of path) links fewer few_left live now
            first loses.mid lost tx stays before moves held_m loses.root loses.inode loses.width loses.parent loses.removes loses.tells (loses.puts (map extent_place inodes.extents) (stood blocks pages area bm inodes con e.dir held.0 shown.0 ends.in_tree)) loses.lines
            (puts (map extent_place inodes.extents) (stood blocks pages area bm inodes con e.at held.1 shown.1 ends.there)) lines fall live_m few_m held.1.rules none

        used : (b : ℕ) → w.used b ≡ used_after tx v.used b
        used = used_fallen blocks v t start (used_within blocks pages area bm inodes con many) whole n e.dir.page dd was_n dir_n loses.size es es_are m e.at.page md after_m was_m other (last_of path) links fewer few_left live now
            first loses.mid lost tx stays before moves held_m loses.root loses.inode loses.width loses.parent loses.removes loses.tells (loses.puts (map extent_place inodes.extents) (stood blocks pages area bm inodes con e.dir held.0 shown.0 ends.in_tree)) loses.lines
            (puts (map extent_place inodes.extents) (stood blocks pages area bm inodes con e.at held.1 shown.1 ends.there)) lines fall live_m few_m held.1.rules none

  few_n : dd.nlink ≤ 65535
  few_n = few blocks pages area bm inodes con e.dir held.0 shown.0 ends.in_tree

  live_n : is_live n dd ≡ true
  live_n = is_living blocks pages area bm inodes con e.dir held.0 shown.0 ends.in_tree

  abbrev node : IsNodeOf blocks pages t e.at
  node = node_m blocks pages area bm inodes con path some e held shown ends

  freed_by : (has_names md ≡ true → spells_names blocks pages (root_of md) ≡ Ok []) → (first : List Edit) → FreesObject blocks pages md first → IsFreed blocks pages (holds r (objects r v m)) first
  freed_by bare first frees = object_freed blocks v con.sound (used_within blocks pages area bm inodes con many) whole m md (object_is blocks pages area bm inodes con e.at held.1 shown.1 ends.there)
      (root_is blocks pages area bm inodes con e.at held.1 shown.1 ends.there whole) bare first frees

  -- ---- unlink

  module _ (space_now : Room) (limit : ℕ) (same_limit : space_now.limit ≡ limit) (file : has_names md ≡ false) (small : call.is_last_of_big limit md ≡ false) where
    apart : m ≢ n
    apart h = true≢false (sym (dir_is blocks pages area bm inodes con path some e held shown ends) ∙ ap has_names (sym (same_inode blocks pages area bm inodes con path some e held shown ends h)) ∙ file)

    is_small : is_last_of_big space_now.limit node.node ≡ false
    is_small = node.big file space_now.limit ∙ ap (λ (l : ℕ). call.is_last_of_big l md) same_limit ∙ small

    pub unlink_goes : nat_le md.nlink 1 ≡ true → (tx : List Edit) → DropsNamed blocks pages e (last_of path) dd.nlink now tx → IsDone blocks v (after_call blocks tx v) (λ t. unlink space_now t path now) × IsFair tx v.used
    unlink_goes l tx d = goes apart (λ k. k) few_n live_n d.freed d.lost tx d.loses (gone md) d.puts d.lines f.stays f.freed f.moves (λ b. (let a = f.all b in omega (arith, a))) refl f.all space_now.limit (calls.Unlink path)
        (unlink_last t path n m (last_of path) now node.node (object_found blocks pages area bm inodes con path some e held shown ends) (placed blocks pages area bm inodes con path some e held shown ends)
        (space space_now.limit) (node.dir ∙ file) is_small (ap (λ (k : ℕ). nat_le k 1) node.links ∙ l))
      where
        f : IsFreed blocks pages (holds r (objects r v m)) d.freed
        f = freed_by (λ h. absurd (true≢false (sym h ∙ file))) d.freed d.frees

    pub unlink_falls : nat_le md.nlink 1 ≡ false → (tx : List Edit) → LeavesNamed blocks pages e (last_of path) now tx → IsDone blocks v (after_call blocks tx v) (λ t. unlink space_now t path now) × IsFair tx v.used
    unlink_falls l tx d = falls_one apart (λ k. k) few_n live_n [] d.lost tx d.loses (fallen md now) d.puts d.lines (λ b l. refl) [] (lines_move [] tt) (λ b. omega arith) refl (more_live m md.nlink l) refl space_now.limit (calls.Unlink path)
        (unlink_other t path n m (last_of path) now node.node (object_found blocks pages area bm inodes con path some e held shown ends) (placed blocks pages area bm inodes con path some e held shown ends)
        (space space_now.limit) (node.dir ∙ file) is_small (ap (λ (k : ℕ). nat_le k 1) node.links ∙ l))
      where
        more_live : (m k : ℕ) → nat_le k 1 ≡ false → (nat_lt m 4 || not (k - 1 == 0)) ≡ true
        more_live m k h = grind (arith, nat_tests, h)

  -- ---- rmdir

  module _ (dir : has_names md ≡ true) (bare : spells_names blocks pages (root_of md) ≡ Ok []) where
    same_list : {E F : Type 0} {xs ys : List E} (r : Result (List E) F) → r ≡ Ok xs → r ≡ Ok ys → xs ≡ ys
    same_list r h k = cc (h, k)

    away : m ≢ n
    away h = no (sym (ap (named (last_of path)) (same_list (spells_names blocks pages (root_of dd)) (directory blocks pages area bm inodes con path some e held shown ends).spelled
        (ap (λ (d : Dinode). spells_names blocks pages (root_of d)) (sym (same_inode blocks pages area bm inodes con path some e held shown ends h)) ∙ bare))) ∙ names_it blocks pages area bm inodes con path some e held shown ends)
      where
        no : None ≡ Some m → ⊥
        no h = cc (h)

    no_names : length node.node.names ≡ 0
    no_names = ap length (same_list (spells_names blocks pages (root_of md)) (node.names dir) bare)

    links_left : 2 ≤ dd.nlink
    links_left =
        let d = directory blocks pages area bm inodes con path some e held shown ends in
        let due = con.tree.links n d.node d.there (not_reserved t n (reached blocks pages area bm inodes con path some e held shown ends)) in
        let two = ap (λ (x : Bool). if x then 2 + subdirectories t d.node.names else names_to (room v) t n) d.directory in
        let same = d.links_are in omega (arith, due, two, same)

    live_less : is_live n (record dd { nlink = dd.nlink - 1 }) ≡ true
    live_less = still n dd.nlink links_left
      where
        still : (n k : ℕ) → 2 ≤ k → (nat_lt n 4 || not (k - 1 == 0)) ≡ true
        still n k l = grind (arith, nat_tests, l)

    pub rmdir_goes : (tx : List Edit) → DropsNamed blocks pages e (last_of path) (dd.nlink - 1) now tx → IsDone blocks v (after_call blocks tx v) (λ t. rmdir t path now) × IsFair tx v.used
    rmdir_goes tx d = goes away (λ k. k - 1) (let h = few_n in omega (arith, h)) live_less d.freed d.lost tx d.loses (gone md) d.puts d.lines f.stays f.freed f.moves (λ b. (let a = f.all b in omega (arith, a))) refl f.all 0 (calls.Rmdir path)
        (rmdir_is t path n m (last_of path) now node.node (object_found blocks pages area bm inodes con path some e held shown ends) (placed blocks pages area bm inodes con path some e held shown ends)
        (ne_eqb (length path) 0 (λ h. absurd (omega (arith, some, h)))) (node.dir ∙ dir) (ap (λ (k : ℕ). not (k == 0)) no_names))
      where
        f : IsFreed blocks pages (holds r (objects r v m)) d.freed
        f = freed_by (λ h. bare) d.freed d.frees
