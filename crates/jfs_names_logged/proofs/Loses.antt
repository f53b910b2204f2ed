-- A directory loses a name: what its edits log, and what they free.
use Rattle.std.proofs.Common.{◌≡◌, ◌<◌, ◌≤◌, ◌+◌, ◌-◌, ◌&&◌, ◌==◌, ℕ, Bool, true, false, List, [], ◌++◌, append_assoc, length, Some, refl, sym, ap, ◌∙◌, inl, inr, arith}
use Rattle.std.proofs.lemmas.Bool.Decides.{nat_tests}
use Rattle.jfs_bits.proofs.Parts.{part-held}
use Rattle.jfs_bits.specs.declared.descriptor.Moment.{Moment}
use Rattle.jfs_bits.specs.declared.rule.PageKind.TheVariants as kinds
use Rattle.jfs_imap.specs.Inodes.{Inodes}
use Rattle.jfs_inode.specs.declared.fields.Dinode.{Dinode}
use Rattle.jfs_name.specs.Directory.{without_name}
use Rattle.jfs_ranges.specs.declared.edit.Edit.{Edit}
use Rattle.jfs_ranges.specs.Laid.{put_tx, applied_length}
use Rattle.jfs_tree.specs.Edit.{count_in}
use Rattle.jfs_tree.specs.Fresh.{LeadsTo, after_tx}
use Rattle.jfs_tree.specs.Removes.{page_frees}
use Rattle.jfs_tree.specs.Tell.{TellsThen}
use Rattle.jfs_unlink.specs.loss.specs.Inodes.{frees_in, lessened}
use Rattle.jfs_unlink.specs.loss.specs.Loses.{LosesName}
use Rattle.jfs_unlink.specs.loss.proofs.Counts.{count_append, frees_then, changes_move}
use Rattle.jfs_unlink.specs.loss.specs.bmap.specs.States.{Blocks}
use Rattle.jfs_unlink.specs.loss.specs.lead_steps.specs.dtree.specs.Removing.{HasOneLessName}
use Rattle.jfs_unlink.specs.loss.specs.lead_steps.specs.dtree.specs.Spells.{spells_names, owned_pages}
use Rattle.jfs_unlink.specs.loss.specs.lead_steps.proofs.Named.{all_below}
use Rattle.jfs_unlink.specs.loss.specs.lead_steps.proofs.Turned.{no_extents_of, dir_holds}
use Rattle.jfs_unlink.specs.loss.specs.objects.specs.Readers.{Readers}
use Rattle.jfs_unlink.specs.loss.specs.objects.specs.Volume.{Volume}
use Rattle.jfs_unlink.specs.loss.specs.objects.specs.Objects.{objects, spelled, is_live}
use Rattle.jfs_unlink.specs.loss.specs.objects.specs.Owners.{holds, bit}
use Rattle.jfs_unlink.specs.loss.specs.objects.specs.Laws.{ChangesOne, IsOwnedOnce}
use Rattle.jfs_unlink.specs.loss.specs.objects.specs.Changes.{put}
use Rattle.jfs_unlink.specs.loss.specs.objects.proofs.Owned.{owned_once}
use Rattle.jfs_unlink.specs.loss.specs.objects.proofs.Sums.{zero_or_more}
use Rattle.jfs_unlink.specs.loss.specs.meaning.specs.Readers.{readers, root_of}
use Rattle.jfs_unlink.specs.loss.specs.steps.specs.Laws.{TakesAndFrees}
use Rattle.jfs_unlink.specs.loss.specs.steps.proofs.Puts.{put_within, put_past}
use Rattle.jfs_unlink.specs.loss.specs.steps.proofs.Sets.{frees_move, lines_on_top}
use Rattle.jfs_unlink.specs.loss.specs.way.specs.Volume.{volume_of}
use Rattle.jfs_unlink.specs.loss.specs.way.specs.declared.object.Held.{Held}
use Rattle.jfs_unlink.proofs.Ended.{used_within}
use Rattle.jfs_calls_logged.specs.Calls.{IsReady}
use Rattle.jfs_calls_logged.specs.Found.{IsFound, IsNamed}
use Rattle.jfs_calls_logged.specs.logged.specs.Logged.{LeavesPage}
use Rattle.jfs_calls_logged.specs.logged.specs.Own.{LogsPart}
use Rattle.jfs_calls_logged.specs.logged.specs.Written.{WritesTree}
use Rattle.jfs_calls_logged.specs.logged.proofs.Pages.{pages_law}
use Rattle.jfs_calls_logged.specs.logged.proofs.Staged.{runs_law}
use Rattle.jfs_calls_logged.specs.logged.proofs.Written.{trees_law}
use Rattle.jfs_names_logged.proofs.After.{put_after}
use Rattle.jfs_names_logged.proofs.Directory.{TurnsDirectory, turn_writes, turn_changes}

-- blocks that are no longer in use
abbrev pub unless_in : (ℕ → Bool) → List ℕ → ℕ → Bool
unless_in used freed b = used b && count_in b freed == 0

bits_left : (used : ℕ → Bool) (freed : List ℕ) (b : ℕ) → count_in b freed ≤ bit (used b) → bit (unless_in used freed b) + count_in b freed ≡ bit (used b)
bits_left used freed b few = by (used b) (count_in b freed) few
  where
    zero_is : (k : ℕ) → k ≡ 0 → (k == 0) ≡ true
    zero_is k e = grind (arith, nat_tests, e)

    one_isnt : (k : ℕ) → 0 < k → (k == 0) ≡ false
    one_isnt k l = grind (arith, nat_tests, l)

    by : (x : Bool) (k : ℕ) → k ≤ bit x → bit (x && k == 0) + k ≡ bit x
    by true k few = elim (zero_or_more k) [
      | inl e ↦ rw (zero_is k e) (omega (arith, e))
      | inr l ↦ rw (one_isnt k l) (omega (arith, few, l))
    ]
    by false k few = omega (arith, few)

-- A directory on a volume, which loses a name that leads to an object, on top of edits that leave all pages.
pub record Losing (blocks : ℕ) (pages : ℕ → List ℕ) (area : ℕ → ℕ) (bm : Blocks) (inodes : Inodes) : Type 0 where
  pub ready : IsReady blocks pages area bm inodes
  pub many : length bm.states ≡ blocks
  pub dir : Held
  pub next : Held
  pub name : List ℕ
  pub fd : IsFound blocks pages area bm inodes dir
  pub named : IsNamed blocks pages area bm inodes dir next name
  pub links : ℕ
  pub live : is_live dir.number (record dir.inode { nlink = links }) ≡ true
  pub now : Moment
  pub first : List Edit
  pub lost : List Edit
  pub leaves : (q : ℕ) → LeavesPage q first
  pub before : List ℕ
  pub moves : TakesAndFrees first [] before
  pub loses : LosesName blocks pages dir name links now first lost

module _ (blocks : ℕ) (pages : ℕ → List ℕ) (area : ℕ → ℕ) (bm : Blocks) (inodes : Inodes) (x : Losing blocks pages area bm inodes) where
  -- its parts
  abbrev dir : Held
  dir = x.dir

  abbrev name : List ℕ
  name = x.name

  abbrev first : List Edit
  first = x.first

  abbrev lost : List Edit
  lost = x.lost

  abbrev before : List ℕ
  before = x.before

  abbrev fd : IsFound blocks pages area bm inodes x.dir
  fd = x.fd

  abbrev named : IsNamed blocks pages area bm inodes x.dir x.next x.name
  named = x.named

  abbrev loses : LosesName blocks pages x.dir x.name x.links x.now x.first x.lost
  loses = x.loses

  abbrev moves : TakesAndFrees x.first [] x.before
  moves = x.moves

  abbrev pub r : Readers
  r = readers blocks

  abbrev pub v : Volume
  v = volume_of pages area bm inodes

  abbrev pub n : ℕ
  n = dir.number

  abbrev pub d : Dinode
  d = dir.inode

  abbrev pub set : Dinode
  set = lessened d loses.root x.links (frees_in loses.mid - frees_in first) x.now

  abbrev pub removed : TellsThen (page_frees (loses.removes named.names named.spelled_names).1.0) first loses.mid
  removed = (loses.removes named.names named.spelled_names).1.1

  abbrev pub freed : List ℕ
  freed = (loses.removes named.names named.spelled_names).1.0

  leads : LeadsTo blocks pages first pages
  leads b l = (x.ready.are_pages.sizes b l, x.leaves b (pages b) (x.ready.are_pages.sizes b l))

  less : HasOneLessName blocks name named.names pages (after_tx pages loses.mid) (root_of d) loses.root freed
  less = (loses.removes named.names named.spelled_names).1.2 pages leads

  -- the edits of its tree, and those of its inode
  abbrev pub tree : List Edit
  tree = loses.tells.1.lines ++ page_frees loses.tells.0

  abbrev pub inode : List Edit
  inode = loses.lines.0

  pub lost_is : lost ≡ first ++ (tree ++ inode)
  lost_is = loses.lines.1 ∙ ap (λ (tx : List Edit). tx ++ inode) loses.tells.1.told ∙ append_assoc first tree inode

  once : IsOwnedOnce r v
  once = owned_once r v x.ready.consistent.sound.agrees

  pub freed_held : (b : ℕ) → count_in b freed ≤ holds r (objects r v n) b
  freed_held b = let o = less.owned b in let h = dir_holds blocks pages d named.names b named.is_dir (no_extents_of d named.is_dir) named.spelled_names in let w = ap (λ o. holds r o b) fd.was in omega (arith, o, h, w)

  freed_used : (b : ℕ) → count_in b freed ≤ bit (v.used b)
  freed_used b = elim (zero_or_more (count_in b freed)) [
    | inl z ↦ omega (arith, z)
    | inr l ↦ (let h = freed_held b in let o = once.once n b in let u = ap bit (once.in_use n b (omega (arith, h, l))) in omega (arith, h, o, u))
  ]

  -- the volume after it
  abbrev pub v1 : Volume
  v1 = record v { page = put_tx blocks lost pages; used = unless_in v.used freed; in_use = put n true v.in_use }

  pub used_one : (b : ℕ) → bit (v1.used b) + count_in b freed ≡ bit (v.used b)
  used_one b = bits_left v.used freed b (freed_used b)

  mid_moves : TakesAndFrees loses.mid [] (before ++ loses.tells.0)
  mid_moves = changes_move blocks kinds.Dtree pages (page_frees loses.tells.0) first loses.mid before loses.tells.0 (λ first bytes. refl) moves (frees_move loses.tells.0) loses.tells.1

  pub lost_moves : TakesAndFrees lost [] (before ++ loses.tells.0)
  lost_moves = lines_on_top blocks pages dir.page loses.mid lost [] (before ++ loses.tells.0) mid_moves loses.lines

  -- both tell the same pages as freed
  pub gone_same : (b : ℕ) → count_in b loses.tells.0 ≡ count_in b freed
  gone_same b =
      let f = frees_then b first loses.mid (page_frees freed) removed in let g = moves.freed_are b in let p = (frees_move freed).freed_are b in
      let m = mid_moves.freed_are b in let a = count_append b before loses.tells.0 in omega (arith, f, g, p, m, a)

  abbrev later : ℕ → List ℕ
  later = after_tx pages loses.mid

  root_is : root_of set ≡ loses.root
  root_is = part-held 96 288 loses.root d.rest loses.width (let s = loses.size in omega (arith, s))

  sizes : (b : ℕ) → 0 < count_in b loses.tells.1.changed → length (loses.tells.1.after b) ≡ 4096
  sizes b some = (let l = loses.tells.1.leads pages leads b (all_below blocks loses.tells.1.changed b loses.tells.1.within some) in ap (λ (y : List ℕ). length y) (sym l.1) ∙ applied_length b loses.mid (pages b) ∙ l.0)

  told : (b : ℕ) → b < blocks → loses.tells.1.after b ≡ later b
  told b l = sym (loses.tells.1.leads pages leads b l).1

  pub loses_turns : TurnsDirectory blocks v v1 n tree inode
  loses_turns = record {
    page = dir.page;
    old = d;
    set = set;
    at = fd.home_is;
    was = fd.was;
    dir = named.is_dir;
    dir_set = named.is_dir;
    acl = refl;
    ea = refl;
    live = x.live;
    names = named.names;
    names_then = without_name name named.names;
    spelled_names = named.spelled_names;
    later = later;
    mid = put_tx blocks loses.mid pages;
    inside = λ b l. put_within blocks loses.mid pages b l;
    outside = λ b l. put_past blocks loses.mid pages b l;
    turned = ap (spells_names blocks later) root_is ∙ less.spelled;
    taken = [];
    freed = freed;
    owned = λ b. (let o = less.owned b in let e = ap (λ (x : List ℕ). owned_pages blocks later x b) root_is in omega (arith, o, e));
    below = λ b l. absurd (omega (arith, l));
    fresh = λ b l. absurd (omega (arith, l));
    apart = λ b l. refl;
    keeps = λ b l z k. less.keeps b l z;
    puts = loses.puts v.extents fd.home_is;
    used = λ b. (let u = used_one b in omega (arith, u));
    extents = refl;
    area = refl;
    in_use = λ k. refl;
    pages = λ q was now. ap (λ (tx : List Edit). put_tx blocks tx pages q) lost_is ∙ put_after blocks pages x.ready.are_pages first (tree ++ inode) q (used_within blocks pages area bm inodes x.ready.consistent x.many q was) (x.leaves q);
    runs = runs_law dir.page kinds.Inode (put_tx blocks loses.mid pages dir.page) (put_tx blocks lost pages dir.page) 0 inode loses.lines.2;
    told = [];
    gone = loses.tells.0;
    changed = loses.tells.1.changed;
    new = loses.tells.1.after;
    tells = pages_law.gives kinds.Dtree [] loses.tells.1.changed loses.tells.0 pages loses.tells.1.after loses.tells.1.lines loses.tells.1.edits loses.tells.1.once sizes;
    within = loses.tells.1.within;
    new_is = told;
    gone_same = gone_same;
    comes = λ q l. absurd (omega (arith, l));
    told_alone = λ q z. refl;
  }

  -- what its part of the transaction logs
  pub one_writes : WritesTree r v v1 n tree inode
  one_writes = turn_writes blocks v v1 n tree inode x.ready.consistent.sound (used_within blocks pages area bm inodes x.ready.consistent x.many) loses_turns

  pub one_logged : LogsPart r v v1 (tree ++ inode)
  one_logged = trees_law.writes r v v1 n tree inode x.ready.consistent.sound one_writes

  pub one_changes : ChangesOne r v v1 n (Some (spelled r (put_tx blocks loses.mid pages) set))
  unfolding loses_turns
  one_changes = turn_changes blocks v v1 n tree inode x.ready.consistent.sound (used_within blocks pages area bm inodes x.ready.consistent x.many) loses_turns
