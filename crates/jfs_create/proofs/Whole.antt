-- An object is made, from what the calls say to the plain step and a consistent volume.
use Rattle.std.proofs.Common.{◌≡◌, ◌≢◌, ◌≤◌, refl, sym, ap, ◌∙◌, subst, ℕ, ◌+◌, ◌*◌, Bool, true, false, not, ◌||◌, ◌==◌, ne_eqb, nat_lt, List, [], length, Option, Some, None, Ok, arith}
use Rattle.jfs_bits.specs.Broken.{first_broken}
use Rattle.jfs_bits.specs.declared.rule.PageKind.TheVariants as kinds
use Rattle.jfs_inode.specs.Rules.{rows}
use Rattle.jfs_inode.specs.declared.fields.Dinode.{Dinode}
use Rattle.jfs_bits.specs.declared.descriptor.Moment.{Moment}
use Rattle.jfs_bits.specs.declared.descriptor.Pxd.{Pxd}
use Rattle.jfs_name.specs.declared.name.NameEntry.{NameEntry}
use Rattle.jfs_ranges.specs.declared.edit.Edit.{Edit}
use Rattle.jfs_ranges.specs.Laid.{put_tx}
use Rattle.jfs_tree.specs.Fresh.{blocks_of}
use Rattle.jfs_plain.specs.Tree.{Tree, new_place, place_at}
use Rattle.jfs_plain.specs.Moves.{Same, changed, made, gains}
use Rattle.jfs_plain.specs.Step.{Room, is_short, links_of}
use Rattle.jfs_plain.specs.declared.node.Node.{Node}
use Rattle.jfs_plain.specs.declared.reply.Reply.TheVariants.{Done}
use Rattle.jfs_link.specs.objects.specs.Readers.{Readers}
use Rattle.jfs_link.specs.objects.specs.Volume.{Volume, room}
use Rattle.jfs_link.specs.objects.specs.Objects.{Object, objects, is_live}
use Rattle.jfs_link.specs.objects.specs.Changes.{put, PutsInode}
use Rattle.jfs_link.specs.meaning.specs.Consistent.{IsConsistent, IsConsistentTree}
use Rattle.jfs_link.specs.meaning.specs.Laws.{IsFresh}
use Rattle.jfs_link.specs.meaning.specs.Readers.{readers}
use Rattle.jfs_link.specs.meaning.specs.Tree.{tree_on}
use Rattle.jfs_link.specs.way.specs.declared.object.Held.{Held}
use Rattle.jfs_link.specs.lead_steps.specs.Reached.{HasTree}
use Rattle.jfs_link.specs.lead_steps.proofs.Chain.{same_tree, set_has, set_other}
use Rattle.jfs_link.specs.lead_steps.proofs.InPlace.{counted_rules}
use Rattle.jfs_link.specs.steps.specs.After.{used_after, extents_after, after_call}
use Rattle.jfs_link.specs.steps.specs.Call.{IsDone, LeavesAreas}
use Rattle.jfs_link.specs.steps.specs.Gains.{CanGain, IsGained, after_set, linked, with_root}
use Rattle.jfs_link.specs.steps.specs.Laws.{TakesAndFrees}
use Rattle.jfs_link.specs.steps.specs.Put.{TellsLines}
use Rattle.jfs_link.specs.steps.proofs.After.{used_onto, extents_onto, lines_alone, runs_leave, done_after}
use Rattle.jfs_link.specs.steps.proofs.Areas.{then_leaves, puts_leave, set_leaves}
use Rattle.jfs_link.specs.steps.proofs.Grows.{gain_law}
use Rattle.jfs_link.specs.steps.proofs.Sets.{lines_on_top, taken_move}
use Rattle.jfs_create.specs.Makes.{Makes, CanStand, plain_of, links_after, gain_of}
use Rattle.jfs_create.specs.New.{FitsNew, inode_with, node_for}
use Rattle.jfs_create.specs.declared.make.Plan.{Plan}
use Rattle.jfs_create.specs.declared.new.NewObject.{NewObject}
use Rattle.jfs_create.specs.declared.new.NewObject.TheVariants.{File, Directory, Link}
use Rattle.jfs_create.proofs.Between.{HasBetween, between}
use Rattle.jfs_create.proofs.Makes.{made_has}
use Rattle.jfs_link.specs.meaning.proofs.Books.{count_append}
use Rattle.jfs_tree.specs.Edit.{count_in}
use Rattle.jfs_create.specs.Look.{too_many}
use Rattle.jfs_create.proofs.Outcomes.{tree_after, same_trees}
use Rattle.jfs_create.proofs.Outcomes as outcomes

-- lines of an inode's page leave the blocks in use and the inode extents
lines_used : (blocks : ℕ) (pages : ℕ → List ℕ) (page : ℕ) (tx later : List Edit) (used : ℕ → Bool) → TellsLines blocks pages page tx later → used_after later used ≡ used_after tx used
lines_used blocks pages page tx later used tells = ap (λ (all : List Edit). used_after all used) tells.1 ∙ used_onto tx tells.0 used
    ∙ (lines_alone tells.0 (runs_leave page kinds.Inode (put_tx blocks tx pages page) (put_tx blocks later pages page) 0 tells.0 tells.2)).used (used_after tx used)

lines_extents : (blocks : ℕ) (pages : ℕ → List ℕ) (page : ℕ) (tx later : List Edit) (extents : List (Option ℕ)) → TellsLines blocks pages page tx later → extents_after later extents ≡ extents_after tx extents
lines_extents blocks pages page tx later extents tells = ap (λ (all : List Edit). extents_after all extents) tells.1 ∙ extents_onto tx tells.0 extents
    ∙ (lines_alone tells.0 (runs_leave page kinds.Inode (put_tx blocks tx pages page) (put_tx blocks later pages page) 0 tells.0 tells.2)).extents (extents_after tx extents)

module _ (blocks : ℕ) (v : Volume) (con : IsConsistent (readers blocks) v) (dir : Held) (es : List NameEntry) (free left : List Pxd) (can : CanGain blocks v dir es free) (rules : first_broken (rows dir.inode dir.number) ≡ None)
    (lives : is_live dir.number dir.inode ≡ true) (name : List ℕ) (plan : Plan) (few : FitsNew plan.object) (parent : plan.seat.parent ≡ dir.number) (tx : List Edit) (makes : Makes blocks v.page dir name plan free left tx)
    (links : links_after plan.object dir.inode.nlink ≤ 65535) (stands : CanStand blocks v (blocks_of free) plan.seat.number plan.page plan.extent) (none : objects (readers blocks) v plan.seat.number ≡ None) where
  abbrev r : Readers
  r = readers blocks

  abbrev n : ℕ
  n = dir.number

  abbrev m : ℕ
  m = plan.seat.number

  abbrev now : Moment
  now = plan.now

  abbrev entry : NameEntry
  entry = record { name = name; inode = m }

  abbrev more : ℕ
  more = links_after plan.object dir.inode.nlink

  abbrev set : Dinode
  set = with_root dir.inode makes.gains.root (gain_of plan dir) (length makes.gains.edits.0)

  abbrev v1 : Volume
  v1 = after_set blocks makes.mid n v

  abbrev t : Tree
  t = tree_on r v

  abbrev f : Node → Node
  f o = linked more (gains entry now o)

  apart : n ≢ m
  apart e = some_none (sym can.was ∙ ap (objects r v) e ∙ none)
    where
      some_none : {x : Object} → Some x ≡ None → ⊥
      some_none h = cc (h)

  live : is_live n set ≡ true
  live = by plan.object (nat_lt n 4) dir.inode.nlink lives
    where
      not_zero : (k : ℕ) → not (k + 1 == 0) ≡ true
      not_zero k = ap not (ne_eqb (k + 1) 0 (λ e. absurd (omega (arith, e))))

      by : (object : NewObject) (low : Bool) (k : ℕ) → (low || not (k == 0)) ≡ true → (low || not (links_after object k == 0)) ≡ true
      by object true k h = refl
      by (File mode) false k h = h
      by (Directory mode) false k h = not_zero k
      by (Link target) false k h = h

  gained : IsGained blocks v v1 n set (put_tx blocks makes.gains.mid v.page) makes.gains.edits.0 name (gain_of plan dir)
  gained = gain_law blocks v dir es name (gain_of plan dir) free left makes.mid can makes.gains live

  rules_set : first_broken (rows set n) ≡ None
  unfolding rows
  rules_set = counted_rules blocks v.page dir.inode more now n links rules

  has0 : HasTree r v t
  has0 = record { sound = con.sound; inodes = con.inodes; tree = refl }

  has1 : HasTree r v1 (changed n f t)
  has1 = set_has r v v1 t has0 n set (put_tx blocks makes.gains.mid v.page) makes.gains.edits.0 [] gained.sets f gained.node gained.bytes rules_set

  none1 : objects r v1 m ≡ None
  none1 = set_other r v v1 t has0 n set (put_tx blocks makes.gains.mid v.page) makes.gains.edits.0 [] gained.sets m (λ e. apart (sym e)) ∙ none

  mid_moves : TakesAndFrees makes.mid makes.gains.edits.0 []
  mid_moves = lines_on_top blocks v.page dir.page makes.gains.mid makes.mid makes.gains.edits.0 [] (taken_move blocks kinds.Dtree v.page (blocks_of free) (blocks_of left) makes.gains.mid (λ first bytes. refl) makes.gains.edits) makes.gains.lines

  mean : HasBetween blocks v n m plan.page makes.more (changed n f t)
  mean = between blocks v n m plan.page makes.mid makes.more (changed n f t) has1 (blocks_of free) makes.gains.edits.0 (mid_moves.extents_stay v.extents)
      (λ b. (let e = ap (count_in b) makes.gains.edits.1 ∙ count_append b makes.gains.edits.0 (blocks_of left) in omega (arith, e))) (λ b. (let u = gained.sets.takes.used b in omega (arith, u))) can.whole none1
      (set_leaves r v con.sound.agrees v1 n set (put_tx blocks makes.gains.mid v.page) makes.gains.edits.0 [] gained.sets) plan.extent makes.extent stands

  abbrev v2 : Volume
  v2 = record v { page = put_tx blocks tx v.page; extents = mean.x.extents; used = used_after tx v.used; in_use = put m true v1.in_use }

  puts : PutsInode mean.x.page v2.page mean.x.extents m (inode_with plan.object plan.seat now makes.is_new.rest)
  puts = subst (λ (d : Dinode). PutsInode mean.x.page v2.page mean.x.extents m d) makes.is_new.is
      (subst (λ (old : ℕ → List ℕ). PutsInode old v2.page mean.x.extents m makes.inode) (sym mean.page_is) (makes.puts mean.x.extents mean.at))

  leaves : LeavesAreas v v2
  leaves = then_leaves v mean.x v2 mean.area mean.areas (puts_leave r mean.x mean.has.sound.agrees mean.x.page v2.page m (inode_with plan.object plan.seat now makes.is_new.rest) puts)

  same_used : v2.used ≡ mean.x.used
  same_used = lines_used blocks v.page plan.page makes.more tx v.used makes.lines ∙ sym mean.used

  has2 : HasTree r v2 (made m (node_for plan.object plan.seat.parent now) (changed n f t))
  has2 = made_has blocks mean.x v2 (changed n f t) mean.has plan.object plan.seat now makes.is_new.rest few makes.is_new.rest_is mean.none puts same_used refl (sym mean.area) (λ k. ap (λ (uses : ℕ → Bool). put m true uses k) (sym mean.in_use))

  module _ (node : Node) (is : t.nodes n ≡ Some node) (node_links : node.links ≡ dir.inode.nlink) (path : List (List ℕ)) (space : Room) (fresh : IsFresh (room v) t space.inode)
      (place : new_place t path ≡ Ok (place_at n name)) (not_full : too_many plan.object (links_of t n) ≡ false) (long : is_short space 12 ≡ false) (number : space.inode ≡ Some m) (not_deep : space.deep n name ≡ false) where
    abbrev u : Tree
    u = tree_after plan.object n entry now t

    outcome : plain_of plan.object space t path now ≡ Ok (Done, u)
    outcome = outcomes.done plan.object space t path now n name place not_full long m number not_deep

    tree_is : tree_on r v2 ≡ u
    tree_is = has2.tree ∙ ap (λ (k : ℕ). made m (node_for plan.object k now) (changed n f t)) parent
        ∙ same_trees t n entry now node is apart plan.object more (ap (links_after plan.object) (sym node_links))

    same : Same u (tree_on r v2)
    same = same_tree u (tree_on r v2) tree_is

    kept_in : IsConsistentTree (room v) (tree_on r v2)
    kept_in = outcomes.kept (room v) t (tree_on r v2) con.tree space fresh path now u same plan.object outcome

    kept : IsConsistentTree (room v2) (tree_on r v2)
    kept = subst (λ (k : ℕ). IsConsistentTree (32 * k) (tree_on r v2)) (sym mean.room) kept_in

    pub whole : IsDone blocks v (after_call blocks tx v) (λ t. plain_of plan.object space t path now)
    whole = done_after blocks tx v v2 (λ t. plain_of plan.object space t path now) refl (mean.extents ∙ sym (lines_extents blocks v.page plan.page makes.more tx v.extents makes.lines)) refl (λ b. refl)
        (record { tree = u; outcome = outcome; same = same; consistent = record { sound = has2.sound; inodes = has2.inodes; tree = kept }; areas = leaves })
