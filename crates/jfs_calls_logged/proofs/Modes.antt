-- The change of a mode logs what matters.
use Rattle.std.proofs.Common.{◌≡◌, ◌<◌, refl, sym, ap, ◌∙◌, subst, inl, inr, ℕ, ◌+◌, ◌-◌, ◌%◌, Bool, true, false, nat_lt, List, [], length, Option, is_some, if◌then◌else◌, arith}
use Rattle.std.proofs.lemmas.Bool.{and_parts, ltb-true}
use Rattle.jfs_bits.specs.declared.descriptor.Moment.{Moment}
use Rattle.jfs_bits.specs.declared.rule.PageKind.TheVariants as kinds
use Rattle.jfs_imap.specs.Inodes.{Inodes}
use Rattle.jfs_inode.specs.declared.fields.Dinode.{Dinode}
use Rattle.jfs_ranges.specs.declared.edit.Edit.{Edit}
use Rattle.jfs_ranges.specs.Laid.{put_tx}
use Rattle.jfs_tree.specs.Tell.{IsRuns}
use Rattle.jfs_chmod.specs.Call.{with_mode}
use Rattle.jfs_chmod.proofs.Modes.{type_is, mode_is, same_names, same_extents, same_holds}
use Rattle.jfs_chmod.specs.steps.specs.After.{after_call}
use Rattle.jfs_chmod.specs.steps.specs.Laws.{ChangesPagesAlone}
use Rattle.jfs_chmod.specs.steps.specs.Put.{AddsInode, TellsLines}
use Rattle.jfs_chmod.specs.steps.proofs.After.{lines_alone, lines_leave, after_is}
use Rattle.jfs_chmod.specs.steps.proofs.Puts.{put_within}
use Rattle.jfs_chmod.specs.steps.specs.bmap.specs.States.{Blocks, is_owned}
use Rattle.jfs_chmod.specs.steps.specs.objects.specs.Readers.{Readers}
use Rattle.jfs_chmod.specs.steps.specs.objects.specs.Volume.{Volume}
use Rattle.jfs_chmod.specs.steps.specs.objects.specs.Objects.{Object, IsWhole, spelled, is_live, listed}
use Rattle.jfs_chmod.specs.steps.specs.objects.specs.Owners.{holds}
use Rattle.jfs_chmod.specs.steps.specs.objects.specs.Changes.{put, PutsInode, SetsObject}
use Rattle.jfs_chmod.specs.steps.specs.objects.proofs.Sums.{put_here, put_other, eq_or_not}
use Rattle.jfs_chmod.specs.steps.specs.objects.proofs.Set.{object_is_set}
use Rattle.jfs_chmod.specs.steps.specs.meaning.specs.Readers.{readers}
use Rattle.jfs_chmod.specs.steps.specs.way.specs.Volume.{volume_of}
use Rattle.jfs_chmod.specs.steps.specs.way.specs.declared.object.Held.{Held}
use Rattle.jfs_chmod.specs.steps.specs.way.proofs.Nodes.{lives}
use Rattle.jfs_logged.specs.Kinds.{HasTrees}
use Rattle.jfs_logged.specs.Own.{LogsItsOwn}
use Rattle.jfs_logged.specs.Edits.{WritesInode}
use Rattle.jfs_logged.proofs.Edited.{inode_law}
use Rattle.jfs_calls_logged.specs.Found.{IsFound}
use Rattle.jfs_calls_logged.specs.Calls.{IsReady, IsLogged, ModeLaw}
use Rattle.jfs_calls_logged.proofs.Found.{path_found}

-- ---- pages after a transaction

pub nothing_put : (blocks : ℕ) (pages : ℕ → List ℕ) → put_tx blocks [] pages ≡ pages
nothing_put blocks pages = λ i b. same b i
  where
    by : (x : Bool) (page : List ℕ) → (if x then page else page) ≡ page
    by true page = refl
    by false page = refl

    same : (b : ℕ) → put_tx blocks [] pages b ≡ pages b
    same b = by (nat_lt b blocks) (pages b)

-- ---- the call

module _ (blocks : ℕ) (pages : ℕ → List ℕ) (area : ℕ → ℕ) (bm : Blocks) (inodes : Inodes) (ready : IsReady blocks pages area bm inodes) (many : length bm.states ≡ blocks) (path : List (List ℕ)) (mode : ℕ) (now : Moment) (few : mode < 4096) (tx : List Edit)
    (at : Held) (f : IsFound blocks pages area bm inodes at) (adds : AddsInode blocks pages at.page at.number (with_mode at.inode mode now) [] tx) (tells : TellsLines blocks pages at.page [] tx) where
  abbrev r : Readers
  r = readers blocks

  abbrev v : Volume
  v = volume_of pages area bm inodes

  abbrev n : ℕ
  n = at.number

  abbrev d : Dinode
  d = at.inode

  abbrev m : ℕ
  m = d.mode - d.mode % 4096 + mode

  abbrev set : Dinode
  set = with_mode d mode now

  abbrev w : Volume
  w = record v { page = put_tx blocks tx pages }

  puts : PutsInode pages (put_tx blocks tx pages) v.extents n set
  puts = subst (λ (old : ℕ → List ℕ). PutsInode old (put_tx blocks tx pages) v.extents n set) (nothing_put blocks pages) (adds v.extents f.home_is)

  whole_set : IsWhole r (spelled r pages set)
  whole_set = let h = ready.consistent.sound.whole n (spelled r pages d) f.was in record {
    names = h.names;
    extents = h.extents;
    names_are = ap (listed r.names_order) (same_names blocks pages d m mode now (type_is d.mode mode few) (mode_is d.mode mode few)) ∙ h.names_are;
    extents_are = ap (listed r.extents_order) (same_extents blocks pages d m mode now (type_is d.mode mode few) (mode_is d.mode mode few)) ∙ h.extents_are;
  }

  in_use_here : v.in_use n ≡ true
  in_use_here = ready.consistent.sound.agrees.inodes n ∙ ap is_some f.was

  used : (k : ℕ) → v.in_use k ≡ put n true v.in_use k
  used k = elim (eq_or_not k n) [
    | inl e ↦ ap v.in_use e ∙ in_use_here ∙ sym (put_here n true v.in_use) ∙ ap (put n true v.in_use) (sym e)
    | inr e ↦ sym (put_other n true v.in_use k e)
  ]

  sets : SetsObject r v w n set pages [] []
  sets = record {
    live = ap (is_live n) f.shown ∙ lives blocks v ready.consistent n at.page f.home_is f.there;
    whole = whole_set;
    blocks = λ b. (let e = same_holds blocks pages d m mode now (type_is d.mode mode few) (mode_is d.mode mode few) b in let g = ap (λ (o : Option Object). holds r o b) f.was in omega (arith, e, g));
    keeps = λ b h k. refl;
    puts = puts;
    takes = record { fresh = λ b h. absurd (omega (arith, h)); used = λ b. omega arith };
    extents = refl;
    area = refl;
    in_use = used;
  }

  trees : HasTrees (spelled r pages d) (spelled r pages set)
  unfolding spelled
  trees = record {
    names = same_names blocks pages d m mode now (type_is d.mode mode few) (mode_is d.mode mode few);
    extents = same_extents blocks pages d m mode now (type_is d.mode mode few) (mode_is d.mode mode few);
    regular = rw (type_is d.mode mode few) refl;
  }

  within : (q : ℕ) → v.used q ≡ true → q < blocks
  within q was = subst (λ (k : ℕ). q < k) many (ltb-true q (length bm.states) (and_parts (nat_lt q (length bm.states)) (is_owned bm q) was).0)

  writes : WritesInode r v w n at.page d set (put_tx blocks [] pages at.page) (put_tx blocks tx pages at.page) tx
  writes = record {
    at = f.home_is;
    was = f.was;
    sets = sets;
    trees = trees;
    pages = λ q was now. put_within blocks tx pages q (within q was);
    runs = subst (λ (x : List Edit). IsRuns at.page kinds.Inode (put_tx blocks [] pages at.page) (put_tx blocks tx pages at.page) 0 x) (sym tells.1) tells.2;
  }

  alone : ChangesPagesAlone tx
  alone = lines_alone tx (lines_leave blocks pages at.page [] tx tt tells)

  is_after : w ≡ after_call blocks tx v
  is_after = after_is blocks tx v w (record {
    page = refl;
    extents = sym (alone.extents v.extents);
    area = refl;
    used = λ b. sym (ap (λ (u : ℕ → Bool). u b) (alone.used v.used));
    in_use = λ k. (object_is_set r v w n set pages [] [] ready.consistent.sound sets).0.sound.agrees.inodes k;
  })

  pub mode_logged : IsLogged blocks pages area bm inodes tx
  mode_logged = subst (λ (x : Volume). LogsItsOwn r v x tx) is_after (inode_law r v w n at.page d set (put_tx blocks [] pages at.page) (put_tx blocks tx pages at.page) tx ready.consistent.sound writes).own

pub mode_law : ModeLaw
mode_law blocks pages area bm inodes path mode now tx ready many few (at, e, adds, tells) =
    mode_logged blocks pages area bm inodes ready many path mode now few tx at (path_found blocks pages area bm inodes ready.consistent path at e) adds tells
