-- What pages have beside entries, kind and links, where an entry comes or goes.
use Rattle.std.proofs.Common.{◌≡◌, ◌≢◌, ◌≤◌, ◌<◌, inl, inr, refl, sym, ap, ◌∙◌, subst, ℕ, suc, ◌+◌, ◌==◌, if◌then◌else◌, Bool, true, false, List, [], ◌∷◌, ◌++◌, Option, Result, Ok, Err, IfOk, OnOk, arith}
use Rattle.std.specs.Prelude.{reverse}
use Rattle.std.proofs.lemmas.Bool.{cases_eq}
use Rattle.jfs_disk.specs.Image.{Image, page_of}
use Rattle.jfs_ranges.specs.declared.edit.Edit.{Edit}
use Rattle.jfs_tree.specs.Walk.{Child, Node, Scale, IsOrder, times, walk}
use Rattle.jfs_tree.specs.Spells.{no_page}
use Rattle.jfs_tree.specs.Edit.{Grew, count_in, own}
use Rattle.jfs_tree.specs.Form.{AllBelow, IsFront, LeadsDown, children_of}
use Rattle.jfs_tree.specs.Draft.{shown}
use Rattle.jfs_tree.specs.Call.{PutsOne, PutsTwo, StaysOff, StaysTaken, nodes}
use Rattle.jfs_tree.specs.Frames.{FramesAlways, FramesTold, GrowsFramed, KeepsFrames, KeepsFramesAt, KeepsFramesTold, NamesTaken, TakesFramed}
use Rattle.jfs_tree.specs.Removal.{Settles}
use Rattle.jfs_tree.specs.Root.{IsSpare}
use Rattle.jfs_tree.specs.Tell.{TellsDraft}
use Rattle.jfs_tree.specs.Adds.{read_as}
use Rattle.jfs_tree.specs.Linking.{LinksTree}
use Rattle.jfs_tree.specs.declared.draft.Drafted.{Drafted}
use Rattle.jfs_tree.specs.declared.form.Sibling.{Sibling}
use Rattle.jfs_tree.specs.declared.form.TreeError.{TreeError}
use Rattle.jfs_tree.specs.declared.grow.Grown.{Grown}
use Rattle.jfs_tree.proofs.Adds.{spare_reversed}
use Rattle.jfs_tree.proofs.BytesKept.{away, counts_between, fewer_taken, off_child, one_suc}
use Rattle.jfs_tree.proofs.Growing.{leaf_other, not_taken}
use Rattle.jfs_tree.proofs.Putting.{put_framed}
use Rattle.jfs_tree.proofs.RootCalls.{below_root}
use Rattle.jfs_tree.proofs.Runs.{count_reverse}
use Rattle.jfs_tree.proofs.Shrank.{own_is}
use Rattle.jfs_tree.proofs.Taking.{taken_last, two_first, two_last, two_others}
use Rattle.jfs_tree.proofs.Telling.{less_or}

-- ---- what is put into a draft

only_taken : (q n l f : ℕ) → f ≡ (if q == n then 1 else 0) + l → l < f → n ≡ q
only_taken q n l f h lt = grind arith

never_less : {X : Type 0} (n : ℕ) → n < n → X
never_less n h = absurd (omega (arith, h))

module _ (frame : List ℕ → List ℕ) (named : ℕ → List ℕ) where
  -- no page was taken
  pub names_none : (new : List Drafted) (free : List ℕ) → NamesTaken frame named new free free
  names_none new free image n lt = never_less (count_in n free) lt

  pub none_framed : (bytes : List ℕ) (page : ℕ) (old : List Drafted) (free : List ℕ) → TakesFramed frame named bytes page old old free free
  none_framed bytes page old free = record { taken = names_none old free; others = λ image read n e. refl }

  pub one_framed : (bytes put : List ℕ) (page : ℕ) (old new : List Drafted) (free : List ℕ) → PutsOne old new page put → frame put ≡ frame bytes → TakesFramed frame named bytes page old new free free
  one_framed bytes put page old new free puts same = record { taken = names_none new free; others = λ image read n e. put_framed frame image old new page bytes put puts read same n }

  pub two_framed : (bytes one other : List ℕ) (page q : ℕ) (old new : List Drafted) (free left : List ℕ) → PutsTwo old new page one q other → free ≡ left ++ q ∷ [] → frame one ≡ frame bytes → frame other ≡ named q
      → TakesFramed frame named bytes page old new free left
  two_framed bytes one other page q old new free left puts popped same names = record {
    taken = λ image n lt.
        subst (λ m. frame (shown new image m) ≡ named m) (sym (only_taken q n (count_in n left) (count_in n free) (taken_last free left q popped n) lt))
        (ap frame (two_last old new page q one other puts image) ∙ names);
    others = λ image read n e.
        let nq = not_taken q n (count_in n left) (count_in n free) (taken_last free left q popped n) e in
        elim (cases_eq n page) [
          | inl is ↦
              subst (λ m. frame (shown new image m) ≡ frame (shown old image m)) (sym is)
              (ap frame (two_first old new page q one other puts (subst (λ m. m ≢ q) is nq) image) ∙ same ∙ read)
          | inr o ↦ ap frame (two_others old new page q one other puts image n o nq)
        ];
  }

  -- a root moved to a page
  pub moved_names : (old new : List Drafted) (q : ℕ) (page : List ℕ) (free left : List ℕ) (r : Result (Unit {0}) TreeError) → OnOk r (PutsOne old new q page) → free ≡ left ++ q ∷ [] → frame page ≡ named q → OnOk r (NamesTaken frame named new free left)
  moved_names old new q page free left (Err e) puts popped names = tt
  moved_names old new q page free left (Ok u) puts popped names = λ image n lt.
      subst (λ m. frame (shown new image m) ≡ named m) (sym (only_taken q n (count_in n left) (count_in n free) (taken_last free left q popped n) lt))
      (ap frame (puts image q ∙ itself q page (shown old image q)) ∙ names)
    where
      itself : (n : ℕ) (a b : List ℕ) → (if n == n then a else b) ≡ a
      itself n a b = grind arith

-- ---- below a page

module _ {P E : Type 0} (s : Scale P E) (x : E) (frame : List ℕ → List ℕ) (named : ℕ → List ℕ) where
  pub here_framed : (pages : ℕ → Node P E) (image : Image) (bytes : List ℕ) (old new : List Drafted) (page : ℕ) (free left : List ℕ) → bytes ≡ shown old image page → TakesFramed frame named bytes page old new free left
      → GrowsFramed s pages frame named image old new 1 page free left
  here_framed pages image bytes old new page free left read takes = record { taken = λ key n none lt. takes.taken image n lt; others = λ n e. takes.others image (ap frame read) n e }

  above_framed : (pages : ℕ → Node P E) (image : Image) (bytes : List ℕ) (old mid new : List Drafted) (levels page place child : ℕ) (free between left : List ℕ) → LeadsDown s x (pages page) place child → bytes ≡ shown old image page
      → GrowsFramed s pages frame named image old mid levels child free between → StaysOff page mid new between left → TakesFramed frame named bytes page mid new between left → IsFront between free → IsFront left between
      → GrowsFramed s pages frame named image old new (suc levels) page free left
  above_framed pages image bytes old mid new levels page place child free between left leads read below off takes first last = record {
    taken = λ key n none lt.
        let f = fewer_taken n free between first in
        let b = fewer_taken n between left last in
        elim (less_or (count_in n left) (count_in n between) (omega (arith, b))) [
          | inl there ↦ takes.taken image n there
          | inr same ↦
              let gone = subst (λ (u : Child P). times n (walk s pages levels u) ≡ 0) (own_is key leads.front leads.child child leads.to) (away s pages levels page key leads.front leads.child leads.back n leads.is none) in
              ap frame (off image n (leaf_other s pages levels page n key none) (sym same)) ∙ below.taken (own key leads.front leads.child).key n gone (omega (arith, lt, same))
        ];
    others = λ n e.
        let c = counts_between (count_in n free) (count_in n between) (count_in n left) _ _ (fewer_taken n free between first) (fewer_taken n between left last) e in
        elim (cases_eq n page) [
          | inl is ↦ takes.others image (ap frame read ∙ sym (subst (λ m. frame (shown mid image m) ≡ frame (shown old image m)) is (below.others n c.0))) n c.1 ∙ below.others n c.0
          | inr o ↦ ap frame (off image n o c.1) ∙ below.others n c.0
        ];
  }

  pub grown_framed : (node : List ℕ → Node P E) (old mid new : List Drafted) (image later : Image) (page place child levels : ℕ) (bytes : List ℕ) (free between left : List ℕ) (r : Result (Grown P) TreeError)
      → later ≡ image → bytes ≡ shown old image page → LeadsDown s x (node bytes) place child → GrowsFramed s (nodes node old later) frame named later old mid levels child free between
      → OnOk r (StaysOff page mid new between left) → OnOk r (TakesFramed frame named bytes page mid new between left) → IsFront between free → IsFront left between → IfOk r (λ g. g.levels ≡ levels + 1)
      → IfOk r (λ g. GrowsFramed s (nodes node old image) frame named image old new g.levels page free left)
  grown_framed node old mid new image later page place child levels bytes free between left (Err e) kept read leads below off takes first last is = tt
  grown_framed node old mid new image later page place child levels bytes free between left (Ok g) kept read leads below off takes first last is =
      subst (λ l. GrowsFramed s (nodes node old image) frame named image old new l page free left) (one_suc levels ∙ sym is)
      (above_framed (nodes node old image) image bytes old mid new levels page place child free between left (subst (λ b. LeadsDown s x (node b) place child) read leads) read
      (subst (λ (i : Image). GrowsFramed s (nodes node old i) frame named i old mid levels child free between) kept below) off takes first last)

  -- ---- from a root on

  pub here_always_framed : (pages : ℕ → Node P E) (root : Node P E) (image : Image) (old new : List Drafted) (free left : List ℕ) (r : Result (Unit {0}) TreeError) → OnOk r (StaysTaken old new free left) → OnOk r (NamesTaken frame named new free left)
      → OnOk r (FramesAlways s x pages root frame named image old new free left)
  here_always_framed pages root image old new free left (Err e) stays names = tt
  here_always_framed pages root image old new free left (Ok u) stays names = record { taken = λ es spelled apart spare n lt. names image n lt; others = λ n e. ap frame (stays image n e) }

  some_free : (l f : ℕ) → l < f → 0 < f
  some_free l f h = omega (arith, h)

  pub always_framed : (node : List ℕ → Node P E) → IsOrder s → (image : Image) (root : Node P E) (old mid new : List Drafted) (place child levels blocks : ℕ) (free between left : List ℕ) (more : Option (Sibling P)) (r : Result (Unit {0}) TreeError)
      → AllBelow blocks free → blocks ≤ no_page → LeadsDown s x root place child → Grew s x (nodes node old image) (nodes node mid image) levels child (children_of more) free between
      → GrowsFramed s (nodes node old image) frame named image old mid levels child free between → OnOk r (StaysTaken mid new between left) → OnOk r (NamesTaken frame named new between left) → IsFront between free → IsFront left between
      → OnOk r (FramesAlways s x (nodes node old image) root frame named image old new free left)
  always_framed node o image root old mid new place child levels blocks free between left more (Err e) below within leads grew framed stays names first last = tt
  always_framed node o image root old mid new place child levels blocks free between left more (Ok u) below within leads grew framed stays names first last = record {
    taken = λ es spelled apart spare n lt.
        let pages = nodes node old image in
        let b = fewer_taken n between left last in
        elim (less_or (count_in n left) (count_in n between) (omega (arith, b))) [
          | inl there ↦ names image n there
          | inr same ↦
              let w = below_root s o x es pages root place child levels blocks free below within leads grew.ends spelled apart spare in
              let none = off_child s o pages root w.lower leads.front leads.child leads.back n leads.is w.is w.ready.rises (spare.apart n (some_free (count_in n left) (count_in n free) lt)) in
              let gone = subst (λ (v : Child P). times n (walk s pages (suc w.lower) v) ≡ 0) (own_is s.least leads.front leads.child child leads.to) none in
              ap frame (stays image n (sym same))
              ∙ framed.taken (own s.least leads.front leads.child).key n (subst (λ l. times n (walk s pages l (record { key = (own s.least leads.front leads.child).key; page = child })) ≡ 0) (sym w.level) gone) (omega (arith, lt, same))
        ];
    others = λ n e.
        let c = counts_between (count_in n free) (count_in n between) (count_in n left) _ _ (fewer_taken n free between first) (fewer_taken n between left last) e in
        ap frame (stays image n c.1) ∙ framed.others n c.0;
  }

  -- and then links that are set
  pub linked_framed : (node : List ℕ → Node P E) (pages : ℕ → Node P E) (root after : Node P E) (image later : Image) (old mid new : List Drafted) (free left : List ℕ) → later ≡ image → LinksTree node frame later mid new after
      → FramesAlways s x pages root frame named image old mid free left → FramesAlways s x pages root frame named image old new free left
  linked_framed node pages root after image later old mid new free left same links framed =
      let frames = subst (λ (i : Image). KeepsFrames frame i mid new) same links.frames in
      record { taken = λ es spelled apart spare n lt. frames n ∙ framed.taken es spelled apart spare n lt; others = λ n e. frames n ∙ framed.others n e }

  -- seen from the transaction
  pub framed_told : (node : List ℕ → Node P E) (blocks : ℕ) (image : Image) (root : Node P E) (ds drafts : List Drafted) (free left stack rest : List ℕ) (tx later : List Edit) → ds ≡ []
      → FramesAlways s x (nodes node ds image) root frame named image ds drafts stack rest → TellsDraft blocks image drafts tx later → stack ≡ reverse free → left ≡ reverse rest
      → FramesTold s node frame named blocks x (page_of image) root free left tx later
  framed_told node blocks image root ds drafts free left stack rest tx later ed given told is_stack is_left = λ base leads.
      let framed : FramesAlways s x (nodes node [] image) root frame named image [] drafts stack rest = subst (λ (d : List Drafted). FramesAlways s x (nodes node d image) root frame named image d drafts stack rest) ed given in
      let counts = λ (n : ℕ). ap (count_in n) is_stack ∙ count_reverse n free in
      let lefts = λ (n : ℕ). ap (count_in n) is_left ∙ count_reverse n rest in
      record {
        taken = λ es spelled apart spare n h lt.
            let clear = subst (IsSpare s (read_as node (page_of image)) root) (sym is_stack) (spare_reversed s x node (read_as node (page_of image)) root free spare) in
            ap frame (told n h (base n) (leads n h).0 (leads n h).1) ∙ framed.taken es spelled apart clear n (let c = counts n in let l = lefts n in omega (arith, c, l, lt));
        others = λ n h e. ap frame (told n h (base n) (leads n h).0 (leads n h).1) ∙ framed.others n (counts n ∙ e ∙ lefts n);
      }

-- ---- an entry less

module _ (frame : List ℕ → List ℕ) where
  pub settled_framed : (kept : Bool) (page : ℕ) (bytes put : List ℕ) (old new : List Drafted) (free freed : List ℕ) → Settles kept page put old new free freed → frame put ≡ frame bytes → KeepsFramesAt frame bytes page old new
  settled_framed true page bytes put old new free freed settles same image read n = put_framed frame image old new page bytes put settles.0 read same n
  settled_framed false page bytes put old new free freed settles same image read n = ap (λ (d : List Drafted). frame (shown d image n)) settles.0

  pub here_less_framed : {T : Type 0} (image : Image) (bytes : List ℕ) (page : ℕ) (old new : List Drafted) (r : Result T TreeError) → old ≡ [] → bytes ≡ shown old image page → OnOk r (KeepsFramesAt frame bytes page old new) → OnOk r (KeepsFrames frame image [] new)
  here_less_framed image bytes page old new (Err e) fresh read framed = tt
  here_less_framed image bytes page old new (Ok t) fresh read framed = subst (λ (d : List Drafted). KeepsFrames frame image d new) fresh (framed image (ap frame read))

  pub down_less_framed : {T : Type 0} (image later : Image) (bytes : List ℕ) (page : ℕ) (mid new : List Drafted) (r : Result T TreeError) → later ≡ image → bytes ≡ page_of image page → KeepsFrames frame later [] mid
      → OnOk r (KeepsFramesAt frame bytes page mid new) → OnOk r (KeepsFrames frame image [] new)
  down_less_framed image later bytes page mid new (Err e) same read below framed = tt
  down_less_framed image later bytes page mid new (Ok t) same read below framed = λ n.
      let lower = subst (λ (i : Image). KeepsFrames frame i [] mid) same below in
      framed image (ap frame read ∙ sym (lower page)) n ∙ lower n

  -- frames that stay, and then others
  pub frames_then : (image later : Image) (old mid new : List Drafted) → later ≡ image → KeepsFrames frame image old mid → KeepsFrames frame later mid new → KeepsFrames frame image old new
  frames_then image later old mid new same first rest n = (subst (λ (i : Image). KeepsFrames frame i mid new) same rest) n ∙ first n

  pub kept_told : (blocks : ℕ) (image : Image) (drafts : List Drafted) (tx later : List Edit) → KeepsFrames frame image [] drafts → TellsDraft blocks image drafts tx later → KeepsFramesTold frame blocks (page_of image) tx later
  kept_told blocks image drafts tx later kept told base leads n h = ap frame (told n h (base n) (leads n h).0 (leads n h).1) ∙ kept n

  pub kept_same : (blocks : ℕ) (pages : ℕ → List ℕ) (tx : List Edit) → KeepsFramesTold frame blocks pages tx tx
  kept_same blocks pages tx base leads n h = ap frame (leads n h).1
