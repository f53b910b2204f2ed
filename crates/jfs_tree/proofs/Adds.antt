-- An entry that was added to the tree, seen from the transaction.
use Rattle.std.proofs.Common.{length, ◌+◌, suc, ◌⊎◌, inl, inr, sym, ◌≡◌, ◌<◌, ap, ◌∙◌, subst, ℕ, List, [], ◌∷◌, Result, Ok, Err, IfOk, arith}
use Rattle.std.specs.Prelude.{reverse}
use Rattle.std.proofs.lemmas.List.{length-reverse}
use Rattle.jfs_disk.specs.Image.{Image, page_of}
use Rattle.jfs_ranges.specs.declared.edit.Edit.{Edit}
use Rattle.jfs_tree.specs.Walk.{Node, Scale}
use Rattle.jfs_tree.specs.Spells.{footprint}
use Rattle.jfs_tree.specs.Edit.{count_in}
use Rattle.jfs_tree.specs.Root.{IsSpare, AddsAlways, KeepsAlways, RefusesWhereBad}
use Rattle.jfs_tree.specs.Call.{nodes}
use Rattle.jfs_tree.specs.Draft.{shown}
use Rattle.jfs_tree.specs.Tell.{TellsDraft}
use Rattle.jfs_tree.specs.Form.{HasChildren}
use Rattle.jfs_tree.specs.Fresh.{after_tx, HasPages}
use Rattle.jfs_tree.specs.Adds.{read_as, on_page, AddsTold, LevelsTold, RefusesWhereFull}
use Rattle.jfs_tree.specs.Room.{at_page, FullDown, FullUp, FullFrom, GrowsLevel, MovesForKey, TakesWhereFull, LevelsWhereFull}
use Rattle.jfs_tree.specs.declared.draft.Drafted.{Drafted}
use Rattle.jfs_tree.specs.declared.form.TreeError.{TreeError}
use Rattle.jfs_tree.specs.declared.form.TreeError.TheVariants.{View, Bad, Memory}
use Rattle.jfs_tree.proofs.Footprint.{spells_frame, footprint_frame}
use Rattle.jfs_tree.proofs.Within.{footprint_within, root_levels}
use Rattle.jfs_tree.proofs.Runs.{count_reverse}

module _ {P E : Type 0} (s : Scale P E) (x : E) (node : List ℕ → Node P E) where
  pub spare_reversed : (pages : ℕ → Node P E) (root : Node P E) (free : List ℕ) → IsSpare s pages root free → IsSpare s pages root (reverse free)
  spare_reversed pages root free spare = record {
    once = λ n. (let h = spare.once n in let c = count_reverse n free in omega (arith, h, c));
    apart = λ n h. spare.apart n (let c = count_reverse n free in omega (arith, h, c));
  }

  refuses_free : (pages : ℕ → Node P E) (root : Node P E) (free : List ℕ) (e : TreeError) → RefusesWhereBad s x pages root (reverse free) e → RefusesWhereBad s x pages root free e
  refuses_free pages root free (View e) h = h
  refuses_free pages root free (Bad page rule) h = λ es spelled apart spare. h es spelled apart (spare_reversed pages root free spare)
  refuses_free pages root free Memory h = h

  pub refuses_as : (image : Image) (root : Node P E) (stack free : List ℕ) (ds : List Drafted) (e : TreeError) → stack ≡ reverse free → ds ≡ [] → RefusesWhereBad s x (nodes node ds image) root stack e
      → RefusesWhereBad s x (read_as node (page_of image)) root free e
  refuses_as image root stack free ds e es ed h =
      refuses_free (read_as node (page_of image)) root free e
      (subst (λ g. RefusesWhereBad s x (nodes node [] image) root g e) es (subst (λ d. RefusesWhereBad s x (nodes node d image) root stack e) ed h))

  -- the draft's pages are those that all edits lead to
  pub adds_told : (blocks : ℕ) (image : Image) (root after : Node P E) (ds drafts : List Drafted) (free left stack rest : List ℕ) (tx later : List Edit) → HasPages blocks after → ((bytes : List ℕ) → HasPages blocks (node bytes)) → ds ≡ []
      → AddsAlways s x (nodes node ds image) (nodes node drafts image) root after stack rest → KeepsAlways s x (nodes node ds image) root image ds drafts stack rest → TellsDraft blocks image drafts tx later → stack ≡ reverse free → left ≡ reverse rest → AddsTold s node blocks (page_of image) x root after free left tx later
  adds_told blocks image root after ds drafts free left stack rest tx later top_has has ed given kept told is_stack is_left = λ base leads es spelled apart spare.
      let adds : AddsAlways s x (nodes node [] image) (nodes node drafts image) root after stack rest = subst (λ d. AddsAlways s x (nodes node d image) (nodes node drafts image) root after stack rest) ed given in
      let counts = λ (n : ℕ). ap (count_in n) is_stack ∙ count_reverse n free in
      let lefts = λ (n : ℕ). ap (count_in n) is_left ∙ count_reverse n rest in
      let clear = subst (IsSpare s (read_as node (page_of image)) root) (sym is_stack) (spare_reversed (read_as node (page_of image)) root free spare) in
      let a = adds es spelled apart clear in
      let keeps = (subst (λ (d : List Drafted). KeepsAlways s x (nodes node d image) root image d drafts stack rest) ed kept) es spelled apart clear in
      let drafted = nodes node drafts image in
      let now = read_as node (after_tx base later) in
      let agree = λ (n : ℕ) (h : n < blocks). ap node (told n h (base n) (leads n h).0 (leads n h).1) in
      let frame = λ (n : ℕ) (h : 0 < footprint s drafted after n). agree n (footprint_within s drafted after n blocks top_has (λ m. has (shown drafts image m)) h) in
      record {
        list = a.list;
        spelled = spells_frame s drafted now after frame ∙ a.spelled;
        added = a.added;
        owned = λ n. (let f = footprint_frame s drafted now after frame n in let p = a.pages n in let c = counts n in let l = lefts n in omega (arith, f, p, c, l));
        keeps = λ n h z e. told n h (base n) (leads n h).0 (leads n h).1 ∙ keeps n z (counts n ∙ e ∙ lefts n);
      }

  -- ---- room

  -- a root that moved has its page below the bound, where the pages that all edits lead to are those of the draft
  moved_told : (blocks place : ℕ) (root after : Node P E) (drafted now : ℕ → Node P E) (no_place : P → Type 0) → HasPages blocks after → ((n : ℕ) → n < blocks → now n ≡ drafted n)
      → MovesForKey s place root after drafted no_place → MovesForKey s place root after now no_place
  moved_told blocks place root after drafted now no_place top_has same m = record {
    page = m.page;
    child = m.child;
    all = m.all;
    only = m.only;
    takes = m.takes;
    has = subst (λ n. HasChildren n m.all) (sym (same m.page (top_has (record { key = s.least; page = m.page } ∷ []) m.only).0)) m.has;
    none = m.none;
  }

  grows_told : (blocks : ℕ) (root after : Node P E) (old drafted now : ℕ → Node P E) (full lacks : ℕ → Type 0) (no_room : Type 0) (no_place : P → Type 0) → HasPages blocks after → ((n : ℕ) → n < blocks → now n ≡ drafted n)
      → GrowsLevel s x old full lacks root no_room no_place after drafted → GrowsLevel s x old full lacks root no_room no_place after now
  grows_told blocks root after old drafted now full lacks no_room no_place top_has same (inl here) = inl here
  grows_told blocks root after old drafted now full lacks no_room no_place top_has same (inr (place, child, levels, leads, down, moved)) =
      inr (place, child, levels, leads, down, moved_told blocks place root after drafted now no_place top_has same moved)

  pub levels_told : (blocks : ℕ) (image : Image) (root after : Node P E) (is_full lacks : List ℕ → Type 0) (no_room : Type 0) (no_place : P → Type 0) (ds drafts : List Drafted) (free stack : List ℕ) (tx later : List Edit) (u : Unit {0})
      → HasPages blocks after → ((bytes : List ℕ) → HasPages blocks (node bytes)) → ds ≡ []
      → LevelsWhereFull s x (nodes node ds image) (nodes node drafts image) root after stack (GrowsLevel s x (nodes node ds image) (at_page is_full ds image) (at_page lacks ds image) root no_room no_place after (nodes node drafts image))
      (FullFrom s x (nodes node ds image) (at_page is_full ds image) (at_page lacks ds image) root no_room no_place) (Ok u)
      → TellsDraft blocks image drafts tx later → stack ≡ reverse free
      → LevelsTold s node blocks (page_of image) x root after free tx later (λ new. GrowsLevel s x (read_as node (page_of image)) (on_page is_full (page_of image)) (on_page lacks (page_of image)) root no_room no_place after new)
  levels_told blocks image root after is_full lacks no_room no_place ds drafts free stack tx later u top_has has ed given told is_stack = λ base leads es spelled apart spare.
      let full = λ (d : List Drafted). FullFrom s x (nodes node d image) (at_page is_full d image) (at_page lacks d image) root no_room no_place in
      let grows = λ (d : List Drafted). GrowsLevel s x (nodes node d image) (at_page is_full d image) (at_page lacks d image) root no_room no_place after (nodes node drafts image) in
      let clear = subst (IsSpare s (read_as node (page_of image)) root) (sym is_stack) (spare_reversed (read_as node (page_of image)) root free spare) in
      let agree = λ (n : ℕ) (h : n < blocks). ap node (told n h (base n) (leads n h).0 (leads n h).1) in
      let same = root_levels after (nodes node drafts image) (read_as node (after_tx base later)) blocks top_has (λ m. has (shown drafts image m)) agree in
      elim ((subst (λ (d : List Drafted). LevelsWhereFull s x (nodes node d image) (nodes node drafts image) root after stack (grows d) (full d) (Ok u)) ed given) es spelled apart clear) [
        | inl kept ↦ inl (same ∙ kept)
        | inr more ↦ inr (grows_told blocks root after (read_as node (page_of image)) (nodes node drafts image) (read_as node (after_tx base later)) (on_page is_full (page_of image)) (on_page lacks (page_of image)) no_room no_place top_has agree more)
      ]

  full_free : (pages : ℕ → Node P E) (root : Node P E) (free : List ℕ) (full : Type 0) (e : TreeError) → RefusesWhereFull s x pages root (reverse free) full e → RefusesWhereFull s x pages root free full e
  full_free pages root free full (View e) h = h
  full_free pages root free full (Bad page rule) h = λ es spelled apart spare. h es spelled apart (spare_reversed pages root free spare)
  full_free pages root free full Memory h = h

  levels_refuse : (old new : ℕ → Node P E) (root after : Node P E) (free : List ℕ) (more full : Type 0) (e : TreeError) → LevelsWhereFull s x old new root after free more full (Err e) → RefusesWhereFull s x old root free full e
  levels_refuse old new root after free more full (View e) h = h
  levels_refuse old new root after free more full (Bad page rule) h = h
  levels_refuse old new root after free more full Memory h = h

  pub full_as : (image : Image) (root after : Node P E) (is_full lacks : List ℕ → Type 0) (no_room : Type 0) (no_place : P → Type 0) (stack free : List ℕ) (ds drafts : List Drafted) (more : Type 0) (e : TreeError) → stack ≡ reverse free → ds ≡ []
      → LevelsWhereFull s x (nodes node ds image) (nodes node drafts image) root after stack more (FullFrom s x (nodes node ds image) (at_page is_full ds image) (at_page lacks ds image) root no_room no_place) (Err e)
      → RefusesWhereFull s x (read_as node (page_of image)) root free (FullFrom s x (read_as node (page_of image)) (on_page is_full (page_of image)) (on_page lacks (page_of image)) root no_room no_place) e
  full_as image root after is_full lacks no_room no_place stack free ds drafts more e es ed h =
      let full = λ (d : List Drafted). FullFrom s x (nodes node d image) (at_page is_full d image) (at_page lacks d image) root no_room no_place in
      full_free (read_as node (page_of image)) root free (full []) e
      (subst (λ g. RefusesWhereFull s x (nodes node [] image) root g (full []) e) es
      (subst (λ d. RefusesWhereFull s x (nodes node d image) root stack (full d) e) ed (levels_refuse (nodes node ds image) (nodes node drafts image) root after stack more (full ds) e h)))

  takes_named : (pages : ℕ → Node P E) (is_full lacks : ℕ → Type 0) (root : Node P E) (no_room : Type 0) (no_place : P → Type 0) (free left stack rest : List ℕ) → length stack ≡ length free → length rest ≡ length left
      → TakesWhereFull s x pages is_full lacks root no_room no_place stack rest → TakesWhereFull s x pages is_full lacks root no_room no_place free left
  takes_named pages is_full lacks root no_room no_place free left stack rest a b (inl none) = inl (omega (arith, a, b, none))
  takes_named pages is_full lacks root no_room no_place free left stack rest a b (inr (inl here)) = let n = here.2 in inr (inl (here.0, here.1, omega (arith, a, b, n)))
  takes_named pages is_full lacks root no_room no_place free left stack rest a b (inr (inr down)) = inr (inr (down.0, down.1, down.2, down.3, by down.4))
    where
      by : (((taken : ℕ) × FullUp s x pages is_full lacks down.2 down.1 taken × (length stack ≡ length rest + taken)) ⊎ (FullDown s x pages is_full lacks down.2 down.1 × ((key : P) × no_place key) × (length stack ≡ length rest + suc down.2)))
          → (((taken : ℕ) × FullUp s x pages is_full lacks down.2 down.1 taken × (length free ≡ length left + taken)) ⊎ (FullDown s x pages is_full lacks down.2 down.1 × ((key : P) × no_place key) × (length free ≡ length left + suc down.2)))
      by (inl up) = let n = up.2 in inl (up.0, up.1, omega (arith, a, b, n))
      by (inr all) = let n = all.2 in inr (all.0, all.1, omega (arith, a, b, n))

  pub takes_as : (image : Image) (root : Node P E) (is_full lacks : List ℕ → Type 0) (no_room : Type 0) (no_place : P → Type 0) (free left stack rest : List ℕ) (ds : List Drafted) → ds ≡ [] → stack ≡ reverse free → left ≡ reverse rest
      → TakesWhereFull s x (nodes node ds image) (at_page is_full ds image) (at_page lacks ds image) root no_room no_place stack rest
      → TakesWhereFull s x (read_as node (page_of image)) (on_page is_full (page_of image)) (on_page lacks (page_of image)) root no_room no_place free left
  takes_as image root is_full lacks no_room no_place free left stack rest ds ed is_stack is_left h =
      takes_named (read_as node (page_of image)) (on_page is_full (page_of image)) (on_page lacks (page_of image)) root no_room no_place free left stack rest
      (ap length is_stack ∙ length-reverse free) (sym (ap length is_left ∙ length-reverse rest))
      (subst (λ d. TakesWhereFull s x (nodes node d image) (at_page is_full d image) (at_page lacks d image) root no_room no_place stack rest) ed h)

pub told_as : (now blocks : ℕ) (view image : Image) (drafts : List Drafted) (tx later : List Edit) → now ≡ blocks → view ≡ image → TellsDraft now view drafts tx later → TellsDraft blocks image drafts tx later
told_as now blocks view image drafts tx later en ei told = subst (λ i. TellsDraft blocks i drafts tx later) ei (subst (λ b. TellsDraft b view drafts tx later) en told)

pub ok_maps : {A E : Type 0} {P Q R : A → Type 0} (r : Result A E) → IfOk r P → IfOk r Q → ((a : A) → P a → Q a → R a) → IfOk r R
ok_maps (Ok a) p q f = f a p q
ok_maps (Err e) p q f = p
