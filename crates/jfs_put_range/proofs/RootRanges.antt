-- What the calls at the root answer, from what their parts do.
use Rattle.std.proofs.Common.{◌≡◌, ◌≤◌, ◌<◌, refl, sym, ap, ◌∙◌, subst, ℕ, ◌+◌, Bool, true, false, List, [], ◌∷◌, ◌++◌, length, map, Some, Ok, Err, Result, OnOk, IfErr, arith}
use Rattle.std.specs.Prelude.{reverse}
use Rattle.jfs_bits.specs.declared.extent.Xad.{Xad}
use Rattle.jfs_disk.specs.Image.{Image, page_of}
use Rattle.jfs_ranges.specs.declared.edit.Edit.{Edit}
use Rattle.jfs_tree.specs.Walk.{Node, Leaf, Inner}
use Rattle.jfs_tree.specs.Spells.{with_root, footprint}
use Rattle.jfs_tree.specs.Fresh.{after_tx}
use Rattle.jfs_tree.specs.Form.{AllBelow, IsFront}
use Rattle.jfs_tree.specs.Call.{StaysTaken}
use Rattle.jfs_tree.specs.Root.{IsSpare}
use Rattle.jfs_tree.specs.Draft.{shown}
use Rattle.jfs_tree.specs.Tell.{TellsDraft}
use Rattle.jfs_tree.specs.Becomes.{Becomes}
use Rattle.jfs_tree.specs.declared.draft.Drafted.{Drafted}
use Rattle.jfs_tree.specs.declared.form.TreeError.{TreeError}
use Rattle.jfs_tree.specs.declared.form.TreeError.TheVariants.{View, Bad, Memory}
use Rattle.jfs_tree.proofs.Becoming.{becomes_told}
use Rattle.jfs_tree.proofs.Filling.{filled_not_thin, filled_of, filled_same}
use Rattle.jfs_tree.proofs.RootCalls.{leaf_spells, names_root}
use Rattle.jfs_tree.proofs.Runs.{count_reverse}
use Rattle.jfs_tree.proofs.Within.{footprint_within}
use Rattle.jfs_xtpage.specs.declared.head.XtForm.{XtForm}
use Rattle.jfs_xtpage.specs.declared.head.XtForm.TheVariants.{Full}
use Rattle.jfs_xtree.specs.Laws.{order}
use Rattle.jfs_xtree.specs.Node.{xt_scale, xt_node, all_within, child_of, IsRoot}
use Rattle.jfs_xtree.specs.Spells.{root_form, page_nodes}
use Rattle.jfs_xtree.specs.WriteParts.{drafted}
use Rattle.jfs_xtree.proofs.Adds.{has_pages}
use Rattle.jfs_written.specs.Range.{with_range}
use Rattle.jfs_refill.specs.Refilled.{IsList}
use Rattle.jfs_refill.specs.Rooted.{RootStored, SettlesList}
use Rattle.jfs_put_range.specs.Call.{IsShortRange, WritesRange, KeepsLeast, RefusesOnlyDeep}
use Rattle.jfs_put_range.specs.Parts.{Pushed, WroteChildren, RefutesChildren, most_taken}
use Rattle.jfs_put_range.specs.Tops.{IsOpenedRoot, BreaksRoot, StepsRange, FillsRange, RefusesRange}
use Rattle.jfs_put_range.proofs.LeafPages.{leaf_list}
use Rattle.jfs_put_range.proofs.Lists.{as_part, some_range}
use Rattle.jfs_put_range.proofs.Settling.{settles, settles_filled, fewer_left}
use Rattle.jfs_put_range.proofs.Standing.{leaf_stood, leaf_filled, inner_stood, inner_refuted}

front_below : (b : ℕ) (left taken : List ℕ) → AllBelow b (left ++ taken) → AllBelow b left
front_below b [] taken h = tt
front_below b (n ∷ left) taken h = (h.0, front_below b left taken h.1)

-- what is left lies where all did
below_left : (b : ℕ) (left all : List ℕ) → IsFront left all → AllBelow b all → AllBelow b left
below_left b left all front h = front_below b left front.0 (subst (AllBelow b) front.1 h)

-- a root that gets a list, whatever its form and the blocks
abbrev pub SettlesAlways : ℕ → List Xad → List ℕ → List ℕ → List Drafted → List Drafted → List ℕ → List ℕ → Result (Unit {0}) TreeError → Type 0
SettlesAlways levels list root after old new free left result = (form : XtForm) (blocks : ℕ) → IsRoot form → AllBelow blocks free → IsList blocks list → OnOk result (SettlesList form blocks levels list root after old new free left)

pub two_taken : (xs : List Xad) (left right : Bool) → most_taken xs left right 1 ≤ 2
two_taken [] left right = omega arith
two_taken (x ∷ xs) true true = omega arith
two_taken (x ∷ xs) true false = omega arith
two_taken (x ∷ xs) false true = omega arith
two_taken (x ∷ xs) false false = omega arith

module _ (form : XtForm) (blocks : ℕ) (image : Image) (xs entries : List Xad) (root after : List ℕ) (is_root : IsRoot form) (range : IsShortRange blocks xs) (small : blocks ≤ 4294967295) where
  -- a leaf
  pub leaf_steps : (list : List Xad) (old new : List Drafted) (free left : List ℕ) (result : Result (Unit {0}) TreeError) → IsOpenedRoot form blocks root entries true → AllBelow blocks free → IsFront left free
      → list ≡ with_range xs entries → SettlesAlways 1 list root after old new free left result → OnOk result (StaysTaken old new free left) → OnOk result (StepsRange form blocks image xs root after old new free left)
  leaf_steps list old new free left (Ok it) opened below front is settled stays = λ es spelled spare.
      let same : entries ≡ es = leaf_spells xt_scale (drafted blocks old image) (xt_node form blocks root) entries es opened.node spelled in
      let listed = subst (IsList blocks) (sym is) (leaf_list blocks xs entries (omega (arith, small)) (as_part blocks xs range) opened.order opened.range opened.fits).0 in
      let becomes = settles xt_scale order (xt_node Full blocks) image blocks list old old new (xt_node form blocks root) (Leaf list) (xt_node form blocks after) free free left
      below (below_left blocks left free front below) (omega (arith, small)) (λ n. (let f = fewer_left n free left front in omega (arith, f))) stays 1
      (leaf_stood blocks image list entries es old (xt_node form blocks root) free opened.node (subst (λ ys. 0 < length ys) (sym is) (some_range xs entries range.some)) listed.order below (omega (arith, small)) spelled spare)
      ((settled form blocks is_root below listed).leaf image entries opened.node) in
      subst (λ ys. Becomes xt_scale (xt_node Full blocks) ys (shown old image) (shown new image) (xt_node form blocks root) (xt_node form blocks after) free left) (is ∙ ap (with_range xs) same) becomes
  leaf_steps list old new free left (Err e) opened below front is settled stays = tt

  pub leaf_fills : (list : List Xad) (old new : List Drafted) (free left : List ℕ) (result : Result (Unit {0}) TreeError) → IsOpenedRoot form blocks root entries true → AllBelow blocks free → IsFront left free
      → list ≡ with_range xs entries → SettlesAlways 1 list root after old new free left result → OnOk result (StaysTaken old new free left) → OnOk result (FillsRange form blocks image root after old new free)
  leaf_fills list old new free left (Ok it) opened below front is settled stays = λ es spelled spare least most filled.
      let listed = subst (IsList blocks) (sym is) (leaf_list blocks xs entries (omega (arith, small)) (as_part blocks xs range) opened.order opened.range opened.fits).0 in
      settles_filled xt_scale order (xt_node Full blocks) image blocks list old old new (xt_node form blocks root) (Leaf list) (xt_node form blocks after) free free left
      below (below_left blocks left free front below) (omega (arith, small)) (λ n. (let f = fewer_left n free left front in omega (arith, f))) stays least 1
      (leaf_stood blocks image list entries es old (xt_node form blocks root) free opened.node (subst (λ ys. 0 < length ys) (sym is) (some_range xs entries range.some)) listed.order below (omega (arith, small)) spelled spare)
      ((settled form blocks is_root below listed).leaf image entries opened.node) (leaf_filled least (drafted blocks old image) (xt_node form blocks root) list filled)
  leaf_fills list old new free left (Err e) opened below front is settled stays = tt

  -- an inner page
  pub inner_steps : (made : List Xad) (old mid new : List Drafted) (levels : ℕ) (free between left : List ℕ) (result : Result (Unit {0}) TreeError) → IsOpenedRoot form blocks root entries false → AllBelow blocks free
      → IsFront between free → IsFront left between → 0 < length made → all_within blocks made ≡ true → WroteChildren true blocks xs true true true (shown old image) (shown mid image) levels entries made free between
      → SettlesAlways (levels + 1) made root after mid new between left result → OnOk result (StaysTaken mid new between left) → OnOk result (StepsRange form blocks image xs root after old new free left)
  inner_steps made old mid new levels free between left (Ok it) opened below front front_left some within wrote settled stays = λ es spelled spare.
      let st = inner_stood blocks image xs entries made es old mid (xt_node form blocks root) levels free between range opened.node (opened.some refl) opened.order some below (omega (arith, small)) front wrote spelled spare in
      let below_between = below_left blocks between free front below in
      settles xt_scale order (xt_node Full blocks) image blocks (with_range xs es) old mid new (xt_node form blocks root) (Inner (map child_of made)) (xt_node form blocks after) free between left
      below (below_left blocks left between front_left below_between) (omega (arith, small)) (λ n. (let f = fewer_left n between left front_left in omega (arith, f))) stays (levels + 1) st.stood
      ((settled form blocks is_root below_between (record { order = st.rises; range = within })).inner image (map child_of entries) opened.node some)
  inner_steps made old mid new levels free between left (Err e) opened below front front_left some within wrote settled stays = tt

  inner_fills : (made : List Xad) (old mid new : List Drafted) (levels : ℕ) (free between left : List ℕ) (result : Result (Unit {0}) TreeError) → IsOpenedRoot form blocks root entries false → AllBelow blocks free
      → IsFront between free → IsFront left between → 0 < length made → all_within blocks made ≡ true → WroteChildren true blocks xs true true true (shown old image) (shown mid image) levels entries made free between
      → SettlesAlways (levels + 1) made root after mid new between left result → OnOk result (StaysTaken mid new between left) → OnOk result (FillsRange form blocks image root after old new free)
  inner_fills made old mid new levels free between left (Ok it) opened below front front_left some within wrote settled stays = λ es spelled spare least most filled.
      let st = inner_stood blocks image xs entries made es old mid (xt_node form blocks root) levels free between range opened.node (opened.some refl) opened.order some below (omega (arith, small)) front wrote spelled spare in
      let below_between = below_left blocks between free front below in
      settles_filled xt_scale order (xt_node Full blocks) image blocks (with_range xs es) old mid new (xt_node form blocks root) (Inner (map child_of made)) (xt_node form blocks after) free between left
      below (below_left blocks left between front_left below_between) (omega (arith, small)) (λ n. (let f = fewer_left n between left front_left in omega (arith, f))) stays least (levels + 1) st.stood
      ((settled form blocks is_root below_between (record { order = st.rises; range = within })).inner image (map child_of entries) opened.node some) (st.fills least most filled)
  inner_fills made old mid new levels free between left (Err e) opened below front front_left some within wrote settled stays = tt

  pub inner_refuses : (old : List Drafted) (free : List ℕ) (e : TreeError) → IsOpenedRoot form blocks root entries false → AllBelow blocks free → RefutesChildren blocks xs true true true (shown old image) 7 entries free e
      → RefusesRange form blocks image root old free e
  inner_refuses old free (View e) opened below h es spelled spare = tt
  inner_refuses old free (Bad bad rule) opened below h es spelled spare =
      absurd (inner_refuted blocks image xs entries es old (xt_node form blocks root) free bad rule range opened.node (opened.some refl) opened.order below (omega (arith, small)) h spelled spare)
  inner_refuses old free Memory opened below h es spelled spare = tt

  -- as the code has them
  pub wrote_as : (last : Bool) (tells : Type 0) (n : ℕ) (ys : List Xad) (l r : Bool) (start all : List Xad) (old mid : List Drafted) (levels : ℕ) (free between : List ℕ) → blocks ≡ n → ys ≡ xs → l ≡ true → r ≡ true → last ≡ true → tells
      → (p : Pushed tells last n ys l r true (shown old image) (shown mid image) levels entries start all free between) → WroteChildren true blocks xs true true true (shown old image) (shown mid image) levels entries p.made free between
  wrote_as last tells n ys l r start all old mid levels free between eb ex el er ed t p =
      subst (λ d. WroteChildren d blocks xs true true true (shown old image) (shown mid image) levels entries p.made free between) ed
      (subst (λ k. WroteChildren last k xs true true true (shown old image) (shown mid image) levels entries p.made free between) (sym eb)
      (subst (λ zs. WroteChildren last n zs true true true (shown old image) (shown mid image) levels entries p.made free between) ex
      (subst (λ d. WroteChildren last n ys true d true (shown old image) (shown mid image) levels entries p.made free between) er
      (subst (λ d. WroteChildren last n ys d r true (shown old image) (shown mid image) levels entries p.made free between) el (p.wrote t)))))

  pub pushed_steps : (last : Bool) (tells : Type 0) (n : ℕ) (ys : List Xad) (l r : Bool) (start all listed : List Xad) (old mid new : List Drafted) (levels : ℕ) (free between left : List ℕ) (result : Result (Unit {0}) TreeError)
      → blocks ≡ n → ys ≡ xs → l ≡ true → r ≡ true → last ≡ true → start ≡ [] → listed ≡ all → tells → IsOpenedRoot form blocks root entries false → AllBelow blocks free → IsFront between free → IsFront left between
      → Pushed tells last n ys l r true (shown old image) (shown mid image) levels entries start all free between → SettlesAlways (levels + 1) listed root after mid new between left result → OnOk result (StaysTaken mid new between left)
      → OnOk result (StepsRange form blocks image xs root after old new free left)
  pushed_steps last tells n ys l r start all listed old mid new levels free between left result eb ex el er ed none read t opened below front front_left p settled stays =
      inner_steps p.made old mid new levels free between left result opened below front front_left p.some (subst (λ k. all_within k p.made ≡ true) (sym eb) p.within)
      (wrote_as last tells n ys l r start all old mid levels free between eb ex el er ed t p)
      (subst (λ zs. SettlesAlways (levels + 1) zs root after mid new between left result) (read ∙ p.is ∙ ap (λ zs. zs ++ p.made) none) settled) stays

  pub pushed_fills : (last : Bool) (tells : Type 0) (n : ℕ) (ys : List Xad) (l r : Bool) (start all listed : List Xad) (old mid new : List Drafted) (levels : ℕ) (free between left : List ℕ) (result : Result (Unit {0}) TreeError)
      → blocks ≡ n → ys ≡ xs → l ≡ true → r ≡ true → last ≡ true → start ≡ [] → listed ≡ all → tells → IsOpenedRoot form blocks root entries false → AllBelow blocks free → IsFront between free → IsFront left between
      → Pushed tells last n ys l r true (shown old image) (shown mid image) levels entries start all free between → SettlesAlways (levels + 1) listed root after mid new between left result → OnOk result (StaysTaken mid new between left)
      → OnOk result (FillsRange form blocks image root after old new free)
  pushed_fills last tells n ys l r start all listed old mid new levels free between left result eb ex el er ed none read t opened below front front_left p settled stays =
      inner_fills p.made old mid new levels free between left result opened below front front_left p.some (subst (λ k. all_within k p.made ≡ true) (sym eb) p.within)
      (wrote_as last tells n ys l r start all old mid levels free between eb ex el er ed t p)
      (subst (λ zs. SettlesAlways (levels + 1) zs root after mid new between left result) (read ∙ p.is ∙ ap (λ zs. zs ++ p.made) none) settled) stays

  pub pushed_refuses : (n : ℕ) (ys : List Xad) (l r : Bool) (old : List Drafted) (free : List ℕ) (e : TreeError) → blocks ≡ n → ys ≡ xs → l ≡ true → r ≡ true → IsOpenedRoot form blocks root entries false → AllBelow blocks free
      → RefutesChildren n ys l r true (shown old image) 7 entries free e → RefusesRange form blocks image root old free e
  pushed_refuses n ys l r old free e eb ex el er opened below h =
      inner_refuses old free e opened below
      (subst (λ k. RefutesChildren k xs true true true (shown old image) 7 entries free e) (sym eb)
      (subst (λ zs. RefutesChildren n zs true true true (shown old image) 7 entries free e) ex
      (subst (λ d. RefutesChildren n ys true d true (shown old image) 7 entries free e) er
      (subst (λ d. RefutesChildren n ys d r true (shown old image) 7 entries free e) el h))))

  -- and where the root can't store the list, which has at most two entries more than the root
  full_err : (last : Bool) (tells : Type 0) (n : ℕ) (ys : List Xad) (l r : Bool) (start all listed : List Xad) (old mid new : List Drafted) (levels : ℕ) (free between left : List ℕ) (e : TreeError)
      → blocks ≡ n → ys ≡ xs → l ≡ true → r ≡ true → last ≡ true → start ≡ [] → listed ≡ all → tells → IsOpenedRoot form blocks root entries false → AllBelow blocks free → IsFront between free
      → Pushed tells last n ys l r true (shown old image) (shown mid image) levels entries start all free between → RootStored (levels + 1) listed root after mid new between left (Err e) → RefusesRange form blocks image root old free e
  full_err last tells n ys l r start all listed old mid new levels free between left (View e) eb ex el er ed none read t opened below front p h es spelled spare = tt
  full_err last tells n ys l r start all listed old mid new levels free between left (Bad bad rule) eb ex el er ed none read t opened below front p h es spelled spare =
      let st = inner_stood blocks image xs entries p.made es old mid (xt_node form blocks root) levels free between range opened.node (opened.some refl) opened.order p.some below (omega (arith, small)) front
      (wrote_as last tells n ys l r start all old mid levels free between eb ex el er ed t p) spelled spare in
      let made_few = p.few in
      let two = two_taken ys l r in
      let count = ap length (read ∙ p.is ∙ ap (λ zs. zs ++ p.made) none) in
      let entries_count = opened.count in
      let long = h.3 in
      (h.0, h.1, st.deep ∙ ap (λ k. Some k) (let m = st.most in let d = h.2 in omega (arith, m, d)), omega (arith, made_few, two, count, entries_count, long))
  full_err last tells n ys l r start all listed old mid new levels free between left Memory eb ex el er ed none read t opened below front p h es spelled spare = tt

  pub pushed_full : (last : Bool) (tells : Type 0) (n : ℕ) (ys : List Xad) (l r : Bool) (start all listed : List Xad) (old mid new : List Drafted) (levels : ℕ) (free between left : List ℕ) (result : Result (Unit {0}) TreeError)
      → blocks ≡ n → ys ≡ xs → l ≡ true → r ≡ true → last ≡ true → start ≡ [] → listed ≡ all → tells → IsOpenedRoot form blocks root entries false → AllBelow blocks free → IsFront between free
      → Pushed tells last n ys l r true (shown old image) (shown mid image) levels entries start all free between → RootStored (levels + 1) listed root after mid new between left result → IfErr result (RefusesRange form blocks image root old free)
  pushed_full last tells n ys l r start all listed old mid new levels free between left (Ok it) eb ex el er ed none read t opened below front p h = tt
  pushed_full last tells n ys l r start all listed old mid new levels free between left (Err e) eb ex el er ed none read t opened below front p h = full_err last tells n ys l r start all listed old mid new levels free between left e eb ex el er ed none read t opened below front p h

-- a root that breaks a rule
pub broken_refuses : (form : XtForm) (blocks : ℕ) (image : Image) (root : List ℕ) (ds : List Drafted) (free : List ℕ) (e : TreeError) → BreaksRoot (xt_node form blocks root) e → RefusesRange form blocks image root ds free e
broken_refuses form blocks image root ds free (View e) h es spelled spare = absurd h
broken_refuses form blocks image root ds free (Bad bad rule) h es spelled spare = absurd ((names_root xt_scale (drafted blocks ds image) (xt_node form blocks root) rule h.1).1 es spelled)
broken_refuses form blocks image root ds free Memory h es spelled spare = tt

-- ---- the whole call

pub spare_reversed : (pages : ℕ → Node ℕ Xad) (root : Node ℕ Xad) (free : List ℕ) → IsSpare xt_scale pages root free → IsSpare xt_scale pages root (reverse free)
spare_reversed pages root free spare = record {
  once = λ n. (let h = spare.once n in let c = count_reverse n free in omega (arith, h, c));
  apart = λ n h. spare.apart n (let c = count_reverse n free in omega (arith, h, c));
}

module _ (b blocks : ℕ) (form : XtForm) (image : Image) (root : List ℕ) (ds : List Drafted) (free stack : List ℕ) (eb : b ≡ blocks) (ef : form ≡ root_form (length root)) (fresh : ds ≡ []) (is_stack : stack ≡ reverse free) where
  clear : IsSpare xt_scale (drafted blocks [] image) (xt_node (root_form (length root)) blocks root) free → IsSpare xt_scale (drafted blocks [] image) (xt_node (root_form (length root)) blocks root) stack
  clear spare = subst (λ g. IsSpare xt_scale (drafted blocks [] image) (xt_node (root_form (length root)) blocks root) g) (sym is_stack) (spare_reversed (drafted blocks [] image) (xt_node (root_form (length root)) blocks root) free spare)

  steps_there : (ys xs : List Xad) (after : List ℕ) (drafts : List Drafted) (rest : List ℕ) → ys ≡ xs → StepsRange form b image ys root after ds drafts stack rest → StepsRange (root_form (length root)) blocks image xs root after [] drafts stack rest
  steps_there ys xs after drafts rest ex steps =
      subst (λ (d : List Drafted). StepsRange (root_form (length root)) blocks image xs root after d drafts stack rest) fresh
      (subst (λ (g : XtForm). StepsRange g blocks image xs root after ds drafts stack rest) ef
      (subst (λ (n : ℕ). StepsRange form n image xs root after ds drafts stack rest) eb (subst (λ zs. StepsRange form b image zs root after ds drafts stack rest) ex steps)))

  pub writes_range : (ys xs : List Xad) (after : List ℕ) (drafts : List Drafted) (left rest : List ℕ) (tx later : List Edit) → ys ≡ xs → StepsRange form b image ys root after ds drafts stack rest → TellsDraft blocks image drafts tx later → left ≡ reverse rest
      → WritesRange blocks (page_of image) xs root after free left tx later
  writes_range ys xs after drafts left rest tx later ex steps told is_left es spelled spare =
      let f = root_form (length root) in
      becomes_told xt_scale (xt_node Full blocks) blocks image (with_range xs es) (xt_node f blocks root) (xt_node f blocks after) drafts free left stack rest tx later
      (has_pages f blocks after) (has_pages Full blocks) (steps_there ys xs after drafts rest ex steps es spelled (clear spare)) told is_stack is_left

  pub writes_thick : (ys xs : List Xad) (after : List ℕ) (drafts : List Drafted) (rest : List ℕ) (tx later : List Edit) → ys ≡ xs → StepsRange form b image ys root after ds drafts stack rest → FillsRange form b image root after ds drafts stack → TellsDraft blocks image drafts tx later
      → KeepsLeast blocks (page_of image) root after free tx later
  writes_thick ys xs after drafts rest tx later ex steps fills told es spelled spare base leads least most none page =
      let f = root_form (length root) in
      let pages = drafted blocks drafts image in
      let now = page_nodes blocks (after_tx base later) in
      let fills_there = subst (λ (d : List Drafted). FillsRange f blocks image root after d drafts stack) fresh
      (subst (λ (g : XtForm). FillsRange g blocks image root after ds drafts stack) ef (subst (λ (n : ℕ). FillsRange form n image root after ds drafts stack) eb fills)) in
      let agree = λ (n : ℕ) (h : n < blocks). ap (xt_node Full blocks) (told n h (base n) (leads n h).0 (leads n h).1) in
      let frame = λ (n : ℕ) (h : 0 < footprint xt_scale pages (xt_node f blocks after) n). agree n (footprint_within xt_scale pages (xt_node f blocks after) n blocks (has_pages f blocks after) (λ m. has_pages Full blocks (shown drafts image m)) h) in
      filled_not_thin least (with_root (xt_node f blocks after) now) page
      (filled_same least xt_scale order pages now (xt_node f blocks after) (with_range xs es) (steps_there ys xs after drafts rest ex steps es spelled (clear spare)).spelled frame
      (fills_there es spelled (clear spare) least most (filled_of least xt_scale order (page_nodes blocks (page_of image)) (xt_node f blocks root) es spelled none)))

  pub refuses_deep : (e : TreeError) → RefusesRange form b image root ds stack e → RefusesOnlyDeep blocks (page_of image) root free e
  refuses_deep e h es spelled spare =
      let f = root_form (length root) in
      let there = subst (λ (d : List Drafted). RefusesRange f blocks image root d stack e) fresh
      (subst (λ (g : XtForm). RefusesRange g blocks image root ds stack e) ef
      (subst (λ (n : ℕ). RefusesRange form n image root ds stack e) eb h)) in
      there es spelled (clear spare)
