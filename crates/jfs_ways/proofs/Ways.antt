-- The first broken rule on the ways of blocks, page by page.
use Rattle.std.proofs.Common.{◌≡◌, ◌≤◌, ◌<◌, ◌⊎◌, inl, inr, refl, sym, ap, ◌∙◌, subst, ℕ, zero, suc, ◌+◌, ◌-◌, List, [], ◌∷◌, ◌++◌, Option, Some, None, Result, Ok, Err, IfOk, IfErr, arith}
use Rattle.jfs_bits.specs.declared.rule.Rule.{Rule}
use Rattle.jfs_bits.specs.declared.rule.Rule.TheVariants as rules
use Rattle.jfs_bits.specs.declared.extent.Xad.{Xad}
use Rattle.jfs_disk.specs.Image.{Image, page_of}
use Rattle.jfs_tree.specs.Walk.{Node, Leaf, Inner, Broken}
use Rattle.jfs_tree.specs.Spells.{no_page}
use Rattle.jfs_tree.specs.Call.{Breaks, BreaksWhereBad}
use Rattle.jfs_tree.specs.Path.{way_of, broken_at, below_root, broken_below, broken_on_way, TellsBroken}
use Rattle.jfs_tree.specs.Root.{NamesBroken}
use Rattle.jfs_tree.specs.declared.form.TreeError.{TreeError}
use Rattle.jfs_tree.specs.declared.form.TreeError.TheVariants.{View, Bad, Memory}
use Rattle.jfs_tree.proofs.Path.{leads_on, reads, root_breaks}
use Rattle.jfs_tree.proofs.RootCalls.{names_root, names_below}
use Rattle.jfs_xtree.specs.Laws.{order}
use Rattle.jfs_xtpage.specs.declared.head.XtForm.{XtForm}
use Rattle.jfs_xtpage.specs.declared.head.XtForm.TheVariants.{Full}
use Rattle.jfs_xtree.specs.Errors.{handed_on}
use Rattle.jfs_xtree.specs.Node.{xt_scale, xt_node}
use Rattle.jfs_xtree.specs.Spells.{page_nodes, TellsWay}
use Rattle.jfs_xtree.specs.declared.error.XtError.{XtError}
use Rattle.jfs_ways.specs.Along.{or_later, first_broken}
use Rattle.jfs_ways.specs.Leading.{LeadsUntil, TellsUntil}

-- ---- one page

module _ (nodes : ℕ → Node ℕ Xad) (most less page : ℕ) (node : Node ℕ Xad) (is : most ≡ suc less) (read : node ≡ nodes page) where
  pub breaks_here : (at : ℕ) (rule : Rule) → below_root node ≡ Broken rule → broken_below xt_scale nodes at most page ≡ Some (page, rule)
  breaks_here at rule b = reads xt_scale nodes at most less page node is read ∙ ap (broken_at xt_scale at (broken_below xt_scale nodes at less) page) b

  pub named_here : (rule : Rule) → below_root node ≡ Broken rule → Breaks nodes most page page rule
  named_here rule b = subst (λ m. Breaks nodes m page page rule) (sym is) (inl (refl, ap below_root (sym read) ∙ b))

  pub ends_here : (k : ℕ) (es : List Xad) → below_root node ≡ Leaf es → broken_below xt_scale nodes k most page ≡ None
  ends_here k es b = reads xt_scale nodes k most less page node is read ∙ ap (broken_at xt_scale k (broken_below xt_scale nodes k less) page) b

  goes_on : (k child : ℕ) → way_of xt_scale k (below_root node) ≡ Some child → broken_below xt_scale nodes k most page ≡ broken_below xt_scale nodes k less child
  goes_on k child w = reads xt_scale nodes k most less page node is read ∙ leads_on xt_scale k (broken_below xt_scale nodes k less) page child (below_root node) w

  pub until_on : (at end child next : ℕ) (r : Result ℕ TreeError) → LeadsUntil (below_root node) at end child next → ((n : ℕ) → r ≡ Ok n → n ≤ next) → TellsUntil (λ k. broken_below xt_scale nodes k less child) at r
      → TellsUntil (λ k. broken_below xt_scale nodes k most page) at r
  until_on at end child next (Ok n) u within told = λ k l m. goes_on k child (u.alone k l (let h = within n refl in omega (arith, m, h))) ∙ told k l m
  until_on at end child next (Err (View e)) u within told = tt
  until_on at end child next (Err (Bad bad rule)) u within told = goes_on at child (u.alone at (omega arith) u.later) ∙ told
  until_on at end child next (Err Memory) u within told = tt

  inner_below : (cs : List _) → below_root node ≡ Inner cs → node ≡ Inner cs
  inner_below cs e = by node e
    where
      by : (n : Node ℕ Xad) → below_root n ≡ Inner cs → n ≡ Inner cs
      by (Leaf []) h = absurd cc
      by (Leaf (x ∷ xs)) h = absurd cc
      by (Inner ds) h = h
      by (Broken rule) h = absurd cc

  pub named_on : (at end child next : ℕ) (e : TreeError) → LeadsUntil (below_root node) at end child next → BreaksWhereBad nodes less child e → BreaksWhereBad nodes most page e
  named_on at end child next (View e) u b = tt
  named_on at end child next (Bad bad rule) u b =
      let l = u.leads in
      subst (λ m. Breaks nodes m page bad rule) (sym is) (inr (l.front, l.child, l.back, sym read ∙ inner_below (l.front ++ l.child ∷ l.back) l.is, subst (λ p. Breaks nodes less p bad rule) (sym l.to) b))
  named_on at end child next Memory u b = tt

-- a page past the last level
pub deep_named : (nodes : ℕ → Node ℕ Xad) (most page : ℕ) → most ≡ 0 → Breaks nodes most page page rules.Deep
deep_named nodes most page is = subst (λ m. Breaks nodes m page page rules.Deep) (sym is) (refl, refl)

-- ---- the root

module _ (nodes : ℕ → Node ℕ Xad) (root : Node ℕ Xad) where
  root_on : (k child : ℕ) → way_of xt_scale k root ≡ Some child → broken_on_way xt_scale nodes k root ≡ broken_below xt_scale nodes k 7 child
  root_on k child w = leads_on xt_scale k (broken_below xt_scale nodes k 7) no_page child root w

  pub root_until : (at end child next : ℕ) (r : Result ℕ TreeError) → LeadsUntil root at end child next → ((n : ℕ) → r ≡ Ok n → n ≤ next) → TellsUntil (λ k. broken_below xt_scale nodes k 7 child) at r
      → TellsUntil (λ k. broken_on_way xt_scale nodes k root) at r
  root_until at end child next (Ok n) u within told = λ k l m. root_on k child (u.alone k l (let h = within n refl in omega (arith, m, h))) ∙ told k l m
  root_until at end child next (Err (View e)) u within told = tt
  root_until at end child next (Err (Bad bad rule)) u within told = root_on at child (u.alone at (omega arith) u.later) ∙ told
  root_until at end child next (Err Memory) u within told = tt

  pub root_named : (at end child next : ℕ) (e : TreeError) → LeadsUntil root at end child next → BreaksWhereBad nodes 7 child e → NamesBroken xt_scale nodes root e
  root_named at end child next e u b = names_below xt_scale order u.block nodes root u.place child e u.leads b

-- ---- way by way

-- blocks that find nothing are passed over
skip_clear : (broken : ℕ → Option (ℕ × Rule)) (at n m : ℕ) → ((k : ℕ) → at ≤ k → k < at + n → broken k ≡ None) → first_broken broken at (n + m) ≡ first_broken broken (at + n) m
skip_clear broken at zero m clear = ap (first_broken broken at) (let e : 0 + m ≡ m = omega arith in e) ∙ ap (λ a. first_broken broken a m) (let e : at ≡ at + 0 = omega arith in e)
skip_clear broken at (suc n) m clear =
    ap (first_broken broken at) (let e : suc n + m ≡ suc (n + m) = omega arith in e)
    ∙ ap (λ b. or_later b (first_broken broken (suc at) (n + m))) (clear at (omega arith) (omega arith))
    ∙ skip_clear broken (suc at) n m (λ k l h. clear k (omega (arith, l)) (omega (arith, h)))
    ∙ ap (λ a. first_broken broken a m) (let e : suc at + n ≡ at + suc n = omega arith in e)

pub clear_until : (broken : ℕ → Option (ℕ × Rule)) (at next end : ℕ) → at < next → next ≤ end → ((k : ℕ) → at ≤ k → k < next → broken k ≡ None) → first_broken broken at (end - at) ≡ first_broken broken next (end - next)
clear_until broken at next end l m clear =
    ap (first_broken broken at) (let e : end - at ≡ (next - at) + (end - next) = omega (arith, l, m) in e)
    ∙ skip_clear broken at (next - at) (end - next) (λ k h i. clear k h (omega (arith, i, l)))
    ∙ ap (λ a. first_broken broken a (end - next)) (let e : at + (next - at) ≡ next = omega (arith, l) in e)

pub found_first : (broken : ℕ → Option (ℕ × Rule)) (at end page : ℕ) (rule : Rule) → at < end → broken at ≡ Some (page, rule) → first_broken broken at (end - at) ≡ Some (page, rule)
found_first broken at end page rule l b =
    ap (first_broken broken at) (let e : end - at ≡ suc (end - suc at) = omega (arith, l) in e)
    ∙ ap (λ f. or_later f (first_broken broken (suc at) (end - suc at))) b

pub none_left : (broken : ℕ → Option (ℕ × Rule)) (at end : ℕ) → end ≤ at → first_broken broken at (end - at) ≡ None
none_left broken at end l = ap (first_broken broken at) (let e : end - at ≡ 0 = omega (arith, l) in e)

pub until_err : (broken : ℕ → Option (ℕ × Rule)) (at end : ℕ) (e : TreeError) → at < end → TellsUntil broken at (Err e) → TellsBroken {T = Unit {0}} (first_broken broken at (end - at)) (Err e)
until_err broken at end (View v) l told = tt
until_err broken at end (Bad page rule) l told = found_first broken at end page rule l told
until_err broken at end Memory l told = tt

-- ---- as the code has it

-- a page as it is read
pub page_read : (form : XtForm) (b blocks : ℕ) (bytes raw : List ℕ) (image : Image) (page : ℕ) → form ≡ Full → b ≡ blocks → bytes ≡ raw → raw ≡ page_of image page → xt_node form b bytes ≡ page_nodes blocks (page_of image) page
page_read form b blocks bytes raw image page ef eb value read = ap (λ f. xt_node f b bytes) ef ∙ ap (λ n. xt_node Full n bytes) eb ∙ ap (xt_node Full blocks) (value ∙ read)

-- the pages that another view shows
pub same_pages : (blocks size : ℕ) (image later : Image) → size ≡ blocks → later ≡ image → page_nodes size (page_of later) ≡ page_nodes blocks (page_of image)
same_pages blocks size image later es ei = ap (λ n. page_nodes n (page_of later)) es ∙ ap (λ (i : Image). page_nodes blocks (page_of i)) ei

at_most : (at end n : ℕ) (r : Result ℕ TreeError) → IfOk r (λ next. (at < next) × (next ≤ end)) → r ≡ Ok n → n ≤ end
at_most at end n r within is = (subst (λ q. IfOk q (λ next. (at < next) × (next ≤ end))) is within).1

module _ (nodes now : ℕ → Node ℕ Xad) (same : now ≡ nodes) (at end child next : ℕ) (r : Result ℕ TreeError) (within : IfOk r (λ n. (at < n) × (n ≤ next))) where
  pub below_tells : (most less page : ℕ) (node : Node ℕ Xad) → most ≡ suc less → node ≡ nodes page → LeadsUntil (below_root node) at end child next → TellsUntil (λ k. broken_below xt_scale now k less child) at r
      → TellsUntil (λ k. broken_below xt_scale nodes k most page) at r
  below_tells most less page node is read u told =
      until_on nodes most less page node is read at end child next r u (λ n e. at_most at next n r within e) (subst (λ f. TellsUntil (λ k. broken_below xt_scale f k less child) at r) same told)

  pub root_tells : (root : Node ℕ Xad) → LeadsUntil root at end child next → TellsUntil (λ k. broken_below xt_scale now k 7 child) at r → TellsUntil (λ k. broken_on_way xt_scale nodes k root) at r
  root_tells root u told = root_until nodes root at end child next r u (λ n e. at_most at next n r within e) (subst (λ f. TellsUntil (λ k. broken_below xt_scale f k 7 child) at r) same told)

module _ (nodes now : ℕ → Node ℕ Xad) (same : now ≡ nodes) (at end child next : ℕ) where
  pub below_names : (most less page : ℕ) (node : Node ℕ Xad) (r : Result ℕ TreeError) → most ≡ suc less → node ≡ nodes page → LeadsUntil (below_root node) at end child next → IfErr r (λ e. BreaksWhereBad now less child e)
      → IfErr r (λ e. BreaksWhereBad nodes most page e)
  below_names most less page node (Ok n) is read u b = tt
  below_names most less page node (Err e) is read u b = named_on nodes most less page node is read at end child next e u (subst (λ f. BreaksWhereBad f less child e) same b)

  pub root_names : (root : Node ℕ Xad) (r : Result ℕ TreeError) → LeadsUntil root at end child next → IfErr r (λ e. BreaksWhereBad now 7 child e) → IfErr r (λ e. NamesBroken xt_scale nodes root e)
  root_names root (Ok n) u b = tt
  root_names root (Err e) u b = root_named nodes root at end child next e u (subst (λ f. BreaksWhereBad f 7 child e) same b)

-- what blocks find broken, in the pages that another view shows
abbrev pub broken_in : ℕ → Node ℕ Xad → Image → ℕ → Option (ℕ × Rule)
broken_in blocks root image k = broken_on_way xt_scale (page_nodes blocks (page_of image)) k root

pub same_broken : (blocks : ℕ) (root : Node ℕ Xad) (image later : Image) → later ≡ image → broken_in blocks root later ≡ broken_in blocks root image
same_broken blocks root image later same = ap (broken_in blocks root) same

-- what stands for the ways behind those that are looked at
pub rest_tells : (broken later : ℕ → Option (ℕ × Rule)) (at next end : ℕ) (r : Result (Unit {0}) TreeError) → later ≡ broken → (at < next) × (next ≤ end) → TellsUntil broken at (Ok next) → TellsBroken (first_broken later next (end - next)) r
    → TellsBroken (first_broken broken at (end - at)) r
rest_tells broken later at next end r same within clear told =
    subst (λ f. TellsBroken f r) (sym (clear_until broken at next end within.0 within.1 clear)) (subst (λ f. TellsBroken (first_broken f next (end - next)) r) same told)

-- the root's ways, by its size
pub along_as : (b blocks : ℕ) (form rf : XtForm) (image : Image) (root : List ℕ) (first count : ℕ) (e : TreeError) (handed : XtError) → b ≡ blocks → form ≡ rf → handed ≡ handed_on e
    → TellsBroken {T = Unit {0}} (first_broken (λ k. broken_on_way xt_scale (page_nodes b (page_of image)) k (xt_node form b root)) first count) (Err e)
    → TellsWay {T = Unit {0}} (first_broken (λ k. broken_on_way xt_scale (page_nodes blocks (page_of image)) k (xt_node rf blocks root)) first count) (Err handed)
along_as b blocks form rf image root first count e handed eb ef eh told =
    subst (λ x. TellsWay {T = Unit {0}} there (Err x)) (sym eh) (by e
    (subst (λ f. TellsBroken {T = Unit {0}} (first_broken (λ k. broken_on_way xt_scale (page_nodes blocks (page_of image)) k (xt_node f blocks root)) first count) (Err e)) ef
    (subst (λ n. TellsBroken {T = Unit {0}} (first_broken (λ k. broken_on_way xt_scale (page_nodes n (page_of image)) k (xt_node form n root)) first count) (Err e)) eb told)))
  where
    there : Option (ℕ × Rule)
    there = first_broken (λ k. broken_on_way xt_scale (page_nodes blocks (page_of image)) k (xt_node rf blocks root)) first count

    by : (e : TreeError) → TellsBroken {T = Unit {0}} there (Err e) → TellsWay {T = Unit {0}} there (Err (handed_on e))
    by (View v) t = tt
    by (Bad page rule) t = t
    by Memory t = tt
