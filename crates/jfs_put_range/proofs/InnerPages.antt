-- An inner page whose children have new entries.
use Rattle.std.proofs.Common.{◌≡◌, ◌≤◌, ◌<◌, refl, sym, ap, ◌∙◌, subst, ℕ, suc, ◌+◌, ◌==◌, Bool, true, false, if◌then◌else◌, List, [], ◌∷◌, ◌++◌, map, length, Option, Some, None, arith}
use Rattle.std.specs.List.{flat_map}
use Rattle.std.proofs.lemmas.List.Concat.{flat_map-append}
use Rattle.jfs_bits.specs.declared.extent.Xad.{Xad}
use Rattle.jfs_disk.specs.Image.{Image}
use Rattle.jfs_tree.specs.Walk.{Child, Node, Inner, Page, Key, Marks, Rises, rows_of, times, under, walk}
use Rattle.jfs_tree.specs.Edit.{count_in, IsCons}
use Rattle.jfs_tree.specs.Form.{HasChildren}
use Rattle.jfs_tree.specs.Levels.{entry_count}
use Rattle.jfs_tree.specs.Call.{StaysOff}
use Rattle.jfs_tree.specs.Draft.{shown}
use Rattle.jfs_tree.specs.declared.draft.Drafted.{Drafted}
use Rattle.jfs_tree.specs.declared.form.Sibling.{Sibling}
use Rattle.jfs_tree.specs.declared.form.TreeError.{TreeError}
use Rattle.jfs_tree.specs.declared.form.TreeError.TheVariants.{View, Bad, Memory}
use Rattle.jfs_tree.proofs.Between.{append_nil}
use Rattle.jfs_tree.proofs.Finding.{inner_level}
use Rattle.jfs_tree.proofs.Growing.{apart, has_walk, once_itself}
use Rattle.jfs_tree.proofs.Split.{children_part}
use Rattle.jfs_tree.proofs.Steps.{once_here}
use Rattle.jfs_tree.proofs.Taking.{itself, taken_last, two_first, two_last}
use Rattle.jfs_xtpage.specs.declared.head.XtForm.TheVariants.{Full}
use Rattle.jfs_xtree.specs.Laws.{order}
use Rattle.jfs_xtree.specs.Node.{xt_scale, xt_node, frame_of, all_within, child_of}
use Rattle.jfs_xtree.specs.Spells.{page_nodes}
use Rattle.jfs_refill.specs.Refilled.{IsList}
use Rattle.jfs_refill.specs.Stored.{Stored}
use Rattle.jfs_put_range.specs.Parts.{Framed, Takes, Wrote, WrotePage, RefutesPage, WroteChildren, RefutesChildren, IsOpened, part_of, parts_below, parts_under}
use Rattle.jfs_put_range.proofs.Beside.{parts_stay}
use Rattle.jfs_put_range.proofs.Filled.{inner_keeps, inner_fills, not_full}
use Rattle.jfs_put_range.proofs.Framed.{framed_then, none_taken, stored_framed}
use Rattle.jfs_put_range.proofs.Pages.{inside, one_page, two_pages, walk_inner}

under_append : (key : ℕ) (front back : List (Child ℕ)) → IsCons front → under key (front ++ back) ≡ under key front ++ back
under_append key [] back h = absurd h
under_append key (f ∷ fs) back h = refl

own_key : (key : ℕ) (r : Child ℕ) (rs : List (Child ℕ)) → key ≡ r.key → under key (r ∷ rs) ≡ r ∷ rs
own_key key r rs e = ap (λ (k : ℕ). let c : Child ℕ = record { key = k; page = r.page } in c ∷ rs) e

-- the page before, and the parts below it
record Before (blocks : ℕ) (xs es : List Xad) (left right : Bool) (before : ℕ → List ℕ) (n height key low : ℕ) (high : Option ℕ) (first : ℕ) (free : List ℕ) : Type 0 where
  lower : ℕ
  level : height ≡ suc (suc lower)
  was : part_of blocks before (suc (suc lower)) (record { key = key; page = n }) ≡ Key n key ∷ Page n ∷ parts_under blocks before (suc lower) key es
  takes : Takes xs left right first key low (Key n key ∷ Page n ∷ parts_under blocks before (suc lower) key es) high free

before_inner : (blocks : ℕ) (xs es : List Xad) (left right : Bool) (before : ℕ → List ℕ) (n height key low : ℕ) (high : Option ℕ) (first : ℕ) (free : List ℕ) → 0 < length es → page_nodes blocks before n ≡ Inner (map child_of es)
    → Takes xs left right first key low (part_of blocks before height (record { key = key; page = n })) high free → Before blocks xs es left right before n height key low high first free
before_inner blocks xs es left right before n height key low high first free some is takes =
    let c : Child ℕ = record { key = key; page = n } in
    let nodes = page_nodes blocks before in
    let at = inner_level xt_scale nodes height c (map child_of es) low high is takes.rises in
    let was = walk_inner nodes at.0 c es some is in
    record {
      lower = at.0;
      level = at.1;
      was = was;
      takes = subst (λ ms. Takes xs left right first key low ms high free) was (subst (λ l. Takes xs left right first key low (part_of blocks before l c) high free) at.1 takes);
    }

-- what stands below the page isn't changed where the page is put
stays : (blocks : ℕ) (before : ℕ → List ℕ) (mid new : List Drafted) (image : Image) (n lower key : ℕ) (low : ℕ) (xs made : List Xad) (p : Marks ℕ Xad) (high : Option ℕ) (free between rest : List ℕ) → ((m : ℕ) → times m (Key n key ∷ Page n ∷ p) + count_in m free ≤ 1)
    → ((m : ℕ) → count_in m rest ≤ count_in m between) → StaysOff n mid new between rest → Wrote xs before (shown mid image) low p (parts_under blocks (shown mid image) (suc lower) key made) high free between
    → (m : ℕ) → 0 < times m (parts_under blocks (shown mid image) (suc lower) key made) → shown new image m ≡ shown mid image m
stays blocks before mid new image n lower key low xs made p high free between rest once less keeps w m some =
    let h = w.pages m in let l = less m in let o = once m in
    keeps image m (once_here n m (times m p + count_in m free) (sum (if n == m then 1 else 0) (times m p) (count_in m free) o) (omega (arith, h, some))) (none (if n == m then 1 else 0) (times m p) (count_in m free) o h some l)
  where
    sum : (a b c : ℕ) → (a + b) + c ≤ 1 → a + (b + c) ≤ 1
    sum a b c h = omega (arith, h)

    none : (a b c : ℕ) {t u v : ℕ} → (a + b) + c ≤ 1 → t + u ≡ b + c → 0 < t → v ≤ u → u ≡ v
    none a b c o h s l = omega (arith, o, h, s, l)

-- the frames of the pages below it, and then its own
page_framed : (full : Bool) (made : List Xad) (old mid new : List Drafted) (image : Image) (n : ℕ) (bytes : List ℕ) (free between rest : List ℕ) (more : Option (Sibling ℕ)) → bytes ≡ shown old image n → count_in n free ≡ 0
    → ((m : ℕ) → count_in m between ≤ count_in m free) → ((m : ℕ) → count_in m rest ≤ count_in m between) → Framed (shown old image) (shown mid image) free between → Stored made full bytes n mid new between rest more
    → Framed (shown old image) (shown new image) free rest
page_framed full made old mid new image n bytes free between rest more read none fewer less below stored =
    framed_then (shown old image) (shown mid image) (shown new image) free between rest fewer less below
    (stored_framed full made bytes n mid new image between rest more (ap (frame_of Full) read ∙ sym (below.others n (none_taken (count_in n free) (count_in n between) none (fewer n)))) stored)

pub inner_wrote : (end full : Bool) (blocks : ℕ) (xs es made : List Xad) (left right : Bool) (old mid new : List Drafted) (image : Image) (n levels : ℕ) (bytes : List ℕ) (free between rest : List ℕ) (more : Option (Sibling ℕ)) → 0 < length xs
    → IsOpened blocks bytes es false → bytes ≡ shown old image n → WroteChildren end blocks xs left right true (shown old image) (shown mid image) levels es made free between
    → (full ≡ true → end ≡ true) → 0 < length made → all_within blocks made ≡ true → ((m : ℕ) → count_in m between ≤ count_in m free) → ((m : ℕ) → count_in m rest ≤ count_in m between)
    → Stored made full bytes n mid new between rest more → StaysOff n mid new between rest
    → WrotePage end blocks xs left right (shown old image) (shown new image) (suc levels) n more free rest
inner_wrote end full blocks xs es made left right old mid new image n levels bytes free between rest None any o read wrote ends some within fewer less (few, left_is, stored) keeps height key low high first takes =
    let before = shown old image in
    let middle = shown mid image in
    let after = shown new image in
    let c : Child ℕ = record { key = key; page = n } in
    let is = ap (xt_node Full blocks) (sym read) ∙ o.node in
    let b = before_inner blocks xs es left right before n height key low high first free o.some is takes in
    let p = parts_under blocks before (suc b.lower) key es in
    let g = wrote (suc b.lower) key key high first o.order (λ nt. absurd cc) (inside xs left right first key low n p high free b.takes) in
    let list : IsList blocks made = record { order = g.3.order 0 o.order (λ t. refl); range = within } in
    let there : page_nodes blocks after n ≡ Inner (map child_of made) = ap (xt_node Full blocks) (stored.puts image n ∙ itself n stored.page (middle n)) ∙ (stored.reads blocks list).inner (map child_of es) o.node some in
    let q = parts_under blocks middle (suc b.lower) key made in
    let agree = stays blocks before mid new image n b.lower key key xs made p high free between rest b.takes.once less keeps g.0 in
    let same = parts_stay blocks middle after (suc b.lower) (under key (map child_of made)) agree in
    let now : parts_below blocks after (suc (suc b.lower)) (c ∷ []) ≡ Key n key ∷ Page n ∷ q =
    append_nil (part_of blocks after (suc (suc b.lower)) c) ∙ walk_inner (page_nodes blocks after) b.lower c made some there
    ∙ ap (λ ms. Key n key ∷ Page n ∷ ms) same in
    let framed = page_framed full made old mid new image n bytes free between rest None read (once_itself n (times n p) (count_in n free) (b.takes.once n)) fewer less g.0.framed (few, left_is, stored) in
    let w = one_page xs before middle after key low n p q high free between b.takes.rises.0 (λ m ne. keeps image m ne (ap (count_in m) (sym left_is))) (subst (Framed before after free) left_is framed) g.0 in (
      subst (λ l. Wrote xs before after low (part_of blocks before l c) (parts_below blocks after l (c ∷ [])) high free rest) (sym b.level)
          (subst (λ ms. Wrote xs before after low ms (parts_below blocks after (suc (suc b.lower)) (c ∷ [])) high free rest) (sym b.was)
          (subst (λ ms. Wrote xs before after low (Key n key ∷ Page n ∷ p) ms high free rest) (sym now)
          (subst (λ f. Wrote xs before after low (Key n key ∷ Page n ∷ p) (Key n key ∷ Page n ∷ q) high free f) (sym left_is) w))),
      b.level ∙ ap suc (g.2 any),
      inner_keeps end blocks before middle after n b.lower key high es made is g.0.rises agree g.5 g.4 some there,
    )
inner_wrote end full blocks xs es made left right old mid new image n levels bytes free between rest (Some s) any o read wrote ends some within fewer less (long, popped, stored) keeps height key low high first takes =
    let before = shown old image in
    let middle = shown mid image in
    let after = shown new image in
    let c : Child ℕ = record { key = key; page = n } in
    let d : Child ℕ = record { key = s.key; page = s.page } in
    let is = ap (xt_node Full blocks) (sym read) ∙ o.node in
    let b = before_inner blocks xs es left right before n height key low high first free o.some is takes in
    let p = parts_under blocks before (suc b.lower) key es in
    let g = wrote (suc b.lower) key key high first o.order (λ nt. absurd cc) (inside xs left right first key low n p high free b.takes) in
    let list : IsList blocks made = record { order = g.3.order 0 o.order (λ t. refl); range = within } in
    let reads = (stored.divided.reads blocks list).inner (map child_of es) o.node in
    let h = reads.0 in
    let fills = reads.1 in
    let taken = taken_last between rest s.page popped in
    let ne = apart n s.page (count_in n free) (count_in n between) (count_in n rest) (once_itself n (times n p) (count_in n free) (b.takes.once n)) (fewer n) (taken n) in
    let first_is : page_nodes blocks after n ≡ xt_node Full blocks stored.first = ap (xt_node Full blocks) (two_first mid new n s.page stored.first stored.second stored.puts ne image) in
    let second_is : page_nodes blocks after s.page ≡ xt_node Full blocks stored.second = ap (xt_node Full blocks) (two_last mid new n s.page stored.first stored.second stored.puts image) in
    let walks = walk xt_scale (page_nodes blocks after) (suc b.lower) in
    let x = flat_map walks (under key h.front) in
    let y = flat_map walks (h.first ∷ h.back) in
    let q = parts_under blocks middle (suc b.lower) key made in
    let agree = stays blocks before mid new image n b.lower key key xs made p high free between rest b.takes.once less keeps g.0 in
    let same = parts_stay blocks middle after (suc b.lower) (under key (map child_of made)) agree in
    let both : x ++ y ≡ q =
    sym (flat_map-append walks (under key h.front) (h.first ∷ h.back)) ∙ ap (flat_map walks) (sym (ap (under key) h.is ∙ under_append key h.front (h.first ∷ h.back) h.some))
    ∙ same in
    let now : parts_below blocks after (suc (suc b.lower)) (c ∷ d ∷ []) ≡ Key n key ∷ Page n ∷ (x ++ (Key s.page s.key ∷ Page s.page ∷ y)) =
    ap (λ ms. ms ++ (part_of blocks after (suc (suc b.lower)) d ++ [])) (has_walk xt_scale (page_nodes blocks after) b.lower c h.front (subst (λ node. HasChildren node h.front) (sym first_is) h.left_is))
    ∙ ap (λ ms. Key n key ∷ Page n ∷ (x ++ ms)) (append_nil (part_of blocks after (suc (suc b.lower)) d)
    ∙ has_walk xt_scale (page_nodes blocks after) b.lower d (h.first ∷ h.back) (subst (λ node. HasChildren node (h.first ∷ h.back)) (sym second_is) h.right_is)
    ∙ ap (λ cs. Key s.page s.key ∷ Page s.page ∷ flat_map walks cs) (own_key s.key h.first h.back h.key_is)) in
    let rise = children_part xt_scale order (page_nodes blocks after) (suc b.lower) key x h.first h.back high (subst (λ ms. Rises xt_scale key ms high) (sym both) g.0.rises) in
    let w = two_pages xs before middle after key low n s.page s.key p q x y high free between rest b.takes.rises.0 fewer taken (λ m off e. keeps image m off e) (ap rows_of both) (λ m. ap (times m) both)
    (subst (λ k. Rises xt_scale key x (Some k)) (sym h.key_is) rise.0) (subst (λ k. Rises xt_scale k y high) (sym h.key_is) rise.1)
    (page_framed full made old mid new image n bytes free between rest (Some s) read (once_itself n (times n p) (count_in n free) (b.takes.once n)) fewer less g.0.framed (long, popped, stored)) g.0 in (
      subst (λ l. Wrote xs before after low (part_of blocks before l c) (parts_below blocks after l (c ∷ d ∷ [])) high free rest) (sym b.level)
          (subst (λ ms. Wrote xs before after low ms (parts_below blocks after (suc (suc b.lower)) (c ∷ d ∷ [])) high free rest) (sym b.was)
          (subst (λ ms. Wrote xs before after low (Key n key ∷ Page n ∷ p) ms high free rest) (sym now) w)),
      b.level ∙ ap suc (g.2 any),
      inner_fills end blocks before middle after n s.page b.lower key high es made h.front h.first h.back is g.0.rises agree g.5 h.is
          (subst (λ node. HasChildren node h.front) (sym first_is) h.left_is) (subst (λ node. HasChildren node (h.first ∷ h.back)) (sym second_is) h.right_is)
          (subst (λ (m : Node ℕ Xad). 127 ≤ entry_count m) (sym first_is) fills.left_has) (λ e. subst (λ (m : Node ℕ Xad). 127 ≤ entry_count m) (sym second_is) (fills.right_has (not_full end full ends e))),
    )

-- ---- a page below which the range can't be written

pub inner_refuted : (blocks : ℕ) (xs es : List Xad) (left right : Bool) (old : List Drafted) (image : Image) (n most less : ℕ) (bytes : List ℕ) (free : List ℕ) (e : TreeError) → most ≡ suc less → IsOpened blocks bytes es false → bytes ≡ shown old image n
    → RefutesChildren blocks xs left right true (shown old image) less es free e → RefutesPage blocks xs left right (shown old image) most n free e
inner_refuted blocks xs es left right old image n most less bytes free (View v) more o read refutes = tt
inner_refuted blocks xs es left right old image n most less bytes free (Bad bad rule) more o read refutes = λ height key low high first fits takes.
    let b = before_inner blocks xs es left right (shown old image) n height key low high first free o.some (ap (xt_node Full blocks) (sym read) ∙ o.node) takes in
    refutes (suc b.lower) key key high first (let l = b.level in omega (arith, l, more, fits)) o.order (λ nt. absurd cc)
    (inside xs left right first key low n (parts_under blocks (shown old image) (suc b.lower) key es) high free b.takes)
inner_refuted blocks xs es left right old image n most less bytes free Memory more o read refutes = tt
