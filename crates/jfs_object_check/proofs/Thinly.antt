-- A list of findings gains the pages with few entries, page by page and level by level.
use Rattle.std.proofs.Common.{◌≡◌, ◌≢◌, ◌⊎◌, inl, inr, refl, sym, ap, ◌∙◌, subst, ℕ, zero, suc, ◌+◌, ◌<◌, ◌≤◌, Bool, true, false, ◌&&◌, ◌==◌, nat_lt, if◌then◌else◌, List, [], ◌∷◌, ◌++◌, length, get_or, take, drop, drop-cons, length-append, Result, Ok, Err, arith}
use Rattle.std.specs.Prelude.{OnOk}
use Rattle.std.specs.List.{flat_map}
use Rattle.jfs_ranges.specs.declared.view.ViewError.{ViewError}
use Rattle.std.proofs.Math.Seq.{split_at, get_or-append_seam}
use Rattle.std.proofs.lemmas.Bool.{cases_lt, eqb-true, ltb-true, lt-ltb, and_parts, and_from}
use Rattle.jfs_bits.specs.declared.extent.Xad.{Xad}
use Rattle.jfs_inode.specs.declared.fields.Dinode.{Dinode}
use Rattle.jfs_tree.specs.Walk.{Node, Marks}
use Rattle.jfs_tree.specs.Spells.{no_page, with_root, tree_of, spells}
use Rattle.jfs_tree.specs.Levels.{entry_count, pages_below, level, IsThinIn}
use Rattle.jfs_tree.specs.Form.{AllBelow}
use Rattle.jfs_tree.specs.Fresh.{HasPages}
use Rattle.jfs_tree.proofs.Tops.{root_else}
use Rattle.jfs_xtpage.specs.declared.head.XtForm.TheVariants as forms
use Rattle.jfs_xtree.specs.Node.{xt_scale, xt_node}
use Rattle.jfs_xtree.specs.Spells.{page_nodes}
use Rattle.jfs_xtree.proofs.Adds.{has_pages}
use Rattle.jfs_owners.specs.objects.specs.Objects.{has_extents, extents_of, listed, spelled}
use Rattle.jfs_owners.specs.meaning.specs.Readers.{readers, root_of}
use Rattle.jfs_owners.specs.mount_rules.specs.Subject.{page_named}
use Rattle.jfs_owners.specs.findings.specs.Gains.{Gains}
use Rattle.jfs_owners.specs.findings.specs.declared.finding.Finding.{Finding}
use Rattle.jfs_owners.specs.findings.specs.declared.finding.FindingKind.TheVariants as kinds
use Rattle.jfs_object_check.specs.Steps.{Only}
use Rattle.jfs_object_check.specs.Thin.{IsThinOf}
use Rattle.jfs_object_check.specs.Lines.{Tells, IsThinOn, IsThinAbove, tree_nodes}
use Rattle.jfs_object_check.proofs.Found.{gains_none, gains_as, gains_both}
use Rattle.jfs_object_check.proofs.Beside.{below_at, level_below, root_level, next_level, same_below}
use Rattle.jfs_object_check.proofs.Bottom.{eight_levels}

-- ---- page by page

pub one_thin : {P E : Type 0} (nodes : ℕ → Node P E) (n : ℕ) (line : List ℕ) (i page count value behind : ℕ) (thin : Bool) (f0 f1 f2 : List Finding) → page ≡ get_or line i 0 → count ≡ entry_count (nodes page)
    → thin ≡ (nat_lt count 64 && nat_lt 0 behind) → behind + (i + 1) ≡ length line → value ≡ n
    → Gains (Tells n (IsThinOn nodes line i)) f0 f1 → Gains (Only kinds.Thin page value (thin ≡ true)) f1 f2 → Gains (Tells n (IsThinOn nodes line (i + 1))) f0 f2
one_thin nodes n line i page count value behind thin f0 f1 f2 at counted is last v g h =
    gains_as {p = λ f. Tells n (IsThinOn nodes line i) f ⊎ Only kinds.Thin page value (thin ≡ true) f} {q = Tells n (IsThinOn nodes line (i + 1))} to from (gains_both g h)
  where
    to : (f : Finding) → Tells n (IsThinOn nodes line i) f ⊎ Only kinds.Thin page value (thin ≡ true) f → Tells n (IsThinOn nodes line (i + 1)) f
    to f (inl t) = let l = t.2.1 in (t.0, t.1, (t.2.0, omega (arith, l), t.2.2))
    to f (inr o) =
        let both = and_parts (nat_lt count 64) (nat_lt 0 behind) (sym is ∙ o.3) in
        let few = ltb-true count 64 both.0 in
        let more = ltb-true 0 behind both.1 in
        (o.0, o.2 ∙ v, (i, omega arith, (omega (arith, more, last), o.1 ∙ at, subst (λ p. entry_count (nodes p) < 64) (sym o.1) (omega (arith, few, counted)))))

    from : (f : Finding) → Tells n (IsThinOn nodes line (i + 1)) f → Tells n (IsThinOn nodes line i) f ⊎ Only kinds.Thin page value (thin ≡ true) f
    from f t =
        let l = t.2.1 in
        elim (cases_lt t.2.0 i) [
          | inl w ↦ inl (t.0, t.1, (t.2.0, w, t.2.2))
          | inr w ↦
              let here : t.2.0 ≡ i = omega (arith, l, w) in
              let on : f.page ≡ page = t.2.2.1 ∙ ap (λ j. get_or line j 0) here ∙ sym at in
              let few : entry_count (nodes page) < 64 = subst (λ p. entry_count (nodes p) < 64) on t.2.2.2 in
              let more = t.2.2.0 in
              inr (t.0, on, t.1 ∙ sym v, is ∙ and_from (nat_lt count 64) (nat_lt 0 behind) (lt-ltb count 64 (omega (arith, few, counted))) (lt-ltb 0 behind (omega (arith, more, here, last))))
        ]

-- ---- level by level

module _ {P E : Type 0} (root : Node P E) (pages : ℕ → Node P E) (b : ℕ) (w : b ≤ no_page) where
  not_root : (line : List ℕ) (j page : ℕ) → AllBelow b line → suc j < length line → page ≡ get_or line j 0 → with_root root pages page ≡ pages page
  not_root line j page h l at = root_else root pages page (λ e. let k = below_at b j line h (omega (arith, l)) in absurd (omega (arith, k, e, at, w)))

  on_tree : (line : List ℕ) (i page : ℕ) → AllBelow b line → IsThinOn pages line i page → IsThinOn (with_root root pages) line i page
  on_tree line i page h t = let a = t.2 in (t.0, t.1, (a.0, a.1, subst (λ (node : Node P E). entry_count node < 64) (sym (not_root line t.0 page h a.0 a.1)) a.2))

  off_tree : (line : List ℕ) (i page : ℕ) → AllBelow b line → IsThinOn (with_root root pages) line i page → IsThinOn pages line i page
  off_tree line i page h t = let a = t.2 in (t.0, t.1, (a.0, a.1, subst (λ (node : Node P E). entry_count node < 64) (not_root line t.0 page h a.0 a.1) a.2))

  abbrev At : ℕ → List ℕ → Type 0
  At page line = IsThinOn (with_root root pages) line (length line) page

  pub one_level : (n d e : ℕ) (line : List ℕ) (f0 f1 f2 : List Finding) → AllBelow b line → line ≡ level (with_root root pages) d → e ≡ suc d
      → Gains (Tells n (IsThinAbove (with_root root pages) d)) f0 f1 → Gains (Tells n (IsThinOn pages line (length line))) f1 f2 → Gains (Tells n (IsThinAbove (with_root root pages) e)) f0 f2
  one_level n d e line f0 f1 f2 below is next g h =
      gains_as {p = λ f. Tells n (IsThinAbove (with_root root pages) d) f ⊎ Tells n (IsThinOn pages line (length line)) f} {q = Tells n (IsThinAbove (with_root root pages) e)} to from (gains_both g h)
    where
      to : (f : Finding) → Tells n (IsThinAbove (with_root root pages) d) f ⊎ Tells n (IsThinOn pages line (length line)) f → Tells n (IsThinAbove (with_root root pages) e) f
      to f (inl t) = let l = t.2.1 in (t.0, t.1, (t.2.0, omega (arith, l, next), t.2.2))
      to f (inr t) = (t.0, t.1, (d, omega (arith, next), subst (At f.page) is (on_tree line (length line) f.page below t.2)))

      from : (f : Finding) → Tells n (IsThinAbove (with_root root pages) e) f → Tells n (IsThinAbove (with_root root pages) d) f ⊎ Tells n (IsThinOn pages line (length line)) f
      from f t =
          let l = t.2.1 in
          elim (cases_lt t.2.0 d) [
            | inl k ↦ inl (t.0, t.1, (t.2.0, k, t.2.2))
            | inr k ↦ inr (t.0, t.1, off_tree line (length line) f.page below (subst (At f.page) (ap (level (with_root root pages)) (omega (arith, l, k, next)) ∙ sym is) t.2.2))
          ]

-- the level below a level
pub level_more : {P E : Type 0} (root : Node P E) (pages : ℕ → Node P E) (b d e : ℕ) (line below : List ℕ) → b ≤ no_page → AllBelow b line → line ≡ level (with_root root pages) d → e ≡ suc d
    → below ≡ flat_map (λ n. pages_below (pages n)) line → below ≡ level (with_root root pages) e
level_more root pages b d e line below w all at next is =
    is ∙ same_below root pages b line w all ∙ ap (flat_map (λ n. pages_below (with_root root pages n))) at ∙ sym (next_level (with_root root pages) d) ∙ ap (level (with_root root pages)) (sym next)

-- the root stands alone
pub root_alone : {P E : Type 0} (nodes : ℕ → Node P E) (n : ℕ) (fs : List Finding) → Gains (Tells n (IsThinAbove nodes 1)) fs fs
root_alone nodes n fs = gains_none (Tells n (IsThinAbove nodes 1)) fs (λ f h.
    let l = h.2.1 in
    let at : h.2.0 ≡ 0 = omega (arith, l) in
    let more = h.2.2.2.0 in
    let one = ap length (ap (level nodes) at ∙ root_level nodes) in
    omega (arith, more, one))

-- ---- the whole tree

named : (at n : ℕ) → n ≢ no_page → page_named at n ≡ n
named at n ne = by (n == no_page) refl
  where
    by : (b : Bool) → (n == no_page) ≡ b → (if b then at else n) ≡ n
    by true e = absurd (ne (eqb-true n no_page e))
    by false e = refl

tree_has : (blocks : ℕ) (page : ℕ → List ℕ) (root : List ℕ) (n : ℕ) → HasPages blocks (tree_nodes blocks page root n)
tree_has blocks page root n = by (n == no_page)
  where
    by : (b : Bool) → HasPages blocks (if b then xt_node forms.Root blocks root else page_nodes blocks page n)
    by true = has_pages forms.Root blocks root
    by false = has_pages forms.Full blocks (page n)

-- a page that isn't the last of its level isn't the root
in_level : {P E : Type 0} (b : ℕ) (nodes : ℕ → Node P E) → ((n : ℕ) → HasPages b (nodes n)) → (d j : ℕ) → suc j < length (level nodes d) → get_or (level nodes d) j 0 < b
in_level b nodes has zero j l = let one = ap length (root_level nodes) in absurd (omega (arith, l, one))
in_level b nodes has (suc d) j l = below_at b j (level nodes (suc d)) (level_below b nodes has d) (omega (arith, l))

module _ (blocks : ℕ) (page : ℕ → List ℕ) (d : Dinode) (has : has_extents d ≡ true) (es : List Xad) (sound : listed xt_scale (extents_of (readers blocks) page d) ≡ Ok es) (w : blocks ≤ no_page) where
  nodes : ℕ → Node ℕ Xad
  nodes = tree_nodes blocks page (root_of d)

  is_spelled : spells xt_scale (page_nodes blocks page) (xt_node forms.Root blocks (root_of d)) ≡ Ok es
  unfolding spells
  is_spelled = by (has_extents d) has sound
    where
      ms : Marks ℕ Xad
      ms = tree_of xt_scale (page_nodes blocks page) (xt_node forms.Root blocks (root_of d))

      by : (b : Bool) → b ≡ true → listed xt_scale (if b then ms else []) ≡ Ok es → listed xt_scale ms ≡ Ok es
      by true e h = h
      by false e h = absurd (cc e)

  to_thin : (page : ℕ) → IsThinAbove nodes 8 page → IsThinIn nodes page × (page ≢ no_page)
  unfolding nodes
  to_thin p t =
      let line = level nodes t.0 in
      let j = t.2.0 in
      let a = t.2.2 in
      let more = a.0 in
      let within = in_level blocks nodes (tree_has blocks page (root_of d)) t.0 j a.0 in
      let at = a.1 in (
        record {
          depth = t.0;
          front = take j line;
          next = get_or line (suc j) 0;
          back = drop (suc (suc j)) line;
          stands = split_at line j 0 (omega (arith, more)) ∙ ap (λ l. take j line ++ get_or line j 0 ∷ l) (drop-cons line (suc j) 0 more) ∙ ap (λ q. take j line ++ q ∷ get_or line (suc j) 0 ∷ drop (suc (suc j)) line) (sym at);
          few = a.2;
        },
        (λ e. absurd (omega (arith, within, e, at, w))),
      )

  of_thin : (page : ℕ) → IsThinIn nodes page → IsThinAbove nodes 8 page × (page ≢ no_page)
  unfolding nodes
  of_thin p t =
      let line = level nodes t.depth in
      let j = length t.front in
      let long = ap length t.stands in
      let sum = length-append t.front (p ∷ t.next ∷ t.back) in
      let more : suc j < length line = omega (arith, long, sum) in
      let at : p ≡ get_or line j 0 = sym (ap (λ l. get_or l j 0) t.stands ∙ get_or-append_seam t.front p (t.next ∷ t.back) 0) in
      let within = in_level blocks nodes (tree_has blocks page (root_of d)) t.depth j more in
      let least : t.depth < 8 = elim (cases_lt t.depth 8) [
        | inl l ↦ l
        | inr l ↦ (let none = ap length (eight_levels xt_scale (page_nodes blocks page) (xt_node forms.Root blocks (root_of d)) es t.depth is_spelled l) in absurd (omega (arith, none, more)))
      ] in
      ((t.depth, least, (j, omega (arith, more), (more, at, t.few))), (λ e. absurd (omega (arith, within, e, at, w))))

  thin_found : (n at : ℕ) (root : List ℕ) (old new : List Finding) → root ≡ root_of d → Gains (Tells n (IsThinAbove (tree_nodes blocks page root) 8)) old new
      → Gains (IsThinOf (readers blocks) page n at (spelled (readers blocks) page d)) old new
  unfolding spelled nodes
  thin_found n at root old new is g =
      gains_as {p = Tells n (IsThinAbove nodes 8)} {q = IsThinOf (readers blocks) page n at (spelled (readers blocks) page d)}
      (λ f h. let t = to_thin f.page h.2 in (h.0, h.1, record { has = has; extents = es; sound = sound; tree_page = f.page; thin = t.0; on = sym (named at f.page t.1) }))
      (λ f h. let s = h.2 in let t = of_thin s.tree_page s.thin in (h.0, h.1, subst (IsThinAbove nodes 8) (sym (s.on ∙ named at s.tree_page t.1)) t.0))
      (subst (λ r. Gains (Tells n (IsThinAbove (tree_nodes blocks page r) 8)) old new) is g)

  -- the same, where a call may have failed
  pub thin_seen : {T : Type 0} (n at : ℕ) (root : List ℕ) (r : Result T ViewError) (old new : List Finding) → root ≡ root_of d → OnOk r (Gains (Tells n (IsThinAbove (tree_nodes blocks page root) 8)) old new)
      → OnOk r (Gains (IsThinOf (readers blocks) page n at (spelled (readers blocks) page d)) old new)
  thin_seen n at root (Ok it) old new is g = thin_found n at root old new is g
  thin_seen n at root (Err e) old new is g = tt

-- ---- an inode without extents

pub no_extents : (blocks n at : ℕ) (page : ℕ → List ℕ) (d : Dinode) (fs : List Finding) → has_extents d ≡ false → Gains (IsThinOf (readers blocks) page n at (spelled (readers blocks) page d)) fs fs
unfolding spelled
no_extents blocks n at page d fs none = gains_none (IsThinOf (readers blocks) page n at (spelled (readers blocks) page d)) fs (λ f h. let s = h.2 in let e = sym none ∙ s.has in cc e)
