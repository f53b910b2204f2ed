-- All that is found of an object.
use Rattle.std.proofs.Common.{◌≡◌, ◌≢◌, ◌⊎◌, inl, inr, refl, sym, ap, ◌∙◌, subst, ℕ, ◌+◌, ◌-◌, ◌<◌, ◌≤◌, Bool, true, false, ◌||◌, ◌==◌, nat_le, if◌then◌else◌, List, [], Option, Some, None, is_some, Result, Ok, Err, arith}
use Rattle.std.specs.List.{list_any}
use Rattle.std.specs.Int.RustNames.{bit_and}
use Rattle.std.proofs.lemmas.Bool.{true≢false, cases_lt, cases_eq, eq-eqb, ne_eqb, le-leb, lt-leb}
use Rattle.jfs_bits.specs.declared.descriptor.Pxd.{Pxd}
use Rattle.jfs_bits.specs.declared.extent.Dxd.{Dxd}
use Rattle.jfs_bits.specs.declared.extent.Xad.{Xad}
use Rattle.jfs_bits.specs.declared.rule.Rule.{Rule}
use Rattle.jfs_bits.specs.Broken.{first_broken}
use Rattle.jfs_inode.specs.declared.fields.Dinode.{Dinode}
use Rattle.jfs_inode.specs.Rules.{rows}
use Rattle.jfs_dtpage.specs.declared.head.DtForm.TheVariants as names
use Rattle.jfs_dtree.specs.Node.{name_scale, dt_node}
use Rattle.jfs_dtree.proofs.Roots as dt
use Rattle.jfs_xtree.specs.Node.{xt_scale}
use Rattle.jfs_tree.specs.Spells.{tree_of}
use Rattle.jfs_owners.specs.objects.specs.Objects.{Object, has_names, has_extents, names_of, extents_of, spelled, listed, met}
use Rattle.jfs_owners.specs.objects.specs.Owners.{unless_broken, entries, covers, run_has, tree_held}
use Rattle.jfs_owners.specs.meaning.specs.Readers.{readers, root_of}
use Rattle.jfs_owners.specs.findings.specs.Inodes.{pages_met, blocks_in, attribute_blocks, blocks_owned, is_past}
use Rattle.jfs_owners.specs.findings.specs.Blocks.{HasRun, of_trees, of_data, of_attributes, IsFirstPast}
use Rattle.jfs_owners.specs.findings.proofs.Runs.{in_run, covers_run, past_first}
use Rattle.jfs_owners.specs.findings.specs.Gains.{Gains}
use Rattle.jfs_owners.specs.findings.specs.declared.finding.Finding.{Finding}
use Rattle.jfs_owners.specs.findings.specs.declared.finding.FindingKind.{FindingKind}
use Rattle.jfs_owners.specs.findings.specs.declared.finding.FindingKind.TheVariants as kinds
use Rattle.jfs_object_check.proofs.Ends.{none_met, unless_zero, walk_in, pages_end, data_end}
use Rattle.jfs_object_check.specs.declared.tally.Tally.{Tally}
use Rattle.jfs_object_check.specs.Object.{SaysOf, IsOf}
use Rattle.jfs_object_check.specs.Tally.{less, is_met, tally_of, with_pages, with_tree}
use Rattle.jfs_object_check.specs.Steps.{Only, IsBroken, IsBehind}
use Rattle.jfs_object_check.proofs.Counted.{less_both}
use Rattle.jfs_object_check.proofs.Found.{gains_as, gains_both}
use Rattle.std.specs.Prelude.{OnOk, not}

-- ---- the number of blocks

met_at : (n k : ℕ) → is_met (less (Some n) k) ≡ (n == k)
met_at n k = elim (cases_lt n k) [
  | inl l ↦ ap is_met (other (nat_le k n) (Some (n - k)) None (lt-leb k n l)) ∙ sym (ne_eqb n k (λ e. omega (arith, l, e)))
  | inr l ↦ ap is_met (chosen (nat_le k n) (Some (n - k)) None (le-leb k n l)) ∙ by (cases_eq n k) l
]
  where
    chosen : {A : Type 0} (b : Bool) (x y : A) → b ≡ true → (if b then x else y) ≡ x
    chosen true x y h = refl
    chosen false x y h = absurd (cc h)

    other : {A : Type 0} (b : Bool) (x y : A) → b ≡ false → (if b then x else y) ≡ y
    other true x y h = absurd (cc h)
    other false x y h = refl

    by : (n ≡ k) ⊎ (n ≢ k) → k ≤ n → ((n - k) == 0) ≡ (n == k)
    by (inl e) l = eq-eqb (n - k) 0 (omega (arith, e)) ∙ sym (eq-eqb n k e)
    by (inr d) l = ne_eqb (n - k) 0 (λ z. d (omega (arith, z, l))) ∙ sym (ne_eqb n k d)

module _ (r : Result (List Xad) (ℕ × Rule)) where
  -- what is left after all that an object owns
  pub left_is : (n a b c d : ℕ) → less (less (less (less (Some n) a) (b + blocks_in (entries r))) c) d ≡ less (Some n) (a + b + blocks_in (entries r) + c + d)
  left_is n a b c d =
      ap (λ o. less (less o c) d) (less_both (Some n) a (b + blocks_in (entries r)))
      ∙ ap (λ o. less o d) (less_both (Some n) (a + (b + blocks_in (entries r))) c)
      ∙ less_both (Some n) (a + (b + blocks_in (entries r)) + c) d
      ∙ ap (less (Some n)) (let e : a + (b + blocks_in (entries r)) + c + d ≡ a + b + blocks_in (entries r) + c + d = omega arith in e)

-- ---- blocks behind the end

nothing : (x : Bool) → (let n : ℕ = (if x then 0 else 0) in n) ≡ 0
nothing true = refl
nothing false = refl

names_end : (blocks : ℕ) (page : ℕ → List ℕ) (d : Dinode) (b : ℕ) → blocks ≤ b → met (names_of (readers blocks) page d) b ≡ 0
names_end blocks page d b w = by (has_names d)
  where
    by : (x : Bool) → met (if x then tree_of name_scale (λ n. dt_node names.Full blocks (page n)) (dt_node names.Root blocks (root_of d)) else []) b ≡ 0
    by true = none_met name_scale (λ n. dt_node names.Full blocks (page n)) (dt_node names.Root blocks (root_of d)) b blocks (dt.has_pages names.Root blocks (root_of d)) (λ m. dt.has_pages names.Full blocks (page m)) w
    by false = nothing (b == 4294967295)

extents_end : (blocks : ℕ) (page : ℕ → List ℕ) (d : Dinode) (b : ℕ) → blocks ≤ b
    → (unless_broken (listed xt_scale (extents_of (readers blocks) page d)) (met (extents_of (readers blocks) page d) b) ≡ 0) × (covers b (entries (listed xt_scale (extents_of (readers blocks) page d))) ≡ 0)
extents_end blocks page d b w = by (has_extents d)
  where
    by : (x : Bool) → (unless_broken (listed xt_scale (if x then walk_in blocks page d else [])) (met (if x then walk_in blocks page d else []) b) ≡ 0) × (covers b (entries (listed xt_scale (if x then walk_in blocks page d else []))) ≡ 0)
    by true = (pages_end blocks page d b w, data_end blocks page d b w)
    by false = (nothing (b == 4294967295), refl)

-- behind the end an object has neither pages nor data
trees_end : (blocks : ℕ) (page : ℕ → List ℕ) (d : Dinode) (b : ℕ) → blocks ≤ b → tree_held (readers blocks) (spelled (readers blocks) page d) b ≡ 0
unfolding spelled
trees_end blocks page d b w =
    let n = unless_zero (listed name_scale (names_of (readers blocks) page d)) (met (names_of (readers blocks) page d) b) (names_end blocks page d b w) in
    let e = (extents_end blocks page d b w).0 in
    omega (arith, n, e)

no_data_past : (blocks : ℕ) (page : ℕ → List ℕ) (d : Dinode) (b : ℕ) → blocks ≤ b → covers b (entries (listed xt_scale (spelled (readers blocks) page d).extents)) ≡ 0
unfolding spelled
no_data_past blocks page d b w = (extents_end blocks page d b w).1

-- ---- all kinds

some_is : {A : Type 0} (o : Option A) → is_some o ≡ true → (a : A) × (o ≡ Some a)
some_is (Some a) h = (a, refl)
some_is None h = absurd (cc h)

is_some_at : {A : Type 0} (o : Option A) (a : A) → o ≡ Some a → is_some o ≡ true
is_some_at o a e = ap is_some e

module _ (blocks : ℕ) (page : ℕ → List ℕ) (n at : ℕ) (d : Dinode) where
  abbrev o : Object
  o = spelled (readers blocks) page d

  -- all that the steps found
  abbrev Steps : Bool → Bool → Finding → Type 0
  Steps met past f = Only kinds.Inode at n (is_some (first_broken (rows d n)) ≡ true) f
      ⊎ (IsBroken kinds.Dtree name_scale (names_of (readers blocks) page d) at f
      ⊎ (IsBroken kinds.Xtree xt_scale (extents_of (readers blocks) page d) at f
      ⊎ ((IsBehind blocks at d.acl f ⊎ IsBehind blocks at d.ea f) ⊎ (Only kinds.Nblocks at n (met ≡ false) f ⊎ Only kinds.Past at n (past ≡ true) f))))

  module _ (met past : Bool) (met_is : met ≡ (d.nblocks == blocks_owned (readers blocks) o)) (past_is : past ≡ is_past (readers blocks) o) where
    told : (f : Finding) (kind : FindingKind) → f.kind ≡ kind → SaysOf (readers blocks) blocks page n at o kind f.page f.value → IsOf (readers blocks) blocks page n at o f
    told f kind e h = subst (λ k. SaysOf (readers blocks) blocks page n at o k f.page f.value) (sym e) h

    behind : (f : Finding) (x : Dxd) → (x ≡ o.inode.acl) ⊎ (x ≡ o.inode.ea) → IsBehind blocks at x f → IsOf (readers blocks) blocks page n at o f
    behind f x of h = told f kinds.Outside h.0 (h.1, x.at, of_attributes x of h.2 refl, h.3)

    to : (f : Finding) → Steps met past f → IsOf (readers blocks) blocks page n at o f
    unfolding spelled
    to f (inl h) = told f kinds.Inode h.0 (h.1, h.2, some_is (first_broken (rows d n)) h.3)
    to f (inr (inl h)) = told f kinds.Dtree h.0 (h.1, h.2)
    to f (inr (inr (inl h))) = told f kinds.Xtree h.0 (h.1, h.2)
    to f (inr (inr (inr (inl (inl h))))) = behind f d.acl (inl refl) h
    to f (inr (inr (inr (inl (inr h))))) = behind f d.ea (inr refl) h
    to f (inr (inr (inr (inr (inl h))))) = told f kinds.Nblocks h.0 (h.1, h.2, λ e. true≢false (sym (eq-eqb d.nblocks (blocks_owned (readers blocks) o) e) ∙ sym met_is ∙ h.3))
    to f (inr (inr (inr (inr (inr h))))) = told f kinds.Past h.0 (h.1, h.2, sym past_is ∙ h.3)

    -- only a run of attributes reaches behind the end
    outside : (p v : ℕ) → p ≡ at → (run : Pxd) → HasRun (readers blocks) o run → IsFirstPast blocks run v → Steps met past (record { kind = kinds.Outside; page = p; value = v })
    unfolding spelled
    outside p v p_is run (of_trees held one) first =
        let t = past_first blocks run v first in
        let w = t.0 in
        let l = in_run run v t.1 in
        let low = l.0 in
        let high = l.1 in
        let none = trees_end blocks page d run.addr (omega (arith, w, low, high, one)) in
        absurd (omega (arith, held, none))
    outside p v p_is run (of_data e among is) first =
        let t = past_first blocks run v first in
        let some = covers_run v (entries (listed xt_scale o.extents)) e among (subst (λ (q : Pxd). 0 < run_has q v) is t.1) in
        let none = no_data_past blocks page d v t.0 in
        absurd (omega (arith, some, none))
    outside p v p_is run (of_attributes x (inl is) bit run_is) first =
        inr (inr (inr (inl (inl (refl, p_is, subst (λ (y : Dxd). bit_and y.flag 0x20 ≡ 0x20) is bit, subst (λ (q : Pxd). IsFirstPast blocks q v) (run_is ∙ ap (λ (y : Dxd). y.at) is) first)))))
    outside p v p_is run (of_attributes x (inr is) bit run_is) first =
        inr (inr (inr (inl (inr (refl, p_is, subst (λ (y : Dxd). bit_and y.flag 0x20 ≡ 0x20) is bit, subst (λ (q : Pxd). IsFirstPast blocks q v) (run_is ∙ ap (λ (y : Dxd). y.at) is) first)))))

    from_kind : (kind : FindingKind) (p v : ℕ) → SaysOf (readers blocks) blocks page n at o kind p v → Steps met past (record { kind = kind; page = p; value = v })
    unfolding spelled
    from_kind kinds.Aggregate p v h = absurd h
    from_kind kinds.Iag p v h = absurd h
    from_kind kinds.Inode p v h = inl (refl, h.0, h.1, is_some_at (first_broken (rows d n)) h.2.0 h.2.1)
    from_kind kinds.Xtree p v h = inr (inr (inl (refl, h.0, h.1)))
    from_kind kinds.Dtree p v h = inr (inl (refl, h.0, h.1))
    from_kind kinds.Shared p v h = absurd h
    from_kind kinds.Outside p v h = outside p v h.0 h.1 h.2 h.3
    from_kind kinds.Name p v h = absurd h
    from_kind kinds.Links p v h = absurd h
    from_kind kinds.Parent p v h = absurd h
    from_kind kinds.Nblocks p v h = inr (inr (inr (inr (inl (refl, h.0, h.1, met_is ∙ ne_eqb d.nblocks (blocks_owned (readers blocks) o) h.2)))))
    from_kind kinds.Past p v h = inr (inr (inr (inr (inr (refl, h.0, h.1, past_is ∙ h.2)))))
    from_kind kinds.Thin p v h = absurd h
    from_kind kinds.Map p v h = absurd h
    from_kind kinds.Bmap p v h = absurd h

    pub all_found : (old new : List Finding) → Gains (Steps met past) old new → Gains (IsOf (readers blocks) blocks page n at o) old new
    all_found old new g = gains_as to (λ f h. from_kind f.kind f.page f.value h) g

-- ---- step by step

pub then_found : {T E : Type 0} {p : Finding → Type 0} (q : Finding → Type 0) {a b : List Finding} (c : List Finding) (r : Result T E) → Gains p a b → OnOk r (Gains q b c) → OnOk r (Gains (λ f. p f ⊎ q f) a c)
then_found q c (Ok it) g h = gains_both g h
then_found q c (Err e) g h = tt

pub found_as : {T E : Type 0} {p q : Finding → Type 0} (a b : List Finding) (r : Result T E) → ((f : Finding) → p f → q f) → ((f : Finding) → q f → p f) → OnOk r (Gains p a b) → OnOk r (Gains q a b)
found_as a b (Ok it) to from g = gains_as to from g
found_as a b (Err e) to from g = tt

pub not_true : (b : Bool) → not b ≡ true → b ≡ false
not_true true h = absurd (cc h)
not_true false h = refl

module _ {T E : Type 0} (blocks n at : ℕ) (d : Dinode) (met past miscounts : Bool) (is : miscounts ≡ not met) where
  -- what the counts tell
  pub counts_found : {f0 f1 f2 f3 : List Finding} (f4 : List Finding) (r : Result T E) → Gains (IsBehind blocks at d.acl) f0 f1 → Gains (IsBehind blocks at d.ea) f1 f2 → Gains (Only kinds.Nblocks at n (miscounts ≡ true)) f2 f3 → OnOk r (Gains (Only kinds.Past at n (past ≡ true)) f3 f4)
      → OnOk r (Gains (λ f. (IsBehind blocks at d.acl f ⊎ IsBehind blocks at d.ea f) ⊎ (Only kinds.Nblocks at n (met ≡ false) f ⊎ Only kinds.Past at n (past ≡ true) f)) f0 f4)
  counts_found {f0} {f1} {f2} {f3} f4 r a b c e = found_as {q = λ f. (IsBehind blocks at d.acl f ⊎ IsBehind blocks at d.ea f) ⊎ (Only kinds.Nblocks at n (met ≡ false) f ⊎ Only kinds.Past at n (past ≡ true) f)} f0 f4 r to from (then_found (Only kinds.Past at n (past ≡ true)) f4 r (gains_both (gains_both a b) c) e)
    where
      to : (f : Finding) → ((IsBehind blocks at d.acl f ⊎ IsBehind blocks at d.ea f) ⊎ Only kinds.Nblocks at n (miscounts ≡ true) f) ⊎ Only kinds.Past at n (past ≡ true) f → (IsBehind blocks at d.acl f ⊎ IsBehind blocks at d.ea f) ⊎ (Only kinds.Nblocks at n (met ≡ false) f ⊎ Only kinds.Past at n (past ≡ true) f)
      to f (inl (inl h)) = inl h
      to f (inl (inr h)) = inr (inl (h.0, h.1, h.2, not_true met (sym is ∙ h.3)))
      to f (inr h) = inr (inr h)

      from : (f : Finding) → (IsBehind blocks at d.acl f ⊎ IsBehind blocks at d.ea f) ⊎ (Only kinds.Nblocks at n (met ≡ false) f ⊎ Only kinds.Past at n (past ≡ true) f) → ((IsBehind blocks at d.acl f ⊎ IsBehind blocks at d.ea f) ⊎ Only kinds.Nblocks at n (miscounts ≡ true) f) ⊎ Only kinds.Past at n (past ≡ true) f
      from f (inl h) = inl (inl h)
      from f (inr (inl h)) = inl (inr (h.0, h.1, h.2, is ∙ ap not h.3))
      from f (inr (inr h)) = inr h

module _ (blocks : ℕ) (page : ℕ → List ℕ) (n at : ℕ) (d : Dinode) (t0 t1 t2 : Tally) (e0 : t0 ≡ tally_of d)
    (e1 : t1 ≡ with_pages (unless_broken (listed name_scale (names_of (readers blocks) page d)) (pages_met (names_of (readers blocks) page d))) t0)
    (e2 : t2 ≡ with_tree (unless_broken (listed xt_scale (extents_of (readers blocks) page d)) (pages_met (extents_of (readers blocks) page d))) (entries (listed xt_scale (extents_of (readers blocks) page d))) t1) where
  abbrev names_own : ℕ
  names_own = unless_broken (listed name_scale (names_of (readers blocks) page d)) (pages_met (names_of (readers blocks) page d))

  abbrev extents_own : ℕ
  extents_own = unless_broken (listed xt_scale (extents_of (readers blocks) page d)) (pages_met (extents_of (readers blocks) page d))

  abbrev all_extents : Result (List Xad) (ℕ × Rule)
  all_extents = listed xt_scale (extents_of (readers blocks) page d)

  left_all : t2.left ≡ less (less (Some d.nblocks) names_own) (extents_own + blocks_in (entries all_extents))
  left_all = ap (λ (t : Tally). t.left) e2 ∙ ap (λ (t : Tally). less t.left (extents_own + blocks_in (entries all_extents))) e1 ∙ ap (λ (t : Tally). less (less t.left names_own) (extents_own + blocks_in (entries all_extents))) e0

  met_all : is_met (less (less t2.left (attribute_blocks d.acl)) (attribute_blocks d.ea)) ≡ (d.nblocks == blocks_owned (readers blocks) (spelled (readers blocks) page d))
  unfolding spelled
  met_all = ap (λ l. is_met (less (less l (attribute_blocks d.acl)) (attribute_blocks d.ea))) left_all
      ∙ ap is_met (left_is all_extents d.nblocks names_own extents_own (attribute_blocks d.acl) (attribute_blocks d.ea))
      ∙ met_at d.nblocks (names_own + extents_own + blocks_in (entries all_extents) + attribute_blocks d.acl + attribute_blocks d.ea)

  past_all : t2.past ≡ is_past (readers blocks) (spelled (readers blocks) page d)
  unfolding spelled
  past_all = ap (λ (t : Tally). t.past) e2 ∙ ap (λ (t : Tally). t.past || list_any (λ e. nat_le t.end e.offset) (entries all_extents)) (e1 ∙ ap (with_pages names_own) e0)

  pub object_found : {f0 f1 f2 f3 f4 : List Finding} (breaks : Bool) → breaks ≡ is_some (first_broken (rows d n))
      → Gains (Only kinds.Inode at n (breaks ≡ true)) f0 f1 → Gains (IsBroken kinds.Dtree name_scale (names_of (readers blocks) page d) at) f1 f2 → Gains (IsBroken kinds.Xtree xt_scale (extents_of (readers blocks) page d) at) f2 f3
      → Gains (λ f. (IsBehind blocks at d.acl f ⊎ IsBehind blocks at d.ea f) ⊎ (Only kinds.Nblocks at n (is_met (less (less t2.left (attribute_blocks d.acl)) (attribute_blocks d.ea)) ≡ false) f ⊎ Only kinds.Past at n (t2.past ≡ true) f)) f3 f4
      → Gains (IsOf (readers blocks) blocks page n at (spelled (readers blocks) page d)) f0 f4
  object_found {f0 = f0} {f1 = f1} {f4 = f4} breaks is a b c g =
      all_found blocks page n at d (is_met (less (less t2.left (attribute_blocks d.acl)) (attribute_blocks d.ea))) t2.past met_all past_all f0 f4
      (gains_both (subst (λ x. Gains (Only kinds.Inode at n (x ≡ true)) f0 f1) is a) (gains_both b (gains_both c g)))

-- ---- over views that keep their pages

abbrev Pages : Type 0
Pages = ℕ → List ℕ

pub moved : (P : ℕ → Pages → Type 0) (b c : ℕ) (p q : Pages) → c ≡ b → q ≡ p → P c q → P b p
moved P b c p q e f h = subst (λ x. P x p) e (subst (P c) f h)

pub object_seen : {f0 f1 f2 f3 f4 : List Finding} (blocks b1 k : ℕ) (page p1 : Pages) (n at : ℕ) (d : Dinode) (t0 t1 t2 : Tally) (breaks : Bool)
    → b1 ≡ blocks → p1 ≡ page → k ≡ blocks → t0 ≡ tally_of d → breaks ≡ is_some (first_broken (rows d n))
    → t1 ≡ with_pages (unless_broken (listed name_scale (names_of (readers blocks) page d)) (pages_met (names_of (readers blocks) page d))) t0
    → t2 ≡ with_tree (unless_broken (listed xt_scale (extents_of (readers b1) p1 d)) (pages_met (extents_of (readers b1) p1 d))) (entries (listed xt_scale (extents_of (readers b1) p1 d))) t1
    → Gains (Only kinds.Inode at n (breaks ≡ true)) f0 f1 → Gains (IsBroken kinds.Dtree name_scale (names_of (readers blocks) page d) at) f1 f2 → Gains (IsBroken kinds.Xtree xt_scale (extents_of (readers b1) p1 d) at) f2 f3
    → Gains (λ f. (IsBehind k at d.acl f ⊎ IsBehind k at d.ea f) ⊎ (Only kinds.Nblocks at n (is_met (less (less t2.left (attribute_blocks d.acl)) (attribute_blocks d.ea)) ≡ false) f ⊎ Only kinds.Past at n (t2.past ≡ true) f)) f3 f4
    → Gains (IsOf (readers blocks) blocks page n at (spelled (readers blocks) page d)) f0 f4
object_seen {f0 = f0} {f1 = f1} {f2 = f2} {f3 = f3} {f4 = f4} blocks b1 k page p1 n at d t0 t1 t2 breaks same1 pages1 same_k e0 is e1 e2 a b c g =
    object_found blocks page n at d t0 t1 t2 e0 e1
    (moved (λ x q. t2 ≡ with_tree (unless_broken (listed xt_scale (extents_of (readers x) q d)) (pages_met (extents_of (readers x) q d))) (entries (listed xt_scale (extents_of (readers x) q d))) t1) blocks b1 page p1 same1 pages1 e2)
    breaks is a b
    (moved (λ x q. Gains (IsBroken kinds.Xtree xt_scale (extents_of (readers x) q d) at) f2 f3) blocks b1 page p1 same1 pages1 c)
    (subst (λ x. Gains (λ f. (IsBehind x at d.acl f ⊎ IsBehind x at d.ea f) ⊎ (Only kinds.Nblocks at n (is_met (less (less t2.left (attribute_blocks d.acl)) (attribute_blocks d.ea)) ≡ false) f ⊎ Only kinds.Past at n (t2.past ≡ true) f)) f3 f4) same_k g)
