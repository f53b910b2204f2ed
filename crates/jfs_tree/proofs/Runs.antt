-- Blocks of runs, a stack of them, and what is left of it.
use Rattle.std.proofs.Common.{◌≡◌, ◌<◌, refl, sym, ap, ◌∙◌, subst, ℕ, zero, suc, ◌+◌, ◌-◌, ◌==◌, if◌then◌else◌, List, [], ◌∷◌, ◌++◌, length, take, drop, get_or, append_assoc, arith}
use Rattle.std.specs.Prelude.{reverse}
use Rattle.std.proofs.lemmas.List.{append-nil, reverse-append, reverse-reverse, length-reverse, length-append, drop_at, take-append-drop}
use Rattle.std.proofs.lemmas.Grind.{take_at_read}
use Rattle.jfs_bits.specs.declared.descriptor.Pxd.{Pxd}
use Rattle.jfs_ranges.specs.declared.edit.Edit.{Edit}
use Rattle.jfs_ranges.specs.declared.edit.Edit.TheVariants.{Alloc}
use Rattle.jfs_ranges.specs.Apply.{apply_edit, apply_tx}
use Rattle.jfs_tree.specs.Edit.{count_in}
use Rattle.jfs_tree.specs.Form.{AllBelow, IsFront}
use Rattle.jfs_tree.specs.Tell.{TellsDraft, TellsThen}
use Rattle.jfs_tree.specs.declared.draft.Drafted.{Drafted}
use Rattle.jfs_disk.specs.Image.{Image}
use Rattle.jfs_tree.proofs.Taking.{taken_last}
use Rattle.jfs_tree.specs.Fresh.{run_from, blocks_of, allocs_of, TakenInOrder}

pub run_more : (a k : ℕ) → run_from a (k + 1) ≡ run_from a k ++ (a + k) ∷ []
run_more a k = ap (run_from a) (one k) ∙ by a k
  where
    one : (k : ℕ) → k + 1 ≡ suc k
    one k = omega arith

    next : (a k : ℕ) → suc a + k ≡ a + suc k
    next a k = omega arith

    here : (a : ℕ) → a ≡ a + zero
    here a = omega arith

    by : (a k : ℕ) → run_from a (suc k) ≡ run_from a k ++ (a + k) ∷ []
    by a zero = ap (λ n. n ∷ []) (here a)
    by a (suc k) = ap (λ xs. a ∷ xs) (by (suc a) k ∙ ap (λ n. run_from (suc a) k ++ n ∷ []) (next a k))

pub run_below : (b a n k : ℕ) → AllBelow b (run_from a n) → k < n → a + k < b
run_below b a zero k h l = absurd (omega (arith, l))
run_below b a (suc n) zero h l = (let w = h.0 in omega (arith, w))
run_below b a (suc n) (suc k) h l = let t = run_below b (suc a) n k h.1 (omega (arith, l)) in omega (arith, t)

pub below_parts : (b : ℕ) (xs ys : List ℕ) → AllBelow b (xs ++ ys) → AllBelow b xs × AllBelow b ys
below_parts b [] ys h = (tt, h)
below_parts b (x ∷ xs) ys h = let t = below_parts b xs ys h.1 in ((h.0, t.0), t.1)

pub below_at : (b : ℕ) (ps : List Pxd) (i : ℕ) (d : Pxd) → AllBelow b (blocks_of ps) → i < length ps → AllBelow b (run_from (get_or ps i d).addr (get_or ps i d).len)
below_at b [] i d h l = absurd (omega (arith, l))
below_at b (p ∷ ps) zero d h l = (below_parts b (run_from p.addr p.len) (blocks_of ps) h).0
below_at b (p ∷ ps) (suc i) d h l = below_at b ps i d (below_parts b (run_from p.addr p.len) (blocks_of ps) h).1 (omega (arith, l))

pub blocks_last : (ps : List Pxd) (p : Pxd) → blocks_of (ps ++ p ∷ []) ≡ blocks_of ps ++ run_from p.addr p.len
blocks_last [] p = append-nil (run_from p.addr p.len)
blocks_last (q ∷ ps) p = ap (λ xs. run_from q.addr q.len ++ xs) (blocks_last ps p) ∙ sym (append_assoc (run_from q.addr q.len) (blocks_of ps) (run_from p.addr p.len))

pub blocks_one : (ps : List Pxd) (n : ℕ) → blocks_of (ps ++ record { len = 1; addr = n } ∷ []) ≡ blocks_of ps ++ n ∷ []
blocks_one ps n = blocks_last ps (record { len = 1; addr = n })

allocs_last : (ns : List ℕ) (n : ℕ) → allocs_of (ns ++ n ∷ []) ≡ allocs_of ns ++ Alloc (record { len = 1; addr = n }) ∷ []
allocs_last [] n = refl
allocs_last (m ∷ ns) n = ap (λ es. Alloc (record { len = 1; addr = m }) ∷ es) (allocs_last ns n)

pub allocs_more : (old tx more : List Edit) (ns : List ℕ) (i d : ℕ) (p : Pxd) → tx ≡ old ++ allocs_of (take i ns) → i < length ns → p ≡ record { len = 1; addr = get_or ns i d } → more ≡ tx ++ Alloc p ∷ [] → more ≡ old ++ allocs_of (take (i + 1) ns)
allocs_more old tx more ns i d p h l is e =
    e ∙ ap (λ es. es ++ Alloc p ∷ []) h ∙ append_assoc old (allocs_of (take i ns)) (Alloc p ∷ []) ∙ ap (λ (q : Pxd). old ++ (allocs_of (take i ns) ++ Alloc q ∷ [])) is
    ∙ ap (λ es. old ++ es) (sym (allocs_last (take i ns) (get_or ns i d))) ∙ ap (λ xs. old ++ allocs_of xs) (sym (take_at_read ns i d l).1)

allocs_leave : (m : ℕ) (tx : List Edit) (ns content : List ℕ) → apply_tx m (tx ++ allocs_of ns) content ≡ apply_tx m tx content
allocs_leave m [] [] content = refl
allocs_leave m [] (n ∷ ns) content = allocs_leave m [] ns content
allocs_leave m (e ∷ tx) ns content = allocs_leave m tx ns (apply_edit m e content)

-- a draft is still told where pages are taken besides
pub told_still : (blocks : ℕ) (image : Image) (drafts : List Drafted) (tx copy later more : List Edit) (ns : List ℕ) → copy ≡ tx → more ≡ later ++ allocs_of ns → TellsDraft blocks image drafts copy later → TellsDraft blocks image drafts tx more
told_still blocks image drafts tx copy later more ns is e told = λ m h content l here. ap (λ es. apply_tx m es content) e ∙ allocs_leave m later ns content ∙ told m h content l (ap (λ es. apply_tx m es content) is ∙ here)

reverse_cons : (x : ℕ) (xs : List ℕ) → reverse (x ∷ xs) ≡ reverse xs ++ x ∷ []
reverse_cons x xs = reverse-append (x ∷ []) xs

pub below_reverse : (b : ℕ) (xs : List ℕ) → AllBelow b xs → AllBelow b (reverse xs)
below_reverse b [] h = h
below_reverse b (x ∷ xs) h = subst (AllBelow b) (sym (reverse_cons x xs)) (behind (reverse xs) (below_reverse b xs h.1))
  where
    behind : (ys : List ℕ) → AllBelow b ys → AllBelow b (ys ++ x ∷ [])
    behind [] g = (h.0, tt)
    behind (y ∷ ys) g = (g.0, behind ys g.1)

pub count_reverse : (n : ℕ) (xs : List ℕ) → count_in n (reverse xs) ≡ count_in n xs
count_reverse n [] = refl
count_reverse n (x ∷ xs) = taken_last (reverse (x ∷ xs)) (reverse xs) x (reverse_cons x xs) n ∙ ap (λ k. (if x == n then 1 else 0) + k) (count_reverse n xs)

-- what is left of a stack stands at the end of the blocks
left_over : (all stack left : List ℕ) → stack ≡ reverse all → IsFront left stack → drop (length all - length left) all ≡ reverse left
left_over all stack left is front =
    let whole : all ≡ reverse front.0 ++ reverse left = sym (reverse-reverse all) ∙ ap reverse (sym is ∙ front.1) ∙ reverse-append left front.0 in
    let a = length-append (reverse front.0) (reverse left) in
    let b = length-reverse left in
    let c = ap length whole in
    ap (λ k. drop k all) (let k : length all - length left ≡ length (reverse front.0) = omega (arith, a, b, c) in k) ∙ ap (drop (length (reverse front.0))) whole ∙ drop_at (reverse front.0) (reverse left) (length (reverse front.0)) refl

-- by the code's numbers
pub left_named : (all given stack left rest : List ℕ) (n : ℕ) → given ≡ all → n ≡ length left → stack ≡ reverse all → IsFront left stack → rest ≡ drop (length given - n) given → rest ≡ reverse left
left_named all given stack left rest n is_all is_n is front cut =
    cut ∙ ap (λ xs. drop (length xs - n) xs) is_all ∙ ap (λ k. drop (length all - k) all) is_n ∙ left_over all stack left is front

pub taken_named : (all given rest : List ℕ) (n : ℕ) (tx later : List Edit) → given ≡ all → rest ≡ drop n given → TellsThen (allocs_of (take n given)) tx later → TakenInOrder all rest tx later
taken_named all given rest n tx later is cut ends = (take n given, sym is ∙ sym (take-append-drop n given) ∙ ap (λ xs. take n given ++ xs) (sym cut), ends)

pub list_more : (ps more : List Pxd) (ns : List ℕ) (i d : ℕ) (p : Pxd) → blocks_of ps ≡ take i ns → i < length ns → p ≡ record { len = 1; addr = get_or ns i d } → more ≡ ps ++ p ∷ [] → blocks_of more ≡ take (i + 1) ns
list_more ps more ns i d p h l is e = ap blocks_of e ∙ ap (λ (q : Pxd). blocks_of (ps ++ q ∷ [])) is ∙ blocks_one ps (get_or ns i d) ∙ ap (λ xs. xs ++ get_or ns i d ∷ []) h ∙ sym (take_at_read ns i d l).1

pub runs_more : (ps : List Pxd) (i : ℕ) (d : Pxd) (all more : List ℕ) → i < length ps → all ≡ blocks_of (take i ps) → more ≡ all ++ run_from (get_or ps i d).addr (get_or ps i d).len → more ≡ blocks_of (take (i + 1) ps)
runs_more ps i d all more l h e = e ∙ ap (λ xs. xs ++ run_from (get_or ps i d).addr (get_or ps i d).len) h ∙ sym (ap blocks_of (take_at_read ps i d l).1 ∙ blocks_last (take i ps) (get_or ps i d))
