-- Pages side by side.
use Rattle.std.proofs.Common.{◌≡◌, refl, sym, ap, ◌∙◌, ℕ, zero, suc, ◌+◌, ◌<◌, ◌≤◌, List, [], ◌∷◌, ◌++◌, length, get_or, take, map, Some, append_assoc, arith}
use Rattle.std.specs.Prelude.{slice_get}
use Rattle.std.specs.List.{flat_map}
use Rattle.std.specs.Option.{option_map}
use Rattle.std.proofs.lemmas.List.{take_more, append-nil}
use Rattle.std.proofs.lemmas.List.Concat.{flat_map-append}
use Rattle.std.proofs.lemmas.Option.{slice_get-map, slice_get_within, get_or_from_slice_get}
use Rattle.jfs_tree.specs.Walk.{Child, Node, Leaf, Inner, Broken}
use Rattle.jfs_tree.specs.Spells.{no_page, with_root}
use Rattle.jfs_tree.specs.Levels.{pages_below, level}
use Rattle.jfs_tree.specs.Form.{AllBelow, as_child}
use Rattle.jfs_tree.specs.Fresh.{AllPages, HasPages}
use Rattle.jfs_tree.specs.Walking.{children_in}
use Rattle.jfs_tree.specs.declared.form.Sibling.{Sibling}
use Rattle.jfs_tree.proofs.Tops.{root_else}

-- ---- pages below a bound

pub below_push : (b x : ℕ) (xs : List ℕ) → AllBelow b xs → x < b → AllBelow b (xs ++ x ∷ [])
below_push b x [] h l = (l, tt)
below_push b x (y ∷ xs) h l = (h.0, below_push b x xs h.1 l)

below_both : (b : ℕ) (xs ys : List ℕ) → AllBelow b xs → AllBelow b ys → AllBelow b (xs ++ ys)
below_both b [] ys h i = i
below_both b (x ∷ xs) ys h i = (h.0, below_both b xs ys h.1 i)

pub below_at : (b j : ℕ) (xs : List ℕ) → AllBelow b xs → j < length xs → get_or xs j 0 < b
below_at b j [] h l = absurd (omega (arith, l))
below_at b zero (x ∷ xs) h l = h.0
below_at b (suc j) (x ∷ xs) h l = below_at b j xs h.1 (omega (arith, l))

-- ---- the children of an inner page

abbrev number : {P : Type 0} → Child P → ℕ
number c = c.page

pub child_page : {P E : Type 0} (node : Node P E) (i : ℕ) (c : Child P) → slice_get (children_in node) i ≡ Some c → slice_get (pages_below node) i ≡ Some c.page
child_page (Leaf es) i c h = absurd (cc h)
child_page {P} (Inner cs) i c h = slice_get-map (number {P = P}) cs i ∙ ap (option_map (number {P = P})) h
child_page (Broken rule) i c h = absurd (cc h)

pub child_pushed : {P E : Type 0} (node : Node P E) (i : ℕ) (s : Sibling P) (old mid new : List ℕ) → slice_get (children_in node) i ≡ Some (as_child s) → mid ≡ old ++ take i (pages_below node) → new ≡ mid ++ s.page ∷ []
    → new ≡ old ++ take (i + 1) (pages_below node)
child_pushed node i s old mid new at is more =
    let g = child_page node i (as_child s) at in
    more ∙ ap (λ xs. xs ++ s.page ∷ []) is ∙ append_assoc old (take i (pages_below node)) (s.page ∷ [])
    ∙ ap (λ p. old ++ (take i (pages_below node) ++ p ∷ [])) (sym (get_or_from_slice_get (pages_below node) i s.page 0 g))
    ∙ ap (λ xs. old ++ xs) (sym (take_more (pages_below node) i 0 (slice_get_within (pages_below node) i s.page g)))

-- ---- one page more of a level

pub line_more : (f : ℕ → List ℕ) (line : List ℕ) (i x : ℕ) (mid new : List ℕ) → i < length line → x ≡ get_or line i 0 → mid ≡ flat_map f (take i line) → new ≡ mid ++ f x → new ≡ flat_map f (take (i + 1) line)
line_more f line i x mid new l at is more =
    more ∙ ap (λ xs. xs ++ f x) is ∙ ap (λ xs. flat_map f (take i line) ++ xs) (sym (append-nil (f x))) ∙ ap (λ y. flat_map f (take i line) ++ flat_map f (y ∷ [])) at
    ∙ sym (flat_map-append f (take i line) (get_or line i 0 ∷ [])) ∙ ap (flat_map f) (sym (take_more line i 0 l))

-- ---- the pages below a root aren't the root

pub same_below : {P E : Type 0} (root : Node P E) (pages : ℕ → Node P E) (b : ℕ) (line : List ℕ) → b ≤ no_page → AllBelow b line
    → flat_map (λ n. pages_below (pages n)) line ≡ flat_map (λ n. pages_below (with_root root pages n)) line
same_below root pages b [] w h = refl
same_below root pages b (n ∷ line) w h =
    let less = h.0 in
    ap (λ xs. xs ++ flat_map (λ n. pages_below (pages n)) line) (ap pages_below (sym (root_else root pages n (λ e. absurd (omega (arith, e, less, w))))))
    ∙ ap (λ xs. pages_below (with_root root pages n) ++ xs) (same_below root pages b line w h.1)

pages_all : {P : Type 0} (b : ℕ) (cs : List (Child P)) → AllPages b cs → AllBelow b (map (λ (c : Child P). c.page) cs)
pages_all b [] h = tt
pages_all b (c ∷ cs) h = (h.0, pages_all b cs h.1)

node_below : {P E : Type 0} (b : ℕ) (node : Node P E) → HasPages b node → AllBelow b (pages_below node)
node_below b (Leaf es) h = tt
node_below b (Inner cs) h = pages_all b cs (h cs refl)
node_below b (Broken rule) h = tt

line_below : {P E : Type 0} (b : ℕ) (nodes : ℕ → Node P E) → ((n : ℕ) → HasPages b (nodes n)) → (line : List ℕ) → AllBelow b (flat_map (λ n. pages_below (nodes n)) line)
line_below b nodes has [] = tt
line_below b nodes has (n ∷ line) = below_both b (pages_below (nodes n)) (flat_map (λ n. pages_below (nodes n)) line) (node_below b (nodes n) (has n)) (line_below b nodes has line)

pub level_below : {P E : Type 0} (b : ℕ) (nodes : ℕ → Node P E) → ((n : ℕ) → HasPages b (nodes n)) → (d : ℕ) → AllBelow b (level nodes (suc d))
unfolding level
level_below b nodes has d = line_below b nodes has (level nodes d)

pub first_level : {P E : Type 0} (root : Node P E) (pages : ℕ → Node P E) → level (with_root root pages) 1 ≡ pages_below root
unfolding level
first_level root pages = append-nil (pages_below root)

pub next_level : {P E : Type 0} (nodes : ℕ → Node P E) (d : ℕ) → level nodes (suc d) ≡ flat_map (λ n. pages_below (nodes n)) (level nodes d)
unfolding level
next_level nodes d = refl

pub root_level : {P E : Type 0} (nodes : ℕ → Node P E) → level nodes 0 ≡ no_page ∷ []
unfolding level
root_level nodes = refl
