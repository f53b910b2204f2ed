-- Pages that are not read do not matter.
use Rattle.std.proofs.Common.{◌≡◌, ◌<◌, refl, ap, ◌∙◌, ℕ, zero, suc, ◌+◌, List, [], ◌∷◌, ◌++◌, arith}
use Rattle.std.specs.List.{flat_map}
use Rattle.jfs_tree.specs.Walk.{Child, Node, Leaf, Inner, Broken, Page, Key, Row, Fault, Marks, Scale, placed, under, body, walk, rows_of, times}

pub times-append : {P E : Type 0} (n : ℕ) (a b : Marks P E) → times n (a ++ b) ≡ times n a + times n b
times-append n [] b = omega arith
times-append n (Page m ∷ ms) b = let h = times-append n ms b in omega (arith, h)
times-append n (Key m k ∷ ms) b = times-append n ms b
times-append n (Row m e ∷ ms) b = times-append n ms b
times-append n (Fault m r ∷ ms) b = times-append n ms b

pub rows-append : {P E : Type 0} (a b : Marks P E) → rows_of (a ++ b) ≡ rows_of a ++ rows_of b
rows-append [] b = refl
rows-append (Page m ∷ ms) b = rows-append ms b
rows-append (Key m k ∷ ms) b = rows-append ms b
rows-append (Row m e ∷ ms) b = ap (λ es. e ∷ es) (rows-append ms b)
rows-append (Fault m r ∷ ms) b = rows-append ms b

-- the two readings agree on each page that is read
abbrev pub Agree : {P E : Type 0} → (ℕ → Node P E) → (ℕ → Node P E) → Marks P E → Type 0
Agree old new ms = (n : ℕ) → 0 < times n ms → new n ≡ old n

pub agree_left : {P E : Type 0} (old new : ℕ → Node P E) (a b : Marks P E) → Agree old new (a ++ b) → Agree old new a
agree_left old new a b h n t = h n (let e = times-append n a b in omega (arith, e, t))

pub agree_right : {P E : Type 0} (old new : ℕ → Node P E) (a b : Marks P E) → Agree old new (a ++ b) → Agree old new b
agree_right old new a b h n t = h n (let e = times-append n a b in omega (arith, e, t))

-- children that read as they did
pub all_same : {P E : Type 0} (old new : ℕ → Node P E) (f g : Child P → Marks P E) (cs : List (Child P))
    → ((c : Child P) → Agree old new (f c) → g c ≡ f c) → Agree old new (flat_map f cs) → flat_map g cs ≡ flat_map f cs
all_same old new f g [] h agree = refl
all_same old new f g (c ∷ cs) h agree =
    ap (λ x. x ++ flat_map g cs) (h c (agree_left old new (f c) (flat_map f cs) agree))
    ∙ ap (λ x. f c ++ x) (all_same old new f g cs h (agree_right old new (f c) (flat_map f cs) agree))

pub same_body : {P E : Type 0} (old new : ℕ → Node P E) (f g : Child P → Marks P E) (c : Child P) (node : Node P E)
    → ((d : Child P) → Agree old new (f d) → g d ≡ f d) → Agree old new (body f c node) → body g c node ≡ body f c node
same_body old new f g c (Leaf es) h agree = refl
same_body old new f g c (Inner cs) h agree = all_same old new f g (under c.key cs) h agree
same_body old new f g c (Broken rule) h agree = refl

pub reads_itself : {P E : Type 0} (n : ℕ) (ms : Marks P E) → 0 < times n (Page n ∷ ms)
reads_itself n ms = grind arith

-- Two readings that agree on each page that the walk reads give the same walk.
pub frame : {P E : Type 0} (s : Scale P E) (old new : ℕ → Node P E) (levels : ℕ) (c : Child P)
    → Agree old new (walk s old levels c) → walk s new levels c ≡ walk s old levels c
unfolding walk
frame s old new zero c agree = refl
frame s old new (suc below) c agree =
    ap (λ node. Key c.page c.key ∷ Page c.page ∷ body (walk s new below) c (placed s below c.key node)) (agree c.page (reads_itself c.page (body (walk s old below) c (placed s below c.key (old c.page)))))
    ∙ ap (λ ms. Key c.page c.key ∷ Page c.page ∷ ms) (same_body old new (walk s old below) (walk s new below) c (placed s below c.key (old c.page)) (frame s old new below)
    (agree_right old new (Key c.page c.key ∷ Page c.page ∷ []) (body (walk s old below) c (placed s below c.key (old c.page))) agree))
