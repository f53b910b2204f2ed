-- Where the first child of a page goes, the next takes the page's key: a lower key changes nothing else.
use Rattle.std.proofs.Common.{◌≡◌, refl, sym, ap, ◌∙◌, ℕ, zero, suc, ◌+◌, ◌==◌, Bool, true, false, if◌then◌else◌, List, [], ◌∷◌, ◌++◌, map, Option, Some}
use Rattle.std.specs.List.{flat_map}
use Rattle.jfs_bits.specs.declared.rule.Rule.TheVariants as rules
use Rattle.jfs_tree.specs.Walk.{Child, Node, Leaf, Inner, Broken, Page, Key, Row, Marks, Scale, Rises, IsOrder, rows_of, times, placed, body, walk}
use Rattle.jfs_tree.specs.Shrink.{IsLoose}
use Rattle.jfs_tree.proofs.Frame.{times-append, rows-append}
use Rattle.jfs_tree.proofs.Rising.{rises_lower, rises_join, rises_cut}

-- what a part shows with a lower key: it rises, its entries are the same, and so are its pages
pub record Rekeyed {P E : Type 0} (s : Scale P E) (k : P) (old new : Marks P E) (high : Option P) : Type 0 where
  pub rises : Rises s k new high
  pub rows : rows_of new ≡ rows_of old
  pub pages : (n : ℕ) → times n new ≡ times n old

module _ {P E : Type 0} (s : Scale P E) (o : IsOrder s) (loose : IsLoose s) (k l : P) (below_l : s.le k l ≡ true) where
  leaf_rekeyed : (f : Child P → Marks P E) (page : ℕ) (e : E) (es : List E) (high : Option P) (b : Bool) → s.fits l e ≡ b
      → Rises s l (body f (record { key = l; page = page }) (if b then Leaf (e ∷ es) else Broken rules.Order)) high
      → Rekeyed s k (body f (record { key = l; page = page }) (if b then Leaf (e ∷ es) else Broken rules.Order)) (body f (record { key = k; page = page }) (if s.fits k e then Leaf (e ∷ es) else Broken rules.Order)) high
  leaf_rekeyed f page e es high false is r = absurd r
  leaf_rekeyed f page e es high true is r =
      rw (loose.lower k l e below_l is) (record { rises = rises_lower s o k l (map (Row page) (e ∷ es)) high below_l r; rows = refl; pages = λ n. refl })

  inner_rekeyed : (f : Child P → Marks P E) (d : Child P) (ds : List (Child P)) (high : Option P)
      → ((m : Option P) → Rises s k (f (record { key = l; page = d.page })) m → Rekeyed s k (f (record { key = l; page = d.page })) (f (record { key = k; page = d.page })) m)
      → Rises s l (f (record { key = l; page = d.page }) ++ flat_map f ds) high
      → Rekeyed s k (f (record { key = l; page = d.page }) ++ flat_map f ds) (f (record { key = k; page = d.page }) ++ flat_map f ds) high
  inner_rekeyed f d ds high h r =
      let u : Child P = record { key = l; page = d.page } in
      let v : Child P = record { key = k; page = d.page } in
      let c = rises_cut s o l (f u) (flat_map f ds) high r in
      let t = h (Some c.0) (rises_lower s o k l (f u) (Some c.0) below_l c.1) in
      record {
        rises = rises_join s o k c.0 (f v) (flat_map f ds) high t.rises c.2;
        rows = rows-append (f v) (flat_map f ds) ∙ ap (λ es. es ++ rows_of (flat_map f ds)) t.rows ∙ sym (rows-append (f u) (flat_map f ds));
        pages = λ n. times-append n (f v) (flat_map f ds) ∙ ap (λ m. m + times n (flat_map f ds)) (t.pages n) ∙ sym (times-append n (f u) (flat_map f ds));
      }

  body_rekeyed : (f : Child P → Marks P E) (below page : ℕ) (node : Node P E) (high : Option P)
      → ((q : ℕ) (m : Option P) → Rises s k (f (record { key = l; page = q })) m → Rekeyed s k (f (record { key = l; page = q })) (f (record { key = k; page = q })) m)
      → Rises s l (body f (record { key = l; page = page }) (placed s below l node)) high
      → Rekeyed s k (body f (record { key = l; page = page }) (placed s below l node)) (body f (record { key = k; page = page }) (placed s below k node)) high
  body_rekeyed f zero page (Leaf []) high h r = absurd r
  body_rekeyed f zero page (Leaf (e ∷ es)) high h r = leaf_rekeyed f page e es high (s.fits l e) refl r
  body_rekeyed f zero page (Inner cs) high h r = absurd r
  body_rekeyed f zero page (Broken rule) high h r = absurd r
  body_rekeyed f (suc below) page (Leaf es) high h r = absurd r
  body_rekeyed f (suc below) page (Inner []) high h r = absurd r
  body_rekeyed f (suc below) page (Inner (d ∷ ds)) high h r = inner_rekeyed f d ds high (h d.page) r
  body_rekeyed f (suc below) page (Broken rule) high h r = absurd r

  head_rekeyed : (page : ℕ) (old new : Marks P E) (high : Option P) → Rekeyed s k old new high → Rekeyed s k (Key page l ∷ Page page ∷ old) (Key page k ∷ Page page ∷ new) high
  head_rekeyed page old new high t = record {
    rises = (o.refl_le k, t.rises);
    rows = t.rows;
    pages = λ n. ap (λ m. (if page == n then 1 else 0) + m) (t.pages n);
  }

  pub rekeyed : (nodes : ℕ → Node P E) (levels page : ℕ) (high : Option P) → Rises s k (walk s nodes levels (record { key = l; page = page })) high
      → Rekeyed s k (walk s nodes levels (record { key = l; page = page })) (walk s nodes levels (record { key = k; page = page })) high
  unfolding walk
  rekeyed nodes zero page high r = absurd r
  rekeyed nodes (suc below) page high r =
      head_rekeyed page (body (walk s nodes below) (record { key = l; page = page }) (placed s below l (nodes page))) (body (walk s nodes below) (record { key = k; page = page }) (placed s below k (nodes page))) high
      (body_rekeyed (walk s nodes below) below page (nodes page) high (λ q m h. rekeyed nodes below q m h) r.1)
