-- An inner page with one more child.
use Rattle.std.proofs.Common.{◌==◌, ◌≡◌, ◌<◌, ◌+◌, ◌&&◌, refl, sym, ap, ◌∙◌, subst, ℕ, zero, suc, Bool, true, false, List, [], ◌∷◌, ◌++◌, length, map, if◌then◌else◌, arith}
use Rattle.std.specs.List.{insert, list_all}
use Rattle.std.specs.Ordering.{is_lt, nat_cmp}
use Rattle.std.specs.Cmp.Lexicographic.{slice_cmp}
use Rattle.std.proofs.lemmas.Bool.{and_parts, le-leb}
use Rattle.std.proofs.lemmas.List.{map-append}
use Rattle.jfs_bits.specs.declared.descriptor.Pxd.{Pxd}
use Rattle.jfs_name.specs.declared.name.NameEntry.{NameEntry}
use Rattle.jfs_dtpage.specs.declared.head.DtForm.{DtForm}
use Rattle.jfs_dtpage.specs.declared.head.DtForm.TheVariants.{Full}
use Rattle.jfs_dtpage.specs.Form.{KeepsHead, count_of, is_leaf, linked}
use Rattle.jfs_dtpage.specs.Order.{GoesAt, name_at}
use Rattle.jfs_dtpage.specs.Page.{Entry, Named, Below, name_in, entries_of, names_of, IsDtPage}
use Rattle.jfs_dtpage.proofs.Joined.{names_listed}
use Rattle.jfs_tree.specs.Walk.{Child, Node, Inner, under}
use Rattle.jfs_tree.specs.Edit.{IsCons}
use Rattle.jfs_dtree.specs.Node.{below, child_within, dt_node}
use Rattle.jfs_dtree.specs.Parts.{lowered, emptied, next_in, prev_in, IsParted, AreNeighbours, SplitsInner, ArePages}
use Rattle.jfs_dtpage.specs.declared.head.Place.{Place}
use Rattle.jfs_dtpage.specs.declared.head.Place.TheVariants.{OnVolume}
use Rattle.jfs_tree.specs.Form.{AtPlace, HasChildren, SplitsChildren}
use Rattle.jfs_dtree.proofs.Nodes.{inner_is, inner_read}
use Rattle.jfs_dtree.proofs.Lists.{map_insert}
use Rattle.jfs_dtree.proofs.Keys.{cons_map}
use Rattle.jfs_dtree.proofs.Moves.{entries_count}
use Rattle.jfs_dtree.proofs.Offspring.{below_key, rest_of}

abbrev first_page : List (Child (List ℕ)) → ℕ
first_page [] = 0
first_page (c ∷ cs) = c.page

-- ---- the children with one more

-- the same children, but for the first one's key
pub record Like (cs ds : List (Child (List ℕ))) : Type 0 where
  pub one : Child (List ℕ)
  pub other : Child (List ℕ)
  pub rest : List (Child (List ℕ))
  pub is : cs ≡ one ∷ rest
  pub was : ds ≡ other ∷ rest
  pub page : one.page ≡ other.page

like_under : (cs ds : List (Child (List ℕ))) → Like cs ds → (key : List ℕ) → under key cs ≡ under key ds
like_under cs ds l key = ap (under key) l.is ∙ ap (λ (p : ℕ). record { key = key; page = p } ∷ l.rest) l.page ∙ ap (under key) (sym l.was)

insert_behind : (front : List (Child (List ℕ))) (before child : Child (List ℕ)) (back : List (Child (List ℕ))) → insert (front ++ before ∷ back) (suc (length front)) child ≡ front ++ before ∷ child ∷ back
insert_behind [] before child back = refl
insert_behind (f ∷ front) before child back = ap (λ (z : List (Child (List ℕ))). f ∷ z) (insert_behind front before child back)

lowered_page : (key : List ℕ) (e : Entry) (b : Bool) → (below (if b then e else emptied e)).page ≡ (below e).page
lowered_page key e true = refl
lowered_page key (Named inode name) false = refl
lowered_page key (Below at name) false = refl

like_more : (key : List ℕ) (es : List Entry) (place : ℕ) (e : Entry) (all : List (Child (List ℕ))) → IsCons es → insert (map below es) (suc place) (below e) ≡ all → Like (map below (insert (lowered key es) (suc place) e)) all
like_more key [] place e all some is = absurd some
like_more key (x ∷ es) place e all some is = record {
  one = below (if is_lt (slice_cmp nat_cmp (name_in x) key) then x else emptied x);
  other = below x;
  rest = insert (map below es) place (below e);
  is = ap (λ (z : List (Child (List ℕ))). below (if is_lt (slice_cmp nat_cmp (name_in x) key) then x else emptied x) ∷ z) (map_insert below es place e);
  was = sym is;
  page = lowered_page key x (is_lt (slice_cmp nat_cmp (name_in x) key));
}

all_lowered : (blocks : ℕ) (key : List ℕ) (es : List Entry) → list_all (child_within blocks) es ≡ true → list_all (child_within blocks) (lowered key es) ≡ true
all_lowered blocks key [] w = w
all_lowered blocks key (e ∷ es) w = ap (λ (b : Bool). b && list_all (child_within blocks) es) (kept (is_lt (slice_cmp nat_cmp (name_in e) key)) e) ∙ w
  where
    kept : (b : Bool) (e : Entry) → child_within blocks (if b then e else emptied e) ≡ child_within blocks e
    kept true e = refl
    kept false (Named inode name) = refl
    kept false (Below at name) = refl

all_insert : (p : Entry → Bool) (es : List Entry) (i : ℕ) (e : Entry) → p e ≡ true → list_all p es ≡ true → list_all p (insert es i e) ≡ true
all_insert p es zero e a w = rw (a, w) refl
all_insert p [] (suc i) e a w = rw a refl
all_insert p (x ∷ es) (suc i) e a w = let t = and_parts (p x) (list_all p es) w in rw (t.0, all_insert p es i e a t.1) refl

all_front : (p : Entry → Bool) (l r : List Entry) → list_all p (l ++ r) ≡ true → list_all p l ≡ true
all_front p [] r w = refl
all_front p (x ∷ l) r w = let t = and_parts (p x) (list_all p (l ++ r)) w in rw (t.0, all_front p l r t.1) refl

all_back : (p : Entry → Bool) (l r : List Entry) → list_all p (l ++ r) ≡ true → list_all p r ≡ true
all_back p [] r w = w
all_back p (x ∷ l) r w = all_back p l r (and_parts (p x) (list_all p (l ++ r)) w).1

page_within : (blocks page : ℕ) (at : Pxd) (key : List ℕ) → at ≡ record { len = 1; addr = page } → page < blocks → child_within blocks (Below at key) ≡ true
page_within blocks page at key is h = ap (λ (p : Pxd). child_within blocks (Below p key)) is ∙ le-leb (page + 1) blocks (omega (arith, h))

insert_cons : (es : List Entry) (p : ℕ) (e : Entry) → IsCons (insert es p e)
insert_cons es zero e = tt
insert_cons [] (suc p) e = tt
insert_cons (x ∷ es) (suc p) e = tt

-- what the entries are with one more child
pub record MoreChildren (blocks : ℕ) (entries : List Entry) (all : List (Child (List ℕ))) : Type 0 where
  pub within : list_all (child_within blocks) entries ≡ true
  pub some : IsCons entries
  pub like : Like (map below entries) all

pub more_children : (form : DtForm) (blocks : ℕ) (old : List ℕ) (place : ℕ) (key : List ℕ) (page : ℕ) (at : Pxd) (all : List (Child (List ℕ))) → AtPlace (dt_node form blocks old) place (record { key = key; page = page }) all → at ≡ record { len = 1; addr = page } → page < blocks
    → MoreChildren blocks (insert (lowered key (entries_of form old)) (suc place) (Below at key)) all
more_children form blocks old place key page at all there is h =
    let t = inner_is form blocks old (there.front ++ there.before ∷ there.back) there.was in
    let child : below (Below at key) ≡ record { key = key; page = page } = ap (λ (p : Pxd). below (Below p key)) is in
    record {
      within = all_insert (child_within blocks) (lowered key (entries_of form old)) (suc place) (Below at key) (page_within blocks page at key is h) (all_lowered blocks key (entries_of form old) t.2);
      some = insert_cons (lowered key (entries_of form old)) (suc place) (Below at key);
      like = like_more key (entries_of form old) place (Below at key) all t.3
          (ap (λ (cs : List (Child (List ℕ))). insert cs (suc place) (below (Below at key))) t.4 ∙ ap (λ (p : ℕ). insert (there.front ++ there.before ∷ there.back) (suc p) (below (Below at key))) (sym there.at)
          ∙ ap (insert (there.front ++ there.before ∷ there.back) (suc (length there.front))) child ∙ insert_behind there.front there.before (record { key = key; page = page }) there.back ∙ sym there.is);
    }

-- an inner page that had room
pub child_put : (form : DtForm) (blocks : ℕ) (new : List ℕ) (entries : List Entry) (all : List (Child (List ℕ))) → IsDtPage form new → is_leaf new ≡ false → entries_of form new ≡ entries → MoreChildren blocks entries all → HasChildren (dt_node form blocks new) all
child_put form blocks new entries all sound kind is m = record {
  children = map below entries;
  is = inner_read form blocks new sound kind (ap (list_all (child_within blocks)) is ∙ m.within) (subst IsCons (sym is) m.some) ∙ ap (λ (z : List Entry). Inner (map below z)) is;
  some = cons_map below entries m.some;
  same = like_under (map below entries) all m.like;
}

-- ---- a full inner page that became two

split_like : (left_node right_node : Node (List ℕ) NameEntry) (key : List ℕ) (all : List (Child (List ℕ))) (l r : List Entry) → left_node ≡ Inner (map below l) → right_node ≡ Inner (map below r) → IsCons l → IsCons r → Like (map below (l ++ r)) all
    → key ≡ name_at (map name_in r) 0 → SplitsChildren all left_node right_node key
split_like left_node right_node key all [] r nl nr some more like is = absurd some
split_like left_node right_node key all (x ∷ l) [] nl nr some more like is = absurd more
split_like left_node right_node key all (x ∷ l) (y ∷ r) nl nr some more like is = record {
  front = like.other ∷ map below l;
  first = below y;
  back = map below r;
  is = like.was ∙ ap (λ (z : List (Child (List ℕ))). like.other ∷ z) (sym (ap rest_of like.is) ∙ map-append below l (y ∷ r));
  some = tt;
  left_is = record {
    children = map below (x ∷ l);
    is = nl;
    some = tt;
    same = λ k. ap (λ (p : ℕ). record { key = k; page = p } ∷ map below l) (ap first_page like.is ∙ like.page);
  };
  right_is = record { children = map below (y ∷ r); is = nr; some = tt; same = λ k. refl };
  key_is = is ∙ sym (below_key y);
}

pub child_parted : (blocks : ℕ) (left right key : List ℕ) (entries : List Entry) (all : List (Child (List ℕ))) → ArePages entries left right → is_leaf left ≡ false → IsCons (entries_of Full left) → IsCons (entries_of Full right) → MoreChildren blocks entries all
    → key ≡ name_at (names_of Full right) 0 → SplitsChildren all (dt_node Full blocks left) (dt_node Full blocks right) key
child_parted blocks left right key entries all pages kind some more m is =
    let l = entries_of Full left in
    let r = entries_of Full right in
    let within : list_all (child_within blocks) (l ++ r) ≡ true = ap (list_all (child_within blocks)) pages.rows ∙ m.within in
    split_like (dt_node Full blocks left) (dt_node Full blocks right) key all l r (inner_read Full blocks left pages.left_sound kind (all_front (child_within blocks) l r within) some)
    (inner_read Full blocks right pages.right_sound (pages.kind ∙ kind) (all_back (child_within blocks) l r within) more) some more
    (subst (λ (es : List Entry). Like (map below es) all) (sym pages.rows) m.like) (is ∙ ap (λ (ns : List (List ℕ)). name_at ns 0) (names_listed Full right))

lowered_length : (key : List ℕ) (es : List Entry) → length (lowered key es) ≡ length es
lowered_length key [] = refl
lowered_length key (e ∷ es) = refl

-- the parts of a page that became two, by what it was before its first key gave way
pub parted_inner : (n q : ℕ) (last : Bool) (old mid left right name key : List ℕ) (child : Child (List ℕ)) (at : Pxd) (place : ℕ) → name ≡ child.key → at ≡ record { len = 1; addr = child.page } → GoesAt (names_of Full mid) place name
    → entries_of Full mid ≡ lowered name (entries_of Full old) → KeepsHead Full old mid → IsParted (last && place == count_of mid) (entries_of Full mid) (Below at name) (entries_of Full left) (entries_of Full right) → AreNeighbours n q mid left right
    → key ≡ name_at (names_of Full right) 0 → SplitsInner n q last child old left right key
parted_inner n q last old mid left right name key child at place same is goes entries head parted beside key_is =
    let rows : entries_of Full mid ≡ lowered child.key (entries_of Full old) = entries ∙ ap (λ k. lowered k (entries_of Full old)) same in
    let count : count_of mid ≡ count_of old = sym (entries_count Full mid) ∙ ap length rows ∙ lowered_length child.key (entries_of Full old) ∙ entries_count Full old in
    record {
      place = place;
      goes = subst (λ (ns : List (List ℕ)). GoesAt ns place child.key) (names_listed Full mid ∙ ap (map name_in) rows) (subst (GoesAt (names_of Full mid) place) same goes);
      parted = subst (λ (k : ℕ). IsParted (last && place == k) (lowered child.key (entries_of Full old)) (Below (record { len = 1; addr = child.page }) child.key) (entries_of Full left) (entries_of Full right)) count
          (subst (λ (es : List Entry). IsParted (last && place == count_of mid) es (Below (record { len = 1; addr = child.page }) child.key) (entries_of Full left) (entries_of Full right)) rows
          (subst (λ (p : Pxd). IsParted (last && place == count_of mid) (entries_of Full mid) (Below p child.key) (entries_of Full left) (entries_of Full right)) is
          (subst (λ k. IsParted (last && place == count_of mid) (entries_of Full mid) (Below at k) (entries_of Full left) (entries_of Full right)) same parted)));
      neighbours = record {
        left_is = beside.left_is ∙ ap (λ (p : Place). linked q (prev_in p) p) head.place;
        right_is = beside.right_is ∙ ap (λ (p : Place). OnVolume (next_in p) n 128 1 (record { len = 1; addr = q })) head.place;
      };
      key_is = key_is;
    }
