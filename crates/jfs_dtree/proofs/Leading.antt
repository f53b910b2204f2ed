-- Children of an inner page: the place to which it leads a name.
use Rattle.std.proofs.Common.{◌≡◌, ◌<◌, ◌≤◌, ◌⊎◌, inl, inr, refl, sym, ap, ◌∙◌, subst, ℕ, zero, suc, ◌+◌, ◌-◌, ◌==◌, ◌&&◌, true, List, [], ◌∷◌, ◌++◌, length, map, take, drop, Some, Ok, arith}
use Rattle.std.specs.Prelude.{slice_get, nat_le}
use Rattle.std.specs.List.{list_all}
use Rattle.std.specs.Option.{option_map}
use Rattle.std.proofs.lemmas.Bool.{leb-true, and_parts}
use Rattle.std.proofs.lemmas.List.{length-map, length-take-le}
use Rattle.std.proofs.lemmas.Option.{slice_get-map, slice_get_within}
use Rattle.jfs_bits.specs.declared.descriptor.Pxd.{Pxd}
use Rattle.jfs_name.specs.declared.name.NameEntry.{NameEntry}
use Rattle.jfs_dtpage.specs.declared.head.DtForm.{DtForm}
use Rattle.jfs_dtpage.specs.declared.head.DtForm.TheVariants.{Root, Full}
use Rattle.jfs_dtpage.specs.declared.head.DtHead.{DtHead}
use Rattle.jfs_dtpage.specs.Form.{count_of, head_of}
use Rattle.jfs_dtpage.specs.Order.{IsBefore, name_at, IsRising, GoesAt, IsFound}
use Rattle.jfs_dtpage.specs.Page.{Entry, Named, Below, name_in, entries_of, names_of}
use Rattle.jfs_dtpage.proofs.Pages.{names_length}
use Rattle.jfs_dtpage.proofs.Rising.{high_moves}
use Rattle.jfs_tree.specs.Walk.{Child, Node, Inner}
use Rattle.jfs_tree.specs.Edit.{IsPast, IsCons}
use Rattle.jfs_tree.specs.Form.{LeadsDown}
use Rattle.jfs_tree.proofs.Path.{AllPast, leads_alone}
use Rattle.jfs_dtree.specs.Node.{not_after, name_scale, below, is_within, child_within}
use Rattle.jfs_dtree.specs.Place.{LeadsAt}
use Rattle.jfs_dtree.specs.Laws.{before_up, name_refl, not_from}
use Rattle.jfs_dtpage.proofs.Joined.{names_listed}

-- ---- the place

pub leads_found : (keys : List (List ℕ)) (name : List ℕ) (place : ℕ) → IsRising keys → IsFound keys name (Ok place) → LeadsAt keys name place
leads_found keys name place rising found = record {
  within = found.0;
  above = λ h. subst (λ key. not_after key name ≡ true) (sym found.1) (name_refl name);
  past = λ h. subst (λ key. IsBefore key (name_at keys (suc place))) found.1 (rising place (suc place) (omega arith) h);
}

pub leads_behind : (keys : List (List ℕ)) (name : List ℕ) (place less : ℕ) → 0 < length keys → less ≡ place - 1 → GoesAt keys place name → LeadsAt keys name less
leads_behind keys name zero less some is goes = record {
  within = omega (arith, some, is);
  above = λ h. absurd (none less h is);
  past = λ h. goes.behind (suc less) (omega arith) h;
}
  where
    none : (n : ℕ) → 0 < n → n ≡ zero - 1 → ⊥
    none n h e = omega (arith, h, e)
leads_behind keys name (suc place) less some is goes =
    let w = goes.within in
    record {
      within = omega (arith, w, is);
      above = λ h. before_up (name_at keys less) name (goes.before less (omega (arith, is)));
      past = λ h. goes.behind (suc less) (omega (arith, is)) h;
    }

-- ---- the way down

abbrev pub key_names : List (Child (List ℕ)) → List (List ℕ)
key_names cs = map (λ (c : Child (List ℕ)). c.key) cs

entry_key : (e : Entry) → name_in e ≡ (below e).key
entry_key (Named inode name) = refl
entry_key (Below at key) = refl

keys_below : (entries : List Entry) → map name_in entries ≡ key_names (map below entries)
keys_below [] = refl
keys_below (e ∷ entries) = rw (entry_key e, keys_below entries) refl

pub keys_are : (form : DtForm) (bytes : List ℕ) → names_of form bytes ≡ key_names (map below (entries_of form bytes))
keys_are form bytes = names_listed form bytes ∙ keys_below (entries_of form bytes)

cut : {X : Type 0} (xs : List X) (place : ℕ) (x : X) → slice_get xs place ≡ Some x → xs ≡ take place xs ++ x ∷ drop (suc place) xs
cut [] place x e = absurd cc
cut {X} (y ∷ xs) zero x e = ap (λ (z : X). z ∷ xs) (inside y x e)
  where
    inside : (y x : X) → Some y ≡ Some x → y ≡ x
    inside y x e = cc
cut (y ∷ xs) (suc place) x e = ap (λ ys. y ∷ ys) (cut xs place x e)

pub key_at : (cs : List (Child (List ℕ))) (place : ℕ) (c : Child (List ℕ)) → slice_get cs place ≡ Some c → name_at (key_names cs) place ≡ c.key
key_at [] place c e = absurd cc
key_at (b ∷ cs) zero c e = cc
key_at (b ∷ cs) (suc place) c e = key_at cs place c e

past_from : (cs : List (Child (List ℕ))) (n : ℕ) (x : NameEntry) → (n < length (key_names cs) → IsBefore x.name (name_at (key_names cs) n)) → IsPast name_scale x (drop n cs)
past_from [] zero x h = tt
past_from [] (suc n) x h = tt
past_from (c ∷ cs) zero x h = not_from x.name c.key (h (omega arith))
past_from (c ∷ cs) (suc n) x h = past_from cs n x (λ l. h (omega (arith, l)))

all_past : (cs : List (Child (List ℕ))) (n : ℕ) (name : List ℕ) → ((i : ℕ) → n ≤ i → i < length (key_names cs) → IsBefore name (name_at (key_names cs) i)) → AllPast name_scale name (drop n cs)
all_past [] zero name h = tt
all_past [] (suc n) name h = tt
all_past (c ∷ cs) zero name h = (not_from name c.key (h zero (omega arith) (omega arith)), all_past cs zero name (λ i a l. h (suc i) (omega arith) (omega (arith, l))))
all_past (c ∷ cs) (suc n) name h = all_past cs n name (λ i a l. h (suc i) (omega (arith, a)) (omega (arith, l)))

-- where keys rise, all behind the place are past the name
rest_past : (cs : List (Child (List ℕ))) (name : List ℕ) (place : ℕ) → IsRising (key_names cs) → LeadsAt (key_names cs) name place → AllPast name_scale name (drop (suc place) cs)
rest_past cs name place rising leads = all_past cs (suc place) name (λ i a l. high_moves (key_names cs) name (suc place) rising (leads.past (omega (arith, a, l))) i a l)

pub leads_down : (node : Node (List ℕ) NameEntry) (cs : List (Child (List ℕ))) (x : NameEntry) (place page : ℕ) (c : Child (List ℕ)) → node ≡ Inner cs → IsRising (key_names cs) → LeadsAt (key_names cs) x.name place → slice_get cs place ≡ Some c → c.page ≡ page
    → LeadsDown name_scale x node place page
leads_down node cs x place page c is rising leads at to = record {
  front = take place cs;
  child = c;
  back = drop (suc place) cs;
  is = is ∙ ap (λ ds. Inner ds) (cut cs place c at);
  at = length-take-le place cs (let w = slice_get_within cs place c at in omega (arith, w));
  to = to;
  past = past_from cs (suc place) x leads.past;
  above = side place leads.above at;
  alone = leads_alone name_scale x.name node (take place cs) c (drop (suc place) cs) (is ∙ ap (λ ds. Inner ds) (cut cs place c at)) (side place leads.above at) (rest_past cs x.name place rising leads) ∙ ap Some to;
}
  where
    side : (place : ℕ) → (0 < place → not_after (name_at (key_names cs) place) x.name ≡ true) → slice_get cs place ≡ Some c → (take place cs ≡ []) ⊎ (not_after c.key x.name ≡ true)
    side zero h at = inl refl
    side (suc p) h at = inr (subst (λ key. not_after key x.name ≡ true) (key_at cs (suc p) c at) (h (omega arith)))

pub child_at : (entries : List Entry) (place page : ℕ) (at : Pxd) (key : List ℕ) → slice_get entries place ≡ Some (Below at key) → slice_get (map below entries) place ≡ Some (record { key = key; page = at.addr })
child_at entries place page at key e = slice_get-map below entries place ∙ ap (option_map below) e

-- ---- runs within the blocks

pub within_more : (blocks : ℕ) (entries : List Entry) (place : ℕ) (at : Pxd) (key : List ℕ) → slice_get entries place ≡ Some (Below at key)
    → list_all (child_within blocks) (drop place entries) ≡ (is_within blocks at && list_all (child_within blocks) (drop (suc place) entries))
within_more blocks [] place at key e = absurd cc
within_more blocks (x ∷ entries) zero at key e = ap (λ (f : Entry). child_within blocks f && list_all (child_within blocks) entries) (inside x (Below at key) e)
  where
    inside : (y x : Entry) → Some y ≡ Some x → y ≡ x
    inside y x e = cc
within_more blocks (x ∷ entries) (suc place) at key e = within_more blocks entries place at key e

pub run_below : (blocks : ℕ) (at : Pxd) → is_within blocks at ≡ true → at.addr < blocks
run_below blocks at w =
    let p = and_parts (nat_le 1 at.len) (nat_le (at.addr + at.len) blocks) w in
    let a = leb-true 1 at.len p.0 in let b = leb-true (at.addr + at.len) blocks p.1 in omega (arith, a, b)

pub within_at : (blocks : ℕ) (entries : List Entry) (place : ℕ) (at : Pxd) (key : List ℕ) → slice_get entries place ≡ Some (Below at key) → list_all (child_within blocks) entries ≡ true → at.addr < blocks
within_at blocks [] place at key e all = absurd cc
within_at blocks (x ∷ entries) zero at key e all =
    run_below blocks at (subst (λ (f : Entry). child_within blocks f ≡ true) (inside x (Below at key) e) (and_parts (child_within blocks x) (list_all (child_within blocks) entries) all).0)
  where
    inside : (y x : Entry) → Some y ≡ Some x → y ≡ x
    inside y x e = cc
within_at blocks (x ∷ entries) (suc place) at key e all = within_at blocks entries place at key e (and_parts (child_within blocks x) (list_all (child_within blocks) entries) all).1

pub entries_length : (form : DtForm) (bytes : List ℕ) → length (entries_of form bytes) ≡ count_of bytes
entries_length form bytes = sym (ap length (names_listed form bytes) ∙ length-map (entries_of form bytes) name_in) ∙ names_length form bytes

pub some_entries : (form : DtForm) (bytes : List ℕ) → 0 < count_of bytes → IsCons (entries_of form bytes)
some_entries form bytes h = by (entries_of form bytes) (let l = entries_length form bytes in omega (arith, h, l))
  where
    by : (entries : List Entry) → 0 < length entries → IsCons entries
    by [] h = absurd (omega (arith, h))
    by (e ∷ entries) h = tt

pub count_some : (form : DtForm) (bytes : List ℕ) → IsCons (entries_of form bytes) → 0 < count_of bytes
count_some form bytes some = let l = entries_length form bytes in let h = by (entries_of form bytes) some in omega (arith, l, h)
  where
    by : (entries : List Entry) → IsCons entries → 0 < length entries
    by [] some = absurd some
    by (e ∷ entries) some = omega arith

pub tells_last : (form : DtForm) (bytes : List ℕ) (cs : List (Child (List ℕ))) (place next : ℕ) → map below (entries_of form bytes) ≡ cs → next ≡ count_of bytes → (place + 1 == next) ≡ (suc place == length cs)
tells_last form bytes cs place next is e =
    let n : length cs ≡ count_of bytes = ap length (sym is) ∙ length-map (entries_of form bytes) below ∙ entries_length form bytes in
    by (place + 1) next (suc place) (length cs) (omega (arith, n, e)) (omega arith)
  where
    by : (a b c d : ℕ) → b ≡ d → a ≡ c → (a == b) ≡ (c == d)
    by a b c d h g = rw (h, g) refl

pub head_count : (form : DtForm) (bytes : List ℕ) (head : DtHead) → head ≡ head_of form bytes → head.nextindex ≡ count_of bytes
head_count Root bytes head e = ap (λ (h : DtHead). h.nextindex) e
head_count Full bytes head e = ap (λ (h : DtHead). h.nextindex) e
