-- Pages beside a way down a tree, and links that are set there.
use Rattle.std.proofs.Common.{◌≡◌, refl, sym, ◌∙◌, subst, ℕ, Bool, true, List, Option, Some, None, IfSome, Result, Ok, Err, OnOk}
use Rattle.jfs_disk.specs.Image.{Image}
use Rattle.jfs_tree.specs.Walk.{Node}
use Rattle.jfs_tree.specs.Call.{nodes}
use Rattle.jfs_tree.specs.Draft.{shown}
use Rattle.jfs_tree.specs.declared.draft.Drafted.{Drafted}
use Rattle.jfs_tree.specs.declared.beside.Beside.{Beside}
use Rattle.jfs_tree.specs.Linking.{IsChild, IsClosed, Has, HasAll, NamesAll, ReadsSame, LinksPage, LinksLevel, LinksTree}

-- ---- pages of a closed set

-- a page that was read names pages of the set
pub closed_child : {P E : Type 0} (node : List ℕ → Node P E) (image : Image) (drafts : List Drafted) (own : ℕ → Bool) (n : ℕ) (bytes : List ℕ) (o : Option ℕ)
    → IsClosed (nodes node drafts image) own → bytes ≡ shown drafts image n → own n ≡ true → IfSome o (IsChild (node bytes)) → Has own o
closed_child node image drafts own n bytes None closed is h child = tt
closed_child node image drafts own n bytes (Some m) closed is h child = closed n m h (subst (λ b. IsChild (node b) m) is child)

-- and all that it names beside each other
pub closed_all : {P E : Type 0} (node : List ℕ → Node P E) (image : Image) (drafts : List Drafted) (own : ℕ → Bool) (n : ℕ) (bytes : List ℕ) (level : Beside)
    → IsClosed (nodes node drafts image) own → bytes ≡ shown drafts image n → own n ≡ true → NamesAll (node bytes) level → HasAll own level
closed_all node image drafts own n bytes level closed is h names = record {
  before = closed_child node image drafts own n bytes level.before closed is h names.before;
  here = closed n level.here h (subst (λ b. IsChild (node b) level.here) is names.here);
  behind = closed_child node image drafts own n bytes level.behind closed is h names.behind;
  next = closed_child node image drafts own n bytes level.next closed is h names.next;
}

-- a page that there is
pub has_some : (own : ℕ → Bool) (page : Option ℕ) (n : ℕ) → page ≡ Some n → Has own page → own n ≡ true
has_some own page n is h = subst (Has own) is h

-- what holds of closed sets of one image holds of another's that is the same
pub in_image : {P E : Type 0} (node : List ℕ → Node P E) (image later : Image) (drafts : List Drafted) (own : ℕ → Bool) → later ≡ image → IsClosed (nodes node drafts image) own → IsClosed (nodes node drafts later) own
in_image node image later drafts own same closed = subst (λ (i : Image). IsClosed (nodes node drafts i) own) (sym same) closed

-- ---- links that are set

-- nothing
pub links_none : {P E : Type 0} (node : List ℕ → Node P E) (frame : List ℕ → List ℕ) (image : Image) (drafts : List Drafted) (level : Beside) → LinksLevel node frame image drafts drafts level
links_none node frame image drafts level = record { same = λ n. refl; frames = λ n. refl; keeps = λ own closed all n off. refl }

pub closed_as : {P E : Type 0} (node : List ℕ → Node P E) (image : Image) (old new : List Drafted) (own : ℕ → Bool) → ReadsSame node image old new → IsClosed (nodes node old image) own → IsClosed (nodes node new image) own
closed_as node image old new own same closed m n h child = closed m n h (subst (λ node. IsChild node n) (same m) child)

-- the links of one page of a level
pub links_page : {P E : Type 0} (node : List ℕ → Node P E) (frame : List ℕ → List ℕ) (image : Image) (old new : List Drafted) (page : Option ℕ) (level : Beside) → ((own : ℕ → Bool) → HasAll own level → Has own page) → LinksPage node frame image old new page → LinksLevel node frame image old new level
links_page node frame image old new page level has links = record { same = links.same; frames = links.frames; keeps = λ own closed all. links.keeps own (has own all) }

-- links, and then others
pub links_then : {P E : Type 0} (node : List ℕ → Node P E) (frame : List ℕ → List ℕ) (image : Image) (old mid new : List Drafted) (level lower : Beside) → ((own : ℕ → Bool) → IsClosed (nodes node old image) own → HasAll own level → HasAll own lower)
    → LinksLevel node frame image old mid level → LinksLevel node frame image mid new lower → LinksLevel node frame image old new level
links_then node frame image old mid new level lower has first rest = record {
  same = λ n. rest.same n ∙ first.same n;
  frames = λ n. rest.frames n ∙ first.frames n;
  keeps = λ own closed all n off. rest.keeps own (closed_as node image old mid own first.same closed) (has own closed all) n off ∙ first.keeps own closed all n off;
}

-- and the other way round
pub links_after : {P E : Type 0} (node : List ℕ → Node P E) (frame : List ℕ → List ℕ) (image : Image) (old mid new : List Drafted) (level lower : Beside) → ((own : ℕ → Bool) → IsClosed (nodes node old image) own → HasAll own level → HasAll own lower)
    → LinksLevel node frame image old mid lower → LinksLevel node frame image mid new level → LinksLevel node frame image old new level
links_after node frame image old mid new level lower has first rest = record {
  same = λ n. rest.same n ∙ first.same n;
  frames = λ n. rest.frames n ∙ first.frames n;
  keeps = λ own closed all n off. rest.keeps own (closed_as node image old mid own first.same closed) all n off ∙ first.keeps own closed (has own closed all) n off;
}

-- from a root on
pub links_tree : {P E : Type 0} (node : List ℕ → Node P E) (frame : List ℕ → List ℕ) (image : Image) (old new : List Drafted) (root : Node P E) (level : Beside) → NamesAll root level → LinksLevel node frame image old new level → LinksTree node frame image old new root
links_tree node frame image old new root level names links = record {
  same = links.same;
  frames = links.frames;
  keeps = λ own closed top. links.keeps own closed (record { before = one own top level.before names.before; here = top level.here names.here; behind = one own top level.behind names.behind; next = one own top level.next names.next });
}
  where
    one : (own : ℕ → Bool) → ((n : ℕ) → IsChild root n → own n ≡ true) → (o : Option ℕ) → IfSome o (IsChild root) → Has own o
    one own top None child = tt
    one own top (Some n) child = top n child

pub tree_none : {P E : Type 0} (node : List ℕ → Node P E) (frame : List ℕ → List ℕ) (image : Image) (drafts : List Drafted) (root : Node P E) → LinksTree node frame image drafts drafts root
tree_none node frame image drafts root = record { same = λ n. refl; frames = λ n. refl; keeps = λ own closed top n off. refl }

-- links of a page of a level, as a later view shows it
pub page_links : {P E : Type 0} (node : List ℕ → Node P E) (frame : List ℕ → List ℕ) (image later : Image) (old new : List Drafted) (page : Option ℕ) (level : Beside) → later ≡ image → ((own : ℕ → Bool) → HasAll own level → Has own page) → LinksPage node frame later old new page → LinksLevel node frame image old new level
page_links node frame image later old new page level same has links = links_page node frame image old new page level has (subst (λ (i : Image). LinksPage node frame i old new page) same links)

-- the links of three pages beside each other
pub links_both : {P E : Type 0} (node : List ℕ → Node P E) (frame : List ℕ → List ℕ) (i0 i1 i2 i3 : Image) (d0 d1 d2 d3 d4 : List Drafted) (level : Beside) → i1 ≡ i0 → i2 ≡ i1 → i3 ≡ i2 → LinksPage node frame i0 d0 d1 level.before → LinksPage node frame i1 d1 d2 (Some level.here) → LinksPage node frame i2 d2 d3 (Some level.here)
    → LinksPage node frame i3 d3 d4 level.behind → LinksLevel node frame i0 d0 d4 level
links_both node frame i0 i1 i2 i3 d0 d1 d2 d3 d4 level e1 e2 e3 a b c d =
    links_then node frame i0 d0 d1 d4 level level (λ own closed all. all) (links_page node frame i0 d0 d1 level.before level (λ own all. all.before) a)
    (links_then node frame i0 d1 d2 d4 level level (λ own closed all. all) (page_links node frame i0 i1 d1 d2 (Some level.here) level e1 (λ own all. all.here) b)
    (links_then node frame i0 d2 d3 d4 level level (λ own closed all. all) (page_links node frame i0 i2 d2 d3 (Some level.here) level (e2 ∙ e1) (λ own all. all.here) c)
    (page_links node frame i0 i3 d3 d4 level.behind level (e3 ∙ e2 ∙ e1) (λ own all. all.behind) d)))

-- pages beside each other but for the one before
pub none_before : (own : ℕ → Bool) (level : Beside) → HasAll own level → HasAll own (record { before = None; here = level.here; behind = level.behind; next = level.next })
none_before own level all = record { before = tt; here = all.here; behind = all.behind; next = all.next }

pub level_as : {P E : Type 0} (node : List ℕ → Node P E) (frame : List ℕ → List ℕ) (image later : Image) (old new : List Drafted) (level : Beside) → later ≡ image → LinksLevel node frame later old new level → LinksLevel node frame image old new level
level_as node frame image later old new level same links = subst (λ (i : Image). LinksLevel node frame i old new level) same links

-- ---- by the code's names

pub on_ok : {T E : Type 0} {A B : Type 0} (r : Result T E) → (A → B) → OnOk r A → OnOk r B
on_ok (Ok t) f h = f h
on_ok (Err e) f h = tt

-- what the level below has, as the walk down tells it
abbrev pub GoesDown : {P E : Type 0} → (List ℕ → Node P E) → Image → List Drafted → Beside → Option Beside → Type 0
GoesDown node image drafts level lower = IfSome lower (λ low. (own : ℕ → Bool) → IsClosed (nodes node drafts image) own → HasAll own level → HasAll own low)

-- a level, and then those below it
pub links_down : {P E : Type 0} (node : List ℕ → Node P E) (frame : List ℕ → List ℕ) (i0 i1 i2 : Image) (old mid new : List Drafted) (level : Beside) (lower : Option Beside) (low : Beside) → i1 ≡ i0 → i2 ≡ i1 → lower ≡ Some low → LinksLevel node frame i0 old mid level
    → GoesDown node i1 mid (record { before = None; here = level.here; behind = level.behind; next = level.next }) lower → LinksLevel node frame i2 mid new low → LinksLevel node frame i0 old new level
links_down node frame i0 i1 i2 old mid new level lower low e1 e2 is first down rest =
    let d = subst (λ (i : Image). GoesDown node i mid (record { before = None; here = level.here; behind = level.behind; next = level.next }) (Some low)) e1 (subst (λ o. GoesDown node i1 mid (record { before = None; here = level.here; behind = level.behind; next = level.next }) o) is down) in
    links_then node frame i0 old mid new level low (λ own closed all. d own (closed_as node i0 old mid own first.same closed) (none_before own level all)) first (level_as node frame i0 i2 mid new low (e2 ∙ e1) rest)

-- those below a level
pub links_below : {P E : Type 0} (node : List ℕ → Node P E) (frame : List ℕ → List ℕ) (i0 i1 : Image) (old new : List Drafted) (level : Beside) (lower : Option Beside) (low : Beside) → i1 ≡ i0 → lower ≡ Some low
    → GoesDown node i0 old level lower → LinksLevel node frame i1 old new low → LinksLevel node frame i0 old new level
links_below node frame i0 i1 old new level lower low e1 is down rest =
    let d = subst (λ o. GoesDown node i0 old level o) is down in
    let r = level_as node frame i0 i1 old new low e1 rest in
    record { same = r.same; frames = r.frames; keeps = λ own closed all. r.keeps own closed (d own closed all) }

pub links_twice : {P E : Type 0} (node : List ℕ → Node P E) (frame : List ℕ → List ℕ) (i0 i1 : Image) (old mid new : List Drafted) (level : Beside) → i1 ≡ i0 → LinksLevel node frame i0 old mid level → LinksLevel node frame i1 mid new level → LinksLevel node frame i0 old new level
links_twice node frame i0 i1 old mid new level same first rest = links_then node frame i0 old mid new level level (λ own closed all. all) first (level_as node frame i0 i1 mid new level same rest)
