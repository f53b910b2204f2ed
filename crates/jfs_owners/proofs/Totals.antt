-- What trees, files and objects hold is what was counted.
use Rattle.std.proofs.Common.{◌≡◌, refl, subst, ℕ, ◌+◌, Bool, true, false, List, [], Result, Ok, Err, Some, IfOk, arith}
use Rattle.jfs_bits.specs.declared.rule.Rule.{Rule}
use Rattle.jfs_bits.specs.declared.extent.Xad.{Xad}
use Rattle.jfs_disk.specs.Image.{Image, page_of}
use Rattle.jfs_inode.specs.declared.fields.Dinode.{Dinode}
use Rattle.jfs_name.specs.declared.name.NameEntry.{NameEntry}
use Rattle.jfs_tree.specs.Walk.{Marks, rows_of}
use Rattle.jfs_tree.specs.Spells.{tree_of}
use Rattle.jfs_tree.specs.Call.{pages_of}
use Rattle.jfs_xtpage.specs.declared.head.XtForm.TheVariants as extents
use Rattle.jfs_xtree.specs.Node.{xt_scale, xt_node}
use Rattle.jfs_dtpage.specs.declared.head.DtForm.TheVariants as names
use Rattle.jfs_dtree.specs.Node.{name_scale, dt_node}
use Rattle.jfs_findings.specs.objects.specs.Objects.{met, listed, has_extents, names_of, extents_of, spelled}
use Rattle.jfs_findings.specs.objects.specs.Owners.{unless_broken, entries, covers, run_has, holds}
use Rattle.jfs_findings.specs.meaning.specs.Readers.{readers}
use Rattle.jfs_ranges.specs.declared.view.ViewError.{ViewError}
use Rattle.jfs_owners.specs.Counts.{OwnerSets, Adds, page_has}
use Rattle.jfs_owners.specs.Held.{Sees, extents_walk, extents_held, names_walk, names_held, attributes_of}
use Rattle.jfs_owners.proofs.Counted.{adds_none, adds_same, adds_next}
use Rattle.jfs_owners.proofs.Walked.{walk_adds, no_pages}

-- ---- trees

data_of : (l : Result (List Xad) (ℕ × Rule)) (es : List Xad) (n b : ℕ) → l ≡ Ok es → n + covers b es ≡ unless_broken l n + covers b (entries l)
data_of l es n b e = rw e refl

pub no_data : (l : Result (List Xad) (ℕ × Rule)) (f : ℕ × Rule) (n b : ℕ) → l ≡ Err f → unless_broken l n + covers b (entries l) ≡ 0
no_data l f n b e = rw e refl

pages_alone : {E : Type 0} (l : Result (List E) (ℕ × Rule)) (es : List E) (n : ℕ) → l ≡ Ok es → n + 0 ≡ unless_broken l n
pages_alone l es n e = rw e (omega arith)

no_pages_of : {E : Type 0} (l : Result (List E) (ℕ × Rule)) (f : ℕ × Rule) (n : ℕ) → l ≡ Err f → unless_broken l n ≡ 0
no_pages_of l f n e = rw e refl

extents_add : (ms : Marks ℕ Xad) (shown : Bool) (old new : OwnerSets) → Sees xt_scale (λ (o : OwnerSets) (n : ℕ) (w : OwnerSets). Adds (page_has n) o w) (λ (o : OwnerSets) (n : ℕ) (x : Xad) (w : OwnerSets). Adds (run_has x.at) o w) ms old new shown
    → Adds (extents_held ms) old new
extents_add ms true old new h =
    adds_same (λ b. met ms b + covers b (rows_of ms)) (extents_held ms) old new (λ b. data_of (listed xt_scale ms) (rows_of ms) (met ms b) b h.0)
    (walk_adds xt_scale (λ (o : OwnerSets) (n : ℕ) (x : Xad) (w : OwnerSets). Adds (run_has x.at) o w) (λ (x : Xad). run_has x.at) covers (λ b. refl) (λ b e es. refl) (λ v n e u a. a) 0 old ms h.1.0 new h.1.1)
extents_add ms false old new h = adds_none (extents_held ms) old new h.1 (λ b. no_data (listed xt_scale ms) h.0.0 (met ms b) b h.0.1)

names_add : (ms : Marks (List ℕ) NameEntry) (shown : Bool) (old new : OwnerSets) → Sees name_scale (λ (o : OwnerSets) (n : ℕ) (w : OwnerSets). Adds (page_has n) o w) (λ (o : OwnerSets) (n : ℕ) (x : NameEntry) (w : OwnerSets). w ≡ o) ms old new shown
    → Adds (names_held ms) old new
names_add ms true old new h =
    adds_same (λ b. met ms b + 0) (names_held ms) old new (λ b. pages_alone (listed name_scale ms) (rows_of ms) (met ms b) h.0)
    (walk_adds name_scale (λ (o : OwnerSets) (n : ℕ) (x : NameEntry) (w : OwnerSets). w ≡ o) (λ (x : NameEntry) (b : ℕ). 0) (λ (b : ℕ) (es : List NameEntry). 0) (λ b. refl) (λ b e es. refl)
    (λ v n e u a. adds_none (λ b. 0) v u a (λ b. refl)) [] old ms h.1.0 new h.1.1)
names_add ms false old new h = adds_none (names_held ms) old new h.1 (λ b. no_pages_of (listed name_scale ms) h.0.0 (met ms b) h.0.1)

pub extents_counted : (n blocks : ℕ) (image : Image) (root : List ℕ) (shown : Bool) (old new : OwnerSets) → n ≡ blocks
    → Sees xt_scale (λ (o : OwnerSets) (n : ℕ) (w : OwnerSets). Adds (page_has n) o w) (λ (o : OwnerSets) (n : ℕ) (x : Xad) (w : OwnerSets). Adds (run_has x.at) o w)
    (tree_of xt_scale (pages_of (xt_node extents.Full n) image) (xt_node extents.Root n root)) old new shown
    → Adds (extents_held (extents_walk blocks (page_of image) root)) old new
extents_counted n blocks image root shown old new e h =
    subst (λ (m : ℕ). Adds (extents_held (extents_walk m (page_of image) root)) old new) e (extents_add (tree_of xt_scale (pages_of (xt_node extents.Full n) image) (xt_node extents.Root n root)) shown old new h)

-- by one walk
pub sound_counted : {T : Type 0} (n blocks : ℕ) (image : Image) (root : List ℕ) (r : Result T ViewError) (old new : OwnerSets) → n ≡ blocks
    → IfOk r (λ it. (es : List Xad) → listed xt_scale (extents_walk n (page_of image) root) ≡ Ok es
    → Sees xt_scale (λ (o : OwnerSets) (n : ℕ) (w : OwnerSets). Adds (page_has n) o w) (λ (o : OwnerSets) (n : ℕ) (x : Xad) (w : OwnerSets). Adds (run_has x.at) o w) (extents_walk n (page_of image) root) old new true)
    → IfOk r (λ it. (es : List Xad) → listed xt_scale (extents_walk blocks (page_of image) root) ≡ Ok es → Adds (extents_held (extents_walk blocks (page_of image) root)) old new)
sound_counted n blocks image root (Ok it) old new e h =
    subst (λ (m : ℕ). ((es : List Xad) → listed xt_scale (extents_walk m (page_of image) root) ≡ Ok es → Adds (extents_held (extents_walk m (page_of image) root)) old new)) e
    (λ es is. extents_add (extents_walk n (page_of image) root) true old new (h es is))
sound_counted n blocks image root (Err f) old new e h = tt

pub names_counted : (n blocks : ℕ) (image : Image) (root : List ℕ) (shown : Bool) (old new : OwnerSets) → n ≡ blocks
    → Sees name_scale (λ (o : OwnerSets) (n : ℕ) (w : OwnerSets). Adds (page_has n) o w) (λ (o : OwnerSets) (n : ℕ) (x : NameEntry) (w : OwnerSets). w ≡ o)
    (tree_of name_scale (pages_of (dt_node names.Full n) image) (dt_node names.Root n root)) old new shown
    → Adds (names_held (names_walk blocks (page_of image) root)) old new
names_counted n blocks image root shown old new e h =
    subst (λ (m : ℕ). Adds (names_held (names_walk m (page_of image) root)) old new) e (names_add (tree_of name_scale (pages_of (dt_node names.Full n) image) (dt_node names.Root n root)) shown old new h)

-- ---- the trees of an object

pub lacks_extents : (blocks : ℕ) (image : Image) (d : Dinode) (o : OwnerSets) → has_extents d ≡ false → Adds (extents_held (extents_of (readers blocks) (page_of image) d)) o o
lacks_extents blocks image d o h = adds_none (extents_held (extents_of (readers blocks) (page_of image) d)) o o refl (λ b. rw h (let z = no_pages xt_scale b in omega (arith, z)))

sum_of_parts : (attributes names pages blocks : ℕ) → attributes + names + (pages + blocks) ≡ names + pages + blocks + attributes
sum_of_parts attributes names pages blocks = omega arith

-- an object holds its attributes, its names and its extents
pub holds_parts : (blocks : ℕ) (page : ℕ → List ℕ) (d : Dinode) (b : ℕ)
    → attributes_of d b + names_held (names_of (readers blocks) page d) b + extents_held (extents_of (readers blocks) page d) b ≡ holds (readers blocks) (Some (spelled (readers blocks) page d)) b
unfolding holds spelled
holds_parts blocks page d b =
    let tree = extents_of (readers blocks) page d in
    sum_of_parts (attributes_of d b) (names_held (names_of (readers blocks) page d) b) (unless_broken (listed xt_scale tree) (met tree b)) (covers b (entries (listed xt_scale tree)))

-- so it is counted part by part
pub object_joined : (blocks : ℕ) (page : ℕ → List ℕ) (d : Dinode) (o p q w : OwnerSets) → Adds (attributes_of d) o p → Adds (names_held (names_of (readers blocks) page d)) p q
    → Adds (extents_held (extents_of (readers blocks) page d)) q w → Adds (holds (readers blocks) (Some (spelled (readers blocks) page d))) o w
object_joined blocks page d o p q w a n x =
    let walk = names_of (readers blocks) page d in
    let tree = extents_of (readers blocks) page d in
    adds_same (λ b. attributes_of d b + names_held walk b + extents_held tree b) (holds (readers blocks) (Some (spelled (readers blocks) page d))) o w (holds_parts blocks page d)
    (adds_next (λ b. attributes_of d b + names_held walk b) (extents_held tree) o q w (adds_next (attributes_of d) (names_held walk) o p q a n) x)

pub object_counted : {T : Type 0} (blocks now : ℕ) (image after : Image) (d : Dinode) (r : Result T ViewError) (o p q w : OwnerSets) → now ≡ blocks → after ≡ image
    → Adds (attributes_of d) o p → Adds (names_held (names_of (readers blocks) (page_of image) d)) p q
    → IfOk r (λ it. Adds (extents_held (extents_of (readers now) (page_of after) d)) q w) → IfOk r (λ it. Adds (holds (readers blocks) (Some (spelled (readers blocks) (page_of image) d))) o w)
object_counted blocks now image after d (Ok it) o p q w e f a n x =
    object_joined blocks (page_of image) d o p q w a n
    (subst (λ (i : Image). Adds (extents_held (extents_of (readers blocks) (page_of i) d)) q w) f (subst (λ (m : ℕ). Adds (extents_held (extents_of (readers m) (page_of after) d)) q w) e x))
object_counted blocks now image after d (Err g) o p q w e f a n x = tt
