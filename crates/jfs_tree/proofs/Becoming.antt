-- What the steps of a call make of a tree, one after the other.
use Rattle.std.proofs.Common.{◌≡◌, ◌≤◌, ◌<◌, inl, inr, ap, ◌∙◌, ℕ, ◌+◌, List, [], length, Option, Some, None, Result, Ok, Err, OnOk, arith}
use Rattle.std.specs.Prelude.{reverse}
use Rattle.std.proofs.lemmas.List.{length-append, length-reverse}
use Rattle.jfs_disk.specs.Image.{Image, page_of}
use Rattle.jfs_ranges.specs.declared.edit.Edit.{Edit}
use Rattle.jfs_tree.specs.Walk.{Node, Scale}
use Rattle.jfs_tree.specs.Spells.{footprint}
use Rattle.jfs_tree.specs.Edit.{count_in}
use Rattle.jfs_tree.specs.Form.{IsFront}
use Rattle.jfs_tree.specs.Call.{nodes}
use Rattle.jfs_tree.specs.Draft.{shown}
use Rattle.jfs_tree.specs.Tell.{TellsDraft}
use Rattle.jfs_tree.specs.Fresh.{after_tx, HasPages}
use Rattle.jfs_tree.specs.Adds.{read_as}
use Rattle.jfs_tree.specs.Room.{RootRoom, RootGrownRoom}
use Rattle.jfs_tree.specs.declared.form.Sibling.{Sibling}
use Rattle.jfs_tree.specs.declared.form.TreeError.{TreeError}
use Rattle.jfs_tree.specs.Becomes.{Becomes, BecomesTold}
use Rattle.jfs_tree.specs.declared.draft.Drafted.{Drafted}
use Rattle.jfs_tree.proofs.Footprint.{spells_frame, footprint_frame}
use Rattle.jfs_tree.proofs.Within.{footprint_within}
use Rattle.jfs_tree.proofs.Runs.{count_reverse}

-- the draft's pages are those that all edits lead to
pub becomes_told : {P E : Type 0} (s : Scale P E) (node : List ℕ → Node P E) (blocks : ℕ) (image : Image) (list : List E) (root after : Node P E) (drafts : List Drafted) (free left stack rest : List ℕ) (tx later : List Edit)
    → HasPages blocks after → ((bytes : List ℕ) → HasPages blocks (node bytes)) → Becomes s node list (shown [] image) (shown drafts image) root after stack rest → TellsDraft blocks image drafts tx later → stack ≡ reverse free → left ≡ reverse rest
    → BecomesTold s node blocks list (page_of image) root after free left tx later
becomes_told s node blocks image list root after drafts free left stack rest tx later top_has has b told is_stack is_left = λ base leads.
    let counts = λ (n : ℕ). ap (count_in n) is_stack ∙ count_reverse n free in
    let lefts = λ (n : ℕ). ap (count_in n) is_left ∙ count_reverse n rest in
    let agree = λ (n : ℕ) (h : n < blocks). ap node (told n h (base n) (leads n h).0 (leads n h).1) in
    let drafted = nodes node drafts image in
    let frame = λ (n : ℕ) (h : 0 < footprint s drafted after n). agree n (footprint_within s drafted after n blocks top_has (λ m. has (shown drafts image m)) h) in
    record {
      spelled = spells_frame s drafted (read_as node (after_tx base later)) after frame ∙ b.spelled;
      owned = λ n. (let f = footprint_frame s drafted (read_as node (after_tx base later)) after frame n in let p = b.pages n in let c = counts n in let l = lefts n in omega (arith, f, p, c, l));
      keeps = λ n h z e. told n h (base n) (leads n h).0 (leads n h).1 ∙ b.keeps n z (counts n ∙ e ∙ lefts n);
    }

-- what is left of a stack is no longer than it
pub front_fits : (all given left : List ℕ) (n : ℕ) → given ≡ all → n ≡ length left → IsFront left (reverse all) → n ≤ length given
front_fits all given left n is at front =
    let a = ap length front.1 in
    let b = length-append left front.0 in
    let c = length-reverse all in
    let d = ap length is in
    omega (arith, a, b, c, d, at)

-- ---- how many pages an added entry takes

pub root_uses : {A E : Type 0} (r : Result A E) (full : Type 0) (free left : List ℕ) → OnOk r (RootRoom full free left) → OnOk r (length free ≤ length left + 8)
root_uses (Ok it) full free left (inl same) = let h = ap length same in omega (arith, h)
root_uses (Ok it) full free left (inr (f, one)) = omega (arith, one)
root_uses (Err e) full free left h = tt

pub grown_uses : {P E : Type 0} (s : Scale P E) (no_place : P → Type 0) (place : ℕ) (more : Option (Sibling P)) (root : Node P E) (free between left : List ℕ) (levels : ℕ) (r : Result (Unit {0}) TreeError) → length free ≤ length between + levels → levels ≤ 7
    → RootGrownRoom s no_place place more root between left r → OnOk r (length free ≤ length left + 8)
grown_uses s no_place place None root free between left levels (Ok it) used most same = let h = ap length same in omega (arith, used, most, h)
grown_uses s no_place place (Some child) root free between left levels (Ok it) used most (inl same) = let h = ap length same in omega (arith, used, most, h)
grown_uses s no_place place (Some child) root free between left levels (Ok it) used most (inr (f, one)) = omega (arith, used, most, one)
grown_uses s no_place place more root free between left levels (Err e) used most h = tt
