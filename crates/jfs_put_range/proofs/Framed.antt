-- Frames of pages: each that was taken names itself, and each other keeps its own.
use Rattle.std.proofs.Common.{◌≡◌, ◌≤◌, ◌<◌, inl, inr, refl, sym, ap, ◌∙◌, subst, ℕ, Bool, List, Option, Some, None, Result, Ok, Err, OnOk, arith}
use Rattle.std.proofs.lemmas.Bool.{cases_eq}
use Rattle.jfs_bits.specs.declared.extent.Xad.{Xad}
use Rattle.jfs_disk.specs.Image.{Image}
use Rattle.jfs_tree.specs.Edit.{count_in}
use Rattle.jfs_tree.specs.Call.{StaysOff, StaysTaken}
use Rattle.jfs_tree.specs.Draft.{shown}
use Rattle.jfs_tree.specs.Frames.{TakesFramed}
use Rattle.jfs_tree.specs.declared.draft.Drafted.{Drafted}
use Rattle.jfs_tree.specs.declared.form.Sibling.{Sibling}
use Rattle.jfs_tree.specs.declared.form.TreeError.{TreeError}
use Rattle.jfs_tree.proofs.Framing.{one_framed, two_framed, moved_names}
use Rattle.jfs_tree.proofs.Telling.{less_or}
use Rattle.jfs_xtpage.specs.declared.head.XtForm.TheVariants.{Full}
use Rattle.jfs_xtree.specs.Node.{frame_of, new_frame, page_frame}
use Rattle.jfs_xtree.proofs.Frames.{page_kept, page_new}
use Rattle.jfs_refill.specs.Stored.{Stored}
use Rattle.jfs_refill.specs.Rooted.{RootStored}
use Rattle.jfs_put_range.specs.Parts.{Framed, OthersFramed}

never_less : {X : Type 0} (n : ℕ) → n < n → X
never_less n h = absurd (omega (arith, h))

-- where no page changed
pub framed_none : (pages : ℕ → List ℕ) (free : List ℕ) → Framed pages pages free free
framed_none pages free = record { taken = λ n lt. never_less (count_in n free) lt; others = λ n e. refl }

-- one change behind the other
pub others_then : (before middle after : ℕ → List ℕ) (free between left : List ℕ) → ((n : ℕ) → count_in n between ≤ count_in n free) → ((n : ℕ) → count_in n left ≤ count_in n between)
    → OthersFramed before middle free between → OthersFramed middle after between left → OthersFramed before after free left
others_then before middle after free between left fewer less first next n e =
    let f = fewer n in let l = less n in
    next n (omega (arith, e, f, l)) ∙ first n (omega (arith, e, f, l))

pub framed_then : (before middle after : ℕ → List ℕ) (free between left : List ℕ) → ((n : ℕ) → count_in n between ≤ count_in n free) → ((n : ℕ) → count_in n left ≤ count_in n between)
    → Framed before middle free between → Framed middle after between left → Framed before after free left
framed_then before middle after free between left fewer less first next = record {
  taken = λ n lt. elim (less_or (count_in n left) (count_in n between) (less n)) [
    | inl there ↦ next.taken n there
    | inr same ↦ next.others n (sym same) ∙ first.taken n (omega (arith, lt, same))
  ];
  others = others_then before middle after free between left fewer less first.others next.others;
}

-- a page that isn't free isn't taken
pub none_taken : (f b : ℕ) → f ≡ 0 → b ≤ f → f ≡ b
none_taken f b z l = omega (arith, z, l)

-- what is put into a draft
as_framed : (bytes : List ℕ) (page : ℕ) (old new : List Drafted) (image : Image) (free left : List ℕ) → frame_of Full bytes ≡ frame_of Full (shown old image page) → TakesFramed (frame_of Full) new_frame bytes page old new free left
    → Framed (shown old image) (shown new image) free left
as_framed bytes page old new image free left read t = record { taken = λ n lt. t.taken image n lt; others = λ n e. t.others image read n e }

pub stored_framed : (full : Bool) (list : List Xad) (bytes : List ℕ) (page : ℕ) (old new : List Drafted) (image : Image) (free left : List ℕ) (more : Option (Sibling ℕ)) → frame_of Full bytes ≡ frame_of Full (shown old image page)
    → Stored list full bytes page old new free left more → Framed (shown old image) (shown new image) free left
stored_framed full list bytes page old new image free left None read (few, left_is, stored) =
    subst (λ f. Framed (shown old image) (shown new image) free f) (sym left_is)
    (as_framed bytes page old new image free free read (one_framed (frame_of Full) new_frame bytes stored.page page old new free stored.puts (ap page_frame stored.head)))
stored_framed full list bytes page old new image free left (Some s) read (long, popped, stored) =
    as_framed bytes page old new image free left read
    (two_framed (frame_of Full) new_frame bytes stored.first stored.second page s.page old new free left stored.puts popped
    (page_kept Full bytes stored.first (λ top. top) stored.divided.kind.0.max stored.divided.kind.1)
    (page_new Full stored.second s.page (λ top. top) stored.divided.fresh.1 stored.divided.fresh.2))

-- a root that stands, or moved to a page that was taken
pub root_framed : (levels : ℕ) (list : List Xad) (root after : List ℕ) (old new : List Drafted) (image : Image) (free left : List ℕ) (r : Result (Unit {0}) TreeError) → RootStored levels list root after old new free left r → OnOk r (StaysTaken old new free left)
    → OnOk r (Framed (shown old image) (shown new image) free left)
root_framed levels list root after old new image free left (Err e) stored stays = tt
root_framed levels list root after old new image free left (Ok it) (inl (has, same, left_is)) stays = record {
  taken = λ n lt. never_less (count_in n free) (subst (λ (f : List ℕ). count_in n f < count_in n free) left_is lt);
  others = λ n e. ap (frame_of Full) (stays image n e);
}
root_framed levels list root after old new image free left (Ok it) (inr (deep, moves)) stays = record {
  taken = λ n lt. moved_names (frame_of Full) new_frame old new moves.q moves.page free left (Ok it) moves.puts moves.taken (ap page_frame moves.moved.head) image n lt;
  others = λ n e. ap (frame_of Full) (stays image n e);
}

-- ---- whatever the volume holds

-- the pages below a page, and then the page itself, which was read before
pub page_others : (full : Bool) (list : List Xad) (bytes : List ℕ) (page : ℕ) (old mid new : List Drafted) (image : Image) (free between left : List ℕ) (more : Option (Sibling ℕ)) → bytes ≡ shown old image page
    → ((m : ℕ) → count_in m between ≤ count_in m free) → ((m : ℕ) → count_in m left ≤ count_in m between) → OthersFramed (shown old image) (shown mid image) free between
    → Stored list full bytes page mid new between left more → StaysOff page mid new between left → OthersFramed (shown old image) (shown new image) free left
page_others full list bytes page old mid new image free between left more read fewer less below stored off n e =
    let f = fewer n in let l = less n in
    let first : count_in n free ≡ count_in n between = omega (arith, e, f, l) in
    let next : count_in n between ≡ count_in n left = omega (arith, e, f, l) in
    elim (cases_eq n page) [
      | inl is ↦
          let same : frame_of Full (shown mid image page) ≡ frame_of Full (shown old image page) = subst (λ m. frame_of Full (shown mid image m) ≡ frame_of Full (shown old image m)) is (below n first) in
          (stored_framed full list bytes page mid new image between left more (ap (frame_of Full) read ∙ sym same) stored).others n next ∙ below n first
      | inr o ↦ ap (frame_of Full) (off image n o next) ∙ below n first
    ]

-- a root that got a list once the pages below it did
pub root_others : (old mid new : List Drafted) (image : Image) (free between left : List ℕ) (r : Result (Unit {0}) TreeError) → ((m : ℕ) → count_in m between ≤ count_in m free) → ((m : ℕ) → count_in m left ≤ count_in m between)
    → OthersFramed (shown old image) (shown mid image) free between → OnOk r (StaysTaken mid new between left) → OnOk r (OthersFramed (shown old image) (shown new image) free left)
root_others old mid new image free between left (Err e) fewer less below stays = tt
root_others old mid new image free between left (Ok it) fewer less below stays =
    others_then (shown old image) (shown mid image) (shown new image) free between left fewer less below (λ n e. ap (frame_of Full) (stays image n e))
