-- What is asked of any volume, part by part; and what a claim took.
use Rattle.std.proofs.Common.{◌≡◌, ◌<◌, refl, sym, ap, ◌∙◌, subst, ℕ, ◌+◌, Bool, true, false, if◌then◌else◌, List, [], ◌++◌, Result, Ok, Err, arith}
use Rattle.jfs_bits.specs.declared.descriptor.Pxd.{Pxd}
use Rattle.jfs_imap.specs.Inodes.{Inodes}
use Rattle.jfs_bmap.specs.States.{Blocks, unowned_count, is_in_list, AreApart}
use Rattle.jfs_claim.specs.runs.specs.Laws.{one_if}
use Rattle.jfs_claim.specs.runs.proofs.Counted.{counted}
use Rattle.jfs_lead_steps.specs.page_tree.specs.Edit.{count_in}
use Rattle.jfs_lead_steps.specs.page_tree.specs.Fresh.{blocks_of}
use Rattle.jfs_lead_steps.specs.dtree.specs.Room.{deep_on_way}
use Rattle.jfs_lead_steps.specs.objects.specs.Objects.{has_names}
use Rattle.jfs_lead_steps.specs.meaning.specs.Readers.{root_of}
use Rattle.jfs_lead_steps.specs.meaning.proofs.Books.{count_append}
use Rattle.jfs_plain.specs.Tree.{and_then}
use Rattle.jfs_plain.specs.Step.{is_full, need_of_name}
use Rattle.jfs_plain.specs.declared.refusal.Refusal.{Refusal}
use Rattle.jfs_plain.specs.declared.refusal.Refusal.TheVariants.{IsDir, TooManyLinks, TooDeep}
use Rattle.jfs_steps.specs.way.specs.Way.{path_of}
use Rattle.jfs_steps.specs.way.specs.declared.object.Held.{Held}
use Rattle.jfs_steps.specs.Place.{last_of, new_place_of}
use Rattle.jfs_claim.specs.Look.{space_for}
use Rattle.jfs_claim.specs.Take.{Reserves, AreFresh, claimed, run_list, reserving}
use Rattle.jfs_claim.specs.declared.reserve.Claim.{Claim}
use Rattle.jfs_link.specs.Link.{unless_full, unless_deep, joint_of, asked_of, asked, ReservesFree}
use Rattle.jfs_link.specs.declared.asking.Joint.{Joint}

module _ (blocks : ℕ) (pages : ℕ → List ℕ) (map : Blocks) (inodes : Inodes) (from to : List (List ℕ)) (object dir : Held) (walked : path_of blocks pages inodes from ≡ Ok object) (other : has_names object.inode ≡ false)
    (placed : new_place_of blocks pages inodes to ≡ Ok dir) (few : is_full object.inode.nlink ≡ false) (space : space_for (unowned_count map) need_of_name ≡ Ok tt) where
  abbrev spaced_by : Held → Result Joint Refusal
  spaced_by dir = and_then (space_for (unowned_count map) need_of_name) (λ it. and_then (unless_deep blocks pages (last_of to) dir) (λ dir. Ok (joint_of object dir)))

  abbrev placed_by : Result Held Refusal → Result Joint Refusal
  placed_by r = and_then r (λ dir. and_then (unless_full object (Ok dir)) spaced_by)

  through : asked blocks pages map inodes from to ≡ and_then (unless_deep blocks pages (last_of to) dir) (λ dir. Ok (joint_of object dir))
  through = ap (λ (r : Result Held Refusal). and_then r (asked_of blocks pages map inodes to)) walked
      ∙ ap (λ (b : Bool). if b then Err IsDir else placed_by (new_place_of blocks pages inodes to)) other
      ∙ ap placed_by placed
      ∙ ap (λ (b : Bool). and_then (if b then Err TooManyLinks else Ok dir) spaced_by) few
      ∙ ap (λ (r : Result (Unit {0}) Refusal). and_then r (λ it. and_then (unless_deep blocks pages (last_of to) dir) (λ dir. Ok (joint_of object dir)))) space

  pub asked_deep : deep_on_way blocks pages (root_of dir.inode) (last_of to) ≡ true → asked blocks pages map inodes from to ≡ Err (TooDeep dir.number)
  asked_deep e = through ∙ ap (λ (b : Bool). and_then (if b then Err (TooDeep dir.number) else Ok dir) (λ dir. Ok (joint_of object dir))) e

  pub asked_is : deep_on_way blocks pages (root_of dir.inode) (last_of to) ≡ false → asked blocks pages map inodes from to ≡ Ok (joint_of object dir)
  asked_is e = through ∙ ap (λ (b : Bool). and_then (if b then Err (TooDeep dir.number) else Ok dir) (λ dir. Ok (joint_of object dir))) e

-- ---- the blocks that are taken of a claim

one_in : (x : Bool) → 0 < one_if x → x ≡ true
one_in true h = refl
one_in false h = absurd (omega (arith, h))

pub reserves_free : (before now : Blocks) (claim : Claim) (taken : List ℕ) (left : List Pxd) → Reserves before now (claimed claim) → run_list claim.run ≡ [] → claim.fresh ≡ claim.blocks → AreFresh before need_of_name (blocks_of claim.fresh)
    → {after : Blocks} → blocks_of claim.fresh ≡ taken ++ blocks_of left → after ≡ reserving [] taken before → ReservesFree before after taken
reserves_free before now claim taken left r none all fresh parts is = record {
  free = λ b l. r.free b (subst (λ (runs : List Pxd). is_in_list runs b ≡ true) (sym (ap (λ (xs : List Pxd). xs ++ claim.blocks) none)) (there b l));
  once = λ b. omega (arith, split b, fresh.once b);
  now_is = is;
}
  where
    split : (b : ℕ) → count_in b (blocks_of claim.fresh) ≡ count_in b taken + count_in b (blocks_of left)
    split b = ap (count_in b) parts ∙ count_append b taken (blocks_of left)

    apart : AreApart claim.blocks
    apart = subst AreApart (ap (λ (xs : List Pxd). xs ++ claim.blocks) none) r.once

    there : (b : ℕ) → 0 < count_in b taken → is_in_list claim.blocks b ≡ true
    there b l = one_in (is_in_list claim.blocks b) (let c = counted claim.blocks apart b in let f = ap (λ (xs : List Pxd). count_in b (blocks_of xs)) all in omega (arith, l, split b, c, f))
