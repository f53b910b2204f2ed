-- A map whose owned blocks are all that is used.
use Rattle.std.proofs.Common.{◌≡◌, ◌<◌, ◌≤◌, ◌+◌, ◌^◌, ℕ, Bool, true, false, List, [], length, refl, sym, ap, ◌∙◌, arith}
use Rattle.std.specs.Prelude.{if◌then◌else◌}
use Rattle.std.proofs.lemmas.Bool.{both_ways}
use Rattle.std.proofs.lemmas.List.Elements.{All-nil}
use Rattle.jfs_bits.specs.Bits.{is_taken}
use Rattle.jfs_bmap.specs.Set.{each_below, taken_at}
use Rattle.jfs_bmap.specs.States.{Free, Owned, fresh}
use Rattle.jfs_bmap.specs.Freed.{entry_at, IsInOrder}
use Rattle.jfs_bmap.specs.Kept.{Parts, AreKept}
use Rattle.jfs_bmap.proofs.Views.{length-each_below, taken_at-each_below, each_below-at}
use Rattle.jfs_bmap.proofs.States.{state_by, state_in-by, view_of, view-length, state-at, same_blocks}

-- three times one set, and no released run
abbrev pub one_set : List Bool → Parts
one_set set = record { owned = set; held = set; used = set; entries = []; heap = [] }

pub kept-fresh : (set : List Bool) → length set ≤ 2 ^ 23 → IsInOrder [] → AreKept (one_set set)
kept-fresh set most order = record {
  most = most;
  held_blocks = refl;
  used_blocks = refl;
  are_held = λ b h. h;
  are_used = λ b h. h;
  pending = record {
    order = order;
    within = All-nil (λ run. run.first + run.blocks ≤ length set);
    covered = λ b h u. absurd (both_ways (taken_at set b) h u);
  };
}

-- a block is owned or free
pub view-fresh : (bits : List ℕ) (blocks agsize : ℕ) → view_of (one_set (each_below blocks (is_taken bits))) agsize 0 ≡ fresh bits blocks agsize
view-fresh bits blocks agsize =
    let set = each_below blocks (is_taken bits) in
    let p = one_set set in
    let size = view-length p agsize 0 ∙ length-each_below blocks (is_taken bits) in
    let state = λ (b : ℕ). if is_taken bits b then Owned else Free in
    same_blocks (view_of p agsize 0) (fresh bits blocks agsize) (size ∙ sym (length-each_below blocks state)) (λ b h.
    let within : b < blocks = omega (arith, size) in
    state-at p agsize 0 b ∙ state_in-by p b
    ∙ both (taken_at set b) (entry_at [] b)
    ∙ ap (λ (t : Bool). if t then Owned else Free) (taken_at-each_below blocks (is_taken bits) b within)
    ∙ sym (each_below-at blocks state b Owned within))
    refl refl
  where
    both : (o : Bool) (e : ℕ) → state_by o o o e ≡ (if o then Owned else Free)
    both true e = refl
    both false e = refl
