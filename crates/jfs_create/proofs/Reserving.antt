-- The blocks that are reserved for a new object.
use Rattle.std.proofs.Common.{◌≡◌, ◌≤◌, ◌<◌, ◌⊎◌, inr, refl, sym, ap, ◌∙◌, subst, ℕ, ◌+◌, Bool, true, false, true≢false, ◌&&◌, ◌||◌, nat_le, nat_lt, if◌then◌else◌, List, [], ◌∷◌, ◌++◌, length, append_assoc, Option, Some, None, arith}
use Rattle.std.specs.List.{All}
use Rattle.std.proofs.lemmas.Bool.Decides.{nat_tests}
use Rattle.std.proofs.lemmas.List.Elements.{All-head}
use Rattle.jfs_bits.specs.declared.descriptor.Pxd.{Pxd}
use Rattle.jfs_bits.specs.declared.rule.PageKind.TheVariants as kinds
use Rattle.jfs_bmap.specs.States.{Blocks, Reserved, changed, is_used, put_state, is_in_list, AreApart}
use Rattle.jfs_bmap.specs.Choice.{AreLowestBlocks}
use Rattle.jfs_bmap.proofs.Puts.{in_list-none}
use Rattle.jfs_ranges.specs.declared.edit.Edit.{Edit}
use Rattle.jfs_tree.specs.Edit.{count_in}
use Rattle.jfs_tree.specs.Fresh.{blocks_of, run_from}
use Rattle.jfs_link.specs.objects.specs.Owners.{run_has}
use Rattle.jfs_plain.specs.declared.refusal.Refusal.{Refusal}
use Rattle.jfs_link.specs.room.specs.Laws.{blocks_in}
use Rattle.jfs_link.specs.runs.specs.Laws.{one_if}
use Rattle.jfs_link.specs.runs.proofs.Counted.{counted, count_append}
use Rattle.jfs_link.specs.claim.specs.Take.{AreFresh, Claims, HasFree, IsPartlyTaken, IsRun, Reserves, claimed, reserving, run_list}
use Rattle.jfs_link.specs.claim.specs.declared.reserve.Claim.{Claim}
use Rattle.jfs_link.specs.way.specs.Answer.{is_open}
use Rattle.jfs_link.specs.way.specs.declared.object.Held.{Held}
use Rattle.jfs_link.specs.Link.{ReservesFree}
use Rattle.jfs_link.specs.steps.specs.After.{takes, four_from}
use Rattle.jfs_link.specs.steps.specs.Gains.{GainRefused}
use Rattle.jfs_link.specs.steps.specs.Laws.{ChangesPagesAlone}
use Rattle.jfs_link.specs.steps.proofs.After.{lines_alone, runs_leave}
use Rattle.jfs_link.specs.steps.proofs.Sets.{lines_on_top, taken_move, takes_onto}
use Rattle.jfs_ranges.specs.Laid.{put_tx}
use Rattle.jfs_create.specs.Makes.{Makes, IsBetween, gain_of}
use Rattle.jfs_create.specs.Plans.{IsPlanned, IsPlannedAt, SuitsRun}
use Rattle.jfs_create.specs.Reserved.{MakesReserved, LacksPlace, MayTake, want_with}
use Rattle.jfs_create.specs.Seat.{IsSiteWithin, needs_run}
use Rattle.jfs_create.specs.declared.extent.NewExtent.{NewExtent}
use Rattle.jfs_create.specs.declared.make.Plan.{Plan}
use Rattle.jfs_create.specs.declared.plan.Draft.{Draft}
use Rattle.jfs_create.specs.declared.seats.Site.{Site}
use Rattle.jfs_create.specs.declared.seats.Site.TheVariants.{There, Founding}
use Rattle.jfs_create.proofs.Extents.{takes_are}

-- ---- what the edits take

-- how often an extent that is made has a block
abbrev run_blocks : Option NewExtent → ℕ → ℕ
run_blocks None b = 0
run_blocks (Some extent) b = run_has (four_from extent.run.addr) b

module _ (blocks : ℕ) (pages : ℕ → List ℕ) (dir : Held) (name : List ℕ) (plan : Plan) (free left : List Pxd) (tx : List Edit) (makes : Makes blocks pages dir name plan free left tx) where
  abbrev tree_took : List ℕ
  tree_took = makes.gains.edits.0

  dir_takes : (b : ℕ) → takes makes.mid b ≡ count_in b tree_took
  dir_takes = (lines_on_top blocks pages dir.page makes.gains.mid makes.mid tree_took [] (taken_move blocks kinds.Dtree pages (blocks_of free) (blocks_of left) makes.gains.mid (λ first bytes. refl) makes.gains.edits) makes.gains.lines).taken_are

  between_takes : (extent : Option NewExtent) → IsBetween extent makes.mid makes.more → (b : ℕ) → takes makes.more b ≡ run_blocks extent b + takes makes.mid b
  between_takes None same b = let e = ap (λ (all : List Edit). takes all b) same in omega (arith, e)
  between_takes (Some extent) told b = takes_are extent told.one told.two told.three told.four told.first told.second told.third told.fourth makes.mid makes.more told.told b

  inode_takes : (b : ℕ) → takes tx b ≡ takes makes.more b
  inode_takes b = ap (λ (all : List Edit). takes all b) makes.lines.1 ∙ takes_onto makes.more makes.lines.0 b ∙ (let z = alone.takes_none b in omega (arith, z))
    where
      alone : ChangesPagesAlone makes.lines.0
      alone = lines_alone makes.lines.0 (runs_leave plan.page kinds.Inode (put_tx blocks makes.more pages plan.page) (put_tx blocks tx pages plan.page) 0 makes.lines.0 makes.lines.2)

  pub edits_take : (b : ℕ) → takes tx b ≡ run_blocks plan.extent b + count_in b tree_took
  edits_take b = let i = inode_takes b in let e = between_takes plan.extent makes.extent b in let d = dir_takes b in omega (arith, i, e, d)

-- ---- the run

-- an extent is made on the run
run_there : (site : Site) (draft : Draft) (run : Option Pxd) (plan : Plan) → SuitsRun site run → IsPlannedAt draft site run plan → (b : ℕ) → run_blocks plan.extent b ≡ one_if (is_in_list (run_list run) b)
unfolding is_in_list
run_there (There seated) draft None plan suits planned b = ap (λ (p : Plan). run_blocks p.extent b) planned
run_there (There seated) draft (Some run) plan suits planned b = absurd suits
run_there (Founding founded) draft None plan suits planned b = absurd suits
run_there (Founding founded) draft (Some run) plan suits planned b = ap (λ (p : Plan). run_blocks p.extent b) planned
    ∙ ap (λ (n : ℕ). one_if (nat_le run.addr b && nat_lt b (run.addr + n))) (sym suits.0) ∙ same (nat_le run.addr b && nat_lt b (run.addr + run.len))
  where
    same : (x : Bool) → one_if x ≡ one_if (x || false)
    same true = refl
    same false = refl

-- a claim's run suits the site, and lies within the volume
pub suits_run : (blocks : ℕ) (map : Blocks) (site : Site) (run : Option Pxd) (rest : List Pxd) → blocks_in map ≡ blocks → IsSiteWithin blocks site → IsRun map (needs_run site) run → All (λ r. r.addr + r.len ≤ length map.states) (run_list run ++ rest) → SuitsRun site run
suits_run blocks map (There seated) None rest many site is within = tt
suits_run blocks map (There seated) (Some run) rest many site is within = absurd (true≢false (sym is.0))
suits_run blocks map (Founding founded) None rest many site is within = absurd (true≢false is)
suits_run blocks map (Founding founded) (Some run) rest many site is within = (is.1, (let w = All-head (λ r. r.addr + r.len ≤ length map.states) run rest within in let l = is.1 in let f = site.1 in omega (arith, w, l, f, many)))

pub run_within : (blocks : ℕ) (map : Blocks) (run : Option Pxd) (rest : List Pxd) → blocks_in map ≡ blocks → (wanted : Bool) → IsRun map wanted run → All (λ r. r.addr + r.len ≤ length map.states) (run_list run ++ rest) → (r : Pxd) → run ≡ Some r → r.addr < blocks
run_within blocks map None rest many wanted is within r e = absurd (cc (e))
run_within blocks map (Some run) rest many wanted is within r e = subst (λ (p : Pxd). p.addr < blocks) (one run r e) (let w = All-head (λ r. r.addr + r.len ≤ length map.states) run rest within in let l = is.1 in omega (arith, w, l, many))
  where
    one : (x y : Pxd) → Some x ≡ Some y → x ≡ y
    one x y h = cc (h)

-- ---- the claim

run_apart : (run : Option Pxd) → AreApart (run_list run)
unfolding AreApart
run_apart None = tt
run_apart (Some run) = ((λ b t. in_list-none b), tt)

blocks_append : (xs ys : List Pxd) → blocks_of (xs ++ ys) ≡ blocks_of xs ++ blocks_of ys
blocks_append [] ys = refl
blocks_append (p ∷ ps) ys = ap (λ (rest : List ℕ). run_from p.addr p.len ++ rest) (blocks_append ps ys) ∙ sym (append_assoc (run_from p.addr p.len) (blocks_of ps) (blocks_of ys))

one_in : (x : Bool) → 0 < one_if x → x ≡ true
one_in true h = refl
one_in false h = absurd (omega (arith, h))

one_most : (x : Bool) → one_if x ≤ 1
one_most true = omega arith
one_most false = omega arith

at_one : (x : Bool) → x ≡ true → one_if x ≡ 1
at_one true h = refl
at_one false h = absurd (true≢false (sym h))

module _ (before now : Blocks) (claim : Claim) (reserves : Reserves before now (claimed claim)) where
  abbrev in_run : ℕ → ℕ
  in_run b = count_in b (blocks_of (run_list claim.run))

  -- each block of a claim is there once
  whole : (b : ℕ) → in_run b + count_in b (blocks_of claim.blocks) ≡ one_if (is_in_list (claimed claim) b)
  whole b = sym (count_append b (blocks_of (run_list claim.run)) (blocks_of claim.blocks)) ∙ sym (ap (count_in b) (blocks_append (run_list claim.run) claim.blocks)) ∙ counted (claimed claim) reserves.once b

  pub run_aside : (b : ℕ) → is_in_list (run_list claim.run) b ≡ true → count_in b (blocks_of claim.blocks) ≡ 0
  run_aside b here = let w = whole b in let m = one_most (is_in_list (claimed claim) b) in let r = counted (run_list claim.run) (run_apart claim.run) b in let o = at_one (is_in_list (run_list claim.run) b) here in omega (arith, w, m, r, o)

  module _ (taken : List ℕ) (left : List Pxd) (parts : blocks_of claim.blocks ≡ taken ++ blocks_of left) where
    abbrev all_taken : List ℕ
    all_taken = blocks_of (run_list claim.run) ++ taken

    split : (b : ℕ) → count_in b (blocks_of claim.blocks) ≡ count_in b taken + count_in b (blocks_of left)
    split b = ap (count_in b) parts ∙ count_append b taken (blocks_of left)

    joined : (b : ℕ) → count_in b all_taken ≡ in_run b + count_in b taken
    joined b = count_append b (blocks_of (run_list claim.run)) taken

    tested : (b : ℕ) → (is_in_list (run_list claim.run) b || nat_lt 0 (count_in b taken)) ≡ nat_lt 0 (in_run b + count_in b taken)
    tested b = by (is_in_list (run_list claim.run) b) (in_run b) (count_in b taken) (counted (run_list claim.run) (run_apart claim.run) b)
      where
        some : (n : ℕ) → true ≡ nat_lt 0 (1 + n)
        some n = grind (arith, nat_tests)

        plus : (k n : ℕ) → k ≡ 0 → n ≡ k + n
        plus k n e = omega (arith, e)

        by : (x : Bool) (k n : ℕ) → k ≡ one_if x → (x || nat_lt 0 n) ≡ nat_lt 0 (k + n)
        by true k n e = some n ∙ ap (λ (j : ℕ). nat_lt 0 (j + n)) (sym e)
        by false k n e = ap (nat_lt 0) (plus k n e)

    -- the run and what was taken of the blocks are reserved beside what was
    pub all_reserved : {after : Blocks} → after ≡ reserving (run_list claim.run) taken before → ReservesFree before after all_taken
    all_reserved {after} is = record {
      free = λ b l. reserves.free b (one_in (is_in_list (claimed claim) b) (let w = whole b in let s = split b in let j = joined b in omega (arith, w, s, j, l)));
      once = λ b. (let w = whole b in let s = split b in let j = joined b in let m = one_most (is_in_list (claimed claim) b) in omega (arith, w, s, j, m));
      now_is = is ∙ (λ i. changed (λ b s. if same b i then Reserved else s) before);
    }
      where
        same : (b : ℕ) → (is_in_list (run_list claim.run) b || nat_lt 0 (count_in b taken)) ≡ (is_in_list [] b || nat_lt 0 (count_in b all_taken))
        same b = tested b ∙ ap (nat_lt 0) (sym (joined b)) ∙ sym (ap (λ (x : Bool). x || nat_lt 0 (count_in b all_taken)) (in_list-none b))

    -- how often they are among what edits take
    pub counted_as : (tx : List Edit) → ((b : ℕ) → takes tx b ≡ one_if (is_in_list (run_list claim.run) b) + count_in b taken) → (b : ℕ) → takes tx b ≡ count_in b all_taken
    counted_as tx are b = let t = are b in let j = joined b in let r = counted (run_list claim.run) (run_apart claim.run) b in omega (arith, t, j, r)

-- ---- what is made of a claim

module _ (before now : Blocks) (draft : Draft) (claim : Claim) (claims : Claims before now (want_with (needs_run draft.site)) claim) (fresh : AreFresh before 8 (blocks_of claim.fresh)) where
  pub may_take : MayTake before draft.site claim.run claim.fresh
  may_take = record {
    run_is = claims.run;
    lowest = subst (λ (list : List Pxd). AreLowestBlocks (is_used (put_state Reserved (run_list claim.run) before)) list) (sym claims.all_left) claims.each.lowest;
    fresh = fresh;
    apart = λ b here. ap (λ (list : List Pxd). count_in b (blocks_of list)) claims.all_left ∙ run_aside before now claim claims.reserves b here;
  }

  module _ (left : List Pxd) (taken : List ℕ) (parts : blocks_of claim.fresh ≡ taken ++ blocks_of left) where
    pub partly : IsPartlyTaken before now (record claim { fresh = left }) taken
    partly = record { reserves = claims.reserves; parts = ap blocks_of (sym claims.all_left) ∙ parts }

    pub map_after : {after : Blocks} → (IsPartlyTaken before now (record claim { fresh = left }) taken → after ≡ reserving (run_list claim.run) taken before) → (all : List ℕ) × ReservesFree before after all
    map_after settled = (blocks_of (run_list claim.run) ++ taken, all_reserved before now claim claims.reserves taken left partly.parts (settled partly))

  module _ (blocks : ℕ) (pages : ℕ → List ℕ) (dir : Held) (name : List ℕ) (plan : Plan) (suits : SuitsRun draft.site claim.run) (planned : IsPlanned draft claim.run plan) where
    pub made_reserved : HasFree before (want_with (needs_run draft.site)) → (left : List Pxd) (tx : List Edit) (makes : Makes blocks pages dir name plan claim.fresh left tx) {after : Blocks}
        → (IsPartlyTaken before now (record claim { fresh = left }) makes.gains.edits.0 → after ≡ reserving (run_list claim.run) makes.gains.edits.0 before) → MakesReserved blocks pages dir name draft before after tx
    made_reserved wanted left tx makes settled =
        let took = makes.gains.edits.0 in
        let parts = partly left took makes.gains.edits.1 in
        record {
          run = claim.run;
          free = claim.fresh;
          left = left;
          may = may_take;
          plan = plan;
          planned = planned;
          makes = makes;
          wanted = wanted;
          reserves = (
            blocks_of (run_list claim.run) ++ took,
            counted_as before now claim claims.reserves took left parts.parts tx
                (λ b. edits_take blocks pages dir name plan claim.fresh left tx makes b ∙ ap (λ (n : ℕ). n + count_in b took) (run_there draft.site draft claim.run plan suits planned b)),
            all_reserved before now claim claims.reserves took left parts.parts (settled parts),
          );
        }

    pub not_made_by : (why : Refusal) → GainRefused blocks pages dir name (gain_of plan dir) claim.fresh why → (is_open why ≡ true) ⊎ LacksPlace blocks pages dir name draft before why
    not_made_by why refused = inr (record { run = claim.run; free = claim.fresh; may = may_take; plan = plan; planned = planned; refused = refused })
